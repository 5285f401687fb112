-- Patterns in the opposite order.
use Rattle.std.proofs.Common.{◌≡◌, ◌+◌, ◌-◌, ◌<◌, ℕ, zero, suc, List, [], ◌∷◌, take, length, get_or, slice_get, Option, Some, None, ap, sym, subst, arith}
use Rattle.tks_event.specs.Sequences.{is_some_text}
use Rattle.tks_event.specs.Kinds.{kind_name}
use Rattle.tks_event.specs.declared.pattern.Pattern.{Pattern}
use Rattle.tks_bind.specs.Occurs.{turned}
use Rattle.tks_bind.specs.Endings.{first_ending, last_ending}
use Rattle.tks_bind.specs.Choice.{has_detail, last_has_detail}

-- one more of the first ones comes first
pub turned_take : (ps : List Pattern) (i : ℕ) (p : Pattern) (done : List Pattern) → i < length ps → p ≡ get_or ps i p
    → turned (take (i + 1) ps) done ≡ p ∷ turned (take i ps) done
turned_take [] i p done h e = absurd (omega arith)
turned_take (q ∷ ps) zero p done h e = ap (λ x. x ∷ done) (sym e)
turned_take (q ∷ ps) (suc i) p done h e = let more : suc i + 1 ≡ suc (i + 1) = omega arith in rw more (turned_take ps i p (q ∷ done) (omega arith) e)

turned_last : (ps : List Pattern) (done : List Pattern) (p : Pattern) → slice_get ps (length ps - 1) ≡ Some p → (rest : List Pattern) × (turned ps done ≡ p ∷ rest)
turned_last [] done p h = absurd (let g : ◌≡◌ {A = Option Pattern} None (Some p) = h in cc)
turned_last (q ∷ []) done p h = let g : ◌≡◌ {A = Option Pattern} (Some q) (Some p) = h in let same : q ≡ p = cc in (done, ap (λ x. x ∷ done) same)
turned_last (q ∷ r ∷ ps) done p h =
    let less : suc (suc (length ps)) - 1 ≡ suc (length ps) = omega arith in
    let least : suc (length ps) - 1 ≡ length ps = omega arith in
    let there : slice_get (r ∷ ps) (length ps) ≡ Some p = subst (λ n. slice_get (q ∷ r ∷ ps) n ≡ Some p) less h in
    turned_last (r ∷ ps) (q ∷ done) p (subst (λ n. slice_get (r ∷ ps) n ≡ Some p) (sym least) there)

pub last_told : (ps : List Pattern) (p : Pattern) → slice_get ps (length ps - 1) ≡ Some p → last_has_detail ps ≡ is_some_text p.detail
last_told ps p h = let t = turned_last ps [] p h in ap has_detail t.1

pub ending_told : (ps : List Pattern) (p : Pattern) → slice_get ps (length ps - 1) ≡ Some p → last_ending ps ≡ record { kind = kind_name p.kind; detail = p.detail }
ending_told ps p h = let t = turned_last ps [] p h in ap first_ending t.1
