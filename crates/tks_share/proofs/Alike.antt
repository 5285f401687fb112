-- Names that are one for a map.
use Rattle.std.proofs.Common.{◌≡◌, ℕ, Bool, true, false, List, Ordering, Less, Equal, Greater, is_eq, refl, sym, ap, ◌∙◌, true≢false}
use Rattle.std.specs.Prelude.{nat_eq}
use Rattle.std.specs.Ordering.{eq_by_cmp}
use Rattle.std.specs.Cmp.Lexicographic.{pointwise, bytes_decides, nat_list_cmp_total}
use Rattle.std.specs.Cmp.{eq_by_cmp_equiv}
use Rattle.std.specs.FinMap as map
use Rattle.tks_share.specs.Names.{order}

-- two names are one for a map where they are the same bytes
pub names_alike : (q p : List ℕ) → eq_by_cmp order q p ≡ pointwise nat_eq q p
names_alike q p = by (eq_by_cmp order q p) (pointwise nat_eq q p) refl refl
  where
    equal : (r : Ordering) → is_eq r ≡ true → r ≡ Equal
    equal Less e = cc
    equal Equal e = refl
    equal Greater e = cc

    by : (a b : Bool) → eq_by_cmp order q p ≡ a → pointwise nat_eq q p ≡ b → a ≡ b
    by true true s t = refl
    by false false s t = refl
    by true false s t = absurd (true≢false (sym ((bytes_decides q p).1 (map.slice_cmp-IsAntisymmetric map.nat_cmp-IsAntisymmetric q p (equal _ s))) ∙ t))
    by false true s t =
        absurd (true≢false (sym ((eq_by_cmp_equiv nat_list_cmp_total).refl q) ∙ ap (λ x. eq_by_cmp order q x) ((bytes_decides q p).0 t) ∙ s))
