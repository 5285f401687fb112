-- The brace that closes the outer one, and texts whose braces match.
use Rattle.std.proofs.Common.{◌≡◌, ◌||◌, ◌==◌, ℕ, zero, suc, ◌+◌, Bool, true, false, List, [], ◌∷◌, ◌++◌, append_assoc, length, length-append, Option, Some, refl, sym, ap, ◌∙◌, subst, arith}
use Rattle.std.proofs.lemmas.Bool.{cond_both, eqb-true}
use Rattle.tks_list.specs.ListText.{is_brace_sign, Matched, nothing, plain, behind_backslash, braces}
use Rattle.tks_list.specs.Reading.{close_brace, onward, closing_brace}
use Rattle.tks_list.specs.declared.braces.Braces.{Braces}
use Rattle.tks_text.proofs.Tests.{neither}

abbrev state : ℕ → Bool → Braces
state held is_quoted = record { held = held; is_quoted = is_quoted }

-- no brace of a matched text closes the outer one
pub matched_passed : (e : List ℕ) → Matched e → (n h : ℕ) (w : List ℕ) → closing_brace n (state h false) (e ++ w) ≡ closing_brace (n + length e) (state h false) w
matched_passed _ nothing n h w = let same : n ≡ n + 0 = omega arith in ap (λ k. closing_brace k (state h false) w) same
matched_passed _ (plain c e p m) n h w =
    let a = neither ((c == 92) || (c == 123)) (c == 125) p in
    let b = neither (c == 92) (c == 123) a.0 in
    let more : n + 1 + length e ≡ n + suc (length e) = omega arith in
    rw (a.1, b.1, b.0) (matched_passed e m (n + 1) h w ∙ ap (λ k. closing_brace k (state h false) w) more)
matched_passed _ (behind_backslash c e m) n h w =
    let more : n + 1 + 1 + length e ≡ n + suc (suc (length e)) = omega arith in
    matched_passed e m (n + 1 + 1) h w ∙ ap (λ k. closing_brace k (state h false) w) more
matched_passed _ (braces d e m k) n h w =
    let one : h + 1 ≡ suc h = omega arith in
    let more : n + 1 + length d + 1 + length e ≡ n + suc (length (d ++ 125 ∷ e)) = omega (arith, length-append d (125 ∷ e)) in
    ap (closing_brace (n + 1) (state (h + 1) false)) (append_assoc d (125 ∷ e) w)
    ∙ matched_passed d m (n + 1) (h + 1) (125 ∷ (e ++ w))
    ∙ ap (λ i. closing_brace (n + 1 + length d) (state i false) (125 ∷ (e ++ w))) one
    ∙ matched_passed e k (n + 1 + length d + 1) h w
    ∙ ap (λ i. closing_brace i (state h false) w) more

-- so many matched texts with a closing brace behind each, and a last one
abbrev pub Closings : ℕ → List ℕ → Type 0
Closings zero e = Matched e
Closings (suc h) e = (d : List ℕ) × (f : List ℕ) × (e ≡ d ++ 125 ∷ f) × Matched d × Closings h f

matched_append : (d e : List ℕ) → Matched d → Matched e → Matched (d ++ e)
matched_append _ e nothing k = k
matched_append _ e (plain c d p m) k = plain c (d ++ e) p (matched_append d e m k)
matched_append _ e (behind_backslash c d m) k = behind_backslash c (d ++ e) (matched_append d e m k)
matched_append _ e (braces c d m o) k = subst (λ t. Matched (123 ∷ t)) (sym (append_assoc c (125 ∷ d) e)) (braces c (d ++ e) m (matched_append d e o k))

pub add_matched : (h : ℕ) (d e : List ℕ) → Matched d → Closings h e → Closings h (d ++ e)
add_matched zero d e m k = matched_append d e m k
add_matched (suc h) d e m k = (d ++ k.0, k.1, ap (λ t. d ++ t) k.2 ∙ sym (append_assoc d k.0 (125 ∷ k.1)), matched_append d k.0 m k.3, k.4)

pub add_open : (h : ℕ) (e : List ℕ) → Closings (suc h) e → Closings h (123 ∷ e)
add_open h e k =
    let w : (123 ∷ k.0 ++ 125 ∷ []) ++ k.1 ≡ 123 ∷ e = ap (λ t. 123 ∷ t) (append_assoc k.0 (125 ∷ []) k.1 ∙ sym k.2) in
    subst (Closings h) w (add_matched h (123 ∷ k.0 ++ 125 ∷ []) k.1 (braces k.0 [] k.3 nothing) k.4)

pub add_plain : (h c : ℕ) (e : List ℕ) → is_brace_sign c ≡ false → Closings h e → Closings h (c ∷ e)
add_plain h c e p k = add_matched h (c ∷ []) e (plain c [] p nothing) k

-- what was read up to the brace, where so many are open, and a backslash stands before it or not
abbrev pub UpTo : ℕ → Bool → List ℕ → Type 0
UpTo h false e = Closings h e
UpTo h true e = (c : ℕ) × (f : List ℕ) × (e ≡ c ∷ f) × Closings h f

pub record Found (n h : ℕ) (q : Bool) (t : List ℕ) (k : ℕ) : Type 0 where
  pub before : List ℕ
  pub behind : List ℕ
  pub whole : t ≡ before ++ 125 ∷ behind
  pub place : k ≡ n + length before
  pub matched : UpTo h q before

next : (n h : ℕ) (q : Bool) (c : ℕ) (t : List ℕ) (k i : ℕ) (r : Bool) → Found (n + 1) i r t k → ((e : List ℕ) → UpTo i r e → UpTo h q (c ∷ e)) → Found n h q (c ∷ t) k
next n h q c t k i r f up = record {
  before = c ∷ f.before;
  behind = f.behind;
  whole = ap (λ u. c ∷ u) f.whole;
  place = omega (arith, f.place);
  matched = up f.before f.matched;
}

closed : (n h c : ℕ) (t : List ℕ) (k : ℕ) → c ≡ 125 → onward n (close_brace h) (λ b. closing_brace (n + 1) b t) ≡ Some k
    → ((i : ℕ) → closing_brace (n + 1) (state i false) t ≡ Some k → Found (n + 1) i false t k) → Found n h false (c ∷ t) k
closed n zero c t k is e ih = record { before = []; behind = t; whole = ap (λ x. x ∷ t) is; place = let same : n ≡ k = cc in omega arith; matched = nothing }
closed n (suc h) c t k is e ih =
    next n (suc h) false c t k h false (ih h e) (λ d m. ([], d, ap (λ x. x ∷ d) is, nothing, m))

backslash_up : (h c : ℕ) (b : Bool) → c == 92 ≡ b → c == 123 ≡ false → c == 125 ≡ false → (e : List ℕ) → UpTo h b e → UpTo h false (c ∷ e)
backslash_up h c true q o s e m =
    let w : 92 ∷ m.0 ∷ m.1 ≡ c ∷ e = cc (eqb-true c 92 q, m.2) in
    subst (Closings h) w (add_matched h (92 ∷ m.0 ∷ []) m.1 (behind_backslash m.0 [] nothing) m.3)
backslash_up h c false q o s e m = add_plain h c e (rw (q, o, s) refl) m

pub found : (t : List ℕ) (n h : ℕ) (q : Bool) (k : ℕ) → closing_brace n (state h q) t ≡ Some k → Found n h q t k
found [] n h q k e = absurd cc
found (c ∷ t) n h true k e = next n h true c t k h false (found t (n + 1) h false k e) (λ d m. (c, d, refl, m))
found (c ∷ t) n h false k e =
    let one : h + 1 ≡ suc h = omega arith in
    let go : Braces → Option ℕ = λ b. closing_brace (n + 1) b t in
    cond_both (c == 125) (close_brace h) _ (λ o. onward n o go ≡ Some k → Found n h false (c ∷ t) k)
    (λ is v. closed n h c t k (eqb-true c 125 is) v (λ i. found t (n + 1) i false k))
    (λ s. cond_both (c == 123) (Some (state (h + 1) false)) (Some (state h (c == 92))) (λ o. onward n o go ≡ Some k → Found n h false (c ∷ t) k)
    (λ is v. next n h false c t k (h + 1) false (found t (n + 1) (h + 1) false k v)
    (λ d m. subst (λ x. Closings h (x ∷ d)) (sym (eqb-true c 123 is)) (add_open h d (subst (λ i. Closings i d) one m))))
    (λ o v. next n h false c t k h (c == 92) (found t (n + 1) h (c == 92) k v) (backslash_up h c (c == 92) refl o s))) e
