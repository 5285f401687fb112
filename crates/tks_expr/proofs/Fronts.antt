-- White space and operators at the front of a text: what is told of them, and what is read there.
use Rattle.std.proofs.Common.{◌≡◌, ℕ, suc, ◌≤◌, Bool, true, false, cond, eqb, List, [], ◌∷◌, ◌++◌, length, drop, Option, Some, None, refl, sym, ap, ◌∙◌, subst, arith, inl, inr}
use Rattle.std.specs.Prelude.{◌||◌, ◌&&◌, ◌⊎◌}
use Rattle.std.proofs.lemmas.Bool.{eqb-true, eq-eqb}
use Rattle.std.proofs.lemmas.List.{drop_at}
use Rattle.tks_text.specs.Integer.{is_space}
use Rattle.tks_text.specs.Text.{BeginsNot}
use Rattle.tks_parse.proofs.Tests.{if_case, and_cases, or_left, or_right}
use Rattle.tks_expr.specs.Expression.{NoSpace, StartsOperand, sign_of, written, is_word, Stands, JoinThen, NoJoin}
use Rattle.tks_expr.specs.Reading.{begins_line, begins_space, when, is_level}
use Rattle.tks_expr.specs.Sign.{level_of, is_letter, begins_letter, long_sign, word_sign, short_sign, long_join, short_join, join_at, unary_of}
use Rattle.tks_expr.specs.declared.operator.Unary.{Unary}
use Rattle.tks_expr.specs.declared.operator.Unary.TheVariants.{Minus, Plus, Complement, Not}
use Rattle.tks_expr.specs.declared.operator.Binary.{Binary}
use Rattle.tks_expr.specs.declared.operator.Binary.TheVariants.{Multiply, Divide, Remainder, Add, Subtract, ShiftLeft, ShiftRight, Less, Greater, AtMost, AtLeast, Equal, NotEqual, SameText, OtherText, BitAnd, BitXor, BitOr}
use Rattle.tks_expr.specs.declared.sign.Join.{Join}
use Rattle.tks_expr.specs.declared.sign.Join.TheVariants.{Of, And, Or}
use Rattle.tks_expr.proofs.Climbing.{when_some}

-- ---- white space

no_line_told : (u : List ℕ) → begins_line u ≡ false → BeginsNot (λ d. eqb d 10) u
no_line_told [] h = tt
no_line_told (d ∷ u) h = h

no_line_read : (u : List ℕ) → BeginsNot (λ d. eqb d 10) u → begins_line u ≡ false
no_line_read [] h = refl
no_line_read (d ∷ u) h = h

pub no_space_told : (t : List ℕ) → begins_space t ≡ false → NoSpace t
no_space_told [] e = tt
no_space_told (c ∷ u) e =
    let line : (eqb c 92 && begins_line u) ≡ false = or_right (is_space c) (eqb c 92 && begins_line u) e in
    (or_left (is_space c) (eqb c 92 && begins_line u) e, λ k. no_line_told u (sym (ap (λ b. b && begins_line u) (eq-eqb c 92 k)) ∙ line))

pub no_space_read : (t : List ℕ) → NoSpace t → begins_space t ≡ false
no_space_read [] h = refl
no_space_read (c ∷ u) h = ap (λ b. b || (eqb c 92 && begins_line u)) h.0 ∙ by (eqb c 92) refl
  where
    by : (b : Bool) → eqb c 92 ≡ b → (b && begins_line u) ≡ false
    by true e = no_line_read u (h.1 (eqb-true c 92 e))
    by false e = refl

-- ---- signs

-- a sign is no white space, and is read as one
pub sign_starts : (op : Unary) (u : List ℕ) → begins_space (sign_of op ∷ u) ≡ false
sign_starts Minus u = refl
sign_starts Plus u = refl
sign_starts Complement u = refl
sign_starts Not u = refl

pub sign_read : (op : Unary) → unary_of (sign_of op) ≡ Some op
sign_read Minus = refl
sign_read Plus = refl
sign_read Complement = refl
sign_read Not = refl

same_sign : (c : ℕ) (a b : Unary) → eqb c (sign_of a) ≡ true → Option.Some a ≡ Some b → c ≡ sign_of b
same_sign c a b k e = let same : a ≡ b = cc in eqb-true c (sign_of a) k ∙ ap sign_of same

pub sign_told : (c : ℕ) (op : Unary) → unary_of c ≡ Some op → c ≡ sign_of op
sign_told c op =
    let P : Option Unary → Type 0 = λ o. o ≡ Some op → c ≡ sign_of op in
    if_case P (eqb c 45) _ _ (same_sign c Minus op)
    (λ _. if_case P (eqb c 43) _ _ (same_sign c Plus op)
    (λ _. if_case P (eqb c 126) _ _ (same_sign c Complement op)
    (λ _. if_case P (eqb c 33) _ _ (same_sign c Not op)
    (λ _ e. absurd cc))))

pub start_told : (c : ℕ) (u : List ℕ) → begins_space (c ∷ u) ≡ false → unary_of c ≡ None → StartsOperand (c ∷ u)
start_told c u s e = (no_space_told (c ∷ u) s, λ op k. let both : None ≡ Some op = sym e ∙ ap unary_of k ∙ sign_read op in absurd cc)

pub no_sign_read : (c : ℕ) → ((op : Unary) → c ≡ sign_of op → ⊥) → unary_of c ≡ None
no_sign_read c h = by (unary_of c) refl
  where
    by : (o : Option Unary) → unary_of c ≡ o → o ≡ None
    by None e = refl
    by (Some op) e = absurd (h op (sign_told c op e))

-- ---- operators of two operands: what is told is read

no_letter_read : (v : List ℕ) → BeginsNot is_letter v → begins_letter v ≡ false
no_letter_read [] h = refl
no_letter_read (c ∷ v) h = h

no_letter_told : (v : List ℕ) → begins_letter v ≡ false → BeginsNot is_letter v
no_letter_told [] h = tt
no_letter_told (c ∷ v) h = h

-- an operator of two characters is read at the front, or one of one
abbrev Found : Join → List ℕ → Type 0
Found op t = ((long_join t ≡ Some op) × (length (written op) ≡ 2)) ⊎ ((short_join t ≡ Some op) × (length (written op) ≡ 1))

binary_found : (op : Binary) (v : List ℕ) → (is_word (Of op) ≡ true → BeginsNot is_letter v) → Found (Of op) (written (Of op) ++ v)
binary_found Multiply v h = inr (refl, refl)
binary_found Divide v h = inr (refl, refl)
binary_found Remainder v h = inr (refl, refl)
binary_found Add v h = inr (refl, refl)
binary_found Subtract v h = inr (refl, refl)
binary_found ShiftLeft v h = inl (refl, refl)
binary_found ShiftRight v h = inl (refl, refl)
binary_found Less v h = inr (refl, refl)
binary_found Greater v h = inr (refl, refl)
binary_found AtMost v h = inl (refl, refl)
binary_found AtLeast v h = inl (refl, refl)
binary_found Equal v h = inl (refl, refl)
binary_found NotEqual v h = inl (refl, refl)
binary_found SameText v h = inl (ap (λ (b : Bool). cond b None (Option.Some (Of SameText))) (no_letter_read v (h refl)), refl)
binary_found OtherText v h = inl (ap (λ (b : Bool). cond b None (Option.Some (Of OtherText))) (no_letter_read v (h refl)), refl)
binary_found BitAnd v h = inr (refl, refl)
binary_found BitXor v h = inr (refl, refl)
binary_found BitOr v h = inr (refl, refl)

found : (op : Join) (t v : List ℕ) → Stands op t v → Found op t
found (Of op) t v s = subst (Found (Of op)) (sym s.0) (binary_found op v s.1)
found And t v s = subst (Found And) (sym s.0) (inl (refl, refl))
found Or t v s = subst (Found Or) (sym s.0) (inl (refl, refl))

-- none is longer than two characters
at_most_two : (op : Join) (t : List ℕ) → Found op t → length (written op) ≤ 2
at_most_two op t (inl h) = omega (arith, h.1)
at_most_two op t (inr h) = omega (arith, h.1)

-- ---- what is read is told

-- c and d write an operator that is no word
abbrev Writes : ℕ → ℕ → Option Join → Type 0
Writes c d o = (op : Join) → o ≡ Some op → (written op ≡ c ∷ d ∷ []) × (is_word op ≡ false)

two_write : (a b c d : ℕ) (op : Join) → written op ≡ a ∷ b ∷ [] → is_word op ≡ false → (eqb c a && eqb d b) ≡ true → Writes c d (Some op)
two_write a b c d op w k e other same =
    let both = and_cases (eqb c a) (eqb d b) e in
    let is : op ≡ other = cc in (
      subst (λ o. written o ≡ c ∷ d ∷ []) is (w ∙ ap (λ x. x ∷ b ∷ []) (sym (eqb-true c a both.0)) ∙ ap (λ y. c ∷ y ∷ []) (sym (eqb-true d b both.1))),
      subst (λ o. is_word o ≡ false) is k,
    )

long_writes : (c d : ℕ) → Writes c d (long_sign c d)
long_writes c d =
    if_case (Writes c d) (eqb c 60 && eqb d 60) _ _ (two_write 60 60 c d (Of ShiftLeft) refl refl)
    (λ _. if_case (Writes c d) (eqb c 62 && eqb d 62) _ _ (two_write 62 62 c d (Of ShiftRight) refl refl)
    (λ _. if_case (Writes c d) (eqb c 60 && eqb d 61) _ _ (two_write 60 61 c d (Of AtMost) refl refl)
    (λ _. if_case (Writes c d) (eqb c 62 && eqb d 61) _ _ (two_write 62 61 c d (Of AtLeast) refl refl)
    (λ _. if_case (Writes c d) (eqb c 61 && eqb d 61) _ _ (two_write 61 61 c d (Of Equal) refl refl)
    (λ _. if_case (Writes c d) (eqb c 33 && eqb d 61) _ _ (two_write 33 61 c d (Of NotEqual) refl refl)
    (λ _. if_case (Writes c d) (eqb c 38 && eqb d 38) _ _ (two_write 38 38 c d And refl refl)
    (λ _. if_case (Writes c d) (eqb c 124 && eqb d 124) _ _ (two_write 124 124 c d Or refl refl)
    (λ _ op e. absurd cc))))))))

-- c and d write a word, before u
abbrev WritesWord : ℕ → ℕ → List ℕ → Option Join → Type 0
WritesWord c d u o = (op : Join) → o ≡ Some op → (written op ≡ c ∷ d ∷ []) × BeginsNot is_letter u

two_letters : (a b c d : ℕ) (u : List ℕ) (op : Join) → written op ≡ a ∷ b ∷ [] → begins_letter u ≡ false → (eqb c a && eqb d b) ≡ true → WritesWord c d u (Some op)
two_letters a b c d u op w k e other same =
    let both = and_cases (eqb c a) (eqb d b) e in
    let is : op ≡ other = cc in (
      subst (λ o. written o ≡ c ∷ d ∷ []) is (w ∙ ap (λ x. x ∷ b ∷ []) (sym (eqb-true c a both.0)) ∙ ap (λ y. c ∷ y ∷ []) (sym (eqb-true d b both.1))),
      no_letter_told u k,
    )

word_writes : (c d : ℕ) (u : List ℕ) → WritesWord c d u (word_sign c d u)
word_writes c d u =
    if_case (WritesWord c d u) (begins_letter u) _ _ (λ _ op e. absurd cc)
    (λ k. if_case (WritesWord c d u) (eqb c 101 && eqb d 113) _ _ (two_letters 101 113 c d u (Of SameText) refl k)
    (λ _. if_case (WritesWord c d u) (eqb c 110 && eqb d 101) _ _ (two_letters 110 101 c d u (Of OtherText) refl k)
    (λ _ op e. absurd cc)))

-- c writes an operator that is no word
abbrev WritesOne : ℕ → Option Join → Type 0
WritesOne c o = (op : Join) → o ≡ Some op → (written op ≡ c ∷ []) × (is_word op ≡ false)

one_writes : (a c : ℕ) (op : Join) → written op ≡ a ∷ [] → is_word op ≡ false → eqb c a ≡ true → WritesOne c (Some op)
one_writes a c op w k e other same =
    let is : op ≡ other = cc in (
      subst (λ o. written o ≡ c ∷ []) is (w ∙ ap (λ x. x ∷ []) (sym (eqb-true c a e))),
      subst (λ o. is_word o ≡ false) is k,
    )

short_writes : (c : ℕ) → WritesOne c (short_sign c)
short_writes c =
    if_case (WritesOne c) (eqb c 42) _ _ (one_writes 42 c (Of Multiply) refl refl)
    (λ _. if_case (WritesOne c) (eqb c 47) _ _ (one_writes 47 c (Of Divide) refl refl)
    (λ _. if_case (WritesOne c) (eqb c 37) _ _ (one_writes 37 c (Of Remainder) refl refl)
    (λ _. if_case (WritesOne c) (eqb c 43) _ _ (one_writes 43 c (Of Add) refl refl)
    (λ _. if_case (WritesOne c) (eqb c 45) _ _ (one_writes 45 c (Of Subtract) refl refl)
    (λ _. if_case (WritesOne c) (eqb c 60) _ _ (one_writes 60 c (Of Less) refl refl)
    (λ _. if_case (WritesOne c) (eqb c 62) _ _ (one_writes 62 c (Of Greater) refl refl)
    (λ _. if_case (WritesOne c) (eqb c 38) _ _ (one_writes 38 c (Of BitAnd) refl refl)
    (λ _. if_case (WritesOne c) (eqb c 94) _ _ (one_writes 94 c (Of BitXor) refl refl)
    (λ _. if_case (WritesOne c) (eqb c 124) _ _ (one_writes 124 c (Of BitOr) refl refl)
    (λ _ op e. absurd cc))))))))))

no_word : (op : Join) (v : List ℕ) → is_word op ≡ false → is_word op ≡ true → BeginsNot is_letter v
no_word op v e k = let both : true ≡ false = sym k ∙ e in absurd cc

long_told : (t : List ℕ) (op : Join) → long_join t ≡ Some op → (length (written op) ≡ 2) × Stands op t (drop 2 t)
long_told [] op e = absurd cc
long_told (c ∷ []) op e = absurd cc
long_told (c ∷ d ∷ u) op e = by (long_sign c d) refl e
  where
    by : (o : Option Join) → long_sign c d ≡ o → elim o as (λ _. Option Join) [ Some x ↦ Some x | None ↦ word_sign c d u ] ≡ Some op → (length (written op) ≡ 2) × Stands op (c ∷ d ∷ u) u
    by (Some x) k s = let is = long_writes c d op (k ∙ s) in (ap length is.0, (ap (λ w. w ++ u) (sym is.0), no_word op u is.1))
    by None k s = let is = word_writes c d u op s in (ap length is.0, (ap (λ w. w ++ u) (sym is.0), λ _. is.1))

short_told : (t : List ℕ) (op : Join) → short_join t ≡ Some op → (length (written op) ≡ 1) × Stands op t (drop 1 t)
short_told [] op e = absurd cc
short_told (c ∷ u) op e = let is = short_writes c op e in (ap length is.0, (ap (λ w. w ++ u) (sym is.0), no_word op u is.1))

-- ---- the longest one

pub join_none : join_at [] ≡ None
unfolding join_at
join_none = refl

-- the one that is read, and how many bytes it takes behind its first
abbrev join_by : Option Join → Option Join → Option (Join × ℕ)
join_by long short = elim long as (λ _. Option (Join × ℕ)) [ Some op ↦ Some (op, 1) | None ↦ elim short as (λ _. Option (Join × ℕ)) [ Some op ↦ Some (op, 0) | None ↦ None ] ]

join_is : (t : List ℕ) → join_at t ≡ join_by (long_join t) (short_join t)
unfolding join_at
join_is t = refl

long_longest : (op : Join) (t : List ℕ) → long_join t ≡ Some op → JoinThen op t (drop 2 t)
long_longest op t e =
    let is = long_told t op e in
    (is.1, λ other w s. omega (arith, is.0, at_most_two other t (found other t w s)))

one_long : (other op : Join) (t : List ℕ) → long_join t ≡ None → length (written op) ≡ 1 → Found other t → length (written other) ≤ length (written op)
one_long other op t none k (inl h) = let both : None ≡ Option.Some other = sym none ∙ h.0 in absurd cc
one_long other op t none k (inr h) = omega (arith, k, h.1)

short_longest : (op : Join) (t : List ℕ) → long_join t ≡ None → short_join t ≡ Some op → JoinThen op t (drop 1 t)
short_longest op t none e =
    let is = short_told t op e in
    (is.1, λ other w s. one_long other op t none is.0 (found other t w s))

pub join_told : (c : ℕ) (u : List ℕ) (x : Join × ℕ) → join_at (c ∷ u) ≡ Some x → JoinThen x.0 (c ∷ u) (drop x.1 u)
join_told c u x e = by (long_join (c ∷ u)) (short_join (c ∷ u)) refl refl (sym (join_is (c ∷ u)) ∙ e)
  where
    by : (a b : Option Join) → long_join (c ∷ u) ≡ a → short_join (c ∷ u) ≡ b → join_by a b ≡ Some x → JoinThen x.0 (c ∷ u) (drop x.1 u)
    by (Some op) b k l s = let is : (op, 1) ≡ x = cc in subst (λ (y : Join × ℕ). JoinThen y.0 (c ∷ u) (drop y.1 u)) is (long_longest op (c ∷ u) k)
    by None (Some op) k l s = let is : (op, 0) ≡ x = cc in subst (λ (y : Join × ℕ). JoinThen y.0 (c ∷ u) (drop y.1 u)) is (short_longest op (c ∷ u) k l)
    by None None k l s = absurd cc

-- an operator that is read at the front of t, where v is left behind it
abbrev pub JoinAt : Join → List ℕ → List ℕ → Type 0
JoinAt op [] v = ⊥
JoinAt op (c ∷ u) v = (n : ℕ) × (join_at (c ∷ u) ≡ Some (op, n)) × (drop n u ≡ v)

none_found : (op : Join) → Found op [] → ⊥
none_found op (inl h) = absurd cc
none_found op (inr h) = absurd cc

pub join_read : (op : Join) (t v : List ℕ) → JoinThen op t v → JoinAt op t v
join_read op [] v j = none_found op (found op [] v j.0)
join_read op (c ∷ u) v j = by (found op (c ∷ u) v j.0)
  where
    rest : (n : ℕ) → length (written op) ≡ suc n → drop n u ≡ v
    rest n k = ap (drop (suc n)) j.0.0 ∙ drop_at (written op) v (suc n) k

    none : (o : Option Join) → long_join (c ∷ u) ≡ o → length (written op) ≡ 1 → o ≡ None
    none None e k = refl
    none (Some other) e k = let is = long_told (c ∷ u) other e in absurd (omega (arith, k, is.0, j.1 other (drop 2 (c ∷ u)) is.1))

    by : Found op (c ∷ u) → JoinAt op (c ∷ u) v
    by (inl h) = (1, join_is (c ∷ u) ∙ ap (λ o. join_by o (short_join (c ∷ u))) h.0, rest 1 h.1)
    by (inr h) = (0, join_is (c ∷ u) ∙ ap (λ o. join_by o (short_join (c ∷ u))) (none (long_join (c ∷ u)) refl h.1) ∙ ap (λ o. join_by None o) h.0, rest 0 h.1)

-- ---- operators of a level

pub no_join_told : (n : ℕ) (t : List ℕ) → when (is_level n) (join_at t) ≡ None → NoJoin n t
no_join_told n [] e = λ op v j l. join_read op [] v j
no_join_told n (c ∷ u) e = λ op v j l.
    let at = join_read op (c ∷ u) v j in
    let some = when_some (is_level n) (c ∷ u) (op, at.0) at.1 (eq-eqb (level_of op) n l) in
    let both : None ≡ Option.Some (op, at.0) = sym e ∙ some in
    absurd cc

taken_none : (n c : ℕ) (u : List ℕ) → NoJoin n (c ∷ u) → (x : Join × ℕ) → join_at (c ∷ u) ≡ Some x → (b : Bool) → is_level n x.0 ≡ b → cond b (Option.Some x) None ≡ None
taken_none n c u h x e true k = absurd (h x.0 (drop x.1 u) (join_told c u x e) (eqb-true (level_of x.0) n k))
taken_none n c u h x e false k = refl

pub no_join_read : (n : ℕ) (t : List ℕ) → NoJoin n t → when (is_level n) (join_at t) ≡ None
no_join_read n [] h = ap (when (is_level n)) join_none
no_join_read n (c ∷ u) h = by (join_at (c ∷ u)) refl
  where
    by : (o : Option (Join × ℕ)) → join_at (c ∷ u) ≡ o → when (is_level n) o ≡ None
    by None e = refl
    by (Some x) e = taken_none n c u h x e (is_level n x.0) refl
