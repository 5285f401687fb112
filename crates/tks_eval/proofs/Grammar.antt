-- The words of an `if` are read as its grammar says.
use Rattle.std.proofs.Common.{◌≡◌, ℕ, Bool, true, false, ◌||◌, if◌then◌else◌, codes, List, [], ◌∷◌, ◌++◌, Option, Some, None, refl, sym, ap, subst, ◌∙◌, append_assoc}
use Rattle.std.specs.Cmp.Lexicographic.{bytes_decides}
use Rattle.std.proofs.lemmas.List.{append-nil}
use Rattle.tks_text.specs.Text.{same_text}
use Rattle.tks_eval.specs.Branches.{Test, Branches, is_keyword, with_test, with_last, Place, Condition, BehindCondition, Body, BehindBody, branches}
use Rattle.tks_eval.specs.Grammar.{TestThen, Behind, SpellsIf, ReadsIf}

neither : (a b c : Bool) → (a || b || c) ≡ false → (a ≡ false) × (b ≡ false) × (c ≡ false)
neither false false false h = (refl, refl, refl)
neither false false true h = absurd cc
neither false true c h = absurd cc
neither true b c h = absurd cc

-- a word that is no keyword is none of the three
no_keyword : (word : List ℕ) → is_keyword word ≡ false → (same_text word (codes "then") ≡ false) × (same_text word (codes "elseif") ≡ false) × (same_text word (codes "else") ≡ false)
no_keyword word h = neither (same_text word (codes "then")) (same_text word (codes "elseif")) (same_text word (codes "else")) h

-- ---- what is spelled so is read so

abbrev test_of : List ℕ → List ℕ → Test
test_of condition body = record { condition = condition; body = body }

-- one that is no keyword goes on
goes_on : {X : Type 0} (word : List ℕ) (other : Option X) → is_keyword word ≡ false → (if is_keyword word then None else other) ≡ other
goes_on word other h = ap (λ b. if b then None else other) h

test_read : (tests : List Test) (t : Test) (words rest : List (List ℕ)) → TestThen t words rest → branches Condition tests words ≡ branches BehindBody (tests ++ t ∷ []) rest
test_read tests _ _ _ (TestThen.plain c b rest hc hb) =
    let done : Option Branches = branches BehindBody (with_test tests c b) rest in
    goes_on c (branches (BehindCondition c) tests (b ∷ rest)) hc
    ∙ ap (λ x. if x then branches (Body c) tests rest else (if is_keyword b then None else done)) (no_keyword b hb).0
    ∙ goes_on b done hb
test_read tests _ _ _ (TestThen.with_then c b rest hc hb) =
    goes_on c (branches (BehindCondition c) tests (codes "then" ∷ b ∷ rest)) hc ∙ goes_on b (branches BehindBody (with_test tests c b) rest) hb

abbrev branches_of : List Test → Option (List ℕ) → Branches
branches_of tests otherwise = record { tests = tests; otherwise = otherwise }

behind_read : (tests others : List Test) (otherwise : Option (List ℕ)) (words : List (List ℕ)) → Behind others otherwise words → branches BehindBody tests words ≡ Some (branches_of (tests ++ others) otherwise)
behind_read tests _ _ _ Behind.nothing = ap (λ ts. Some (branches_of ts None)) (sym (append-nil tests))
behind_read tests _ _ _ (Behind.last b h) =
    let no = no_keyword b h in
    ap (λ x. if x then branches Condition tests [] else (if same_text b (codes "else") then with_last tests [] else with_last tests (b ∷ []))) no.1
    ∙ ap (λ x. if x then with_last tests [] else with_last tests (b ∷ [])) no.2
    ∙ goes_on b (Some (branches_of tests (Some b))) h
    ∙ ap (λ ts. Some (branches_of ts (Some b))) (sym (append-nil tests))
behind_read tests _ _ _ (Behind.else_last b h) = goes_on b (Some (branches_of tests (Some b))) h ∙ ap (λ ts. Some (branches_of ts (Some b))) (sym (append-nil tests))
behind_read tests _ _ _ (Behind.elseif t others otherwise words rest first behind) =
    test_read tests t words rest first ∙ behind_read (tests ++ t ∷ []) others otherwise rest behind ∙ ap (λ ts. Some (branches_of ts otherwise)) (append_assoc tests (t ∷ []) others)

read : (words : List (List ℕ)) (b : Branches) → SpellsIf words b → branches Condition [] words ≡ Some b
read words b h =
    test_read [] h.first words h.rest h.begins ∙ behind_read (h.first ∷ []) h.others b.otherwise h.rest h.behind
    ∙ ap (λ ts. Some (branches_of ts b.otherwise)) (sym h.tests)

-- ---- what is read is spelled so

-- what stands behind tests
pub record Rest (tests : List Test) (words : List (List ℕ)) (b : Branches) : Type 0 where
  pub others : List Test
  pub are : b.tests ≡ tests ++ others
  pub behind : Behind others b.otherwise words

-- a test behind these, and what stands behind it
pub record Next (tests : List Test) (words : List (List ℕ)) (b : Branches) : Type 0 where
  pub first : Test
  pub left : List (List ℕ)
  pub begins : TestThen first words left
  pub rest : Rest (tests ++ first ∷ []) left b

-- what was read at a place: the words of the test that is begun stand before those that are left
abbrev Told : Place → List Test → List (List ℕ) → Branches → Type 0
Told Condition tests words b = Next tests words b
Told (BehindCondition c) tests words b = Next tests (c ∷ words) b
Told (Body c) tests words b = Next tests (c ∷ codes "then" ∷ words) b
Told BehindBody tests words b = Rest tests words b

abbrev Begun : Place → Type 0
Begun Condition = Unit {0}
Begun (BehindCondition c) = is_keyword c ≡ false
Begun (Body c) = is_keyword c ≡ false
Begun BehindBody = Unit {0}

is_word : (word other : List ℕ) → same_text word other ≡ true → word ≡ other
is_word word other h = (bytes_decides word other).0 h

some_same : {X : Type 0} {x y : X} → Some x ≡ Some y → x ≡ y
some_same {x = x} e = ap (λ o. elim o as (λ _. _) [ None ↦ x | Some z ↦ z ]) e

last_told : (tests : List Test) (words : List (List ℕ)) (b : Branches) → with_last tests words ≡ Some b → (body : List ℕ) × (words ≡ body ∷ []) × (is_keyword body ≡ false) × (b ≡ branches_of tests (Some body))
last_told tests [] b e = absurd cc
last_told tests (body ∷ []) b e = by (is_keyword body) refl e
  where
    by : (k : Bool) → is_keyword body ≡ k → (if k then None else Some (branches_of tests (Some body))) ≡ Some b
        → (x : List ℕ) × (body ∷ [] ≡ x ∷ []) × (is_keyword x ≡ false) × (b ≡ branches_of tests (Some x))
    by true k h = absurd cc
    by false k h = (body, refl, k, sym (some_same h))
last_told tests (body ∷ word ∷ words) b e = absurd cc

-- the last body, and nothing behind it
ends : (tests : List Test) (front words : List (List ℕ)) (b : Branches) → ((body : List ℕ) → words ≡ body ∷ [] → is_keyword body ≡ false → Behind [] (Some body) front) → with_last tests words ≡ Some b → Rest tests front b
ends tests front words b spelled e =
    let h = last_told tests words b e in
    record {
      others = [];
      are = ap (λ (x : Branches). x.tests) h.3 ∙ sym (append-nil tests);
      behind = subst (λ (o : Option (List ℕ)). Behind [] o front) (sym (ap (λ (x : Branches). x.otherwise) h.3)) (spelled h.0 h.1 h.2);
    }

-- a further test behind `elseif`
further : (tests : List Test) (word : List ℕ) (words : List (List ℕ)) (b : Branches) → word ≡ codes "elseif" → Next tests words b → Rest tests (word ∷ words) b
further tests word words b e n = record {
  others = n.first ∷ n.rest.others;
  are = n.rest.are ∙ append_assoc tests (n.first ∷ []) n.rest.others;
  behind = subst (λ w. Behind (n.first ∷ n.rest.others) b.otherwise (w ∷ words)) (sym e) (Behind.elseif n.first n.rest.others b.otherwise words n.left n.begins n.rest.behind);
}

-- a body ends a test
whole : (tests : List Test) (c body : List ℕ) (front words : List (List ℕ)) (b : Branches) → TestThen (test_of c body) front words → Rest (with_test tests c body) words b → Next tests front b
whole tests c body front words b t rest = record { first = test_of c body; left = words; begins = t; rest = rest }

told : (place : Place) (tests : List Test) (words : List (List ℕ)) (b : Branches) → Begun place → branches place tests words ≡ Some b → Told place tests words b
told BehindBody tests [] b begun e = record {
  others = [];
  are = ap (λ (x : Branches). x.tests) (sym (some_same e)) ∙ sym (append-nil tests);
  behind = subst (λ (o : Option (List ℕ)). Behind [] o []) (ap (λ (x : Branches). x.otherwise) (some_same e)) Behind.nothing;
}
told Condition tests [] b begun e = absurd cc
told (BehindCondition c) tests [] b begun e = absurd cc
told (Body c) tests [] b begun e = absurd cc
told Condition tests (word ∷ words) b begun e = by (is_keyword word) refl e (told (BehindCondition word) tests words b)
  where
    by : (k : Bool) → is_keyword word ≡ k → (if k then None else branches (BehindCondition word) tests words) ≡ Some b
        → (is_keyword word ≡ false → branches (BehindCondition word) tests words ≡ Some b → Next tests (word ∷ words) b) → Next tests (word ∷ words) b
    by true k h rest = absurd cc
    by false k h rest = rest k h
told (BehindCondition c) tests (word ∷ words) b begun e =
    by (same_text word (codes "then")) refl (is_keyword word) refl e (told (Body c) tests words b begun) (told BehindBody (with_test tests c word) words b tt)
  where
    by : (x : Bool) → same_text word (codes "then") ≡ x → (k : Bool) → is_keyword word ≡ k
        → (if x then branches (Body c) tests words else (if k then None else branches BehindBody (with_test tests c word) words)) ≡ Some b
        → (branches (Body c) tests words ≡ Some b → Next tests (c ∷ codes "then" ∷ words) b)
        → (branches BehindBody (with_test tests c word) words ≡ Some b → Rest (with_test tests c word) words b) → Next tests (c ∷ word ∷ words) b
    by true is k kw h body rest = subst (λ w. Next tests (c ∷ w ∷ words) b) (sym (is_word word (codes "then") is)) (body h)
    by false is true kw h body rest = absurd cc
    by false is false kw h body rest = whole tests c word (c ∷ word ∷ words) words b (TestThen.plain c word words begun kw) (rest h)
told (Body c) tests (word ∷ words) b begun e = by (is_keyword word) refl e (told BehindBody (with_test tests c word) words b tt)
  where
    by : (k : Bool) → is_keyword word ≡ k → (if k then None else branches BehindBody (with_test tests c word) words) ≡ Some b
        → (branches BehindBody (with_test tests c word) words ≡ Some b → Rest (with_test tests c word) words b) → Next tests (c ∷ codes "then" ∷ word ∷ words) b
    by true k h rest = absurd cc
    by false k h rest = whole tests c word (c ∷ codes "then" ∷ word ∷ words) words b (TestThen.with_then c word words begun k) (rest h)
told BehindBody tests (word ∷ words) b begun e = by (same_text word (codes "elseif")) refl (same_text word (codes "else")) refl e (told Condition tests words b tt)
  where
    by : (x : Bool) → same_text word (codes "elseif") ≡ x → (y : Bool) → same_text word (codes "else") ≡ y
        → (if x then branches Condition tests words else (if y then with_last tests words else with_last tests (word ∷ words))) ≡ Some b
        → (branches Condition tests words ≡ Some b → Next tests words b) → Rest tests (word ∷ words) b
    by true is y ys h rest = further tests word words b (is_word word (codes "elseif") is) (rest h)
    by false is true ys h rest =
        ends tests (word ∷ words) words b
        (λ body one k. subst (λ ws. Behind [] (Some body) ws) (sym (let w : word ≡ codes "else" = is_word word (codes "else") ys in cc)) (Behind.else_last body k)) h
    by false is false ys h rest = ends tests (word ∷ words) (word ∷ words) b (λ body one k. subst (λ ws. Behind [] (Some body) ws) (sym one) (Behind.last body k)) h

spelled : (words : List (List ℕ)) (b : Branches) → branches Condition [] words ≡ Some b → SpellsIf words b
spelled words b e =
    let n = told Condition [] words b tt e in
    record { first = n.first; others = n.rest.others; rest = n.left; tests = n.rest.are; begins = n.begins; behind = n.rest.behind }

pub reads_if : ReadsIf
reads_if words b = (spelled words b, read words b)
