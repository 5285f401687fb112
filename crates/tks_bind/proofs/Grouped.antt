-- Bindings by their tags and endings, where one is set or taken out.
use Rattle.std.specs.List.{filter, list_all}
use Rattle.std.proofs.Common.{◌≡◌, ℕ, zero, suc, ◌+◌, ◌==◌, Bool, true, false, cond, ◌&&◌, not, if◌then◌else◌, List, [], ◌∷◌, take, slice_get, Option, Some, None, arith, refl, sym, ap, subst, ◌∙◌}
use Rattle.std.proofs.lemmas.Bool.{and_from}
use Rattle.std.specs.Cmp.Lexicographic.{bytes_decides}
use Rattle.std.specs.FinMap as map
use Rattle.tks_share.specs.Names.{order}
use Rattle.tks_share.specs.Maps.{Map}
use Rattle.tks_text.proofs.Texts.{both}
use Rattle.tks_text.specs.Text.{same_text}
use Rattle.tks_event.specs.Equality.{equal_patterns}
use Rattle.tks_event.specs.declared.pattern.Pattern.{Pattern}
use Rattle.tks_event.proofs.Equal.{equal_so}
use Rattle.tks_bind.specs.declared.binding.Binding.{Binding}
use Rattle.tks_bind.specs.Distinct.{all_differ}
use Rattle.tks_bind.specs.WellFormed.{differ}
use Rattle.tks_bind.specs.Binding.{is_for, placed, without}
use Rattle.tks_bind.specs.Endings.{Key, same_ending, ending_of, is_found_by, is_under}
use Rattle.tks_bind.specs.Groups.{group_of, Groups}
use Rattle.tks_bind.proofs.Grouping.{no_groups}

-- what is of a tag and a sequence is found as these are
pub found_alike : (t : List ℕ) (e : Key) (tag : List ℕ) (q : List Pattern) (c : Binding) → is_for tag q c ≡ true → is_under t e c ≡ is_found_by t e tag q
found_alike t e tag q c h =
    let two = both (same_text c.tag tag) (equal_patterns c.sequence q) h in
    ap (λ x. is_found_by t e x c.sequence) ((bytes_decides c.tag tag).0 two.0) ∙ ap (λ x. is_found_by t e tag x) ((equal_so c.sequence q).0 two.1)

-- one that is set, among those of a tag and an ending
placed_under : (t : List ℕ) (e : Key) (b : Binding) (bs : List Binding)
    → filter (is_under t e) (placed b bs) ≡ (if is_under t e b then placed b (filter (is_under t e) bs) else filter (is_under t e) bs)
placed_under t e b [] = by (is_under t e b)
  where
    by : (v : Bool) → cond v (b ∷ []) [] ≡ (if v then b ∷ [] else [])
    by true = refl
    by false = refl
placed_under t e b (c ∷ bs) = by (is_for b.tag b.sequence c) refl (placed_under t e b bs)
  where
    at : is_for b.tag b.sequence c ≡ true → (v : Bool) → is_under t e b ≡ v → is_under t e c ≡ v
        → cond v (b ∷ filter (is_under t e) bs) (filter (is_under t e) bs) ≡ (if v then placed b (cond v (c ∷ filter (is_under t e) bs) (filter (is_under t e) bs)) else cond v (c ∷ filter (is_under t e) bs) (filter (is_under t e) bs))
    at same true k l = rw same refl
    at same false k l = refl

    further : is_for b.tag b.sequence c ≡ false → (v w : Bool)
        → filter (is_under t e) (placed b bs) ≡ (if v then placed b (filter (is_under t e) bs) else filter (is_under t e) bs)
        → cond w (c ∷ filter (is_under t e) (placed b bs)) (filter (is_under t e) (placed b bs)) ≡ (if v then placed b (cond w (c ∷ filter (is_under t e) bs) (filter (is_under t e) bs)) else cond w (c ∷ filter (is_under t e) bs) (filter (is_under t e) bs))
    further other true true rest = rw other (ap (λ l. c ∷ l) rest)
    further other true false rest = rest
    further other false true rest = ap (λ l. c ∷ l) rest
    further other false false rest = rest

    by : (v : Bool) → is_for b.tag b.sequence c ≡ v
        → filter (is_under t e) (placed b bs) ≡ (if is_under t e b then placed b (filter (is_under t e) bs) else filter (is_under t e) bs)
        → filter (is_under t e) (if v then b ∷ bs else c ∷ placed b bs) ≡ (if is_under t e b then placed b (filter (is_under t e) (c ∷ bs)) else filter (is_under t e) (c ∷ bs))
    by true same rest = let alike = found_alike t e b.tag b.sequence c same in rw alike (at same (is_under t e b) refl alike)
    by false other rest = further other (is_under t e b) (is_under t e c) rest

-- one that is taken out
taken_under : (t : List ℕ) (e : Key) (tag : List ℕ) (q : List Pattern) (bs : List Binding)
    → filter (is_under t e) (without tag q bs) ≡ (if is_found_by t e tag q then without tag q (filter (is_under t e) bs) else filter (is_under t e) bs)
taken_under t e tag q [] = by (is_found_by t e tag q)
  where
    by : (v : Bool) → ◌≡◌ {A = List Binding} [] (if v then [] else [])
    by true = refl
    by false = refl
taken_under t e tag q (c ∷ bs) = by (is_for tag q c) refl (taken_under t e tag q bs)
  where
    at : is_for tag q c ≡ true → (v : Bool)
        → filter (is_under t e) bs ≡ (if v then without tag q (cond v (c ∷ filter (is_under t e) bs) (filter (is_under t e) bs)) else cond v (c ∷ filter (is_under t e) bs) (filter (is_under t e) bs))
    at same true = rw same refl
    at same false = refl

    further : is_for tag q c ≡ false → (v w : Bool)
        → filter (is_under t e) (without tag q bs) ≡ (if v then without tag q (filter (is_under t e) bs) else filter (is_under t e) bs)
        → cond w (c ∷ filter (is_under t e) (without tag q bs)) (filter (is_under t e) (without tag q bs)) ≡ (if v then without tag q (cond w (c ∷ filter (is_under t e) bs) (filter (is_under t e) bs)) else cond w (c ∷ filter (is_under t e) bs) (filter (is_under t e) bs))
    further other true true rest = rw other (ap (λ l. c ∷ l) rest)
    further other true false rest = rest
    further other false true rest = ap (λ l. c ∷ l) rest
    further other false false rest = rest

    by : (v : Bool) → is_for tag q c ≡ v
        → filter (is_under t e) (without tag q bs) ≡ (if is_found_by t e tag q then without tag q (filter (is_under t e) bs) else filter (is_under t e) bs)
        → filter (is_under t e) (if v then bs else c ∷ without tag q bs) ≡ (if is_found_by t e tag q then without tag q (filter (is_under t e) (c ∷ bs)) else filter (is_under t e) (c ∷ bs))
    by true same rest = rw (found_alike t e tag q c same) (at same (is_found_by t e tag q))
    by false other rest = further other (is_found_by t e tag q) (is_under t e c) rest

-- ---- one of several that differ

-- none that differs from a binding is of its tag and sequence
pub other_one : (c b : Binding) → differ c b ≡ true → is_for b.tag b.sequence c ≡ false
other_one c b h = by (is_for b.tag b.sequence c) refl
  where
    by : (v : Bool) → is_for b.tag b.sequence c ≡ v → v ≡ false
    by true k =
        let two = both (same_text c.tag b.tag) (equal_patterns c.sequence b.sequence) k in
        let tags = (bytes_decides b.tag c.tag).1 (sym ((bytes_decides c.tag b.tag).0 two.0)) in
        let sequences = (equal_so b.sequence c.sequence).1 (sym ((equal_so c.sequence b.sequence).0 two.1)) in
        let same = and_from (same_text b.tag c.tag) (equal_patterns b.sequence c.sequence) tags sequences in
        let apart : not (is_for c.tag c.sequence b) ≡ true = (both (not (c.number == b.number)) (not (is_for c.tag c.sequence b)) h).1 in
        absurd (let g : false ≡ true = rw same at apart in cc)
    by false k = refl

pub itself : (b : Binding) → is_for b.tag b.sequence b ≡ true
itself b = and_from (same_text b.tag b.tag) (equal_patterns b.sequence b.sequence) ((bytes_decides b.tag b.tag).1 refl) ((equal_so b.sequence b.sequence).1 refl)

differs_at : (c : Binding) (bs : List Binding) (i : ℕ) (b : Binding) → list_all (differ c) bs ≡ true → slice_get bs i ≡ Some b → differ c b ≡ true
differs_at c [] i b h e = absurd (let g : ◌≡◌ {A = Option Binding} None (Some b) = e in cc)
differs_at c (d ∷ bs) zero b h e = let g : ◌≡◌ {A = Option Binding} (Some d) (Some b) = e in let same : d ≡ b = cc in subst (λ x. differ c x ≡ true) same (both (differ c d) (list_all (differ c) bs) h).0
differs_at c (d ∷ bs) (suc i) b h e = differs_at c bs i b (both (differ c d) (list_all (differ c) bs) h).1 e

-- the next one joins those before it
pub placed_next : (bs : List Binding) (i : ℕ) (b : Binding) → all_differ differ bs ≡ true → slice_get bs i ≡ Some b → placed b (take i bs) ≡ take (i + 1) bs
placed_next [] i b h e = absurd (let g : ◌≡◌ {A = Option Binding} None (Some b) = e in cc)
placed_next (c ∷ bs) zero b h e = let g : ◌≡◌ {A = Option Binding} (Some c) (Some b) = e in let same : c ≡ b = cc in ap (λ x. x ∷ []) (sym same)
placed_next (c ∷ bs) (suc i) b h e =
    let two = both (list_all (differ c) bs) (all_differ differ bs) h in
    let more : suc i + 1 ≡ suc (i + 1) = omega arith in
    rw (more, other_one c b (differs_at c bs i b two.0 e)) (ap (λ l. c ∷ l) (placed_next bs i b two.1 e))

kept_all : (test p : Binding → Bool) (bs : List Binding) → list_all test bs ≡ true → list_all test (filter p bs) ≡ true
kept_all test p [] h = refl
kept_all test p (c ∷ cs) h = by (p c) (both (test c) (list_all test cs) h) (kept_all test p cs)
  where
    by : (t : Bool) → (test c ≡ true) × (list_all test cs ≡ true) → (list_all test cs ≡ true → list_all test (filter p cs) ≡ true)
        → list_all test (cond t (c ∷ filter p cs) (filter p cs)) ≡ true
    by true h rest = and_from (test c) (list_all test (filter p cs)) h.0 (rest h.1)
    by false h rest = rest h.1

-- those that are left differ
pub differ_left : (p : Binding → Bool) (bs : List Binding) → all_differ differ bs ≡ true → all_differ differ (filter p bs) ≡ true
differ_left p [] h = refl
differ_left p (c ∷ cs) h = by (p c) (both (list_all (differ c) cs) (all_differ differ cs) h) (differ_left p cs)
  where
    by : (t : Bool) → (list_all (differ c) cs ≡ true) × (all_differ differ cs ≡ true) → (all_differ differ cs ≡ true → all_differ differ (filter p cs) ≡ true)
        → all_differ differ (cond t (c ∷ filter p cs) (filter p cs)) ≡ true
    by true h rest = and_from (list_all (differ c) (filter p cs)) (all_differ differ (filter p cs)) (kept_all (differ c) p cs h.0) (rest h.1)
    by false h rest = rest h.1

-- ---- the groups

pub none_grouped : Groups map.empty []
none_grouped t e = no_groups map.empty t e (map.get-empty order t)

same_found : (t tag : List ℕ) (e k : Key) → (same_text t tag && same_ending e k) ≡ true → (t ≡ tag) × (e ≡ k)
same_found t tag e k h =
    let two = both (same_text t tag) (same_ending e k) h in
    let ends = both (same_text e.kind k.kind) (same_text e.detail k.detail) two.1 in
    let kinds = (bytes_decides e.kind k.kind).0 ends.0 in
    let details = (bytes_decides e.detail k.detail).0 ends.1 in
    let whole : (x y : List ℕ) → x ≡ k.kind → y ≡ k.detail → ◌≡◌ {A = Key} (record { kind = x; detail = y }) k = λ x y f g. ap (λ z. record { kind = z; detail = y }) f ∙ ap (λ z. record { kind = k.kind; detail = z }) g in
    ((bytes_decides t tag).0 two.0, whole e.kind e.detail kinds details)

pub groups_placed : (m made : Map (Map (Map (List Binding)))) (b : Binding)
    → ((t : List ℕ) (e : Key) → group_of made t e ≡ (if same_text t b.tag && same_ending e (ending_of b.sequence) then placed b (group_of m b.tag (ending_of b.sequence)) else group_of m t e))
    → (bs : List Binding) → Groups m bs → Groups made (placed b bs)
groups_placed m made b told bs h t e = told t e ∙ (by (is_under t e b) refl ∙ sym (placed_under t e b bs))
  where
    by : (v : Bool) → is_under t e b ≡ v
        → (if v then placed b (group_of m b.tag (ending_of b.sequence)) else group_of m t e) ≡ (if v then placed b (filter (is_under t e) bs) else filter (is_under t e) bs)
    by true k =
        let same = same_found t b.tag e (ending_of b.sequence) k in
        ap (placed b) (h b.tag (ending_of b.sequence) ∙ (ap (λ x. filter (is_under x (ending_of b.sequence)) bs) (sym same.0) ∙ ap (λ x. filter (is_under t x) bs) (sym same.1)))
    by false k = h t e

pub groups_taken : (m made : Map (Map (Map (List Binding)))) (tag : List ℕ) (q : List Pattern)
    → ((t : List ℕ) (e : Key) → group_of made t e ≡ (if same_text t tag && same_ending e (ending_of q) then without tag q (group_of m tag (ending_of q)) else group_of m t e))
    → (bs : List Binding) → Groups m bs → Groups made (without tag q bs)
groups_taken m made tag q told bs h t e = told t e ∙ (by (is_found_by t e tag q) refl ∙ sym (taken_under t e tag q bs))
  where
    by : (v : Bool) → is_found_by t e tag q ≡ v
        → (if v then without tag q (group_of m tag (ending_of q)) else group_of m t e) ≡ (if v then without tag q (filter (is_under t e) bs) else filter (is_under t e) bs)
    by true k =
        let same = same_found t tag e (ending_of q) k in
        ap (without tag q) (h tag (ending_of q) ∙ (ap (λ x. filter (is_under x (ending_of q)) bs) (sym same.0) ∙ ap (λ x. filter (is_under t x) bs) (sym same.1)))
    by false k = h t e
