-- A map with a few entries put in behind it: what a change of these, or of the map, makes of the whole.
use Rattle.std.proofs.Common.{◌≡◌, ◌≢◌, ◌<◌, ◌≤◌, ℕ, zero, suc, ◌+◌, ◌-◌, Bool, true, false, not, cond, if◌then◌else◌, nat_lt, List, [], ◌∷◌, ◌++◌, length, set, get_or, Option, Some, None, is_some, position, refl, sym, subst, ap, ◌∙◌, true≢false, arith}
use Rattle.std.specs.Prelude.{filter, IfSome, IfNone}
use Rattle.std.specs.List.{prefix_len}
use mathlib.Core.Logic.{inl, inr}
use Rattle.std.specs.FinMap as fin
use Rattle.std.specs.Cmp.Lexicographic as texts
use Rattle.std.specs.Cmp.Lexicographic.{nat_list_cmp_total, texts_ties}
use Rattle.std.proofs.lemmas.Bool.Decides.{nat_tests}
use Rattle.std.proofs.lemmas.Cmp.{eq_by_cmp_equiv}
use Rattle.std.proofs.lemmas.List.Quantifiers.{position-Some}
use Rattle.std.proofs.lemmas.Option.{slice_get-get_or}
use Rattle.tks_text.specs.Text.{same_text}
use Rattle.tks_share.specs.Maps.{IsChangedIn}
use Rattle.tks_vars.specs.Table.{Map}
use Rattle.tks_vars.specs.Few.{put_behind, AreApart, IsChangedAt, Lacks}
use Rattle.tks_vars.proofs.Entries.{order, put_last}
use Rattle.tks_vars.proofs.Keeping.{same_or_other, put_here, put_elsewhere, taken_here, taken_elsewhere}

-- ---- two changes of a map, one after the other

module _ {V : Type 0} where
  same_everywhere : (m n : Map V) → ((q : List ℕ) → fin.get m q ≡ fin.get n q) → m ≡ n
  same_everywhere m n = fin.same_map nat_list_cmp_total (fin.slice_cmp-IsAntisymmetric fin.nat_cmp-IsAntisymmetric) m n

  -- what is put under another name may as well be put first
  swapped : (m : Map V) (x k : List ℕ) (a v : V) → x ≢ k → fin.insert (fin.insert m k v) x a ≡ fin.insert (fin.insert m x a) k v
  swapped m x k a v other = same_everywhere _ _ (λ q.
      elim (same_or_other q x) as (λ _. fin.get (fin.insert (fin.insert m k v) x a) q ≡ fin.get (fin.insert (fin.insert m x a) k v) q) [
        | inl same ↦ subst (λ q. fin.get (fin.insert (fin.insert m k v) x a) q ≡ fin.get (fin.insert (fin.insert m x a) k v) q) (sym same)
            (put_here (fin.insert m k v) x a ∙ sym (put_elsewhere (fin.insert m x a) k v x other ∙ put_here m x a))
        | inr apart ↦ put_elsewhere (fin.insert m k v) x a q apart ∙ elim (same_or_other q k) as (λ _. fin.get (fin.insert m k v) q ≡ fin.get (fin.insert (fin.insert m x a) k v) q) [
          | inl same ↦ subst (λ q. fin.get (fin.insert m k v) q ≡ fin.get (fin.insert (fin.insert m x a) k v) q) (sym same)
              (put_here m k v ∙ sym (put_here (fin.insert m x a) k v))
          | inr away ↦ put_elsewhere m k v q away ∙ sym (put_elsewhere (fin.insert m x a) k v q away ∙ put_elsewhere m x a q apart)
        ]
      ])

  -- of two values under one name the second stays
  put_again : (m : Map V) (k : List ℕ) (a v : V) → fin.insert m k v ≡ fin.insert (fin.insert m k a) k v
  put_again m k a v = same_everywhere _ _ (λ q.
      elim (same_or_other q k) as (λ _. fin.get (fin.insert m k v) q ≡ fin.get (fin.insert (fin.insert m k a) k v) q) [
        | inl same ↦ subst (λ q. fin.get (fin.insert m k v) q ≡ fin.get (fin.insert (fin.insert m k a) k v) q) (sym same)
            (put_here m k v ∙ sym (put_here (fin.insert m k a) k v))
        | inr apart ↦ put_elsewhere m k v q apart ∙ sym (put_elsewhere (fin.insert m k a) k v q apart ∙ put_elsewhere m k a q apart)
      ])

  -- what is put in and taken out was never there
  put_and_taken : (m : Map V) (k : List ℕ) (a : V) → fin.remove m k ≡ fin.remove (fin.insert m k a) k
  put_and_taken m k a = same_everywhere _ _ (λ q.
      elim (same_or_other q k) as (λ _. fin.get (fin.remove m k) q ≡ fin.get (fin.remove (fin.insert m k a) k) q) [
        | inl same ↦ subst (λ q. fin.get (fin.remove m k) q ≡ fin.get (fin.remove (fin.insert m k a) k) q) (sym same)
            (taken_here m k ∙ sym (taken_here (fin.insert m k a) k))
        | inr apart ↦ taken_elsewhere m k q apart ∙ sym (taken_elsewhere (fin.insert m k a) k q apart ∙ put_elsewhere m k a q apart)
      ])

  -- another name may as well be taken out first
  taken_first : (m : Map V) (x k : List ℕ) (a : V) → x ≢ k → fin.insert (fin.remove m k) x a ≡ fin.remove (fin.insert m x a) k
  taken_first m x k a other = same_everywhere _ _ (λ q.
      elim (same_or_other q x) as (λ _. fin.get (fin.insert (fin.remove m k) x a) q ≡ fin.get (fin.remove (fin.insert m x a) k) q) [
        | inl same ↦ subst (λ q. fin.get (fin.insert (fin.remove m k) x a) q ≡ fin.get (fin.remove (fin.insert m x a) k) q) (sym same)
            (put_here (fin.remove m k) x a ∙ sym (taken_elsewhere (fin.insert m x a) k x other ∙ put_here m x a))
        | inr apart ↦ put_elsewhere (fin.remove m k) x a q apart ∙ elim (same_or_other q k) as (λ _. fin.get (fin.remove m k) q ≡ fin.get (fin.remove (fin.insert m x a) k) q) [
          | inl same ↦ subst (λ q. fin.get (fin.remove m k) q ≡ fin.get (fin.remove (fin.insert m x a) k) q) (sym same)
              (taken_here m k ∙ sym (taken_here (fin.insert m x a) k))
          | inr away ↦ taken_elsewhere m k q away ∙ sym (taken_elsewhere (fin.insert m x a) k q away ∙ put_elsewhere m x a q apart)
        ]
      ])

  -- what isn't there isn't taken out
  pub not_there : (m : Map V) (k : List ℕ) → fin.contains_key m k ≡ false → m ≡ fin.remove m k
  not_there m k out = same_everywhere _ _ (λ q.
      elim (same_or_other q k) as (λ _. fin.get m q ≡ fin.get (fin.remove m k) q) [
        | inl same ↦ subst (λ q. fin.get m q ≡ fin.get (fin.remove m k) q) (sym same) (none (fin.get m k) out ∙ sym (taken_here m k))
        | inr apart ↦ sym (taken_elsewhere m k q apart)
      ])
    where
      none : (o : Option V) → is_some o ≡ false → o ≡ None
      none None e = refl
      none (Some v) e = absurd (true≢false e)

  -- ---- how many names there are

  pub len_there : (m : Map V) (k : List ℕ) (v : V) → fin.contains_key m k ≡ true → fin.len m ≡ fin.len (fin.insert m k v)
  len_there m k v e = sym (fin.len-insert nat_list_cmp_total m k v ∙ ap (λ b. cond b (fin.len m) (fin.len m + 1)) e)

  pub len_taken : (m : Map V) (k : List ℕ) → fin.contains_key m k ≡ true → fin.len m - 1 ≡ fin.len (fin.remove m k)
  len_taken m k e = sym (fin.len-remove nat_list_cmp_total m k ∙ ap (λ b. cond b (fin.len m - 1) (fin.len m)) e)

  -- a change where it stands leaves as many
  pub len_changed : {A : Type 0} (gives : V → V → A → Type 0) (k : List ℕ) (m new : Map V) (answer : A) → IsChangedIn gives k m new answer → fin.len m ≡ fin.len new
  len_changed gives k m new answer c = len_there m k c.after (ap is_some c.found) ∙ ap fin.len (sym c.now)

-- what holds of an answer that is there, where another thing does
pub through : {A : Type 0} (P Q : A → Type 0) (o : Option A) → ((a : A) → P a → Q a) → IfSome o P → IfSome o Q
through P Q None f h = tt
through P Q (Some a) f h = f a h

-- a change of a value that may be there leaves as many names
pub len_kept : {V A : Type 0} (gives : V → V → A → Type 0) (k : List ℕ) (m new : Map V) (o : Option A) → IfSome o (λ answer. IsChangedIn gives k m new answer) → IfNone o (new ≡ m) → fin.len m ≡ fin.len new
len_kept gives k m new (Some answer) some none = len_changed gives k m new answer some
len_kept gives k m new None some none = ap fin.len (sym none)

pub none_through : {A P Q : Type 0} (o : Option A) → (P → Q) → IfNone o P → IfNone o Q
none_through None f h = f h
none_through (Some a) f h = tt

-- ---- a name among the entries

absent : (a b : ℕ) → cond (nat_lt a b) (Some a) None ≡ None → b ≤ a
absent a b e = grind (arith, nat_tests)

module _ (k : List ℕ) where
  itself : (x : List ℕ) → same_text x k ≡ true → x ≡ k
  itself x e = texts.same_text x k (sym e)

  another : (x : List ℕ) → same_text x k ≡ false → x ≢ k
  another x e same =
      true≢false (sym (texts_ties k k ∙ (eq_by_cmp_equiv nat_list_cmp_total).refl k) ∙ subst (λ x. same_text x k ≡ false) same e)

-- where there is no name, no two are the same
pub none_apart : (V : Type 0) → AreApart {V = V} []
none_apart V = sym (fin.len-empty order V)

module _ {V : Type 0} (k : List ℕ) where
  abbrev pub is : List ℕ × V → Bool
  is e = same_text e.0 k

  -- the first entry of the name is the one at i
  abbrev First : List (List ℕ × V) → ℕ → List ℕ × V → Type 0
  First es i d = (i < length es) × (is (get_or es i d) ≡ true) × ((n : ℕ) → n < i → is (get_or es n d) ≡ false)

  behind : (e : List ℕ × V) (es : List (List ℕ × V)) (i : ℕ) (d : List ℕ × V) → First (e ∷ es) (suc i) d → First es i d
  behind e es i d h = (omega (arith, h.0), h.1, λ n l. h.2 (suc n) (omega (arith, l)))

  first_other : (e : List ℕ × V) (es : List (List ℕ × V)) (i : ℕ) (d : List ℕ × V) → First (e ∷ es) (suc i) d → e.0 ≢ k
  first_other e es i d h = another k e.0 (h.2 0 (omega arith))

  found_first : (m : Map V) (es : List (List ℕ × V)) (i : ℕ) (d : List ℕ × V) → First es i d → fin.get (put_behind m es) k ≡ Some (get_or es i d).1
  found_first m [] i d h = absurd (omega (arith, h.0))
  found_first m (e ∷ es) zero d h =
      subst (λ q. fin.get (fin.insert (put_behind m es) e.0 e.1) q ≡ Some e.1) (itself k e.0 h.1) (put_here (put_behind m es) e.0 e.1)
  found_first m (e ∷ es) (suc i) d h =
      put_elsewhere (put_behind m es) e.0 e.1 k (λ same. first_other e es i d h (sym same)) ∙ found_first m es i d (behind e es i d h)

  set_first : (m : Map V) (v : V) (es : List (List ℕ × V)) (i : ℕ) (d : List ℕ × V) → First es i d → put_behind m (set es i (k, v)) ≡ fin.insert (put_behind m es) k v
  set_first m v [] i d h = absurd (omega (arith, h.0))
  set_first m v (e ∷ es) zero d h =
      put_again (put_behind m es) k e.1 v ∙ ap (λ x. fin.insert (fin.insert (put_behind m es) x e.1) k v) (sym (itself k e.0 h.1))
  set_first m v (e ∷ es) (suc i) d h =
      ap (λ n. fin.insert n e.0 e.1) (set_first m v es i d (behind e es i d h)) ∙ swapped (put_behind m es) e.0 k e.1 v (first_other e es i d h)

  -- what is found at the place is what the whole has
  pub found_at : (m : Map V) (es : List (List ℕ × V)) (i : ℕ) (d : List ℕ × V) → position is es ≡ Some i → fin.get (put_behind m es) k ≡ Some (get_or es i d).1
  found_at m es i d e = found_first m es i d (position-Some is es i d e)

  -- what is put there is put into the whole
  pub set_at : (m : Map V) (v : V) (es : List (List ℕ × V)) (i : ℕ) → position is es ≡ Some i → put_behind m (set es i (k, v)) ≡ fin.insert (put_behind m es) k v
  set_at m v [] i e = absurd (true≢false (ap is_some (sym e)))
  set_at m v (x ∷ es) i e = set_first m v (x ∷ es) i x (position-Some is (x ∷ es) i x e)

  -- and a change there is one of the whole
  pub changed_at : {A : Type 0} (gives : V → V → A → Type 0) (m : Map V) (es new : List (List ℕ × V)) (i : ℕ) (answer : A) → position is es ≡ Some i
      → IsChangedAt gives i es new answer → IsChangedIn gives k (put_behind m es) (put_behind m new) answer
  changed_at gives m es new i answer e c =
      let first : First es i (c.name, c.before) = position-Some is es i (c.name, c.before) e in
      let there : Some (get_or es i (c.name, c.before)) ≡ Some (c.name, c.before) = sym (slice_get-get_or es i (c.name, c.before) first.0) ∙ c.found in
      let at : get_or es i (c.name, c.before) ≡ (c.name, c.before) = cc in
      let name : c.name ≡ k = sym (ap (λ x. x.0) at) ∙ itself k _ first.1 in
      record {
        before = c.before;
        after = c.after;
        found = found_first m es i (c.name, c.before) first ∙ ap (λ x. Some x.1) at;
        given = c.given;
        now = ap (put_behind m) (c.now ∙ ap (λ n. set es i (n, c.after)) name) ∙ set_at m c.after es i e;
      }

  -- ---- no entry has the name

  abbrev Others : List (List ℕ × V) → ℕ
  Others es = prefix_len (λ e. not (is e)) es

  lacks_all : (es : List (List ℕ × V)) → length es ≤ Others es → Lacks k es
  lacks_all [] h = tt
  lacks_all (e ∷ es) h =
      let P : Bool → Type 0 = λ b. is e ≡ b → (1 + length es ≤ cond (not b) (1 + Others es) 0) → Lacks k (e ∷ es) in
      elim (is e) as P [
        | true ↦ λ same (h : 1 + length es ≤ 0). absurd (omega arith)
        | false ↦ λ other (h : 1 + length es ≤ 1 + Others es). (another k e.0 other, lacks_all es (omega arith))
      ] refl (omega arith)

  pub lacks : (es : List (List ℕ × V)) → position is es ≡ None → Lacks k es
  lacks es e = lacks_all es (absent _ _ e)

  -- the whole has what the map has
  pub found_behind : (m : Map V) (es : List (List ℕ × V)) → Lacks k es → fin.get (put_behind m es) k ≡ fin.get m k
  found_behind m [] h = refl
  found_behind m (e ∷ es) h = put_elsewhere (put_behind m es) e.0 e.1 k (λ same. h.0 (sym same)) ∙ found_behind m es h.1

  -- what is put into the map is put into the whole
  pub put_before : (m : Map V) (v : V) (es : List (List ℕ × V)) → Lacks k es → put_behind (fin.insert m k v) es ≡ fin.insert (put_behind m es) k v
  put_before m v [] h = refl
  put_before m v (e ∷ es) h = ap (λ n. fin.insert n e.0 e.1) (put_before m v es h.1) ∙ swapped (put_behind m es) e.0 k e.1 v h.0

  -- a change in the map is one of the whole
  pub changed_behind : {A : Type 0} (gives : V → V → A → Type 0) (m new : Map V) (es : List (List ℕ × V)) (answer : A) → Lacks k es
      → IsChangedIn gives k m new answer → IsChangedIn gives k (put_behind m es) (put_behind new es) answer
  changed_behind gives m new es answer h c = record {
    before = c.before;
    after = c.after;
    found = found_behind m es h ∙ c.found;
    given = c.given;
    now = ap (λ n. put_behind n es) c.now ∙ put_before m c.after es h;
  }

  -- and so is what is added to the entries
  pub put_at_end : (m : Map V) (v : V) (es : List (List ℕ × V)) → Lacks k es → put_behind m (es ++ (k, v) ∷ []) ≡ fin.insert (put_behind m es) k v
  put_at_end m v es h = put_last m es (k, v) ∙ put_before m v es h

  -- ---- wherever the name is

  there : (m : Map V) (es : List (List ℕ × V)) (i : ℕ) → position is es ≡ Some i → fin.contains_key (put_behind m es) k ≡ true
  there m [] i e = absurd (true≢false (ap is_some (sym e)))
  there m (x ∷ es) i e = ap is_some (found_at m (x ∷ es) i x e)

  -- how many names the whole has then, by the entries' place or by the map
  pub len_at : (m : Map V) (v : V) (es : List (List ℕ × V)) (i : ℕ) → position is es ≡ Some i → fin.len (put_behind m es) ≡ fin.len (fin.insert (put_behind m es) k v)
  len_at m v es i e = len_there (put_behind m es) k v (there m es i e)

  pub len_behind : (m : Map V) (v : V) (es : List (List ℕ × V)) → Lacks k es
      → (if fin.contains_key m k then fin.len (put_behind m es) else fin.len (put_behind m es) + 1) ≡ fin.len (fin.insert (put_behind m es) k v)
  len_behind m v es h =
      let whole = put_behind m es in
      ap (λ o. if is_some o then fin.len whole else fin.len whole + 1) (sym (found_behind m es h)) ∙ sym (fin.len-insert nat_list_cmp_total whole k v)

  -- an entry of a name that the others don't have joins them
  pub joined_apart : (v : V) (es : List (List ℕ × V)) → Lacks k es → AreApart es → AreApart ((k, v) ∷ es)
  joined_apart v es h apart =
      let whole = put_behind fin.empty es in
      let grown : fin.len whole + 1 ≡ fin.len (fin.insert whole k v) =
      ap (λ o. if is_some o then fin.len whole else fin.len whole + 1) (sym (fin.get-empty order k)) ∙ len_behind fin.empty v es h in
      omega (arith, apart, grown)

  pub taken_everywhere : (m : Map V) (es : List (List ℕ × V)) → put_behind (fin.remove m k) (filter (λ e. not (is e)) es) ≡ fin.remove (put_behind m es) k
  taken_everywhere m [] = refl
  taken_everywhere m (e ∷ es) =
      let others = filter (λ e. not (is e)) es in
      let P : Bool → Type 0 = λ b. is e ≡ b → put_behind (fin.remove m k) (cond (not b) (e ∷ others) others) ≡ fin.remove (put_behind m (e ∷ es)) k in
      elim (is e) as P [
        | true ↦ λ same.
            taken_everywhere m es ∙ put_and_taken (put_behind m es) k e.1
            ∙ ap (λ x. fin.remove (fin.insert (put_behind m es) x e.1) k) (sym (itself k e.0 same))
        | false ↦ λ other.
            ap (λ n. fin.insert n e.0 e.1) (taken_everywhere m es) ∙ taken_first (put_behind m es) e.0 k e.1 (another k e.0 other)
      ] refl

  -- ---- what is asked by the bytes of a name

  pub looked_up : (bytes : List ℕ) (first : List (List ℕ × V)) (o : Option ℕ) → bytes ≡ k → o ≡ position (λ e. same_text e.0 bytes) first → position is first ≡ o
  looked_up bytes first o name e = sym (e ∙ ap (λ b. position (λ e. same_text e.0 b) first) name)
