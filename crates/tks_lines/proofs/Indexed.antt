-- A text is an index where it is read as one, and names the place that is read.
use Rattle.std.proofs.Common.{◌≡◌, ◌↔◌, ℕ, ◌^◌, ◌<◌, ◌≤◌, Bool, true, false, eqb, if◌then◌else◌, List, [], ◌∷◌, ◌++◌, length, take, drop, Option, Some, None, refl, sym, ap, ◌∙◌, subst, arith, append-nil, length-append}
use Rattle.std.specs.Option.{option_and_then}
use Rattle.std.proofs.lemmas.Bool.{eqb-true, eq-eqb}
use Rattle.std.proofs.lemmas.List.{take-append-drop, nil_from_length}
use Rattle.std.proofs.lemmas.List.Folds.{length-prefix_len}
use Rattle.std.proofs.Math.Seq.{drop-append_seam}
use Rattle.tks_text.specs.Integer.{is_space, AreSpaces}
use Rattle.tks_text.specs.Text.{BeginsNot}
use Rattle.tks_text.proofs.Prefixes.{prefix_of, prefix_passes}
use Rattle.tks_lines.specs.Places.{end_place}
use Rattle.tks_lines.specs.Indices.{space_len, word_len, word_at, or_else, numbered, named, base_at, moved, if_at_end, based, index_place}
use Rattle.tks_lines.specs.IndexText.{is_of_word, PlaceText, NameText, BeginsNoPlace, BaseThen, IndexText}
use Rattle.tks_lines.specs.Lines.{Lines, Formed}
use Rattle.tks_lines.proofs.IndexRead.{is_decimal, digit_no_space, numbered_front, some_numbered, name_read, name_inside, word_front, with_len, moves_read, moves_no_digit}
use Rattle.tks_lines.proofs.IndexTold.{some_is, pair_is, numbered_told, name_told, moves_told}
use Rattle.tks_lines.proofs.Kept.{line_inside}

place_inside : (text w : List ℕ) (p : ℕ) → PlaceText text w p → p ≤ end_place text
place_inside text _ _ (PlaceText.in_line l c line column h k) = line_inside text line column
place_inside text _ _ (PlaceText.below_first l c line column h k) = omega arith

-- no white space begins a place
place_no_space : (text w v : List ℕ) (p : ℕ) → PlaceText text w p → BeginsNot is_space (w ++ v)
place_no_space text _ v _ (PlaceText.in_line [] c line column h k) = absurd (omega (arith, h.some))
place_no_space text _ v _ (PlaceText.in_line (d ∷ l) c line column h k) = digit_no_space d h.digits.0
place_no_space text _ v _ (PlaceText.below_first l c line column h k) = refl

base_no_space : (t : Lines) (b m : List ℕ) (p : ℕ) → BaseThen t b m p → BeginsNot is_space (b ++ m)
base_no_space t _ _ _ (BaseThen.place b v p h) = place_no_space t.text b v p h
base_no_space t _ _ _ (BaseThen.name b v p n w e s none) = s

base_inside : (t : Lines) (b m : List ℕ) (p : ℕ) → Formed t → BaseThen t b m p → p ≤ end_place t.text
base_inside t _ _ _ f (BaseThen.place b v p h) = place_inside t.text b p h
base_inside t _ _ _ f (BaseThen.name b v p n w e s none) = name_inside t b p f n

-- a base, by what is read as a place there
abbrev base_by : Lines → List ℕ → Option (ℕ × ℕ) → Option (ℕ × ℕ)
base_by t word o = or_else o (with_len (word_len word) (named t (word_at word)))

base_is : (t : Lines) (word : List ℕ) → base_at t word ≡ base_by t word (numbered t.text word)
unfolding base_at
base_is t word = refl

none_numbered : (text t : List ℕ) → length text < 2 ^ 63 → BeginsNoPlace t → numbered text t ≡ None
none_numbered text t short none = by (numbered text t) refl
  where
    by : (o : Option (ℕ × ℕ)) → numbered text t ≡ o → o ≡ None
    by None e = refl
    by (Some x) e = let at = numbered_told text t x.0 x.1 short e in absurd (none text at.base at.rest x.0 at.is at.told)

base_read : (t : Lines) (b m : List ℕ) (p : ℕ) → Formed t → length t.text < 2 ^ 63 → BaseThen t b m p → BeginsNot is_decimal m → base_at t (b ++ m) ≡ Some (p, length b)
base_read t _ _ _ f short (BaseThen.place b v p h) d = base_is t (b ++ v) ∙ ap (base_by t (b ++ v)) (numbered_front t.text b v p short h d)
base_read t _ _ _ f short (BaseThen.name b v p n w e s none) d =
    let word = word_front b v w e in
    base_is t (b ++ v)
    ∙ ap (base_by t (b ++ v)) (none_numbered t.text (b ++ v) short none)
    ∙ ap (λ k. with_len k (named t (word_at (b ++ v)))) word.len
    ∙ ap (λ x. with_len (length b) (named t x)) word.word
    ∙ ap (with_len (length b)) (name_read t b p f n)

-- ---- the whole

-- an index, by what is read as a place there
abbrev index_by : Lines → List ℕ → Option (ℕ × ℕ) → Option ℕ
index_by t w o = or_else (if_at_end (length w) o) (or_else (named t w) (based t (drop (space_len w) w)))

index_is : (t : Lines) (w : List ℕ) → index_place t w ≡ index_by t w (numbered t.text w)
unfolding index_place
index_is t w = refl

whole_numbered : (text w : List ℕ) (p : ℕ) → length text < 2 ^ 63 → PlaceText text w p → numbered text w ≡ Some (p, length w)
whole_numbered text w p short h = ap (numbered text) (sym (append-nil w)) ∙ numbered_front text w [] p short h tt

at_end : (w : List ℕ) (p : ℕ) → if_at_end (length w) (Some (p, length w)) ≡ Some p
at_end w p = ap (λ b. if b then Some p else None) (eq-eqb (length w) (length w) refl)

-- no whole place is read where none is told
not_at_end : (text w : List ℕ) → length text < 2 ^ 63 → ((q : ℕ) → PlaceText text w q → ⊥) → if_at_end (length w) (numbered text w) ≡ None
not_at_end text w short none = by (numbered text w) refl
  where
    whole : (x : ℕ × ℕ) → numbered text w ≡ Some x → x.1 ≡ length w → ⊥
    whole x e k =
        let at = numbered_told text w x.0 x.1 short e in
        let left : at.rest ≡ [] = nil_from_length at.rest (omega (arith, at.len, k, ap length at.is, length-append at.base at.rest)) in
        none x.0 (subst (λ y. PlaceText text y x.0) (sym (at.is ∙ ap (λ y. at.base ++ y) left ∙ append-nil at.base)) at.told)

    at : (x : ℕ × ℕ) → numbered text w ≡ Some x → (b : Bool) → eqb x.1 (length w) ≡ b → (if b then Some x.0 else None) ≡ None
    at x e true k = absurd (whole x e (eqb-true x.1 (length w) k))
    at x e false k = refl

    by : (o : Option (ℕ × ℕ)) → numbered text w ≡ o → if_at_end (length w) o ≡ None
    by None e = refl
    by (Some x) e = at x e (eqb x.1 (length w)) refl

not_named : (t : Lines) (w : List ℕ) → ((q : ℕ) → NameText t w q → ⊥) → named t w ≡ None
not_named t w none = by (named t w) refl
  where
    by : (o : Option ℕ) → named t w ≡ o → o ≡ None
    by None e = refl
    by (Some p) e = absurd (none p (name_told t w p e))

abbrev based_by : Lines → List ℕ → Option (ℕ × ℕ) → Option ℕ
based_by t word o = option_and_then (λ (b : ℕ × ℕ). moved t.text b.0 0 (drop b.1 word)) o

index_read : (t : Lines) (w : List ℕ) (p : ℕ) → Formed t → length t.text < 2 ^ 63 → IndexText t w p → index_place t w ≡ Some p
index_read t _ _ f short (IndexText.place w p h) =
    index_is t w ∙ ap (index_by t w) (whole_numbered t.text w p short h) ∙ ap (λ o. or_else o (or_else (named t w) (based t (drop (space_len w) w)))) (at_end w p)
index_read t _ _ f short (IndexText.name w p none h) =
    index_is t w
    ∙ ap (λ o. or_else o (or_else (named t w) (based t (drop (space_len w) w)))) (not_at_end t.text w short none)
    ∙ ap (λ o. or_else o (based t (drop (space_len w) w))) (name_read t w p f h)
index_read t _ _ f short (IndexText.parts a b m p q no_place no_name ha hb hm) =
    let w = a ++ (b ++ m) in
    let len : space_len w ≡ length a = prefix_of is_space a (b ++ m) ha (base_no_space t b m p hb) in
    index_is t w
    ∙ ap (λ o. or_else o (or_else (named t w) (based t (drop (space_len w) w)))) (not_at_end t.text w short no_place)
    ∙ ap (λ o. or_else o (based t (drop (space_len w) w))) (not_named t w no_name)
    ∙ ap (based t) (ap (λ n. drop n w) len ∙ drop-append_seam a (b ++ m))
    ∙ ap (based_by t (b ++ m)) (base_read t b m p f short hb (moves_no_digit t.text m p q hm))
    ∙ ap (moved t.text p 0) (drop-append_seam b m)
    ∙ moves_read t.text m p q short (base_inside t b m p f hb) hm

-- ---- what is read is told

record BaseFound (t : Lines) (word : List ℕ) (p n : ℕ) : Type 0 where
  pub base : List ℕ
  pub rest : List ℕ
  pub is : word ≡ base ++ rest
  pub told : BaseThen t base rest p
  pub len : n ≡ length base

base_told : (t : Lines) (word : List ℕ) (p n : ℕ) → length t.text < 2 ^ 63 → BeginsNot is_space word → base_at t word ≡ Some (p, n) → BaseFound t word p n
base_told t word p n short filled e = by (numbered t.text word) refl (sym (base_is t word) ∙ e)
  where
    by_name : numbered t.text word ≡ None → (o : Option ℕ) → named t (word_at word) ≡ o → with_len (word_len word) o ≡ Some (p, n) → BaseFound t word p n
    by_name none None k s = absurd cc
    by_name none (Some x) k s =
        let is = pair_is x p (word_len word) n s in
        let whole : word_at word ++ drop (word_len word) word ≡ word = take-append-drop (word_len word) word in
        let passes = prefix_passes is_of_word word in
        record {
          base = word_at word;
          rest = drop (word_len word) word;
          is = sym whole;
          told = BaseThen.name (word_at word) (drop (word_len word) word) p (subst (NameText t (word_at word)) is.0 (name_told t (word_at word) x k)) passes.0 passes.1
              (subst (BeginsNot is_space) (sym whole) filled)
              (λ text x y q e h. some_numbered t.text text x y q h (sym (ap (numbered t.text) (sym whole ∙ e)) ∙ none));
          len = sym is.1 ∙ sym (length-prefix_len is_of_word word);
        }

    by : (o : Option (ℕ × ℕ)) → numbered t.text word ≡ o → base_by t word o ≡ Some (p, n) → BaseFound t word p n
    by (Some x) k s =
        let at = numbered_told t.text word p n short (k ∙ s) in
        record { base = at.base; rest = at.rest; is = at.is; told = BaseThen.place at.base at.rest p at.told; len = at.len }
    by None k s = by_name k (named t (word_at word)) refl s

based_told : (t : Lines) (a word : List ℕ) (q : ℕ) → Formed t → length t.text < 2 ^ 63 → ((r : ℕ) → PlaceText t.text (a ++ word) r → ⊥) → ((r : ℕ) → NameText t (a ++ word) r → ⊥) → AreSpaces a → BeginsNot is_space word → based t word ≡ Some q → IndexText t (a ++ word) q
based_told t a word q f short no_place no_name ha filled e = by (base_at t word) refl e
  where
    by : (o : Option (ℕ × ℕ)) → base_at t word ≡ o → based_by t word o ≡ Some q → IndexText t (a ++ word) q
    by None k s = absurd cc
    by (Some x) k s =
        let at = base_told t word x.0 x.1 short filled k in
        let rest : drop x.1 word ≡ at.rest = ap (λ n. drop n word) at.len ∙ ap (drop (length at.base)) at.is ∙ drop-append_seam at.base at.rest in
        let whole : a ++ word ≡ a ++ (at.base ++ at.rest) = ap (λ y. a ++ y) at.is in
        subst (λ w. IndexText t w q) (sym whole)
        (IndexText.parts a at.base at.rest x.0 q
        (λ r h. no_place r (subst (λ w. PlaceText t.text w r) (sym whole) h))
        (λ r h. no_name r (subst (λ w. NameText t w r) (sym whole) h))
        ha at.told (moves_told t.text short at.rest x.0 q (base_inside t at.base at.rest x.0 f at.told) (ap (moved t.text x.0 0) (sym rest) ∙ s)))

index_told : (t : Lines) (w : List ℕ) (p : ℕ) → Formed t → length t.text < 2 ^ 63 → index_place t w ≡ Some p → IndexText t w p
index_told t w p f short e = by (if_at_end (length w) (numbered t.text w)) refl (sym (index_is t w) ∙ e)
  where
    behind : (none : (r : ℕ) → PlaceText t.text w r → ⊥) → named t w ≡ None → based t (drop (space_len w) w) ≡ Some p → IndexText t w p
    behind none k s =
        let a = take (space_len w) w in
        let whole : a ++ drop (space_len w) w ≡ w = take-append-drop (space_len w) w in
        let passes = prefix_passes is_space w in
        subst (λ x. IndexText t x p) whole
        (based_told t a (drop (space_len w) w) p f short
        (λ r h. none r (subst (λ x. PlaceText t.text x r) whole h))
        (λ r h. let both : None ≡ Option.Some r = sym k ∙ name_read t w r f (subst (λ x. NameText t x r) whole h) in absurd cc)
        passes.0 passes.1 s)

    by_name : (none : (r : ℕ) → PlaceText t.text w r → ⊥) → (o : Option ℕ) → named t w ≡ o → or_else o (based t (drop (space_len w) w)) ≡ Some p → IndexText t w p
    by_name none (Some x) k s = IndexText.name w p none (name_told t w p (k ∙ s))
    by_name none None k s = behind none k s

    whole : (x : ℕ × ℕ) → numbered t.text w ≡ Some x → (b : Bool) → eqb x.1 (length w) ≡ b → (if b then Some x.0 else None) ≡ Some p → IndexText t w p
    whole x e false k s = absurd cc
    whole x e true k s =
        let at = numbered_told t.text w x.0 x.1 short e in
        let left : at.rest ≡ [] = nil_from_length at.rest (omega (arith, at.len, eqb-true x.1 (length w) k, ap length at.is, length-append at.base at.rest)) in
        let is : at.base ≡ w = sym (at.is ∙ ap (λ y. at.base ++ y) left ∙ append-nil at.base) in
        IndexText.place w p (subst (PlaceText t.text w) (some_is x.0 p s) (subst (λ y. PlaceText t.text y x.0) is at.told))

    by_place : (o : Option (ℕ × ℕ)) → numbered t.text w ≡ o → if_at_end (length w) o ≡ Some p → IndexText t w p
    by_place None k s = absurd cc
    by_place (Some x) k s = whole x k (eqb x.1 (length w)) refl s

    no_place : if_at_end (length w) (numbered t.text w) ≡ None → (r : ℕ) → PlaceText t.text w r → ⊥
    no_place k r h =
        let both : None ≡ Option.Some r = sym k ∙ ap (if_at_end (length w)) (whole_numbered t.text w r short h) ∙ at_end w r in
        absurd cc

    by : (o : Option ℕ) → if_at_end (length w) (numbered t.text w) ≡ o → or_else o (or_else (named t w) (based t (drop (space_len w) w))) ≡ Some p → IndexText t w p
    by (Some x) k s = by_place (numbered t.text w) refl (k ∙ s)
    by None k s = by_name (no_place k) (named t w) refl s

-- a text is an index, and names this place, just where it is read as one, and as this place
pub indices_read : (t : Lines) (w : List ℕ) (p : ℕ) → Formed t → length t.text < 2 ^ 63 → IndexText t w p ↔ (index_place t w ≡ Some p)
indices_read t w p f short = (λ h. index_read t w p f short h, λ e. index_told t w p f short e)

-- so two readings of one text are the same
pub one_place : (t : Lines) (w : List ℕ) (p q : ℕ) → Formed t → length t.text < 2 ^ 63 → IndexText t w p → IndexText t w q → p ≡ q
one_place t w p q f short h k = some_is p q (sym (index_read t w p f short h) ∙ index_read t w q f short k)
