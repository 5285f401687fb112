-- Characters and their tags, one by one.
use Rattle.std.proofs.Common.{◌≡◌, ℕ, zero, suc, ◌+◌, ◌<◌, ◌≤◌, max, Bool, true, false, if◌then◌else◌, List, [], ◌∷◌, ◌++◌, length, take, drop, map, Some, None, refl, sym, ap, ◌∙◌, subst, arith}
use Rattle.std.specs.Prelude.{replicate, slice_get}
use Rattle.std.specs.List.{filter}
use Rattle.std.proofs.lemmas.List.{length-take-le, length-replicate}
use Rattle.tks_lines.specs.declared.parts.Tag.{Tag}
use Rattle.tks_lines.specs.Lines.{Lines, Formed, AreLong, is_editable, is_on, is_true, spliced, cut, grown, shrunk, put_in, deleted, moved_back}
use Rattle.tks_lines.specs.Commands.{names_on}
use Rattle.tks_lines.specs.Laws.{PutsIn, TakesOut}

-- ---- what stands at a place

module _ {X : Type 0} where
  got_none : (i : ℕ) → slice_get {X = X} [] i ≡ None
  got_none zero = refl
  got_none (suc i) = refl

  got_front : (xs ys : List X) (i : ℕ) → i < length xs → slice_get (xs ++ ys) i ≡ slice_get xs i
  got_front [] ys i h = absurd (omega arith)
  got_front (x ∷ xs) ys zero h = refl
  got_front (x ∷ xs) ys (suc i) h = got_front xs ys i (omega arith)

  got_back : (xs ys : List X) (n i : ℕ) → n ≡ length xs + i → slice_get (xs ++ ys) n ≡ slice_get ys i
  got_back [] ys n i e = ap (slice_get ys) (let z : n ≡ i = omega arith in z)
  got_back (x ∷ xs) ys zero i e = absurd (omega arith)
  got_back (x ∷ xs) ys (suc n) i e = got_back xs ys n i (omega arith)

  got_take : (n : ℕ) (xs : List X) (i : ℕ) → i < n → slice_get (take n xs) i ≡ slice_get xs i
  got_take zero xs i h = absurd (omega arith)
  got_take (suc n) [] i h = refl
  got_take (suc n) (x ∷ xs) zero h = refl
  got_take (suc n) (x ∷ xs) (suc i) h = got_take n xs i (omega arith)

  got_drop : (n : ℕ) (xs : List X) (i k : ℕ) → k ≡ n + i → slice_get (drop n xs) i ≡ slice_get xs k
  got_drop zero xs i k e = ap (slice_get xs) (let z : i ≡ k = omega arith in z)
  got_drop (suc n) [] i k e = refl
  got_drop (suc n) (x ∷ xs) i zero e = absurd (omega arith)
  got_drop (suc n) (x ∷ xs) i (suc k) e = got_drop n xs i k (omega arith)

  spliced_before : (place : ℕ) (more xs : List X) (i : ℕ) → place ≤ length xs → i < place → slice_get (spliced place more xs) i ≡ slice_get xs i
  spliced_before place more xs i here h =
      got_front (take place xs) (more ++ drop place xs) i (omega (arith, length-take-le place xs here)) ∙ got_take place xs i h

  spliced_here : (place : ℕ) (more xs : List X) (i : ℕ) → place ≤ length xs → i < length more → slice_get (spliced place more xs) (place + i) ≡ slice_get more i
  spliced_here place more xs i here h =
      got_back (take place xs) (more ++ drop place xs) (place + i) i (omega (arith, length-take-le place xs here)) ∙ got_front more (drop place xs) i h

  spliced_behind : (place : ℕ) (more xs : List X) (n i : ℕ) → place ≤ length xs → n ≡ length more → slice_get (spliced place more xs) (place + (n + i)) ≡ slice_get xs (place + i)
  spliced_behind place more xs n i here e =
      got_back (take place xs) (more ++ drop place xs) (place + (n + i)) (n + i) (omega (arith, length-take-le place xs here))
      ∙ got_back more (drop place xs) (n + i) i (omega arith)
      ∙ got_drop place xs i (place + i) refl

  cut_before : (first last : ℕ) (xs : List X) (i : ℕ) → first ≤ length xs → i < first → slice_get (cut first last xs) i ≡ slice_get xs i
  cut_before first last xs i here h =
      got_front (take first xs) (drop (max first last) xs) i (omega (arith, length-take-le first xs here)) ∙ got_take first xs i h

  cut_behind : (first last : ℕ) (xs : List X) (i : ℕ) → first ≤ length xs → first ≤ last → slice_get (cut first last xs) (first + i) ≡ slice_get xs (last + i)
  cut_behind first last xs i here h =
      got_back (take first xs) (drop (max first last) xs) (first + i) i (omega (arith, length-take-le first xs here))
      ∙ got_drop (max first last) xs i (last + i) (omega arith)

got_same : {X : Type 0} (n : ℕ) (x : X) (i : ℕ) → i < n → slice_get (replicate n x) i ≡ Some x
got_same zero x i h = absurd (omega arith)
got_same (suc n) x zero h = refl
got_same (suc n) x (suc i) h = got_same n x i (omega arith)

-- ---- the tags there

-- those that pass a test, where changed tags keep their names and pass another one just then
named_alike : (f : Tag → Tag) (p q : Tag → Bool) (len : ℕ) → ((g : Tag) → (f g).name ≡ g.name) → ((g : Tag) → length g.on ≡ len → p (f g) ≡ q g) → (tags : List Tag) → AreLong len tags
    → map (λ g. g.name) (filter p (map f tags)) ≡ map (λ g. g.name) (filter q tags)
named_alike f p q len n h [] a = refl
named_alike f p q len n h (g ∷ tags) a = by (p (f g)) (q g) (h g a.0) (named_alike f p q len n h tags a.1)
  where
    by : (b c : Bool) → b ≡ c → map (λ g. g.name) (filter p (map f tags)) ≡ map (λ g. g.name) (filter q tags)
        → map (λ g. g.name) (if b then f g ∷ filter p (map f tags) else filter p (map f tags)) ≡ map (λ g. g.name) (if c then g ∷ filter q tags else filter q tags)
    by true true e r = ap (λ n. n ∷ map (λ g. g.name) (filter p (map f tags))) (n g) ∙ ap (λ ns. g.name ∷ ns) r
    by true false e r = absurd cc
    by false true e r = absurd cc
    by false false e r = r

pub puts_in : (t : Lines) (place : ℕ) (more : List ℕ) (test : Tag → Bool) → Formed t → place ≤ length t.text → PutsIn place more test t (put_in place more test t)
unfolding names_on
puts_in t place more test f inside =
    let change : Tag → Tag = λ g. grown place (length more) (test g) g in
    record {
      before = λ i h. λ j. record {
        byte = spliced_before place more t.text i inside h j;
        tags = named_alike change (λ g. is_on g i) (λ g. is_on g i) (length t.text) (λ g. refl) (λ g e. ap is_true (spliced_before place (replicate (length more) (test g)) g.on i (omega arith) h)) t.tags f.long j;
      };
      here = λ i h. λ j. record {
        byte = spliced_here place more t.text i inside h j;
        tags = named_alike change (λ g. is_on g (place + i)) test (length t.text) (λ g. refl)
            (λ g e. ap is_true (spliced_here place (replicate (length more) (test g)) g.on i (omega arith) (omega (arith, length-replicate (length more) (test g))) ∙ got_same (length more) (test g) i h)) t.tags f.long j;
      };
      behind = λ i. λ j. record {
        byte = spliced_behind place more t.text (length more) i inside refl j;
        tags = named_alike change (λ g. is_on g (place + (length more + i))) (λ g. is_on g (place + i)) (length t.text) (λ g. refl)
            (λ g e. ap is_true (spliced_behind place (replicate (length more) (test g)) g.on (length more) i (omega arith) (sym (length-replicate (length more) (test g))))) t.tags f.long j;
      };
    }

out : (t : Lines) (first last : ℕ) → Formed t → first ≤ last → last ≤ length t.text
    → TakesOut first last t (record t { text = cut first last t.text; tags = map (shrunk first last) t.tags; marks = map (moved_back first last) t.marks })
unfolding names_on
out t first last f order inside =
    record {
      before = λ i h. λ j. record {
        byte = cut_before first last t.text i (omega arith) h j;
        tags = named_alike (shrunk first last) (λ g. is_on g i) (λ g. is_on g i) (length t.text) (λ g. refl) (λ g e. ap is_true (cut_before first last g.on i (omega arith) h)) t.tags f.long j;
      };
      behind = λ i. λ j. record {
        byte = cut_behind first last t.text i (omega arith) order j;
        tags = named_alike (shrunk first last) (λ g. is_on g (first + i)) (λ g. is_on g (last + i)) (length t.text) (λ g. refl) (λ g e. ap is_true (cut_behind first last g.on i (omega arith) order)) t.tags f.long j;
      };
    }

pub takes_out : (t : Lines) (first last : ℕ) → Formed t → is_editable t ≡ true → first ≤ last → last ≤ length t.text → TakesOut first last t (deleted first last t)
takes_out t first last f free order inside =
    let changed : Lines = record t { text = cut first last t.text; tags = map (shrunk first last) t.tags; marks = map (moved_back first last) t.marks } in
    subst (TakesOut first last t) (sym (ap (λ b. if b then changed else t) free)) (out t first last f order inside)
