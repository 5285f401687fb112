-- What comes in and goes out again.
use Rattle.std.proofs.Common.{◌≡◌, ℕ, zero, suc, ◌+◌, ◌<◌, ◌≤◌, ◌&&◌, nat_lt, max, Bool, true, false, if◌then◌else◌, List, [], ◌∷◌, ◌++◌, length, take, drop, map, refl, sym, ap, ◌∙◌, arith}
use Rattle.std.proofs.lemmas.Bool.Decides.{nat_tests}
use Rattle.std.proofs.lemmas.List.{length-append, length-map, length-take-le, length-drop, drop-drop, drop_at, take-append-drop}
use Rattle.std.proofs.Math.Seq.{take-append_seam}
use Rattle.tks_listbox.specs.Listbox.{Listbox, HasActive, is_editable, new_item, moved_on, moved_back, put_in, taken_out, deleted}
use Rattle.tks_listbox.specs.Laws.{in_and_out}

module _ {X : Type 0} (place : ℕ) (more xs : List X) (within : place ≤ length xs) where
  -- the list with more in it
  abbrev all : List X
  all = take place xs ++ (more ++ drop place xs)

  long : length all ≡ length xs + length more
  long = omega (arith, length-append (take place xs) (more ++ drop place xs), length-append more (drop place xs), length-take-le place xs within, length-drop place xs)

  -- what is in front of the place
  front : take place all ≡ take place xs
  front = ap (λ n. take n all) (sym (length-take-le place xs within)) ∙ take-append_seam (take place xs) (more ++ drop place xs)

  -- what is behind what came in
  back : drop (place + length more) all ≡ drop place xs
  back =
      sym (drop-drop (length more) place all)
      ∙ ap (drop (length more)) (drop_at (take place xs) (more ++ drop place xs) place (length-take-le place xs within))
      ∙ drop_at more (drop place xs) (length more) refl

  -- without what came in
  same_list : take place all ++ drop (place + length more) all ≡ xs
  same_list = ap (λ t. t ++ drop (place + length more) all) front ∙ ap (λ t. take place xs ++ t) back ∙ take-append-drop place xs

-- the active place goes as far back as it went on
same_place : (n place count active : ℕ) → active < max 1 n → place ≤ n → moved_back place (place + count) (n + count) (moved_on n place count active) ≡ active
same_place zero place count active inside within = grind (arith, nat_tests)
same_place (suc n) place count active inside within = grind (arith, nat_tests)

same_without : (n place active : ℕ) → moved_on n place 0 active ≡ active
same_without zero place active = refl
same_without (suc n) place active = grind (arith, nat_tests)

nothing_in : (l : Listbox) (place : ℕ) → put_in place [] l ≡ l
nothing_in l place = λ i. record l { items = take-append-drop place l.items i; active = same_without (length l.items) place l.active i }

some_out : (l : Listbox) (place : ℕ) (texts : List (List ℕ)) → HasActive l.items l.active → place ≤ length l.items → taken_out place (place + length texts) (put_in place texts l) ≡ l
some_out l place texts inside within = λ i. record l { items = same_items i; active = same_active i }
  where
    same_items : (taken_out place (place + length texts) (put_in place texts l)).items ≡ l.items
    same_items =
        ap (λ n. take place (put_in place texts l).items ++ drop (place + n) (put_in place texts l).items) (sym (length-map texts new_item))
        ∙ same_list place (map new_item texts) l.items within

    same_active : (taken_out place (place + length texts) (put_in place texts l)).active ≡ l.active
    same_active =
        ap (λ n. moved_back place (place + length texts) n (put_in place texts l).active) (long place (map new_item texts) l.items within ∙ ap (λ n. length l.items + n) (length-map texts new_item))
        ∙ same_place (length l.items) place (length texts) l.active inside within

pub undone : (l : Listbox) (place : ℕ) (texts : List (List ℕ)) → HasActive l.items l.active → place ≤ length l.items → in_and_out place texts l ≡ l
undone l place texts inside within = by (is_editable l) refl
  where
    none_out : (test b : Bool) → b ≡ false → (if test && b then taken_out place (place + length texts) l else l) ≡ l
    none_out true b e = ap (λ b. if b then taken_out place (place + length texts) l else l) e
    none_out false b e = refl

    out : (texts : List (List ℕ)) → deleted place (place + length texts) (put_in place texts l) ≡ (if nat_lt place (place + length texts) && is_editable l then taken_out place (place + length texts) (put_in place texts l) else put_in place texts l)
    out texts = refl

    free : (texts : List (List ℕ)) → (if nat_lt place (place + length texts) && true then taken_out place (place + length texts) (put_in place texts l) else put_in place texts l) ≡ l
    free [] =
        let no_test : nat_lt place (place + 0) ≡ false = grind (arith, nat_tests) in
        ap (λ b. if b && true then taken_out place (place + 0) (put_in place [] l) else put_in place [] l) no_test ∙ nothing_in l place
    free (text ∷ texts) =
        let test : nat_lt place (place + length (text ∷ texts)) ≡ true = grind (arith, nat_tests) in
        ap (λ b. if b && true then taken_out place (place + length (text ∷ texts)) (put_in place (text ∷ texts) l) else put_in place (text ∷ texts) l) test
        ∙ some_out l place (text ∷ texts) inside within

    by : (b : Bool) → is_editable l ≡ b → deleted place (place + length texts) (if b then put_in place texts l else l) ≡ l
    by true e =
        out texts
        ∙ ap (λ b. if nat_lt place (place + length texts) && b then taken_out place (place + length texts) (put_in place texts l) else put_in place texts l) e
        ∙ free texts
    by false e = none_out (nat_lt place (place + length texts)) (is_editable l) e
