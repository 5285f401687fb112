-- Places in a line: in its front, between, and in its back.
use Rattle.std.proofs.Common.{◌≡◌, Bool, true, false, if◌then◌else◌, ℕ, suc, ◌+◌, ◌-◌, ◌<◌, ◌≤◌, List, [], ◌∷◌, ◌++◌, length, refl, sym, ap, ◌∙◌, arith, length-append}
use Rattle.std.specs.Prelude.{slice_get, slice_set}
use Rattle.std.specs.List.{insert, remove}
use Rattle.std.proofs.lemmas.List.{set-append_left, set-append_right}
use Rattle.std.proofs.lemmas.List.Edits.{insert-append_left, insert-append_right, remove-append_left, remove-append_right}
use Rattle.tks_share.specs.Tree.{counted}
use Rattle.tks_share.specs.Lists.{Fits, IsParted, leading}
use Rattle.std.specs.List.{AllByRecursion, filter}
use Rattle.std.proofs.lemmas.List.Elements.{filter-append}
use Rattle.tks_share.proofs.AtPlace.{whole, get_left, get_right}

module _ {X : Type 0} (f m b es : List X) (is : es ≡ f ++ (m ++ b)) where
  -- as many as there are in the three
  pub many : length es ≡ length f + length m + length b
  many = omega (arith, ap length is, length-append f (m ++ b), length-append m b)

  module _ (fits : Fits es) where
    pub fits_between : Fits m
    fits_between = omega (arith, many, fits)

    pub between : counted m ≡ length m
    between = whole m fits_between

  module _ (i : ℕ) where
    pub got_ahead : i < length f → slice_get es i ≡ slice_get f i
    got_ahead h = ap (λ t. slice_get t i) is ∙ get_left f (m ++ b) i h

    pub got_between : length f ≤ i → i - length f < length m → slice_get es i ≡ slice_get m (i - length f)
    got_between h k = ap (λ t. slice_get t i) is ∙ get_right f (m ++ b) i h ∙ get_left m b (i - length f) k

    pub got_behind : length f ≤ i → length m ≤ i - length f → slice_get es i ≡ slice_get b (i - length f - length m)
    got_behind h k = ap (λ t. slice_get t i) is ∙ get_right f (m ++ b) i h ∙ get_right m b (i - length f) k

    module _ (y : X) where
      pub set_ahead : i < length f → slice_set f i y ++ (m ++ b) ≡ slice_set es i y
      set_ahead h = sym (set-append_left f (m ++ b) i y h) ∙ ap (λ t. slice_set t i y) (sym is)

      pub set_between : length f ≤ i → i - length f < length m → f ++ (slice_set m (i - length f) y ++ b) ≡ slice_set es i y
      set_between h k =
          ap (λ t. f ++ t) (sym (set-append_left m b (i - length f) y k))
          ∙ sym (set-append_right f (m ++ b) (length f) i y refl h)
          ∙ ap (λ t. slice_set t i y) (sym is)

      pub set_behind : length f ≤ i → length m ≤ i - length f → f ++ (m ++ slice_set b (i - length f - length m) y) ≡ slice_set es i y
      set_behind h k =
          ap (λ t. f ++ t) (sym (set-append_right m b (length m) (i - length f) y refl k))
          ∙ sym (set-append_right f (m ++ b) (length f) i y refl h)
          ∙ ap (λ t. slice_set t i y) (sym is)

      pub inserted_ahead : i ≤ length f → insert f i y ++ (m ++ b) ≡ insert es i y
      inserted_ahead h = sym (insert-append_left f (m ++ b) i y h) ∙ ap (λ t. insert t i y) (sym is)

      pub inserted_between : length f ≤ i → i - length f ≤ length m → f ++ (insert m (i - length f) y ++ b) ≡ insert es i y
      inserted_between h k =
          ap (λ t. f ++ t) (sym (insert-append_left m b (i - length f) y k))
          ∙ sym (insert-append_right f (m ++ b) (length f) i y refl h)
          ∙ ap (λ t. insert t i y) (sym is)

      pub inserted_behind : length f ≤ i → length m ≤ i - length f → f ++ (m ++ insert b (i - length f - length m) y) ≡ insert es i y
      inserted_behind h k =
          ap (λ t. f ++ t) (sym (insert-append_right m b (length m) (i - length f) y refl k))
          ∙ sym (insert-append_right f (m ++ b) (length f) i y refl h)
          ∙ ap (λ t. insert t i y) (sym is)

    pub removed_ahead : i < length f → remove f i ++ (m ++ b) ≡ remove es i
    removed_ahead h = sym (remove-append_left f (m ++ b) i h) ∙ ap (λ t. remove t i) (sym is)

    pub removed_between : length f ≤ i → i - length f < length m → f ++ (remove m (i - length f) ++ b) ≡ remove es i
    removed_between h k =
        ap (λ t. f ++ t) (sym (remove-append_left m b (i - length f) k))
        ∙ sym (remove-append_right f (m ++ b) (length f) i refl h)
        ∙ ap (λ t. remove t i) (sym is)

    pub removed_behind : length f ≤ i → length m ≤ i - length f → f ++ (m ++ remove b (i - length f - length m)) ≡ remove es i
    removed_behind h k =
        ap (λ t. f ++ t) (sym (remove-append_right m b (length m) (i - length f) refl k))
        ∙ sym (remove-append_right f (m ++ b) (length f) i refl h)
        ∙ ap (λ t. remove t i) (sym is)

-- the same of the three themselves
module _ {X : Type 0} (f m b : List X) (i : ℕ) where
  module _ (y : X) where
    pub sets_ahead : i < length f → slice_set (f ++ (m ++ b)) i y ≡ slice_set f i y ++ (m ++ b)
    sets_ahead h = sym (set_ahead f m b (f ++ (m ++ b)) refl i y h)

    pub sets_between : length f ≤ i → i - length f < length m → slice_set (f ++ (m ++ b)) i y ≡ f ++ (slice_set m (i - length f) y ++ b)
    sets_between h k = sym (set_between f m b (f ++ (m ++ b)) refl i y h k)

    pub sets_behind : length f ≤ i → length m ≤ i - length f → slice_set (f ++ (m ++ b)) i y ≡ f ++ (m ++ slice_set b (i - length f - length m) y)
    sets_behind h k = sym (set_behind f m b (f ++ (m ++ b)) refl i y h k)

    pub inserts_ahead : i ≤ length f → insert (f ++ (m ++ b)) i y ≡ insert f i y ++ (m ++ b)
    inserts_ahead h = sym (inserted_ahead f m b (f ++ (m ++ b)) refl i y h)

    pub inserts_between : length f ≤ i → i - length f ≤ length m → insert (f ++ (m ++ b)) i y ≡ f ++ (insert m (i - length f) y ++ b)
    inserts_between h k = sym (inserted_between f m b (f ++ (m ++ b)) refl i y h k)

    pub inserts_behind : length f ≤ i → length m ≤ i - length f → insert (f ++ (m ++ b)) i y ≡ f ++ (m ++ insert b (i - length f - length m) y)
    inserts_behind h k = sym (inserted_behind f m b (f ++ (m ++ b)) refl i y h k)

  pub removes_ahead : i < length f → remove (f ++ (m ++ b)) i ≡ remove f i ++ (m ++ b)
  removes_ahead h = sym (removed_ahead f m b (f ++ (m ++ b)) refl i h)

  pub removes_between : length f ≤ i → i - length f < length m → remove (f ++ (m ++ b)) i ≡ f ++ (remove m (i - length f) ++ b)
  removes_between h k = sym (removed_between f m b (f ++ (m ++ b)) refl i h k)

  pub removes_behind : length f ≤ i → length m ≤ i - length f → remove (f ++ (m ++ b)) i ≡ f ++ (m ++ remove b (i - length f - length m))
  removes_behind h k = sym (removed_behind f m b (f ++ (m ++ b)) refl i h k)

module _ {X : Type 0} (p : X → Bool) where
  pub filters : (f m b : List X) → filter p (f ++ (m ++ b)) ≡ filter p f ++ (filter p m ++ filter p b)
  filters f m b = filter-append p f (m ++ b) ∙ ap (λ t. filter p f ++ t) (filter-append p m b)

  -- one of the first that fails ends those that pass
  pub ends_ahead : (f r : List X) → leading p f < length f → leading p (f ++ r) ≡ leading p f
  ends_ahead [] r h = absurd (omega (arith, h))
  ends_ahead (x ∷ f) r h = by (p x) (ends_ahead f r) h
    where
      by : (b : Bool) → (leading p f < length f → leading p (f ++ r) ≡ leading p f) → (if b then suc (leading p f) else 0) < suc (length f)
          → (if b then suc (leading p (f ++ r)) else 0) ≡ (if b then suc (leading p f) else 0)
      by true rest h = ap (λ n. suc n) (rest (omega (arith, h)))
      by false rest h = refl

  -- where all the first pass, those behind them tell
  pub goes_behind : (f r : List X) → length f ≤ leading p f → leading p (f ++ r) ≡ length f + leading p r
  goes_behind [] r h = omega arith
  goes_behind (x ∷ f) r h = by (p x) (goes_behind f r) h
    where
      by : (b : Bool) → (length f ≤ leading p f → leading p (f ++ r) ≡ length f + leading p r) → suc (length f) ≤ (if b then suc (leading p f) else 0)
          → (if b then suc (leading p (f ++ r)) else 0) ≡ suc (length f) + leading p r
      by true rest h = omega (arith, rest (omega (arith, h)))
      by false rest h = absurd (omega (arith, h))

  -- where none behind pass, the first tell
  pub none_behind : (m b : List X) → leading p b ≡ 0 → leading p (m ++ b) ≡ leading p m
  none_behind [] b h = h
  none_behind (x ∷ m) b h = ap (λ n. if p x then suc n else 0) (none_behind m b h)

  pub parted_behind : (f r : List X) → IsParted p (f ++ r) → IsParted p r
  parted_behind [] r h = h
  parted_behind (x ∷ f) r h = parted_behind f r h.1

  pub parted_ahead : (f r : List X) → IsParted p (f ++ r) → IsParted p f
  parted_ahead [] r h = tt
  parted_ahead (x ∷ f) r h = (λ fails. none f r (h.0 fails), parted_ahead f r h.1)
    where
      none : (l m : List X) → AllByRecursion (λ y. p y ≡ false) (l ++ m) → AllByRecursion (λ y. p y ≡ false) l
      none [] m n = tt
      none (z ∷ l) m n = (n.0, none l m n.1)

  all_fail : (m b : List X) → AllByRecursion (λ y. p y ≡ false) (m ++ b) → leading p b ≡ 0
  all_fail [] [] h = refl
  all_fail [] (x ∷ b) h = ap (λ t. if t then suc (leading p b) else 0) h.0
  all_fail (x ∷ m) b h = all_fail m b h.1

  -- where one behind passes, all the first do
  pub all_ahead : (m b : List X) → IsParted p (m ++ b) → 0 < leading p b → length m ≤ leading p m
  all_ahead [] b h more = omega arith
  all_ahead (x ∷ m) b h more = by (p x) refl (all_ahead m b h.1 more)
    where
      by : (t : Bool) → p x ≡ t → length m ≤ leading p m → suc (length m) ≤ (if t then suc (leading p m) else 0)
      by true e rest = omega (arith, rest)
      by false e rest = absurd (omega (arith, more, all_fail m b (h.0 e)))
