-- Commands under their names.
use Rattle.std.proofs.Common.{◌≡◌, ◌+◌, ℕ, zero, suc, Bool, true, false, cond, not, ◌||◌, List, [], ◌∷◌, ◌++◌, insert, remove, slice_get, length, map, Option, Some, None, is_some, refl, sym, ap, ◌∙◌, true≢false, arith}
use Rattle.std.specs.Cmp.Lexicographic.{bytes_decides}
use Rattle.std.specs.Borrow.{Bor}
use Rattle.std.specs.List.{position_or_len}
use Rattle.std.specs.Prelude.{option_copied, IfSome}
use Rattle.std.specs.Map.{keys_of, values_of, lookup}
use Rattle.std.proofs.lemmas.Map.Entries.{length-keys_of}
use Rattle.indexmap.specs.IndexMap.{IndexMap, insert_entry, move_index, keys, index_map_len}
use Rattle.tks_text.specs.Text.{same_text}
use Rattle.tks_text.proofs.Texts.{same_either_way}
use Rattle.tks_app.specs.Applications.{Command, command_names, has, place_for, in_place}
use Rattle.tks_app.proofs.Joining.{put_in_place}

-- each has one name
pub keys_length : {X S : Type 0} (m : IndexMap (List ℕ) X S) → length (keys m) ≡ index_map_len m
keys_length m = length-keys_of m.entries

-- a name is found where it is one of theirs
pub found_there : {X : Type 0} (name : List ℕ) (es : List (List ℕ × X)) → is_some (lookup (same_text name) es) ≡ has (keys_of es) name
found_there name [] = refl
found_there name (e ∷ es) = by (same_text name e.0) (same_text e.0 name) (same_either_way name e.0) (found_there name es)
  where
    by : (u v : Bool) → u ≡ v → is_some (lookup (same_text name) es) ≡ has (keys_of es) name → is_some (cond u (Some e.1) (lookup (same_text name) es)) ≡ (v || has (keys_of es) name)
    by true true s rest = refl
    by false false s rest = rest
    by true false s rest = absurd (true≢false s)
    by false true s rest = absurd (true≢false (sym s))

abbrev first_name : List (List ℕ) → List ℕ
first_name [] = []
first_name (n ∷ ns) = n

abbrev later_names : List (List ℕ) → List (List ℕ)
later_names [] = []
later_names (n ∷ ns) = ns

-- what is found has the name
pub found_named : {B : Type 0} (name : List ℕ) (es : List (List ℕ × Command B)) (c : Command B) → command_names (values_of es) ≡ keys_of es → lookup (same_text name) es ≡ Some c → c.name ≡ name
found_named name [] c own at = absurd cc
found_named {B} name (e ∷ es) c own at = by (same_text name e.0) refl at (found_named name es c (ap later_names own))
  where
    by : (b : Bool) → same_text name e.0 ≡ b → cond b (Some e.1) (lookup (same_text name) es) ≡ Some c → (lookup (same_text name) es ≡ Some c → c.name ≡ name) → c.name ≡ name
    by true s at rest = let same : e.1 ≡ c = cc in ap (λ (d : Command B). d.name) (sym same) ∙ ap first_name own ∙ sym ((bytes_decides name e.0).0 s)
    by false s at rest = rest at

-- the same of what is lent of them
pub found_lent : {B : Type 0} (name : List ℕ) (es : List (List ℕ × Command B)) (lent : Option (Bor (Command B))) → command_names (values_of es) ≡ keys_of es → option_copied lent ≡ lookup (same_text name) es
    → IfSome lent (λ c. c.now.name ≡ name)
found_lent name es None own is = tt
found_lent name es (Some c) own is = found_named name es c.now own (sym is)

pub some_lent : {X : Type 0} (lent : Option (Bor X)) → is_some lent ≡ is_some (option_copied lent)
some_lent None = refl
some_lent (Some x) = refl

-- ---- one more

none_before : {X : Type 0} (name : List ℕ) (es : List (List ℕ × X)) → lookup (same_text name) es ≡ None → position_or_len (same_text name) (keys_of es) ≡ length es
none_before name [] none = refl
none_before name (e ∷ es) none = by (same_text name e.0) refl none (none_before name es)
  where
    by : (b : Bool) → same_text name e.0 ≡ b → cond b (Some e.1) (lookup (same_text name) es) ≡ None → (lookup (same_text name) es ≡ None → position_or_len (same_text name) (keys_of es) ≡ length es)
        → position_or_len (same_text name) (keys_of (e ∷ es)) ≡ suc (length es)
    by true s none rest = absurd cc
    by false s none rest = ap (λ b. cond (not b) (1 + position_or_len (same_text name) (keys_of es)) 0) s ∙ omega (arith, rest none)

last_at : {X : Type 0} (xs : List X) (x : X) → slice_get (xs ++ x ∷ []) (length xs) ≡ Some x
last_at [] x = refl
last_at (y ∷ xs) x = last_at xs x

without_last : {X : Type 0} (xs : List X) (x : X) → remove (xs ++ x ∷ []) (length xs) ≡ xs
without_last [] x = refl
without_last (y ∷ xs) x = ap (λ l. y ∷ l) (without_last xs x)

-- what comes last and is moved to a place is put there
moved_last : {X : Type 0} (xs : List X) (x : X) (place : ℕ) → move_index (xs ++ x ∷ []) (length xs) place ≡ insert xs place x
moved_last xs x place = rw (last_at xs x) (ap (λ l. insert l place x) (without_last xs x))

put_last : {X : Type 0} (name : List ℕ) (x : X) (es : List (List ℕ × X)) → lookup (same_text name) es ≡ None → insert_entry same_text es name x ≡ es ++ (name, x) ∷ []
put_last name x [] none = refl
put_last name x (e ∷ es) none = by (same_text name e.0) refl none (put_last name x es)
  where
    by : (b : Bool) → same_text name e.0 ≡ b → cond b (Some e.1) (lookup (same_text name) es) ≡ None → (lookup (same_text name) es ≡ None → insert_entry same_text es name x ≡ es ++ (name, x) ∷ [])
        → insert_entry same_text (e ∷ es) name x ≡ e ∷ es ++ (name, x) ∷ []
    by true s none rest = absurd cc
    by false s none rest = rw s (ap (λ l. e ∷ l) (rest none))

-- a new name and what it stands for are put in their place
put_at : {X : Type 0} (name : List ℕ) (x : X) (es : List (List ℕ × X)) (place : ℕ) → lookup (same_text name) es ≡ None
    → move_index (insert_entry same_text es name x) (position_or_len (same_text name) (keys_of es)) place ≡ insert es place (name, x)
put_at name x es place none = (λ i. move_index (put_last name x es none i) (none_before name es none i) place) ∙ moved_last es (name, x) place

map_put : {X Y : Type 0} (f : X → Y) (xs : List X) (place : ℕ) (x : X) → map f (insert xs place x) ≡ insert (map f xs) place (f x)
map_put f [] zero x = refl
map_put f [] (suc place) x = refl
map_put f (y ∷ xs) zero x = refl
map_put f (y ∷ xs) (suc place) x = ap (λ l. f y ∷ l) (map_put f xs place x)

none_there : {X : Type 0} (name : List ℕ) (es : List (List ℕ × X)) → has (keys_of es) name ≡ false → lookup (same_text name) es ≡ None
none_there {X} name es h = by (lookup (same_text name) es) refl
  where
    by : (o : Option X) → lookup (same_text name) es ≡ o → o ≡ None
    by None e = refl
    by (Some x) e = absurd (true≢false (sym (ap is_some e) ∙ found_there name es ∙ h))

-- a command in the place of its name: the names are those with it, and each is still that of its command
pub entered : {B : Type 0} (es after : List (List ℕ × Command B)) (command : Command B) (name : List ℕ) (place : ℕ) → name ≡ command.name → place ≡ place_for command.name (keys_of es)
    → has (keys_of es) command.name ≡ false → command_names (values_of es) ≡ keys_of es
    → after ≡ move_index (insert_entry same_text es name command) (position_or_len (same_text name) (keys_of es)) place
    → (keys_of after ≡ in_place command.name (keys_of es)) × (command_names (values_of after) ≡ keys_of after)
entered {B} es after command name place named is new own made = (keys ∙ ap (λ n. insert (keys_of es) n command.name) is ∙ put_in_place (keys_of es) command.name, values ∙ sym keys)
  where
    put : after ≡ insert es place (command.name, command)
    put = made ∙ (λ i. move_index (insert_entry same_text es (named i) command) (position_or_len (same_text (named i)) (keys_of es)) place) ∙ put_at command.name command es place (none_there command.name es new)

    keys : keys_of after ≡ insert (keys_of es) place command.name
    keys = ap keys_of put ∙ map_put (λ e. e.0) es place (command.name, command)

    values : command_names (values_of after) ≡ insert (keys_of es) place command.name
    values =
        ap (λ (l : List (List ℕ × Command B)). command_names (values_of l)) put ∙ ap command_names (map_put (λ e. e.1) es place (command.name, command))
        ∙ map_put (λ (c : Command B). c.name) (values_of es) place command ∙ ap (λ ns. insert ns place command.name) own
