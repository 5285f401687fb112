-- The paths of windows (options(n) has them as names of windows; which texts are one is this project's
-- own rule): `.`, or names each with a dot before it.
use Rattle.std.specs.Prelude.{ℕ, Bool, false, ◌||◌, ◌&&◌, ◌==◌, not, nat_le, if◌then◌else◌, List, [], ◌∷◌, length, Option, Some, None}
use Rattle.std.specs.List.{list_all, slice_split}
use Rattle.std.specs.Option.{option_map}
use Rattle.tks_text.specs.Text.{same_text, begins_dot}

abbrev pub is_upper : ℕ → Bool
is_upper c = nat_le 65 c && nat_le c 90

-- a letter, a digit or an underscore
abbrev pub is_name_byte : ℕ → Bool
is_name_byte c = is_upper c || (nat_le 97 c && nat_le c 122) || (nat_le 48 c && nat_le c 57) || (c == 95)

abbrev pub begins_upper : List ℕ → Bool
begins_upper [] = false
begins_upper (c ∷ name) = is_upper c

-- 1 to 64 letters, digits and underscores, of which the first is no upper-case letter
abbrev pub is_name : List ℕ → Bool
is_name name = nat_le 1 (length name) && nat_le (length name) 64 && list_all is_name_byte name && not (begins_upper name)

abbrev pub is_dot : ℕ → Bool
is_dot c = c == 46

-- the path of the first window
abbrev pub root_path : List ℕ
root_path = 46 ∷ []

-- names with dots between them
abbrev pub are_names : List ℕ → Bool
are_names names = list_all is_name (slice_split is_dot names)

abbrev pub are_names_behind_dot : List ℕ → Bool
are_names_behind_dot [] = false
are_names_behind_dot (c ∷ names) = is_dot c && are_names names

abbrev pub is_path : List ℕ → Bool
is_path path = same_text path root_path || are_names_behind_dot path

-- what stands before a dot: this, where there is one further on, or nothing before this one
abbrev pub before_dot : ℕ → Option (List ℕ) → Option (List ℕ)
before_dot c None = if is_dot c then Some [] else None
before_dot c (Some front) = Some (c ∷ front)

-- what stands before the last dot
abbrev pub before_last_dot : List ℕ → Option (List ℕ)
before_last_dot [] = None
before_last_dot (c ∷ path) = before_dot c (before_last_dot path)

abbrev pub or_root : List ℕ → List ℕ
or_root [] = root_path
or_root (c ∷ path) = c ∷ path

-- the path of the window that a path other than `.` stands in: what is before its last dot, or `.`
abbrev pub parent_of : List ℕ → Option (List ℕ)
parent_of path = if same_text path root_path then None else option_map or_root (before_last_dot path)

abbrev pub is_text : List ℕ → Option (List ℕ) → Bool
is_text text None = false
is_text text (Some other) = same_text text other

-- whether a window of the second path stands right in that of the first
abbrev pub is_child : List ℕ → List ℕ → Bool
is_child parent path = is_text parent (parent_of path)

-- whether the second path is the first, a dot and more
abbrev pub goes_on : List ℕ → List ℕ → Bool
goes_on [] path = begins_dot path
goes_on (b ∷ front) [] = false
goes_on (b ∷ front) (c ∷ path) = (c == b) && goes_on front path

-- whether a window of the second path is that of the first, or stands in it, however deep
abbrev pub is_within : List ℕ → List ℕ → Bool
is_within window path = same_text window root_path || (same_text window path || goes_on window path)
