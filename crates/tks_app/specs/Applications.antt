-- Commands of the application: what one answers, which names there are, and when one may join others (this project's own
-- rules).
use Rattle.std.specs.Prelude.{◌≡◌, ℕ, suc, Bool, true, false, not, ◌&&◌, ◌||◌, ◌==◌, nat_le, if◌then◌else◌, List, [], ◌∷◌, length, map, refl}
use Rattle.std.specs.Coded.{Coded, code_by, coded×, coded_list, coded_ℕ}
use Rattle.std.specs.List.{list_all}
use Rattle.std.specs.Ordering.{is_lt, nat_cmp}
use Rattle.std.specs.Cmp.Lexicographic.{slice_cmp}
use Rattle.tks_text.specs.Text.{same_text, begins_dot}
use Rattle.tks_tcl.specs.Names.{is_built_in}
use Rattle.tks_app.specs.declared.answer.AppAnswer.{AppAnswer}
use Rattle.tks_app.specs.declared.apps.AddRefusal.{AddRefusal}
use Rattle.tks_app.specs.declared.apps.AddRefusal.TheVariants.{BadName, Twice, NoMemory}

-- what a command answers, from its name, its memory and the words behind the name
abbrev pub Meaning : Type 0
Meaning = List ℕ → List ℕ → List (List ℕ) → AppAnswer

-- a command: its name, and what it runs
pub record Command (B : Type 0) : Type 0 where
  pub name : List ℕ
  pub body : B

-- commands can be told apart where what they run can
abbrev pub command_code : {B : Type 0} → Coded B → Coded (Command B)
command_code {B} body =
    code_by (List ℕ × B) (coded× (coded_list coded_ℕ) body) (λ c. (c.name, c.body)) (λ p. record { name = p.0; body = p.1 }) (λ _. refl)

-- the names of commands
abbrev pub command_names : {B : Type 0} → List (Command B) → List (List ℕ)
command_names commands = map (λ c. c.name) commands

-- a letter, a digit, an underscore or a dot
abbrev pub is_name_byte : ℕ → Bool
is_name_byte c = (nat_le 65 c && nat_le c 90) || (nat_le 97 c && nat_le c 122) || (nat_le 48 c && nat_le c 57) || (c == 95) || (c == 46)

-- 1 to 64 letters, digits, underscores and dots, of which the first is no dot; no built-in command has this name
abbrev pub is_name : List ℕ → Bool
is_name name = nat_le 1 (length name) && nat_le (length name) 64 && list_all is_name_byte name && not (begins_dot name) && not (is_built_in name)

-- whether a name is among names
abbrev pub has : List (List ℕ) → List ℕ → Bool
has [] name = false
has (n ∷ names) name = same_text n name || has names name

-- a name comes before another, by their bytes
abbrev pub comes_before : List ℕ → List ℕ → Bool
comes_before name other = is_lt (slice_cmp nat_cmp name other)

-- names with one more, in its place
abbrev pub in_place : List ℕ → List (List ℕ) → List (List ℕ)
in_place name [] = name ∷ []
in_place name (other ∷ names) = if comes_before name other then name ∷ other ∷ names else other ∷ in_place name names

-- names with a command's among them
abbrev pub with_name : {B : Type 0} → Command B → List (List ℕ) → List (List ℕ)
with_name command names = in_place command.name names

-- that place: how many come before it
abbrev pub place_for : List ℕ → List (List ℕ) → ℕ
place_for name [] = 0
place_for name (other ∷ names) = if comes_before name other then 0 else suc (place_for name names)

-- a name comes before the first of these, if there is one
abbrev pub Leads : List ℕ → List (List ℕ) → Type 0
Leads name [] = Unit {0}
Leads name (other ∷ names) = comes_before name other ≡ true

-- names that commands may have, which rise by their bytes: no two are the same
abbrev pub AreNames : List (List ℕ) → Type 0
AreNames [] = Unit {0}
AreNames (name ∷ names) = (is_name name ≡ true) × Leads name names × AreNames names

-- an application: the names of its commands, and what they mean
pub record Application : Type 0 where
  pub names : List (List ℕ)
  pub meaning : Meaning

-- a command of this name may join commands of those names
abbrev pub Joins : List (List ℕ) → List ℕ → Type 0
Joins names name = (is_name name ≡ true) × (has names name ≡ false)

-- why it doesn't join; memory may be refused to one that may
abbrev pub RefusedFor : List (List ℕ) → List ℕ → AddRefusal → Type 0
RefusedFor names name BadName = is_name name ≡ false
RefusedFor names name Twice = (is_name name ≡ true) × (has names name ≡ true)
RefusedFor names name NoMemory = Joins names name
