-- How the elements of a list are written (this project's own rule).
use Rattle.std.specs.Prelude.{ℕ, zero, suc, ◌+◌, Option, Some, None, Bool, false, ◌||◌, ◌&&◌, ◌==◌, not, List, [], ◌∷◌, ◌++◌, if◌then◌else◌}
use Rattle.std.specs.List.{list_all}
use Rattle.tks_text.specs.Integer.{is_space}

-- printing characters that have a meaning in scripts: " $ ; [ ] \ { }
abbrev pub is_sign : ℕ → Bool
is_sign c = (c == 34) || (c == 36) || (c == 59) || (c == 91) || (c == 93) || (c == 92) || (c == 123) || (c == 125)

-- characters that no element has when it stands bare
abbrev pub is_special : ℕ → Bool
is_special c = is_space c || is_sign c

-- how many braces are open behind one more character, or nothing where it closes one that isn't open
abbrev pub less_one : ℕ → Option ℕ
less_one zero = None
less_one (suc n) = Some n

abbrev pub held_after : ℕ → ℕ → Option ℕ
held_after held c = if c == 125 then less_one held else (if c == 123 then Some (held + 1) else Some held)

abbrev pub where_some : Option ℕ → (ℕ → Bool) → Bool
where_some None test = false
where_some (Some n) test = test n

-- no front of a text has more closing than opening braces, and the whole as many, where some are open
abbrev pub balances : ℕ → List ℕ → Bool
balances held [] = held == 0
balances held (c ∷ e) = where_some (held_after held c) (λ n. balances n e)

-- whether an element may stand bare: it has none of these characters, is not empty and begins no comment
abbrev pub stands_bare : List ℕ → Bool
stands_bare [] = false
stands_bare (c ∷ e) = not (c == 35) && list_all (λ c. not (is_special c)) (c ∷ e)

-- whether it may stand in braces: it has no backslash, and its braces balance
abbrev pub stands_in_braces : List ℕ → Bool
stands_in_braces e = list_all (λ c. not (c == 92)) e && balances 0 e

-- ---- the three forms of an element

abbrev pub in_braces : List ℕ → List ℕ
in_braces e = 123 ∷ e ++ 125 ∷ []

abbrev pub backslashed_char : ℕ → List ℕ
backslashed_char c =
    if c == 10 then 92 ∷ 110 ∷ []
    else (if c == 9 then 92 ∷ 116 ∷ []
    else (if (c == 32) || is_sign c then 92 ∷ c ∷ []
    else c ∷ []))

abbrev pub backslashed_chars : List ℕ → List ℕ
backslashed_chars [] = []
backslashed_chars (c ∷ e) = backslashed_char c ++ backslashed_chars e

-- in backslash form
abbrev pub backslashed : List ℕ → List ℕ
backslashed [] = in_braces []
backslashed (c ∷ e) = if c == 35 then 92 ∷ 35 ∷ backslashed_chars e else backslashed_chars (c ∷ e)

-- bare where it may be, else in braces where it may be, else in backslash form
abbrev pub quoted : List ℕ → List ℕ
quoted e = if stands_bare e then e else (if stands_in_braces e then in_braces e else backslashed e)

-- ---- lists

-- the elements behind the first, each with a space before it
abbrev pub spaced : List (List ℕ) → List ℕ
spaced [] = []
spaced (e ∷ l) = 32 ∷ quoted e ++ spaced l

abbrev pub joined : List (List ℕ) → List ℕ
joined [] = []
joined (e ∷ l) = quoted e ++ spaced l
