-- Names of commands, as names of a header.
use Rattle.std.proofs.Common.{◌≡◌, ℕ, ◌≤◌, ◌==◌, ◌&&◌, ◌||◌, not, Bool, true, false, leb, List, [], ◌∷◌, length, Some, refl, arith}
use Rattle.std.specs.List.{AllByRecursion, list_all}
use Rattle.std.proofs.lemmas.Bool.{and_from, and_parts, leb-true, le-leb, eqb-true}
use Rattle.tks_text.specs.Text.{is_text_byte, IsText, begins_dot}
use Rattle.tks_spelling.specs.Header as header
use Rattle.tks_spelling.specs.Spelling.{Rise, text}
use Rattle.tks_tcl.specs.Names.{is_built_in}
use Rattle.tks_app.specs.Applications.{is_name_byte, is_name, Leads, AreNames}

-- ---- what stands in names

or_else : {A : Type 0} (b c : Bool) → (b || c) ≡ true → (b ≡ true → A) → (c ≡ true → A) → A
or_else true c h f g = f refl
or_else false c h f g = g h

or_right : (b c : Bool) → c ≡ true → (b || c) ≡ true
or_right true c h = refl
or_right false c h = h

-- a printing character stands in texts
prints : (c : ℕ) → 32 ≤ c → c ≤ 126 → is_text_byte c ≡ true
prints c least most = or_right (c == 9 || c == 10) (leb 32 c && leb c 126) (and_from (leb 32 c) (leb c 126) (le-leb 32 c least) (le-leb c 126 most))

within : (a b c : ℕ) → 32 ≤ a → b ≤ 126 → (leb a c && leb c b) ≡ true → is_text_byte c ≡ true
within a b c low high h =
    let both = and_parts (leb a c) (leb c b) h in
    let least = leb-true a c both.0 in
    let most = leb-true c b both.1 in
    prints c (omega (arith, low, least)) (omega (arith, high, most))

same : (a c : ℕ) → 32 ≤ a → a ≤ 126 → (c == a) ≡ true → is_text_byte c ≡ true
same a c low high h = let is = eqb-true c a h in prints c (omega (arith, low, is)) (omega (arith, high, is))

text_byte : (c : ℕ) → is_name_byte c ≡ true → is_text_byte c ≡ true
text_byte c h =
    or_else ((leb 65 c && leb c 90) || (leb 97 c && leb c 122) || (leb 48 c && leb c 57) || (c == 95)) (c == 46) h
    (λ h. or_else ((leb 65 c && leb c 90) || (leb 97 c && leb c 122) || (leb 48 c && leb c 57)) (c == 95) h
    (λ h. or_else ((leb 65 c && leb c 90) || (leb 97 c && leb c 122)) (leb 48 c && leb c 57) h
    (λ h. or_else (leb 65 c && leb c 90) (leb 97 c && leb c 122) h
    (within 65 90 c (omega arith) (omega arith)) (within 97 122 c (omega arith) (omega arith)))
    (within 48 57 c (omega arith) (omega arith)))
    (same 95 c (omega arith) (omega arith)))
    (same 46 c (omega arith) (omega arith))

name_text : (name : List ℕ) → list_all is_name_byte name ≡ true → IsText name
name_text [] h = tt
name_text (c ∷ name) h = let both = and_parts (is_name_byte c) (list_all is_name_byte name) h in (text_byte c both.0, name_text name both.1)

-- what makes a name
pub name_parts : (name : List ℕ) → is_name name ≡ true → (length name ≤ 64) × IsText name
name_parts name h =
    let four = and_parts (leb 1 (length name) && leb (length name) 64 && list_all is_name_byte name && not (begins_dot name)) (not (is_built_in name)) h in
    let three = and_parts (leb 1 (length name) && leb (length name) 64 && list_all is_name_byte name) (not (begins_dot name)) four.0 in
    let two = and_parts (leb 1 (length name) && leb (length name) 64) (list_all is_name_byte name) three.0 in
    let one = and_parts (leb 1 (length name)) (leb (length name) 64) two.0 in
    (leb-true (length name) 64 one.1, name_text name two.1)

-- ---- names of commands

rise_behind : (name : List ℕ) (names : List (List ℕ)) → Leads name names → AreNames names → Rise (λ n. n) (Some name) names
rise_behind name [] leads are = tt
rise_behind name (other ∷ names) leads are = (leads, rise_behind other names are.1 are.2)

pub header_names : (names : List (List ℕ)) → AreNames names → header.AreNames names
header_names [] are = tt
header_names (name ∷ names) are = (refl, rise_behind name names are.1 are.2)

pub header_texts : (names : List (List ℕ)) → AreNames names → AllByRecursion text.Legal names
header_texts [] are = tt
header_texts (name ∷ names) are = let parts = name_parts name are.0 in ((omega (arith, parts.0), parts.1), header_texts names are.2)
