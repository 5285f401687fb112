-- What the code returned, against what reading gives, unless memory was refused.
use Rattle.std.specs.Prelude.{◌≡◌, ℕ, List, [], ◌∷◌, ◌++◌, drop, Option, Some, None, Result, Ok, Err}
use Rattle.std.specs.Option.{option_map}
use Rattle.tks_text.specs.Run.{Step, stop, fails, takes, Run}
use Rattle.tks_list.specs.ListText.{Splits}
use Rattle.tks_list.specs.Cuts.{cut}
use Rattle.tks_list.specs.Reading.{list_of}
use Rattle.tks_list.specs.declared.fault.ListFault.{ListFault}
use Rattle.tks_list.specs.declared.reading.Found.{Found}
use Rattle.tks_list.specs.declared.reading.Found.TheVariants.{In, Made}
use Rattle.tks_list.specs.declared.fault.ListFault.TheVariants.{NoMemory, NotAList}

abbrev pub FailsStep : {R : Type 0} → ListFault → Step ListFault R → Type 0
FailsStep NoMemory s = Unit {0}
FailsStep NotAList s = s ≡ fails NotAList

-- the step that was found: none, one with this view, or a fault
abbrev pub GivesStep : {X R : Type 0} → (X → Step ListFault R) → Result (Option X) ListFault → Step ListFault R → Type 0
GivesStep view (Ok None) s = s ≡ stop
GivesStep view (Ok (Some x)) s = s ≡ view x
GivesStep view (Err e) s = FailsStep e s

abbrev pub FailsRun : {R : Type 0} → ListFault → Run ListFault R → Type 0
FailsRun NoMemory r = Unit {0}
FailsRun NotAList r = r.fault ≡ Some NotAList

-- the items that were found, with this view, or a fault
abbrev pub GivesRun : {X R : Type 0} → (X → Run ListFault R) → Result X ListFault → Run ListFault R → Type 0
GivesRun view (Ok x) r = r ≡ view x
GivesRun view (Err e) r = FailsRun e r

abbrev pub taken_char : ℕ × ℕ → Step ListFault (List ℕ)
taken_char x = takes (λ e. x.0 ∷ e) x.1

abbrev pub run_of_chars : List ℕ → ℕ → Run ListFault (List ℕ)
run_of_chars e n = record { items = e; fault = None; taken = n }

-- the characters that were found in a text, or made
abbrev pub chars_found : List ℕ → List ℕ → Found → List ℕ
chars_found made t (In span) = cut t span
chars_found made t Made = made

abbrev pub run_found : List ℕ → List ℕ → Found × ℕ → Run ListFault (List ℕ)
run_found made t x = run_of_chars (chars_found made t x.0) x.1

-- the element that was found, if there was one
abbrev pub element_found : List ℕ → List ℕ → Option Found → List (List ℕ)
element_found made t None = []
element_found made t (Some found) = chars_found made t found ∷ []

abbrev pub taken_element : List ℕ → List ℕ → Option Found × ℕ → Step ListFault (List (List ℕ))
taken_element made t x = takes (λ l. element_found made t x.0 ++ l) x.1

-- the list that a call read, or that there is none
abbrev pub ListRead : Result (List (List ℕ)) ListFault → Option (List (List ℕ)) → Type 0
ListRead (Ok l) o = o ≡ Some l
ListRead (Err NotAList) o = o ≡ None
ListRead (Err NoMemory) o = Unit {0}

-- a list with these elements before it
abbrev pub behind_list : List (List ℕ) → Option (List (List ℕ)) → Option (List (List ℕ))
behind_list front o = option_map (λ l. front ++ l) o

-- a step of reading a text, with these elements before it and those behind it: with the bytes that it took it leaves the
-- list as it is, and at the end that is these
abbrev pub ListGoes : List ℕ → List (List ℕ) → List (List ℕ) → Result (Option ℕ) ListFault → Type 0
ListGoes t old new (Ok None) = behind_list old (list_of t) ≡ Some new
ListGoes t old new (Ok (Some n)) = behind_list new (list_of (drop n t)) ≡ behind_list old (list_of t)
ListGoes t old new (Err e) = ListRead (Err e) (behind_list old (list_of t))

-- the same of the text: it splits into the list, or into none
abbrev pub SplitsSo : Result (List (List ℕ)) ListFault → List ℕ → Type 0
SplitsSo (Ok l) t = Splits t l
SplitsSo (Err NotAList) t = (l : List (List ℕ)) → ¬ Splits t l
SplitsSo (Err NoMemory) t = Unit {0}
