-- What holds of the commands that run no script: what wider limits keep of them, that errors change nothing (this project's
-- own rules), and what lists answer (split(n), join(n), lrange(n), lsearch(n)).
use Rattle.std.specs.Prelude.{◌≡◌, ◌≢◌, ◌↔◌, ◌<◌, ◌+◌, ℕ, nat_lt, pos, ◌+ℤ◌, if◌then◌else◌, List, [], ◌∷◌, length, position, Option, Some, None, Ok}
use Rattle.std.specs.List.{slice_get}
use Rattle.tks_text.specs.Text.{same_text}
use Rattle.tks_text.specs.declared.limits.Limits.{Limits}
use Rattle.tks_vars.specs.Laws.{FramesStay}
use Rattle.tks_vars.specs.Variables.{Variables}
use Rattle.tks_tcl.specs.Cause.{after}
use Rattle.tks_tcl.specs.Index.{Index, place, before}
use Rattle.tks_tcl.specs.Lists.{split_does, join_does}
use Rattle.tks_tcl.specs.Plain.{Answers, plain}

-- words that come to an answer within the first limits come to the same within the second
abbrev pub AnswersStay : Limits → Limits → Type 0
AnswersStay limits wider = (words : List (List ℕ)) (variables : Variables) (code : ℕ) (text : List ℕ) (new : Variables)
    → plain limits words variables ≡ Some (Answers code text new) → plain wider words variables ≡ Some (Answers code text new)

-- words that are no such command within the first limits are none within the second
abbrev pub OthersStay : Limits → Limits → Type 0
OthersStay limits wider = (words : List (List ℕ)) (variables : Variables) → plain limits words variables ≡ None → plain wider words variables ≡ None

-- a command that ends with an error leaves the variables as they were
abbrev pub ErrorsChangeNothing : Type 0
ErrorsChangeNothing = (limits : Limits) (words : List (List ℕ)) (variables new : Variables) (text : List ℕ) → plain limits words variables ≡ Some (Answers 1 text new) → new ≡ variables

-- a command leaves the frames below the innermost
abbrev pub LeavesFrames : Type 0
LeavesFrames =
    (limits : Limits) (words : List (List ℕ)) (variables new : Variables) (code : ℕ) (text : List ℕ) → plain limits words variables ≡ Some (Answers code text new) → FramesStay variables new

-- a text is split and joined by the same
abbrev pub JoinsBack : List ℕ → Type 0
JoinsBack separators = (split join text : List ℕ)
    → after (split_does split (text ∷ separators ∷ [])) (λ list. join_does join (list ∷ separators ∷ [])) ≡ Ok text

-- the member at a place of a range, where the range goes so far
abbrev pub member_of_range : Index → Index → List (List ℕ) → ℕ → Option (List ℕ)
member_of_range first last l k =
    if nat_lt (before (place first (length l)) + k) (before (place last (length l) +ℤ pos 1)) then slice_get l (before (place first (length l)) + k) else None

-- a member that is the value, and none before it is
pub record IsFirst (value : List ℕ) (l : List (List ℕ)) (n : ℕ) : Type 0 where
  pub is : slice_get l n ≡ Some value
  pub first : (k : ℕ) → k < n → slice_get l k ≢ Some value

-- the place of a value in a list
abbrev pub place_of : List ℕ → List (List ℕ) → Option ℕ
place_of value l = position (λ element. same_text element value) l

abbrev pub FindsFirst : List ℕ → List (List ℕ) → Type 0
FindsFirst value l = (n : ℕ) → (place_of value l ≡ Some n) ↔ IsFirst value l n

abbrev pub MissesNone : List ℕ → List (List ℕ) → Type 0
MissesNone value l = (place_of value l ≡ None) ↔ ((k : ℕ) → slice_get l k ≢ Some value)
