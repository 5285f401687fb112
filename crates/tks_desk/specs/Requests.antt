-- What the input asks for (this project's own rule).
use Rattle.std.specs.Prelude.{◌≡◌, ℕ, zero, suc, ◌-◌, nat_le, nat_lt, if◌then◌else◌, List, [], ◌∷◌, take, drop, length, codes, Option, Some, None}
use Rattle.tks_text.specs.Text.{is_text, same_text}
use Rattle.tks_input.specs.declared.input.Input.{Input}
use Rattle.tks_input.specs.declared.input.Input.TheVariants.{Script, KeyPress, KeyRelease, Press, Release, Clock, Turn, Rules}
use Rattle.tks_desk.specs.Lines.{first_line, after_line, past_newline}
use Rattle.tks_desk.specs.Reading.{max_line}
use Rattle.tks_desk.specs.Words.{is_word, number_in, pointed_in, split_word}
use Rattle.tks_desk.specs.declared.words.Pointed.{Pointed}
use Rattle.tks_desk.specs.declared.words.Pointed.TheVariants.{Unread, Beyond, At}
use Rattle.tks_desk.specs.declared.request.Request.{Request}
use Rattle.tks_desk.specs.declared.request.Request.TheVariants.{Post, Unfit, Drain, Screen, Faults, Commit, Checkpoint, Quit, Bad}
use Rattle.tks_desk.specs.declared.request.Asked.{Asked}
use Rattle.tks_desk.specs.declared.request.Asked.TheVariants.{Alone, Load}

-- ---- a line

-- the most bytes that a script has which is loaded
abbrev pub max_load : ℕ
max_load = 1_048_576

-- the most turns that are drained
abbrev pub max_turns : ℕ
max_turns = 10_000

-- a script of so many bytes, where it may have so many
abbrev pub loads : Option ℕ → Asked
loads None = Alone Bad
loads (Some n) = if nat_le n max_load then Load n else Alone Bad

-- a key: one word
abbrev pub key_asks : (List ℕ → Input) → List ℕ → Asked
key_asks make name = if is_word name then Alone (Post (make name)) else Alone Bad

-- a button and a cell
abbrev pub button_asks : (ℕ → ℕ → ℕ → Input) → Pointed → Asked
button_asks make Unread = Alone Bad
button_asks make Beyond = Alone Unfit
button_asks make (At button x y) = Alone (Post (make button x y))

-- a time
abbrev pub clock_asks : Option ℕ → Asked
clock_asks None = Alone Bad
clock_asks (Some time) = Alone (Post (Clock time))

-- rules by their number, where a byte holds it
abbrev pub max_rules : ℕ
max_rules = 255

abbrev pub rules_asks : Option ℕ → Asked
rules_asks None = Alone Bad
rules_asks (Some number) = if nat_le number max_rules then Alone (Post (Rules number)) else Alone Bad

-- so many turns, where there may be so many
abbrev pub drain_asks : Option ℕ → Asked
drain_asks None = Alone Bad
drain_asks (Some n) = if nat_le n max_turns then Alone (Drain n) else Alone Bad

-- a line that is one word
abbrev pub word_asks : List ℕ → Asked
word_asks line =
    if same_text line (codes "quit") then Alone Quit
    else (if same_text line (codes "screen") then Alone Screen
    else (if same_text line (codes "faults") then Alone Faults
    else (if same_text line (codes "commit") then Alone Commit
    else (if same_text line (codes "checkpoint") then Alone Checkpoint
    else (if same_text line (codes "turn") then Alone (Post Turn)
    else (if same_text line (codes "cmd") then Alone (Post (Script []))
    else Alone Bad))))))

-- a line of a first word and what stands behind the space
abbrev pub words_ask : List ℕ → List ℕ → Asked
words_ask name rest =
    if same_text name (codes "cmd") then Alone (Post (Script rest))
    else (if same_text name (codes "load") then loads (number_in rest)
    else (if same_text name (codes "key") then key_asks (λ key. KeyPress key) rest
    else (if same_text name (codes "keyup") then key_asks (λ key. KeyRelease key) rest
    else (if same_text name (codes "press") then button_asks (λ button x y. Press button x y) (pointed_in rest)
    else (if same_text name (codes "release") then button_asks (λ button x y. Release button x y) (pointed_in rest)
    else (if same_text name (codes "clock") then clock_asks (number_in rest)
    else (if same_text name (codes "rules") then rules_asks (number_in rest)
    else (if same_text name (codes "drain") then drain_asks (number_in rest)
    else Alone Bad))))))))

abbrev pub asked_by : Option (List ℕ × List ℕ) → List ℕ → Asked
asked_by None line = word_asks line
asked_by (Some words) line = words_ask words.0 words.1

-- a line that is a text
abbrev pub asked_of_text : List ℕ → Asked
asked_of_text line = asked_by (split_word line) line

-- a line over the limit, or with a byte that stands in no text, asks for nothing
abbrev pub asked_of : List ℕ → Asked
asked_of line =
    if nat_lt max_line (length line) then Alone Bad
    else (if is_text line then asked_of_text line else Alone Bad)

-- ---- the input

-- the script in these bytes
abbrev pub script_in : List ℕ → Request
script_in bytes = if is_text bytes then Post (Script bytes) else Bad

-- the script that is loaded from what stands behind the line: its first bytes, where they are there
abbrev pub loaded : ℕ → List ℕ → Request
loaded n bytes = if nat_lt (length bytes) n then Bad else script_in (take n bytes)

-- what a line asks for, with what stands behind it
abbrev pub request_by : Asked → List ℕ → Request
request_by (Alone request) bytes = request
request_by (Load n) bytes = loaded n bytes

-- what is left behind that: one newline goes with a script that was loaded
abbrev pub left_by : Asked → List ℕ → List ℕ
left_by (Alone request) bytes = bytes
left_by (Load n) bytes = past_newline (drop n bytes)

abbrev pub first_request : List ℕ → Request
first_request bytes = request_by (asked_of (first_line bytes)) (after_line bytes)

abbrev pub after_request : List ℕ → List ℕ
after_request bytes = left_by (asked_of (first_line bytes)) (after_line bytes)

-- the requests in order, where so many bytes at the front are those of one before
abbrev pub requests_from : ℕ → List ℕ → List Request
requests_from skipped [] = []
requests_from (suc skipped) (b ∷ bytes) = requests_from skipped bytes
requests_from zero (b ∷ bytes) = first_request (b ∷ bytes) ∷ requests_from (length bytes - length (after_request (b ∷ bytes))) bytes

abbrev pub requests_of : List ℕ → List Request
requests_of input = requests_from 0 input

-- ---- what reading a request does

-- the first request is read, and the reader loses its bytes; or there is none
abbrev pub ReadsRequest : List ℕ → Option Request → Option (List ℕ) → Type 0
ReadsRequest bytes None rest = requests_of bytes ≡ []
ReadsRequest bytes (Some request) rest = (left : List ℕ) × (rest ≡ Some left) × (requests_of bytes ≡ request ∷ requests_of left)

-- a script is read, and the reader loses its bytes
abbrev pub LoadsSo : ℕ → List ℕ → Request → Option (List ℕ) → Type 0
LoadsSo n bytes request rest = (request ≡ loaded n bytes) × (rest ≡ Some (past_newline (drop n bytes)))
