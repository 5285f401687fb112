-- What lines ask for, and which request stands first.
use Rattle.std.proofs.Common.{◌≡◌, ◌≢◌, ◌==◌, ◌-◌, ◌<◌, ◌≤◌, ℕ, true, false, cond, ltb, List, [], ◌∷◌, ◌++◌, length, take, drop, Option, Some, None, refl, sym, ap, subst, ◌∙◌, arith, IfSome, take-append-drop, append_assoc, length-append}
use Rattle.std.proofs.lemmas.Bool.{ltb-true, ltb-false}
use Rattle.tks_text.specs.Text.{is_text}
use Rattle.tks_desk.specs.Lines.{first_line, after_line, past_newline}
use Rattle.tks_desk.specs.Reading.{max_line, IsLine, ReadsLine}
use Rattle.tks_desk.specs.Requests.{asked_of_text, asked_of, request_by, left_by, first_request, after_request, requests_from, requests_of, ReadsRequest, LoadsSo}
use Rattle.tks_desk.specs.declared.input.Line.{Line}
use Rattle.tks_desk.specs.declared.request.Request.{Request}
use Rattle.tks_desk.specs.declared.request.Request.TheVariants.{Bad}
use Rattle.tks_desk.specs.declared.request.Asked.{Asked}
use Rattle.tks_desk.specs.declared.request.Asked.TheVariants.{Alone, Load}

over_limit : (n : ℕ) → max_line < n → ltb max_line n ≡ true
over_limit n h = elim (ltb max_line n) as (λ b. ltb max_line n ≡ b → b ≡ true) [ true ↦ λ e. refl | false ↦ λ e. let le = ltb-false max_line n e in absurd (omega arith) ] refl

in_limit : (n : ℕ) → n ≤ max_line → ltb max_line n ≡ false
in_limit n h = elim (ltb max_line n) as (λ b. ltb max_line n ≡ b → b ≡ false) [ true ↦ λ e. let lt = ltb-true max_line n e in absurd (omega arith) | false ↦ λ e. refl ] refl

-- a line that is not held asks for nothing
pub overlong_is_bad : (line : List ℕ) → max_line < length line → asked_of line ≡ Alone Bad
overlong_is_bad line h = rw (over_limit (length line) h) refl

-- nor does one with a byte that stands in no text
pub no_text_is_bad : (line : List ℕ) → length line ≤ max_line → is_text line ≡ false → asked_of line ≡ Alone Bad
no_text_is_bad line h e = rw (in_limit (length line) h, e) refl

-- another asks what its text asks
pub text_asks : (line : List ℕ) → length line ≤ max_line → is_text line ≡ true → asked_of line ≡ asked_of_text line
text_asks line h e = rw (in_limit (length line) h, e) refl

pub ruleset asks = (overlong_is_bad, no_text_is_bad, text_asks)

-- ---- which request stands first

-- what is left behind a request is the end of the bytes
abbrev Ends : List ℕ → List ℕ → Type 0
Ends bytes left = (front : List ℕ) × (bytes ≡ front ++ left)

ends_within : (bytes mid left : List ℕ) → Ends bytes mid → Ends mid left → Ends bytes left
ends_within bytes mid left first then = (first.0 ++ then.0, first.1 ∙ ap (λ l. first.0 ++ l) then.1 ∙ sym (append_assoc first.0 then.0 left))

ends_line : (b : ℕ) (bytes : List ℕ) → Ends bytes (after_line (b ∷ bytes))
ends_line b [] = elim (b == 10) as (λ t. Ends [] (cond t [] [])) [ true ↦ ([], refl) | false ↦ ([], refl) ]
ends_line b (c ∷ bytes) =
    let later = ends_line c bytes in
    elim (b == 10) as (λ t. Ends (c ∷ bytes) (cond t (c ∷ bytes) (after_line (c ∷ bytes)))) [ true ↦ ([], refl) | false ↦ (c ∷ later.0, ap (λ l. c ∷ l) later.1) ]

ends_newline : (bytes : List ℕ) → Ends bytes (past_newline bytes)
ends_newline [] = ([], refl)
ends_newline (b ∷ bytes) = elim (b == 10) as (λ t. Ends (b ∷ bytes) (cond t bytes (b ∷ bytes))) [ true ↦ (b ∷ [], refl) | false ↦ ([], refl) ]

ends_by : (asked : Asked) (bytes : List ℕ) → Ends bytes (left_by asked bytes)
ends_by (Alone request) bytes = ([], refl)
ends_by (Load n) bytes = ends_within bytes (drop n bytes) (past_newline (drop n bytes)) (take n bytes, sym (take-append-drop n bytes)) (ends_newline (drop n bytes))

ends_request : (b : ℕ) (bytes : List ℕ) → Ends bytes (after_request (b ∷ bytes))
ends_request b bytes = ends_within bytes (after_line (b ∷ bytes)) (after_request (b ∷ bytes)) (ends_line b bytes) (ends_by (asked_of (first_line (b ∷ bytes))) (after_line (b ∷ bytes)))

-- the bytes of a request before are passed over
skipped : (front left : List ℕ) → requests_from (length front) (front ++ left) ≡ requests_of left
skipped [] left = refl
skipped (b ∷ front) left = skipped front left

skipped_to : (bytes left : List ℕ) → Ends bytes left → requests_from (length bytes - length left) bytes ≡ requests_of left
skipped_to bytes left ends =
    let count : length bytes - length left ≡ length ends.0 = omega (arith, ap length ends.1, length-append ends.0 left) in
    ap (λ n. requests_from n bytes) count ∙ ap (requests_from (length ends.0)) ends.1 ∙ skipped ends.0 left

-- the first request, and then those of what is left behind it
pub requests_next : (bytes : List ℕ) → bytes ≢ [] → requests_of bytes ≡ first_request bytes ∷ requests_of (after_request bytes)
requests_next [] some = absurd (some refl)
requests_next (b ∷ bytes) some = ap (λ rs. first_request (b ∷ bytes) ∷ rs) (skipped_to bytes (after_request (b ∷ bytes)) (ends_request b bytes))

first_asks : (bytes : List ℕ) (asked : Asked) → bytes ≢ [] → asked ≡ asked_of (first_line bytes) → requests_of bytes ≡ request_by asked (after_line bytes) ∷ requests_of (left_by asked (after_line bytes))
first_asks bytes asked some is = requests_next bytes some ∙ ap (λ a. request_by a (after_line bytes) ∷ requests_of (left_by a (after_line bytes))) (sym is)

-- a line asks for a request by itself
pub alone_next : (before bytes rest : Option (List ℕ)) (line : Line) (request : Request) → IfSome before (λ xs. bytes ≡ Some xs) → IfSome bytes (λ xs. ReadsLine xs (Some line) rest)
    → ((xs : List ℕ) → IsLine line xs → Alone request ≡ asked_of xs) → IfSome before (λ xs. ReadsRequest xs (Some request) rest)
alone_next None bytes rest line request begins reads asked = tt
alone_next (Some xs) bytes rest line request begins reads asked =
    let line_read = subst (λ o. IfSome o (λ xs. ReadsLine xs (Some line) rest)) begins reads in
    (after_line xs, line_read.2, first_asks xs (Alone request) line_read.0 (asked (first_line xs) line_read.1))

-- or for a script behind it
pub load_next : (before bytes behind rest : Option (List ℕ)) (line : Line) (n : ℕ) (request : Request) → IfSome before (λ xs. bytes ≡ Some xs) → IfSome bytes (λ xs. ReadsLine xs (Some line) behind)
    → ((xs : List ℕ) → IsLine line xs → Load n ≡ asked_of xs) → IfSome behind (λ xs. LoadsSo n xs request rest) → IfSome before (λ xs. ReadsRequest xs (Some request) rest)
load_next None bytes behind rest line n request begins reads asked loads = tt
load_next (Some xs) bytes behind rest line n request begins reads asked loads =
    let line_read = subst (λ o. IfSome o (λ xs. ReadsLine xs (Some line) behind)) begins reads in
    let loaded_so = subst (λ o. IfSome o (λ xs. LoadsSo n xs request rest)) line_read.2 loads in (
      past_newline (drop n (after_line xs)),
      loaded_so.1,
      first_asks xs (Load n) line_read.0 (asked (first_line xs) line_read.1) ∙ ap (λ r. r ∷ requests_of (past_newline (drop n (after_line xs)))) (sym loaded_so.0),
    )

-- or there is none
pub none_next : (before bytes rest : Option (List ℕ)) → IfSome before (λ xs. bytes ≡ Some xs) → IfSome bytes (λ xs. ReadsLine xs None rest) → IfSome before (λ xs. ReadsRequest xs None rest)
none_next None bytes rest begins reads = tt
none_next (Some xs) bytes rest begins reads = ap requests_of (subst (λ o. IfSome o (λ xs. ReadsLine xs None rest)) begins reads)
