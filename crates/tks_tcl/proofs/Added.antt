-- Texts and elements behind a value, and what is refused before it is made.
use Rattle.std.proofs.Common.{◌≡◌, ℕ, ◌+◌, nat_le, Bool, true, false, if◌then◌else◌, List, ◌++◌, length-append, Option, Some, None, Result, Ok, Err, refl, sym, ap, ◌∙◌, arith}
use Rattle.std.proofs.lemmas.Bool.Decides.{nat_tests}
use Rattle.tks_text.specs.declared.limits.Limits.{Limits}
use Rattle.tks_text.specs.Limits.{fits}
use Rattle.tks_list.specs.Growing.{TakesElements, grown}
use Rattle.tks_list.specs.Quoting.{spaced, joined}
use Rattle.tks_list.specs.Reading.{list_of}
use Rattle.tks_tcl.specs.Cause.{Cause, OverLimit, after, within}
use Rattle.tks_tcl.specs.Making.{list_with}
use Rattle.tks_tcl.specs.Meets.{FailsSo}
use Rattle.tks_tcl.specs.declared.interrupt.Interrupt.{Interrupt}
use Rattle.tks_tcl.specs.declared.interrupt.Interrupt.TheVariants as interrupt
use Rattle.tks_tcl.specs.Room.{room_of}
use Rattle.tks_tcl.specs.Variables.{with_elements}
use Rattle.tks_tcl.specs.Words.{list_read, list_in}
use Rattle.tks_tcl.proofs.Lengths.{spaced_len, joined_len, room_of_both}

-- ---- elements that are taken as they are spelled

read_by : (o : Option (List (List ℕ))) (elements : List (List ℕ)) (t : List ℕ) → grown o elements ≡ Some t → after (list_read o) (λ l. Ok (joined (l ++ elements))) ≡ Ok t
read_by (Some l) elements t e = cc
read_by None elements t e = absurd cc

pub elements_taken : (value : List ℕ) (elements : List (List ℕ)) → TakesElements value → with_elements elements value ≡ Ok (value ++ spaced elements)
elements_taken value elements takes = read_by (list_of value) elements (value ++ spaced elements) (takes elements)

-- ---- what passes a limit by itself

module _ (limits : Limits) where
  too_long : (text : List ℕ) → fits limits text ≡ false → within limits text ≡ Err OverLimit
  too_long text over = ap (λ b. if b then Ok text else Err OverLimit) over

  pub behind_too_long : (value more : List ℕ) → fits limits more ≡ false → within limits (value ++ more) ≡ Err OverLimit
  behind_too_long value more over = let len = length-append value more in too_long (value ++ more) (grind (arith, nat_tests))

  module _ (elements : List (List ℕ)) where
    pub elements_too_long : (value : List ℕ) → TakesElements value → nat_le (room_of 1 elements) limits.text ≡ false → after (with_elements elements value) (within limits) ≡ Err OverLimit
    elements_too_long value takes over =
        let least = spaced_len elements in
        ap (λ r. after r (within limits)) (elements_taken value elements takes) ∙ behind_too_long value (spaced elements) (grind (arith, nat_tests))

    with_room : (l : List (List ℕ)) (b : Bool) → nat_le (room_of 1 elements) (limits.text + 1) ≡ b
        → after (if b then Ok (joined (l ++ elements)) else Err OverLimit) (within limits) ≡ within limits (joined (l ++ elements))
    with_room l true e = refl
    with_room l false e =
        let least = joined_len (l ++ elements) in
        let all = room_of_both 1 l elements in
        sym (too_long (joined (l ++ elements)) (grind (arith, nat_tests)))

    list_by : (r : Result (List (List ℕ)) Cause)
        → after (after r (λ l. if nat_le (room_of 1 elements) (limits.text + 1) then Ok (joined (l ++ elements)) else Err OverLimit)) (within limits)
        ≡ after (after r (λ l. Ok (joined (l ++ elements)))) (within limits)
    list_by (Ok l) = with_room l _ refl
    list_by (Err cause) = refl

    -- elements that would pass the limit alone are refused as the list with them would be
    pub list_made : (value : List ℕ) → after (list_with limits value elements) (within limits) ≡ after (with_elements elements value) (within limits)
    list_made value = list_by (list_in value)

    pub list_unmade : (value : List ℕ) (why : Interrupt) → FailsSo why (list_with limits value elements) → FailsSo why (after (with_elements elements value) (within limits))
    list_unmade value (interrupt.Script fault) e = sym (list_made value) ∙ ap (λ r. after r (within limits)) e
    list_unmade value interrupt.TooLarge e = sym (list_made value) ∙ ap (λ r. after r (within limits)) e
    list_unmade value interrupt.NoMemory e = tt
