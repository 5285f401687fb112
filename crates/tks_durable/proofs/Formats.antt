-- What a store of the first format opens to, told in the second.
use Rattle.std.proofs.Common.{◌≡◌, ◌≤◌, ◌<◌, ◌^◌, ℕ, zero, suc, ◌-◌, List, [], ◌∷◌, length, Option, Some, None, Result, Ok, Err, refl, sym, ◌∙◌, ap, subst, arith}
use Rattle.tks_spelling.specs.Input as codec
use Rattle.tks_spelling.specs.Spelling.{Read}
use Rattle.tks_spelling.specs.declared.format.Format.TheVariants.{One, Two}
use Rattle.tks_spelling.specs.declared.header.Header.{Header}
use Rattle.tks_input.specs.declared.input.Input.{Input}
use Rattle.tks_journal.specs.Sides.{AllShort}
use Rattle.tks_durable.specs.Inputs.{and_then, count_in, counted, found, frame_in, frame_of, inputs_from, inputs_in, inputs_of, with_input}
use Rattle.tks_durable.specs.Machine.{Meaning}
use Rattle.tks_durable.specs.Opening.{admitted, restored, with_inputs}
use Rattle.tks_durable.specs.declared.fault.SessionFault.{SessionFault}
use Rattle.tks_durable.specs.declared.fault.SessionFault.TheVariants.{Damaged}
use Rattle.tks_durable.proofs.Pending.{framed}

-- inputs are no more than their bytes
few_from : (skip : ℕ) (bytes : List ℕ) (inputs : List Input) → inputs_from skip bytes ≡ Some inputs → length inputs ≤ length bytes
few_from skip [] inputs e = let none : [] ≡ inputs = cc e in subst (λ (l : List Input). length l ≤ 0) none (omega arith)
few_from (suc skip) (byte ∷ bytes) inputs e = omega (arith, few_from skip bytes inputs e)
few_from zero (byte ∷ bytes) inputs e = by (codec.input_at (byte ∷ bytes)) (λ skip more. few_from skip bytes more) e
  where
    by_others : (input : Input) (others : Option (List Input)) → ((more : List Input) → others ≡ Some more → length more ≤ length bytes) → with_input input others ≡ Some inputs → length inputs ≤ length (byte ∷ bytes)
    by_others input None few e = absurd (cc e)
    by_others input (Some more) few e =
        let is : (input ∷ more) ≡ inputs = cc e in
        subst (λ (l : List Input). length l ≤ length (byte ∷ bytes)) is (omega (arith, few more refl))

    by : (read : Read Input) → ((skip : ℕ) (more : List Input) → inputs_from skip bytes ≡ Some more → length more ≤ length bytes) → found bytes read (λ skip. inputs_from skip bytes) ≡ Some inputs → length inputs ≤ length (byte ∷ bytes)
    by (Err left) few e = absurd (cc e)
    by (Ok x) few e = by_others x.0 (inputs_from (length bytes - length x.1) bytes) (few (length bytes - length x.1)) e

few_in : (bytes : List ℕ) (inputs : List Input) → inputs_in bytes ≡ Some inputs → length inputs ≤ length bytes
unfolding inputs_in
few_in bytes inputs e = few_from 0 bytes inputs e

frame_agrees : (body : List ℕ) (inputs : List Input) → length body < 2 ^ 32 → inputs_in body ≡ Some inputs → frame_in Two (frame_of Two (count_in (inputs_in body)) body) ≡ Some inputs
frame_agrees body inputs short is =
    ap (λ o. frame_in Two (frame_of Two (count_in o) body)) is ∙ framed Two body inputs (omega (arith, few_in body inputs is, short)) is

-- the inputs of frames are those of the frames with their numbers
pub frames_agree : (bodies : List (List ℕ)) (inputs : List Input) → AllShort bodies → inputs_of One bodies ≡ Some inputs → inputs_of Two (counted bodies) ≡ Some inputs
frames_agree [] inputs short e = e
frames_agree (body ∷ bodies) inputs short e = by (inputs_in body) (inputs_of One bodies) (λ y. frames_agree bodies y short.1) refl refl e
  where
    by : (first others : Option (List Input)) → ((y : List Input) → inputs_of One bodies ≡ Some y → inputs_of Two (counted bodies) ≡ Some y) → inputs_in body ≡ first → inputs_of One bodies ≡ others → and_then first others ≡ Some inputs → inputs_of Two (counted (body ∷ bodies)) ≡ Some inputs
    by None others agree is are e = absurd (cc e)
    by (Some x) None agree is are e = absurd (cc e)
    by (Some x) (Some y) agree is are e =
        ap (λ o. and_then o (inputs_of Two (counted bodies))) (frame_agrees body x short.0 is) ∙ ap (and_then (Some x)) (agree y are) ∙ e

-- and so is what they leave
module _ {W : Type 0} (m : Meaning W) (header : Header) (world : List ℕ) (state : W) (same : (w : W) → m.stored One header world ≡ Some w → m.stored Two header world ≡ Some w) where
  with_agree : (w : W) (bodies : List (List ℕ)) → AllShort bodies → with_inputs m (admitted m header w) (inputs_of One bodies) ≡ Ok state → with_inputs m (admitted m header w) (inputs_of Two (counted bodies)) ≡ Ok state
  with_agree w bodies short e = by (inputs_of One bodies) refl e
    where
      by : (inputs : Option (List Input)) → inputs_of One bodies ≡ inputs → with_inputs m (admitted m header w) inputs ≡ Ok state → with_inputs m (admitted m header w) (inputs_of Two (counted bodies)) ≡ Ok state
      by None is e = absurd (cc e)
      by (Some inputs) is e = ap (with_inputs m (admitted m header w)) (frames_agree bodies inputs short is) ∙ e

  pub formats_agree : (bodies : List (List ℕ)) → AllShort bodies → restored m One header (m.stored One header world) bodies ≡ Ok state → restored m Two header (m.stored Two header world) (counted bodies) ≡ Ok state
  formats_agree bodies short e = by (m.stored One header world) refl e
    where
      by : (found : Option W) → m.stored One header world ≡ found → restored m One header found bodies ≡ Ok state → restored m Two header (m.stored Two header world) (counted bodies) ≡ Ok state
      by None is e = absurd (cc e)
      by (Some w) is e = ap (λ o. restored m Two header o (counted bodies)) (same w is) ∙ with_agree w bodies short e
