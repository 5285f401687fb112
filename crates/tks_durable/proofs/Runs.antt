-- Runs over lists of inputs, and over the inputs of frames.
use Rattle.std.proofs.Common.{◌≡◌, ℕ, List, [], ◌∷◌, ◌++◌, Option, Some, None, Result, Ok, Err, refl, sym, ◌∙◌, ap, append_assoc, append-nil}
use Rattle.tks_disk.specs.declared.disk.Side.{Side}
use Rattle.tks_input.specs.declared.input.Input.{Input}
use Rattle.tks_spelling.specs.declared.format.Format.{Format}
use Rattle.tks_spelling.specs.declared.header.Header.{Header}
use Rattle.tks_journal.specs.Sides.{Kept, with_frames, with_front, live_of}
use Rattle.tks_journal.specs.declared.fault.SideFault.{SideFault}
use Rattle.tks_durable.specs.Inputs.{with_input, frame_in, inputs_of, and_then}
use Rattle.tks_durable.specs.Machine.{Meaning}
use Rattle.tks_durable.specs.Opening.{run, then_input, with_inputs, with_bodies, restored, admitted, opened}
use Rattle.tks_durable.specs.declared.fault.SessionFault.{SessionFault}
use Rattle.tks_durable.specs.declared.fault.SessionFault.TheVariants.{Damaged}

-- the inputs of frames, and of one more
pub inputs_more : (format : Format) (bodies : List (List ℕ)) (body : List ℕ) (inputs : List Input) → frame_in format body ≡ Some inputs → inputs_of format (bodies ++ body ∷ []) ≡ and_then (inputs_of format bodies) (Some inputs)
inputs_more format [] body inputs is = ap (λ o. and_then o (Some [])) is ∙ ap Some (append-nil inputs)
inputs_more format (first ∷ bodies) body inputs is = ap (and_then (frame_in format first)) (inputs_more format bodies body inputs is) ∙ regroup (frame_in format first) (inputs_of format bodies)
  where
    regroup : (a b : Option (List Input)) → and_then a (and_then b (Some inputs)) ≡ and_then (and_then a b) (Some inputs)
    regroup None b = refl
    regroup (Some x) None = refl
    regroup (Some x) (Some y) = ap Some (sym (append_assoc x y inputs))

module _ {W : Type 0} (m : Meaning W) where
  -- a run over two lists is one run behind the other
  pub run_on : (start : Result W SessionFault) (first second : List Input) → run m start (first ++ second) ≡ run m (run m start first) second
  run_on start [] second = refl
  run_on start (input ∷ first) second = run_on (then_input m start input) first second

  -- an input, and those behind it
  pub input_first : (start : Result W SessionFault) (input : Input) (others : Option (List Input)) → with_inputs m start (with_input input others) ≡ with_inputs m (then_input m start input) others
  input_first start input None = refl
  input_first start input (Some inputs) = refl

  -- a fault stays
  pub run_fault : (fault : SessionFault) (inputs : List Input) → run m (Err fault) inputs ≡ Err fault
  run_fault fault [] = refl
  run_fault fault (input ∷ inputs) = run_fault fault inputs

  damaged_on : (found : Option (List Input)) → with_inputs m (Err Damaged) found ≡ Err Damaged
  damaged_on None = refl
  damaged_on (Some inputs) = run_fault Damaged inputs

  -- the inputs of a frame, and those of the others
  both : (start : Result W SessionFault) (a b : Option (List Input)) → with_inputs m start (and_then a b) ≡ with_inputs m (with_inputs m start a) b
  both start None b = sym (damaged_on b)
  both start (Some x) None = refl
  both start (Some x) (Some y) = run_on start x y

  pub body_first : (format : Format) (start : Result W SessionFault) (body : List ℕ) (others : Option (List (List ℕ)))
      → with_bodies m format start (with_front body others) ≡ with_bodies m format (with_inputs m start (frame_in format body)) others
  body_first format start body None = refl
  body_first format start body (Some bodies) = both start (frame_in format body) (inputs_of format bodies)

  pub damaged_stays : (format : Format) (others : Option (List (List ℕ))) → with_bodies m format (Err Damaged) others ≡ Err Damaged
  damaged_stays format None = refl
  damaged_stays format (Some bodies) = damaged_on (inputs_of format bodies)

  one_more : (format : Format) (start : Result W SessionFault) (bodies : List (List ℕ)) (body : List ℕ) (inputs : List Input) → frame_in format body ≡ Some inputs
      → with_inputs m start (inputs_of format (bodies ++ body ∷ [])) ≡ run m (with_inputs m start (inputs_of format bodies)) inputs
  one_more format start bodies body inputs is = ap (with_inputs m start) (inputs_more format bodies body inputs is) ∙ both start (inputs_of format bodies) (Some inputs)

  behind_world : (format : Format) (header : Header) (found : Option W) (bodies : List (List ℕ)) (body : List ℕ) (inputs : List Input) → frame_in format body ≡ Some inputs
      → restored m format header found (bodies ++ body ∷ []) ≡ run m (restored m format header found bodies) inputs
  behind_world format header None bodies body inputs is = sym (run_fault Damaged inputs)
  behind_world format header (Some world) bodies body inputs is = one_more format (admitted m header world) bodies body inputs is

  -- what is held opens to, with a frame more
  pub frame_more : (held : Result (Option Kept) SideFault) (live : Side × Format × ℕ) (body : List ℕ) (inputs : List Input) → live_of held ≡ Some live → frame_in live.1 body ≡ Some inputs
      → opened m (with_frames (body ∷ []) held) ≡ run m (opened m held) inputs
  frame_more (Err fault) live body inputs is_live is = absurd (cc is_live)
  frame_more (Ok None) live body inputs is_live is = absurd (cc is_live)
  frame_more (Ok (Some k)) live body inputs is_live is =
      let same : (k.live, k.format, k.header.generation) ≡ live = cc is_live in
      behind_world k.format k.header (m.stored k.format k.header k.world) k.bodies body inputs (ap (λ (l : Side × Format × ℕ). frame_in l.1 body) same ∙ is)
