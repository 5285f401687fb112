-- The inputs that wait, and their bytes.
use Rattle.std.proofs.Common.{◌≡◌, ◌≢◌, ◌<◌, ◌≤◌, ◌^◌, inl, inr, ℕ, ◌+◌, ◌==◌, nat_lt, true, false, cond, List, [], ◌∷◌, ◌++◌, length, drop, None, Some, refl, sym, ◌∙◌, ap, append-nil, arith}
use Rattle.std.proofs.lemmas.Grind.{flat_map-append}
use Rattle.std.proofs.lemmas.Bool.Decides.{nat_tests}
use Rattle.std.proofs.lemmas.List.{length-append, take_at, drop_at}
use Rattle.std.proofs.lemmas.Nat.{from_be_bytes-to_be_bytes_4}
use Rattle.std.specs.Int.{w32, from_be_bytes, to_be_bytes}
use Rattle.std.specs.List.{AllByRecursion}
use Rattle.tks_spelling.specs.Input as codec
use Rattle.tks_spelling.specs.declared.format.Format.{Format}
use Rattle.tks_spelling.specs.declared.format.Format.TheVariants.{One, Two}
use Rattle.tks_spelling.proofs.Inputs.{input_filled}
use Rattle.tks_input.specs.declared.input.Input.{Input}
use Rattle.tks_durable.specs.Inputs.{frame_in, frame_of, inputs_in, lead_length, so_many, spelled}
use Rattle.tks_journal.specs.Journal.{JournalState}
use Rattle.tks_journal.specs.Sides.{size_at}
use Rattle.tks_durable.specs.Durable.{HasRoom, IsPending, committed, gate_behind, has_room_at, or_none}
use Rattle.tks_durable.proofs.Reading.{read_all}

not_short : (n : ℕ) → 4 ≤ n → nat_lt n 4 ≡ false
not_short n le = grind (arith, nat_tests)

same_number : (n : ℕ) → (n == n) ≡ true
same_number n = grind (arith, nat_tests)

-- they are read from their bytes
pub are_read : (body : List ℕ) (count : ℕ) (p : IsPending body count) → inputs_in body ≡ Some p.inputs
are_read body count p = ap inputs_in p.bytes ∙ read_all p.inputs p.legal

pub are_waiting : (body : List ℕ) (count : ℕ) (p : IsPending body count) → or_none (inputs_in body) ≡ p.inputs
are_waiting body count p = ap or_none (are_read body count p)

pub how_many : (body : List ℕ) (count : ℕ) → IsPending body count → length (or_none (inputs_in body)) ≡ count
how_many body count p = ap length (are_waiting body count p) ∙ sym p.size

pub how_long : (body : List ℕ) (count : ℕ) → IsPending body count → length (spelled (or_none (inputs_in body))) ≡ length body
how_long body count p = ap (λ x. length (spelled x)) (are_waiting body count p) ∙ ap length (sym p.bytes)

all_more : (inputs : List Input) (input : Input) → AllByRecursion codec.input.Legal inputs → codec.input.Legal input → AllByRecursion codec.input.Legal (inputs ++ input ∷ [])
all_more [] input all legal = (legal, tt)
all_more (first ∷ inputs) input all legal = (all.0, all_more inputs input all.1 legal)

-- one more
pub one_more : (body : List ℕ) (count : ℕ) (input : Input) → IsPending body count → codec.input.Legal input → IsPending (body ++ codec.input.write input) (count + 1)
one_more body count input p legal = record {
  inputs = p.inputs ++ input ∷ [];
  legal = all_more p.inputs input p.legal legal;
  bytes = ap (λ (l : List ℕ). l ++ codec.input.write input) p.bytes ∙ ap (λ (l : List ℕ). spelled p.inputs ++ l) (sym (append-nil (codec.input.write input))) ∙ sym (flat_map-append codec.input.write p.inputs (input ∷ []));
  size = ap (λ (n : ℕ). n + 1) p.size ∙ sym (length-append p.inputs (input ∷ []));
}

pub waiting_more : (body : List ℕ) (count : ℕ) (input : Input) → IsPending body count → codec.input.Legal input
    → or_none (inputs_in (body ++ codec.input.write input)) ≡ or_none (inputs_in body) ++ input ∷ []
unfolding one_more
waiting_more body count input p legal = are_waiting (body ++ codec.input.write input) (count + 1) (one_more body count input p legal) ∙ ap (λ (l : List Input). l ++ input ∷ []) (sym (are_waiting body count p))

pub none_wait : IsPending [] 0
none_wait = record { inputs = []; legal = tt; bytes = refl; size = refl }

-- they are no more than their bytes
no_more : (inputs : List Input) → length inputs ≤ length (spelled inputs)
no_more [] = omega arith
no_more (input ∷ inputs) = omega (arith, no_more inputs, input_filled input, length-append (codec.input.write input) (spelled inputs))

pub few : (body : List ℕ) (count : ℕ) → IsPending body count → count ≤ length body
few body count p = omega (arith, p.size, no_more p.inputs, ap length p.bytes)

-- a frame of so many inputs that are read from these bytes
pub framed : (format : Format) (bytes : List ℕ) (inputs : List Input) → length inputs < 2 ^ 32 → inputs_in bytes ≡ Some inputs → frame_in format (frame_of format (length inputs) bytes) ≡ Some inputs
framed One bytes inputs short is = is
framed Two bytes inputs short is =
    let count = to_be_bytes w32 (length inputs) in
    let long : nat_lt (length (count ++ bytes)) 4 ≡ false = not_short (length (count ++ bytes)) (omega (arith, length-append count bytes)) in
    let size : size_at (count ++ bytes) ≡ length inputs = ap (from_be_bytes w32) (take_at count bytes 4 refl) ∙ from_be_bytes-to_be_bytes_4 (length inputs) short in
    ap (λ b. cond b None (so_many (size_at (count ++ bytes)) (inputs_in (drop 4 (count ++ bytes))))) long
    ∙ ap (λ (k : ℕ). so_many k (inputs_in (drop 4 (count ++ bytes)))) size
    ∙ ap (λ (l : List ℕ). so_many (length inputs) (inputs_in l)) (drop_at count bytes 4 refl)
    ∙ ap (so_many (length inputs)) is
    ∙ ap (λ b. cond b (Some inputs) None) (same_number (length inputs))

-- they are read from a frame of these bytes, wherever these stand
pub still_read : (format : Format) (copy body : List ℕ) (count : ℕ) → copy ≡ body → IsPending body count → length body < 2 ^ 32 → frame_in format (frame_of format count copy) ≡ Some (or_none (inputs_in body))
still_read format copy body count same p short =
    ap (λ (n : ℕ). frame_in format (frame_of format n copy)) p.size
    ∙ framed format copy p.inputs (omega (arith, p.size, few body count p, short)) (ap inputs_in same ∙ are_read body count p)
    ∙ ap Some (sym (are_waiting body count p))

pub none_there : (body : List ℕ) (count : ℕ) → IsPending body count → count ≡ 0 → or_none (inputs_in body) ≡ []
none_there body count p none = no_length (or_none (inputs_in body)) (how_many body count p ∙ none)
  where
    no_length : (inputs : List Input) → length inputs ≡ 0 → inputs ≡ []
    no_length [] e = refl
    no_length (input ∷ inputs) e = absurd (cc e)

pub cleared : (body : List ℕ) → body ≡ [] → or_none (inputs_in body) ≡ []
unfolding inputs_in
cleared body e = ap (λ (l : List ℕ). or_none (inputs_in l)) e

-- the journal behind a frame of inputs that these bytes are
pub committed_so : {D : Type 0} (journal : JournalState D) (disk : D) (copy body : List ℕ) (count : ℕ) → copy ≡ body → IsPending body count → count ≢ 0
    → record journal { disk = disk; gate = journal.gate + 5 + (lead_length journal.format + length copy) } ≡ committed journal disk (or_none (inputs_in body))
committed_so journal disk copy body count same p some = ap (λ g. record journal { disk = disk; gate = g }) (by (or_none (inputs_in body)) (how_many body count p) (how_long body count p))
  where
    by : (waiting : List Input) → length waiting ≡ count → length (spelled waiting) ≡ length body → journal.gate + 5 + (lead_length journal.format + length copy) ≡ gate_behind journal.format journal.gate waiting
    by [] e l = absurd (some (sym e))
    by (input ∷ inputs) e l = ap (λ n. journal.gate + 5 + (lead_length journal.format + n)) (ap length same ∙ sym l)

in_room : (format : Format) (gate size : ℕ) → has_room_at format gate size ≡ true → size < 2 ^ 32
in_room One gate size room = grind (arith, nat_tests)
in_room Two gate size room = grind (arith, nat_tests)

-- a frame that finds room has inputs of fewer than 2^32 bytes
pub shorter : {D : Type 0} (journal : JournalState D) (waiting : ℕ) (body : List ℕ) → HasRoom journal waiting (length body) → waiting ≢ 0 → length body < 2 ^ 32
shorter journal waiting body (inl none) some = absurd (some none)
shorter journal waiting body (inr room) some = in_room journal.format journal.gate (length body) room
