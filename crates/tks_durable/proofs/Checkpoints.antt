-- What the journal is behind a checkpoint.
use Rattle.std.proofs.Common.{◌≡◌, ◌+◌, ℕ, List, length, ap, ◌∙◌}
use Rattle.tks_spelling.specs.Header as headers
use Rattle.tks_spelling.specs.declared.format.Format.TheVariants.{Two}
use Rattle.tks_spelling.specs.declared.header.Header.{Header}
use Rattle.tks_journal.specs.Journal.{JournalState}
use Rattle.tks_journal.specs.Sides.{other_of}
use Rattle.tks_durable.specs.Durable.{checkpointed, gate_behind_world}
use Rattle.tks_durable.specs.Machine.{Meaning, header_of}

module _ {D W : Type 0} (m : Meaning W) (old : JournalState D) (disk : D) (world : W) where
  -- the other side is live, in this generation and with its gate here
  abbrev pub begun : ℕ → ℕ → JournalState D
  begun generation gate = record old { disk = disk; live = other_of old.live; format = Two; generation = generation; gate = gate }

  pub checkpointed_so : (new : JournalState D) (h : Header) (head bytes : List ℕ) (generation : ℕ) → new ≡ begun h.generation (2 + length head + length bytes)
      → h ≡ header_of m generation world → generation ≡ old.generation + 1 → head ≡ headers.header.write h → bytes ≡ m.bytes world → new ≡ checkpointed m old disk world
  checkpointed_so new h head bytes generation is header_is next head_is bytes_is =
      let next_header : h ≡ header_of m (old.generation + 1) world = header_is ∙ ap (λ n. header_of m n world) next in
      let next_generation : h.generation ≡ old.generation + 1 = ap (λ (x : Header). x.generation) next_header in
      let gate_is : 2 + length head + length bytes ≡ gate_behind_world m (old.generation + 1) world =
      ap (λ (l : List ℕ). 2 + length l + length bytes) (head_is ∙ ap headers.header.write next_header)
      ∙ ap (λ (l : List ℕ). 2 + length (headers.header.write (header_of m (old.generation + 1) world)) + length l) bytes_is in
      is ∙ ap (λ n. begun n (2 + length head + length bytes)) next_generation ∙ ap (begun (old.generation + 1)) gate_is
