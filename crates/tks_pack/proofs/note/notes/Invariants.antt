use Rattle.std.proofs.Common.{◌≡◌, ◌≤◌, ◌*◌, ◌^◌, ◌++◌, drop}
use Rattle.tks_pack.specs.Notes.{no_note, notes}
use Rattle.tks_pack.proofs.note.notes.Given as goal

abbrev pub invariant-loop-stretch : goal.invariant-loop-stretch
invariant-loop-stretch l = record {
  so_far : l.notes.items ++ notes l.note (drop l.stretch-index l.stretches) ≡ notes no_note l.stretches;
  asked : l.note.asked ≤ 2 ^ 34 * l.stretch-index;
  sharing : l.note.sharing ≤ l.stretch-index;
}
