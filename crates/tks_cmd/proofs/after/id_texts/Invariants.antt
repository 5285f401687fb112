use Rattle.std.proofs.Common.{◌≡◌, ◌++◌, drop, map}
use Rattle.tks_cmd.specs.After.{id_text}
use Rattle.tks_cmd.proofs.after.id_texts.Given as goal

-- those so far, and those further on, are all
abbrev pub invariant-loop-id : goal.invariant-loop-id
invariant-loop-id l = l.texts ++ map id_text (drop l.id-index l.ids) ≡ map id_text l.ids
