use Rattle.std.proofs.Common.{drop}
use Rattle.tks_state.specs.Laid.{AllAsk}
use Rattle.tks_state.proofs.world.World.all_ask.Given as goal

-- where those further on ask for that, all do
abbrev pub invariant-loop-one : goal.invariant-loop-one
invariant-loop-one l = AllAsk l.fn.self.variables l.fn.self.kept (drop l.one-index l.fn.asked) → AllAsk l.fn.self.variables l.fn.self.kept l.fn.asked
