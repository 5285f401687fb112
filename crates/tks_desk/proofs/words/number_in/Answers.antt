use Rattle.std.proofs.Common.{sym, ◌∙◌}
use Rattle.tks_desk.proofs.Numbers.{value_is}
use Rattle.tks_desk.proofs.words.number_in.Goals as goal

pub returns-then-is_number : goal.returns-then-is_number
returns-then-is_number c = value_is c.args.word.now c.value_of.result (sym c.is_number.ensures ∙ c.if-is_number.true) c.value_of.ensures
