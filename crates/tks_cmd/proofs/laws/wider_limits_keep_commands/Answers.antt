use Rattle.tks_cmd.proofs.Wider.{does_stay}
use Rattle.tks_cmd.proofs.laws.wider_limits_keep_commands.Goals as goal

pub returns : goal.returns
returns c = λ limits wider wide. does_stay limits wider wide
