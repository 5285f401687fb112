use Rattle.tks_lines.proofs.Ends.{ranges_again, flags_again, ranges_lawful, flags_long}
use Rattle.tks_lines.proofs.laws.ranges_say_flags.Goals as goal

pub returns-clause-ranges : goal.returns-clause-ranges
returns-clause-ranges c = ranges_again

pub returns-clause-flags : goal.returns-clause-flags
returns-clause-flags c = flags_again

pub returns-clause-lawful : goal.returns-clause-lawful
returns-clause-lawful c = ranges_lawful

pub returns-clause-long : goal.returns-clause-long
returns-clause-long c = flags_long
