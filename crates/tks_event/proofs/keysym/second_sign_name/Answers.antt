use Rattle.std.proofs.Common.{rules}
use Rattle.tks_event.proofs.keysym.second_sign_name.Goals as goal

pub returns-then-c-eq45 : goal.returns-then-c-eq45
returns-then-c-eq45 = search rules
