use Rattle.std.proofs.Common.{◌≡◌, ◌-◌, None}
use Rattle.tks_spelling.specs.Spelling.{last_of, members_at}
use Rattle.tks_spelling.proofs.Loop.{with_front}
use Rattle.tks_spelling.proofs.member.members_of.Given as goal

abbrev pub invariant-loop : goal.invariant-loop
invariant-loop g l = with_front l.members (members_at (g.F.Following.member l.following) (last_of None l.members) (l.count - l.counter) l.rest) ≡ members_at (g.F.Following.member l.following) None l.count l.bytes
