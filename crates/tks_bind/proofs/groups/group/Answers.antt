use Rattle.std.proofs.Common.{rules, ◌≡◌, None, sym}
use Rattle.std.specs.FinMap as map
use Rattle.tks_bind.specs.Endings.{ending_seen}
use Rattle.tks_bind.proofs.Grouping.{no_group}
use Rattle.tks_bind.proofs.groups.group.Goals as goal

pub returns-in_default : goal.returns-in_default
returns-in_default g c =
    let gone : map.get c.args.groups.now (ending_seen c.args.ending).kind ≡ None = search rules in
    sym (no_group c.args.groups.now (ending_seen c.args.ending) gone)
