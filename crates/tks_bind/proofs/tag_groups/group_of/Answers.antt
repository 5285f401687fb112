use Rattle.std.proofs.Common.{rules, ◌≡◌, None, sym}
use Rattle.std.specs.FinMap as map
use Rattle.tks_bind.specs.Endings.{ending_seen}
use Rattle.tks_bind.proofs.Grouping.{no_groups}
use Rattle.tks_bind.proofs.tag_groups.group_of.Goals as goal

pub returns-in-None : goal.returns-in-None
returns-in-None c =
    let gone : map.get c.args.tags.now c.args.tag.now ≡ None = search rules in
    sym (no_groups c.args.tags.now c.args.tag.now (ending_seen c.args.ending) gone)
