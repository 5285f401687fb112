use Rattle.std.proofs.Common.{rules, ◌≡◌}
use Rattle.tks_bind.specs.Binding.{placed}
use Rattle.tks_bind.specs.Endings.{ending_seen, ending_of}
use Rattle.tks_bind.specs.Groups.{group_of}
use Rattle.tks_bind.proofs.Grouped.{groups_placed}
use Rattle.tks_bind.proofs.tag_groups.with_binding.Goals as goal

pub returns : goal.returns
returns c =
    let b = c.args.binding.now in
    let ending : ending_seen c.of-ending.result ≡ ending_of b.sequence = search rules in
    let list : c.in_ok-list.list ≡ placed b (group_of c.args.tags.now b.tag (ending_of b.sequence)) = search rules in
    groups_placed c.args.tags.now c.in_ok-tags.tags b (λ t e. rw (← list, ← ending, ← c.get.ensures) (c.in_ok-tags.ensures t e))
