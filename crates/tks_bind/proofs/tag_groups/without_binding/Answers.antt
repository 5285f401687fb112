use Rattle.std.proofs.Common.{rules, ◌≡◌}
use Rattle.tks_bind.specs.Binding.{without}
use Rattle.tks_bind.specs.Endings.{ending_of}
use Rattle.tks_bind.specs.Groups.{group_of}
use Rattle.tks_bind.proofs.Grouped.{groups_taken}
use Rattle.tks_bind.proofs.tag_groups.without_binding.Goals as goal

pub returns : goal.returns
returns c =
    let q = c.args.sequence.now in
    let tag = c.args.tag.now in
    let list : c.in_ok-list.list ≡ without tag q (group_of c.args.tags.now tag (ending_of q)) = search rules in
    groups_taken c.args.tags.now c.in_ok-tags.tags tag q (λ t e. rw (← list, ← c.of-ending.ensures) (c.in_ok-tags.ensures t e))
