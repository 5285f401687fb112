use Rattle.std.proofs.Common.{◌≡◌, ap, ◌∙◌}
use Rattle.std.specs.Prelude.{slice_get}
use Rattle.std.specs.List.{find}
use Rattle.tks_bind.specs.Binding.{is_for}
use Rattle.tks_bind.specs.Endings.{ending_of}
use Rattle.tks_bind.specs.Groups.{group_of}
use Rattle.tks_bind.proofs.Numbering.{got_at, stands_there, found_under}
use Rattle.tks_bind.proofs.tag_groups.held_for.Goals as goal

pub returns : goal.returns
returns c bs groups =
    let tag = c.args.tag.now in
    let q = c.args.sequence.now in
    let list : c.group_of-list.result.now ≡ group_of c.args.tags.now tag (ending_of q) = c.group_of-list.ensures ∙ ap (group_of c.args.tags.now tag) c.of.ensures in
    got_at c.group_of-list.result.now c.place_of.result c.get.result c.get.ensures.lookup
    ∙ ap (slice_get c.group_of-list.result.now) c.place_of.ensures
    ∙ stands_there tag q c.group_of-list.result.now
    ∙ ap (find (is_for tag q)) (list ∙ groups tag (ending_of q))
    ∙ found_under tag q bs
