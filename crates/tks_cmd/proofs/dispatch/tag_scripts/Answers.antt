use Rattle.std.proofs.Common.{◌+◌, ◌∷◌, drop, sym, ap, ◌∙◌}
use Rattle.std.proofs.lemmas.List.{drop_more}
use Rattle.tks_cmd.specs.Dispatch.{with_more, tag_scripts}
use Rattle.tks_cmd.proofs.Scripts.{goes}
use Rattle.tks_cmd.proofs.dispatch.tag_scripts.Goals as goal

pub loop-tag-preserved : goal.loop-tag-preserved
loop-tag-preserved c =
    let limits = c.args.limits.now in
    let w = c.args.world.now in
    let e = c.args.event.now in
    let path = c.args.path.now in
    let tags = c.args.tags.now in
    let i = c.loop-tag.tag-index in
    let tag = c.tag-item.result in
    let next = drop_more tags i tag c.loop-tag-test.true ∙ ap (λ t. t ∷ drop (i + 1) tags) (sym c.tag-item.is) in
    sym (goes limits w e path c.loop-tag.scripts c.add_tag.new.scripts tag (drop (i + 1) tags) c.in_ok-add_tag.ensures)
    ∙ sym (ap (λ l. with_more c.loop-tag.scripts (tag_scripts limits w e path l)) next)
    ∙ c.loop-tag.invariant
