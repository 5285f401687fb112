use Rattle.std.proofs.Common.{◌≡◌, drop}
use Rattle.tks_cmd.specs.Dispatch.{with_more, tag_scripts}
use Rattle.tks_cmd.proofs.dispatch.tag_scripts.Given as goal

-- those so far, and those of the tags further on, are all
abbrev pub invariant-loop-tag : goal.invariant-loop-tag
invariant-loop-tag l =
    with_more l.scripts (tag_scripts l.limits l.world l.event l.path (drop l.tag-index l.tags)) ≡ tag_scripts l.limits l.world l.event l.path l.tags
