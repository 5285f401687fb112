use Rattle.std.proofs.Common.{◌≤◌, ◌<◌, true, length, List, map, sym, ap, ◌∙◌, subst, arith}
use Rattle.tks_lines.specs.declared.parts.Tag.{Tag}
use Rattle.tks_lines.specs.Lines.{Differ, tagged, with_tag}
use Rattle.tks_lines.proofs.Tagged.{before, one_tagged, read_tag, with_none, new_tagged}
use Rattle.tks_lines.proofs.tags.Tags.put_on.Goals as goal

pub returns-then-index-len-clause-ok : goal.returns-then-index-len-clause-ok
returns-then-index-len-clause-ok c =
    let tags = c.self.inside.tags.items in
    let name = c.args.name.now in
    let index = c.before_tag-index.result in
    let at = c.before_tag-index.ensures.value ∙ ap (before name) c.as_slice.ensures.value in
    let inside : index < length tags = omega arith in
    let made = c.in_ok-paint.ensures.ok ∙ read_tag true c.args.first c.args.last index c.index_mut.result.now tags c.index_mut.ensures.value in
    one_tagged true name c.args.first c.args.last index c.index_mut.result.now c.paint.new.tag tags at inside (subst (λ (gs : List Tag). Differ (map (λ g. g.name) gs)) (sym c.self.view_is) c.requires) made
    ∙ ap (map (tagged true name c.args.first c.args.last)) (sym (with_none name c.args.len index tags at inside) ∙ ap (with_tag name c.args.len) c.self.view_is)

pub returns-clause-ok : goal.returns-clause-ok
returns-clause-ok c =
    let tags = c.self.inside.tags.items in
    let name = c.args.name.now in
    let index = c.before_tag-index.result in
    let at = c.before_tag-index.ensures.value ∙ ap (before name) c.as_slice.ensures.value in
    let all : length tags ≤ index = omega arith in
    c.in_ok-push.ensures.ok.0
    ∙ new_tagged true name c.args.len c.args.first c.args.last index c.in_ok-tag.tag tags at all c.in_ok-tag.ensures
    ∙ ap (λ (gs : List Tag). map (tagged true name c.args.first c.args.last) (with_tag name c.args.len gs)) c.self.view_is
