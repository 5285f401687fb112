use Rattle.std.proofs.Common.{◌≤◌, ◌<◌, false, length, List, map, sym, ap, ◌∙◌, subst, arith}
use Rattle.tks_lines.specs.declared.parts.Tag.{Tag}
use Rattle.tks_lines.specs.Lines.{Differ, tagged}
use Rattle.tks_lines.proofs.Tagged.{before, one_tagged, none_tagged, read_tag}
use Rattle.tks_lines.proofs.tags.Tags.take_off.Goals as goal

pub returns-in_ok-paint-clause-ok : goal.returns-in_ok-paint-clause-ok
returns-in_ok-paint-clause-ok c =
    let tags = c.self.inside.tags.items in
    let name = c.args.name.now in
    let index = c.before_tag-index.result in
    let at = c.before_tag-index.ensures.value ∙ ap (before name) c.as_slice.ensures.value in
    let inside : index < length tags = omega arith in
    let made = c.in_ok-paint.ensures.ok ∙ read_tag false c.args.first c.args.last index c.index_mut.result.now tags c.index_mut.ensures.value in
    one_tagged false name c.args.first c.args.last index c.index_mut.result.now c.paint.new.tag tags at inside (subst (λ (gs : List Tag). Differ (map (λ g. g.name) gs)) (sym c.self.view_is) c.requires) made
    ∙ ap (map (tagged false name c.args.first c.args.last)) c.self.view_is

pub returns-else-index-len-clause-ok : goal.returns-else-index-len-clause-ok
returns-else-index-len-clause-ok c =
    let tags = c.self.inside.tags.items in
    let name = c.args.name.now in
    let at = c.before_tag-index.ensures.value ∙ ap (before name) c.as_slice.ensures.value in
    let all : length tags ≤ c.before_tag-index.result = omega arith in
    sym (ap (map (tagged false name c.args.first c.args.last)) (sym c.self.view_is) ∙ none_tagged false name c.args.first c.args.last c.before_tag-index.result tags at all ∙ c.self.view_is)
