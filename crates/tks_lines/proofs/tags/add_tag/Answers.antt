use Rattle.std.proofs.Common.{◌≡◌, ◌≤◌, ◌<◌, ◌++◌, [], ◌∷◌, length, sym, ap, ◌∙◌, arith}
use Rattle.tks_lines.specs.Lines.{new_tag}
use Rattle.tks_lines.proofs.Tagged.{before, with_none, with_one, painted_none}
use Rattle.tks_lines.proofs.tags.add_tag.Goals as goal

pub returns-then-before_tag-len-clause-ok : goal.returns-then-before_tag-len-clause-ok
returns-then-before_tag-len-clause-ok c =
    let tags = c.args.tags.now.items in
    let at = c.before_tag.ensures.value ∙ ap (before c.args.name.now) c.as_slice.ensures.value in
    let inside : c.before_tag.result < length tags = omega arith in
    (sym (with_none c.args.name.now c.args.len c.before_tag.result tags at inside), c.requires)

pub returns-clause-ok : goal.returns-clause-ok
returns-clause-ok c =
    let tags = c.args.tags.now.items in
    let name = c.args.name.now in
    let at = c.before_tag.ensures.value ∙ ap (before name) c.as_slice.ensures.value in
    let all : length tags ≤ c.before_tag.result = omega arith in
    let made : c.in_ok-tag.tag ≡ new_tag name c.args.len = c.in_ok-tag.ensures ∙ ap (λ o. record (new_tag name c.args.len) { on = o }) (painted_none (new_tag name c.args.len).on) in
    (c.in_ok-push.ensures.ok.0 ∙ ap (λ g. tags ++ g ∷ []) made ∙ sym (with_one name c.args.len c.before_tag.result tags at all), c.in_ok-push.ensures.ok.1)
