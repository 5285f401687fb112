use Rattle.std.proofs.Common.{sym, ap, ◌∙◌}
use Rattle.tks_bind.specs.Binding.{Content, without_tag}
use Rattle.tks_bind.specs.Tagged.{without_each}
use Rattle.tks_bind.proofs.Forming.{apart}
use Rattle.tks_bind.proofs.Tagged.{without_tagged}
use Rattle.tks_bind.proofs.bindings.Bindings.without_tag.Goals as goal

pub returns : goal.returns
returns c =
    let b : Content = record { bindings = c.self.inside.bindings; next = c.self.inside.next } in
    let gone = c.in_ok-gone.gone in
    c.in_ok-left.ensures
    ∙ ap (without_each c.as_slice.result.now) (sym c.self.view_is)
    ∙ ap (λ g. without_each g b) c.as_slice.ensures.value
    ∙ without_tagged c.args.tag.now gone b (apart b.next b.bindings c.self.invariant.bindings.bindings) (c.in_ok-gone.ensures b.bindings c.self.invariant.tags)
    ∙ ap (without_tag c.args.tag.now) c.self.view_is
