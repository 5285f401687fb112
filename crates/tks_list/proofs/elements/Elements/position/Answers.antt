use Rattle.std.proofs.Common.{◌∙◌, ap}
use Rattle.std.specs.Prelude.{position}
use Rattle.tks_text.specs.Text.{same_text}
use Rattle.tks_list.proofs.Cuts.{position_cut}
use Rattle.tks_list.proofs.elements.Elements.position.Goals as goal

pub returns-clause-value : goal.returns-clause-value
returns-clause-value c =
    let value = c.args.value.now in
    c.place.ensures.value
    ∙ rw (c.deref.ensures.value, c.deref-2.ensures.value, c.as_bytes.ensures.value) (position_cut value c.self.inside.bytes.items c.self.inside.spans.items)
    ∙ ap (position (λ element. same_text element value)) c.self.view_is
