use Rattle.std.proofs.Common.{refl, sym, subst}
use Rattle.std.specs.Prelude.{OnOk}
use Rattle.tks_text.specs.declared.class.Class.TheVariants as class
use Rattle.tks_spelling.specs.Spelling.{Spelling}
use Rattle.tks_spelling.proofs.Puts.{where_put}
use Rattle.tks_codec.specs.Content.{content}
use Rattle.tks_codec.proofs.OfContent.{content_as}
use Rattle.tks_codec.proofs.content.put_content.Goals as goal
use Rattle.tks_state.specs.Widget.{options_of}
use Rattle.tks_state.specs.declared.widget.Widget.{Widget}
use Rattle.tks_state.specs.declared.widget.Widget.TheVariants as widget

pub returns-in-Text-clause-legal : goal.returns-in-Text-clause-legal
returns-in-Text-clause-legal c =
    let t = c.in-Text.text in
    let r = c.put_lines.result in
    subst (λ w. OnOk r ((content (options_of w)).Legal w)) (sym c.in-Text.is)
    (where_put r (λ h. subst (λ (s : Spelling Widget). s.Legal (widget.Text t)) (sym (content_as t.options class.Text c.options-in-Text.ensures.class)) (h, refl)) c.put_lines.ensures.legal)
