use Rattle.std.proofs.Common.{◌<◌, ◌^◌, ap, subst, ◌∙◌, arith}
use Rattle.tks_spelling.proofs.Puts.{where_put}
use Rattle.tks_codec_windows.specs.Options.{options}
use Rattle.tks_state.specs.Widget.{options_of}
use Rattle.tks_tree.specs.View.{window_seen}
use Rattle.tks_codec.proofs.OfLines.{line_legal}
use Rattle.tks_codec.proofs.line.put_parts.Goals as goal

pub returns-clause-legal : goal.returns-clause-legal
returns-clause-legal c =
    let w = window_seen c.args.window.now in
    let k = c.args.kept.now in
    let number : w.number < 2 ^ 64 = omega (arith, c.number.type_inv, c.number.ensures) in
    let own = subst (λ o. (options o.class).Legal o) (c.options.ensures ∙ ap options_of c.get.ensures) c.in_ok-put_options.ensures.legal in
    let os = subst (λ class. (options class).Legal (options_of k.widget)) c.requires own in
    where_put c.put_rest.result (λ h. line_legal w k c.args.packing number c.in_ok-put_text.ensures.legal os h.tags h.contents h.packing h.content) c.put_rest.ensures.legal
