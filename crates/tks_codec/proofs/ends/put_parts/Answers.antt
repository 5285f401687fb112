use Rattle.std.proofs.Common.{◌<◌, ◌^◌, refl, subst, ◌∙◌, arith}
use Rattle.tks_spelling.proofs.Puts.{anyway}
use Rattle.tks_codec_events.proofs.Holding.{held_legal}
use Rattle.tks_spelling.specs.Spelling.{texts}
use Rattle.tks_codec.specs.Ends.{memories, press}
use Rattle.tks_codec.proofs.OfParts.{rules_legal}
use Rattle.tks_codec.proofs.ends.put_parts.Goals as goal

pub returns-clause-legal : goal.returns-clause-legal
returns-clause-legal c =
    let w = c.args.world.now in
    let focus : w.focus < 2 ^ 64 = omega (arith, c.number.type_inv, c.number.ensures, c.focus.ensures) in
    let pressed = subst press.Legal c.pressed.ensures.value c.in_ok-put_press.ensures.legal in
    let kept = subst memories.Legal (c.texts.ensures ∙ c.memories.ensures) c.in_ok-put_table.ensures.legal in
    let faults = subst texts.Legal (c.iter.ensures ∙ c.faults.ensures) c.in_ok-put_items.ensures.legal in
    anyway c.put_u8.result (focus, (held_legal w.held, (pressed, (kept, (faults, (rules_legal w.rules, refl))))))
