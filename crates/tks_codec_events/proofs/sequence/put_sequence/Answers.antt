use Rattle.std.proofs.Common.{◌≡◌, true, sym, subst}
use Rattle.tks_event.specs.Sequences.{is_sequence}
use Rattle.tks_spelling.proofs.Puts.{where_put}
use Rattle.tks_codec_events.proofs.sequence.put_sequence.Goals as goal

pub returns-clause-legal : goal.returns-clause-legal
returns-clause-legal c =
    let is = subst (λ s. is_sequence s ≡ true) (sym c.patterns.ensures.value) c.patterns.ensures.legal in
    rw (← c.patterns.ensures.value) (where_put c.put_list.result (λ h. (h, is)) c.put_list.ensures.legal)
