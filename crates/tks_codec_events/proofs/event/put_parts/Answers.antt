use Rattle.tks_spelling.proofs.Puts.{where_put}
use Rattle.tks_codec_events.proofs.Eventful.{fields_legal}
use Rattle.tks_codec_events.proofs.event.put_parts.Goals as goal

pub returns-clause-legal : goal.returns-clause-legal
returns-clause-legal c =
    let s = c.in_ok-put_subject.ensures.fits in
    let m = c.in_ok-put_moment.ensures.fits in
    where_put c.put_text.result (λ t. fields_legal c.args.event.now s.0 m.0 m.1 c.in_ok-put_places.ensures.fits s.1 t) c.put_text.ensures.legal
