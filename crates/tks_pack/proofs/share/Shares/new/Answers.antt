use Rattle.std.proofs.Common.{arith}
use Rattle.tks_pack.specs.Notes.{no_note}
use Rattle.tks_pack.proofs.Noted.{notes_length, notes_rise}
use Rattle.tks_pack.proofs.share.Shares.new.Goals as goal

pub overtakings-requires-clause-some : goal.overtakings-requires-clause-some
overtakings-requires-clause-some c = rw (c.deref.ensures.value, c.in_ok-notes.ensures) (omega (arith, notes_length no_note c.args.stretches.now))

pub overtakings-requires-clause-rise : goal.overtakings-requires-clause-rise
overtakings-requires-clause-rise c = rw (c.deref.ensures.value, c.in_ok-notes.ensures) (notes_rise no_note c.args.stretches.now)
