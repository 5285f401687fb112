use Rattle.tks_cmd.proofs.Legal.{name_legal}
use Rattle.tks_cmd.proofs.virtual_events.name_read.Goals as goal

pub new-requires : goal.new-requires
new-requires c = name_legal c.args.text.now c.in_ok-name.name c.in_ok-repeated.repeated c.in_ok-repeated.ensures.spells c.in_ok-name.ensures
