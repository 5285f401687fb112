use Rattle.tks_cmd.proofs.Legal.{event_legal}
use Rattle.tks_cmd.proofs.events.event_read.Goals as goal

pub new-requires : goal.new-requires
new-requires c =
    event_legal c.args.clock c.args.window c.args.text.now c.args.options.now c.in_ok-repeated.repeated (c.in_ok-fields.fields, c.in_ok-fields.when) c.requires.early c.requires.low c.in_ok-repeated.ensures.spells c.in_ok-fields.ensures
