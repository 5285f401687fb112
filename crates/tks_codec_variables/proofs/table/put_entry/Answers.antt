use Rattle.tks_codec_variables.proofs.table.put_entry.Goals as goal

pub put-requires : goal.put-requires
put-requires g c = g.met.M.Named.all_are_sound c.args.values.now c.args.value.now
