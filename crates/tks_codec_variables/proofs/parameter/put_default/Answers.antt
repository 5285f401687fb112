use Rattle.std.proofs.Common.{[], ◌∷◌}
use Rattle.tks_spelling.specs.Spelling.{text}
use Rattle.tks_spelling.proofs.Puts.{put_behind}
use Rattle.tks_codec_variables.proofs.parameter.put_default.Goals as goal

pub returns-in_ok-put_presence-in-Some-clause-puts : goal.returns-in_ok-put_presence-in-Some-clause-puts
returns-in_ok-put_presence-in-Some-clause-puts c =
    rw c.in-Some.is (put_behind c.put_text.result c.args.out.now.items (1 ∷ []) c.put_presence-in-Some.new.out.items (text.write c.in-Some.value) c.put_text.new.out.items c.in_ok-put_presence-in-Some.ensures c.put_text.ensures.puts)
