use Rattle.tks_spelling.specs.Spelling.{text}
use Rattle.tks_spelling.proofs.Puts.{put_behind}
use Rattle.tks_codec_events.specs.Sequence.{sequence}
use Rattle.tks_codec_events.proofs.bindings.ByTagAndSequenceKeyBinding.put.Goals as goal

pub returns-clause-puts : goal.returns-clause-puts
returns-clause-puts c =
    let b = c.args.binding.now in
    put_behind c.put_sequence.result c.args.out.now.items (text.write b.tag) c.put_text.new.out.items (sequence.write b.sequence) c.put_sequence.new.out.items c.in_ok-put_text.ensures.puts c.put_sequence.ensures.puts
