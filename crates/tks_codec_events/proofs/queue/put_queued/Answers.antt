use Rattle.std.proofs.Common.{refl}
use Rattle.tks_spelling.specs.Spelling.{flag}
use Rattle.tks_spelling.proofs.Puts.{put_behind, anyway}
use Rattle.tks_codec_events.specs.Event.{event}
use Rattle.tks_codec_events.proofs.Sequencing.{flag_legal}
use Rattle.tks_codec_events.proofs.queue.put_queued.Goals as goal

pub returns-clause-puts : goal.returns-clause-puts
returns-clause-puts c =
    let q = c.args.queued.now in
    put_behind c.put_flag.result c.args.out.now.items (event.write q.event) c.put_event.new.out.items (flag.write q.with_mark) c.put_flag.new.out.items c.in_ok-put_event.ensures.puts c.put_flag.ensures

pub returns-clause-legal : goal.returns-clause-legal
returns-clause-legal c = anyway c.put_flag.result ((c.in_ok-put_event.ensures.legal, (flag_legal c.args.queued.now.with_mark, refl)), c.requires)
