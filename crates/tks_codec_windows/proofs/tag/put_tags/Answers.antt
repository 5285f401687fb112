use Rattle.std.proofs.Common.{None, length}
use Rattle.std.specs.Int.{w32, to_be_bytes}
use Rattle.tks_spelling.specs.Spelling.{members}
use Rattle.tks_spelling.proofs.Loop.{each_is_legal}
use Rattle.tks_spelling.proofs.Puts.{put_behind, where_put}
use Rattle.tks_codec_windows.specs.Lines.{tag}
use Rattle.tks_codec_windows.proofs.tag.put_tags.Goals as goal

pub returns-clause-puts : goal.returns-clause-puts
returns-clause-puts c =
    let t = c.args.widget.now in
    put_behind c.put_each_tag.result c.args.out.now.items (to_be_bytes w32 (length t.tags)) c.put_u32.new.out.items (members (λ before. tag (length t.text)) None t.tags) c.put_each_tag.new.out.items (rw (← c.tags.ensures.value) c.in_ok-put_u32.ensures) c.put_each_tag.ensures.puts

pub returns-clause-legal : goal.returns-clause-legal
returns-clause-legal c =
    let t = c.args.widget.now in
    where_put c.put_each_tag.result (λ h. (c.tags.ensures.short, each_is_legal (tag (length t.text)) None t.tags h)) c.put_each_tag.ensures.legal
