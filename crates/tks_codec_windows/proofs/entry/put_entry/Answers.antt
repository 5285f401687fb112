use Rattle.std.specs.Int.{w32, to_be_bytes}
use Rattle.tks_spelling.specs.Spelling.{text}
use Rattle.tks_spelling.proofs.Puts.{put_behind}
use Rattle.tks_codec_windows.proofs.entry.put_entry.Goals as goal

pub returns-clause-puts : goal.returns-clause-puts
returns-clause-puts c =
    let e = c.args.entry.now in
    put_behind c.put_u32.result c.args.out.now.items (text.write e.text) c.put_text.new.out.items (to_be_bytes w32 e.cursor) c.put_u32.new.out.items (rw (← c.text.ensures) c.in_ok-put_text.ensures.puts) (rw (← c.cursor.ensures) c.put_u32.ensures)
