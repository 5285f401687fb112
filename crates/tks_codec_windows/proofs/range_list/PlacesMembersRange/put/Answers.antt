use Rattle.std.specs.Int.{w32, to_be_bytes}
use Rattle.tks_spelling.proofs.Puts.{put_behind}
use Rattle.tks_codec_windows.proofs.range_list.PlacesMembersRange.put.Goals as goal

pub returns-clause-puts : goal.returns-clause-puts
returns-clause-puts c =
    let r = c.args.range.now in
    put_behind c.put_u32-2.result c.args.out.now.items (to_be_bytes w32 r.first) c.put_u32.new.out.items (to_be_bytes w32 r.last) c.put_u32-2.new.out.items c.in_ok-put_u32.ensures c.put_u32-2.ensures
