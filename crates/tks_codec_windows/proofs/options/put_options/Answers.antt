use Rattle.std.proofs.Common.{None, length, arith}
use Rattle.std.specs.Int.{w32, to_be_bytes}
use Rattle.tks_opt.specs.Options.{values_in_order}
use Rattle.tks_spelling.specs.Spelling.{members, text}
use Rattle.tks_spelling.proofs.Loop.{each_is_legal}
use Rattle.tks_spelling.proofs.Puts.{put_behind, where_put}
use Rattle.tks_codec_windows.proofs.OfOptions.{options_legal}
use Rattle.tks_codec_windows.proofs.options.put_options.Goals as goal

pub returns-clause-puts : goal.returns-clause-puts
returns-clause-puts c =
    let values = values_in_order c.args.options.now in
    put_behind c.put_each.result c.args.out.now.items (to_be_bytes w32 (length values)) c.put_u32.new.out.items (members (λ before. text) None values) c.put_each.new.out.items (rw (← c.len.ensures.value) c.in_ok-put_u32.ensures) c.put_each.ensures.puts

pub returns-clause-legal : goal.returns-clause-legal
returns-clause-legal c =
    let values = values_in_order c.args.options.now in
    where_put c.put_each.result (λ h. options_legal c.args.options.now c.len.ensures.legal (omega (arith, c.len.ensures.few, c.len.ensures.value), each_is_legal text None values h)) c.put_each.ensures.legal
