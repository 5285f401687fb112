use Rattle.std.proofs.Common.{length, None}
use Rattle.std.specs.Int.{w32, to_be_bytes}
use Rattle.tks_spelling.specs.Spelling.{members}
use Rattle.tks_spelling.proofs.Loop.{each_is_legal}
use Rattle.tks_spelling.proofs.Puts.{put_behind, where_put}
use Rattle.tks_spelling.proofs.member.put_list.Goals as goal

pub returns-clause-puts : goal.returns-clause-puts
returns-clause-puts g c =
    put_behind c.put_each.result c.args.out.now.items (to_be_bytes w32 (length c.args.xs.now)) c.put_u32.new.out.items (members (λ before. g.M.Members.spelling c.args.members) None c.args.xs.now) c.put_each.new.out.items c.in_ok-put_u32.ensures c.put_each.ensures.puts

pub returns-clause-legal : goal.returns-clause-legal
returns-clause-legal g c =
    let s = g.M.Members.spelling c.args.members in
    where_put c.put_each.result (λ h. (c.requires.short, each_is_legal s None c.args.xs.now h)) c.put_each.ensures.legal
