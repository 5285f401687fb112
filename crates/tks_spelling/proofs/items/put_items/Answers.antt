use Rattle.std.proofs.Common.{◌≡◌, ◌++◌, length, None, subst}
use Rattle.std.specs.Int.{w32, to_be_bytes}
use Rattle.tks_spelling.specs.Spelling.{members}
use Rattle.tks_spelling.proofs.Loop.{each_is_legal}
use Rattle.tks_spelling.proofs.Puts.{put_behind, where_put}
use Rattle.tks_spelling.proofs.items.put_items.Goals as goal

pub returns-clause-puts : goal.returns-clause-puts
returns-clause-puts g c =
    put_behind c.put_each_item.result c.args.out.now.items (to_be_bytes w32 (length c.args.items)) c.put_u32.new.out.items (members (λ before. g.M.Members.spelling c.args.members) None c.args.items) c.put_each_item.new.out.items (subst (λ n. c.put_u32.new.out.items ≡ c.args.out.now.items ++ to_be_bytes w32 n) c.requires.all c.in_ok-put_u32.ensures) c.put_each_item.ensures.puts

pub returns-clause-legal : goal.returns-clause-legal
returns-clause-legal g c =
    let s = g.M.Members.spelling c.args.members in
    where_put c.put_each_item.result (λ legal. (c.requires.short, each_is_legal s None c.args.items legal)) c.put_each_item.ensures.legal
