use Rattle.std.proofs.Common.{◌≡◌, ◌++◌, ◌<◌, ◌^◌, ◌∙◌, length, None, ap, subst}
use Rattle.std.specs.FinMap as map
use Rattle.std.specs.Int.{w32, to_be_bytes}
use Rattle.std.specs.List.{AllByRecursion}
use Rattle.tks_spelling.specs.Spelling.{members, is_behind}
use Rattle.tks_spelling.specs.Writing.{PutsSo}
use Rattle.tks_spelling.proofs.Puts.{put_behind, where_put}
use Rattle.tks_spelling.proofs.Loop.{same_members}
use Rattle.tks_codec_variables.specs.Table.{entry, next}
use Rattle.tks_codec_variables.proofs.OfTables.{table_legal}
use Rattle.tks_codec_variables.proofs.table.put_table.Goals as goal

pub returns-clause-puts : goal.returns-clause-puts
returns-clause-puts g c =
    let s = g.M.Members.spelling c.args.values in
    let old = c.args.out.now.items in
    let es = map.entries c.args.table.now in
    let counted = subst (λ n. c.put_u32.new.out.items ≡ old ++ to_be_bytes w32 n) (c.len.ensures.value ∙ map.len-entries c.args.table.now) c.in_ok-put_u32.ensures in
    let each = subst (PutsSo c.put_each.result c.put_u32.new.out.items c.put_each.new.out.items) (ap (members (λ before. entry s) None) c.iter.ensures.value ∙ same_members (is_behind (λ e. e.0)) (entry s) None None es) c.put_each.ensures.puts in
    put_behind c.put_each.result old (to_be_bytes w32 (length es)) c.put_u32.new.out.items (members (next s) None es) c.put_each.new.out.items counted each

pub returns-clause-legal : goal.returns-clause-legal
returns-clause-legal g c =
    let s = g.M.Members.spelling c.args.values in
    let m = c.args.table.now in
    let few = subst (λ n. n < 2 ^ 32) (map.len-entries m) c.len.ensures.short in
    where_put c.put_each.result (λ legal. table_legal s m few (subst (AllByRecursion (entry s).Legal) c.iter.ensures.value legal)) c.put_each.ensures.legal
