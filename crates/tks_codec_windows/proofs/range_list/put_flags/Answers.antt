use Rattle.std.proofs.Common.{◌++◌, None, List, ℕ, length, sym, ap, subst}
use Rattle.std.specs.Int.{w32, to_be_bytes}
use Rattle.std.specs.List.{AllByRecursion}
use Rattle.tks_lines.specs.Ranges.{ranges_of}
use Rattle.tks_spelling.specs.Spelling.{list}
use Rattle.tks_spelling.specs.Writing.{PutsSo}
use Rattle.tks_spelling.proofs.Loop.{same_members}
use Rattle.tks_codec_windows.specs.Lines.{places, may_follow, IsSmall}
use Rattle.tks_codec_windows.proofs.OfLines.{small_of}
use Rattle.tks_codec_windows.proofs.range_list.put_flags.Goals as goal

pub put_list-requires-clause-sound : goal.put_list-requires-clause-sound
put_list-requires-clause-sound c = subst (AllByRecursion IsSmall) (sym c.ranges-2.ensures.value) (small_of c.args.flags.now c.requires)

pub returns : goal.returns
returns c =
    let on = c.args.flags.now in
    let rs = ranges_of on in
    let all = subst (λ rs. PutsSo c.put_list.result c.args.out.now.items c.put_list.new.out.items ((list places).write rs)) c.ranges-2.ensures.value c.put_list.ensures.puts in
    subst (PutsSo c.put_list.result c.args.out.now.items c.put_list.new.out.items) (ap (λ (x : List ℕ). to_be_bytes w32 (length rs) ++ x) (same_members (may_follow (length on)) places None None rs)) all
