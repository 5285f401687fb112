use Rattle.std.proofs.Common.{rules, ◌≡◌, Some, map}
use Rattle.tks_codec_windows.specs.Places.{placed}
use Rattle.tks_codec.specs.Windows.{held_of, parts_from}
use Rattle.tks_codec.proofs.OfWindows.{made_seen}
use Rattle.tks_codec.proofs.windows.windows_made.Goals as goal

pub returns : goal.returns
returns c =
    let lines = c.args.lines.items in
    let t = c.in-Some.tree in
    let ps = c.in-Some.packings.items in
    let found : placed c.args.next (map (λ l. l.place) lines) ≡ Some (t, ps) = search rules in
    let parts : c.in_ok-parts.parts.items ≡ parts_from (map held_of lines) ps = search rules in
    made_seen c.args.next lines t ps c.in_ok-parts.parts.items found parts
