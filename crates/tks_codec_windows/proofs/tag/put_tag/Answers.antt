use Rattle.tks_lines.specs.Ranges.{ranges_of}
use Rattle.std.proofs.Common.{length}
use Rattle.tks_spelling.specs.Spelling.{text}
use Rattle.tks_spelling.proofs.Puts.{put_behind, anyway}
use Rattle.tks_codec_windows.specs.Lines.{ranges}
use Rattle.tks_codec_windows.proofs.OfLines.{tag_legal}
use Rattle.tks_codec_windows.proofs.tag.put_tag.Goals as goal

pub returns-clause-puts : goal.returns-clause-puts
returns-clause-puts c =
    let g = c.args.tag.now in
    put_behind c.put_flags.result c.args.out.now.items (text.write g.name) c.put_text.new.out.items ((ranges (length g.on)).write (ranges_of g.on)) c.put_flags.new.out.items c.in_ok-put_text.ensures.puts c.put_flags.ensures

pub returns-clause-legal : goal.returns-clause-legal
returns-clause-legal c = anyway c.put_flags.result (tag_legal c.args.tag.now c.in_ok-put_text.ensures.legal c.requires)
