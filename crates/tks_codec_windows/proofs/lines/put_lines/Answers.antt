use Rattle.std.proofs.Common.{◌≡◌, ◌++◌, length, subst}
use Rattle.tks_spelling.specs.Spelling.{text, list}
use Rattle.tks_spelling.specs.Writing.{PutsSo}
use Rattle.tks_spelling.proofs.Puts.{put_behind, where_put}
use Rattle.tks_codec_windows.specs.Lines.{tag, mark}
use Rattle.tks_codec_windows.proofs.OfLines.{lines_legal}
use Rattle.tks_codec_windows.proofs.lines.put_lines.Goals as goal

pub returns-clause-puts : goal.returns-clause-puts
returns-clause-puts c =
    let t = c.args.widget.now in
    let r = c.put_list.result in
    let new = c.put_list.new.out.items in
    let tags = (list (tag (length t.text))).write t.tags in
    let marks = (list mark).write t.marks in
    let last = subst (λ ms. PutsSo r c.put_tags.new.out.items new ((list mark).write ms)) c.marks-marks.ensures.value c.put_list.ensures.puts in
    let first = subst (λ chars. c.put_pieces.new.out.items ≡ c.args.out.now.items ++ text.write chars) c.pieces.ensures.value c.in_ok-put_pieces.ensures.puts in
    put_behind r c.args.out.now.items (text.write t.text) c.put_pieces.new.out.items (tags ++ marks) new first
    (put_behind r c.put_pieces.new.out.items tags c.put_tags.new.out.items marks new c.in_ok-put_tags.ensures.puts last)

pub returns-clause-legal : goal.returns-clause-legal
returns-clause-legal c =
    let t = c.args.widget.now in
    let chars : text.Legal t.text = subst text.Legal c.pieces.ensures.value c.in_ok-put_pieces.ensures.legal in
    where_put c.put_list.result (λ h. lines_legal t c.marks-marks.ensures.formed chars c.in_ok-put_tags.ensures.legal (subst ((list mark).Legal) c.marks-marks.ensures.value h)) c.put_list.ensures.legal
