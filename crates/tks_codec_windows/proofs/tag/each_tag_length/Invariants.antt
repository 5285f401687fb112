use Rattle.std.proofs.Common.{◌≡◌, None, take, length}
use Rattle.tks_spelling.specs.Spelling.{members}
use Rattle.tks_spelling.specs.Lengths.{counted}
use Rattle.tks_codec_windows.specs.Lines.{tag}
use Rattle.tks_codec_windows.proofs.tag.each_tag_length.Given as goal

-- those so far are counted
abbrev pub invariant-loop-tag : goal.invariant-loop-tag
invariant-loop-tag l = l.sum ≡ counted (length (members (λ before. tag (length l.widget.text)) None (take l.tag-index l.widget.tags)))
