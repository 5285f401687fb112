use Rattle.std.proofs.Common.{◌≡◌, ◌++◌, None, take, length}
use Rattle.std.specs.List.{AllByRecursion}
use Rattle.tks_spelling.specs.Spelling.{members}
use Rattle.tks_codec_windows.specs.Lines.{tag}
use Rattle.tks_codec_windows.proofs.tag.put_each_tag.Given as goal

-- those so far were put, and have spellings
abbrev pub invariant-loop-tag : goal.invariant-loop-tag
invariant-loop-tag l = (l.out.items ≡ l.fn.out.items ++ members (λ before. tag (length l.widget.text)) None (take l.tag-index l.widget.tags)) × AllByRecursion ((tag (length l.widget.text)).Legal) (take l.tag-index l.widget.tags)
