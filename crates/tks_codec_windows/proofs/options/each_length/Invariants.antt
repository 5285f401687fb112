use Rattle.std.proofs.Common.{◌≡◌, None, take, length}
use Rattle.tks_opt.specs.Options.{values_in_order}
use Rattle.tks_spelling.specs.Spelling.{members, text}
use Rattle.tks_spelling.specs.Lengths.{counted}
use Rattle.tks_codec_windows.proofs.options.each_length.Given as goal

-- those so far are counted
abbrev pub invariant-loop-index : goal.invariant-loop-index
invariant-loop-index l = l.sum ≡ counted (length (members (λ before. text) None (take l.index (values_in_order l.options))))
