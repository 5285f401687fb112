use Rattle.std.proofs.Common.{◌≡◌, ◌++◌, None, take}
use Rattle.std.specs.List.{AllByRecursion}
use Rattle.tks_opt.specs.Options.{values_in_order}
use Rattle.tks_spelling.specs.Spelling.{members, text}
use Rattle.tks_codec_windows.proofs.options.put_each.Given as goal

-- those so far were put, and have spellings
abbrev pub invariant-loop-index : goal.invariant-loop-index
invariant-loop-index l = (l.out.items ≡ l.fn.out.items ++ members (λ before. text) None (take l.index (values_in_order l.options))) × AllByRecursion text.Legal (take l.index (values_in_order l.options))
