use Rattle.std.proofs.Common.{◌≡◌, ◌++◌, None, length, take}
use Rattle.std.specs.Prelude.{map}
use Rattle.std.specs.Int.{w64}
use Rattle.std.specs.List.{AllByRecursion}
use Rattle.tks_spelling.specs.Spelling.{members, number}
use Rattle.tks_codec_windows.proofs.contents.put_each.Given as goal

-- those further on are put behind those so far
abbrev pub invariant-loop-content : goal.invariant-loop-content
invariant-loop-content l = record {
  there : take (length l.fn.out.items) l.out.items ≡ l.fn.out.items;
  all : l.out.items ++ members (λ before. number w64) None (map (λ c. c.window) l.content-iterator) ≡ l.fn.out.items ++ members (λ before. number w64) None (map (λ c. c.window) l.fn.contents);
  legal : AllByRecursion ((number w64).Legal) (map (λ c. c.window) l.content-iterator) → AllByRecursion ((number w64).Legal) (map (λ c. c.window) l.fn.contents);
}
