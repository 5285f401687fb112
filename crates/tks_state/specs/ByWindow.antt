-- What is known of windows, by their numbers.
use Rattle.std.specs.Ordering.{nat_cmp}
use Rattle.std.specs.FinMap as fin

-- finite maps from windows' numbers
abbrev pub ByWindow : Type 0 → Type 0
ByWindow V = fin.FinMap nat_cmp V
