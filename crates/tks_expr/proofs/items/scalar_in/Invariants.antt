use Rattle.std.proofs.Common.{◌≡◌, drop, option_copied}
use Rattle.tks_parse.specs.View.{parts_of}
use Rattle.tks_expr.specs.Compiled.{leaf_in}
use Rattle.tks_expr.proofs.Compiled.{leaf_behind}
use Rattle.tks_expr.proofs.items.scalar_in.Given as goal

abbrev pub invariant-part : goal.invariant-part
invariant-part l = leaf_in (parts_of l.parts) ≡ leaf_behind (option_copied l.scalar) (parts_of (drop l.part-index l.parts))
