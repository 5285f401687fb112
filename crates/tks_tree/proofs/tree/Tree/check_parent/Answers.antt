use Rattle.std.proofs.Common.{subst, sym}
use Rattle.tks_text.specs.Text.{IsText}
use Rattle.tks_tree.proofs.Paths.{parent_text}
use Rattle.tks_tree.proofs.tree.Tree.check_parent.Goals as goal

pub from_text-requires : goal.from_text-requires
from_text-requires c = parent_text c.as_bytes.result.now c.in-Some.parent.now (subst IsText (sym c.as_bytes.ensures.value) c.as_bytes.ensures.text) c.in-Some.ensures.value
