use Rattle.std.proofs.Common.{◌≡◌, ◌++◌, map}
use Rattle.std.specs.Prelude.{position}
use Rattle.tks_text.specs.Text.{same_text}
use Rattle.tks_tree.specs.Path.{is_child}
use Rattle.tks_tree.specs.Windows.{numbers}
use Rattle.tks_tree.specs.Links.{parent_places}
use Rattle.tks_tree.proofs.tree.Tree.standing.Given as goal

-- what there is so far, and what there is of the windows further on, is all; and the place is that of the path that was looked up last
abbrev pub invariant-loop-window : goal.invariant-loop-window
invariant-loop-window l = record {
  ids : l.ids.items ++ numbers l.window-iterator ≡ numbers l.fn.self.windows;
  parents : l.parents.items ++ map (λ v. position (λ w. is_child w.path v.path) l.fn.self.windows) l.window-iterator ≡ parent_places l.fn.self.windows;
  place : l.place ≡ position (λ w. same_text l.path w.path) l.fn.self.windows;
}
