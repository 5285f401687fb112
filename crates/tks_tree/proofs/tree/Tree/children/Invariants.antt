use Rattle.std.proofs.Common.{◌≡◌, ◌++◌}
use Rattle.std.specs.List.{filter}
use Rattle.tks_tree.specs.Path.{is_child}
use Rattle.tks_tree.specs.Windows.{numbers, children}
use Rattle.tks_tree.proofs.tree.Tree.children.Given as goal

-- the children so far, and those further on, are all
abbrev pub invariant-loop-window : goal.invariant-loop-window
invariant-loop-window l = l.ids.items ++ numbers (filter (λ w. is_child l.parent.path.now w.path) l.window-iterator) ≡ children l.fn.self l.fn.id
