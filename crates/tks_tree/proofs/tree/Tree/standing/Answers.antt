use Rattle.std.proofs.Common.{◌≡◌, ◌∷◌, Some, None, sym, ap, ◌∙◌}
use Rattle.std.specs.Prelude.{position}
use Rattle.tks_tree.specs.Path.{parent_of, is_child}
use Rattle.tks_tree.specs.Windows.{Window}
use Rattle.tks_tree.specs.declared.window.Entry.TheInside.{Inside as Entry}
use Rattle.tks_tree.proofs.Links.{one_more, at_parent, without_parent}
use Rattle.tks_tree.proofs.tree.Tree.standing.Goals as goal

-- a window as the tree keeps it
abbrev kept : Entry → Window
kept e = record { number = e.id; path = e.path; class = e.class }

pub loop-window-preserved-in-Continue-branch-4 : goal.loop-window-preserved-in-Continue-branch-4
loop-window-preserved-in-Continue-branch-4 c =
    let ws = c.args.self.now.windows in
    let window = kept c.window.inside in
    let none : parent_of window.path ≡ None = sym (c.in-None-parent_of.ensures.value ∙ ap parent_of c.as_bytes.ensures.value) in
    let left = ap (λ u. u ∷ c.next.new.self) c.window.view_is ∙ sym c.in-Some.ensures.steps in
    record {
      ids = one_more (λ (u : Window). u.number) c.loop-window.ids.items window.number window c.next.new.self c.in_ok-push.ensures.items (λ i. window.number) left c.loop-window.invariant.ids;
      parents =
          one_more (λ (u : Window). position (λ (w : Window). is_child w.path u.path) ws) c.loop-window.parents.items None window c.next.new.self c.in_ok-push-in-None-parent_of.ensures.items (without_parent window.path none ws) left
          c.loop-window.invariant.parents;
      place = c.loop-window.invariant.place;
    }

pub loop-window-preserved : goal.loop-window-preserved
loop-window-preserved c =
    let ws = c.args.self.now.windows in
    let window = kept c.window.inside in
    let parent = c.in-Some-parent_of.parent.now in
    let is : parent_of window.path ≡ Some parent = sym (c.in-Some-parent_of.ensures.value ∙ ap parent_of c.as_bytes.ensures.value) in
    let left = ap (λ u. u ∷ c.next.new.self) c.window.view_is ∙ sym c.in-Some.ensures.steps in
    record {
      ids = one_more (λ (u : Window). u.number) c.loop-window.ids.items window.number window c.next.new.self c.in_ok-push.ensures.items (λ i. window.number) left c.loop-window.invariant.ids;
      parents =
          one_more (λ (u : Window). position (λ (w : Window). is_child w.path u.path) ws) c.loop-window.parents.items c.place_beside-place.result window c.next.new.self
          c.in_ok-push-in-Some-parent_of.ensures.items
          (c.place_beside-place.ensures ∙ at_parent window.path parent is ws) left c.loop-window.invariant.parents;
      place = c.place_beside-place.ensures;
    }
