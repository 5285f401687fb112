use Rattle.std.proofs.Common.{◌≡◌, [], ◌∷◌, ◌++◌, Some, sym, ap, subst, ◌∙◌}
use Rattle.std.specs.FinMap as fin
use Rattle.std.specs.Option.{option_map}
use Rattle.tks_share.specs.Names.{behind}
use Rattle.tks_tree.specs.Windows.{Windows, of_number}
use Rattle.tks_tree.specs.View.{window_seen}
use Rattle.tks_tree.specs.Within.{AreThoseIn, front_within}
use Rattle.tks_tree.proofs.Within.{those_in, none_in}
use Rattle.tks_tree.proofs.tree.Tree.within.Goals as goal

pub returns-in_default : goal.returns-in_default
returns-in_default c =
    let t = c.args.self.now in
    subst (AreThoseIn t c.args.id) (sym c.new-ids.ensures.items) (none_in t c.args.id (sym c.window.ensures ∙ ap (option_map window_seen) c.in_default.is))

pub returns : goal.returns
returns c =
    let t : Windows = record { windows = c.self.inside.windows; next = c.self.inside.next } in
    let window = window_seen c.in-Some.window in
    let is : of_number t.windows c.args.id ≡ Some window =
    ap (λ (t : Windows). of_number t.windows c.args.id) c.self.view_is ∙ sym c.window.ensures ∙ ap (option_map window_seen) c.in-Some.is in
    let path : c.as_bytes-path.result.now ≡ window.path = c.as_bytes-path.ensures.value in
    let entries = fin.entries c.self.inside.index in
    let ids : c.push_within.new.ids.items ≡ c.args.id ∷ front_within window.path (behind window.path entries) =
    c.in_ok-push_within.ensures
    ∙ ap (λ l. l ++ front_within c.as_bytes-path.result.now c.iter_behind.result) (c.in_ok-push.ensures.items ∙ ap (λ l. l ++ c.args.id ∷ []) c.new-ids.ensures.items)
    ∙ ap (λ es. c.args.id ∷ front_within c.as_bytes-path.result.now es) c.iter_behind.ensures
    ∙ ap (λ p. c.args.id ∷ front_within p (behind p entries)) path in
    subst (λ u. AreThoseIn u c.args.id c.push_within.new.ids.items) c.self.view_is
    (subst (AreThoseIn t c.args.id) (sym ids) (those_in t c.self.inside.index c.self.invariant.0 c.self.invariant.1 c.args.id window is))
