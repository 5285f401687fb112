use Rattle.std.proofs.Math.ListN.{drop_of_length-le}
use Rattle.std.proofs.Common.{◌≡◌, [], ◌∷◌, ◌+◌, drop, Some, sym, ap, subst, ◌∙◌, arith}
use Rattle.std.specs.FinMap as fin
use Rattle.std.specs.Option.{option_map}
use Rattle.tks_tree.specs.Windows.{Windows, of_number, number_at}
use Rattle.tks_tree.specs.View.{window_seen, Indexes}
use Rattle.tks_tree.specs.WellFormed.{WellFormed}
use Rattle.tks_tree.proofs.Leaving.{Left, all_there, all_out, path_out, no_path, drop_next}
use Rattle.tks_tree.proofs.tree.Tree.index_without.Goals as goal
use Rattle.tks_tree.proofs.tree.Tree.index_without.Goals.{in-Some+in_ok-remove, in_default}

pub loop-id-init : goal.loop-id-init
loop-id-init c =
    let indexed : Indexes c.in_ok-index.index c.args.self.now.windows =
    λ q. ap (λ m. fin.get m q) c.in_ok-index.ensures ∙ c.self.invariant.1 q ∙ ap (λ (t : Windows). number_at t.windows (Some q)) c.self.view_is in
    all_there c.in_ok-index.index c.args.ids.now c.args.self.now.windows indexed

pub loop-id-preserved : goal.loop-id-preserved
loop-id-preserved c =
    let t = c.args.self.now in
    let formed = subst WellFormed c.self.view_is c.self.invariant.0 in
    let id = c.id-item.result in
    let rest = drop (c.loop-id.id-index + 1) c.args.ids.now in
    let steps : drop c.loop-id.id-index c.args.ids.now ≡ id ∷ rest = drop_next c.args.ids.now c.loop-id.id-index id (omega arith) c.id-item.is in
    let before = subst (λ ns. Left c.loop-id.index ns c.args.ids.now t.windows) steps c.loop-id.invariant in
    elim c.match-window.branch [
      | in-Some+in_ok-remove w ↦
          let window = window_seen w.in-Some.window in
          let is : of_number t.windows id ≡ Some window = sym c.window.ensures ∙ ap (option_map window_seen) w.in-Some.is in
          subst (λ m. Left m rest c.args.ids.now t.windows) (sym (w.index-is ∙ w.in_ok-remove.ensures.ok ∙ ap (fin.remove c.loop-id.index) w.as_bytes.ensures.value))
          (path_out t formed id rest c.args.ids.now c.loop-id.index before window is)
      | in_default w ↦ subst (λ m. Left m rest c.args.ids.now t.windows) (sym w.index-is) (no_path t formed id rest c.args.ids.now c.loop-id.index before (sym c.window.ensures ∙ ap (option_map window_seen) w.in_default.is))
    ]

pub returns : goal.returns
returns c =
    let none : drop c.loop-id.id-index c.args.ids.now ≡ [] = drop_of_length-le c.args.ids.now (omega (arith, c.loop-id-test.false)) in
    all_out c.loop-id.index c.args.ids.now c.args.self.now.windows (subst (λ ns. Left c.loop-id.index ns c.args.ids.now c.args.self.now.windows) none c.loop-id.invariant)
