use Rattle.std.proofs.Common.{◌≡◌, Ok, map, sym, ap, subst, ◌∙◌}
use Rattle.std.specs.List.{filter}
use Rattle.std.specs.Prelude.{not}
use Rattle.tks_share.specs.Lists.{Rises}
use Rattle.tks_tree.specs.Windows as tree
use Rattle.tks_tree.specs.Within.{is_one_of, AreThoseIn}
use Rattle.tks_tree.proofs.Parents.{destroyed_so}
use Rattle.tks_state.specs.Windows.{Windows, forgotten_at, still_there, destroyed}
use Rattle.tks_state.specs.declared.kept.Kept.{Kept}
use Rattle.tks_state.specs.WellFormed.{InStep, AllPackChildren, mark_of}
use Rattle.tks_state.proofs.Marks.{all_left, left_in_step, left_by_numbers}
use Rattle.tks_state.proofs.Children.{kept_rise, kept_rises, left_packs}
use Rattle.tks_state.proofs.windows.Windows.without.Goals.{In_ok-kept-2}
use Rattle.tks_state.proofs.windows.Windows.without.Goals as goal

pub forget_at-requires : goal.forget_at-requires
forget_at-requires c = subst (Rises (λ k. k.window) 0) (sym c.in_ok-kept.ensures) (kept_rises _ _ c.self.invariant)

pub without_windows-requires : goal.without_windows-requires
without_windows-requires c =
    let t = c.self.inside.tree in
    kept_rise 0 t.windows t.next c.forget_at.new.kept (c.in_ok-forget_at.ensures.marks ∙ ap (map mark_of) c.in_ok-kept.ensures ∙ c.self.invariant.in_step) c.self.invariant.windows.numbered

-- what became of the windows, and of what is kept of them
record Left (c : In_ok-kept-2) : Type 0 where
  gone : tree.destroyed c.self.inside.tree c.args.window ≡ Ok c.destroy.new.self
  in_step : InStep c.self.inside.tree.windows c.forget_at.new.kept
  left : c.in_ok-kept-2.kept ≡ still_there c.destroy.new.self.windows c.forget_at.new.kept
  kept : c.in_ok-kept-2.kept ≡ still_there c.destroy.new.self.windows (forgotten_at c.self.inside.kept (tree.parent c.self.inside.tree c.args.window) c.args.window)

left_so : (c : In_ok-kept-2) → Left c
left_so c =
    let t = c.self.inside.tree in
    let u = c.destroy.new.self in
    let window = c.args.window in
    let kept = c.self.inside.kept in
    let container = c.parent-container.result in
    let shared = c.in_ok-kept.ensures in
    let gone : tree.destroyed t window ≡ Ok u = ap (λ x. tree.destroyed x window) (sym c.in_ok-tree.ensures) ∙ c.in_ok-gone.ensures.value in
    let forgot = c.in_ok-forget_at.ensures.value ∙ ap (λ ks. forgotten_at ks container window) shared ∙ ap (λ o. forgotten_at kept o window) c.parent-container.ensures in
    let in_step = c.in_ok-forget_at.ensures.marks ∙ ap (map mark_of) shared ∙ c.self.invariant.in_step in
    let left : c.in_ok-kept-2.kept ≡ still_there u.windows c.forget_at.new.kept =
    c.in_ok-kept-2.ensures ∙ ap (λ ns. filter (λ (k : Kept). not (is_one_of k.window ns)) c.forget_at.new.kept) c.deref.ensures.value
    ∙ left_by_numbers t u window c.in_ok-gone.gone.items c.forget_at.new.kept c.self.invariant.windows.numbered gone (subst (λ x. AreThoseIn x window c.in_ok-gone.gone.items) c.in_ok-tree.ensures c.in_ok-gone.ensures.gone) in_step in
    record { gone = gone; in_step = in_step; left = left; kept = left ∙ ap (still_there u.windows) forgot }

pub invariant_of-windows : goal.invariant_of-windows
invariant_of-windows c =
    let t = c.self.inside.tree in
    let u = c.destroy.new.self in
    let window = c.args.window in
    let so = left_so (goal.at.invariant_of-windows c).In_ok-kept-2 in
    record {
      windows = (destroyed_so t u window c.self.invariant.windows so.gone).well;
      in_step = subst (InStep u.windows) (sym so.left) (left_in_step t u window c.forget_at.new.kept c.self.invariant.windows.numbered so.gone so.in_step);
      packs = subst (AllPackChildren u) (sym so.kept) (left_packs t u window c.self.inside.kept c.self.invariant.windows so.gone c.self.invariant.in_step c.self.invariant.packs);
    }

pub returns-clause-value : goal.returns-clause-value
returns-clause-value c =
    let t = c.self.inside.tree in
    let u = c.destroy.new.self in
    let so = left_so (goal.at.returns-clause-value c).In_ok-kept-2 in
    ap (λ x. destroyed x c.args.window) (sym c.self.view_is)
    ∙ all_left (record { tree = t; kept = c.self.inside.kept }) u c.args.window so.gone
    ∙ ap (λ ks. Ok (record { tree = u; kept = ks })) (sym so.kept)

pub returns-clause-gone : goal.returns-clause-gone
returns-clause-gone c =
    let window = c.args.window in
    let ids = c.in_ok-gone.gone.items in
    subst (λ x. AreThoseIn x window ids) (c.in_ok-tree.ensures ∙ ap (λ (w : Windows). w.tree) c.self.view_is) c.in_ok-gone.ensures.gone
