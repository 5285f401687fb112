use Rattle.std.proofs.Common.{sym, subst, ◌∙◌}
use Rattle.tks_state.specs.WellFormed.{AllPackChildren}
use Rattle.tks_state.proofs.Children.{kept_rises, forgotten_packs}
use Rattle.tks_state.proofs.windows.Windows.forget.Goals as goal

pub forget_at-requires : goal.forget_at-requires
forget_at-requires c = kept_rises _ _ c.self.invariant

pub invariant_of-self-2 : goal.invariant_of-self-2
invariant_of-self-2 c =
    let old = c.self.invariant in
    record {
      windows = old.windows;
      in_step = c.in_ok-forget_at.ensures.marks ∙ old.in_step;
      packs = subst (AllPackChildren c.self.inside.tree) (sym c.in_ok-forget_at.ensures.value)
          (forgotten_packs c.self.inside.tree c.self.inside.kept c.parent-container.result c.args.window old.packs);
    }
