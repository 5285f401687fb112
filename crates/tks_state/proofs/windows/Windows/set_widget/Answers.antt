use Rattle.std.proofs.Common.{sym, subst, ◌∙◌}
use Rattle.tks_state.specs.WellFormed.{AllPackChildren}
use Rattle.tks_state.proofs.Children.{kept_rises, widget_packs}
use Rattle.tks_state.proofs.windows.Windows.set_widget.Goals as goal

pub set_widget_at-requires-clause-rises : goal.set_widget_at-requires-clause-rises
set_widget_at-requires-clause-rises c = kept_rises _ _ c.self.invariant

pub invariant_of-self-2 : goal.invariant_of-self-2
invariant_of-self-2 c =
    let old = c.self.invariant in
    record {
      windows = old.windows;
      in_step = c.in_ok-set_widget_at.ensures.marks ∙ old.in_step;
      packs = subst (AllPackChildren c.self.inside.tree) (sym c.in_ok-set_widget_at.ensures.value)
          (widget_packs c.self.inside.tree c.self.inside.kept c.args.window c.args.widget old.packs);
    }
