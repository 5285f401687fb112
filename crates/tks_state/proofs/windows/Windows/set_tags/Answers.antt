use Rattle.std.proofs.Common.{sym, subst, ◌∙◌}
use Rattle.tks_state.specs.WellFormed.{AllPackChildren}
use Rattle.tks_state.proofs.Children.{kept_rises, tagged_packs}
use Rattle.tks_state.proofs.windows.Windows.set_tags.Goals as goal

pub set_tags_at-requires : goal.set_tags_at-requires
set_tags_at-requires c = kept_rises _ _ c.self.invariant

pub invariant_of-self-2 : goal.invariant_of-self-2
invariant_of-self-2 c =
    let old = c.self.invariant in
    record {
      windows = old.windows;
      in_step = c.in_ok-set_tags_at.ensures.marks ∙ old.in_step;
      packs = subst (AllPackChildren c.self.inside.tree) (sym c.in_ok-set_tags_at.ensures.value)
          (tagged_packs c.self.inside.tree c.self.inside.kept c.args.window c.args.tags old.packs);
    }
