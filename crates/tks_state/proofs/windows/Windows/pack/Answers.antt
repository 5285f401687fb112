use Rattle.std.proofs.Common.{ap, sym, ◌∙◌}
use Rattle.std.proofs.lemmas.Result.{IfOk-at_ok}
use Rattle.tks_state.specs.Windows.{packed_at}
use Rattle.tks_state.proofs.Children.{kept_rises, packed_packs}
use Rattle.tks_state.proofs.windows.Windows.pack.Goals as goal

pub pack_at-requires : goal.pack_at-requires
pack_at-requires c = kept_rises _ _ c.self.invariant

pub invariant_of-self-2 : goal.invariant_of-self-2
invariant_of-self-2 c =
    let old = c.self.invariant in
    let kept = c.self.inside.kept in
    record {
      windows = old.windows;
      in_step = c.in_ok-pack_at.ensures.marks ∙ old.in_step;
      packs = IfOk-at_ok _ (ap (λ o. packed_at kept o c.args.window c.args.options.now) (sym c.parent-container.ensures) ∙ c.in_ok-pack_at.ensures.value)
          (packed_packs c.self.inside.tree kept c.args.window c.args.options.now old.packs);
    }
