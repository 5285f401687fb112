use Rattle.std.proofs.Common.{◌≡◌, rules, [], ◌∷◌, refl, sym, subst}
use Rattle.tks_tree.specs.WellFormed as trees
use Rattle.tks_state.specs.WellFormed.{AllPackChildren}
use Rattle.tks_state.specs.Windows.{new_kept}
use Rattle.tks_state.specs.declared.kept.Kept.{Kept}
use Rattle.tks_state.specs.declared.widget.Widget.TheVariants as widget
use Rattle.tks_state.proofs.Children.{first_well, alone_packs}
use Rattle.tks_state.proofs.windows.Windows.first.Goals as goal

pub invariant_of-result : goal.invariant_of-result
invariant_of-result c =
    let root : Kept = new_kept 0 (widget.Frame c.in_ok-root.field-0) in
    let kept : c.push.new.self ≡ root ∷ [] = search rules in
    record {
      windows = subst trees.WellFormed (sym c.in_ok-new.ensures) first_well;
      in_step = search rules;
      packs = subst (AllPackChildren c.in_ok-new.field-0) (sym kept) (alone_packs c.in_ok-new.field-0 root refl);
    }
