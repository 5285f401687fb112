use Rattle.std.proofs.Common.{◌≡◌, Some, sym, ap, subst, ◌∙◌}
use Rattle.tks_tree.specs.Windows.{Window, Windows, number_at, destroyed}
use Rattle.tks_tree.specs.WellFormed.{WellFormed}
use Rattle.tks_tree.specs.Within.{AreThoseIn}
use Rattle.tks_tree.proofs.Leaving.{without_numbers, gone_in, well_gone, destroyed_gone}
use Rattle.tks_tree.proofs.Indexed.{numbers_rise}
use Rattle.tks_tree.proofs.tree.Tree.destroy.Goals as goal

pub without_windows-requires : goal.without_windows-requires
without_windows-requires c = numbers_rise 0 c.self.inside.windows c.self.inside.next c.self.invariant.0.numbered

pub invariant_of-self : goal.invariant_of-self
invariant_of-self c =
    let t : Windows = record { windows = c.self.inside.windows; next = c.self.inside.next } in
    let ids = c.in_ok-ids.ids.items in
    let windows : c.in_ok-windows.windows ≡ without_numbers (λ (v : Window). v.number) ids t.windows =
    c.in_ok-windows.ensures ∙ ap (λ ns. without_numbers (λ (v : Window). v.number) ns t.windows) c.deref.ensures.value in
    let left = windows ∙ gone_in t c.args.id ids (subst (λ u. AreThoseIn u c.args.id ids) (sym c.self.view_is) c.in_ok-ids.ensures) in (
      subst (λ ws. WellFormed (record { windows = ws; next = t.next })) (sym left) (well_gone t c.args.id c.self.invariant.0 (sym c.is_root.ensures ∙ c.if-is_root.false)),
      λ q.
          c.in_ok-index.ensures q
          ∙ ap (λ ws. number_at ws (Some q))
          (ap (λ ns. without_numbers (λ (v : Window). v.number) ns c.args.self.now.windows) c.deref-2.ensures.value
          ∙ ap (λ (u : Windows). without_numbers (λ (v : Window). v.number) ids u.windows) (sym c.self.view_is)
          ∙ sym windows),
    )

pub returns-clause-value : goal.returns-clause-value
returns-clause-value c =
    let t : Windows = record { windows = c.self.inside.windows; next = c.self.inside.next } in
    let ids = c.in_ok-ids.ids.items in
    let left =
    c.in_ok-windows.ensures
    ∙ ap (λ ns. without_numbers (λ (v : Window). v.number) ns t.windows) c.deref.ensures.value
    ∙ gone_in t c.args.id ids (subst (λ u. AreThoseIn u c.args.id ids) (sym c.self.view_is) c.in_ok-ids.ensures) in
    ap (λ t. destroyed t c.args.id) (sym c.self.view_is) ∙ destroyed_gone t c.args.id c.in_ok-windows.windows (sym c.is_root.ensures ∙ c.if-is_root.false) left
