use Rattle.std.proofs.Common.{◌≡◌, [], List, Ok, inl, refl, sym, ◌∙◌, ap, subst}
use Rattle.tks_input.specs.declared.input.Input.{Input}
use Rattle.tks_durable.specs.Opening.{opens, run}
use Rattle.tks_durable.specs.Durable.{IsPending}
use Rattle.tks_durable.proofs.Pending.{cleared, none_wait}
use Rattle.tks_durable.proofs.durable.Durable.over.Goals as goal

pub invariant_of-result : goal.invariant_of-result
invariant_of-result g c =
    let m = g.M.Machine.meaning c.args.machine in (
      subst (λ l. IsPending l 0) (sym c.new.ensures.items) none_wait,
      inl refl,
      λ works h. subst (λ w. run m (opens m (g.D.Disk.view c.args.journal.disk).reads) w ≡ Ok c.args.world) (sym (cleared c.new.result.items c.new.ensures.items)) (c.requires.stands h),
      λ works h. record { world = c.args.world; opened = c.requires.stands h; counted = sym c.count-acknowledged.ensures },
      c.requires.own,
    )

pub returns : goal.returns
returns g c =
    ap (λ (w : List Input). record { journal = c.args.journal; machine = c.args.machine; world = c.args.world; waiting = w; acknowledged = c.count-acknowledged.result }) (cleared c.new.result.items c.new.ensures.items)
    ∙ ap (λ n. record { journal = c.args.journal; machine = c.args.machine; world = c.args.world; waiting = []; acknowledged = n }) c.count-acknowledged.ensures
