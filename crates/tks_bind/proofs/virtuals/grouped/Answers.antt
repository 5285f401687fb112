use Rattle.std.proofs.Common.{rules, ◌≡◌, true, [], ◌∷◌, ◌++◌, refl, ap, sym, subst, ◌∙◌}
use Rattle.tks_bind.specs.WellFormed.{are_virtuals}
use Rattle.tks_bind.specs.Throughs.{Gains}
use Rattle.tks_bind.proofs.Leading.{none_led}
use Rattle.tks_bind.proofs.Members.{behind_one}
use Rattle.tks_bind.proofs.Sequences.{leads_pushed}
use Rattle.tks_bind.proofs.virtuals.grouped.Goals as goal

pub loop-event-init : goal.loop-event-init
loop-event-init c = ([], search rules, rw c.new-groups.ensures (λ h. none_led))

pub loop-event-preserved : goal.loop-event-preserved
loop-event-preserved c =
    let done = c.loop-event.invariant.0 in
    let v = c.in-Some.event.now in
    let rest = c.next.new.self in
    let steps : c.loop-event.event-iterator ≡ v ∷ rest = search rules in
    let all : done ++ v ∷ rest ≡ c.args.events.now = ap (λ l. done ++ l) (sym steps) ∙ c.loop-event.invariant.1 in
    let joins : Gains v.name v.sequences c.loop-event.groups c.in_ok-groups.groups = rw (← c.as_slice.ensures.value) c.in_ok-groups.ensures in (
      done ++ v ∷ [],
      behind_one done v rest ∙ all,
      λ h. leads_pushed v.name c.loop-event.groups c.in_ok-groups.groups done v rest refl (subst (λ l. are_virtuals l ≡ true) (sym all) h) (c.loop-event.invariant.2 h) joins,
    )
