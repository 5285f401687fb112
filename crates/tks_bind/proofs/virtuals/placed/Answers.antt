use Rattle.std.proofs.Common.{rules, ◌≡◌, true, [], ◌∷◌, ◌++◌, append-nil, refl, sym, subst, ap, ◌∙◌}
use Rattle.tks_bind.specs.VirtualIndexes.{ArePlaced}
use Rattle.tks_bind.specs.WellFormed.{are_virtuals}
use Rattle.tks_bind.proofs.Members.{one_on}
use Rattle.tks_bind.proofs.Naming.{none_before}
use Rattle.tks_bind.proofs.Sequences.{differ_before}
use Rattle.tks_bind.proofs.virtuals.placed.Goals as goal

pub loop-event-init : goal.loop-event-init
loop-event-init c =
    let all : c.into_iter-event-iterator.result ≡ c.args.events.now = search rules in
    ([], all, c.new-names.ensures)

pub with-requires : goal.with-requires
with-requires c = c.loop-event.invariant.2.below

pub loop-event-preserved : goal.loop-event-preserved
loop-event-preserved c =
    let before = c.loop-event.invariant in
    let v = c.in-Some.event.now in
    let rest = c.next.new.self in
    let left = c.loop-event.event-iterator in
    let steps : left ≡ v ∷ rest = search rules in
    let apart = subst (λ l. are_virtuals l ≡ true) (sym before.1 ∙ ap (λ l. before.0 ++ l) steps) c.requires in (
      before.0 ++ v ∷ [],
      one_on before.0 v rest left c.args.events.now steps before.1,
      c.in_ok-names.ensures before.0 v before.2 (none_before v.name before.0 v refl (differ_before before.0 v rest apart)) refl,
    )

pub returns : goal.returns
returns c =
    let before = c.loop-event.invariant in
    let none : c.loop-event.event-iterator ≡ [] = search rules in
    subst (λ vs. ArePlaced vs c.loop-event.names) (sym (append-nil before.0) ∙ ap (λ l. before.0 ++ l) (sym none) ∙ before.1) before.2
