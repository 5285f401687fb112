use Rattle.std.proofs.Common.{rules, ◌≡◌, ◌<◌, length, Some, None, sym, subst, ap, ◌∙◌}
use Rattle.std.specs.Prelude.{slice_get, option_copied}
use Rattle.std.specs.List.{remove}
use Rattle.tks_bind.specs.Throughs.{Drops}
use Rattle.tks_bind.specs.VirtualEvents.{sequences_of, deleted}
use Rattle.tks_bind.specs.VirtualIndexes.{index_of, found}
use Rattle.tks_bind.proofs.Leading.{placed_by}
use Rattle.tks_bind.proofs.Naming.{stands, inside}
use Rattle.tks_bind.proofs.Sequences.{leads_deleted}
use Rattle.tks_bind.proofs.VirtualForming.{removed_apart}
use Rattle.tks_bind.proofs.Virtually.{deleted_there, deleted_none, found_inside, sequences_found}
use Rattle.tks_bind.proofs.virtuals.Virtuals.event_delete.Goals.{In-Some}
use Rattle.tks_bind.proofs.virtuals.Virtuals.event_delete.Goals as goal

-- where the event of the name stands, and that it is the one
place_so : (c : In-Some) → c.index_of-index.result ≡ index_of c.args.name.now c.self.inside.events
place_so c = c.index_of-index.ensures ∙ ap (index_of c.args.name.now) (sym c.self.view_is)

found_so : (c : In-Some) → found c.args.name.now c.self.inside.events ≡ Some c.in-Some.event.now
found_so c = sym (stands c.args.name.now c.self.inside.events) ∙ ap (slice_get c.self.inside.events) (sym (place_so c)) ∙ sym c.get.ensures ∙ ap option_copied c.in-Some.is

pub returns-in_default-clause-ok : goal.returns-in_default-clause-ok
returns-in_default-clause-ok c =
    let vs = c.self.inside.events in
    let name = c.args.name.now in
    let at = c.index_of-index.ensures ∙ ap (index_of name) (sym c.self.view_is) in
    let gone : found name vs ≡ None = sym (stands name vs) ∙ ap (slice_get vs) (sym at) ∙ sym c.get.ensures ∙ ap option_copied c.in_default.is in
    sym c.self.view_is ∙ deleted_none name vs gone ∙ ap (deleted name) c.self.view_is

pub without-requires : goal.without-requires
without-requires c =
    let vs = c.self.inside.events in
    let name = c.args.name.now in
    let here = (goal.at.without-requires c).In-Some in
    inside c.self.inside.names vs c.self.invariant.names name c.in-Some.event.now (found_so here) c.index_of-index.result (place_so here)

pub remove-requires : goal.remove-requires
remove-requires c =
    let vs = c.self.inside.events in
    let name = c.args.name.now in
    let here = (goal.at.remove-requires c).In-Some in
    subst (λ i. i < length vs) (sym (place_so here)) (found_inside name c.in-Some.event.now vs (found_so here))

pub invariant_of-self-2 : goal.invariant_of-self-2
invariant_of-self-2 c =
    let vs = c.self.inside.events in
    let name = c.args.name.now in
    let here = (goal.at.invariant_of-self-2 c).In-Some in
    let removed : c.remove.new.self ≡ remove vs c.index_of-index.result = search rules in
    let left : c.remove.new.self ≡ deleted name vs = removed ∙ ap (remove vs) (place_so here) ∙ deleted_there name vs (found_inside name c.in-Some.event.now vs (found_so here)) in
    let all : c.as_slice-sequences.result.now ≡ sequences_of name vs = c.as_slice-sequences.ensures.value ∙ sym (sequences_found name c.in-Some.event.now vs (found_so here)) in
    let drops : Drops name (sequences_of name vs) c.self.inside.groups c.in_ok-groups.groups = rw (← all) (c.in_ok-groups.ensures (placed_by c.self.inside.groups vs c.self.invariant.groups)) in
    record {
      events = rw removed (removed_apart vs c.index_of-index.result c.self.invariant.events);
      groups = rw left (leads_deleted name c.self.inside.groups c.in_ok-groups.groups vs c.self.invariant.events.names c.self.invariant.groups drops);
      names = rw removed (c.in_ok-names.ensures vs c.self.invariant.names c.self.invariant.events.names (place_so here));
    }

pub returns-clause-ok : goal.returns-clause-ok
returns-clause-ok c =
    let vs = c.self.inside.events in
    let name = c.args.name.now in
    let here = (goal.at.returns-clause-ok c).In-Some in
    let removed : c.remove.new.self ≡ remove vs c.index_of-index.result = search rules in
    rw (← c.self.view_is) (removed ∙ ap (remove vs) (place_so here) ∙ deleted_there name vs (found_inside name c.in-Some.event.now vs (found_so here)))
