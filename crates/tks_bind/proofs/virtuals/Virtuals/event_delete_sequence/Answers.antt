use Rattle.std.proofs.Common.{rules, ◌≡◌, ◌<◌, ◌==◌, false, [], ◌∷◌, length, slice_set, Some, None, refl, sym, subst, ap, ◌∙◌}
use Rattle.std.specs.Prelude.{slice_get, option_copied}
use Rattle.std.specs.List.{remove}
use Rattle.tks_bind.specs.Groups.{Leads}
use Rattle.tks_bind.specs.Throughs.{Drops}
use Rattle.tks_bind.specs.VirtualEvents.{other_sequences, deleted_sequence}
use Rattle.tks_bind.specs.VirtualIndexes.{index_of, found}
use Rattle.tks_bind.specs.declared.virtual_event.VirtualEvent.{VirtualEvent}
use Rattle.tks_bind.proofs.Leading.{placed_by}
use Rattle.tks_bind.proofs.Naming.{stands, inside, placed_set}
use Rattle.tks_bind.proofs.Sequences.{leads_less}
use Rattle.tks_bind.proofs.VirtualForming.{removed_apart, replaced_apart, found_legal, legal_less}
use Rattle.tks_bind.proofs.Virtually.{found_inside, none_deleted, last_deleted, one_deleted}
use Rattle.tks_bind.proofs.Members.{empty_list}
use Rattle.tks_bind.proofs.virtuals.Virtuals.event_delete_sequence.Goals.{In-Some}
use Rattle.tks_bind.proofs.virtuals.Virtuals.event_delete_sequence.Goals as goal

-- where the event of the name stands, and that it is the one
place_so : (c : In-Some) → c.index_of-index.result ≡ index_of c.args.name.now c.self.inside.events
place_so c = c.index_of-index.ensures ∙ ap (index_of c.args.name.now) (sym c.self.view_is)

found_so : (c : In-Some) → found c.args.name.now c.self.inside.events ≡ Some c.in-Some.event.now
found_so c = sym (stands c.args.name.now c.self.inside.events) ∙ ap (slice_get c.self.inside.events) (sym (place_so c)) ∙ sym c.get.ensures ∙ ap option_copied c.in-Some.is

pub returns-in_default-clause-ok : goal.returns-in_default-clause-ok
returns-in_default-clause-ok c =
    let vs = c.self.inside.events in
    let name = c.args.name.now in
    let at = c.index_of-index.ensures ∙ ap (index_of name) (sym c.self.view_is) in
    let gone : found name vs ≡ None = sym (stands name vs) ∙ ap (slice_get vs) (sym at) ∙ sym c.get.ensures ∙ ap option_copied c.in_default.is in
    sym c.self.view_is ∙ none_deleted name c.args.sequence.now vs gone ∙ ap (deleted_sequence name c.args.sequence.now) c.self.view_is

pub without-requires : goal.without-requires
without-requires c =
    let vs = c.self.inside.events in
    let name = c.args.name.now in
    let here = (goal.at.without-requires c).In-Some in
    inside c.self.inside.names vs c.self.invariant.names name c.in-Some.event.now (found_so here) c.index_of-index.result (place_so here)

pub remove-requires : goal.remove-requires
remove-requires c =
    let vs = c.self.inside.events in
    let name = c.args.name.now in
    let here = (goal.at.remove-requires c).In-Some in
    subst (λ i. i < length vs) (sym (place_so here)) (found_inside name c.in-Some.event.now vs (found_so here))

pub set-requires : goal.set-requires
set-requires c =
    let vs = c.self.inside.events in
    let name = c.args.name.now in
    let here = (goal.at.set-requires c).In-Some in
    subst (λ i. i < length vs) (sym (place_so here)) (found_inside name c.in-Some.event.now vs (found_so here))

pub invariant_of-self-then-is_empty : goal.invariant_of-self-then-is_empty
invariant_of-self-then-is_empty c =
    let vs = c.self.inside.events in
    let name = c.args.name.now in
    let q = c.args.sequence.now in
    let v = c.in-Some.event.now in
    let here = (goal.at.invariant_of-self-then-is_empty c).In-Some in
    let gives : c.in_ok-left.left ≡ other_sequences q v.sequences = search rules in
    let empty = empty_list c.in_ok-left.left (search rules) in
    let removed : c.remove.new.self ≡ remove vs c.index_of-index.result = search rules in
    let left : c.remove.new.self ≡ deleted_sequence name q vs = removed ∙ ap (remove vs) (place_so here) ∙ last_deleted name q v vs (found_so here) (sym gives ∙ empty) in
    let drops : Drops name (q ∷ []) c.self.inside.groups c.in_ok-groups.groups = rw (← c.from_ref.ensures.value) (c.in_ok-groups.ensures (placed_by c.self.inside.groups vs c.self.invariant.groups)) in
    record {
      events = rw removed (removed_apart vs c.index_of-index.result c.self.invariant.events);
      groups = rw left (leads_less name c.self.inside.groups c.in_ok-groups.groups vs q c.self.invariant.events.names c.self.invariant.groups drops);
      names = rw removed (c.in_ok-names.ensures vs c.self.invariant.names c.self.invariant.events.names (place_so here));
    }

pub invariant_of-self-2 : goal.invariant_of-self-2
invariant_of-self-2 c =
    let vs = c.self.inside.events in
    let q = c.args.sequence.now in
    let v = c.in-Some.event.now in
    let here = (goal.at.invariant_of-self-2 c).In-Some in
    let name : c.in_ok-try_clone.field-0 ≡ v.name = search rules in
    let gives : c.in_ok-left.left ≡ other_sequences q v.sequences = search rules in
    let some : (length c.in_ok-left.left == 0) ≡ false = search rules in
    let old = found_legal c.args.name.now v vs (found_so here) c.self.invariant.events in
    let legal = legal_less v q c.in_ok-left.left old gives some in
    let new : VirtualEvent = record { name = v.name; sequences = c.in_ok-left.left } in
    let all = replaced_apart c.args.name.now v new vs (found_so here) refl legal c.self.invariant.events in
    let drops : Drops c.args.name.now (q ∷ []) c.self.inside.groups c.in_ok-groups.groups = rw (← c.from_ref.ensures.value) (c.in_ok-groups.ensures (placed_by c.self.inside.groups vs c.self.invariant.groups)) in
    let leads = leads_less c.args.name.now c.self.inside.groups c.in_ok-groups.groups vs q c.self.invariant.events.names c.self.invariant.groups drops in
    let set : c.set.new.self ≡ slice_set vs (index_of c.args.name.now vs) new = rw (c.in_ok-set.ensures.ok, name, (place_so here)) refl in
    rw set (record {
      events = all;
      groups = subst (Leads c.in_ok-groups.groups) (sym (one_deleted c.args.name.now q v c.in_ok-left.left vs (found_so here) gives some)) leads;
      names = placed_set c.self.inside.names vs c.self.invariant.names c.args.name.now v new (found_so here) refl;
    })

pub returns-then-is_empty-clause-ok : goal.returns-then-is_empty-clause-ok
returns-then-is_empty-clause-ok c =
    let vs = c.self.inside.events in
    let name = c.args.name.now in
    let q = c.args.sequence.now in
    let here = (goal.at.returns-then-is_empty-clause-ok c).In-Some in
    let v = c.in-Some.event.now in
    let gives : c.in_ok-left.left ≡ other_sequences q v.sequences = search rules in
    let empty = empty_list c.in_ok-left.left (search rules) in
    let removed : c.remove.new.self ≡ remove vs c.index_of-index.result = search rules in
    removed ∙ ap (remove vs) (place_so here) ∙ last_deleted name q v vs (found_so here) (sym gives ∙ empty) ∙ ap (deleted_sequence name q) c.self.view_is

pub returns-clause-ok : goal.returns-clause-ok
returns-clause-ok c =
    let vs = c.self.inside.events in
    let name = c.args.name.now in
    let q = c.args.sequence.now in
    let here = (goal.at.returns-clause-ok c).In-Some in
    let v = c.in-Some.event.now in
    let same : c.in_ok-try_clone.field-0 ≡ v.name = search rules in
    let gives : c.in_ok-left.left ≡ other_sequences q v.sequences = search rules in
    let some : (length c.in_ok-left.left == 0) ≡ false = search rules in
    let new : VirtualEvent = record { name = v.name; sequences = c.in_ok-left.left } in
    let set : c.set.new.self ≡ slice_set vs (index_of name vs) new = rw (c.in_ok-set.ensures.ok, same, (place_so here)) refl in
    set ∙ one_deleted name q v c.in_ok-left.left vs (found_so here) gives some ∙ ap (deleted_sequence name q) c.self.view_is
