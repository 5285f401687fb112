use Rattle.std.proofs.Common.{rules, ◌≡◌, ◌<◌, true, false, length, [], ◌∷◌, ◌++◌, slice_set, Some, None, refl, ap, sym, subst, ◌∙◌}
use Rattle.std.specs.Prelude.{slice_get, option_copied}
use Rattle.tks_bind.specs.Groups.{Leads}
use Rattle.tks_bind.specs.Throughs.{Gains}
use Rattle.tks_bind.specs.VirtualEvents.{has_sequence, sequences_of, added}
use Rattle.tks_bind.specs.VirtualIndexes.{index_of, found, ArePlaced}
use Rattle.tks_bind.specs.declared.virtual_event.VirtualEvent.{VirtualEvent}
use Rattle.tks_bind.proofs.Naming.{stands, none_there, placed_set}
use Rattle.tks_bind.proofs.VirtualForming.{pushed_apart, replaced_apart, found_legal, legal_first, legal_more}
use Rattle.tks_bind.proofs.Virtually.{added_new, added_same, added_more, found_inside, sequences_none, sequences_found}
use Rattle.tks_bind.proofs.Sequences.{leads_added}
use Rattle.tks_bind.proofs.virtuals.Virtuals.add.Goals.{In-Some}
use Rattle.tks_bind.proofs.virtuals.Virtuals.add.Goals as goal

-- where the event of the name stands, and that it is the one
place_so : (c : In-Some) → c.index_of-index.result ≡ index_of c.args.name.now c.self.inside.events
place_so c = c.index_of-index.ensures ∙ ap (index_of c.args.name.now) (sym c.self.view_is)

found_so : (c : In-Some) → found c.args.name.now c.self.inside.events ≡ Some c.in-Some.event.now
found_so c = sym (stands c.args.name.now c.self.inside.events) ∙ ap (slice_get c.self.inside.events) (sym (place_so c)) ∙ sym c.get.ensures ∙ ap option_copied c.in-Some.is

pub with-requires : goal.with-requires
with-requires c = c.self.invariant.names.below

pub invariant_of-self-in_default : goal.invariant_of-self-in_default
invariant_of-self-in_default c =
    let vs = c.self.inside.events in
    let q = c.args.sequence.now in
    let at = c.index_of-index.ensures ∙ ap (index_of c.args.name.now) (sym c.self.view_is) in
    let gone : found c.args.name.now vs ≡ None = sym (stands c.args.name.now vs) ∙ ap (slice_get vs) (sym at) ∙ sym c.get.ensures ∙ ap option_copied c.in_default.is in
    let new : VirtualEvent = record { name = c.args.name.now; sequences = q ∷ [] } in
    let legal = legal_first c.args.name.now q c.requires.name c.requires.physical in
    let all = pushed_apart new vs gone legal c.self.invariant.events in
    let pushed : c.push.new.self ≡ vs ++ new ∷ [] = search rules in
    let lacks : has_sequence q (sequences_of c.args.name.now vs) ≡ false = ap (has_sequence q) (sequences_none c.args.name.now vs gone) in
    let joins : Gains c.args.name.now (q ∷ []) c.self.inside.groups c.in_ok-groups.groups = rw (← c.from_ref.ensures.value) c.in_ok-groups.ensures in
    let leads = leads_added c.args.name.now c.self.inside.groups c.in_ok-groups.groups vs q lacks c.self.invariant.groups joins in
    let names : ArePlaced (vs ++ new ∷ []) c.in_ok-names.names = c.in_ok-names.ensures vs new c.self.invariant.names (none_there c.args.name.now vs gone) refl in
    rw pushed (record { events = all; groups = subst (Leads c.in_ok-groups.groups) (sym (added_new c.args.name.now q vs gone)) leads; names = names })

pub invariant_of-self-2 : goal.invariant_of-self-2
invariant_of-self-2 c =
    let vs = c.self.inside.events in
    let v = c.in-Some.event.now in
    let q = c.args.sequence.now in
    let here = (goal.at.invariant_of-self-2 c).In-Some in
    let lacks : has_sequence q v.sequences ≡ false = search rules in
    let name : c.in_ok-try_clone.field-0 ≡ v.name = search rules in
    let more : c.in_ok-with_one_more.field-0 ≡ v.sequences ++ q ∷ [] = search rules in
    let old = found_legal c.args.name.now v vs (found_so here) c.self.invariant.events in
    let legal = legal_more v q old lacks c.requires.physical in
    let new : VirtualEvent = record { name = v.name; sequences = v.sequences ++ q ∷ [] } in
    let all = replaced_apart c.args.name.now v new vs (found_so here) refl legal c.self.invariant.events in
    let joins : Gains c.args.name.now (q ∷ []) c.self.inside.groups c.in_ok-groups-2.groups = rw (← c.from_ref-2.ensures.value) c.in_ok-groups-2.ensures in
    let lacking : has_sequence q (sequences_of c.args.name.now vs) ≡ false = ap (has_sequence q) (sequences_found c.args.name.now v vs (found_so here)) ∙ lacks in
    let leads = leads_added c.args.name.now c.self.inside.groups c.in_ok-groups-2.groups vs q lacking c.self.invariant.groups joins in
    let set : c.set.new.self ≡ slice_set vs (index_of c.args.name.now vs) new = rw (c.in_ok-set.ensures.ok, name, more, (place_so here)) refl in
    rw set (record {
      events = all;
      groups = subst (Leads c.in_ok-groups-2.groups) (sym (added_more c.args.name.now q v vs (found_so here) lacks)) leads;
      names = placed_set c.self.inside.names vs c.self.invariant.names c.args.name.now v new (found_so here) refl;
    })

pub returns-in_default-clause-ok : goal.returns-in_default-clause-ok
returns-in_default-clause-ok c =
    let vs = c.self.inside.events in
    let name = c.args.name.now in
    let q = c.args.sequence.now in
    let at = c.index_of-index.ensures ∙ ap (index_of name) (sym c.self.view_is) in
    let gone : found name vs ≡ None = sym (stands name vs) ∙ ap (slice_get vs) (sym at) ∙ sym c.get.ensures ∙ ap option_copied c.in_default.is in
    let pushed : c.push.new.self ≡ vs ++ record { name = name; sequences = q ∷ [] } ∷ [] = search rules in
    pushed ∙ added_new name q vs gone ∙ ap (added name q) c.self.view_is

pub returns-then-has_sequence-clause-ok : goal.returns-then-has_sequence-clause-ok
returns-then-has_sequence-clause-ok c =
    let vs = c.self.inside.events in
    let name = c.args.name.now in
    let q = c.args.sequence.now in
    let here = (goal.at.returns-then-has_sequence-clause-ok c).In-Some in
    let v = c.in-Some.event.now in
    let has : has_sequence q v.sequences ≡ true = search rules in
    sym c.self.view_is ∙ added_same name q v vs (found_so here) has ∙ ap (added name q) c.self.view_is

pub set-requires : goal.set-requires
set-requires c =
    let vs = c.self.inside.events in
    let name = c.args.name.now in
    let here = (goal.at.set-requires c).In-Some in
    let v = c.in-Some.event.now in
    subst (λ i. i < length vs) (sym (place_so here)) (found_inside name v vs (found_so here))

pub returns-clause-ok : goal.returns-clause-ok
returns-clause-ok c =
    let vs = c.self.inside.events in
    let name = c.args.name.now in
    let q = c.args.sequence.now in
    let here = (goal.at.returns-clause-ok c).In-Some in
    let v = c.in-Some.event.now in
    let lacks : has_sequence q v.sequences ≡ false = search rules in
    let same : c.in_ok-try_clone.field-0 ≡ v.name = search rules in
    let more : c.in_ok-with_one_more.field-0 ≡ v.sequences ++ q ∷ [] = search rules in
    let new : VirtualEvent = record { name = v.name; sequences = v.sequences ++ q ∷ [] } in
    let set : c.set.new.self ≡ slice_set vs (index_of name vs) new = rw (c.in_ok-set.ensures.ok, same, more, (place_so here)) refl in
    set ∙ added_more name q v vs (found_so here) lacks ∙ ap (added name q) c.self.view_is
