use Rattle.std.proofs.Common.{rules, ◌≡◌, ◌<◌, length, sym, subst, ap, ◌∙◌, arith}
use Rattle.std.specs.List.{remove}
use Rattle.std.proofs.lemmas.List.{length-map}
use Rattle.tks_bind.specs.Binding.{Content, without}
use Rattle.tks_bind.specs.Indexes.{index_of}
use Rattle.tks_bind.specs.Places.{numbers_of}
use Rattle.tks_bind.specs.declared.binding.Binding.{Binding}
use Rattle.tks_bind.proofs.Counting.{map_removed}
use Rattle.tks_bind.proofs.Placing.{taken_there}
use Rattle.tks_bind.proofs.Forming.{removed_differ, removed_below, all_below}
use Rattle.tks_bind.proofs.bindings.Bindings.unset.Goals as goal

pub remove-requires : goal.remove-requires
remove-requires c =
    let bs = c.self.inside.bindings in
    let within : c.index_of-index.result < length bs = search rules in
    omega (arith, within, ap length (c.in_ok-places.ensures ∙ c.self.invariant.places), length-map bs (λ (b : Binding). b.number))

pub invariant_of-self-then-index-len : goal.invariant_of-self-then-index-len
invariant_of-self-then-index-len c =
    let bs = c.self.inside.bindings in
    let index = c.index_of-index.result in
    let at : index ≡ index_of c.args.tag.now c.args.sequence.now bs =
    c.index_of-index.ensures ∙ ap (λ (v : Content). index_of c.args.tag.now c.args.sequence.now v.bindings) (sym c.self.view_is) in
    let removed : c.remove-then-index-len.new.self ≡ remove bs index = search rules in
    let within : index < length bs = search rules in
    let left : c.remove-then-index-len.new.self ≡ without c.args.tag.now c.args.sequence.now bs =
    removed ∙ ap (remove bs) at ∙ taken_there c.args.tag.now c.args.sequence.now bs (subst (λ n. n < length bs) at within) in
    record {
      bindings = rw removed (record { next = c.self.invariant.bindings.next; bindings = removed_differ c.self.inside.next bs index c.self.invariant.bindings.bindings });
      tags = rw left (c.in_ok-tags.ensures bs c.self.invariant.tags);
      places =
          c.in_ok-remove.ensures.ok
          ∙ ap (λ ns. remove ns index) (c.in_ok-places.ensures ∙ c.self.invariant.places)
          ∙ sym (map_removed (λ b. b.number) bs index)
          ∙ ap numbers_of (sym removed);
    }

pub returns-in_ok-remove-2-clause-latest : goal.returns-in_ok-remove-2-clause-latest
returns-in_ok-remove-2-clause-latest c =
    let bs = c.self.inside.bindings in
    let removed : c.remove-then-index-len.new.self ≡ remove bs c.index_of-index.result = search rules in
    rw (removed, ← c.self.view_is) (removed_below c.self.inside.next c.args.tag.now c.args.sequence.now bs c.index_of-index.result c.self.invariant.bindings.bindings)

pub returns-else-index-len-clause-latest : goal.returns-else-index-len-clause-latest
returns-else-index-len-clause-latest c =
    rw (← c.self.view_is) (all_below c.self.inside.next c.args.tag.now c.args.sequence.now c.self.inside.bindings c.self.invariant.bindings.bindings)
