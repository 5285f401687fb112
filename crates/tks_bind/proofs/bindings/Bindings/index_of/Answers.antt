use Rattle.std.proofs.Common.{◌≡◌, Some, None, sym, ap, ◌∙◌}
use Rattle.std.specs.Prelude.{slice_get, option_copied}
use Rattle.std.specs.List.{find}
use Rattle.tks_bind.specs.Binding.{Content, is_for}
use Rattle.tks_bind.specs.Indexes.{index_of}
use Rattle.tks_bind.proofs.Numbering.{nowhere, number_there}
use Rattle.tks_bind.proofs.bindings.Bindings.index_of.Goals as goal

pub returns-in_default : goal.returns-in_default
returns-in_default c =
    let bs = c.self.inside.bindings in
    let none : find (is_for c.args.tag.now c.args.sequence.now) bs ≡ None = sym (c.held_for.ensures bs c.self.invariant.tags) ∙ ap option_copied c.in_default.is in
    c.len.ensures.value ∙ sym (nowhere c.args.tag.now c.args.sequence.now bs none)
    ∙ ap (λ (v : Content). index_of c.args.tag.now c.args.sequence.now v.bindings) c.self.view_is

pub unreachable-requires : goal.unreachable-requires
unreachable-requires c =
    let bs = c.self.inside.bindings in
    let found : find (is_for c.args.tag.now c.args.sequence.now) bs ≡ Some c.in-Some.binding.now = sym (c.held_for.ensures bs c.self.invariant.tags) ∙ ap option_copied c.in-Some.is in
    let index = index_of c.args.tag.now c.args.sequence.now bs in
    let there = ap (λ ns. slice_get ns index) c.self.invariant.places ∙ number_there c.args.tag.now c.args.sequence.now bs c.in-Some.binding.now found ∙ ap (λ b. Some b.number) (sym c.get.ensures) in
    let some : c.place_of.result ≡ Some index = c.place_of.ensures index there in
    let wrong : ◌≡◌ (None) (Some index) = sym c.in-None.is ∙ some in
    cc

pub returns : goal.returns
returns c =
    let bs = c.self.inside.bindings in
    let found : find (is_for c.args.tag.now c.args.sequence.now) bs ≡ Some c.in-Some.binding.now = sym (c.held_for.ensures bs c.self.invariant.tags) ∙ ap option_copied c.in-Some.is in
    let index = index_of c.args.tag.now c.args.sequence.now bs in
    let there = ap (λ ns. slice_get ns index) c.self.invariant.places ∙ number_there c.args.tag.now c.args.sequence.now bs c.in-Some.binding.now found ∙ ap (λ b. Some b.number) (sym c.get.ensures) in
    let some : c.place_of.result ≡ Some index = c.place_of.ensures index there in
    let same : c.in-Some-place_of.index ≡ index = cc in
    same ∙ ap (λ (v : Content). index_of c.args.tag.now c.args.sequence.now v.bindings) c.self.view_is
