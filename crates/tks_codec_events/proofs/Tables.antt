-- What holds of the spellings of bindings and virtual events.
use Rattle.std.proofs.Common.{◌≡◌, ℕ, true, List, [], ◌∷◌, Option, Some, None, Ok, refl, ap, arith}
use Rattle.std.specs.List.{AllByRecursion}
use Rattle.std.specs.Int.{w64}
use Rattle.tks_bind.specs.declared.binding.Binding.{Binding}
use Rattle.tks_bind.specs.declared.virtual_event.VirtualEvent.{VirtualEvent}
use Rattle.tks_spelling.specs.Spelling.{Lawful, IsBytes, AreLegal, list}
use Rattle.tks_spelling.proofs.EachKind.{wide64, number_lawful, test_lawful, field_lawful, through_lawful, list_lawful, text_lawful}
use Rattle.tks_codec_events.specs.Sequence.{sequence}
use Rattle.tks_bind.specs.WellFormed.{are_bindings, is_virtual_event, are_virtuals}
use Rattle.tks_codec_events.specs.Bindings.{binding, bindings}
use Rattle.tks_codec_events.specs.Virtuals.{named, virtual_event, virtuals}
use Rattle.tks_codec_events.proofs.Sequencing.{sequence_lawful}

binding_lawful : Lawful binding
binding_lawful =
    field_lawful (λ b. b.number) _ _ (λ n b k h. ap (λ (b : Binding). b.number) h.1.1.1) (number_lawful w64 wide64) (λ n.
    field_lawful (λ b. b.tag) _ _ (λ tag b k h. ap (λ (b : Binding). b.tag) h.1.1) text_lawful (λ tag.
    field_lawful (λ b. b.sequence) _ _ (λ s b k h. ap (λ (b : Binding). b.sequence) h.1) sequence_lawful (λ s.
    through_lawful (λ b. b.script) _ _ (λ script k. refl) text_lawful)))

pub bindings_lawful : (next : ℕ) → Lawful (bindings next)
bindings_lawful next = test_lawful (are_bindings next) (list binding) (λ v h. omega arith) (list_lawful (λ before. binding) (λ before. binding_lawful))

named_lawful : Lawful named
named_lawful =
    field_lawful (λ v. v.name) _ _ (λ name v k h. ap (λ (v : VirtualEvent). v.name) h.1) text_lawful (λ name.
    through_lawful (λ v. v.sequences) _ _ (λ sequences k. refl) (list_lawful (λ before. sequence) (λ before. sequence_lawful)))

virtual_event_lawful : Lawful virtual_event
virtual_event_lawful = test_lawful is_virtual_event named (λ v h. omega arith) named_lawful

-- those that are read are virtual events
pub read_legal : (bytes : List ℕ) (vs : List VirtualEvent) (rest : List ℕ) → IsBytes bytes → (list virtual_event).read bytes ≡ Ok (vs, rest) → AllByRecursion (λ v. is_virtual_event v ≡ true) vs
read_legal bytes vs rest fits e = legal None vs ((list_lawful (λ before. virtual_event) (λ before. virtual_event_lawful)).nothing_else bytes vs rest fits e).legal.1
  where
    legal : (before : Option VirtualEvent) (vs : List VirtualEvent) → AreLegal (λ before. virtual_event) before vs → AllByRecursion (λ v. is_virtual_event v ≡ true) vs
    legal before [] h = tt
    legal before (v ∷ vs) h = (h.0.1, legal (Some v) vs h.1)

pub virtuals_lawful : Lawful virtuals
virtuals_lawful = test_lawful are_virtuals (list virtual_event) (λ v h. omega arith) (list_lawful (λ before. virtual_event) (λ before. virtual_event_lawful))
