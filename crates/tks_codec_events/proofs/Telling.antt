-- Keys that tell bindings, virtual events and sequences apart: what is spelled alike is the same.
use Rattle.std.proofs.Common.{◌≡◌, ℕ, Bool, not, List, [], ◌++◌, sym, ap, ◌∙◌}
use Rattle.std.specs.Prelude.{◌==◌}
use Rattle.std.specs.Bool.{Decides}
use Rattle.std.specs.Cmp.Lexicographic.{bytes_decides}
use Rattle.std.specs.Int.{w64}
use Rattle.std.proofs.lemmas.Bool.Decides.{Decides-eqb, Decides-and, Decides-like, same_from_decides}
use Rattle.tks_text.specs.Text.{same_text}
use Rattle.tks_event.specs.Equality.{equal_patterns}
use Rattle.tks_event.specs.declared.pattern.Pattern.{Pattern}
use Rattle.tks_event.proofs.Equal.{equal_so}
use Rattle.tks_bind.specs.Binding.{is_for}
use Rattle.tks_bind.specs.WellFormed.{names_differ, sequences_differ}
use Rattle.tks_bind.specs.declared.binding.Binding.{Binding}
use Rattle.tks_bind.specs.declared.virtual_event.VirtualEvent.{VirtualEvent}
use Rattle.tks_spelling.specs.Spelling.{Spelling, Lawful, number, text}
use Rattle.tks_spelling.proofs.EachKind.{wide64, one_front, number_lawful, pair_lawful, text_lawful}
use Rattle.tks_codec_events.specs.Bindings.{numbers_differ, tags_or_sequences_differ, tag_and_sequence}
use Rattle.tks_codec_events.specs.Keys.{Tells}
use Rattle.tks_codec_events.specs.Sequence.{sequence}
use Rattle.tks_codec_events.proofs.Sequencing.{sequence_lawful}

-- the spelling of a part
module _ {T A : Type 0} (s : Spelling A) (l : Lawful s) (part : T → A) (same : T → T → Bool) (so : (a b : T) → Decides (same a b) (part a ≡ part b)) where
  spelled_so : (a b : T) → s.Legal (part a) → s.Legal (part b) → Decides (same_text (s.write (part a)) (s.write (part b))) (part a ≡ part b)
  spelled_so a b h k =
      Decides-like _ (λ e. (one_front s l (part a) (part b) [] [] h k (ap (λ (w : List ℕ). w ++ []) e)).0) (λ e. ap s.write e) (bytes_decides (s.write (part a)) (s.write (part b)))

  part_tells : Tells (λ a b. not (same a b)) (λ a. s.write (part a)) (λ a. s.Legal (part a))
  part_tells a b h k = ap not (same_from_decides (same a b) (same_text (s.write (part a)) (s.write (part b))) (so a b) (spelled_so a b h k))

pub numbers_tell : Tells numbers_differ (λ b. (number w64).write b.number) (λ b. (number w64).Legal b.number)
numbers_tell = part_tells (number w64) (number_lawful w64 wide64) (λ (b : Binding). b.number) (λ a b. a.number == b.number) (λ a b. Decides-eqb a.number b.number)

is_for_so : (a b : Binding) → Decides (is_for a.tag a.sequence b) (◌≡◌ {A = List ℕ × List Pattern} (a.tag, a.sequence) (b.tag, b.sequence))
is_for_so a b =
    Decides-like _ (λ h. ap (λ (t : List ℕ). (t, a.sequence)) (sym h.0) ∙ ap (λ (s : List Pattern). (b.tag, s)) (sym h.1)) (λ e. (sym (ap (λ (p : List ℕ × List Pattern). p.0) e), sym (ap (λ (p : List ℕ × List Pattern). p.1) e)))
    (Decides-and (same_text b.tag a.tag) (equal_patterns b.sequence a.sequence) (bytes_decides b.tag a.tag) (equal_so b.sequence a.sequence))

pub tags_and_sequences_tell : Tells tags_or_sequences_differ (λ b. tag_and_sequence.write (b.tag, b.sequence)) (λ b. tag_and_sequence.Legal (b.tag, b.sequence))
tags_and_sequences_tell = part_tells tag_and_sequence (pair_lawful text sequence text_lawful sequence_lawful) (λ (b : Binding). (b.tag, b.sequence)) (λ a b. is_for a.tag a.sequence b) is_for_so

pub names_tell : Tells names_differ (λ v. text.write v.name) (λ v. text.Legal v.name)
names_tell = part_tells text text_lawful (λ (v : VirtualEvent). v.name) (λ v w. same_text v.name w.name) (λ v w. bytes_decides v.name w.name)

pub sequences_tell : Tells sequences_differ sequence.write sequence.Legal
sequences_tell = part_tells sequence sequence_lawful (λ s. s) equal_patterns equal_so
