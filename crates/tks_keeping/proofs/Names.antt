-- The name of a virtual event is shorter than the word that it is read from.
use Rattle.std.proofs.Common.{◌≡◌, ◌≤◌, ℕ, true, not, true≢false, List, [], ◌∷◌, length, Option, Some, None, Ok, IfOk, refl, sym, length-append, arith}
use Rattle.std.proofs.lemmas.Bool.{and_parts, cond_both}
use Rattle.tks_text.specs.declared.limits.Limits.{Limits}
use Rattle.tks_tcl.specs.Cause.{value_or_fault}
use Rattle.tks_tcl.proofs.Framing.{follows_on}
use Rattle.tks_event.specs.Kinds.{same_kind, is_virtual}
use Rattle.tks_event.specs.Reading.{or_bad, pattern_of, one_pattern_of}
use Rattle.tks_event.specs.Spelling.{SpellsPattern, physical, virtual}
use Rattle.tks_event.specs.declared.kind.Kind.{Kind}
use Rattle.tks_event.specs.declared.kind.Kind.TheVariants as kind
use Rattle.tks_event.specs.declared.pattern.Repeated.{Repeated}
use Rattle.tks_event.proofs.Legal.{pattern_legal}
use Rattle.tks_event.proofs.WholeTexts.{pattern_one}
use Rattle.tks_cmd.specs.VirtualEvents.{bad_sequence, name_in, name_read}
use Rattle.tks_keeping.proofs.Texts.{value_so, TextFits, shorter_fits}

not_both : (k : Kind) → is_virtual k ≡ true → not (same_kind k kind.Virtual) ≡ true → ⊥
not_both kind.Virtual h other = true≢false (sym other)
not_both k h other = true≢false (sym h)

-- the pattern of a virtual event has a detail that is shorter than the text
abbrev IsShort : List ℕ → Repeated → Type 0
IsShort text r = is_virtual r.pattern.kind ≡ true → length r.pattern.detail ≤ length text

spelled_short : (t : List ℕ) (r : Repeated) → SpellsPattern t r → IsShort t r
spelled_short _ _ (physical t r p) h = absurd (not_both r.pattern.kind h (and_parts (not (same_kind r.pattern.kind kind.Virtual)) _ (pattern_legal [] t r p).goes).0)
spelled_short _ _ (virtual n is) h = let long = length-append n (62 ∷ 62 ∷ []) in omega (arith, long)

pattern_short : (text : List ℕ) → IfOk (one_pattern_of text) (IsShort text)
unfolding one_pattern_of
pattern_short text = by (pattern_of text) refl
  where
    by : (o : Option Repeated) → pattern_of text ≡ o → IfOk (or_bad text o) (IsShort text)
    by None e = tt
    by (Some r) e = spelled_short text r ((pattern_one text r).1 e)

module _ (limits : Limits) where
  -- the name that a word has between double brackets
  pub name_fits : (text : List ℕ) → TextFits limits text → IfOk (name_read text) (TextFits limits)
  name_fits text h =
      follows_on (IsShort text) (TextFits limits) (value_or_fault (one_pattern_of text)) (name_in text) (value_so (IsShort text) (one_pattern_of text) (pattern_short text)) (λ r short.
      cond_both (is_virtual r.pattern.kind) (Ok r.pattern.detail) (bad_sequence text) (λ o. IfOk o (TextFits limits))
      (λ is. shorter_fits limits r.pattern.detail text (short is) h) (λ _. tt))
