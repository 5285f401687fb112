-- What holds of the spellings of kinds and sequences.
use Rattle.std.proofs.Common.{◌≡◌, ℕ, suc, zero, ◌<◌, Bool, true, false, refl, ap, arith}
use Rattle.std.specs.Int.{w16}
use Rattle.tks_event.specs.Numbers.{kind_number}
use Rattle.tks_event.specs.Sequences.{is_sequence}
use Rattle.tks_event.specs.declared.kind.Kind.{Kind}
use Rattle.tks_event.specs.declared.kind.Kind.TheVariants.{KeyPress, KeyRelease, ButtonPress, ButtonRelease, FocusIn, FocusOut, Virtual}
use Rattle.tks_event.specs.declared.pattern.Pattern.{Pattern}
use Rattle.std.proofs.lemmas.Bool.{lt-ltb}
use Rattle.tks_spelling.specs.Spelling.{Lawful, byte, number, flag, list, such_that, text}
use Rattle.tks_spelling.proofs.EachKind.{byte_lawful, wide16, number_lawful, test_lawful, field_lawful, through_lawful, flag_lawful, list_lawful, text_lawful}
use Rattle.tks_codec_events.specs.Kind.{is_kind, kind_at, kind}
use Rattle.tks_codec_events.specs.Sequence.{is_set, modifiers, pattern, sequence}

number_told : (n : ℕ) → is_kind n ≡ true → kind_number (kind_at n) ≡ n
number_told zero e = absurd cc
number_told (suc zero) e = refl
number_told (suc (suc zero)) e = refl
number_told (suc (suc (suc zero))) e = refl
number_told (suc (suc (suc (suc zero)))) e = refl
number_told (suc (suc (suc (suc (suc zero))))) e = refl
number_told (suc (suc (suc (suc (suc (suc zero)))))) e = refl
number_told (suc (suc (suc (suc (suc (suc (suc zero))))))) e = refl
number_told (suc (suc (suc (suc (suc (suc (suc (suc n)))))))) e = absurd cc

pub kind_lawful : Lawful kind
kind_lawful = through_lawful kind_number kind_at (such_that is_kind byte) (λ n k. number_told n k.1) (test_lawful is_kind byte (λ v h. omega arith) byte_lawful)

pub kind_legal : (k : Kind) → kind.Legal k
kind_legal KeyPress = ((omega arith, refl), refl)
kind_legal KeyRelease = ((omega arith, refl), refl)
kind_legal ButtonPress = ((omega arith, refl), refl)
kind_legal ButtonRelease = ((omega arith, refl), refl)
kind_legal FocusIn = ((omega arith, refl), refl)
kind_legal FocusOut = ((omega arith, refl), refl)
kind_legal Virtual = ((omega arith, refl), refl)

pub modifiers_lawful : Lawful modifiers
modifiers_lawful = test_lawful is_set (number w16) (λ v h. omega arith) (number_lawful w16 wide16)

pub modifiers_legal : (set : ℕ) → set < 8_192 → modifiers.Legal set
modifiers_legal set m = (omega (arith, m), lt-ltb set 8_192 m)

pub pattern_lawful : Lawful pattern
pattern_lawful =
    field_lawful (λ p. p.near) _ _ (λ near p k h. ap (λ (p : Pattern). p.near) h.1.1.1) flag_lawful (λ near.
    field_lawful (λ p. p.kind) _ _ (λ kind p k h. ap (λ (p : Pattern). p.kind) h.1.1) kind_lawful (λ kind.
    field_lawful (λ p. p.modifiers) _ _ (λ set p k h. ap (λ (p : Pattern). p.modifiers) h.1) modifiers_lawful (λ set.
    through_lawful (λ p. p.detail) _ _ (λ detail k. refl) text_lawful)))

pub flag_legal : (b : Bool) → flag.Legal b
flag_legal true = ((omega arith, refl), refl)
flag_legal false = ((omega arith, refl), refl)

pub pattern_legal : (p : Pattern) → p.modifiers < 8192 → text.Legal p.detail → pattern.Legal p
pattern_legal p m t = (flag_legal p.near, (kind_legal p.kind, (modifiers_legal p.modifiers m, (t, refl))))

pub sequence_lawful : Lawful sequence
sequence_lawful = test_lawful is_sequence (list pattern) (λ v h. omega arith) (list_lawful (λ before. pattern) (λ before. pattern_lawful))
