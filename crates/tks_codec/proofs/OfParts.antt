-- What holds of the spellings of a world's parts besides windows.
use Rattle.std.proofs.Common.{◌≡◌, ℕ, ◌≤◌, ◌<◌, ◌^◌, ◌==◌, Bool, true, false, true≢false, if◌then◌else◌, List, Some, None, Ok, refl, sym, ap, arith}
use Rattle.std.specs.Prelude.{is_some}
use Rattle.std.specs.Int.{w64}
use Rattle.std.proofs.lemmas.Bool.{eqb-true, leb-true, le-leb, lt-ltb}
use Rattle.tks_timer.specs.After as after
use Rattle.tks_spelling.specs.Spelling.{Lawful, IsBytes, byte, number, text, such_that}
use Rattle.tks_spelling.proofs.EachKind.{wide64, byte_lawful, number_lawful, test_lawful, field_lawful, through_lawful, option_lawful, text_lawful, texts_lawful}
use Rattle.tks_codec_events.proofs.Holding.{held_lawful}
use Rattle.tks_codec_variables.proofs.OfTables.{table_lawful}
use Rattle.tks_codec_events.proofs.Tables.{bindings_lawful, virtuals_lawful}
use Rattle.tks_codec_events.proofs.Waiting.{history_lawful}
use Rattle.tks_codec_events.specs.Timers.{waiting}
use Rattle.tks_codec.specs.Counts.{is_count, is_time, count, time, counts}
use Rattle.tks_codec.specs.Ends.{Ends, rules_in, are_rules, or_first, rules_of, ends}
use Rattle.tks_spelling.specs.declared.format.Format.{Format}
use Rattle.tks_spelling.specs.declared.format.Format.TheVariants as formats
use Rattle.tks_state.specs.Rules.{number_of}
use Rattle.tks_state.specs.declared.rules.Rules.{Rules}
use Rattle.tks_state.specs.declared.rules.Rules.TheVariants as rules
use Rattle.tks_codec.specs.Happenings.{Happenings, happenings}
use Rattle.tks_codec.specs.declared.counts.Counts.{Counts}

-- ---- the numbers in front

count_lawful : Lawful count
count_lawful = test_lawful is_count (number w64) (λ v h. omega arith) (number_lawful w64 wide64)

time_lawful : Lawful time
time_lawful = test_lawful is_time (number w64) (λ v h. omega arith) (number_lawful w64 wide64)

pub counts_lawful : Lawful counts
counts_lawful =
    field_lawful (λ x. x.accepted) _ _ (λ accepted x k h. ap (λ (x : Counts). x.accepted) h.1.1.1.1) count_lawful (λ accepted.
    field_lawful (λ x. x.clock) _ _ (λ clock x k h. ap (λ (x : Counts). x.clock) h.1.1.1) time_lawful (λ clock.
    field_lawful (λ x. x.window) _ _ (λ window x k h. ap (λ (x : Counts). x.window) h.1.1) count_lawful (λ window.
    field_lawful (λ x. x.binding) _ _ (λ binding x k h. ap (λ (x : Counts). x.binding) h.1) count_lawful (λ binding.
    through_lawful (λ x. x.timer) _ _ (λ timer k. refl) count_lawful))))

count_legal : (n : ℕ) → n ≤ 2 ^ 62 → count.Legal n
count_legal n h = (omega (arith, h), le-leb n (2 ^ 62) h)

time_legal : (n : ℕ) → n < 2 ^ 62 → time.Legal n
time_legal n h = (omega (arith, h), lt-ltb n (2 ^ 62) h)

pub counts_legal : (x : Counts) → x.accepted ≤ 2 ^ 62 → x.clock < 2 ^ 62 → x.window ≤ 2 ^ 62 → x.binding ≤ 2 ^ 62 → x.timer ≤ 2 ^ 62 → counts.Legal x
counts_legal x accepted clock window binding timer =
    (count_legal x.accepted accepted, (time_legal x.clock clock, (count_legal x.window window, (count_legal x.binding binding, (count_legal x.timer timer, refl)))))

-- the number of the next binding that was read
pub binding_within : (bytes rest : List ℕ) (x : Counts) → IsBytes bytes → counts.read bytes ≡ Ok (x, rest) → x.binding ≤ 2 ^ 62
binding_within bytes rest x fits e = leb-true x.binding (2 ^ 62) (counts_lawful.nothing_else bytes x rest fits e).legal.1.1.1.0.1

-- the id of the next timer that was read
pub timer_within : (bytes rest : List ℕ) (x : Counts) → IsBytes bytes → counts.read bytes ≡ Ok (x, rest) → x.timer ≤ 2 ^ 62
timer_within bytes rest x fits e = leb-true x.timer (2 ^ 62) (counts_lawful.nothing_else bytes x rest fits e).legal.1.1.1.1.0.1

-- ---- what scripts bound to events rest on

pub happenings_lawful : (next : ℕ) → Lawful (happenings next)
happenings_lawful next =
    field_lawful (λ x. x.bindings.bindings) _ _ (λ bs x k h. ap (λ (x : Happenings). x.bindings.bindings) h.1.1) (bindings_lawful next) (λ bs.
    field_lawful (λ x. x.virtuals) _ _ (λ vs x k h. ap (λ (x : Happenings). x.virtuals) h.1) virtuals_lawful (λ vs.
    through_lawful (λ x. x.history) _ _ (λ events k. refl) history_lawful))

pub happenings_next : (next : ℕ) (x : Happenings) → (happenings next).Legal x → x.bindings.next ≡ next
happenings_next next x h = ap (λ (x : Happenings). x.bindings.next) h.1.1.1

-- ---- what waits

pub waiting_next : (next : ℕ) (x : after.Content) → (waiting next).Legal x → x.next ≡ next
waiting_next next x h = ap (λ (x : after.Content). x.next) h.0.1.1

-- ---- the end

-- a number under which rules stand is theirs
number_told : (n : ℕ) (a b : Bool) → (n == 1) ≡ a → (n == 2) ≡ b → is_some (if a then Some rules.One else (if b then Some rules.Two else None)) ≡ true → number_of (or_first (if a then Some rules.One else (if b then Some rules.Two else None))) ≡ n
number_told n true b one two h = sym (eqb-true n 1 one)
number_told n false true one two h = sym (eqb-true n 2 two)
number_told n false false one two h = absurd (true≢false (sym h))

first_told : (n : ℕ) (a : Bool) → (n == 1) ≡ a → is_some (if a then Some rules.One else None) ≡ true → number_of (or_first (if a then Some rules.One else None)) ≡ n
first_told n true one h = sym (eqb-true n 1 one)
first_told n false one h = absurd (true≢false (sym h))

rules_told : (format : Format) (n : ℕ) → are_rules format n ≡ true → number_of (or_first (rules_in format n)) ≡ n
rules_told formats.One n h = first_told n (n == 1) refl h
rules_told formats.Two n h = number_told n (n == 1) (n == 2) refl refl h

rules_lawful : (format : Format) → Lawful (rules_of format)
rules_lawful format = through_lawful number_of (λ n. or_first (rules_in format n)) (such_that (are_rules format) byte) (λ n k. rules_told format n k.1) (test_lawful (are_rules format) byte (λ v h. omega arith) byte_lawful)

-- in a side of the second format there may be any rules, in one of the first the first
pub rules_legal : (r : Rules) → (rules_of formats.Two).Legal r
rules_legal rules.One = ((omega arith, refl), refl)
rules_legal rules.Two = ((omega arith, refl), refl)

pub first_legal : (rules_of formats.One).Legal rules.One
first_legal = ((omega arith, refl), refl)

pub ends_lawful : (format : Format) → Lawful (ends format)
ends_lawful format =
    field_lawful (λ x. x.focus) _ _ (λ focus x k h. ap (λ (x : Ends). x.focus) h.1.1.1.1.1) (number_lawful w64 wide64) (λ focus.
    field_lawful (λ x. x.held) _ _ (λ held x k h. ap (λ (x : Ends). x.held) h.1.1.1.1) held_lawful (λ held.
    field_lawful (λ x. x.pressed) _ _ (λ pressed x k h. ap (λ (x : Ends). x.pressed) h.1.1.1) (option_lawful (number w64) (number_lawful w64 wide64)) (λ pressed.
    field_lawful (λ x. x.memories) _ _ (λ ms x k h. ap (λ (x : Ends). x.memories) h.1.1) (table_lawful text text_lawful) (λ ms.
    field_lawful (λ x. x.faults) _ _ (λ faults x k h. ap (λ (x : Ends). x.faults) h.1) texts_lawful (λ faults.
    through_lawful (λ x. x.rules) _ _ (λ r k. refl) (rules_lawful format))))))
