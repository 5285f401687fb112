-- `after` (after(n); how ids are counted and written, which errors there are, their order and the limits are this
-- project's own rules).
use Rattle.std.specs.Prelude.{ℕ, ℤ, pos, negsuc, ◌+◌, ◌^◌, nat_le, nat_lt, if◌then◌else◌, codes, decimal, List, [], ◌∷◌, ◌++◌, map, take, drop, length, Option, Some, None, Result, Ok, Err}
use Rattle.std.specs.Option.{option_and_then}
use Rattle.tks_text.specs.Integer.{integer_of}
use Rattle.tks_text.specs.Text.{same_text}
use Rattle.tks_text.specs.declared.fault.ErrorNumber.TheVariants.{OutOfRange}
use Rattle.tks_text.specs.declared.integer.Range.{Range}
use Rattle.tks_text.specs.declared.limits.Limits.{Limits}
use Rattle.tks_tcl.specs.Cause.{Cause, Fault, OverLimit, after, bare, value_or_fault, within, wrong_words}
use Rattle.tks_tcl.specs.Lists.{concatenated}
use Rattle.tks_tcl.specs.Words.{integer_in}
use Rattle.tks_list.specs.Quoting.{joined}
use Rattle.tks_opt.specs.Values.{or_else}
use Rattle.tks_timer.specs.After.{Content, Kept, OfTimer, OfIdle, ids, kept_under, told_about, with_script}
use Rattle.tks_state.specs.World.{World, with_timer, with_idle, without_id}
use Rattle.tks_cmd.specs.Changes.{Changed, silent}

-- ---- ids

-- how ids are written
abbrev pub id_text : ℕ → List ℕ
id_text n = codes "after#" ++ decimal n

-- the number that a decimal writes, in just these digits
abbrev pub number_among : Result (Option ℤ) Range → List ℕ → Option ℕ
number_among (Ok (Some (pos n))) digits = if same_text digits (decimal n) then Some n else None
number_among other digits = None

-- the number of the id that a text is
abbrev pub id_of : List ℕ → Option ℕ
id_of text = if same_text (take 6 text) (codes "after#") then number_among (integer_of (drop 6 text)) (drop 6 text) else None

-- ---- after milliseconds script .., after idle script ..

-- no more milliseconds may be waited for
abbrev pub max_delay : ℕ
max_delay = 2_147_483_647

-- so many milliseconds; less than none is none
abbrev pub delay_of : ℤ → Result ℕ Cause
delay_of (pos n) = if nat_le n max_delay then Ok n else Err (Fault (bare OutOfRange))
delay_of (negsuc n) = Ok 0

abbrev pub delay_read : List ℕ → Result ℕ Cause
delay_read text = after (integer_in text) delay_of

module _ (limits : Limits) where
  -- neither list of scripts that wait passes a limit
  abbrev pub timers_within : World → Result World Cause
  timers_within w = if nat_le (length w.timers.timers) limits.items then Ok w else Err OverLimit

  abbrev pub idles_within : World → Result World Cause
  idles_within w = if nat_le (length w.timers.idles) limits.items then Ok w else Err OverLimit

  -- a script takes the next id, where there is one
  abbrev pub timer_kept : ℕ → List ℕ → World → Result (ℕ × World) Cause
  timer_kept delay script w =
      if nat_lt w.timers.next (2 ^ 62) then after (timers_within (with_timer (w.clock + delay) script w)) (λ u. Ok (w.timers.next, u)) else Err OverLimit

  abbrev pub idle_kept : List ℕ → World → Result (ℕ × World) Cause
  idle_kept script w = if nat_lt w.timers.next (2 ^ 62) then after (idles_within (with_idle script w)) (λ u. Ok (w.timers.next, u)) else Err OverLimit

  -- the script that words make, which passes no limit
  abbrev pub script_read : List (List ℕ) → Result (List ℕ) Cause
  script_read words = within limits (concatenated words)

  -- the answer is the id
  abbrev pub delay_does : List ℕ → List (List ℕ) → World → Result Changed Cause
  delay_does text words w =
      after (delay_read text) (λ delay. after (script_read words) (λ script. after (timer_kept delay script w) (λ x. Ok (id_text x.0, x.1))))

  abbrev pub idle_does : List (List ℕ) → World → Result Changed Cause
  idle_does words w = after (script_read words) (λ script. after (idle_kept script w) (λ x. Ok (id_text x.0, x.1)))

-- ---- after cancel id, after cancel script ..

-- the id that a word alone is
abbrev pub id_alone : List (List ℕ) → Option ℕ
id_alone (word ∷ []) = id_of word
id_alone words = None

-- the script is looked for first, then the id that a word alone is
abbrev pub cancelled_id : List ℕ → List (List ℕ) → Content → Option ℕ
cancelled_id script words c = or_else (with_script script c) (id_alone words)

-- without the script of an id, where there is one
abbrev pub cancelled : Option ℕ → World → World
cancelled None w = w
cancelled (Some id) w = without_id id w

-- the words make a script as those of `after idle` do, which passes no limit
abbrev pub cancel_does : Limits → List (List ℕ) → World → Result Changed Cause
cancel_does limits words w = after (script_read limits words) (λ script. silent (cancelled (cancelled_id script words w.timers) w))

-- ---- after info ?id?

-- a number in its place among rising ones, and all of some numbers so
abbrev pub inserted : ℕ → List ℕ → List ℕ
inserted n [] = n ∷ []
inserted n (m ∷ ms) = if nat_le n m then n ∷ m ∷ ms else m ∷ inserted n ms

abbrev pub in_order : List ℕ → List ℕ
in_order [] = []
in_order (n ∷ ns) = inserted n (in_order ns)

-- the ids of all scripts that wait, rising
abbrev pub ids_text : Content → List ℕ
ids_text c = joined (map id_text (in_order (ids c)))

-- a script and what it waits for
abbrev pub kept_text : Kept → List ℕ
kept_text (OfTimer script) = joined (script ∷ codes "timer" ∷ [])
kept_text (OfIdle script) = joined (script ∷ codes "idle" ∷ [])

abbrev pub kept_named : List ℕ → Content → Option Kept
kept_named text c = option_and_then (λ id. kept_under id c) (id_of text)

abbrev pub kept_told : List ℕ → Content → Result (List ℕ) Cause
kept_told text c = after (value_or_fault (told_about text (kept_named text c))) (λ kept. Ok (kept_text kept))

abbrev pub info_does : List ℕ → List (List ℕ) → World → Result Changed Cause
info_does command [] w = Ok (ids_text w.timers, w)
info_does command (id ∷ []) w = after (kept_told id w.timers) (λ text. Ok (text, w))
info_does command words w = wrong_words command

-- ---- after

module _ (limits : Limits) where
  abbrev pub form_does : List ℕ → List (List ℕ) → World → Result Changed Cause
  form_does form words w =
      if same_text form (codes "cancel") then cancel_does limits words w
      else (if same_text form (codes "idle") then idle_does limits words w
      else delay_does limits form words w)

  -- the forms that take one word or more
  abbrev pub some_does : List ℕ → List ℕ → List (List ℕ) → World → Result Changed Cause
  some_does command form [] w = wrong_words command
  some_does command form (word ∷ words) w = form_does form (word ∷ words) w

  abbrev pub after_does : List ℕ → List (List ℕ) → World → Result Changed Cause
  after_does command [] w = wrong_words command
  after_does command (form ∷ words) w = if same_text form (codes "info") then info_does command words w else some_does command form words w
