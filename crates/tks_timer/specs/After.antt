-- What is kept to be run later (after(n)).
use Rattle.std.specs.Prelude.{ℕ, ◌+◌, ◌-◌, ◌^◌, ◌==◌, ◌&&◌, ◌||◌, nat_le, nat_lt, not, Bool, if◌then◌else◌, List, [], ◌∷◌, ◌++◌, map, Option, Some, None, Result, Ok, Err, option_map}
use Rattle.std.specs.List.{filter}
use Rattle.tks_text.specs.declared.fault.ScriptFault.{ScriptFault}
use Rattle.tks_text.specs.declared.fault.ErrorNumber.TheVariants as number
use Rattle.tks_text.specs.Fault.{fault_about}
use Rattle.tks_text.specs.Text.{same_text}
use Rattle.tks_timer.specs.declared.entry.Timer.{Timer}
use Rattle.tks_timer.specs.declared.entry.Idle.{Idle}

-- timers and idle scripts, each in the order in which they came, and the next id, one count for both
pub record Content : Type 0 where
  pub timers : List Timer
  pub idles : List Idle
  pub next : ℕ

abbrev pub nothing : Content
nothing = record { timers = []; idles = []; next = 0 }

-- the last time that there is, in milliseconds (this project's own rule)
abbrev pub last_time : ℕ
last_time = 2 ^ 62 - 1

-- a time, or the last one where it is later
abbrev pub no_later : ℕ → ℕ
no_later time = if nat_le time last_time then time else last_time

-- `after ms script`, due at a time or at the last one
abbrev pub with_timer : ℕ → List ℕ → Content → Content
with_timer due script c = record c { timers = c.timers ++ (record { id = c.next; due = no_later due; script = script }) ∷ []; next = c.next + 1 }

-- `after idle script`
abbrev pub with_idle : List ℕ → Content → Content
with_idle script c = record c { idles = c.idles ++ (record { id = c.next; script = script }) ∷ []; next = c.next + 1 }

-- `after cancel id`, and what is left once the script of an id was taken out to be run
abbrev pub without : ℕ → Content → Content
without id c = record c { timers = filter (λ t. not (t.id == id)) c.timers; idles = filter (λ i. not (i.id == id)) c.idles }

-- ---- which is run

-- the one that is due sooner; of two that are due together that of the lesser id
abbrev pub is_sooner : ℕ × ℕ → ℕ × ℕ → Bool
is_sooner a b = nat_lt a.0 b.0 || ((a.0 == b.0) && nat_lt a.1 b.1)

abbrev pub soonest : Option (ℕ × ℕ) → Option (ℕ × ℕ) → Option (ℕ × ℕ)
soonest None b = b
soonest (Some a) None = Some a
soonest (Some a) (Some b) = Some (if is_sooner b a then b else a)

-- the due time and the id of the least of the timers that are due
abbrev pub first_due : ℕ → List Timer → Option (ℕ × ℕ)
first_due now [] = None
first_due now (t ∷ ts) = if nat_lt now t.due then first_due now ts else soonest (Some (t.due, t.id)) (first_due now ts)

abbrev pub due_at : ℕ → Content → Option ℕ
due_at now c = option_map (λ k. k.1) (first_due now c.timers)

-- the idle script that has waited longest
abbrev pub first_idle : List Idle → Option ℕ
first_idle [] = None
first_idle (i ∷ rest) = Some i.id

-- ---- what is asked

-- what an id stands for: a timer's script or an idle script
pub data Kept : Type 0 where
  OfTimer : List ℕ → Kept
  OfIdle : List ℕ → Kept

abbrev pub timer_script : ℕ → List Timer → Option (List ℕ)
timer_script id [] = None
timer_script id (t ∷ ts) = if t.id == id then Some t.script else timer_script id ts

abbrev pub idle_script : ℕ → List Idle → Option (List ℕ)
idle_script id [] = None
idle_script id (i ∷ rest) = if i.id == id then Some i.script else idle_script id rest

abbrev pub idle_kept : Option (List ℕ) → Option Kept
idle_kept None = None
idle_kept (Some script) = Some (OfIdle script)

abbrev pub timer_kept : Option (List ℕ) → Option Kept → Option Kept
timer_kept None other = other
timer_kept (Some script) other = Some (OfTimer script)

abbrev pub kept_under : ℕ → Content → Option Kept
kept_under id c = timer_kept (timer_script id c.timers) (idle_kept (idle_script id c.idles))

-- the lesser of two ids
abbrev pub lesser : Option ℕ → Option ℕ → Option ℕ
lesser None b = b
lesser (Some a) None = Some a
lesser (Some a) (Some b) = Some (if nat_lt b a then b else a)

-- the least id of a timer with the script
abbrev pub timer_with : List ℕ → List Timer → Option ℕ
timer_with script [] = None
timer_with script (t ∷ ts) = if same_text t.script script then lesser (Some t.id) (timer_with script ts) else timer_with script ts

abbrev pub idle_with : List ℕ → List Idle → Option ℕ
idle_with script [] = None
idle_with script (i ∷ rest) = if same_text i.script script then lesser (Some i.id) (idle_with script rest) else idle_with script rest

-- the least id with the script
abbrev pub with_script : List ℕ → Content → Option ℕ
with_script script c = lesser (timer_with script c.timers) (idle_with script c.idles)

-- `after cancel script`
abbrev pub without_found : Option ℕ → Content → Content
without_found None c = c
without_found (Some id) c = without id c

-- all ids, not yet in order
abbrev pub ids : Content → List ℕ
ids c = map (λ t. t.id) c.timers ++ map (λ i. i.id) c.idles

-- the script that is run
abbrev pub script_in : Option Kept → Option (List ℕ)
script_in None = None
script_in (Some (OfTimer script)) = Some script
script_in (Some (OfIdle script)) = Some script

-- what `after info id` tells
abbrev pub told_about : List ℕ → Option Kept → Result Kept ScriptFault
told_about name None = Err (fault_about number.NoSuchAfterId name)
told_about name (Some kept) = Ok kept
