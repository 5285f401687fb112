-- Timers and idle scripts as bytes (this project's own format).
use Rattle.std.specs.Prelude.{ℕ, List, [], ◌∷◌}
use Rattle.std.specs.Int.{w64}
use Rattle.tks_timer.specs.declared.entry.Timer.{Timer}
use Rattle.tks_timer.specs.declared.entry.Idle.{Idle}
use Rattle.tks_timer.specs.After.{Content}
use Rattle.tks_timer.specs.WellFormed.{are_waiting}
use Rattle.tks_spelling.specs.Spelling.{Read, Spelling, number, such_that, field, through, list, text}

-- ---- one of them

-- a timer: its id, when it is due, its script
abbrev pub timer : Spelling Timer
timer =
    field (λ t. t.id) (number w64) (λ id.
    field (λ t. t.due) (number w64) (λ due.
    through (λ t. t.script) (λ script. record { id = id; due = due; script = script }) text))

-- the spellings of its parts
abbrev pub timer_parts : Timer → List (List ℕ)
timer_parts t = (number w64).write t.id ∷ (number w64).write t.due ∷ text.write t.script ∷ []

-- the timer at the front of bytes, and what stands behind it
unfoldable pub timer_at : List ℕ → Read Timer
timer_at bytes = timer.read bytes

-- an idle script: its id, its script
abbrev pub idle : Spelling Idle
idle = field (λ i. i.id) (number w64) (λ id. through (λ i. i.script) (λ script. record { id = id; script = script }) text)

-- the spellings of its parts
abbrev pub idle_parts : Idle → List (List ℕ)
idle_parts i = (number w64).write i.id ∷ text.write i.script ∷ []

-- the idle script at the front of bytes, and what stands behind it
unfoldable pub idle_at : List ℕ → Read Idle
idle_at bytes = idle.read bytes

-- ---- all of them

-- both lists, given the next id
abbrev pub lists : ℕ → Spelling Content
lists next = field (λ c. c.timers) (list timer) (λ timers. through (λ c. c.idles) (λ idles. record { timers = timers; idles = idles; next = next }) (list idle))

-- what waits, given the next id
abbrev pub waiting : ℕ → Spelling Content
waiting next = such_that are_waiting (lists next)

-- what waits at the front of bytes, and what stands behind it
unfoldable pub waiting_at : ℕ → List ℕ → Read Content
waiting_at next bytes = (waiting next).read bytes
