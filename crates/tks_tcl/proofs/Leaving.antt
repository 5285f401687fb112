-- What a change leaves, where nobody asks for its answer.
use Rattle.std.proofs.Common.{◌≡◌, ℕ, Bool, true, false, ◌&&◌, if◌then◌else◌, List, Result, Ok, Err}
use Rattle.tks_text.specs.declared.fault.ScriptFault.{ScriptFault}
use Rattle.tks_text.specs.declared.limits.Limits.{Limits}
use Rattle.tks_vars.specs.Variables.{Variables, with_value, grown_by_value}
use Rattle.tks_tcl.specs.Cause.{Cause, OverLimit, after, value_or_fault}
use Rattle.tks_text.specs.Limits.{fits}
use Rattle.tks_tcl.specs.declared.interrupt.Interrupt.{Interrupt}
use Rattle.tks_tcl.specs.declared.interrupt.Interrupt.TheVariants as interrupt
use Rattle.tks_tcl.specs.Meets.{FailsSo}
use Rattle.tks_tcl.specs.Variables.{Changed, left, may_grow, stores}

-- ---- a whole change, and what it leaves

pub whole_fails : (r : Result Changed Cause) (why : Interrupt) → FailsSo why (left r) → FailsSo why r
whole_fails (Ok x) (interrupt.Script fault) e = absurd cc
whole_fails (Ok x) interrupt.TooLarge e = absurd cc
whole_fails (Ok x) interrupt.NoMemory e = tt
whole_fails (Err cause) (interrupt.Script fault) e = cc
whole_fails (Err cause) interrupt.TooLarge e = cc
whole_fails (Err cause) interrupt.NoMemory e = tt

-- ---- values that are stored

stored_by : (holds : Bool) (r : Result Variables ScriptFault) (value : List ℕ) (new : Variables)
    → left (if holds then after (value_or_fault r) (λ w. Ok (value, w)) else Err OverLimit) ≡ Ok new
    → ◌≡◌ {A = Result Changed Cause} (if holds then after (value_or_fault r) (λ w. Ok (value, w)) else Err OverLimit) (Ok (value, new))
stored_by true (Ok w) value new e = cc
stored_by true (Err fault) value new e = absurd cc
stored_by false r value new e = absurd cc

-- the answer is the value
pub stored : (limits : Limits) (name : List ℕ) (v : Variables) (value : List ℕ) (new : Variables) → left (stores limits name v value) ≡ Ok new
    → stores limits name v value ≡ Ok (value, new)
stored limits name v value new e = stored_by (fits limits value && may_grow limits (grown_by_value v name)) (with_value v name value) value new e
