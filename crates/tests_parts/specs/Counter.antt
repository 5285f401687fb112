-- The host of the tests: a count, with a command that adds one to it, one that sets it to 0, and one that does so and
-- wants its word run at global level. A window is there while the count is below its number; a fault makes it 1000. Below
-- that, as many things wait as it counts; two further commands want them done, one of these all but the last two.
use Rattle.std.specs.Prelude.{ℕ, Bool, not, nat_le, ◌+◌, ◌-◌, ◌==◌, ◌||◌, if◌then◌else◌, codes, List, [], ◌∷◌}
use Rattle.tks_text.specs.Text.{same_text}
use Rattle.tks_vars.specs.Variables.{Variables}
use Rattle.tks_eval.specs.Outcome.{Answer, Unknown, Comes, PassesLimit, Taken, Nothing, Takes, TooMuch, Meaning}
use Rattle.tks_eval.specs.declared.host.Due.{Due}
use Rattle.tks_eval.specs.declared.host.Due.TheVariants as due
use Rattle.tks_eval.specs.declared.host.Plan.TheVariants as plan

-- the script to run, which is empty where there is no word
abbrev pub script_in : List (List ℕ) → List ℕ
script_in [] = []
script_in (script ∷ words) = script

abbrev pub count_named : ℕ → Variables → List ℕ → List (List ℕ) → Answer ℕ
count_named n variables name words =
    if same_text name (codes "up") then (if n == 4294967295 then PassesLimit else Comes (plan.Answer 0 []) (n + 1) variables)
    else (if same_text name (codes "zero") then Comes (plan.Answer 0 []) 0 variables
    else (if same_text name (codes "top") then Comes (plan.Eval (script_in words)) 0 variables
    else (if same_text name (codes "all") then Comes (plan.Update due.All) n variables
    else (if same_text name (codes "idle") then Comes (plan.Update due.Idle) n variables
    else Unknown))))

abbrev pub counts : ℕ → Variables → List (List ℕ) → Answer ℕ
counts n variables [] = Unknown
counts n variables (name ∷ words) = count_named n variables name words

abbrev pub is_counting : List ℕ → Bool
is_counting name = same_text name (codes "up") || same_text name (codes "zero") || same_text name (codes "top")

-- the script of the next thing at a count
abbrev pub waiting : ℕ → List ℕ
waiting n =
    if n == 1 then []
    else (if n == 5 then codes "error e"
    else (if n == 6 then codes "break"
    else (if n == 7 then codes "return x"
    else (if n == 8 then codes "all"
    else codes "incr n"))))

-- the count at which nothing waits any more
abbrev pub rest_of : Due → ℕ
rest_of due.All = 0
rest_of due.Idle = 2

-- the next thing takes one off the count; at 20 it is too much
abbrev pub counted_down : Due → ℕ → Taken ℕ
counted_down d n =
    if nat_le n (rest_of d) || nat_le 1000 n then Nothing
    else (if n == 20 then TooMuch else Takes (plan.Eval (waiting n)) (n - 1))

abbrev pub counting : Meaning ℕ
counting = record { commands = counts; owns = λ n name. is_counting name; alive = λ n window. not (nat_le window n); faulted = λ n text. 1000; next = counted_down }
