-- A script of two halves runs as the first half, and then as the second.
use Rattle.std.proofs.Common.{◌≡◌, ◌≢◌, ℕ, zero, suc, ◌==◌, Bool, true, false, cond, if◌then◌else◌, List, [], rules, refl, ap, ◌∙◌}
use Rattle.tks_text.specs.Fault.{fault_text}
use Rattle.tks_text.specs.declared.fault.ScriptFault.{ScriptFault}
use Rattle.tks_text.specs.declared.limits.Limits.{Limits}
use Rattle.tks_parse.specs.Tree.{Script, no_command, faulty, command, join_scripts}
use Rattle.tks_vars.specs.Variables.{Variables}
use Rattle.tks_text.specs.Limits.{fits}
use Rattle.tks_eval.specs.Outcome.{Outcome, End, Stopped, TooLarge, Next, Level, Meaning, after, fails}
use Rattle.tks_eval.specs.Evaluation.{words_do, commands_do, evaluate}
use Rattle.tks_eval.specs.Laws.{EndsAlike, GoesOn, RunsAsHalves, TextIsOfSecondHalf}

module _ {S : Type 0} where
  after_if : (b : Bool) (code : ℕ) (text : List ℕ) (state : S) (variables : Variables) (fuel : ℕ) (first both : Outcome S) (next : List ℕ → Next S) → (code == 0) ≡ b → both ≡ after first next
      → (if b then both else End code text state variables fuel) ≡ after (if b then first else End code text state variables fuel) next
  after_if true code text state variables fuel first both next e h = h
  after_if false code text state variables fuel first both next e h = rw e refl

  -- what follows two things follows the second
  after_after : (outcome : Outcome S) (first both next : List ℕ → Next S) → ((text : List ℕ) (state : S) (variables : Variables) (fuel : ℕ) → both text state variables fuel ≡ after (first text state variables fuel) next)
      → after outcome both ≡ after (after outcome first) next
  after_after (Stopped why) first both next h = refl
  after_after (End code text state variables fuel) first both next h =
      after_if (code == 0) code text state variables fuel (first text state variables fuel) (both text state variables fuel) next refl (h text state variables fuel)

  -- nothing follows an error
  after_fails : (limits : Limits) (fault : ScriptFault) (state : S) (variables : Variables) (fuel : ℕ) (next : List ℕ → Next S) → fails limits fault state variables fuel ≡ after (fails limits fault state variables fuel) next
  after_fails limits fault state variables fuel next = by_size (fits limits (fault_text fault))
    where
      by_size : (b : Bool) → cond b (End 1 (fault_text fault) state variables fuel) (Stopped TooLarge) ≡ after (cond b (End 1 (fault_text fault) state variables fuel) (Stopped TooLarge)) next
      by_size true = refl
      by_size false = refl

  -- an outcome ends as itself
  alike : (outcome : Outcome S) → EndsAlike outcome outcome
  alike (Stopped why) = refl
  alike (End code text state variables fuel) = (text, refl)

  -- from one that is what follows, to one that goes on
  goes_on : (outcome : Outcome S) (next : List ℕ → Next S) (second : Next S) → ((text : List ℕ) (state : S) (variables : Variables) (fuel : ℕ) → EndsAlike (second state variables fuel) (next text state variables fuel))
      → GoesOn outcome second (after outcome next)
  goes_on (Stopped why) next second h = refl
  goes_on (End zero text state variables fuel) next second h = h text state variables fuel
  goes_on (End (suc code) text state variables fuel) next second h =
      let other : (suc code == 0) ≡ false = search rules in
      ap (λ b. if b then next text state variables fuel else End (suc code) text state variables fuel) other

module _ {S : Type 0} (host : Meaning S) (limits : Limits) (inner : Level S) where
  -- the commands of both halves are those of the first, and then those of the second behind the text of its last
  commands_join : (p q : Script) (last : List ℕ) (state : S) (variables : Variables) (fuel : ℕ)
      → commands_do host limits inner (join_scripts p q) last state variables fuel ≡ after (commands_do host limits inner p last state variables fuel) (commands_do host limits inner q)
  commands_join no_command q last state variables fuel = refl
  commands_join (faulty fault) q last state variables fuel = after_fails limits fault state variables fuel (commands_do host limits inner q)
  commands_join (command words rest) q last state variables fuel =
      after_after (words_do host limits inner words [] state variables fuel) (commands_do host limits inner rest) (commands_do host limits inner (join_scripts rest q)) (commands_do host limits inner q) (commands_join rest q)

  -- the text of the command before is seen only where there is none
  commands_alike : (q : Script) (last last' : List ℕ) (state : S) (variables : Variables) (fuel : ℕ) → EndsAlike (commands_do host limits inner q last state variables fuel) (commands_do host limits inner q last' state variables fuel)
  commands_alike no_command last last' state variables fuel = (last', refl)
  commands_alike (faulty fault) last last' state variables fuel = alike (fails limits fault state variables fuel)
  commands_alike (command words rest) last last' state variables fuel = alike (commands_do host limits inner (command words rest) last state variables fuel)

  commands_same : (q : Script) (last last' : List ℕ) (state : S) (variables : Variables) (fuel : ℕ) → q ≢ no_command
      → commands_do host limits inner q last state variables fuel ≡ commands_do host limits inner q last' state variables fuel
  commands_same no_command last last' state variables fuel some = absurd (some refl)
  commands_same (faulty fault) last last' state variables fuel some = refl
  commands_same (command words rest) last last' state variables fuel some = refl

-- what follows is the same where what goes on is
after_same : {S : Type 0} (outcome : Outcome S) (next next' : List ℕ → Next S) → ((text : List ℕ) (state : S) (variables : Variables) (fuel : ℕ) → next text state variables fuel ≡ next' text state variables fuel) → after outcome next ≡ after outcome next'
after_same (Stopped why) next next' h = refl
after_same (End code text state variables fuel) next next' h = ap (λ o. if code == 0 then o else End code text state variables fuel) (h text state variables fuel)

pub runs_as_halves : {S : Type 0} (host : Meaning S) → RunsAsHalves host
runs_as_halves host limits zero p q state variables fuel = refl
runs_as_halves host limits (suc depth) p q state variables fuel =
    rw (commands_join host limits (evaluate host limits depth) p q [] state variables fuel)
    (goes_on (evaluate host limits (suc depth) p state variables fuel) (commands_do host limits (evaluate host limits depth) q) (evaluate host limits (suc depth) q)
    (λ text state variables fuel. commands_alike host limits (evaluate host limits depth) q [] text state variables fuel))

pub text_is_of_second_half : {S : Type 0} (host : Meaning S) → TextIsOfSecondHalf host
text_is_of_second_half host limits zero p q state variables fuel some = refl
text_is_of_second_half host limits (suc depth) p q state variables fuel some =
    commands_join host limits (evaluate host limits depth) p q [] state variables fuel
    ∙ after_same (evaluate host limits (suc depth) p state variables fuel) (commands_do host limits (evaluate host limits depth) q) (λ text. evaluate host limits (suc depth) q)
    (λ text state variables fuel. commands_same host limits (evaluate host limits depth) q text [] state variables fuel some)
