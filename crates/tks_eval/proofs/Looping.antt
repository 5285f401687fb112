-- What follows on a condition and on a script, in `if` and in the loops, as a machine comes through them.
use Rattle.std.proofs.Common.{◌≡◌, ◌≤◌, ◌<◌, ◌==◌, ◌++◌, ◌⊎◌, inl, inr, ℕ, Bool, zero, suc, false, rules, List, [], ◌∷◌, length, get_or, Option, Some, None, Ok, Err, Result, refl, sym, subst, ap, ◌∙◌, arith}
use Rattle.tks_text.specs.declared.fault.Failure.{Failure}
use Rattle.tks_text.specs.Fault.{Gives}
use Rattle.tks_text.specs.declared.limits.Limits.{Limits}
use Rattle.tks_parse.specs.Tree.{Script}
use Rattle.tks_parse.specs.Reading.{script_of}
use Rattle.tks_vars.specs.Variables.{Variables}
use Rattle.tks_tcl.specs.Cause.{value_or_fault}
use Rattle.tks_tcl.specs.Variables.{stores}
use Rattle.tks_tcl.specs.declared.stop.Stop.{Stop}
use Rattle.tks_expr.specs.Compiled.{items_in}
use Rattle.tks_expr.specs.declared.items.Item.{Item}
use Rattle.tks_expr.specs.Operation.{truth_of}
use Rattle.tks_eval.specs.Outcome.{Outcome, End, Stopped, Why, Next, Level, Meaning, after, after_body, after_next, given}
use Rattle.tks_eval.specs.Branches.{Test}
use Rattle.tks_eval.specs.Evaluation.{Loop, if_holds, after_truth, tested, script_does, branches_do, behind_body, turn_does, loop_does, for_does, each, evaluate, done}
use Rattle.tks_eval.specs.Counting.{items_go}
use Rattle.tks_eval.specs.Meets.{StopsSo, halt_of_failure}
use Rattle.tks_eval.specs.Machine.{text_told, after_frame, left_below, left_behind, waits_do, level_of, done_by, RunsSo, ComesSo, DoesSo, ValuedSo}
use Rattle.tks_eval.specs.declared.expressions.Valued.TheVariants as valued
use Rattle.tks_eval.specs.declared.frame.Ending.{Ending}
use Rattle.tks_eval.specs.declared.frame.Frame.{Frame}
use Rattle.tks_eval.specs.declared.frame.Waiting.{Waiting}
use Rattle.tks_eval.specs.declared.frame.Came.{Came}
use Rattle.tks_eval.specs.declared.frame.Came.TheVariants as came
use Rattle.tks_eval.specs.declared.halt.Halt.{Halt}
use Rattle.tks_eval.specs.declared.machine.Machine.{Machine}
use Rattle.tks_eval.proofs.After.{after_other}
use Rattle.tks_eval.proofs.Coming.{passes, comes_at, comes_from, fault_halts, valued_halts, waits_before}
use Rattle.tks_eval.proofs.Spending.{evaluate_spends}
use Rattle.tks_eval.proofs.Turns.{tested_reads, loop_unrolls}

-- four words, which are all
pub four_of : (words : List (List ℕ)) (w x y z : List ℕ) → 4 ≤ length words → length words < 5 → w ≡ get_or words 0 w → x ≡ get_or words 1 x → y ≡ get_or words 2 y → z ≡ get_or words 3 z
    → words ≡ w ∷ x ∷ y ∷ z ∷ []
four_of [] w x y z l m f g h i = absurd (omega (arith, l))
four_of (a ∷ []) w x y z l m f g h i = absurd (omega (arith, l))
four_of (a ∷ b ∷ []) w x y z l m f g h i = absurd (omega (arith, l))
four_of (a ∷ b ∷ c ∷ []) w x y z l m f g h i = absurd (omega (arith, l))
four_of (a ∷ b ∷ c ∷ d ∷ []) w x y z l m f g h i =
    ap (λ k. k ∷ b ∷ c ∷ d ∷ []) (sym f) ∙ ap (λ k. w ∷ k ∷ c ∷ d ∷ []) (sym g) ∙ ap (λ k. w ∷ x ∷ k ∷ d ∷ []) (sym h) ∙ ap (λ k. w ∷ x ∷ y ∷ k ∷ []) (sym i)
four_of (a ∷ b ∷ c ∷ d ∷ e ∷ words) w x y z l m f g h i = absurd (omega (arith, m))

-- a whole comes to this, where a machine is within the limits of the first one and as many scripts may be open
pub record ComesTo {S : Type 0} (first : Machine) (whole outcome : Outcome S) (m : Machine) : Type 0 where
  pub is : whole ≡ outcome
  pub within : m.limits ≡ first.limits
  pub here : m.left ≡ first.left

-- a whole goes on by the truth of what an expression comes to
pub record Tests {S : Type 0} (first : Machine) (whole outcome : Outcome S) (then other : Next S) (m : Machine) : Type 0 where
  pub is : whole ≡ after_truth first.limits outcome then other
  pub within : m.limits ≡ first.limits
  pub here : m.left ≡ first.left

-- a whole goes on behind what a script comes to
pub record Runs {S : Type 0} (first : Machine) (whole ran : Outcome S) (f : Outcome S → Outcome S) (m : Machine) : Type 0 where
  pub is : whole ≡ f ran
  pub within : m.limits ≡ first.limits
  pub here : m.left ≡ first.left

-- what goes on behind an end by code 0 without asking for its text
abbrev pub Deaf : {S : Type 0} → (Outcome S → Outcome S) → Type 0
Deaf {S} f = (told text : List ℕ) (state : S) (variables : Variables) (fuel : ℕ) → f (End 0 told state variables fuel) ≡ f (End 0 text state variables fuel)

module _ {S : Type 0} (first : Machine) where
  pub itself : (whole : Outcome S) → ComesTo first whole whole first
  itself whole = record { is = refl; within = refl; here = refl }

  pub comes_then : {whole outcome : Outcome S} {m : Machine} (next : Outcome S) → ComesTo first whole outcome m → outcome ≡ next → ComesTo first whole next m
  comes_then next h is = record { is = h.is ∙ is; within = h.within; here = h.here }

module _ {S : Type 0} (host : Meaning S) (n : Machine) (late : S) where
  -- an end by another code than 0 has no truth
  other_ends : (limits : Limits) (then other : Next S) (code : ℕ) (text : List ℕ) → (code ≡ 0 → ⊥) → after_truth limits (End code text late n.variables n.fuel) then other ≡ End code text late n.variables n.fuel
  other_ends limits then other zero text some = absurd (some refl)
  other_ends limits then other (suc code) text some =
      let is : (suc code == 0) ≡ false = search rules in
      after_other (suc code) text late n.variables n.fuel
      (λ text state variables fuel. given limits (value_or_fault (truth_of text)) state variables fuel (λ holds. if_holds holds then other state variables fuel)) is

  module _ {first : Machine} {whole outcome : Outcome S} {then other : Next S} {m : Machine} (tests : Tests first whole outcome then other m) where
    -- a condition with nothing to go on with
    pub value_halts : (asked : Bool) (why : Halt) → ValuedSo host m.left outcome (Err why) n late → ComesSo host asked first.left whole (Err why) n late
    value_halts asked why h =
        subst (λ k. ComesSo host asked k whole (Err why) n late) tests.here
        (comes_from host n.limits m.left n late refl asked whole (after_truth first.limits outcome then other) (Err why) tests.is
        (valued_halts host n.limits m.left n late refl asked outcome
        (λ text state variables fuel. given first.limits (value_or_fault (truth_of text)) state variables fuel (λ holds. if_holds holds then other state variables fuel)) why h))

    -- one whose value has no truth
    pub truth_halts : (asked : Bool) (value : List ℕ) (why : Failure) → n.limits ≡ m.limits → ValuedSo host m.left outcome (Ok (valued.Value value)) n late
        → Gives (λ (b : Bool). b) (Err why) (truth_of value) → ComesSo host asked first.left whole (Err (halt_of_failure why)) n late
    truth_halts asked value why same h none =
        comes_from host first.limits first.left n late (same ∙ tests.within) asked whole (after_truth first.limits (End 0 value late n.variables n.fuel) then other) (Err (halt_of_failure why))
        (tests.is ∙ ap (λ o. after_truth first.limits o then other) h.0)
        (fault_halts host first.limits first.left n late (same ∙ tests.within) (h.1 ∙ tests.here) asked (λ b. b) (truth_of value)
        (λ holds. if_holds holds then other late n.variables n.fuel) why none)

    -- one whose value holds, or not
    pub value_holds : (value : List ℕ) (holds : Bool) → n.limits ≡ m.limits → ValuedSo host m.left outcome (Ok (valued.Value value)) n late → truth_of value ≡ Ok holds
        → ComesTo first whole (if_holds holds then other late n.variables n.fuel) n
    value_holds value holds same h truth = record {
      is = tests.is ∙ ap (λ o. after_truth first.limits o then other) h.0
          ∙ ap (λ r. given first.limits (value_or_fault r) late n.variables n.fuel (λ holds. if_holds holds then other late n.variables n.fuel)) truth;
      within = same ∙ tests.within;
      here = h.1 ∙ tests.here;
    }

    -- one in which a script ends by another code than 0
    pub value_ends : (end : Ending) → n.limits ≡ m.limits → ValuedSo host m.left outcome (Ok (valued.Ended end)) n late → ComesTo first whole (End end.code end.text late n.variables n.fuel) n
    value_ends end same h = record {
      is = tests.is ∙ ap (λ o. after_truth first.limits o then other) h.0 ∙ other_ends first.limits then other end.code end.text h.1;
      within = same ∙ tests.within;
      here = h.2 ∙ tests.here;
    }

    -- one that waits, and whose frame is put behind
    pub value_waits : (w more : Waiting) (f : Frame) → n.limits ≡ m.limits
        → ((outcome : Outcome S) → after_truth first.limits outcome then other ≡ after_frame host first.limits first.left f outcome)
        → (more.opens ≡ w.opens) × (more.frames.items ≡ w.frames.items ++ f ∷ []) → (outcome ≡ done_by (waits_do host n.limits n.left w) late n) × (left_behind n.left w.frames.items ≡ m.left)
        → (whole ≡ done_by (waits_do host n.limits n.left more) late n) × (left_behind n.left more.frames.items ≡ left_below first.left f)
    value_waits w more f same frames before h =
        let waits = waits_before host first.limits first.left n late (same ∙ tests.within) outcome more.opens w.opens w.frames.items more.frames.items f before.0 before.1 (h.0, h.1 ∙ tests.here) in
        (tests.is ∙ frames outcome ∙ waits.0, waits.1)

  module _ {first : Machine} {whole ran : Outcome S} {f : Outcome S → Outcome S} {m : Machine} (runs : Runs first whole ran f m) where
    -- a script that stops
    pub script_stops : (why : Stop) → ((why : Why) → f (Stopped why) ≡ Stopped why) → StopsSo ran why → StopsSo whole why
    script_stops why stops h = subst (λ o. StopsSo o why) (sym runs.is) (passes f stops ran why h)

    heard : Deaf f → (code : ℕ) (told text : List ℕ) → ((code ≡ 0 → ⊥) → told ≡ text) → f (End code told late n.variables n.fuel) ≡ f (End code text late n.variables n.fuel)
    heard deaf zero told text h = deaf told text late n.variables n.fuel
    heard deaf (suc code) told text h = ap (λ t. f (End (suc code) t late n.variables n.fuel)) (h (λ e. absurd (omega (arith, e))))

    -- one that ends, whose text by code 0 isn't asked for
    pub script_ends : (end : Ending) → Deaf f → n.limits ≡ m.limits → RunsSo host false m.left ran (Ok (came.Ended end)) n late → ComesTo first whole (f (End end.code end.text late n.variables n.fuel)) n
    script_ends end deaf same h = record {
      is = runs.is ∙ ap f h.0.0 ∙ heard deaf end.code (text_told ran) end.text h.0.1;
      within = same ∙ runs.within;
      here = h.1 ∙ runs.here;
    }

    -- one that waits, and whose frame is put behind
    pub script_waits : (w more : Waiting) (fr : Frame) → n.limits ≡ m.limits → ((outcome : Outcome S) → f outcome ≡ after_frame host first.limits first.left fr outcome)
        → (more.opens ≡ w.opens) × (more.frames.items ≡ w.frames.items ++ fr ∷ []) → (ran ≡ done_by (waits_do host n.limits n.left w) late n) × (left_behind n.left w.frames.items ≡ m.left)
        → (whole ≡ done_by (waits_do host n.limits n.left more) late n) × (left_behind n.left more.frames.items ≡ left_below first.left fr)
    script_waits w more fr same frames before h =
        let waits = waits_before host first.limits first.left n late (same ∙ runs.within) ran more.opens w.opens w.frames.items more.frames.items fr before.0 before.1 (h.0, h.1 ∙ runs.here) in
        (runs.is ∙ frames ran ∙ waits.0, waits.1)

module _ {S : Type 0} (host : Meaning S) (first : Machine) where
  -- a test, a step later, once its condition is read
  test_begins : {whole : Outcome S} (condition : List ℕ) (then other : Next S) (state : S) (old new : Machine) (items : List Item)
      → ComesTo first whole (done_by (tested first.limits (level_of host first) condition then other) state old) old
      → old.fuel ≡ suc new.fuel → new ≡ record old { fuel = new.fuel } → items_in condition ≡ Ok items
      → Tests first whole (done_by (items_go new.limits (level_of host new) items []) state new) then other new
  test_begins condition then other state old new items h step kept read =
      let limits = ap (λ (m : Machine). m.limits) kept ∙ h.within in
      let left = ap (λ (m : Machine). m.left) kept ∙ h.here in
      let variables = ap (λ (m : Machine). m.variables) kept in
      record {
        is = h.is
            ∙ tested_reads first.limits (level_of host first) condition then other state old.variables old.fuel new.fuel items step read
            ∙ ap (λ v. after_truth first.limits (items_go first.limits (level_of host first) items [] state v new.fuel) then other) (sym variables)
            ∙ ap (λ n. after_truth first.limits (items_go first.limits (evaluate host first.limits n) items [] state new.variables new.fuel) then other) (sym left)
            ∙ ap (λ k. after_truth first.limits (items_go k (evaluate host k new.left) items [] state new.variables new.fuel) then other) (sym limits);
        within = limits;
        here = left;
      }

  -- the condition of a loop
  pub loop_begins : {whole : Outcome S} (turns held : Loop) (condition : List ℕ) (state : S) (old new : Machine) (items : List Item)
      → ComesTo first whole (done_by (loop_does first.limits (level_of host first) turns) state old) old → held ≡ turns
      → old.fuel ≡ suc new.fuel → new ≡ record old { fuel = new.fuel } → condition ≡ held.condition → items_in condition ≡ Ok items
      → Tests first whole (done_by (items_go new.limits (level_of host new) items []) state new) (turn_does (level_of host first) turns (loop_does first.limits (level_of host first) turns)) done new
  loop_begins turns held condition state old new items h same step kept is read =
      let inner = level_of host first in
      let then = turn_does inner turns (loop_does first.limits inner turns) in
      let its : condition ≡ turns.condition = is ∙ ap (λ (l : Loop). l.condition) same in
      test_begins turns.condition then done state old new items
      (comes_then first _ h (loop_unrolls first.limits inner (evaluate_spends host first.limits first.left) turns state old.variables old.fuel))
      step kept (ap items_in (sym its) ∙ read)

  -- the condition of the first of some tests
  pub branches_begin : {whole : Outcome S} (otherwise : Option (List ℕ)) (all tests : List Test) (test : Test) (condition : List ℕ) (state : S) (old new : Machine) (items : List Item)
      → ComesTo first whole (done_by (branches_do first.limits (level_of host first) otherwise all) state old) old → all ≡ test ∷ tests
      → old.fuel ≡ suc new.fuel → new ≡ record old { fuel = new.fuel } → condition ≡ test.condition → items_in condition ≡ Ok items
      → Tests first whole (done_by (items_go new.limits (level_of host new) items []) state new) (level_of host first (script_of test.body)) (branches_do first.limits (level_of host first) otherwise tests) new
  branches_begin otherwise all tests test condition state old new items h split step kept is read =
      let inner = level_of host first in
      test_begins test.condition (inner (script_of test.body)) (branches_do first.limits inner otherwise tests) state old new items
      (comes_then first _ h (ap (λ ts. done_by (branches_do first.limits inner otherwise ts) state old) split))
      step kept (ap items_in (sym is) ∙ read)

  level_begins : (script : Script) (state : S) (m : Machine) → m.limits ≡ first.limits → m.left ≡ first.left → done_by (level_of host first script) state m ≡ done_by (level_of host m script) state m
  level_begins script state m within here =
      ap (λ k. evaluate host k first.left script state m.variables m.fuel) (sym within) ∙ ap (λ n. evaluate host m.limits n script state m.variables m.fuel) (sym here)

  script_begins : {whole : Outcome S} (f : Outcome S → Outcome S) (text : List ℕ) (script : Script) (state : S) (m : Machine)
      → ComesTo first whole (f (done_by (level_of host first (script_of text)) state m)) m → script ≡ script_of text → Runs first whole (done_by (level_of host m script) state m) f m
  script_begins f text script state m h is = record {
    is = h.is ∙ ap (λ s. f (done_by (level_of host first s) state m)) (sym is) ∙ ap f (level_begins script state m h.within h.here);
    within = h.within;
    here = h.here;
  }

  -- the script that a `for` runs first
  pub start_begins : (command start condition next body : List ℕ) (words : List (List ℕ)) (script : Script) (state : S) → words ≡ start ∷ condition ∷ next ∷ body ∷ [] → script ≡ script_of start
      → Runs first (done_by (for_does first.limits (level_of host first) command words) state first) (done_by (level_of host first script) state first)
      (λ o. after o (λ text. loop_does first.limits (level_of host first) (record { condition = condition; next = Some next; body = body }))) first
  start_begins command start condition next body words script state split is =
      let again = loop_does first.limits (level_of host first) (record { condition = condition; next = Some next; body = body }) in
      let whole = done_by (for_does first.limits (level_of host first) command words) state first in
      script_begins (λ o. after o (λ text. again)) start script state first
      (comes_then first _ (itself first whole) (ap (λ ws. done_by (for_does first.limits (level_of host first) command ws) state first) split)) is

  -- the body of a loop
  pub body_begins : {whole : Outcome S} (turns held : Loop) (again : Next S) (body : List ℕ) (script : Script) (state : S) (m : Machine)
      → ComesTo first whole (done_by (turn_does (level_of host first) turns again) state m) m → held ≡ turns → body ≡ held.body → script ≡ script_of body
      → Runs first whole (done_by (level_of host m script) state m) (λ o. after_body o (behind_body (level_of host first) turns again)) m
  body_begins turns held again body script state m h same its is =
      script_begins (λ o. after_body o (behind_body (level_of host first) turns again)) turns.body script state m h
      (is ∙ ap script_of (its ∙ ap (λ (l : Loop). l.body) same))

  -- the script behind it
  pub next_begins : {whole : Outcome S} (turns held : Loop) (again : Next S) (next : List ℕ) (script : Script) (state : S) (m : Machine)
      → ComesTo first whole (done_by (behind_body (level_of host first) turns again) state m) m → held ≡ turns → Some next ≡ held.next → script ≡ script_of next
      → Runs first whole (done_by (level_of host m script) state m) (λ o. after_next o again) m
  next_begins turns held again next script state m h same its is =
      script_begins (λ o. after_next o again) next script state m
      (comes_then first _ h (ap (λ t. after_next (done_by (script_does (level_of host first) t) state m) again) (sym (its ∙ ap (λ (l : Loop). l.next) same)))) is

  -- no script is behind it
  pub none_begins : {whole : Outcome S} (turns held : Loop) (again : Next S) (state : S) (m : Machine)
      → ComesTo first whole (done_by (behind_body (level_of host first) turns again) state m) m → held ≡ turns → None ≡ held.next → ComesTo first whole (done_by again state m) m
  none_begins turns held again state m h same its =
      comes_then first _ h (ap (λ t. after_next (done_by (script_does (level_of host first) t) state m) again) (sym (its ∙ ap (λ (l : Loop). l.next) same)))

  -- the body of a `foreach`, a step later, once the variable is set
  pub each_begins : {whole : Outcome S} (name body item : List ℕ) (all items : List (List ℕ)) (script : Script) (state : S) (old new : Machine) (stored : List ℕ × Variables)
      → ComesTo first whole (done_by (each first.limits (level_of host first) name body all) state old) old → all ≡ item ∷ items
      → old.fuel ≡ suc new.fuel → new ≡ record old { fuel = new.fuel } → stores new.limits name new.variables item ≡ Ok stored → script ≡ script_of body
      → Runs first whole (level_of host new script state stored.1 new.fuel) (λ o. after_body o (each first.limits (level_of host first) name body items)) new
  each_begins name body item all items script state old new stored h split step kept set is =
      let inner = level_of host first in
      let next = each first.limits inner name body items in
      let limits = ap (λ (m : Machine). m.limits) kept ∙ h.within in
      let variables = ap (λ (m : Machine). m.variables) kept in
      let left = ap (λ (m : Machine). m.left) kept ∙ h.here in
      record {
        is = h.is
            ∙ ap (λ xs. done_by (each first.limits inner name body xs) state old) split
            ∙ ap (λ f. each first.limits inner name body (item ∷ items) state old.variables f) step
            ∙ ap (λ r. given first.limits r state old.variables new.fuel (λ x. after_body (inner (script_of body) state x.1 new.fuel) next))
            (ap (λ k. stores k name old.variables item) (sym limits) ∙ ap (λ v. stores new.limits name v item) (sym variables) ∙ set)
            ∙ ap (λ s. after_body (inner s state stored.1 new.fuel) next) (sym is)
            ∙ ap (λ o. after_body o next) (level_begins script state (record new { variables = stored.1 }) limits left);
        within = limits;
        here = left;
      }

  -- a body that went well or was continued
  pub body_again : {whole : Outcome S} (code : ℕ) (text : List ℕ) (next : Next S) (state : S) (m : Machine) → ComesTo first whole (after_body (End code text state m.variables m.fuel) next) m
      → (code ≡ 0) ⊎ (code ≡ 4) → ComesTo first whole (done_by next state m) m
  body_again code text next state m h (inl is) = comes_then first _ h (ap (λ k. after_body (End k text state m.variables m.fuel) next) is)
  body_again code text next state m h (inr is) = comes_then first _ h (ap (λ k. after_body (End k text state m.variables m.fuel) next) is)

  -- how far what is left comes is how far all of it comes
  pub goes_on : {whole : Outcome S} (asked : Bool) (does : Limits → Level S → Next S) (m new : Machine) (state late : S) (result : Result Came Halt)
      → ComesTo first whole (done_by (does first.limits (level_of host first)) state m) m → DoesSo host asked (does m.limits (level_of host m)) state m result late new
      → ComesSo host asked first.left whole result new late
  goes_on asked does m new state late result h comes =
      comes_from host new.limits first.left new late refl asked _ (done_by (does first.limits (level_of host first)) state m) result h.is
      (comes_at host new late asked m.limits first.limits m.left first.left (λ k n. does k (evaluate host k n) state m.variables m.fuel) result h.within h.here comes)
