-- Behind `update` nothing waits that it would do.
use Rattle.std.proofs.Common.{◌≡◌, zero, suc, codes, List, [], ◌∷◌, Some, None, Result, Ok, Err, refl, ap, sym, ◌∙◌}
use Rattle.tks_text.specs.declared.limits.Limits.{Limits}
use Rattle.tks_timer.specs.declared.entry.Idle.{Idle}
use Rattle.tks_timer.specs.After.{first_idle}
use Rattle.tks_vars.specs.Variables.{Variables}
use Rattle.tks_tcl.specs.Cause.{Cause}
use Rattle.tks_app.specs.Applications.{Meaning}
use Rattle.tks_state.specs.World.{World}
use Rattle.tks_state.specs.declared.rules.Rules.TheVariants.{Two}
use Rattle.tks_eval.specs.Outcome.{End, Comes, Nothing}
use Rattle.tks_eval.specs.Evaluation.{host_does, update_does}
use Rattle.tks_eval.specs.declared.host.Due.TheVariants as due
use Rattle.tks_eval.specs.declared.host.Plan.{Plan}
use Rattle.tks_eval.specs.declared.host.Plan.TheVariants as plan
use Rattle.tks_eval.proofs.Updates.{updates_leave_nothing}
use Rattle.tks_world.specs.Hosting.{Setting, hosting, taken_in, next_taken, command_does}
use Rattle.tks_world.specs.Laws.{UpdatesLeaveNothing, UpdatesLeaveNoIdle}
use Rattle.tks_world.specs.Things.{Next, next_due, idle_or_none, planned}
use Rattle.tks_world.proofs.Quiet.{none_next, idle_there}

-- ---- nothing is taken out only where nothing is next

planned_taken : (s : Setting) (r : Result (Plan × World) Cause) → taken_in s r ≡ Nothing → ⊥
planned_taken s (Ok x) h = absurd cc
planned_taken s (Err why) h = absurd cc

none_taken : (s : Setting) (next : Next) → next_taken s next ≡ Nothing → next ≡ None
none_taken s None h = refl
none_taken s (Some x) h = absurd (planned_taken (record s { world = x.1 }) (planned s.limits x.0 x.1) h)

no_idle : (w : World) → next_due due.Idle w ≡ None → w.timers.idles ≡ []
no_idle w h = by w.timers.idles refl h
  where
    by : (idles : List Idle) → w.timers.idles ≡ idles → idle_or_none (first_idle idles) w ≡ None → idles ≡ []
    by [] is k = refl
    by (i ∷ rest) is k = absurd (idle_there w i rest is k)

-- ---- what `update` wants done

module _ (m : Meaning) (s : Setting) (v : Variables) (two : s.world.rules ≡ Two) where
  update_comes : command_does m s v (codes "update" ∷ []) ≡ Comes (plan.Update due.All) s v
  update_comes = rw two refl

  idle_comes : command_does m s v (codes "update" ∷ codes "idletasks" ∷ []) ≡ Comes (plan.Update due.Idle) s v
  idle_comes = rw two refl

pub leave_nothing : (m : Meaning) (limits : Limits) → UpdatesLeaveNothing m limits
leave_nothing m limits inner s s' v v' zero left code text two e = absurd cc
leave_nothing m limits inner s s' v v' (suc fuel) left code text two e =
    let does : update_does (hosting m) limits inner due.All s v fuel ≡ End code text s' v' left =
    ap (λ a. host_does (hosting m) limits inner (codes "update") [] a s v fuel) (sym (update_comes m s v two)) ∙ e in
    let nothing = updates_leave_nothing (hosting m) limits inner due.All s v fuel code text s' v' left does in
    (nothing.0, nothing.1, none_next s'.world (none_taken s' (next_due due.All s'.world) nothing.2))

pub leave_no_idle : (m : Meaning) (limits : Limits) → UpdatesLeaveNoIdle m limits
leave_no_idle m limits inner s s' v v' zero left code text two e = absurd cc
leave_no_idle m limits inner s s' v v' (suc fuel) left code text two e =
    let does : update_does (hosting m) limits inner due.Idle s v fuel ≡ End code text s' v' left =
    ap (λ a. host_does (hosting m) limits inner (codes "update") (codes "idletasks" ∷ []) a s v fuel) (sym (idle_comes m s v two)) ∙ e in
    let nothing = updates_leave_nothing (hosting m) limits inner due.Idle s v fuel code text s' v' left does in
    (nothing.0, nothing.1, no_idle s'.world (none_taken s' (next_due due.Idle s'.world) nothing.2))
