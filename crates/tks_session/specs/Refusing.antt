-- What a refusal of a session says.
use Rattle.std.specs.Prelude.{◌≡◌, true, false}
use Rattle.tks_input.specs.declared.input.Input.{Input}
use Rattle.tks_input.specs.declared.reply.Refused.{Refused}
use Rattle.tks_input.specs.declared.reply.Refused.TheVariants.{BadInput, ClockBack, PendingFull, Budget, Depth, TooLarge, NoMemory, Quiet, Failed}
use Rattle.tks_durable.specs.Durable.{is_full}
use Rattle.tks_world.specs.Step.{Refuses, step}
use Rattle.tks_session.specs.Sessions.{SessionState, Setting}

-- a step that a session with room for the input tries
pub record Tried {D : Type 0} (setting : Setting) (s : SessionState D) (input : Input) (why : Refused) : Type 0 where
  pub working : s.journal.failed ≡ false
  pub room : is_full setting.limits.pending s.journal s.waiting input ≡ false
  pub refused : step setting.app s.world input setting.limits ≡ Refuses why

-- Why an input isn't taken: first a failed device, then want of room, then what its step says. Want of memory may come in between.
abbrev pub PostRefused : {D : Type 0} → Setting → SessionState D → Input → Refused → Type 0
PostRefused setting s input Failed = s.journal.failed ≡ true
PostRefused setting s input PendingFull = (s.journal.failed ≡ false) × (is_full setting.limits.pending s.journal s.waiting input ≡ true)
PostRefused setting s input NoMemory = s.journal.failed ≡ false
PostRefused setting s input BadInput = Tried setting s input BadInput
PostRefused setting s input ClockBack = Tried setting s input ClockBack
PostRefused setting s input Budget = Tried setting s input Budget
PostRefused setting s input Depth = Tried setting s input Depth
PostRefused setting s input TooLarge = Tried setting s input TooLarge
PostRefused setting s input Quiet = Tried setting s input Quiet
