-- One step: what an input does to the world (this project's own rule).
use Rattle.std.specs.Prelude.{ℕ, ◌-◌, ◌^◌, nat_le, nat_lt, if◌then◌else◌, Option, Some, None}
use Rattle.tks_text.specs.declared.limits.Limits.{Limits}
use Rattle.tks_app.specs.Applications.{Application}
use Rattle.tks_state.specs.Rules.{number_of, numbered}
use Rattle.tks_state.specs.World.{World, with_rules, with_clock}
use Rattle.tks_state.specs.declared.rules.Rules.{Rules as WorldRules}
pub use Rattle.tks_world.specs.Stepped.{Stepped, Accepts, Refuses}
use Rattle.tks_world.specs.Stepped.{kept}
use Rattle.tks_world.specs.Scripts.{script_step}
use Rattle.tks_world.specs.Keys.{key_press_step, key_release_step}
use Rattle.tks_world.specs.Buttons.{press_step, release_step}
use Rattle.tks_world.specs.Turns.{turn_step}
use Rattle.tks_input.specs.declared.input.Input.{Input}
use Rattle.tks_input.specs.declared.input.Input.TheVariants.{Script, KeyPress, KeyRelease, Press, Release, Clock, Turn, Rules}
use Rattle.tks_input.specs.declared.reply.Refused.TheVariants.{BadInput, ClockBack}

-- the last time, in milliseconds
abbrev pub max_clock : ℕ
max_clock = 2 ^ 62 - 1

-- the clock doesn't go back
abbrev pub clock_step : ℕ → World → Stepped
clock_step time w = if nat_lt max_clock time then Refuses BadInput else (if nat_lt time w.clock then Refuses ClockBack else kept (with_clock time w))

-- scripts are run by these rules from here on, where there are such; their number doesn't go back
abbrev pub by_rules : Option WorldRules → World → Stepped
by_rules None w = Refuses BadInput
by_rules (Some rules) w = if nat_le (number_of w.rules) (number_of rules) then kept (with_rules rules w) else Refuses BadInput

-- the rules of a number
abbrev pub rules_step : ℕ → World → Stepped
rules_step number w = by_rules (numbered number) w

unfoldable pub step : Application → World → Input → Limits → Stepped
step app w (Script text) limits = script_step app w text limits
step app w (KeyPress key) limits = key_press_step limits key w
step app w (KeyRelease key) limits = key_release_step limits key w
step app w (Press button x y) limits = press_step limits button x y w
step app w (Release button x y) limits = release_step limits button x y w
step app w (Clock time) limits = clock_step time w
step app w Turn limits = turn_step app limits w
step app w (Rules number) limits = rules_step number w
