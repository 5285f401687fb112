-- What stands at the end of a world, as bytes (this project's own format): the focus, what is held down, the last press, the
-- memories of an application, the faults, and by which rules scripts run. Which rules there may be goes by the side's format.
use Rattle.std.specs.Prelude.{ℕ, ◌==◌, if◌then◌else◌, Bool, is_some, List, [], ◌∷◌, Option, Some, None}
use Rattle.std.specs.Int.{w64}
use Rattle.tks_vars.specs.Table.{Map}
use Rattle.tks_event.specs.declared.held.Held.{Held}
use Rattle.tks_spelling.specs.Spelling.{Read, Spelling, number, byte, option, such_that, field, through, text, texts}
use Rattle.tks_spelling.specs.declared.format.Format.{Format}
use Rattle.tks_spelling.specs.declared.format.Format.TheVariants as formats
use Rattle.tks_state.specs.Rules.{number_of, numbered}
use Rattle.tks_state.specs.declared.rules.Rules.{Rules}
use Rattle.tks_state.specs.declared.rules.Rules.TheVariants as rules
use Rattle.tks_codec_events.specs.Held.{held}
use Rattle.tks_codec_variables.specs.Table.{table}
use Rattle.tks_codec.specs.declared.ends.Ends as declared

pub record Ends : Type 0 where
  pub focus : ℕ
  pub held : Held
  pub pressed : Option ℕ
  pub memories : Map (List ℕ)
  pub faults : List (List ℕ)
  pub rules : Rules

-- the number of the window that took the last press, if there is one
abbrev pub press : Spelling (Option ℕ)
press = option (number w64)

-- the rules of a number, where a side of this format may hold a world that goes by them: one of the first, by the first alone
abbrev pub rules_in : Format → ℕ → Option Rules
rules_in formats.One number = if number == 1 then Some rules.One else None
rules_in formats.Two number = numbered number

abbrev pub are_rules : Format → ℕ → Bool
are_rules format number = is_some (rules_in format number)

abbrev pub or_first : Option Rules → Rules
or_first None = rules.One
or_first (Some r) = r

-- by which rules scripts run
abbrev pub rules_of : Format → Spelling Rules
rules_of format = through number_of (λ number. or_first (rules_in format number)) (such_that (are_rules format) byte)

-- the memories of an application: under each name a text
abbrev pub memories : Spelling (Map (List ℕ))
memories = table text

abbrev pub ends : Format → Spelling Ends
ends format =
    field (λ x. x.focus) (number w64) (λ focus.
    field (λ x. x.held) held (λ h.
    field (λ x. x.pressed) press (λ pressed.
    field (λ x. x.memories) memories (λ ms.
    field (λ x. x.faults) texts (λ faults.
    through (λ x. x.rules) (λ r. record { focus = focus; held = h; pressed = pressed; memories = ms; faults = faults; rules = r }) (rules_of format))))))

-- the spellings of these parts, which are the same in each format
abbrev pub ends_parts : Ends → List (List ℕ)
ends_parts x = (number w64).write x.focus ∷ held.write x.held ∷ press.write x.pressed ∷ memories.write x.memories ∷ texts.write x.faults ∷ (rules_of formats.Two).write x.rules ∷ []

-- those at the front of bytes, and what stands behind them
unfoldable pub ends_at : Format → List ℕ → Read Ends
ends_at format bytes = (ends format).read bytes

-- what those that were read say
abbrev pub ends_seen : declared.Ends → Ends
ends_seen x = record { focus = x.focus; held = x.held; pressed = x.pressed; memories = x.memories; faults = x.faults; rules = x.rules }
