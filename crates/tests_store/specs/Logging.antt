-- A machine whose state is a text, to which scripts of one character are added, as long as it stays within a limit.
use Rattle.std.specs.Prelude.{ℕ, ◌+◌, nat_le, List, [], ◌∷◌, ◌++◌, codes, length, if◌then◌else◌, Option, Some, None}
use Rattle.tks_text.specs.Text.{is_text}
use Rattle.tks_spelling.specs.declared.format.Format.{Format}
use Rattle.tks_spelling.specs.declared.header.Header.{Header}
use Rattle.tks_input.specs.declared.input.Input.{Input}
use Rattle.tks_input.specs.declared.input.Input.TheVariants.{Script, KeyPress, KeyRelease, Press, Release, Clock, Turn, Rules}
use Rattle.tks_input.specs.declared.reply.Refused.TheVariants.{BadInput, Quiet, TooLarge}
use Rattle.tks_durable.specs.Machine.{Meaning, Stepped, accepts, refuses}

-- more is added where the text stays within the limit
abbrev pub longer : ℕ → List ℕ → List ℕ → Stepped (List ℕ)
longer limit text more = if nat_le (length text + length more) limit then accepts (text ++ more) (record { number = length text + length more; code = 0; text = [] }) else refuses TooLarge

-- a turn adds a `t`, unless the text is empty
abbrev pub turned : ℕ → List ℕ → Stepped (List ℕ)
turned limit [] = refuses Quiet
turned limit (c ∷ text) = longer limit (c ∷ text) (codes "t")

abbrev pub logged : ℕ → List ℕ → Input → Stepped (List ℕ)
logged limit text (Script []) = refuses BadInput
logged limit text (Script (c ∷ [])) = longer limit text (c ∷ [])
logged limit text (Script (c ∷ d ∷ more)) = refuses BadInput
logged limit text Turn = turned limit text
logged limit text (KeyPress key) = refuses BadInput
logged limit text (KeyRelease key) = refuses BadInput
logged limit text (Press button x y) = refuses BadInput
logged limit text (Release button x y) = refuses BadInput
logged limit text (Clock time) = refuses BadInput
logged limit text (Rules number) = refuses BadInput

abbrev pub stored_text : Format → Header → List ℕ → Option (List ℕ)
stored_text format header bytes = if is_text bytes then Some bytes else None

abbrev pub logging : ℕ → ℕ → Meaning (List ℕ)
logging limit pending = record {
  step = logged limit;
  first = [];
  bytes = λ text. text;
  stored = stored_text;
  within = λ text. nat_le (length text) limit;
  own = λ text. nat_le (length text) limit;
  count = λ text. length text;
  grid = record { width = 20; height = 3 };
  names = [];
  pending = pending;
}
