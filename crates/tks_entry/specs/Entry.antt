-- An entry: its options, its text, and its cursor (entry(n)). That an index is a whole word, which ones there are, and
-- that the cursor of a text that became shorter stands at its end, are this project's own rules.
use Rattle.std.specs.Prelude.{ℕ, ◌+◌, ◌-◌, ◌^◌, ◌&&◌, nat_le, nat_lt, min, Bool, true, false, if◌then◌else◌, List, [], ◌∷◌, ◌++◌, length, take, drop, codes, ℤ, pos, negsuc, Option, Some, None, option_and_then, Result, Ok, Err}
use Rattle.tks_text.specs.Text.{same_text}
use Rattle.tks_text.specs.Integer.{integer_of}
use Rattle.tks_text.specs.Fault.{fault_about}
use Rattle.tks_text.specs.declared.integer.Range.{Range}
use Rattle.tks_text.specs.declared.class.Class.{Class}
use Rattle.tks_text.specs.declared.class.Class.TheVariants as class
use Rattle.tks_text.specs.declared.fault.ErrorNumber.TheVariants.{BadIndex, OutOfRange}
use Rattle.tks_text.specs.declared.fault.ScriptFault.{ScriptFault}
use Rattle.tks_opt.specs.Options.{Options, first_options, value_in}
use Rattle.tks_opt.specs.Values.{state_named, is_normal}
use Rattle.tks_opt.specs.declared.name.OptionName.TheVariants as name

pub record Entry : Type 0 where
  pub options : Options
  pub text : List ℕ
  -- the place at which it was put last
  pub cursor : ℕ

abbrev pub first_entry : List ℕ → Entry
first_entry path = record { options = first_options class.Entry path; text = []; cursor = 0 }

-- ---- making one again

abbrev pub is_entry : Class → Bool
is_entry class.Entry = true
is_entry c = false

-- the entry that has these; the cursor may have been put behind a text's end of now
abbrev pub restored : Options → List ℕ → ℕ → Option Entry
restored options text cursor = if is_entry options.class then Some (record { options = options; text = text; cursor = cursor }) else None

-- ---- places

-- where the cursor stands: before so many characters
abbrev pub cursor_place : Entry → ℕ
cursor_place e = min e.cursor (length e.text)

-- the place that is nearest to a number
abbrev pub rounded : ℤ → ℕ → ℕ
rounded (pos n) len = min n len
rounded (negsuc n) len = 0

abbrev pub place_read : List ℕ → ℕ → Result (Option ℤ) Range → Result ℕ ScriptFault
place_read word len (Ok (Some z)) = Ok (rounded z len)
place_read word len (Ok None) = Err (fault_about BadIndex word)
place_read word len (Err range) = Err (record { number = OutOfRange; subject = None })

-- the place that an index names: `insert`, `end`, or an integer
unfoldable pub place_in : Entry → List ℕ → Result ℕ ScriptFault
place_in e word =
    if same_text word (codes "insert") then Ok (cursor_place e)
    else (if same_text word (codes "end") then Ok (length e.text)
    else place_read word (length e.text) (integer_of word))

-- ---- changes

-- as a place is kept (this project's own rule; texts are shorter)
abbrev pub kept_place : ℕ → ℕ
kept_place n = min n (2 ^ 32 - 1)

-- whether scripts may change the text
abbrev pub is_editable : Entry → Bool
is_editable e = is_normal (option_and_then state_named (value_in e.options.values name.State))

-- where the cursor goes when so many characters come in at a place
abbrev pub moved_on : ℕ → ℕ → ℕ → ℕ
moved_on place count cursor = if nat_le place cursor then cursor + count else cursor

abbrev pub put_in : ℕ → List ℕ → Entry → Entry
put_in place more e =
    record e { text = take place e.text ++ (more ++ drop place e.text); cursor = kept_place (moved_on place (length more) (cursor_place e)) }

-- `insert`: no characters change nothing
abbrev pub inserted : ℕ → List ℕ → Entry → Entry
inserted place [] e = e
inserted place (c ∷ more) e = if is_editable e then put_in place (c ∷ more) e else e

-- where the cursor goes when the characters between two places are taken out
abbrev pub moved_back : ℕ → ℕ → ℕ → ℕ
moved_back first last cursor = if nat_le cursor first then cursor else cursor - (min cursor last - first)

abbrev pub taken_out : ℕ → ℕ → Entry → Entry
taken_out first last e = record e { text = take first e.text ++ drop last e.text; cursor = moved_back first last (cursor_place e) }

-- `delete`: from one place up to another, as far as there are characters; none changes nothing
abbrev pub deleted : ℕ → ℕ → Entry → Entry
deleted first last e = if nat_lt first (min last (length e.text)) && is_editable e then taken_out first (min last (length e.text)) e else e

-- `icursor`
abbrev pub with_cursor : ℕ → Entry → Entry
with_cursor place e = record e { cursor = kept_place place }
