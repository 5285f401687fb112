-- What words are read as, and how truth is written.
use Rattle.std.specs.Prelude.{ℕ, ℤ, Bool, if◌then◌else◌, codes, List, Option, Some, None, Result, Ok, Err}
use Rattle.tks_text.specs.Integer.{integer_of}
use Rattle.tks_text.specs.declared.fault.ErrorNumber.TheVariants.{NotAnInteger, OutOfRange, NotAList}
use Rattle.tks_text.specs.declared.integer.Range.{Range}
use Rattle.tks_list.specs.Reading.{list_of}
use Rattle.tks_tcl.specs.Cause.{Cause, Fault, about, bare}

-- what reading a text as an integer comes to
abbrev pub integer_read : List ℕ → Result (Option ℤ) Range → Result ℤ Cause
integer_read text (Ok (Some z)) = Ok z
integer_read text (Ok None) = Err (Fault (about NotAnInteger text))
integer_read text (Err range) = Err (Fault (bare OutOfRange))

-- the integer that a text spells
abbrev pub integer_in : List ℕ → Result ℤ Cause
integer_in text = integer_read text (integer_of text)

-- what reading a text as a list comes to
abbrev pub list_read : Option (List (List ℕ)) → Result (List (List ℕ)) Cause
list_read (Some l) = Ok l
list_read None = Err (Fault (bare NotAList))

-- the list that a text splits into
abbrev pub list_in : List ℕ → Result (List (List ℕ)) Cause
list_in text = list_read (list_of text)

-- how it is written whether something holds
abbrev pub truth_text : Bool → List ℕ
truth_text is_true = if is_true then codes "1" else codes "0"
