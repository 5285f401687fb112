-- What words were read as, in the words of the definitions.
use Rattle.std.specs.Prelude.{◌≡◌, List, ℕ, length, map, Result, Ok, Err}
use Rattle.std.specs.Fmt.{decimal, signed_decimal}
use Rattle.tks_text.specs.declared.fault.ScriptFault.{ScriptFault}
use Rattle.tks_text.specs.declared.fault.Failure.{Failure}
use Rattle.tks_text.specs.declared.fault.Failure.TheVariants as failure
use Rattle.tks_list.specs.Quoting.{joined}
use Rattle.tks_opt.specs.Options.{after, value_of, configured}
use Rattle.tks_listbox.specs.Listbox.{Listbox, activated, item_at, selected_from}
use Rattle.tks_listbox.specs.Shown.{text_of}
use Rattle.tks_listbox.specs.Commands.{Called, becomes, answers, inserted_at, deleted_between, texts_between, nearest_to, selected_between, is_selected, truth}
use Rattle.tks_listbox.specs.declared.subcommand.Question.{Question}
use Rattle.tks_listbox.specs.declared.subcommand.Question.TheVariants as question
use Rattle.tks_listbox.specs.declared.subcommand.Change.{Change}
use Rattle.tks_listbox.specs.declared.subcommand.Change.TheVariants as change
use Rattle.tks_listbox.specs.declared.subcommand.Subcommand.{Subcommand}
use Rattle.tks_listbox.specs.declared.subcommand.Subcommand.TheVariants as subcommand

-- what is told of a question
abbrev pub told : Question → Listbox → Result (List ℕ) ScriptFault
told (question.Item z) l = Ok (text_of (item_at z l.items))
told (question.Items z y) l = Ok (joined (texts_between z y l.items))
told question.Size l = Ok (decimal (length l.items))
told (question.Index z) l = Ok (signed_decimal z)
told (question.Nearest z) l = Ok (decimal (nearest_to z l))
told (question.Includes z) l = Ok (truth (is_selected (item_at z l.items)))
told question.Selected l = Ok (joined (map decimal (selected_from 0 l.items)))
told (question.Value name) l = value_of l.options name.now

-- what a change makes of a listbox
abbrev pub changed : Change → Listbox → Result Listbox ScriptFault
changed (change.Insert z texts) l = Ok (inserted_at z texts.now l)
changed (change.Delete z y) l = Ok (deleted_between z y l)
changed (change.Activate z) l = Ok (activated z l)
changed (change.Select on z y) l = Ok (selected_between on z y l)
changed (change.Configure pairs) l = after (configured l.options pairs.now) (λ u. Ok (record l { options = u }))

-- a question is answered, a change answers the empty text
abbrev pub does : Subcommand → Listbox → Called
does (subcommand.Asks q) l = after (told q l) (answers l)
does (subcommand.Changes c) l = after (changed c l) becomes

-- words come to what they were read as, or to the error that is told; want of memory may come anywhere
abbrev pub ReadsSo : Result Subcommand Failure → Called → Listbox → Type 0
ReadsSo (Ok s) given l = given ≡ does s l
ReadsSo (Err (failure.Script fault)) given l = given ≡ Err fault
ReadsSo (Err failure.NoMemory) given l = Unit {0}
