-- What words were read as, in the words of the definitions.
use Rattle.std.specs.Prelude.{◌≡◌, List, ℕ, map, false, Result, Ok, Err}
use Rattle.tks_text.specs.declared.fault.ScriptFault.{ScriptFault}
use Rattle.tks_text.specs.declared.fault.Failure.{Failure}
use Rattle.tks_text.specs.declared.fault.Failure.TheVariants as failure
use Rattle.tks_list.specs.Reading.{list_of}
use Rattle.tks_list.specs.Quoting.{joined}
use Rattle.tks_opt.specs.Options.{after, value_of, configured}
use Rattle.tks_lines.specs.Lines.{Lines, inserted, inserted_with, deleted}
use Rattle.tks_lines.specs.Commands.{Called, becomes, answers, spelled, between, names_on, edges, flags_of, gravity_name, or_no_list, mark_set, marks_unset, mark_turned, tag_set, tags_deleted}
use Rattle.tks_lines.specs.declared.subcommand.Question.{Question}
use Rattle.tks_lines.specs.declared.subcommand.Question.TheVariants as question
use Rattle.tks_lines.specs.declared.subcommand.Change.{Change}
use Rattle.tks_lines.specs.declared.subcommand.Change.TheVariants as change
use Rattle.tks_lines.specs.declared.subcommand.Subcommand.{Subcommand}
use Rattle.tks_lines.specs.declared.subcommand.Subcommand.TheVariants as subcommand

-- what is told of a question
abbrev pub told : Question → Lines → Result (List ℕ) ScriptFault
told (question.Characters first last) t = Ok (between first last t.text)
told (question.Index place) t = Ok (spelled t.text place)
told question.Marks t = Ok (joined (map (λ m. m.name) t.marks))
told (question.Gravity left) t = Ok (gravity_name left)
told question.Tags t = Ok (joined (map (λ g. g.name) t.tags))
told (question.TagsOn place) t = Ok (joined (names_on place t.tags))
told (question.Ranges name) t = Ok (joined (map (spelled t.text) (edges false 0 (flags_of name.now t.tags))))
told (question.Value name) t = value_of t.options name.now

-- what a change makes of a text widget
abbrev pub changed : Change → Lines → Result Lines ScriptFault
changed (change.Insert place more) t = Ok (inserted place more.now t)
changed (change.InsertWith place more tags) t = after (or_no_list (list_of tags.now)) (λ names. Ok (inserted_with place more.now names t))
changed (change.Delete first last) t = Ok (deleted first last t)
changed (change.SetMark name place) t = Ok (mark_set name.now place t)
changed (change.UnsetMarks names) t = Ok (marks_unset names.now t)
changed (change.TurnMark name left) t = Ok (mark_turned name.now left t)
changed (change.SetTag on name first last) t = Ok (tag_set on name.now first last t)
changed (change.DeleteTags names) t = Ok (tags_deleted names.now t)
changed (change.Configure pairs) t = after (configured t.options pairs.now) (λ u. Ok (record t { options = u }))

-- a question is answered, a change answers the empty text
abbrev pub does : Subcommand → Lines → Called
does (subcommand.Asks q) t = after (told q t) (λ text. answers text t)
does (subcommand.Changes c) t = after (changed c t) becomes

-- words come to what they were read as, or to the error that is told; want of memory may come anywhere
abbrev pub ReadsSo : Result Subcommand Failure → Called → Lines → Type 0
ReadsSo (Ok s) given t = given ≡ does s t
ReadsSo (Err (failure.Script fault)) given t = given ≡ Err fault
ReadsSo (Err failure.NoMemory) given t = Unit {0}
