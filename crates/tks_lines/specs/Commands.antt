-- The subcommands of a text widget (text(n), "WIDGET COMMAND"). That `insert` and `delete` take one text and one range, and
-- that a gravity that isn't named is a wrong word, are this project's own rules.
use Rattle.std.specs.Prelude.{ℕ, ◌+◌, Bool, true, false, if◌then◌else◌, List, [], ◌∷◌, ◌++◌, length, take, drop, map, codes, Option, Some, None, Result, Ok, Err}
use Rattle.std.specs.Fmt.{decimal}
use Rattle.std.specs.List.{filter}
use Rattle.tks_text.specs.Text.{same_text}
use Rattle.tks_text.specs.Fault.{fault_about}
use Rattle.tks_text.specs.declared.fault.ErrorNumber.TheVariants.{NotAList, NoSuchMark}
use Rattle.tks_text.specs.declared.fault.ScriptFault.{ScriptFault}
use Rattle.tks_list.specs.Reading.{list_of}
use Rattle.tks_list.specs.Quoting.{joined}
use Rattle.tks_opt.specs.Options.{after}
use Rattle.tks_opt.specs.Calls.{wrong_words, subcommand_does, with_subcommand}
use Rattle.tks_opt.specs.declared.said.Said.{Said}
use Rattle.tks_opt.specs.declared.said.Said.TheVariants.{Text}
use Rattle.tks_lines.specs.declared.parts.Tag.{Tag}
use Rattle.tks_lines.specs.declared.parts.Mark.{Mark}
use Rattle.tks_lines.specs.Places.{with_newline, lines_before, column_of}
use Rattle.tks_lines.specs.Indices.{place_in}
use Rattle.tks_lines.specs.Lines.{Lines, mark_named, is_tag, is_on, tagged, with_tag, without_tags, with_mark, without_marks, turned_marks, inserted, inserted_with, deleted, at_most_last}

-- what a subcommand comes to, and the text widget that it leaves
abbrev pub Called : Type 0
Called = Result (Said × Lines) ScriptFault

-- it answers the empty text
abbrev pub becomes : Lines → Called
becomes t = Ok (Text [], t)

abbrev pub answers : List ℕ → Lines → Called
answers text t = Ok (Text text, t)

-- a place as an index
abbrev pub spelled : List ℕ → ℕ → List ℕ
spelled text place = decimal (lines_before text place + 1) ++ 46 ∷ decimal (column_of text place)

-- ---- the text

-- the characters between two places, the last newline too
abbrev pub between : ℕ → ℕ → List ℕ → List ℕ
between first last text = drop first (take last (with_newline text))

abbrev pub get_does : List ℕ → List (List ℕ) → Lines → Called
get_does path [] t = wrong_words path
get_does path (index ∷ []) t = after (place_in t index) (λ first. answers (between first (first + 1) t.text) t)
get_does path (index ∷ behind ∷ []) t = after (place_in t index) (λ first. after (place_in t behind) (λ last. answers (between first last t.text) t))
get_does path (index ∷ behind ∷ word ∷ words) t = wrong_words path

abbrev pub index_does : List ℕ → List (List ℕ) → Lines → Called
index_does path [] t = wrong_words path
index_does path (index ∷ []) t = after (place_in t index) (λ place. answers (spelled t.text place) t)
index_does path (index ∷ word ∷ words) t = wrong_words path

abbrev pub or_no_list : Option (List (List ℕ)) → Result (List (List ℕ)) ScriptFault
or_no_list None = Err (record { number = NotAList; subject = None })
or_no_list (Some l) = Ok l

abbrev pub insert_does : List ℕ → List (List ℕ) → Lines → Called
insert_does path [] t = wrong_words path
insert_does path (index ∷ []) t = wrong_words path
insert_does path (index ∷ more ∷ []) t = after (place_in t index) (λ place. becomes (inserted place more t))
insert_does path (index ∷ more ∷ tags ∷ []) t =
    after (place_in t index) (λ place. after (or_no_list (list_of tags)) (λ names. becomes (inserted_with place more names t)))
insert_does path (index ∷ more ∷ tags ∷ word ∷ words) t = wrong_words path

-- without a second index, one character
abbrev pub delete_does : List ℕ → List (List ℕ) → Lines → Called
delete_does path [] t = wrong_words path
delete_does path (index ∷ []) t = after (place_in t index) (λ first. becomes (deleted first (first + 1) t))
delete_does path (index ∷ behind ∷ []) t = after (place_in t index) (λ first. after (place_in t behind) (λ last. becomes (deleted first last t)))
delete_does path (index ∷ behind ∷ word ∷ words) t = wrong_words path

-- ---- marks

-- with a mark at a place, before the last newline at the furthest
abbrev pub mark_set : List ℕ → ℕ → Lines → Lines
mark_set name place t = record t { marks = with_mark name (at_most_last t place) t.marks }

-- without the marks of some names
abbrev pub marks_unset : List (List ℕ) → Lines → Lines
marks_unset names t = record t { marks = without_marks names t.marks }

-- with left or right gravity of a mark
abbrev pub mark_turned : List ℕ → Bool → Lines → Lines
mark_turned name left t = record t { marks = turned_marks name left t.marks }

abbrev pub mark_set_does : List ℕ → List (List ℕ) → Lines → Called
mark_set_does path [] t = wrong_words path
mark_set_does path (name ∷ []) t = wrong_words path
mark_set_does path (name ∷ index ∷ []) t = after (place_in t index) (λ place. becomes (mark_set name place t))
mark_set_does path (name ∷ index ∷ word ∷ words) t = wrong_words path

abbrev pub mark_unset_does : List ℕ → List (List ℕ) → Lines → Called
mark_unset_does path [] t = wrong_words path
mark_unset_does path (name ∷ names) t = becomes (marks_unset (name ∷ names) t)

abbrev pub mark_names_does : List ℕ → List (List ℕ) → Lines → Called
mark_names_does path [] t = answers (joined (map (λ m. m.name) t.marks)) t
mark_names_does path (word ∷ words) t = wrong_words path

abbrev pub or_no_mark : List ℕ → Option Mark → Result Mark ScriptFault
or_no_mark name None = Err (fault_about NoSuchMark name)
or_no_mark name (Some m) = Ok m

abbrev pub gravity_name : Bool → List ℕ
gravity_name true = codes "left"
gravity_name false = codes "right"

-- whether a word is `left`, where it is `left` or `right`
abbrev pub is_left : List ℕ → Option Bool
is_left word = if same_text word (codes "left") then Some true else (if same_text word (codes "right") then Some false else None)

abbrev pub gravity_becomes : List ℕ → List ℕ → Option Bool → Lines → Called
gravity_becomes path name None t = wrong_words path
gravity_becomes path name (Some left) t = after (or_no_mark name (mark_named name t.marks)) (λ m. becomes (mark_turned name left t))

abbrev pub mark_gravity_does : List ℕ → List (List ℕ) → Lines → Called
mark_gravity_does path [] t = wrong_words path
mark_gravity_does path (name ∷ []) t = after (or_no_mark name (mark_named name t.marks)) (λ m. answers (gravity_name m.left) t)
mark_gravity_does path (name ∷ word ∷ []) t = gravity_becomes path name (is_left word) t
mark_gravity_does path (name ∷ word ∷ more ∷ words) t = wrong_words path

abbrev pub mark_does : List ℕ → List (List ℕ) → Lines → Called
mark_does path [] t = wrong_words path
mark_does path (name ∷ words) t =
    if same_text name (codes "set") then mark_set_does path words t
    else (if same_text name (codes "unset") then mark_unset_does path words t
    else (if same_text name (codes "names") then mark_names_does path words t
    else (if same_text name (codes "gravity") then mark_gravity_does path words t
    else wrong_words path)))

-- ---- tags

-- with a tag on the characters between two places, or without it on them
abbrev pub tag_set : Bool → List ℕ → ℕ → ℕ → Lines → Lines
tag_set true name first last t = record t { tags = map (tagged true name first last) (with_tag name (length t.text) t.tags) }
tag_set false name first last t = record t { tags = map (tagged false name first last) t.tags }

abbrev pub tag_put : Bool → List ℕ → ℕ → ℕ → Lines → Called
tag_put on name first last t = becomes (tag_set on name first last t)

-- without the tags of some names
abbrev pub tags_deleted : List (List ℕ) → Lines → Lines
tags_deleted names t = record t { tags = without_tags names t.tags }

-- `tag add` and `tag remove`: without a second index, one character
abbrev pub tag_put_does : Bool → List ℕ → List (List ℕ) → Lines → Called
tag_put_does on path [] t = wrong_words path
tag_put_does on path (name ∷ []) t = wrong_words path
tag_put_does on path (name ∷ index ∷ []) t = after (place_in t index) (λ first. tag_put on name first (first + 1) t)
tag_put_does on path (name ∷ index ∷ behind ∷ []) t =
    after (place_in t index) (λ first. after (place_in t behind) (λ last. tag_put on name first last t))
tag_put_does on path (name ∷ index ∷ behind ∷ word ∷ words) t = wrong_words path

-- the names of the tags on the character behind a place
unfoldable pub names_on : ℕ → List Tag → List (List ℕ)
names_on place tags = map (λ g. g.name) (filter (λ g. is_on g place) tags)

-- the names of all tags, or of those on a character
abbrev pub tag_names_does : List ℕ → List (List ℕ) → Lines → Called
tag_names_does path [] t = answers (joined (map (λ g. g.name) t.tags)) t
tag_names_does path (index ∷ []) t = after (place_in t index) (λ place. answers (joined (names_on place t.tags)) t)
tag_names_does path (index ∷ word ∷ words) t = wrong_words path

-- the places at which the tag begins and ends, in turn: `place` is that before the flags, and `was` what is before it
abbrev pub edges : Bool → ℕ → List Bool → List ℕ
edges true place [] = place ∷ []
edges false place [] = []
edges true place (true ∷ on) = edges true (place + 1) on
edges true place (false ∷ on) = place ∷ edges false (place + 1) on
edges false place (true ∷ on) = place ∷ edges true (place + 1) on
edges false place (false ∷ on) = edges false (place + 1) on

abbrev pub flags_of : List ℕ → List Tag → List Bool
flags_of name [] = []
flags_of name (g ∷ tags) = if is_tag name g then g.on else flags_of name tags

abbrev pub tag_ranges_does : List ℕ → List (List ℕ) → Lines → Called
tag_ranges_does path [] t = wrong_words path
tag_ranges_does path (name ∷ []) t = answers (joined (map (spelled t.text) (edges false 0 (flags_of name t.tags)))) t
tag_ranges_does path (name ∷ word ∷ words) t = wrong_words path

abbrev pub tag_delete_does : List ℕ → List (List ℕ) → Lines → Called
tag_delete_does path [] t = wrong_words path
tag_delete_does path (name ∷ names) t = becomes (tags_deleted (name ∷ names) t)

abbrev pub tag_does : List ℕ → List (List ℕ) → Lines → Called
tag_does path [] t = wrong_words path
tag_does path (name ∷ words) t =
    if same_text name (codes "add") then tag_put_does true path words t
    else (if same_text name (codes "remove") then tag_put_does false path words t
    else (if same_text name (codes "names") then tag_names_does path words t
    else (if same_text name (codes "ranges") then tag_ranges_does path words t
    else (if same_text name (codes "delete") then tag_delete_does path words t
    else wrong_words path))))

-- ---- all

-- those that all widgets have
abbrev pub shared_does : List ℕ → List ℕ → List (List ℕ) → Lines → Called
shared_does path name words t = after (subcommand_does path name words t.options) (λ x. Ok (x.0, record t { options = x.1 }))

-- a subcommand, with the words behind it
abbrev pub lines_does : List ℕ → List ℕ → List (List ℕ) → Lines → Called
lines_does path name words t =
    if same_text name (codes "get") then get_does path words t
    else (if same_text name (codes "insert") then insert_does path words t
    else (if same_text name (codes "delete") then delete_does path words t
    else (if same_text name (codes "index") then index_does path words t
    else (if same_text name (codes "mark") then mark_does path words t
    else (if same_text name (codes "tag") then tag_does path words t
    else shared_does path name words t)))))

-- the words of a whole command, the widget's path first
abbrev pub called : Lines → List (List ℕ) → Called
called t words = with_subcommand words (λ path name rest. lines_does path name rest t)
