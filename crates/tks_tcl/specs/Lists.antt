-- The commands on lists (list(n), llength(n), lindex(n), lrange(n), lsearch(n), concat(n), join(n), split(n)).
-- How lists are written is this project's own rule.
use Rattle.std.specs.Prelude.{ℕ, Bool, ◌==◌, not, if◌then◌else◌, List, [], ◌∷◌, ◌++◌, length, drop, map, filter, position, codes, Option, Some, None, Result, Ok, Err}
use Rattle.std.specs.Fmt.{decimal}
use Rattle.std.specs.List.{list_all, list_any, prefix_len}
use Rattle.tks_text.specs.Text.{same_text}
use Rattle.tks_text.specs.Integer.{is_space}
use Rattle.tks_text.specs.declared.fault.ErrorNumber.TheVariants.{UnknownOption}
use Rattle.tks_list.specs.Quoting.{joined}
use Rattle.tks_tcl.specs.Cause.{Cause, Fault, after, about, wrong_words}
use Rattle.tks_tcl.specs.Words.{list_in}
use Rattle.tks_tcl.specs.Index.{index_in, range}

-- ---- parts of lists

-- the first member, or the empty text where there is none
abbrev pub first_or_empty : List (List ℕ) → List ℕ
first_or_empty [] = []
first_or_empty (element ∷ l) = element

-- a place, or -1 where there is none
abbrev pub place_text : Option ℕ → List ℕ
place_text None = codes "-1"
place_text (Some n) = decimal n

-- ---- texts

-- texts behind another, each with a separator before it
abbrev pub separated : List ℕ → List (List ℕ) → List ℕ
separated separator [] = []
separated separator (text ∷ texts) = separator ++ text ++ separated separator texts

-- texts with a separator between them
abbrev pub joined_by : List ℕ → List (List ℕ) → List ℕ
joined_by separator [] = []
joined_by separator (text ∷ texts) = text ++ separated separator texts

-- a text without the white space at its end
abbrev pub without_end : List ℕ → List ℕ
without_end [] = []
without_end (c ∷ t) = if list_all is_space (c ∷ t) then [] else c ∷ without_end t

-- a text without the white space around it
abbrev pub trimmed : List ℕ → List ℕ
trimmed t = without_end (drop (prefix_len is_space t) t)

-- these texts without outer white space, those that are not empty then, with spaces between them
abbrev pub concatenated : List (List ℕ) → List ℕ
concatenated texts = joined_by (codes " ") (filter (λ t. not (length t == 0)) (map trimmed texts))

-- ---- split

-- a character more in front of the first of texts
abbrev pub with_first : ℕ → List (List ℕ) → List (List ℕ)
with_first c [] = (c ∷ []) ∷ []
with_first c (field ∷ fields) = (c ∷ field) ∷ fields

-- whether a character is among these
abbrev pub is_among : List ℕ → ℕ → Bool
is_among separators c = list_any (λ s. s == c) separators

-- what stands before, between and behind the separators of a text
abbrev pub fields : List ℕ → List ℕ → List (List ℕ)
fields separators [] = [] ∷ []
fields separators (c ∷ t) = if is_among separators c then [] ∷ fields separators t else with_first c (fields separators t)

-- the empty text has no fields, and no separators part each character from the next
abbrev pub split_at : List ℕ → List ℕ → List (List ℕ)
split_at separators [] = []
split_at [] t = map (λ c. c ∷ []) t
split_at separators t = fields separators t

-- ---- the commands

-- concat ..
abbrev pub concat_does : List ℕ → List (List ℕ) → Result (List ℕ) Cause
concat_does command words = Ok (concatenated words)

-- list ..
abbrev pub list_does : List ℕ → List (List ℕ) → Result (List ℕ) Cause
list_does command words = Ok (joined words)

-- llength l
abbrev pub llength_does : List ℕ → List (List ℕ) → Result (List ℕ) Cause
llength_does command (list ∷ []) = after (list_in list) (λ l. Ok (decimal (length l)))
llength_does command words = wrong_words command

-- the member of a list at the index that a text spells
abbrev pub indexed : List (List ℕ) → List ℕ → Result (List ℕ) Cause
indexed l i = after (index_in i) (λ index. Ok (first_or_empty (range index index l)))

-- lindex l i
abbrev pub lindex_does : List ℕ → List (List ℕ) → Result (List ℕ) Cause
lindex_does command (list ∷ i ∷ []) = after (list_in list) (λ l. indexed l i)
lindex_does command words = wrong_words command

-- the text of a list of the members from the index that one text spells to that of another
abbrev pub ranged : List (List ℕ) → List ℕ → List ℕ → Result (List ℕ) Cause
ranged l a b = after (index_in a) (λ first. after (index_in b) (λ last. Ok (joined (range first last l))))

-- lrange l a b
abbrev pub lrange_does : List ℕ → List (List ℕ) → Result (List ℕ) Cause
lrange_does command (list ∷ a ∷ b ∷ []) = after (list_in list) (λ l. ranged l a b)
lrange_does command words = wrong_words command

-- the place of a value in a list
abbrev pub searched : List ℕ → List ℕ → Result (List ℕ) Cause
searched list value = after (list_in list) (λ l. Ok (place_text (position (λ element. same_text element value) l)))

-- lsearch -exact l v
abbrev pub lsearch_does : List ℕ → List (List ℕ) → Result (List ℕ) Cause
lsearch_does command (option ∷ list ∷ value ∷ []) =
    if same_text option (codes "-exact") then searched list value else Err (Fault (about UnknownOption option))
lsearch_does command words = wrong_words command

-- join l ?sep?
abbrev pub join_does : List ℕ → List (List ℕ) → Result (List ℕ) Cause
join_does command (list ∷ []) = after (list_in list) (λ l. Ok (joined_by (codes " ") l))
join_does command (list ∷ separator ∷ []) = after (list_in list) (λ l. Ok (joined_by separator l))
join_does command words = wrong_words command

-- split t ?chars?
abbrev pub split_does : List ℕ → List (List ℕ) → Result (List ℕ) Cause
split_does command (text ∷ []) = Ok (joined (split_at (32 ∷ 9 ∷ 10 ∷ []) text))
split_does command (text ∷ separators ∷ []) = Ok (joined (split_at separators text))
split_does command words = wrong_words command

-- a command on lists: what it answers, given its first word and the others
abbrev pub ListCommand : Type 0
ListCommand = List ℕ → List (List ℕ) → Result (List ℕ) Cause

-- the one of this name
abbrev pub list_named : List ℕ → Option ListCommand
list_named name =
    if same_text name (codes "concat") then Some concat_does
    else (if same_text name (codes "join") then Some join_does
    else (if same_text name (codes "lindex") then Some lindex_does
    else (if same_text name (codes "list") then Some list_does
    else (if same_text name (codes "llength") then Some llength_does
    else (if same_text name (codes "lrange") then Some lrange_does
    else (if same_text name (codes "lsearch") then Some lsearch_does
    else (if same_text name (codes "split") then Some split_does
    else None)))))))
