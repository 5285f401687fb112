-- The subcommands of an entry (entry(n), "WIDGET COMMAND").
use Rattle.std.specs.Prelude.{ℕ, ◌+◌, if◌then◌else◌, List, [], ◌∷◌, codes, Result, Ok}
use Rattle.std.specs.Fmt.{decimal}
use Rattle.tks_text.specs.Text.{same_text}
use Rattle.tks_text.specs.declared.fault.ScriptFault.{ScriptFault}
use Rattle.tks_opt.specs.Options.{after}
use Rattle.tks_opt.specs.Calls.{wrong_words, subcommand_does, with_subcommand}
use Rattle.tks_opt.specs.declared.said.Said.{Said}
use Rattle.tks_opt.specs.declared.said.Said.TheVariants.{Text}
use Rattle.tks_entry.specs.Entry.{Entry, place_in, inserted, deleted, with_cursor}

-- what a subcommand comes to, and the entry that it leaves
abbrev pub Called : Type 0
Called = Result (Said × Entry) ScriptFault

-- it answers the empty text
abbrev pub becomes : Entry → Called
becomes e = Ok (Text [], e)

abbrev pub get_does : List ℕ → List (List ℕ) → Entry → Called
get_does path [] e = Ok (Text e.text, e)
get_does path (word ∷ words) e = wrong_words path

abbrev pub insert_does : List ℕ → List (List ℕ) → Entry → Called
insert_does path [] e = wrong_words path
insert_does path (index ∷ []) e = wrong_words path
insert_does path (index ∷ more ∷ []) e = after (place_in e index) (λ place. becomes (inserted place more e))
insert_does path (index ∷ more ∷ word ∷ words) e = wrong_words path

-- without a second index, one character
abbrev pub delete_does : List ℕ → List (List ℕ) → Entry → Called
delete_does path [] e = wrong_words path
delete_does path (index ∷ []) e = after (place_in e index) (λ first. becomes (deleted first (first + 1) e))
delete_does path (index ∷ behind ∷ []) e = after (place_in e index) (λ first. after (place_in e behind) (λ last. becomes (deleted first last e)))
delete_does path (index ∷ behind ∷ word ∷ words) e = wrong_words path

abbrev pub icursor_does : List ℕ → List (List ℕ) → Entry → Called
icursor_does path [] e = wrong_words path
icursor_does path (index ∷ []) e = after (place_in e index) (λ place. becomes (with_cursor place e))
icursor_does path (index ∷ word ∷ words) e = wrong_words path

abbrev pub index_does : List ℕ → List (List ℕ) → Entry → Called
index_does path [] e = wrong_words path
index_does path (index ∷ []) e = after (place_in e index) (λ place. Ok (Text (decimal place), e))
index_does path (index ∷ word ∷ words) e = wrong_words path

-- those that all widgets have
abbrev pub shared_does : List ℕ → List ℕ → List (List ℕ) → Entry → Called
shared_does path name words e = after (subcommand_does path name words e.options) (λ x. Ok (x.0, record e { options = x.1 }))

-- a subcommand, with the words behind it
abbrev pub entry_does : List ℕ → List ℕ → List (List ℕ) → Entry → Called
entry_does path name words e =
    if same_text name (codes "get") then get_does path words e
    else (if same_text name (codes "insert") then insert_does path words e
    else (if same_text name (codes "delete") then delete_does path words e
    else (if same_text name (codes "icursor") then icursor_does path words e
    else (if same_text name (codes "index") then index_does path words e
    else shared_does path name words e))))

-- the words of a whole command, the entry's path first
abbrev pub called : Entry → List (List ℕ) → Called
called e words = with_subcommand words (λ path name rest. entry_does path name rest e)
