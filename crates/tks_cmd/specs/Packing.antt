-- The forms of `pack` (pack(n); which errors there are, and their order, are this project's own).
use Rattle.std.specs.Prelude.{ℕ, ℤ, pos, negsuc, Bool, true, false, not, ◌&&◌, ◌==◌, is_some, if◌then◌else◌, codes, List, [], ◌∷◌, ◌++◌, take, drop, Option, Some, None, Result, Ok}
use Rattle.std.specs.List.{prefix_len}
use Rattle.tks_text.specs.Text.{same_text, begins_dot}
use Rattle.tks_tcl.specs.Cause.{Cause, after, value_or_fault, wrong_words}
use Rattle.tks_tcl.specs.Words.{truth_text, integer_in}
use Rattle.tks_list.specs.Quoting.{joined}
use Rattle.tks_text.specs.Truth.{truth_of_word}
use Rattle.tks_pack.specs.Settings.{default_settings, with_options}
use Rattle.tks_pack.specs.Packing.{Packed, nothing_packed}
use Rattle.tks_pack.specs.declared.packing.Content.{Content}
use Rattle.tks_tree.specs.Windows.{Window, of_number, on_window, resolved, parent}
use Rattle.tks_state.specs.Windows.{kept_of, on_kept}
use Rattle.tks_state.specs.World.{World, packed, unpacked, with_propagation}
use Rattle.tks_cmd.specs.Changes.{Changed, silent, not_on_root, each}
use Rattle.tks_cmd.specs.Windows.{are_paired}

-- ---- windows among words

-- the window of a path, which must be there
abbrev pub window_of : World → List ℕ → Result ℕ Cause
window_of w path = value_or_fault (resolved w.tree path)

-- those of paths, in order
abbrev pub windows_of : World → List (List ℕ) → Result (List ℕ) Cause
windows_of w paths = each (window_of w) paths

-- ---- pack ?configure? window .. ?option value ..?

-- whether a window stands in another; only `.` doesn't
abbrev pub stands_in_one : World → ℕ → Bool
stands_in_one w n = not (n == 0) && is_some (parent w.tree n)

abbrev pub or_on_root : World → ℕ → Result ℕ Cause
or_on_root w n = if stands_in_one w n then Ok n else not_on_root

-- a window to be packed: it must be there, and not be `.`
abbrev pub content_of : World → List ℕ → Result ℕ Cause
content_of w path = after (window_of w path) (or_on_root w)

-- those of paths, in order
abbrev pub contents_of : World → List (List ℕ) → Result (List ℕ) Cause
contents_of w paths = each (content_of w) paths

-- windows packed in those that they stand in, one after the other, each with the same options and values
abbrev pub packed_each : List ℕ → List (List ℕ) → World → Result World Cause
packed_each [] options w = Ok w
packed_each (n ∷ ns) options w = after (value_or_fault (packed w n options)) (packed_each ns options)

-- whether a word is no option
abbrev pub begins_dash : List ℕ → Bool
begins_dash [] = false
begins_dash (c ∷ word) = c == 45

-- how many words stand before the first option
abbrev pub window_count : List (List ℕ) → ℕ
window_count words = prefix_len (λ word. not (begins_dash word)) words

-- whether the options may have the values behind them, from left to right; the same in all windows
abbrev pub options_read : List (List ℕ) → Result (Unit {0}) Cause
options_read options = after (value_or_fault (with_options default_settings options)) (λ _. Ok tt)

-- the windows of the paths packed: all paths are looked at first, then the options
abbrev pub packed_all : List (List ℕ) → List (List ℕ) → World → Result Changed Cause
packed_all paths options w = after (contents_of w paths) (λ ns. after (options_read options) (λ _. after (packed_each ns options w) silent))

-- one window or more, and options that each have a value
abbrev pub configure_does : List ℕ → List (List ℕ) → World → Result Changed Cause
configure_does command words w =
    let count = window_count words in
    if not (count == 0) && are_paired (drop count words) then packed_all (take count words) (drop count words) w else wrong_words command

-- ---- pack forget window ..

-- a world in which these windows are packed no more; one that isn't packed stays so
abbrev pub unpacked_all : List ℕ → World → World
unpacked_all [] w = w
unpacked_all (n ∷ ns) w = unpacked_all ns (unpacked w n)

abbrev pub forget_does : List ℕ → List (List ℕ) → World → Result Changed Cause
forget_does command [] w = wrong_words command
forget_does command (path ∷ paths) w = after (windows_of w (path ∷ paths)) (λ ns. silent (unpacked_all ns w))

-- ---- pack slaves window

-- what is packed in a window
abbrev pub packing_of : World → ℕ → Packed
packing_of w n = on_kept (kept_of w.kept n) nothing_packed (λ k. k.packing)

-- the path of the window of a number, where there is one
abbrev pub path_of : List Window → ℕ → List (List ℕ)
path_of windows n = on_window (of_number windows n) [] (λ v. v.path ∷ [])

-- those of packed windows, in order
abbrev pub paths_of : List Window → List Content → List (List ℕ)
paths_of windows [] = []
paths_of windows (c ∷ cs) = path_of windows c.window ++ paths_of windows cs

-- the list of the paths of the windows that are packed in one, in their order
abbrev pub slaves_text : World → ℕ → List ℕ
slaves_text w n = joined (paths_of w.tree.windows (packing_of w n).contents)

abbrev pub slaves_does : List ℕ → List (List ℕ) → World → Result Changed Cause
slaves_does command (path ∷ []) w = after (window_of w path) (λ n. Ok (slaves_text w n, w))
slaves_does command words w = wrong_words command

-- ---- pack propagate window ?boolean?

-- an integer is true where it isn't 0
abbrev pub is_true : ℤ → Bool
is_true (pos n) = not (n == 0)
is_true (negsuc n) = true

-- a truth value: one of the words, or an integer, or the error of reading one
abbrev pub truth_read : List ℕ → Option Bool → Result Bool Cause
truth_read text None = after (integer_in text) (λ z. Ok (is_true z))
truth_read text (Some b) = Ok b

abbrev pub propagate_does : List ℕ → List (List ℕ) → World → Result Changed Cause
propagate_does command (path ∷ []) w = after (window_of w path) (λ n. Ok (truth_text (packing_of w n).propagates, w))
propagate_does command (path ∷ value ∷ []) w =
    after (window_of w path) (λ n. after (truth_read value (truth_of_word value)) (λ b. silent (with_propagation w n b)))
propagate_does command words w = wrong_words command

-- ---- pack

-- a subcommand, or a window: it begins with a dot
abbrev pub form_does : List ℕ → List ℕ → List (List ℕ) → World → Result Changed Cause
form_does command first words w =
    if same_text first (codes "configure") then configure_does command words w
    else (if same_text first (codes "forget") then forget_does command words w
    else (if same_text first (codes "slaves") then slaves_does command words w
    else (if same_text first (codes "propagate") then propagate_does command words w
    else (if begins_dot first then configure_does command (first ∷ words) w
    else wrong_words command))))

-- the command with the words behind its name
abbrev pub pack_does : List ℕ → List (List ℕ) → World → Result Changed Cause
pack_does command [] w = wrong_words command
pack_does command (first ∷ words) w = form_does command first words w
