-- Truth words (Tcl_GetBoolean(3)). That they stand in full and without capitals is this project's own rule.
use Rattle.std.specs.Prelude.{ℕ, Bool, true, false, ◌||◌, if◌then◌else◌, List, Option, Some, None, codes}
use Rattle.tks_text.specs.Text.{same_text}

abbrev pub is_true_word : List ℕ → Bool
is_true_word t = same_text t (codes "true") || same_text t (codes "yes") || same_text t (codes "on")

abbrev pub is_false_word : List ℕ → Bool
is_false_word t = same_text t (codes "false") || same_text t (codes "no") || same_text t (codes "off")

-- the truth value that a text names as a word, if it is a truth word
abbrev pub truth_of_word : List ℕ → Option Bool
truth_of_word t = if is_true_word t then Some true else (if is_false_word t then Some false else None)
