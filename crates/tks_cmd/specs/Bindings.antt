-- `bind` and `bindtags` (bind(n), bindtags(n); which errors there are, their order and the limits are this project's own).
use Rattle.std.specs.Prelude.{ℕ, ◌^◌, Bool, not, ◌||◌, ◌&&◌, nat_le, nat_lt, if◌then◌else◌, List, [], ◌∷◌, length, Option, Some, None, Result, Ok, Err}
use Rattle.tks_text.specs.declared.limits.Limits.{Limits}
use Rattle.tks_tcl.specs.Cause.{Cause, OverLimit, after, value_or_fault, wrong_words}
use Rattle.tks_text.specs.Limits.{fits}
use Rattle.tks_tcl.specs.Words.{list_in}
use Rattle.tks_list.specs.Quoting.{joined}
use Rattle.tks_event.specs.Reading.{sequence_of}
use Rattle.tks_event.specs.Sequences.{is_some_text}
use Rattle.tks_event.specs.declared.pattern.Pattern.{Pattern}
use Rattle.tks_bind.specs.Binding.{Content, script_for, made, spelled}
use Rattle.tks_text.specs.Text.{begins_dot}
use Rattle.tks_tree.specs.Windows.{of_number, on_window}
use Rattle.tks_limits.specs.Within.{sequence_fits}
use Rattle.tks_state.specs.World.{World, bound_to, tagged}
use Rattle.tks_cmd.specs.Changes.{Changed, silent}
use Rattle.tks_cmd.specs.Packing.{window_of}
use Rattle.tks_cmd.specs.Dispatch.{tags_of}

-- ---- bind tag ?sequence? ?script?

-- a tag that begins with a dot must be the path of a window
abbrev pub tag_read : World → List ℕ → Result (Unit {0}) Cause
tag_read w tag = if begins_dot tag then after (window_of w tag) (λ _. Ok tt) else Ok tt

abbrev pub sequence_read : List ℕ → Result (List Pattern) Cause
sequence_read text = value_or_fault (sequence_of text)

abbrev pub or_empty : Option (List ℕ) → List ℕ
or_empty None = []
or_empty (Some script) = script

-- whether there is a number for a script that is set; one that is taken away takes none
abbrev pub has_number : List ℕ → Content → Bool
has_number script c = not (is_some_text script) || nat_lt c.next (2 ^ 62)

module _ (limits : Limits) where
  -- a list of bindings passes no limit
  abbrev pub bindings_within : World → Result World Cause
  bindings_within w = if nat_le (length w.bindings.bindings) limits.items then Ok w else Err OverLimit

  -- whether the script that is set passes no limit
  abbrev pub script_fits : List ℕ → List Pattern → List ℕ → Content → Bool
  script_fits tag sequence script c = fits limits (made (script_for tag sequence c.bindings) script)

  -- whether the details of the sequence to which it is set pass none; what is taken away is kept no more
  abbrev pub details_fit : List Pattern → List ℕ → Bool
  details_fit sequence script = not (is_some_text script) || sequence_fits limits sequence

  -- a script bound to a sequence; an empty one is taken away
  abbrev pub bound_within : List ℕ → List Pattern → List ℕ → World → Result World Cause
  bound_within tag sequence script w =
      if details_fit sequence script && (script_fits tag sequence script w.bindings && has_number script w.bindings) then bindings_within (bound_to tag sequence script w) else Err OverLimit

  abbrev pub bind_does : List ℕ → List (List ℕ) → World → Result Changed Cause
  bind_does command (tag ∷ []) w = after (tag_read w tag) (λ _. Ok (joined (spelled tag w.bindings.bindings), w))
  bind_does command (tag ∷ sequence ∷ []) w =
      after (tag_read w tag) (λ _. after (sequence_read sequence) (λ s. Ok (or_empty (script_for tag s w.bindings.bindings), w)))
  bind_does command (tag ∷ sequence ∷ script ∷ []) w =
      after (tag_read w tag) (λ _. after (sequence_read sequence) (λ s. after (bound_within tag s script w) silent))
  bind_does command words w = wrong_words command

-- ---- bindtags window ?list?

-- the tags of the window of a number
abbrev pub tags_at : World → ℕ → List (List ℕ)
tags_at w n = on_window (of_number w.tree.windows n) [] (tags_of w)

-- the empty list stands for the tags that a window has where none were set
abbrev pub given_tags : List (List ℕ) → Option (List (List ℕ))
given_tags [] = None
given_tags (tag ∷ tags) = Some (tag ∷ tags)

module _ (limits : Limits) where
  -- a list of tags passes no limit
  abbrev pub tags_within : List (List ℕ) → Result (List (List ℕ)) Cause
  tags_within tags = if nat_le (length tags) limits.items then Ok tags else Err OverLimit

  abbrev pub tags_read : List ℕ → Result (List (List ℕ)) Cause
  tags_read text = after (list_in text) tags_within

  abbrev pub bindtags_does : List ℕ → List (List ℕ) → World → Result Changed Cause
  bindtags_does command (path ∷ []) w = after (window_of w path) (λ n. Ok (joined (tags_at w n), w))
  bindtags_does command (path ∷ list ∷ []) w =
      after (window_of w path) (λ n. after (tags_read list) (λ tags. silent (tagged w n (given_tags tags))))
  bindtags_does command words w = wrong_words command
