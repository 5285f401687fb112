-- The windows: the tree of their numbers, paths and classes, and what is kept of each (this project's own
-- rule; destroy(n), pack(n)).
use Rattle.std.specs.Prelude.{ℕ, Bool, ◌==◌, is_some, if◌then◌else◌, List, [], ◌∷◌, ◌++◌, Option, Some, None, Result, Ok, Err}
use Rattle.std.specs.List.{find, filter}
use Rattle.tks_text.specs.declared.class.Class.TheVariants.{Root}
use Rattle.tks_text.specs.declared.fault.ScriptFault.{ScriptFault}
use Rattle.tks_text.specs.declared.fault.ErrorNumber.TheVariants.{NotAllowedOnRoot}
use Rattle.tks_opt.specs.Options.{first_options, after}
use Rattle.tks_pack.specs.Packing as packing
use Rattle.tks_pack.specs.Packing.{Packed, nothing_packed, forgotten}
use Rattle.tks_tree.specs.Path.{root_path}
use Rattle.tks_tree.specs.Windows as tree
use Rattle.tks_opt.specs.declared.said.Said.{Said}
use Rattle.tks_opt.specs.declared.said.Said.TheVariants.{Text}
use Rattle.tks_state.specs.Widget as widgets
use Rattle.tks_state.specs.Widget.{class_of}
use Rattle.tks_state.specs.declared.widget.Widget.{Widget}
use Rattle.tks_state.specs.declared.widget.Widget.TheVariants as widget
use Rattle.tks_state.specs.declared.kept.Kept.{Kept}

-- of a window, the tree has its number, path and class, and what is kept of it the rest
pub record Windows : Type 0 where
  pub tree : tree.Windows
  -- one for each window, in the order in which the windows were made
  pub kept : List Kept

-- ---- what is kept

-- what is kept of the window of a number
abbrev pub kept_of : List Kept → ℕ → Option Kept
kept_of kept number = find (λ k. k.window == number) kept

-- the same with another in its place
abbrev pub replaced : ℕ → Kept → List Kept → List Kept
replaced number new [] = []
replaced number new (k ∷ rest) = if k.window == number then new ∷ rest else k ∷ replaced number new rest

-- what comes of what is kept of a window, where there is one
abbrev pub on_kept : {X : Type 0} → Option Kept → X → (Kept → X) → X
on_kept None none some = none
on_kept (Some k) none some = some k

-- with another widget, or other contents
abbrev pub with_widget : Kept → Widget → Kept
with_widget k w = record k { widget = w }

abbrev pub with_packing : Kept → Packed → Kept
with_packing k p = record k { packing = p }

-- with other tags, or with those that windows have where none were set
abbrev pub with_tags : Kept → Option (List (List ℕ)) → Kept
with_tags k tags = record k { tags = tags }

-- a new window holds nothing, and no tags were set
abbrev pub new_kept : ℕ → Widget → Kept
new_kept number w = record { window = number; widget = w; tags = None; packing = nothing_packed }

-- another widget in the place of a window's
abbrev pub with_widget_at : List Kept → ℕ → Widget → List Kept
with_widget_at kept number v = on_kept (kept_of kept number) kept (λ k. replaced number (with_widget k v) kept)

-- what is said of what is done to the widget of a window, and what is kept then; where no window has the number, nothing is
-- said
abbrev pub done_at : List Kept → ℕ → (Widget → Result (Said × Widget) ScriptFault) → Result (Said × List Kept) ScriptFault
done_at kept number does = on_kept (kept_of kept number) (Ok (Text [], kept)) (λ k. after (does k.widget) (λ x. Ok (x.0, with_widget_at kept number x.1)))

-- what it answers to the words of a whole command
abbrev pub called_at : List Kept → ℕ → List (List ℕ) → Result (Said × List Kept) ScriptFault
called_at kept number words = done_at kept number (λ w. widgets.called w words)

-- other tags of a window
abbrev pub with_tags_at : List Kept → ℕ → Option (List (List ℕ)) → List Kept
with_tags_at kept number tags = on_kept (kept_of kept number) kept (λ k. replaced number (with_tags k tags) kept)

-- a window packed in its container, with options and values
abbrev pub packed_in : List Kept → ℕ → ℕ → List (List ℕ) → Result (List Kept) ScriptFault
packed_in kept container window options =
    on_kept (kept_of kept container) (Ok kept)
    (λ k. after (packing.packed window options k.packing) (λ p. Ok (replaced container (with_packing k p) kept)))

-- the same, where it stands in one; `.` stands in none, and is never packed
abbrev pub packed_at : List Kept → Option ℕ → ℕ → List (List ℕ) → Result (List Kept) ScriptFault
packed_at kept None window options = Err (record { number = NotAllowedOnRoot; subject = None })
packed_at kept (Some container) window options = packed_in kept container window options

-- a container that holds a window no more
abbrev pub forgotten_in : List Kept → ℕ → ℕ → List Kept
forgotten_in kept container window = on_kept (kept_of kept container) kept (λ k. replaced container (with_packing k (forgotten window k.packing)) kept)

abbrev pub forgotten_at : List Kept → Option ℕ → ℕ → List Kept
forgotten_at kept None window = kept
forgotten_at kept (Some container) window = forgotten_in kept container window

-- a container that asks to be as large as its contents need, or doesn't
abbrev pub propagating : List Kept → ℕ → Bool → List Kept
propagating kept number b = on_kept (kept_of kept number) kept (λ k. replaced number (with_packing k (record k.packing { propagates = b })) kept)

-- what is kept of the windows that are still there
abbrev pub still_there : List tree.Window → List Kept → List Kept
still_there windows kept = filter (λ k. is_some (tree.of_number windows k.window)) kept

-- ---- the windows

-- `.`, as it is at first
abbrev pub first_kept : Kept
first_kept = new_kept 0 (widget.Frame (first_options Root root_path))

-- `.` alone
abbrev pub first_windows : Windows
first_windows = record { tree = tree.first_windows; kept = first_kept ∷ [] }

-- a new window, which is this widget: its number, and the windows with it
abbrev pub created : Windows → List ℕ → Widget → Result (ℕ × Windows) tree.Refusal
created x path v =
    tree.after (tree.created x.tree path (class_of v))
    (λ made. Ok (made.0, record { tree = made.1; kept = x.kept ++ new_kept made.0 v ∷ [] }))

-- without a window, and without all that stand in it; a number that no window has changes nothing
abbrev pub without : Windows → ℕ → Windows
without x number =
    let t = tree.without x.tree number in
    record { tree = t; kept = still_there t.windows (forgotten_at x.kept (tree.parent x.tree number) number) }

-- a window destroyed, with all that stand in it; `.` stays (destroy(n))
abbrev pub destroyed : Windows → ℕ → Result Windows ScriptFault
destroyed x number = after (tree.destroyed x.tree number) (λ _. Ok (without x number))

-- a window that is another widget
abbrev pub changed : Windows → ℕ → Widget → Windows
changed x number v = record x { kept = with_widget_at x.kept number v }

-- the widget of a window, to which something is done
abbrev pub done : Windows → ℕ → (Widget → Result (Said × Widget) ScriptFault) → Result (Said × Windows) ScriptFault
done x number does = after (done_at x.kept number does) (λ y. Ok (y.0, record x { kept = y.1 }))

-- one that is called with the words of a whole command
abbrev pub called : Windows → ℕ → List (List ℕ) → Result (Said × Windows) ScriptFault
called x number words = done x number (λ w. widgets.called w words)

-- a window with other tags (bindtags(n))
abbrev pub tagged : Windows → ℕ → Option (List (List ℕ)) → Windows
tagged x number tags = record x { kept = with_tags_at x.kept number tags }

-- a window packed in the one that it stands in (pack(n))
abbrev pub packed : Windows → ℕ → List (List ℕ) → Result Windows ScriptFault
packed x number options = after (packed_at x.kept (tree.parent x.tree number) number options) (λ kept. Ok (record x { kept = kept }))

-- a window that its container holds no more (pack(n), `pack forget`)
abbrev pub unpacked : Windows → ℕ → Windows
unpacked x number = record x { kept = forgotten_at x.kept (tree.parent x.tree number) number }

-- a container that asks to be as large as its contents need, or doesn't (pack(n), `pack propagate`)
abbrev pub with_propagation : Windows → ℕ → Bool → Windows
with_propagation x number b = record x { kept = propagating x.kept number b }
