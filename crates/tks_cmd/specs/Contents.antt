-- What widgets hold beside a text that may be a global's, within the limits (this project's own rule).
use Rattle.std.specs.Prelude.{ℕ, Bool, true, ◌&&◌, nat_le, length}
use Rattle.tks_text.specs.declared.limits.Limits.{Limits}
use Rattle.tks_text.specs.Limits.{fits}
use Rattle.tks_state.specs.declared.widget.Widget.{Widget}
use Rattle.tks_state.specs.declared.widget.Widget.TheVariants as widget

module _ (limits : Limits) where
  -- a list of so many passes no limit
  abbrev pub may_hold : ℕ → Bool
  may_hold count = nat_le count limits.items

  -- the items of a listbox; the characters, tags and marks of a text widget
  unfoldable pub holds_within : Widget → Bool
  holds_within (widget.Frame t) = true
  holds_within (widget.Caption t) = true
  holds_within (widget.Entry e) = true
  holds_within (widget.Listbox l) = may_hold (length l.items)
  holds_within (widget.Text t) = fits limits t.text && (may_hold (length t.tags) && may_hold (length t.marks))
