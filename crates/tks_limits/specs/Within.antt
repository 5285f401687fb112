-- Whether a world keeps within limits (this project's own rule): no text that stands in it is longer than `text`, and no list
-- of those that grow with scripts has more members than `items`.
use Rattle.std.specs.Prelude.{ℕ, Bool, true, ◌&&◌, nat_le, List, length, Option, Some, None}
use Rattle.std.specs.FinMap as map
use Rattle.std.specs.List.{list_all}
use Rattle.tks_text.specs.declared.limits.Limits.{Limits}
use Rattle.tks_bind.specs.declared.binding.Binding.{Binding}
use Rattle.tks_bind.specs.declared.virtual_event.VirtualEvent.{VirtualEvent}
use Rattle.tks_event.specs.Event.{Event}
use Rattle.tks_event.specs.declared.pattern.Pattern.{Pattern}
use Rattle.tks_lines.specs.Lines.{Lines}
use Rattle.tks_listbox.specs.Listbox.{Listbox}
use Rattle.tks_opt.specs.Options.{values_in_order}
use Rattle.tks_queue.specs.declared.queued.Queued.{Queued}
use Rattle.tks_state.specs.Widget.{options_of}
use Rattle.tks_state.specs.World.{World}
use Rattle.tks_state.specs.declared.kept.Kept.{Kept}
use Rattle.tks_state.specs.declared.widget.Widget.{Widget}
use Rattle.tks_state.specs.declared.widget.Widget.TheVariants as widget
use Rattle.tks_timer.specs.After.{Content}
use Rattle.tks_tree.specs.Windows as tree
use Rattle.tks_vars.specs.Table.{Map}
use Rattle.tks_vars.specs.Variables.{Variables}
use Rattle.tks_vars.specs.declared.content.Content as globals
use Rattle.tks_vars.specs.declared.content.Content.TheVariants.{Scalar, Array}
use Rattle.tks_vars.specs.declared.procedure.Procedure.{Procedure}
pub use Rattle.tks_text.specs.Limits.{fits}

module _ (limits : Limits) where
  -- whether a list of so many members passes no limit
  abbrev pub may_hold : ℕ → Bool
  may_hold count = nat_le count limits.items

  abbrev pub texts_fit : List (List ℕ) → Bool
  texts_fit texts = list_all (fits limits) texts

  -- ---- windows

  abbrev pub tags_fit : Option (List (List ℕ)) → Bool
  tags_fit None = true
  tags_fit (Some tags) = may_hold (length tags) && texts_fit tags

  abbrev pub listbox_fits : Listbox → Bool
  listbox_fits l = may_hold (length l.items) && list_all (λ i. fits limits i.text) l.items

  abbrev pub lines_fit : Lines → Bool
  lines_fit t =
      fits limits t.text
      && (may_hold (length t.tags) && (list_all (λ g. fits limits g.name) t.tags && (may_hold (length t.marks) && list_all (λ m. fits limits m.name) t.marks)))

  abbrev pub content_fits : Widget → Bool
  content_fits (widget.Frame o) = true
  content_fits (widget.Caption o) = true
  content_fits (widget.Entry e) = fits limits e.text
  content_fits (widget.Listbox l) = listbox_fits l
  content_fits (widget.Text t) = lines_fit t

  abbrev pub widget_fits : Widget → Bool
  widget_fits w = texts_fit (values_in_order (options_of w)) && content_fits w

  abbrev pub kept_fits : Kept → Bool
  kept_fits k = widget_fits k.widget && tags_fit k.tags

  abbrev pub paths_fit : List tree.Window → Bool
  paths_fit windows = may_hold (length windows) && list_all (λ w. fits limits w.path) windows

  -- ---- variables and procedures

  abbrev pub elements_fit : Map (List ℕ) → Bool
  elements_fit m = may_hold (map.len m) && list_all (λ e. fits limits e.0 && fits limits e.1) (map.entries m)

  abbrev pub global_fits : globals.Content → Bool
  global_fits (Scalar value) = fits limits value
  global_fits (Array elements) = elements_fit elements

  abbrev pub globals_fit : Map globals.Content → Bool
  globals_fit m = may_hold (map.len m) && list_all (λ e. fits limits e.0 && global_fits e.1) (map.entries m)

  abbrev pub default_fits : Option (List ℕ) → Bool
  default_fits None = true
  default_fits (Some value) = fits limits value

  abbrev pub procedure_fits : Procedure → Bool
  procedure_fits p = list_all (λ a. fits limits a.name && default_fits a.default) p.params && fits limits p.body

  abbrev pub procedures_fit : Map Procedure → Bool
  procedures_fit m = may_hold (map.len m) && list_all (λ e. fits limits e.0 && procedure_fits e.1) (map.entries m)

  -- (no script's frame stands between inputs)
  abbrev pub variables_fit : Variables → Bool
  variables_fit v = globals_fit v.globals && procedures_fit v.procedures

  -- ---- events

  abbrev pub sequence_fits : List Pattern → Bool
  sequence_fits s = list_all (λ p. fits limits p.detail) s

  abbrev pub sequences_fit : List (List Pattern) → Bool
  sequences_fit ss = list_all sequence_fits ss

  abbrev pub binding_fits : Binding → Bool
  binding_fits b = fits limits b.tag && (sequence_fits b.sequence && fits limits b.script)

  abbrev pub bindings_fit : List Binding → Bool
  bindings_fit bindings = may_hold (length bindings) && list_all binding_fits bindings

  abbrev pub virtual_fits : VirtualEvent → Bool
  virtual_fits v = fits limits v.name && (may_hold (length v.sequences) && sequences_fit v.sequences)

  abbrev pub virtuals_fit : List VirtualEvent → Bool
  virtuals_fit virtuals = may_hold (length virtuals) && list_all virtual_fits virtuals

  abbrev pub event_fits : Event → Bool
  event_fits e = fits limits e.detail && fits limits e.payload

  abbrev pub history_fits : List Event → Bool
  history_fits events = list_all event_fits events

  abbrev pub queue_fits : List Queued → Bool
  queue_fits queue = may_hold (length queue) && list_all (λ q. event_fits q.event) queue

  abbrev pub timers_fit : Content → Bool
  timers_fit x =
      may_hold (length x.timers)
      && (list_all (λ t. fits limits t.script) x.timers && (may_hold (length x.idles) && list_all (λ i. fits limits i.script) x.idles))

  -- ---- memories

  abbrev pub memories_fit : Map (List ℕ) → Bool
  memories_fit memories = elements_fit memories

  -- ---- the world

  abbrev pub windows_fit : World → Bool
  windows_fit w = paths_fit w.tree.windows && list_all kept_fits w.kept

  abbrev pub events_fit : World → Bool
  events_fit w = bindings_fit w.bindings.bindings && (virtuals_fit w.virtuals && (history_fits w.history && (queue_fits w.queue && timers_fit w.timers)))

  unfoldable pub within : World → Bool
  within w = windows_fit w && (variables_fit w.variables && (events_fit w && (memories_fit w.memories && texts_fit w.faults)))
