-- A world that keeps within limits keeps within wider ones.
use Rattle.std.proofs.Common.{◌≡◌, ℕ, ◌≤◌, nat_le, Bool, true, false, true≢false, ◌&&◌, List, [], ◌∷◌, length, Option, Some, None, refl, sym, arith}
use Rattle.std.specs.FinMap as map
use Rattle.std.specs.List.{list_all}
use Rattle.std.proofs.lemmas.Bool.Decides.{nat_tests}
use Rattle.tks_text.specs.Limits.{Wider}
use Rattle.tks_text.specs.declared.limits.Limits.{Limits}
use Rattle.tks_bind.specs.declared.binding.Binding.{Binding}
use Rattle.tks_bind.specs.declared.virtual_event.VirtualEvent.{VirtualEvent}
use Rattle.tks_event.specs.Event.{Event}
use Rattle.tks_event.specs.declared.pattern.Pattern.{Pattern}
use Rattle.tks_lines.specs.Lines.{Lines}
use Rattle.tks_listbox.specs.Listbox.{Listbox}
use Rattle.tks_opt.specs.Options.{values_in_order}
use Rattle.tks_queue.specs.declared.queued.Queued.{Queued}
use Rattle.tks_state.specs.Widget.{options_of}
use Rattle.tks_state.specs.World.{World}
use Rattle.tks_state.specs.declared.kept.Kept.{Kept}
use Rattle.tks_state.specs.declared.widget.Widget.{Widget}
use Rattle.tks_state.specs.declared.widget.Widget.TheVariants as widget
use Rattle.tks_timer.specs.After.{Content}
use Rattle.tks_tree.specs.Windows as tree
use Rattle.tks_vars.specs.Table.{Map}
use Rattle.tks_vars.specs.Variables.{Variables}
use Rattle.tks_vars.specs.declared.content.Content as globals
use Rattle.tks_vars.specs.declared.content.Content.TheVariants.{Scalar, Array}
use Rattle.tks_vars.specs.declared.procedure.Procedure.{Procedure}
use Rattle.tks_limits.specs.Within as kinds
use Rattle.tks_limits.specs.Within.{within}

first : (a b : Bool) → (a && b) ≡ true → a ≡ true
first true b h = refl
first false b h = absurd (true≢false (sym h))

second : (a b : Bool) → (a && b) ≡ true → b ≡ true
second true b h = h
second false b h = absurd (true≢false (sym h))

join : (a b : Bool) → a ≡ true → b ≡ true → (a && b) ≡ true
join true b h k = k
join false b h k = h

-- what one of two tests tells of the other
abbrev pub Tells : Bool → Bool → Type 0
Tells a b = a ≡ true → b ≡ true

both : {a b c d : Bool} → Tells a b → Tells c d → Tells (a && c) (b && d)
both {a} {b} {c} {d} f g h = join b d (f (first a c h)) (g (second a c h))

each : {X : Type 0} (p q : X → Bool) → ((x : X) → Tells (p x) (q x)) → (xs : List X) → Tells (list_all p xs) (list_all q xs)
each p q f [] h = refl
each p q f (x ∷ xs) h = join (q x) (list_all q xs) (f x (first (p x) (list_all p xs) h)) (each p q f xs (second (p x) (list_all p xs) h))

at_most : (n a b : ℕ) → a ≤ b → Tells (nat_le n a) (nat_le n b)
at_most n a b le h = grind (arith, nat_tests)

module _ (a b : Limits) (w : Wider a b) where
  text : (t : List ℕ) → Tells (kinds.fits a t) (kinds.fits b t)
  text t = at_most (length t) a.text b.text w.text

  count : (n : ℕ) → Tells (kinds.may_hold a n) (kinds.may_hold b n)
  count n = at_most n a.items b.items w.items

  texts : (ts : List (List ℕ)) → Tells (kinds.texts_fit a ts) (kinds.texts_fit b ts)
  texts ts = each (kinds.fits a) (kinds.fits b) text ts

  tags : (o : Option (List (List ℕ))) → Tells (kinds.tags_fit a o) (kinds.tags_fit b o)
  tags None = λ h. refl
  tags (Some ts) = both (count (length ts)) (texts ts)

  listbox : (l : Listbox) → Tells (kinds.listbox_fits a l) (kinds.listbox_fits b l)
  listbox l = both (count (length l.items)) (each (λ i. kinds.fits a i.text) (λ i. kinds.fits b i.text) (λ i. text i.text) l.items)

  lines : (t : Lines) → Tells (kinds.lines_fit a t) (kinds.lines_fit b t)
  lines t =
      both (text t.text) (both (count (length t.tags)) (both (each (λ g. kinds.fits a g.name) (λ g. kinds.fits b g.name) (λ g. text g.name) t.tags)
      (both (count (length t.marks)) (each (λ m. kinds.fits a m.name) (λ m. kinds.fits b m.name) (λ m. text m.name) t.marks))))

  content : (v : Widget) → Tells (kinds.content_fits a v) (kinds.content_fits b v)
  content (widget.Frame o) = λ h. refl
  content (widget.Caption o) = λ h. refl
  content (widget.Entry e) = text e.text
  content (widget.Listbox l) = listbox l
  content (widget.Text t) = lines t

  pub widget_wider : (v : Widget) → Tells (kinds.widget_fits a v) (kinds.widget_fits b v)
  widget_wider v = both (texts (values_in_order (options_of v))) (content v)

  kept : (k : Kept) → Tells (kinds.kept_fits a k) (kinds.kept_fits b k)
  kept k = both (widget_wider k.widget) (tags k.tags)

  paths : (ws : List tree.Window) → Tells (kinds.paths_fit a ws) (kinds.paths_fit b ws)
  paths ws = both (count (length ws)) (each (λ v. kinds.fits a v.path) (λ v. kinds.fits b v.path) (λ v. text v.path) ws)

  elements : (m : Map (List ℕ)) → Tells (kinds.elements_fit a m) (kinds.elements_fit b m)
  elements m =
      both (count (map.len m)) (each (λ e. kinds.fits a e.0 && kinds.fits a e.1) (λ e. kinds.fits b e.0 && kinds.fits b e.1) (λ e. both (text e.0) (text e.1)) (map.entries m))

  global : (c : globals.Content) → Tells (kinds.global_fits a c) (kinds.global_fits b c)
  global (Scalar value) = text value
  global (Array es) = elements es

  all_globals : (m : Map globals.Content) → Tells (kinds.globals_fit a m) (kinds.globals_fit b m)
  all_globals m =
      both (count (map.len m))
      (each (λ e. kinds.fits a e.0 && kinds.global_fits a e.1) (λ e. kinds.fits b e.0 && kinds.global_fits b e.1) (λ e. both (text e.0) (global e.1)) (map.entries m))

  default : (d : Option (List ℕ)) → Tells (kinds.default_fits a d) (kinds.default_fits b d)
  default None = λ h. refl
  default (Some value) = text value

  procedure : (p : Procedure) → Tells (kinds.procedure_fits a p) (kinds.procedure_fits b p)
  procedure p =
      both (each (λ x. kinds.fits a x.name && kinds.default_fits a x.default) (λ x. kinds.fits b x.name && kinds.default_fits b x.default) (λ x. both (text x.name) (default x.default)) p.params)
      (text p.body)

  procedures : (m : Map Procedure) → Tells (kinds.procedures_fit a m) (kinds.procedures_fit b m)
  procedures m =
      both (count (map.len m))
      (each (λ e. kinds.fits a e.0 && kinds.procedure_fits a e.1) (λ e. kinds.fits b e.0 && kinds.procedure_fits b e.1) (λ e. both (text e.0) (procedure e.1)) (map.entries m))

  pub sequence_wider : (s : List Pattern) → Tells (kinds.sequence_fits a s) (kinds.sequence_fits b s)
  sequence_wider s = each (λ p. kinds.fits a p.detail) (λ p. kinds.fits b p.detail) (λ p. text p.detail) s

  pub sequences_wider : (ss : List (List Pattern)) → Tells (kinds.sequences_fit a ss) (kinds.sequences_fit b ss)
  sequences_wider ss = each (kinds.sequence_fits a) (kinds.sequence_fits b) sequence_wider ss

  bindings : (xs : List Binding) → Tells (kinds.bindings_fit a xs) (kinds.bindings_fit b xs)
  bindings xs =
      both (count (length xs)) (each (kinds.binding_fits a) (kinds.binding_fits b) (λ x. both (text x.tag) (both (sequence_wider x.sequence) (text x.script))) xs)

  virtual : (v : VirtualEvent) → Tells (kinds.virtual_fits a v) (kinds.virtual_fits b v)
  virtual v = both (text v.name) (both (count (length v.sequences)) (sequences_wider v.sequences))

  virtuals : (xs : List VirtualEvent) → Tells (kinds.virtuals_fit a xs) (kinds.virtuals_fit b xs)
  virtuals xs = both (count (length xs)) (each (kinds.virtual_fits a) (kinds.virtual_fits b) virtual xs)

  event : (e : Event) → Tells (kinds.event_fits a e) (kinds.event_fits b e)
  event e = both (text e.detail) (text e.payload)

  queue : (xs : List Queued) → Tells (kinds.queue_fits a xs) (kinds.queue_fits b xs)
  queue xs = both (count (length xs)) (each (λ q. kinds.event_fits a q.event) (λ q. kinds.event_fits b q.event) (λ q. event q.event) xs)

  timers : (x : Content) → Tells (kinds.timers_fit a x) (kinds.timers_fit b x)
  timers x =
      both (count (length x.timers)) (both (each (λ t. kinds.fits a t.script) (λ t. kinds.fits b t.script) (λ t. text t.script) x.timers)
      (both (count (length x.idles)) (each (λ i. kinds.fits a i.script) (λ i. kinds.fits b i.script) (λ i. text i.script) x.idles)))

  history : (xs : List Event) → Tells (kinds.history_fits a xs) (kinds.history_fits b xs)
  history xs = each (kinds.event_fits a) (kinds.event_fits b) event xs

  all_windows : (x : World) → Tells (kinds.windows_fit a x) (kinds.windows_fit b x)
  all_windows x = both (paths x.tree.windows) (each (kinds.kept_fits a) (kinds.kept_fits b) kept x.kept)

  all_events : (x : World) → Tells (kinds.events_fit a x) (kinds.events_fit b x)
  all_events x = both (bindings x.bindings.bindings) (both (virtuals x.virtuals) (both (history x.history) (both (queue x.queue) (timers x.timers))))

  variables : (v : Variables) → Tells (kinds.variables_fit a v) (kinds.variables_fit b v)
  variables v = both (all_globals v.globals) (procedures v.procedures)

pub wider_admits : (a b : Limits) (x : World) → Wider a b → within a x ≡ true → within b x ≡ true
unfolding within
wider_admits a b x w = both (all_windows a b w x) (both (variables a b w x.variables) (both (all_events a b w x) (both (elements a b w x.memories) (texts a b w x.faults))))
