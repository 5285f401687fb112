-- Commands of windows whose widgets stand alone: these are called in place.
use Rattle.std.proofs.Common.{◌≡◌, ℕ, ◌==◌, Bool, true, false, cond, ◌&&◌, if◌then◌else◌, List, [], ◌∷◌, Option, Some, None, is_some, Result, Ok, Err, refl, sym, ap, subst, ◌∙◌, true≢false, arith}
use Rattle.std.proofs.lemmas.Bool.{le-leb}
use Rattle.tks_text.specs.Limits.{fits}
use Rattle.tks_text.specs.declared.limits.Limits.{Limits}
use Rattle.tks_text.specs.declared.fault.ScriptFault.{ScriptFault}
use Rattle.tks_vars.specs.Variables.{Variables}
use Rattle.std.specs.Prelude.{IfSome}
use Rattle.tks_tcl.specs.Meets.{FailsSo}
use Rattle.tks_tcl.specs.declared.interrupt.Interrupt.{Interrupt}
use Rattle.tks_tcl.specs.declared.interrupt.Interrupt.TheVariants as interrupt
use Rattle.tks_tcl.specs.Cause.{Cause, OverLimit, Fault, after, value_or_fault}
use Rattle.tks_opt.specs.Options as options
use Rattle.tks_opt.specs.Calls as call
use Rattle.tks_listbox.specs.Commands as listbox
use Rattle.tks_lines.specs.Commands as lines
use Rattle.tks_opt.specs.declared.said.Said.{Said}
use Rattle.tks_opt.specs.declared.said.Said.TheVariants.{Text}
use Rattle.tks_state.specs.Widget as widgets
use Rattle.tks_state.specs.Widget.{stands_alone}
use Rattle.tks_state.specs.Windows as windows
use Rattle.tks_state.specs.Windows.{Windows, kept_of, on_kept, replaced}
use Rattle.tks_state.specs.World as worlds
use Rattle.tks_state.specs.World.{World, windows_of, with_windows, with_widget}
use Rattle.tks_state.specs.Links.{link_of, text_of, with_text, linked, seen, assigned}
use Rattle.tks_state.specs.WellFormed.{WellFormedWidget}
use Rattle.tks_state.specs.declared.kept.Kept.{Kept}
use Rattle.tks_state.specs.declared.widget.Widget.{Widget}
use Rattle.tks_state.specs.declared.widget.Widget.TheVariants as widget
use Rattle.tks_state.proofs.Alone.{alone_unlinked}
use Rattle.tks_cmd.specs.Changes.{outcome, plan_of, beside, silent}
use Rattle.tks_cmd.specs.Contents.{holds_within}
use Rattle.tks_cmd.specs.Links.{Linked, settled, stored, assigned_to}
use Rattle.tks_cmd.specs.Widgets.{is_configure, told_words, action_does, configure_does, called, window_does}

-- ---- a widget that stands alone

seen_alone : (v : Variables) (w : Widget) → stands_alone w ≡ true → seen v w ≡ w
unfolding seen with_text
seen_alone v (widget.Frame t) h = by (link_of (widget.Frame t))
  where
    by : (o : Option (List ℕ)) → linked v o (widget.Frame t) ≡ widget.Frame t
    by None = refl
    by (Some name) = refl
seen_alone v (widget.Listbox l) h = by (link_of (widget.Listbox l))
  where
    by : (o : Option (List ℕ)) → linked v o (widget.Listbox l) ≡ widget.Listbox l
    by None = refl
    by (Some name) = refl
seen_alone v (widget.Text t) h = by (link_of (widget.Text t))
  where
    by : (o : Option (List ℕ)) → linked v o (widget.Text t) ≡ widget.Text t
    by None = refl
    by (Some name) = refl
seen_alone v (widget.Caption t) h = absurd (true≢false (sym h))
seen_alone v (widget.Entry e) h = absurd (true≢false (sym h))

assigned_alone : (v : Variables) (w : Widget) (words : List (List ℕ)) → stands_alone w ≡ true → assigned v w words ≡ None
unfolding assigned
assigned_alone v (widget.Frame t) words h = refl
assigned_alone v (widget.Listbox l) words h = refl
assigned_alone v (widget.Text t) words h = refl
assigned_alone v (widget.Caption t) words h = absurd (true≢false (sym h))
assigned_alone v (widget.Entry e) words h = absurd (true≢false (sym h))

text_alone : (w : Widget) → stands_alone w ≡ true → text_of w ≡ []
unfolding text_of
text_alone (widget.Frame t) h = refl
text_alone (widget.Listbox l) h = refl
text_alone (widget.Text t) h = refl
text_alone (widget.Caption t) h = absurd (true≢false (sym h))
text_alone (widget.Entry e) h = absurd (true≢false (sym h))

-- a command leaves it one
abbrev StaysAlone : Result (Said × Widget) ScriptFault → Type 0
StaysAlone (Ok x) = stands_alone x.1 ≡ true
StaysAlone (Err fault) = Unit {0}

stays : (w : Widget) (words : List (List ℕ)) → stands_alone w ≡ true → StaysAlone (widgets.called w words)
stays (widget.Frame t) words h = by (call.called t words)
  where
    by : (r : Result (Said × _) ScriptFault) → StaysAlone (options.after r (λ x. Ok (x.0, widget.Frame x.1)))
    by (Ok x) = refl
    by (Err fault) = tt
stays (widget.Listbox l) words h = by (listbox.called l words)
  where
    by : (r : Result (Said × _) ScriptFault) → StaysAlone (options.after r (λ x. Ok (x.0, widget.Listbox x.1)))
    by (Ok x) = refl
    by (Err fault) = tt
stays (widget.Text t) words h = by (lines.called t words)
  where
    by : (r : Result (Said × _) ScriptFault) → StaysAlone (options.after r (λ x. Ok (x.0, widget.Text x.1)))
    by (Ok x) = refl
    by (Err fault) = tt
stays (widget.Caption t) words h = absurd (true≢false (sym h))
stays (widget.Entry e) words h = absurd (true≢false (sym h))

module _ (limits : Limits) where
  settled_alone : (w next : Widget) (v : Variables) → stands_alone next ≡ true → link_of next ≡ None
      → settled limits false w next v ≡ (if holds_within limits next then Ok (next, v) else Err OverLimit)
  unfolding settled
  settled_alone w next v alone unlinked =
      ap (λ text. if fits limits text && holds_within limits next then stored limits false (link_of next) w next v else Err OverLimit) (text_alone next alone)
      ∙ ap (λ b. if b && holds_within limits next then stored limits false (link_of next) w next v else Err OverLimit) (le-leb 0 limits.text (omega arith))
      ∙ ap (λ link. if holds_within limits next then stored limits false link w next v else Err OverLimit) unlinked

  module _ (w : Widget) (words : List (List ℕ)) (v : Variables) (alone : stands_alone w ≡ true) where
    -- what its widget comes to is all that the words come to
    abbrev Settled : Result (Said × Widget) ScriptFault → Result (Said × Linked) Cause
    Settled r = after (value_or_fault r) (λ y. after (settled limits false w y.1 v) (λ z. Ok (y.0, z)))

    does_alone : action_does limits words (w, v) ≡ Settled (widgets.called w words)
    unfolding action_does told_words
    does_alone =
        ap (λ first. after (assigned_to limits first v) (λ u. told_words limits words (w, u))) (assigned_alone v w words alone)
        ∙ ap (λ seen. Settled (widgets.called seen words)) (seen_alone v w alone)

    pub does_fault : (fault : ScriptFault) → widgets.called w words ≡ Err fault → action_does limits words (w, v) ≡ Err (Fault fault)
    does_fault fault e = does_alone ∙ ap Settled e

    module _ (said : Said) (next : Widget) (e : widgets.called w words ≡ Ok (said, next)) (f : WellFormedWidget next) where
      next_alone : stands_alone next ≡ true
      next_alone = subst StaysAlone e (stays w words alone)

      does_so : action_does limits words (w, v) ≡ after (if holds_within limits next then Ok (next, v) else Err OverLimit) (λ z. Ok (said, z))
      does_so = does_alone ∙ ap Settled e ∙ ap (λ r. after r (λ z. Ok (said, z))) (settled_alone w next v next_alone (alone_unlinked next f next_alone))

      pub does_next : holds_within limits next ≡ true → action_does limits words (w, v) ≡ Ok (said, (next, v))
      does_next h = does_so ∙ ap (λ b. after (if b then Ok (next, v) else Err OverLimit) (λ z. Ok (said, z))) h

      pub does_not : holds_within limits next ≡ false → action_does limits words (w, v) ≡ Err OverLimit
      does_not h = does_so ∙ ap (λ b. after (if b then Ok (next, v) else Err OverLimit) (λ z. Ok (said, z))) h

  called_other : (words : List (List ℕ)) (x : Linked) → is_configure words ≡ false → called limits words x ≡ action_does limits words x
  called_other [] x other = refl
  called_other (path ∷ []) x other = refl
  called_other (path ∷ name ∷ words) x other = ap (λ b. if b then configure_does limits path words x else action_does limits (path ∷ name ∷ words) x) other

-- ---- the window of a number

-- what is kept behind what a widget comes to, and the world with it
abbrev in_kept : ℕ → World → Result (Said × Widget) ScriptFault → Result (Said × List Kept) ScriptFault
in_kept window old r = options.after r (λ x. Ok (x.0, windows.with_widget_at old.kept window x.1))

abbrev in_world : World → Result (Said × List Kept) ScriptFault → Result (Said × World) ScriptFault
in_world old r =
    let ws : Result (Said × Windows) ScriptFault = options.after r (λ y. Ok (y.0, record (windows_of old) { kept = y.1 })) in
    options.after ws (λ x. Ok (x.0, with_windows old x.1))

-- another put in the place of what is kept of a window is what is kept then
kept_put : (window : ℕ) (k new : Kept) (kept : List Kept) → (new.window == window) ≡ true → kept_of kept window ≡ Some k → kept_of (replaced window new kept) window ≡ Some new
kept_put window k new [] numbered there = absurd (true≢false (sym (ap is_some there)))
kept_put window k new (first ∷ kept) numbered there = by (first.window == window) refl there (kept_put window k new kept numbered)
  where
    by : (b : Bool) → (first.window == window) ≡ b → cond b (Some first) (kept_of kept window) ≡ Some k → (kept_of kept window ≡ Some k → kept_of (replaced window new kept) window ≡ Some new)
        → kept_of (if b then new ∷ kept else first ∷ replaced window new kept) window ≡ Some new
    by true same there rest = ap (λ b. cond b (Some new) (kept_of kept window)) numbered
    by false other there rest = ap (λ b. cond b (Some first) (kept_of (replaced window new kept) window)) other ∙ rest there

kept_numbered : (window : ℕ) (k : Kept) (kept : List Kept) → kept_of kept window ≡ Some k → (k.window == window) ≡ true
kept_numbered window k [] there = absurd (true≢false (sym (ap is_some there)))
kept_numbered window k (first ∷ kept) there = by (first.window == window) refl there (kept_numbered window k kept)
  where
    kept_or : Option Kept → Kept
    kept_or None = first
    kept_or (Some x) = x

    by : (b : Bool) → (first.window == window) ≡ b → cond b (Some first) (kept_of kept window) ≡ Some k → (kept_of kept window ≡ Some k → (k.window == window) ≡ true) → (k.window == window) ≡ true
    by true same there rest = ap (λ x. x.window == window) (sym (ap kept_or there)) ∙ same
    by false other there rest = rest there

module _ (limits : Limits) (window : ℕ) (words : List (List ℕ)) (old : World) (k : Kept) (there : kept_of old.kept window ≡ Some k) (other : is_configure words ≡ false)
    (alone : stands_alone k.widget ≡ true) where
  -- what the window answers, by what the words of its widget come to
  does : (v : Variables) → window_does limits window words old v ≡ after (action_does limits words (k.widget, v)) (λ x. Ok (outcome (plan_of x.0) (with_widget old window x.1.0) x.1.1))
  does v =
      ap (λ o. on_kept o (beside v (silent old)) (λ k. after (called limits words (k.widget, v)) (λ x. Ok (outcome (plan_of x.0) (with_widget old window x.1.0) x.1.1)))) there
      ∙ ap (λ r. after r (λ x. Ok (outcome (plan_of x.0) (with_widget old window x.1.0) x.1.1))) (called_other limits words (k.widget, v) other)

  -- calling it is calling its widget
  abbrev Called : Result (Said × Widget) ScriptFault → Result (Said × World) ScriptFault
  Called r = options.after r (λ x. Ok (x.0, with_widget old window x.1))

  called_kept : worlds.called old window words ≡ Called (widgets.called k.widget words)
  called_kept = ap (λ o. in_world old (on_kept o (Ok (Text [], old.kept)) (λ k. in_kept window old (widgets.called k.widget words)))) there ∙ by (widgets.called k.widget words)
    where
      by : (r : Result (Said × Widget) ScriptFault) → in_world old (in_kept window old r) ≡ Called r
      by (Ok x) = refl
      by (Err fault) = refl

  called_fault : (r : Result (Said × Widget) ScriptFault) (fault : ScriptFault) → Called r ≡ Err fault → r ≡ Err fault
  called_fault (Ok x) fault e = absurd cc
  called_fault (Err other) fault e = ap (λ t. Err (fault_in t)) e
    where
      fault_in : Result (Said × World) ScriptFault → ScriptFault
      fault_in (Ok x) = other
      fault_in (Err f) = f

  pub answers_fault : (fault : ScriptFault) → worlds.called old window words ≡ Err fault → (v : Variables) → window_does limits window words old v ≡ Err (Fault fault)
  answers_fault fault e v =
      does v
      ∙ ap (λ r. after r (λ x. Ok (outcome (plan_of x.0) (with_widget old window x.1.0) x.1.1)))
      (does_fault limits k.widget words v alone fault (called_fault (widgets.called k.widget words) fault (sym called_kept ∙ e)))

  -- the widget that is left, and the world with it
  record Left (said : Said) (new : World) : Type 0 where
    pub widget : Widget
    pub called : widgets.called k.widget words ≡ Ok (said, widget)
    pub world : new ≡ with_widget old window widget

  left : (r : Result (Said × Widget) ScriptFault) (said : Said) (new : World) → widgets.called k.widget words ≡ r → Called r ≡ Ok (said, new) → Left said new
  left (Err fault) said new e t = absurd cc
  left (Ok x) said new e t = record { widget = x.1; called = e ∙ ap (λ s. Ok (s, x.1)) (ap said_in t); world = sym (ap world_in t) }
    where
      said_in : Result (Said × World) ScriptFault → Said
      said_in (Ok y) = y.0
      said_in (Err fault) = x.0

      world_in : Result (Said × World) ScriptFault → World
      world_in (Ok y) = y.1
      world_in (Err fault) = old

  module _ (said : Said) (new : World) (t : worlds.called old window words ≡ Ok (said, new)) where
    it : Left said new
    it = left (widgets.called k.widget words) said new refl (sym called_kept ∙ t)

    now_kept : kept_of new.kept window ≡ Some (windows.with_widget k it.widget)
    now_kept =
        ap (λ (w : World). kept_of w.kept window) it.world
        ∙ ap (λ o. kept_of (on_kept o old.kept (λ k. replaced window (windows.with_widget k it.widget) old.kept)) window) there
        ∙ kept_put window k (windows.with_widget k it.widget) old.kept (kept_numbered window k old.kept there) there

    pub is_kept : is_some (kept_of new.kept window) ≡ true
    is_kept = ap is_some now_kept

    module _ (kept : Kept) (e : kept_of new.kept window ≡ Some kept) (f : WellFormedWidget kept.widget) where
      same : it.widget ≡ kept.widget
      same = ap widget_in (sym now_kept ∙ e)
        where
          widget_in : Option Kept → Widget
          widget_in None = it.widget
          widget_in (Some x) = x.widget

      formed : WellFormedWidget it.widget
      formed = subst WellFormedWidget (sym same) f

      pub answers : holds_within limits kept.widget ≡ true → (v : Variables) → window_does limits window words old v ≡ Ok (outcome (plan_of said) new v)
      answers h v =
          does v
          ∙ ap (λ r. after r (λ x. Ok (outcome (plan_of x.0) (with_widget old window x.1.0) x.1.1)))
          (does_next limits k.widget words v alone said it.widget it.called formed (ap (holds_within limits) same ∙ h))
          ∙ ap (λ w. Ok (outcome (plan_of said) w v)) (sym it.world)

      pub answers_large : holds_within limits kept.widget ≡ false → (v : Variables) → window_does limits window words old v ≡ Err OverLimit
      answers_large h v =
          does v
          ∙ ap (λ r. after r (λ x. Ok (outcome (plan_of x.0) (with_widget old window x.1.0) x.1.1)))
          (does_not limits k.widget words v alone said it.widget it.called formed (ap (holds_within limits) same ∙ h))

-- ---- any window

module _ (limits : Limits) (window : ℕ) (words : List (List ℕ)) (old : World) (other : is_configure words ≡ false)
    (alone : IfSome (kept_of old.kept window) (λ k. stands_alone k.widget ≡ true)) where
  alone_of : (k : Kept) → kept_of old.kept window ≡ Some k → stands_alone k.widget ≡ true
  alone_of k there = subst (λ o. IfSome o (λ k. stands_alone k.widget ≡ true)) there alone

  -- where no window has the number, nothing is said
  called_nobody : kept_of old.kept window ≡ None → worlds.called old window words ≡ Ok (Text [], old)
  called_nobody none = ap (λ o. in_world old (on_kept o (Ok (Text [], old.kept)) (λ k. in_kept window old (widgets.called k.widget words)))) none

  does_nothing : kept_of old.kept window ≡ None → (v : Variables) → window_does limits window words old v ≡ Ok (outcome (plan_of (Text [])) old v)
  does_nothing none v =
      ap (λ o. on_kept o (beside v (silent old)) (λ k. after (called limits words (k.widget, v)) (λ x. Ok (outcome (plan_of x.0) (with_widget old window x.1.0) x.1.1)))) none

  pub fails : (why : Interrupt) → FailsSo why (value_or_fault (worlds.called old window words)) → (v : Variables) → FailsSo why (window_does limits window words old v)
  fails why h v = by (kept_of old.kept window) refl why h
    where
      fault_of : (r : Result (Said × World) ScriptFault) (fault : ScriptFault) → value_or_fault r ≡ Err (Fault fault) → r ≡ Err fault
      fault_of (Ok x) fault e = absurd cc
      fault_of (Err f) fault e = ap (λ c. Err (fault_in c)) e
        where
          fault_in : Result (Said × World) Cause → ScriptFault
          fault_in (Err (Fault g)) = g
          fault_in r = f

      not_large : (r : Result (Said × World) ScriptFault) → value_or_fault r ≡ Err OverLimit → ⊥
      not_large (Ok x) e = cc
      not_large (Err f) e = cc

      by : (o : Option Kept) → kept_of old.kept window ≡ o → (why : Interrupt) → FailsSo why (value_or_fault (worlds.called old window words)) → FailsSo why (window_does limits window words old v)
      by o there interrupt.NoMemory h = tt
      by o there interrupt.TooLarge h = absurd (not_large (worlds.called old window words) h)
      by None there (interrupt.Script fault) h = absurd (let e = sym (ap value_or_fault (called_nobody there)) ∙ h in cc)
      by (Some k) there (interrupt.Script fault) h =
          answers_fault limits window words old k there other (alone_of k there) fault (fault_of (worlds.called old window words) fault h) v

  module _ (said : Said) (new : World) (t : worlds.called old window words ≡ Ok (said, new)) where
    abbrev world_in : Result (Said × World) ScriptFault → World
    world_in (Ok x) = x.1
    world_in (Err fault) = old

    abbrev said_in : Result (Said × World) ScriptFault → Said
    said_in (Ok x) = x.0
    said_in (Err fault) = said

    nobody_still : kept_of old.kept window ≡ None → kept_of new.kept window ≡ None
    nobody_still none = ap (λ (w : World). kept_of w.kept window) (ap world_in (sym t ∙ called_nobody none)) ∙ none

    pub ends_without : kept_of new.kept window ≡ None → (v : Variables) → window_does limits window words old v ≡ Ok (outcome (plan_of said) new v)
    ends_without gone v = by (kept_of old.kept window) refl
      where
        by : (o : Option Kept) → kept_of old.kept window ≡ o → window_does limits window words old v ≡ Ok (outcome (plan_of said) new v)
        by None there =
            let same = sym (called_nobody there) ∙ t in
            does_nothing there v
            ∙ ap (λ s. Ok (outcome (plan_of s) old v)) (ap said_in same)
            ∙ ap (λ w. Ok (outcome (plan_of said) w v)) (ap world_in same)
        by (Some k) there = absurd (true≢false (sym (is_kept limits window words old k there other (alone_of k there) said new t) ∙ ap is_some gone))

    module _ (kept : Kept) (e : kept_of new.kept window ≡ Some kept) (f : WellFormedWidget kept.widget) (v : Variables) where
      pub ends : holds_within limits kept.widget ≡ true → window_does limits window words old v ≡ Ok (outcome (plan_of said) new v)
      ends h = by (kept_of old.kept window) refl
        where
          by : (o : Option Kept) → kept_of old.kept window ≡ o → window_does limits window words old v ≡ Ok (outcome (plan_of said) new v)
          by None there = absurd (true≢false (sym (ap is_some (sym (nobody_still there) ∙ e))))
          by (Some k) there = answers limits window words old k there other (alone_of k there) said new t kept e f h v

      pub passes : holds_within limits kept.widget ≡ false → window_does limits window words old v ≡ Err OverLimit
      passes h = by (kept_of old.kept window) refl
        where
          by : (o : Option Kept) → kept_of old.kept window ≡ o → window_does limits window words old v ≡ Err OverLimit
          by None there = absurd (true≢false (sym (ap is_some (sym (nobody_still there) ∙ e))))
          by (Some k) there = answers_large limits window words old k there other (alone_of k there) said new t kept e f h v

-- a value is one
pub called_of : (window : ℕ) (words : List (List ℕ)) (old : World) (said : Said) (new : World) → value_or_fault (worlds.called old window words) ≡ Ok (said, new)
    → worlds.called old window words ≡ Ok (said, new)
called_of window words old said new e = by (worlds.called old window words) e
  where
    value_in : Result (Said × World) Cause → Said × World
    value_in (Ok x) = x
    value_in (Err why) = (said, new)

    by : (r : Result (Said × World) ScriptFault) → value_or_fault r ≡ Ok (said, new) → r ≡ Ok (said, new)
    by (Ok x) e = ap (λ c. Ok (value_in c)) e
    by (Err fault) e = absurd cc
