-- A window's own command leaves the world within limits.
use Rattle.std.proofs.Common.{◌≡◌, ℕ, Bool, true, false, ◌&&◌, ◌||◌, not, List, [], ◌∷◌, length, codes, Option, Some, None, IfSome, option_and_then, Ok, IfOk, refl}
use Rattle.std.specs.List.{list_all}
use Rattle.std.proofs.lemmas.Bool.{and_parts, and_from}
use Rattle.tks_text.specs.Text.{same_text}
use Rattle.tks_text.specs.Size.{Extent}
use Rattle.tks_text.specs.declared.limits.Limits.{Limits}
use Rattle.tks_vars.specs.Variables.{Variables, global_value_of}
use Rattle.tks_tcl.specs.Cause.{after, value_or_fault}
use Rattle.tks_tcl.specs.Variables.{stores_global}
use Rattle.tks_tcl.proofs.Framing.{follows_on}
use Rattle.tks_opt.specs.Calls as calls
use Rattle.tks_opt.specs.Calls.{are_pairs}
use Rattle.tks_opt.specs.Options as options
use Rattle.tks_opt.specs.Options.{value_in, replaced}
use Rattle.tks_opt.specs.declared.name.OptionName.TheVariants as name
use Rattle.tks_opt.specs.declared.said.Said.{Said}
use Rattle.tks_button.specs.Caption as caption
use Rattle.tks_button.specs.declared.caption.Assignment.{Assignment}
use Rattle.tks_entry.specs.Commands as entry
use Rattle.tks_listbox.specs.Commands as listbox
use Rattle.tks_lines.specs.Commands as lines
use Rattle.tks_limits.specs.Within.{fits, may_hold, texts_fit, content_fits, widget_fits, tags_fit, kept_fits}
use Rattle.tks_state.specs.Links.{some_name, link_of, text_of, with_text, linked, seen, switch_value, assigned, first_assigned, global_if, or_empty}
use Rattle.tks_state.specs.Widget as widgets
use Rattle.tks_state.specs.Widget.{options_of}
use Rattle.tks_state.specs.Windows as windows
use Rattle.tks_state.specs.Windows.{kept_of, on_kept}
use Rattle.tks_state.specs.World.{World, with_widget}
use Rattle.tks_state.specs.declared.kept.Kept.{Kept}
use Rattle.tks_state.specs.declared.widget.Widget.{Widget}
use Rattle.tks_state.specs.declared.widget.Widget.TheVariants as widget
use Rattle.tks_cmd.specs.Changes.{Outcome, outcome, plan_of, beside, silent}
use Rattle.tks_cmd.specs.Contents.{holds_within}
use Rattle.tks_cmd.specs.Links.{Linked, is_lacking, global_set, made_global, told, stored, settled, assigned_to, first_assigned_to, first_value}
use Rattle.tks_cmd.specs.Widgets.{window_does, sets_link, configured_pair, configured, told_words, action_does, configure_does, called}
use Rattle.tks_keeping.specs.Fitting.{WorldFits}
use Rattle.tks_keeping.proofs.Lists.{one_of, one_where, AllSo}
use Rattle.tks_keeping.proofs.Texts.{value_so, TextFits, empty_fits, TextsFit, first_word, other_words}
use Rattle.tks_keeping.proofs.Parts.{kept_found, kept_changed, kept_in, with_kept_fits}
use Rattle.tks_keeping.proofs.Variables.{VariablesFit, ChangedFits, stores_global_fit}
use Rattle.tks_keeping.proofs.Options as option
use Rattle.tks_keeping.proofs.Options.{OptionsFit, is_asked, link_asked}
use Rattle.tks_keeping.proofs.Caption as captions
use Rattle.tks_keeping.proofs.Caption.{VariableFits}
use Rattle.tks_keeping.proofs.Entry as entries
use Rattle.tks_keeping.proofs.Listbox as listboxes
use Rattle.tks_keeping.proofs.Lines as texts
use Rattle.tks_keeping.proofs.Globals.{shown_fits}

-- ---- widgets

module _ (limits : Limits) where
  -- the texts of what a widget holds fit, where there may be more of them
  abbrev pub MembersFit : Widget → Type 0
  MembersFit (widget.Frame t) = Unit {0}
  MembersFit (widget.Caption t) = Unit {0}
  MembersFit (widget.Entry e) = Unit {0}
  MembersFit (widget.Listbox l) = AllSo (listboxes.item_fits limits) l.items
  MembersFit (widget.Text t) = AllSo (texts.tag_fits limits) t.tags × AllSo (texts.mark_fits limits) t.marks

  module _ (all : Bool) where
    -- what a command leaves of a widget: what its options say fits, and, where all is asked, what it holds
    pub record LooselyFits (v : Widget) : Type 0 where
      pub options : OptionsFit limits all (options_of v)
      pub members : all ≡ true → MembersFit v

    -- a widget as it stands: where it isn't asked of all options, neither is it of what it holds
    pub record Stands (v : Widget) : Type 0 where
      pub options : OptionsFit limits all (options_of v)
      pub content : all ≡ true → content_fits limits v ≡ true
      pub text : TextFits limits (text_of v)

    -- it holds what it holds
    members_of : (v : Widget) → content_fits limits v ≡ true → MembersFit v
    members_of (widget.Frame t) h = tt
    members_of (widget.Caption t) h = tt
    members_of (widget.Entry e) h = tt
    members_of (widget.Listbox l) h = (and_parts (may_hold limits (length l.items)) _ h).1
    members_of (widget.Text t) h =
        let named = and_parts (list_all (texts.tag_fits limits) t.tags) _ (and_parts (may_hold limits (length t.tags)) _ (and_parts (fits limits t.text) _ h).1).1 in
        (named.0, (and_parts (may_hold limits (length t.marks)) _ named.1).1)

    -- a widget that stands fits loosely
    loosely : (v : Widget) → Stands v → LooselyFits v
    loosely v h = record { options = h.options; members = λ is. members_of v (h.content is) }

    -- with the test of what it holds, and of its text, it holds what it may
    content_of : (v : Widget) → MembersFit v → TextFits limits (text_of v) → holds_within limits v ≡ true → content_fits limits v ≡ true
    unfolding text_of holds_within
    content_of (widget.Frame t) h text holds = refl
    content_of (widget.Caption t) h text holds = refl
    content_of (widget.Entry e) h text holds = text
    content_of (widget.Listbox l) h text holds = and_from (may_hold limits (length l.items)) _ holds h
    content_of (widget.Text t) h text holds =
        let within = and_parts (fits limits t.text) _ holds in
        let counts = and_parts (may_hold limits (length t.tags)) (may_hold limits (length t.marks)) within.1 in
        and_from (fits limits t.text) _ within.0
        (and_from (may_hold limits (length t.tags)) _ counts.0 (and_from (list_all (texts.tag_fits limits) t.tags) _ h.0 (and_from (may_hold limits (length t.marks)) _ counts.1 h.1)))

    -- what a command leaves of a widget stands, where it passes the test of what is settled
    stands_by : (v : Widget) → LooselyFits v → (fits limits (text_of v) && holds_within limits v) ≡ true → Stands v
    stands_by v h tests =
        let both = and_parts (fits limits (text_of v)) (holds_within limits v) tests in
        record { options = h.options; content = λ is. content_of v (h.members is) both.0 both.1; text = both.0 }

    -- ---- with another text

    other_options : (text : List ℕ) (v : Widget) → TextFits limits text → OptionsFit limits all (options_of v) → OptionsFit limits all (options_of (with_text text v))
    unfolding with_text
    other_options text (widget.Frame t) f h = h
    other_options text (widget.Caption t) f h = option.replaced_fit limits all t.values name.Text text f h
    other_options text (widget.Entry e) f h = h
    other_options text (widget.Listbox l) f h = h
    other_options text (widget.Text t) f h = h

    other_members : (text : List ℕ) (v : Widget) → MembersFit v → MembersFit (with_text text v)
    unfolding with_text
    other_members text (widget.Frame t) h = h
    other_members text (widget.Caption t) h = h
    other_members text (widget.Entry e) h = h
    other_members text (widget.Listbox l) h = h
    other_members text (widget.Text t) h = h

    other_content : (text : List ℕ) (v : Widget) → TextFits limits text → content_fits limits v ≡ true → content_fits limits (with_text text v) ≡ true
    unfolding with_text
    other_content text (widget.Frame t) f h = h
    other_content text (widget.Caption t) f h = h
    other_content text (widget.Entry e) f h = f
    other_content text (widget.Listbox l) f h = h
    other_content text (widget.Text t) f h = h

    other_text : (text : List ℕ) (v : Widget) → TextFits limits text → TextFits limits (text_of (with_text text v))
    unfolding with_text text_of
    other_text text (widget.Frame t) f = empty_fits limits
    other_text text (widget.Caption t) f = option.said_again_fits limits all t.values name.Text text f
    other_text text (widget.Entry e) f = f
    other_text text (widget.Listbox l) f = empty_fits limits
    other_text text (widget.Text t) f = empty_fits limits

    with_text_stands : (text : List ℕ) (v : Widget) → TextFits limits text → Stands v → Stands (with_text text v)
    with_text_stands text v f h =
        record { options = other_options text v f h.options; content = λ is. other_content text v f (h.content is); text = other_text text v f }

    with_text_fits : (text : List ℕ) (v : Widget) → TextFits limits text → LooselyFits v → LooselyFits (with_text text v)
    with_text_fits text v f h = record { options = other_options text v f h.options; members = λ is. other_members text v (h.members is) }

    -- a widget as it is seen, where globals fit
    seen_fits : (v : Variables) (w : Widget) → VariablesFit limits v → LooselyFits w → LooselyFits (seen v w)
    unfolding seen
    seen_fits v w g h = by (link_of w)
      where
        by : (o : Option (List ℕ)) → LooselyFits (linked v o w)
        by None = h
        by (Some name) = with_text_fits (or_empty (global_if v name)) w (shown_fits limits v name g) h

    -- ---- options

    configured_fits : (w : Widget) (pairs : List (List ℕ)) → TextsFit limits pairs → LooselyFits w → IfOk (widgets.configured w pairs) LooselyFits
    configured_fits (widget.Frame t) pairs f h =
        option.follows_on (OptionsFit limits all) LooselyFits (options.configured t pairs) _ (option.configured_fit limits all t pairs f h.options)
        (λ u k. record { options = k; members = h.members })
    configured_fits (widget.Caption t) pairs f h =
        option.follows_on (OptionsFit limits all) LooselyFits (options.configured t pairs) _ (option.configured_fit limits all t pairs f h.options)
        (λ u k. record { options = k; members = h.members })
    configured_fits (widget.Entry e) pairs f h =
        option.follows_on (OptionsFit limits all) LooselyFits (options.configured e.options pairs) _ (option.configured_fit limits all e.options pairs f h.options)
        (λ u k. record { options = k; members = h.members })
    configured_fits (widget.Listbox l) pairs f h =
        option.follows_on (OptionsFit limits all) LooselyFits (options.configured l.options pairs) _ (option.configured_fit limits all l.options pairs f h.options)
        (λ u k. record { options = k; members = h.members })
    configured_fits (widget.Text t) pairs f h =
        option.follows_on (OptionsFit limits all) LooselyFits (options.configured t.options pairs) _ (option.configured_fit limits all t.options pairs f h.options)
        (λ u k. record { options = k; members = h.members })

    -- ---- names of globals

    -- the name of the global that a widget is linked to fits
    link_fits : (w : Widget) → OptionsFit limits all (options_of w) → IfSome (link_of w) (TextFits limits)
    unfolding link_of
    link_fits w h = by (value_in (options_of w).values name.TextVariable) (option.value_in_fits limits all (options_of w).values name.TextVariable (link_asked all) h)
      where
        by : (o : Option (List ℕ)) → IfSome o (TextFits limits) → IfSome (option_and_then some_name o) (TextFits limits)
        by None k = tt
        by (Some []) k = tt
        by (Some (c ∷ rest)) k = k

    assigned_fits : (v : Variables) (w : Widget) (words : List (List ℕ)) → OptionsFit limits all (options_of w) → IfSome (assigned v w words) (VariableFits limits all)
    unfolding assigned
    assigned_fits v (widget.Frame t) words h = tt
    assigned_fits v (widget.Caption t) words h = captions.assigned_fits limits all t words (switch_value v t) h
    assigned_fits v (widget.Entry e) words h = tt
    assigned_fits v (widget.Listbox l) words h = tt
    assigned_fits v (widget.Text t) words h = tt

    first_assigned_fits : (w : Widget) → OptionsFit limits all (options_of w) → IfSome (first_assigned w) (VariableFits limits all)
    unfolding first_assigned
    first_assigned_fits (widget.Frame t) h = tt
    first_assigned_fits (widget.Caption t) h = captions.first_assigned_fits limits all t h
    first_assigned_fits (widget.Entry e) h = tt
    first_assigned_fits (widget.Listbox l) h = tt
    first_assigned_fits (widget.Text t) h = tt

    -- ---- globals that widgets set

    -- a widget that stands, and globals that fit
    pub record Sound (x : Linked) : Type 0 where
      pub widget : Stands x.0
      pub variables : VariablesFit limits x.1

    set_fits : (name text : List ℕ) (v : Variables) → TextFits limits name → VariablesFit limits v → IfOk (global_set limits name text v) (VariablesFit limits)
    set_fits name text v n h =
        follows_on (ChangedFits limits) (VariablesFit limits) (stores_global limits name v text) _ (stores_global_fit limits name n v h text) (λ x k. k.1)

    made_fits : (name text : List ℕ) (v : Variables) → TextFits limits name → VariablesFit limits v → IfOk (made_global limits name text v) (VariablesFit limits)
    made_fits name text v n h = one_of (VariablesFit limits) (is_lacking (global_value_of v name)) _ _ (set_fits name text v n h) h

    told_fits : (sets : Bool) (link : Option (List ℕ)) (name before now : List ℕ) (v : Variables) → TextFits limits name → VariablesFit limits v
        → IfOk (told limits sets link name before now v) (VariablesFit limits)
    told_fits sets None name before now v n h = made_fits name now v n h
    told_fits sets (Some link) name before now v n h =
        one_of (VariablesFit limits) (sets || not (same_text link name)) _ _ (made_fits name now v n h) (one_of (VariablesFit limits) (same_text before now) _ _ h (set_fits name now v n h))

    stored_fits : (sets : Bool) (link : Option (List ℕ)) (w next : Widget) (v : Variables) → IfSome link (TextFits limits) → TextFits limits (text_of w) → Stands next → VariablesFit limits v
        → IfOk (stored limits sets link w next v) Sound
    stored_fits sets None w next v n text s h = record { widget = s; variables = h }
    stored_fits sets (Some name) w next v n text s h =
        follows_on (VariablesFit limits) Sound (told limits sets (link_of w) name (text_of (seen v w)) (text_of next) v) _ (told_fits sets (link_of w) name (text_of (seen v w)) (text_of next) v n h)
        (λ u k. record { widget = with_text_stands (text_of w) next text s; variables = k })

    settled_fits : (sets : Bool) (w next : Widget) (v : Variables) → Stands w → LooselyFits next → VariablesFit limits v → IfOk (settled limits sets w next v) Sound
    unfolding settled
    settled_fits sets w next v s l h =
        one_where Sound (fits limits (text_of next) && holds_within limits next) _ _
        (λ tests. stored_fits sets (link_of next) w next v (link_fits next l.options) s.text (stands_by next l tests) h) tt

    pair_fits : (pair : List (List ℕ)) (x : Linked) → TextsFit limits pair → Sound x → IfOk (configured_pair limits pair x) Sound
    pair_fits pair x f h =
        follows_on LooselyFits Sound (value_or_fault (widgets.configured (seen x.1 x.0) pair)) _
        (value_so LooselyFits _ (configured_fits (seen x.1 x.0) pair f (seen_fits x.1 x.0 h.variables (loosely x.0 h.widget))))
        (λ next l. settled_fits (sets_link pair) x.0 next x.1 h.widget l h.variables)

    -- options and values in turn, which fit
    pub pairs_fit : (pairs : List (List ℕ)) (x : Linked) → TextsFit limits pairs → Sound x → IfOk (configured limits pairs x) Sound
    unfolding configured
    pairs_fit [] x f h = h
    pairs_fit (name ∷ []) x f h = h
    pairs_fit (name ∷ (value ∷ pairs)) x f h =
        let rest = other_words limits name (value ∷ pairs) f in
        let pair = and_from (fits limits name) _ (first_word limits name (value ∷ pairs) f) (and_from (fits limits value) true (first_word limits value pairs rest) refl) in
        follows_on Sound Sound (configured_pair limits (name ∷ value ∷ []) x) (configured limits pairs) (pair_fits (name ∷ value ∷ []) x pair h)
        (λ y k. pairs_fit pairs y (other_words limits value pairs rest) k)

    assigned_to_fits : (a : Option Assignment) (v : Variables) → IfSome a (VariableFits limits all) → VariablesFit limits v → IfOk (assigned_to limits a v) (VariablesFit limits)
    assigned_to_fits None v n h = h
    assigned_to_fits (Some a) v n h = set_fits a.variable a.value v n h

    first_assigned_to_fits : (a : Option Assignment) (v : Variables) → IfSome a (VariableFits limits all) → VariablesFit limits v → IfOk (first_assigned_to limits a v) (VariablesFit limits)
    first_assigned_to_fits None v n h = h
    first_assigned_to_fits (Some a) v n h = made_fits a.variable a.value v n h

    -- what a checkbutton that is made gives its variable
    pub first_value_fits : (x : Linked) → Sound x → IfOk (first_value limits x) Sound
    unfolding first_value
    first_value_fits x h =
        follows_on (VariablesFit limits) Sound (first_assigned_to limits (first_assigned x.0) x.1) _
        (first_assigned_to_fits (first_assigned x.0) x.1 (first_assigned_fits x.0 h.widget.options) h.variables) (λ v k. record { widget = h.widget; variables = k })

-- ---- a window's own command

module _ (limits : Limits) where
  -- what is left beside what a widget said
  abbrev SaidFits : Said × Widget → Type 0
  SaidFits x = LooselyFits limits true x.1

  widget_called_fits : (w : Widget) (words : List (List ℕ)) → TextsFit limits words → LooselyFits limits true w → IfOk (widgets.called w words) SaidFits
  widget_called_fits (widget.Frame t) words f h =
      option.follows_on (option.CalledFits limits true) SaidFits (calls.called t words) _ (option.called_fits limits true t words f h.options) (λ x k. record { options = k; members = λ is. tt })
  widget_called_fits (widget.Caption t) words f h =
      option.follows_on (option.CalledFits limits true) SaidFits (caption.called t words) _ (captions.called_fits limits true t words f h.options) (λ x k. record { options = k; members = λ is. tt })
  widget_called_fits (widget.Entry e) words f h =
      option.follows_on (entries.CalledFits limits) SaidFits (entry.called e words) _ (entries.called_fits limits e words f h.options) (λ x k. record { options = k; members = λ is. tt })
  widget_called_fits (widget.Listbox l) words f h =
      option.follows_on (listboxes.CalledFits limits) SaidFits (listbox.called l words) _ (listboxes.called_fits limits l words f (record { options = h.options; items = h.members refl }))
      (λ x k. record { options = k.options; members = λ is. k.items })
  widget_called_fits (widget.Text t) words f h =
      option.follows_on (texts.CalledFits limits) SaidFits (lines.called t words) _
      (texts.called_fits limits t words f (record { options = h.options; tags = (h.members refl).0; marks = (h.members refl).1 }))
      (λ x k. record { options = k.options; members = λ is. (k.tags, k.marks) })

  abbrev BothSound : Said × Linked → Type 0
  BothSound x = Sound limits true x.1

  told_words_fit : (words : List (List ℕ)) (x : Linked) → TextsFit limits words → Sound limits true x → IfOk (told_words limits words x) BothSound
  unfolding told_words
  told_words_fit words x f h =
      follows_on SaidFits BothSound (value_or_fault (widgets.called (seen x.1 x.0) words)) _
      (value_so SaidFits _ (widget_called_fits (seen x.1 x.0) words f (seen_fits limits true x.1 x.0 h.variables (loosely limits true x.0 h.widget)))) (λ y l.
      follows_on (Sound limits true) BothSound (settled limits false x.0 y.1 x.1) _ (settled_fits limits true false x.0 y.1 x.1 h.widget l h.variables) (λ z k. k))

  action_fits : (words : List (List ℕ)) (x : Linked) → TextsFit limits words → Sound limits true x → IfOk (action_does limits words x) BothSound
  unfolding action_does
  action_fits words x f h =
      follows_on (VariablesFit limits) BothSound (assigned_to limits (assigned x.1 x.0 words) x.1) _
      (assigned_to_fits limits true (assigned x.1 x.0 words) x.1 (assigned_fits limits true x.1 x.0 words h.widget.options) h.variables)
      (λ v k. told_words_fit words (x.0, v) f (record { widget = h.widget; variables = k }))

  configure_fits : (path : List ℕ) (pairs : List (List ℕ)) (x : Linked) → TextsFit limits pairs → Sound limits true x → IfOk (configure_does limits path pairs x) BothSound
  configure_fits path pairs x f h =
      one_of BothSound (are_pairs pairs) _ _ (follows_on (Sound limits true) BothSound (configured limits pairs x) _ (pairs_fit limits true pairs x f h) (λ y k. k)) tt

  called_fits : (words : List (List ℕ)) (x : Linked) → TextsFit limits words → Sound limits true x → IfOk (called limits words x) BothSound
  called_fits [] x f h = action_fits [] x f h
  called_fits (path ∷ []) x f h = action_fits (path ∷ []) x f h
  called_fits (path ∷ (name ∷ words)) x f h =
      let rest = other_words limits name words (other_words limits path (name ∷ words) f) in
      one_of BothSound (same_text name (codes "configure")) _ _ (configure_fits path words x rest h) (action_fits (path ∷ name ∷ words) x f h)

  -- ---- in the world

  text_fits : (v : Widget) → widget_fits limits v ≡ true → TextFits limits (text_of v)
  unfolding text_of
  text_fits (widget.Frame t) h = empty_fits limits
  text_fits (widget.Caption t) h = option.said_by_fits limits true t name.Text refl (option.all_fit limits t (and_parts _ _ h).0)
  text_fits (widget.Entry e) h = (and_parts (texts_fit limits (options.values_in_order e.options)) (fits limits e.text) h).1
  text_fits (widget.Listbox l) h = empty_fits limits
  text_fits (widget.Text t) h = empty_fits limits

  -- a widget that fits stands, where all is asked of it
  stands : (v : Widget) → widget_fits limits v ≡ true → Stands limits true v
  stands v h =
      let both = and_parts (texts_fit limits (options.values_in_order (options_of v))) (content_fits limits v) h in
      record { options = option.all_fit limits (options_of v) both.0; content = λ is. both.1; text = text_fits v h }

  -- and one that stands so fits
  fits_again : (v : Widget) → Stands limits true v → widget_fits limits v ≡ true
  fits_again v h = and_from (texts_fit limits (options.values_in_order (options_of v))) (content_fits limits v) (option.values_fit limits (options_of v) h.options) (h.content refl)

  module _ (grid : Extent) where
    -- what a command leaves of the world and of the variables beside it fits
    abbrev pub OutcomeFits : Outcome → Type 0
    OutcomeFits x = WorldFits limits grid x.world × VariablesFit limits x.variables

    -- a window that is another widget, which fits
    widget_kept : (w : World) (number : ℕ) (v : Widget) → WorldFits limits grid w → widget_fits limits v ≡ true → WorldFits limits grid (with_widget w number v)
    widget_kept w number v h f =
        with_kept_fits limits grid w h _ (kept_changed limits w.kept number (λ k. windows.with_widget k v)
        (λ k is. and_from (widget_fits limits v) (tags_fit limits k.tags) f (and_parts (widget_fits limits k.widget) (tags_fit limits k.tags) is).1) (kept_in limits grid w h))

    -- a window's own command, with words that fit
    pub window_fits : (number : ℕ) (words : List (List ℕ)) (w : World) (v : Variables) → TextsFit limits words → WorldFits limits grid w → VariablesFit limits v
        → IfOk (window_does limits number words w v) OutcomeFits
    window_fits number words w v f h g = by (kept_of w.kept number) (kept_found limits w.kept number (kept_in limits grid w h))
      where
        by : (o : Option Kept) → IfSome o (λ k. kept_fits limits k ≡ true)
            → IfOk (on_kept o (beside v (silent w)) (λ k. after (called limits words (k.widget, v)) (λ x. Ok (outcome (plan_of x.0) (with_widget w number x.1.0) x.1.1)))) OutcomeFits
        by None k = (h, g)
        by (Some k) is =
            follows_on BothSound OutcomeFits (called limits words (k.widget, v)) _
            (called_fits words (k.widget, v) f (record { widget = stands k.widget (and_parts (widget_fits limits k.widget) (tags_fit limits k.tags) is).0; variables = g }))
            (λ x s. (widget_kept w number x.1.0 h (fits_again x.1.0 s.widget), s.variables))
