-- Making, destroying and packing windows leaves the world within limits.
use Rattle.std.proofs.Common.{◌≡◌, ℕ, Bool, true, false, true≢false, ◌&&◌, not, ◌==◌, List, [], ◌∷◌, ◌++◌, map, take, drop, length, filter, codes, Option, Some, None, IfSome, is_some, Result, Ok, Err, IfOk, refl, sym, arith, length-drop, ◌-◌}
use Rattle.std.specs.Prelude.{nat_lt}
use Rattle.std.specs.List.{list_all, suffix_len}
use Rattle.std.proofs.lemmas.Bool.{and_parts, and_from}
use Rattle.tks_text.specs.Text.{same_text, begins_dot}
use Rattle.tks_text.specs.Truth.{truth_of_word}
use Rattle.tks_text.specs.declared.class.Class.{Class}
use Rattle.tks_text.specs.declared.class.Class.TheVariants as class
use Rattle.tks_text.specs.Size.{Extent}
use Rattle.tks_text.specs.declared.limits.Limits.{Limits}
use Rattle.tks_vars.specs.Variables.{Variables}
use Rattle.tks_tcl.specs.Cause.{Cause, OverLimit, value_or_fault}
use Rattle.tks_tcl.proofs.Framing.{follows, follows_on}
use Rattle.tks_opt.specs.Options as options
use Rattle.tks_opt.specs.Options.{first_options}
use Rattle.tks_opt.specs.Table.{options_of, first_value, last_part}
use Rattle.tks_opt.specs.declared.name.OptionName.{OptionName}
use Rattle.tks_opt.specs.declared.name.OptionName.TheVariants as name
use Rattle.tks_pack.specs.Packing as packing
use Rattle.tks_pack.specs.Packing.{forgotten}
use Rattle.tks_tree.specs.Path.{is_within}
use Rattle.tks_tree.specs.Windows as tree
use Rattle.tks_tree.specs.Windows.{Window, Refusal, free_path, of_path, of_number, on_window}
use Rattle.tks_queue.specs.declared.queued.Queued.{Queued}
use Rattle.tks_limits.specs.Within.{fits, may_hold, texts_fit, widget_fits, kept_fits, paths_fit, binding_fits, event_fits, events_fit}
use Rattle.tks_state.specs.Events.{is_held}
use Rattle.tks_state.specs.EventLoop.{is_for}
use Rattle.tks_state.specs.Links.{text_of}
use Rattle.tks_state.specs.Widget as widgets
use Rattle.tks_state.specs.Windows as windows
use Rattle.tks_state.specs.Windows.{kept_of, on_kept, with_packing, new_kept, forgotten_at, packed_at}
use Rattle.tks_state.specs.World as world
use Rattle.tks_state.specs.World.{World, windows_of, with_windows, with_left, packed, unpacked, with_propagation}
use Rattle.tks_state.specs.declared.kept.Kept.{Kept}
use Rattle.tks_state.specs.declared.widget.Widget.{Widget}
use Rattle.tks_cmd.specs.Changes.{creation}
use Rattle.tks_cmd.specs.Links as links
use Rattle.tks_cmd.specs.Links.{Linked}
use Rattle.tks_cmd.specs.Packing as pack
use Rattle.tks_cmd.specs.Packing.{window_of, contents_of, options_read, packed_each, packed_all, unpacked_all, truth_read, window_count, pack_does}
use Rattle.tks_cmd.specs.Widgets.{configured}
use Rattle.tks_cmd.specs.Windows.{first_widget, new_widget, added, room, placed, made, make_does, are_paired, is_other, without_path, without_all, destroy_does}
use Rattle.tks_cmd.specs.declared.windows.WindowKind.{WindowKind}
use Rattle.tks_cmd.specs.declared.windows.WindowKind.TheVariants as kind
use Rattle.tks_keeping.specs.Fitting.{WorldFits}
use Rattle.tks_keeping.proofs.Lists.{one_of, one_where, pushed_so, filtered_so, AllSo}
use Rattle.tks_keeping.proofs.Texts.{whatever, value_so, no_longer, empty_fits, one_more_fits, filtered_fit, TextFits, TextsFit}
use Rattle.tks_keeping.proofs.Variables.{VariablesFit}
use Rattle.tks_keeping.proofs.Parts.{LeftFits, KeptFit, kept_found, kept_changed, kept_replaced, paths_of, kept_in, events_opened, events_closed}
use Rattle.tks_keeping.proofs.Options as option
use Rattle.tks_keeping.proofs.Options.{OptionsFit, says_fitting, names_global}
use Rattle.tks_keeping.proofs.Widgets.{OutcomeFits, Stands, Sound, pairs_fit, first_value_fits}

-- ---- what follows on a refusal of a window

-- what follows has P, where what it follows on has Q
after_refusal : {X Y : Type 0} (Q : X → Type 0) (P : Y → Type 0) (r : Result X Refusal) (next : X → Result Y Refusal) → IfOk r Q → ((x : X) → Q x → IfOk (next x) P)
    → IfOk (tree.after r next) P
after_refusal Q P (Ok x) next q h = h x q
after_refusal Q P (Err why) next q h = tt

-- a refusal is an error or a limit of the command
creation_so : {X : Type 0} (P : X → Type 0) (r : Result X Refusal) → IfOk r P → IfOk (creation r) P
creation_so P (Ok x) h = h
creation_so P (Err (tree.Fault fault)) h = tt
creation_so P (Err tree.OutOfNumbers) h = tt

module _ (limits : Limits) (grid : Extent) where
  -- the windows of a world fit
  abbrev PathsFit : List Window → Type 0
  PathsFit ws = paths_fit limits ws ≡ true

  -- a world with other windows, which fit
  with_windows_fit : (w : World) (x : windows.Windows) → WorldFits limits grid w → PathsFit x.tree.windows → KeptFit limits x.kept → WorldFits limits grid (with_windows w x)
  with_windows_fit w x h p k =
      record { on_grid = h.on_grid; windows = and_from (paths_fit limits x.tree.windows) (list_all (kept_fits limits) x.kept) p k; events = h.events; faults = h.faults }

  -- ---- making a window

  -- what an option says at first fits, where it names a global
  first_says : (c : Class) (path : List ℕ) (o : OptionName) → TextFits limits path → says_fitting limits false (o, first_value c path o) ≡ true
  first_says c path name.Background f = refl
  first_says c path name.Foreground f = refl
  first_says c path name.Font f = refl
  first_says c path name.Relief f = refl
  first_says c path name.BorderWidth f = refl
  first_says c path name.TakeFocus f = refl
  first_says c path name.Text f = refl
  first_says c path name.TextVariable f = empty_fits limits
  first_says c path name.Width f = refl
  first_says c path name.Height f = refl
  first_says c path name.Anchor f = refl
  first_says c path name.Command f = refl
  first_says c path name.State f = refl
  first_says c path name.Variable f =
      let count = length path - suffix_len (λ b. not (b == 46)) path in
      let shorter = length-drop count path in
      no_longer limits.text (length path) (length (last_part path)) (omega (arith, shorter)) f
  first_says c path name.OnValue f = refl
  first_says c path name.OffValue f = refl
  first_says c path name.Show f = refl
  first_says c path name.SelectMode f = refl
  first_says c path name.Wrap f = refl

  first_say : (c : Class) (path : List ℕ) (os : List OptionName) → TextFits limits path → AllSo (says_fitting limits false) (map (λ o. (o, first_value c path o)) os)
  first_say c path [] f = refl
  first_say c path (o ∷ os) f = and_from (says_fitting limits false (o, first_value c path o)) _ (first_says c path o f) (first_say c path os f)

  first_options_of : (k : WindowKind) (path : List ℕ) → TextFits limits path → OptionsFit limits false (widgets.options_of (first_widget k path))
  first_options_of kind.Frame path f = first_say class.Frame path (options_of class.Frame) f
  first_options_of kind.Label path f = first_say class.Label path (options_of class.Label) f
  first_options_of kind.Button path f = first_say class.Button path (options_of class.Button) f
  first_options_of kind.Checkbutton path f = first_say class.Checkbutton path (options_of class.Checkbutton) f
  first_options_of kind.Entry path f = first_say class.Entry path (options_of class.Entry) f
  first_options_of kind.Listbox path f = first_say class.Listbox path (options_of class.Listbox) f
  first_options_of kind.Text path f = first_say class.Text path (options_of class.Text) f

  first_text_of : (k : WindowKind) (path : List ℕ) → TextFits limits (text_of (first_widget k path))
  unfolding text_of
  first_text_of kind.Frame path = empty_fits limits
  first_text_of kind.Label path = empty_fits limits
  first_text_of kind.Button path = empty_fits limits
  first_text_of kind.Checkbutton path = empty_fits limits
  first_text_of kind.Entry path = empty_fits limits
  first_text_of kind.Listbox path = empty_fits limits
  first_text_of kind.Text path = empty_fits limits

  first_stands : (k : WindowKind) (path : List ℕ) → TextFits limits path → Stands limits false (first_widget k path)
  first_stands k path f = record { options = first_options_of k path f; content = λ is. absurd (true≢false (sym is)); text = first_text_of k path }

  -- the globals beside a new widget fit
  new_fits : (k : WindowKind) (path : List ℕ) (options : List (List ℕ)) (v : Variables) → TextFits limits path → TextsFit limits options → VariablesFit limits v
      → IfOk (new_widget limits k path options v) (Sound limits false)
  unfolding new_widget
  new_fits k path options v f o g =
      follows_on (Sound limits false) (Sound limits false) (configured limits options (first_widget k path, v)) (links.first_value limits)
      (pairs_fit limits false options (first_widget k path, v) o (record { widget = first_stands k path f; variables = g })) (first_value_fits limits false)

  -- there is room where it is asked
  abbrev HasRoom : World → Widget → Type 0
  HasRoom w v = (nat_lt (length w.tree.windows) limits.items && widget_fits limits v) ≡ true

  room_so : (w : World) (v : Widget) → IfOk (room limits w v) (λ _. HasRoom w v)
  room_so w v = one_where {X = Unit {0}} {E = Cause} (λ _. HasRoom w v) (nat_lt (length w.tree.windows) limits.items && widget_fits limits v) (Ok tt) (Err OverLimit) (λ is. is) tt

  -- windows with one more
  more_windows_fit : (ws : List Window) (new : Window) → PathsFit ws → nat_lt (length ws) limits.items ≡ true → TextFits limits new.path → PathsFit (ws ++ new ∷ [])
  more_windows_fit ws new h room f =
      let both = and_parts (may_hold limits (length ws)) _ h in
      and_from (may_hold limits (length (ws ++ new ∷ []))) _ (one_more_fits limits ws new room) (pushed_so (λ (x : Window). fits limits x.path) ws new both.1 f)

  tree_fits : (t : tree.Windows) (path : List ℕ) (c : Class) → PathsFit t.windows → nat_lt (length t.windows) limits.items ≡ true → TextFits limits path
      → IfOk (tree.created t path c) (λ made. PathsFit made.1.windows)
  tree_fits t path c h less f =
      after_refusal (λ _. Unit {0}) (λ made. PathsFit made.1.windows) (free_path t.windows path) _ (whatever (λ _. Unit {0}) (free_path t.windows path) (λ _. tt)) (λ _ _.
      one_of (λ made. PathsFit made.1.windows) (nat_lt t.next tree.max_number) _ _ (more_windows_fit t.windows (record { number = t.next; path = path; class = c }) h less f) tt)

  abbrev WindowsFit : windows.Windows → Type 0
  WindowsFit x = PathsFit x.tree.windows × KeptFit limits x.kept

  created_fits : (w : World) (path : List ℕ) (v : Widget) → WorldFits limits grid w → HasRoom w v → TextFits limits path → IfOk (windows.created (windows_of w) path v) (λ made. WindowsFit made.1)
  created_fits w path v h has f =
      let both = and_parts (nat_lt (length w.tree.windows) limits.items) (widget_fits limits v) has in
      let class = widgets.class_of v in
      after_refusal (λ made. PathsFit made.1.windows) (λ made. WindowsFit made.1) (tree.created w.tree path class) _ (tree_fits w.tree path class (paths_of limits grid w h) both.0 f) (λ made p.
      (p, pushed_so (kept_fits limits) w.kept (new_kept made.0 v) (kept_in limits grid w h) (and_from (widget_fits limits v) true both.1 refl)))

  added_fits : (w : World) (path : List ℕ) (v : Widget) → WorldFits limits grid w → HasRoom w v → TextFits limits path → IfOk (added w path v) (WorldFits limits grid)
  added_fits w path v h has f =
      follows_on (LeftFits limits grid) (WorldFits limits grid) (creation (world.with_window w path v)) _
      (creation_so (LeftFits limits grid) (world.with_window w path v)
      (after_refusal (λ made. WindowsFit made.1) (LeftFits limits grid) (windows.created (windows_of w) path v) _ (created_fits w path v h has f) (λ made k. with_windows_fit w made.1 h k.0 k.1)))
      (λ x k. k)

  placed_fits : (w : World) (path : List ℕ) (v : Widget) → WorldFits limits grid w → TextFits limits path → IfOk (placed limits w path v) (WorldFits limits grid)
  unfolding placed
  placed_fits w path v h f = follows_on (λ _. HasRoom w v) (WorldFits limits grid) (room limits w v) _ (room_so w v) (λ _ has. added_fits w path v h has f)

  made_fits : (k : WindowKind) (path : List ℕ) (options : List (List ℕ)) (w : World) (v : Variables) → TextFits limits path → TextsFit limits options
      → WorldFits limits grid w → VariablesFit limits v → IfOk (made limits k path options w v) (OutcomeFits limits grid)
  made_fits k path options w v f o h g =
      follows (OutcomeFits limits grid) (creation (free_path w.tree.windows path)) _ (λ _.
      follows_on (Sound limits false) (OutcomeFits limits grid) (new_widget limits k path options v) _ (new_fits k path options v f o g) (λ x s.
      follows_on (WorldFits limits grid) (OutcomeFits limits grid) (placed limits w path x.0) _ (placed_fits w path x.0 h f) (λ u k. (k, s.variables))))

  -- frame, label and so on, with words that fit
  pub make_fits : (k : WindowKind) (command : List ℕ) (words : List (List ℕ)) (w : World) (v : Variables) → TextsFit limits words → WorldFits limits grid w
      → VariablesFit limits v → IfOk (make_does limits k command words w v) (OutcomeFits limits grid)
  make_fits k command [] w v f h g = tt
  make_fits k command (path ∷ options) w v f h g =
      let both = and_parts (fits limits path) (texts_fit limits options) f in
      one_of (OutcomeFits limits grid) (are_paired options) _ _ (made_fits k path options w v both.0 both.1 h g) tt

  -- ---- destroying windows

  -- what is kept where a container's contents change
  packed_kept : (kept : List Kept) (container : ℕ) (change : Kept → packing.Packed) → KeptFit limits kept
      → KeptFit limits (on_kept (kept_of kept container) kept (λ k. windows.replaced container (with_packing k (change k)) kept))
  packed_kept kept container change h = kept_changed limits kept container (λ k. with_packing k (change k)) (λ k is. is) h

  forgotten_fits : (kept : List Kept) (container : Option ℕ) (window : ℕ) → KeptFit limits kept → KeptFit limits (forgotten_at kept container window)
  forgotten_fits kept None window h = h
  forgotten_fits kept (Some container) window h = packed_kept kept container (λ k. forgotten window k.packing) h

  -- fewer windows
  fewer_fit : (t : tree.Windows) (number : ℕ) → PathsFit t.windows → PathsFit (tree.without t number).windows
  fewer_fit t number h = by (of_number t.windows number)
    where
      by : (o : Option Window) → PathsFit (on_window o t (λ w. record t { windows = filter (λ v. not (is_within w.path v.path)) t.windows })).windows
      by None = h
      by (Some w) = filtered_fit limits (λ (v : Window). fits limits v.path) (λ v. not (is_within w.path v.path)) t.windows h

  events_left : (w : World) (x : windows.Windows) → events_fit limits w ≡ true → events_fit limits (with_left w x) ≡ true
  events_left w x h =
      let e = events_opened limits w h in
      let ws = x.tree.windows in
      events_closed limits (with_left w x)
      (record {
        bindings = filtered_fit limits (binding_fits limits) (is_held w.tree.windows ws) w.bindings.bindings e.bindings;
        virtuals = e.virtuals;
        history = e.history;
        queue = filtered_fit limits (λ (q : Queued). event_fits limits q.event) (is_for ws) w.queue e.queue;
        timers = e.timers;
      })

  without_fits : (w : World) (number : ℕ) → WorldFits limits grid w → WorldFits limits grid (world.without w number)
  without_fits w number h =
      let ws = (tree.without w.tree number).windows in
      let kept = forgotten_at w.kept (tree.parent w.tree number) number in
      record {
        on_grid = h.on_grid;
        windows =
            and_from (paths_fit limits ws) (list_all (kept_fits limits) (filter (λ k. is_some (of_number ws k.window)) kept)) (fewer_fit w.tree number (paths_of limits grid w h))
            (filtered_so (kept_fits limits) (λ k. is_some (of_number ws k.window)) kept (forgotten_fits w.kept (tree.parent w.tree number) number (kept_in limits grid w h)));
        events = events_left w (windows.without (windows_of w) number) h.events;
        faults = h.faults;
      }

  without_path_fits : (w : World) (path : List ℕ) → WorldFits limits grid w → WorldFits limits grid (without_path w path)
  without_path_fits w path h = by (of_path w.tree.windows path)
    where
      by : (o : Option Window) → WorldFits limits grid (on_window o w (λ v. world.without w v.number))
      by None = h
      by (Some v) = without_fits w v.number h

  without_all_fit : (paths : List (List ℕ)) (w : World) → WorldFits limits grid w → WorldFits limits grid (without_all w paths)
  without_all_fit [] w h = h
  without_all_fit (path ∷ paths) w h = without_all_fit paths (without_path w path) (without_path_fits w path h)

  -- destroy
  pub destroy_fits : (command : List ℕ) (words : List (List ℕ)) (w : World) → WorldFits limits grid w → IfOk (destroy_does command words w) (LeftFits limits grid)
  destroy_fits command [] w h = tt
  destroy_fits command (path ∷ paths) w h = one_of (LeftFits limits grid) (list_all is_other (path ∷ paths)) _ _ (without_all_fit (path ∷ paths) w h) tt

  -- ---- packing windows

  packed_at_fits : (kept : List Kept) (container : Option ℕ) (window : ℕ) (words : List (List ℕ)) → KeptFit limits kept → IfOk (packed_at kept container window words) (KeptFit limits)
  packed_at_fits kept None window words h = tt
  packed_at_fits kept (Some container) window words h = by (kept_of kept container) (kept_found limits kept container h)
    where
      by : (o : Option Kept) → IfSome o (λ k. kept_fits limits k ≡ true)
          → IfOk (on_kept o (Ok kept) (λ k. options.after (packing.packed window words k.packing) (λ p. Ok (windows.replaced container (with_packing k p) kept)))) (KeptFit limits)
      by None is = h
      by (Some k) is = option.follows (KeptFit limits) (packing.packed window words k.packing) _ (λ p. kept_replaced limits container (with_packing k p) kept is h)

  packed_fits : (w : World) (number : ℕ) (options : List (List ℕ)) → WorldFits limits grid w → IfOk (packed w number options) (WorldFits limits grid)
  packed_fits w number options h =
      option.follows_on (λ x. PathsFit x.tree.windows × KeptFit limits x.kept) (WorldFits limits grid) (windows.packed (windows_of w) number options) _
      (option.follows_on (KeptFit limits) (λ x. PathsFit x.tree.windows × KeptFit limits x.kept) (packed_at w.kept (tree.parent w.tree number) number options) _
      (packed_at_fits w.kept (tree.parent w.tree number) number options (kept_in limits grid w h)) (λ kept k. (paths_of limits grid w h, k)))
      (λ x k. with_windows_fit w x h k.0 k.1)

  packed_each_fit : (numbers : List ℕ) (options : List (List ℕ)) (w : World) → WorldFits limits grid w → IfOk (packed_each numbers options w) (WorldFits limits grid)
  packed_each_fit [] options w h = h
  packed_each_fit (n ∷ ns) options w h =
      follows_on (WorldFits limits grid) (WorldFits limits grid) (value_or_fault (packed w n options)) _
      (value_so (WorldFits limits grid) (packed w n options) (packed_fits w n options h)) (λ u k. packed_each_fit ns options u k)

  packed_all_fit : (paths options : List (List ℕ)) (w : World) → WorldFits limits grid w → IfOk (packed_all paths options w) (LeftFits limits grid)
  packed_all_fit paths options w h =
      follows (LeftFits limits grid) (contents_of w paths) _ (λ ns.
      follows (LeftFits limits grid) (options_read options) _ (λ _.
      follows_on (WorldFits limits grid) (LeftFits limits grid) (packed_each ns options w) _ (packed_each_fit ns options w h) (λ u k. k)))

  configure_fits : (command : List ℕ) (words : List (List ℕ)) (w : World) → WorldFits limits grid w → IfOk (pack.configure_does command words w) (LeftFits limits grid)
  configure_fits command words w h =
      one_of (LeftFits limits grid) (not (window_count words == 0) && are_paired (drop (window_count words) words)) _ _
      (packed_all_fit (take (window_count words) words) (drop (window_count words) words) w h) tt

  unpacked_fits : (w : World) (number : ℕ) → WorldFits limits grid w → WorldFits limits grid (unpacked w number)
  unpacked_fits w number h =
      with_windows_fit w (windows.unpacked (windows_of w) number) h (paths_of limits grid w h) (forgotten_fits w.kept (tree.parent w.tree number) number (kept_in limits grid w h))

  unpacked_all_fit : (numbers : List ℕ) (w : World) → WorldFits limits grid w → WorldFits limits grid (unpacked_all numbers w)
  unpacked_all_fit [] w h = h
  unpacked_all_fit (n ∷ ns) w h = unpacked_all_fit ns (unpacked w n) (unpacked_fits w n h)

  forget_fits : (command : List ℕ) (words : List (List ℕ)) (w : World) → WorldFits limits grid w → IfOk (pack.forget_does command words w) (LeftFits limits grid)
  forget_fits command [] w h = tt
  forget_fits command (path ∷ paths) w h = follows (LeftFits limits grid) (pack.windows_of w (path ∷ paths)) _ (λ ns. unpacked_all_fit ns w h)

  slaves_fit : (command : List ℕ) (words : List (List ℕ)) (w : World) → WorldFits limits grid w → IfOk (pack.slaves_does command words w) (LeftFits limits grid)
  slaves_fit command [] w h = tt
  slaves_fit command (path ∷ []) w h = follows (LeftFits limits grid) (window_of w path) _ (λ n. h)
  slaves_fit command (path ∷ (word ∷ words)) w h = tt

  propagation_fits : (w : World) (number : ℕ) (b : Bool) → WorldFits limits grid w → WorldFits limits grid (with_propagation w number b)
  propagation_fits w number b h =
      with_windows_fit w (windows.with_propagation (windows_of w) number b) h (paths_of limits grid w h)
      (packed_kept w.kept number (λ k. record k.packing { propagates = b }) (kept_in limits grid w h))

  propagate_fits : (command : List ℕ) (words : List (List ℕ)) (w : World) → WorldFits limits grid w → IfOk (pack.propagate_does command words w) (LeftFits limits grid)
  propagate_fits command [] w h = tt
  propagate_fits command (path ∷ []) w h = follows (LeftFits limits grid) (window_of w path) _ (λ n. h)
  propagate_fits command (path ∷ (value ∷ [])) w h =
      follows (LeftFits limits grid) (window_of w path) _ (λ n. follows (LeftFits limits grid) (truth_read value (truth_of_word value)) _ (λ b. propagation_fits w n b h))
  propagate_fits command (path ∷ (value ∷ (word ∷ words))) w h = tt

  -- pack
  pub pack_fits : (command : List ℕ) (words : List (List ℕ)) (w : World) → WorldFits limits grid w → IfOk (pack_does command words w) (LeftFits limits grid)
  pack_fits command [] w h = tt
  pack_fits command (first ∷ words) w h =
      one_of (LeftFits limits grid) (same_text first (codes "configure")) _ _ (configure_fits command words w h)
      (one_of (LeftFits limits grid) (same_text first (codes "forget")) _ _ (forget_fits command words w h)
      (one_of (LeftFits limits grid) (same_text first (codes "slaves")) _ _ (slaves_fit command words w h)
      (one_of (LeftFits limits grid) (same_text first (codes "propagate")) _ _ (propagate_fits command words w h)
      (one_of (LeftFits limits grid) (begins_dot first) _ _ (configure_fits command (first ∷ words) w h) tt))))
