-- What holds of the commands on bindings and events: what comes of them is no error that is told as one, and wider limits
-- keep it, where it passed none.
use Rattle.std.proofs.Common.{◌+◌, ◌≡◌, ℕ, ◌++◌, ◌^◌, ◌==◌, not, ◌||◌, nat_lt, Bool, true, false, if◌then◌else◌, List, [], ◌∷◌, length, codes, Option, Some, None, Result, Ok, Err, refl}
use Rattle.tks_text.specs.Text.{same_text}
use Rattle.tks_text.specs.Limits.{Wider}
use Rattle.tks_text.specs.declared.limits.Limits.{Limits}
use Rattle.tks_tcl.specs.Cause.{Cause, OverLimit, after, wrong_words}
use Rattle.tks_tcl.specs.Lists.{concatenated}
use Rattle.tks_tcl.specs.Words.{list_in}
use Rattle.tks_tcl.proofs.Limits.{Keeps, Holds, itself, after_keeps, if_keeps, room_keeps, at_most_holds, both_hold, fits_wider, within_keeps}
use Rattle.tks_list.specs.Quoting.{joined}
use Rattle.tks_event.specs.Sequences.{is_some_text}
use Rattle.tks_event.specs.Event.{Event}
use Rattle.tks_event.specs.declared.kind.Kind.TheVariants as kind
use Rattle.tks_event.specs.declared.pattern.Pattern.{Pattern}
use Rattle.tks_bind.specs.Binding.{script_for, made, spelled}
use Rattle.tks_bind.specs.Choosing.{chosen}
use Rattle.tks_bind.specs.Percents.{percents}
use Rattle.tks_bind.specs.VirtualEvents.{sequences_of}
use Rattle.tks_bind.specs.declared.binding.Binding.{Binding}
use Rattle.tks_queue.specs.declared.place.Place.{Place}
use Rattle.tks_queue.specs.declared.place.Place.TheVariants as place
use Rattle.tks_tree.specs.Windows.{Window, of_number, on_window}
use Rattle.tks_limits.proofs.Wider.{sequence_wider, sequences_wider}
use Rattle.tks_state.specs.World.{World, bound_to, tagged, scene, with_event, queued, focused, with_timer, with_idle}
use Rattle.tks_eval.specs.declared.host.Due.TheVariants as due
use Rattle.tks_eval.specs.declared.host.Plan.{Plan}
use Rattle.tks_eval.specs.declared.host.Plan.TheVariants as plan
use Rattle.tks_cmd.specs.Changes.{Changed, silent}
use Rattle.tks_cmd.specs.Windows.{are_paired}
use Rattle.tks_cmd.specs.Packing.{window_of}
use Rattle.tks_cmd.specs.Dispatch.{delivered, tags_of, is_passed, script_of, tag_script, tag_scripts, event_scripts, prepared, begun}
use Rattle.tks_cmd.specs.Bindings.{tag_read, sequence_read, or_empty, bindings_within, details_fit, bound_within, bind_does, tags_at, given_tags, tags_within, tags_read, bindtags_does}
use Rattle.tks_cmd.specs.Queue.{queue_within, put_within}
use Rattle.tks_cmd.specs.Events.{event_read, sent, within_text, generated, generate_does}
use Rattle.tks_cmd.specs.VirtualEvents as virtuals
use Rattle.tks_cmd.specs.VirtualEvents.{name_read, all_read, with_all, virtuals_within, added, add_does, delete_does}
use Rattle.tks_cmd.specs.Focus.{path_at, focus_event, focus_moved, focus_given, focus_on, focus_does, focus_next_does, focus_previous_does}
use Rattle.tks_cmd.specs.After.{id_text, delay_read, timers_within, idles_within, timer_kept, idle_kept, script_read, delay_does, idle_does, cancelled_id, cancelled, cancel_does, info_does, form_does, some_does, after_does}
use Rattle.tks_cmd.specs.Update.{update_does}
use Rattle.tks_cmd.specs.EventCommands.{told, event_form_does, event_does, event_command_does}
use Rattle.tks_cmd.specs.declared.events.When.{When}
use Rattle.tks_cmd.specs.declared.events.When.TheVariants as when
use Rattle.tks_cmd.specs.declared.event_commands.EventCommand.{EventCommand}
use Rattle.tks_cmd.specs.declared.event_commands.EventCommand.TheVariants as command

-- ---- errors

-- what is to be done is no answer with another code
abbrev pub NoError : Plan → Type 0
NoError (plan.Answer code text) = code ≡ 0
NoError other = Unit {0}

abbrev pub PlansWell : Result (Plan × World) Cause → Type 0
PlansWell (Ok x) = NoError x.0
PlansWell (Err cause) = Unit {0}

after_well : {X : Type 0} (r : Result X Cause) (next : X → Result (Plan × World) Cause) → ((x : X) → PlansWell (next x)) → PlansWell (after r next)
after_well (Ok x) next well = well x
after_well (Err cause) next well = tt

told_well : (r : Result Changed Cause) → PlansWell (told r)
told_well r = after_well r _ (λ x. refl)

module _ (limits : Limits) where
  begun_well : (w : World) (e : Event) → PlansWell (begun limits w e)
  unfolding begun
  begun_well w e = after_well (event_scripts limits (with_event (delivered w e) w) (delivered w e)) _ (λ scripts. tt)

  sent_well : (w : World) (t : When) (e : Event) → PlansWell (sent limits w t e)
  sent_well w when.Now e = begun_well w e
  sent_well w (when.Queued p) e = after_well (put_within limits p e w) _ (λ u. refl)

  generate_well : (name : List ℕ) (words : List (List ℕ)) (w : World) → PlansWell (generate_does limits name words w)
  generate_well name [] w = tt
  generate_well name (path ∷ []) w = tt
  generate_well name (path ∷ text ∷ options) w = by (are_paired options)
    where
      by : (b : Bool) → PlansWell (if b then generated limits path text options w else wrong_words name)
      by true =
          after_well (window_of w path) _ (λ n.
          after_well (event_read w.clock n text options) _ (λ x.
          after_well (within_text limits x.0) _ (sent_well w x.1)))
      by false = tt

  one_of_well : (b : Bool) (r other : Result (Plan × World) Cause) → PlansWell r → PlansWell other → PlansWell (if b then r else other)
  one_of_well true r other h o = h
  one_of_well false r other h o = o

  form_well : (name form : List ℕ) (words : List (List ℕ)) (w : World) → PlansWell (event_form_does limits name form words w)
  form_well name form words w =
      one_of_well (same_text form (codes "generate")) _ _ (generate_well name words w)
      (one_of_well (same_text form (codes "add")) _ _ (told_well (add_does limits name words w))
      (one_of_well (same_text form (codes "delete")) _ _ (told_well (delete_does name words w))
      (one_of_well (same_text form (codes "info")) _ _ (told_well (virtuals.info_does name words w)) tt)))

  event_well : (name : List ℕ) (words : List (List ℕ)) (w : World) → PlansWell (event_does limits name words w)
  event_well name [] w = tt
  event_well name (form ∷ words) w = form_well name form words w

  update_well : (name : List ℕ) (words : List (List ℕ)) (w : World) → PlansWell (event_command_does limits command.Update name words w)
  update_well name [] w = tt
  update_well name (form ∷ []) w = by (same_text form (codes "idletasks"))
    where
      by : (b : Bool) → PlansWell (after (if b then Ok (plan.Update due.Idle) else wrong_words name) (λ p. Ok (p, w)))
      by true = tt
      by false = tt
  update_well name (form ∷ more ∷ words) w = tt

  pub event_command_well : (c : EventCommand) (name : List ℕ) (words : List (List ℕ)) (w : World) → PlansWell (event_command_does limits c name words w)
  event_command_well command.Bind name words w = told_well (bind_does limits name words w)
  event_command_well command.Bindtags name words w = told_well (bindtags_does limits name words w)
  event_command_well command.Event name words w = event_well name words w
  event_command_well command.Focus name words w = told_well (focus_does limits name words w)
  event_command_well command.FocusNext name words w = told_well (focus_next_does name words w)
  event_command_well command.FocusPrev name words w = told_well (focus_previous_does name words w)
  event_command_well command.After name words w = told_well (after_does limits name words w)
  event_command_well command.Update name words w = update_well name words w

-- ---- wider limits

module _ (limits wider : Limits) (wide : Wider limits wider) where
  script_keeps : (e : Event) (path : List ℕ) (o : Option Binding) → Keeps (script_of limits e path o) (script_of wider e path o)
  script_keeps e path None = itself (Ok [])
  script_keeps e path (Some b) = after_keeps (within_keeps limits wider wide (percents e path b.script)) (λ t. itself (Ok (t ∷ [])))

  tag_keeps : (w : World) (e : Event) (path tag : List ℕ) → Keeps (tag_script limits w e path tag) (tag_script wider w e path tag)
  tag_keeps w e path tag = if_keeps (is_passed w tag) (itself (Ok [])) (script_keeps e path (chosen (scene w tag e)))

  tags_keep : (w : World) (e : Event) (path : List ℕ) (tags : List (List ℕ)) → Keeps (tag_scripts limits w e path tags) (tag_scripts wider w e path tags)
  tags_keep w e path [] = itself (Ok [])
  tags_keep w e path (tag ∷ tags) = after_keeps (tag_keeps w e path tag) (λ one. after_keeps (tags_keep w e path tags) (λ more. itself (Ok (one ++ more))))

  scripts_keep : (w : World) (e : Event) → Keeps (event_scripts limits w e) (event_scripts wider w e)
  scripts_keep w e = by (of_number w.tree.windows e.window)
    where
      by : (o : Option Window) → Keeps (on_window o (Ok []) (λ v. tag_scripts limits w e v.path (tags_of w v))) (on_window o (Ok []) (λ v. tag_scripts wider w e v.path (tags_of w v)))
      by None = itself (Ok [])
      by (Some v) = tags_keep w e v.path (tags_of w v)

  prepared_keeps : (w : World) (e : Event) → Keeps (prepared limits w e) (prepared wider w e)
  prepared_keeps w e = after_keeps (scripts_keep w e) (λ scripts. itself (Ok (plan.Dispatch e.window scripts, w)))

  pub begun_keeps : (w : World) (e : Event) → Keeps (begun limits w e) (begun wider w e)
  unfolding begun
  begun_keeps w e = prepared_keeps (with_event (delivered w e) w) (delivered w e)

  -- ---- bind, bindtags

  bindings_keep : (w : World) → Keeps (bindings_within limits w) (bindings_within wider w)
  bindings_keep w = room_keeps _ _ (at_most_holds (length w.bindings.bindings) limits.items wider.items wide.items) (itself (Ok w))

  bound_keeps : (tag : List ℕ) (sequence : List Pattern) (script : List ℕ) (w : World) → Keeps (bound_within limits tag sequence script w) (bound_within wider tag sequence script w)
  bound_keeps tag sequence script w =
      room_keeps _ _
      (both_hold _ _ _ _ (details_hold sequence script) (both_hold _ _ _ _ (fits_wider limits wider wide (made (script_for tag sequence w.bindings.bindings) script)) (λ h. h)))
      (bindings_keep (bound_to tag sequence script w))
    where
      or_hold : (b a a' : Bool) → Holds a a' → Holds (b || a) (b || a')
      or_hold true a a' h k = refl
      or_hold false a a' h k = h k

      details_hold : (sequence : List Pattern) (script : List ℕ) → Holds (details_fit limits sequence script) (details_fit wider sequence script)
      details_hold sequence script = or_hold (not (is_some_text script)) _ _ (sequence_wider limits wider wide sequence)

  bind_keeps : (name : List ℕ) (words : List (List ℕ)) (w : World) → Keeps (bind_does limits name words w) (bind_does wider name words w)
  bind_keeps name [] w = itself (wrong_words name)
  bind_keeps name (tag ∷ []) w = itself (after (tag_read w tag) (λ _. Ok (joined (spelled tag w.bindings.bindings), w)))
  bind_keeps name (tag ∷ sequence ∷ []) w =
      itself (after (tag_read w tag) (λ _. after (sequence_read sequence) (λ s. Ok (or_empty (script_for tag s w.bindings.bindings), w))))
  bind_keeps name (tag ∷ sequence ∷ script ∷ []) w =
      after_keeps (itself (tag_read w tag)) (λ _.
      after_keeps (itself (sequence_read sequence)) (λ s.
      after_keeps (bound_keeps tag s script w) (λ u. itself (silent u))))
  bind_keeps name (tag ∷ sequence ∷ script ∷ more ∷ words) w = itself (wrong_words name)

  tags_within_keep : (tags : List (List ℕ)) → Keeps (tags_within limits tags) (tags_within wider tags)
  tags_within_keep tags = room_keeps _ _ (at_most_holds (length tags) limits.items wider.items wide.items) (itself (Ok tags))

  tags_read_keep : (text : List ℕ) → Keeps (tags_read limits text) (tags_read wider text)
  tags_read_keep text = after_keeps (itself (list_in text)) tags_within_keep

  bindtags_keeps : (name : List ℕ) (words : List (List ℕ)) (w : World) → Keeps (bindtags_does limits name words w) (bindtags_does wider name words w)
  bindtags_keeps name [] w = itself (wrong_words name)
  bindtags_keeps name (path ∷ []) w = itself (after (window_of w path) (λ n. Ok (joined (tags_at w n), w)))
  bindtags_keeps name (path ∷ list ∷ []) w =
      after_keeps (itself (window_of w path)) (λ n. after_keeps (tags_read_keep list) (λ tags. itself (silent (tagged w n (given_tags tags)))))
  bindtags_keeps name (path ∷ list ∷ more ∷ words) w = itself (wrong_words name)

  -- ---- the queue, and event generate

  queue_keeps : (w : World) → Keeps (queue_within limits w) (queue_within wider w)
  queue_keeps w = room_keeps _ _ (at_most_holds (length w.queue) limits.items wider.items wide.items) (itself (Ok w))

  put_keeps : (p : Place) (e : Event) (w : World) → Keeps (put_within limits p e w) (put_within wider p e w)
  put_keeps p e w = queue_keeps (queued p e w)

  sent_keeps : (w : World) (t : When) (e : Event) → Keeps (sent limits w t e) (sent wider w t e)
  sent_keeps w when.Now e = begun_keeps w e
  sent_keeps w (when.Queued p) e = after_keeps (put_keeps p e w) (λ u. itself (Ok (plan.Answer 0 [], u)))

  generated_keeps : (path text : List ℕ) (options : List (List ℕ)) (w : World) → Keeps (generated limits path text options w) (generated wider path text options w)
  generated_keeps path text options w =
      after_keeps (itself (window_of w path)) (λ n.
      after_keeps (itself (event_read w.clock n text options)) (λ x.
      after_keeps (room_keeps _ _ (fits_wider limits wider wide x.0.detail) (itself (Ok x.0))) (sent_keeps w x.1)))

  generate_keeps : (name : List ℕ) (words : List (List ℕ)) (w : World) → Keeps (generate_does limits name words w) (generate_does wider name words w)
  generate_keeps name [] w = itself (wrong_words name)
  generate_keeps name (path ∷ []) w = itself (wrong_words name)
  generate_keeps name (path ∷ text ∷ options) w = if_keeps (are_paired options) (generated_keeps path text options w) (itself (wrong_words name))

  -- ---- event add

  virtuals_keep : (name : List ℕ) (w : World) → Keeps (virtuals_within limits name w) (virtuals_within wider name w)
  virtuals_keep name w =
      room_keeps _ _
      (both_hold _ _ _ _ (at_most_holds (length w.virtuals) limits.items wider.items wide.items)
      (at_most_holds (length (sequences_of name w.virtuals)) limits.items wider.items wide.items)) (itself (Ok w))

  added_keeps : (name : List ℕ) (texts : List (List ℕ)) (w : World) → Keeps (added limits name texts w) (added wider name texts w)
  added_keeps name texts w =
      after_keeps (itself (name_read name)) (λ n.
      after_keeps (itself (all_read texts)) (λ ss.
      room_keeps _ _ (sequences_wider limits wider wide ss) (virtuals_keep n (with_all n ss w))))

  add_keeps : (name : List ℕ) (words : List (List ℕ)) (w : World) → Keeps (add_does limits name words w) (add_does wider name words w)
  add_keeps name [] w = itself (wrong_words name)
  add_keeps name (event ∷ []) w = itself (wrong_words name)
  add_keeps name (event ∷ text ∷ texts) w = after_keeps (added_keeps event (text ∷ texts) w) (λ u. itself (silent u))

  -- ---- focus

  moved_keeps : (n : ℕ) (w : World) → Keeps (focus_moved limits n w) (focus_moved wider n w)
  moved_keeps n w =
      after_keeps (put_keeps place.Tail (focus_event kind.FocusOut w.focus) (focused n w)) (put_keeps place.Tail (focus_event kind.FocusIn n))

  given_keeps : (n : ℕ) (w : World) → Keeps (focus_given limits n w) (focus_given wider n w)
  given_keeps n w = if_keeps (n == w.focus) (itself (Ok w)) (moved_keeps n w)

  focus_on_keeps : (path : List ℕ) (w : World) → Keeps (focus_on limits path w) (focus_on wider path w)
  focus_on_keeps path w =
      if_keeps (is_some_text path) (after_keeps (itself (window_of w path)) (λ n. after_keeps (given_keeps n w) (λ u. itself (silent u)))) (itself (silent w))

  focus_keeps : (name : List ℕ) (words : List (List ℕ)) (w : World) → Keeps (focus_does limits name words w) (focus_does wider name words w)
  focus_keeps name [] w = itself (Ok (path_at w w.focus, w))
  focus_keeps name (path ∷ []) w = focus_on_keeps path w
  focus_keeps name (path ∷ more ∷ words) w = itself (wrong_words name)

  -- ---- after

  timer_keeps : (delay : ℕ) (script : List ℕ) (w : World) → Keeps (timer_kept limits delay script w) (timer_kept wider delay script w)
  timer_keeps delay script w =
      if_keeps (nat_lt w.timers.next (2 ^ 62))
      (after_keeps (timers_keep (with_timer (w.clock + delay) script w)) (λ u. itself (Ok (w.timers.next, u)))) (itself (Err OverLimit))
    where
      timers_keep : (u : World) → Keeps (timers_within limits u) (timers_within wider u)
      timers_keep u = room_keeps _ _ (at_most_holds (length u.timers.timers) limits.items wider.items wide.items) (itself (Ok u))

  idle_keeps : (script : List ℕ) (w : World) → Keeps (idle_kept limits script w) (idle_kept wider script w)
  idle_keeps script w =
      if_keeps (nat_lt w.timers.next (2 ^ 62)) (after_keeps (idles_keep (with_idle script w)) (λ u. itself (Ok (w.timers.next, u)))) (itself (Err OverLimit))
    where
      idles_keep : (u : World) → Keeps (idles_within limits u) (idles_within wider u)
      idles_keep u = room_keeps _ _ (at_most_holds (length u.timers.idles) limits.items wider.items wide.items) (itself (Ok u))

  script_keeps_read : (words : List (List ℕ)) → Keeps (script_read limits words) (script_read wider words)
  script_keeps_read words = within_keeps limits wider wide (concatenated words)

  delay_keeps : (text : List ℕ) (words : List (List ℕ)) (w : World) → Keeps (delay_does limits text words w) (delay_does wider text words w)
  delay_keeps text words w =
      after_keeps (itself (delay_read text)) (λ delay.
      after_keeps (script_keeps_read words) (λ script.
      after_keeps (timer_keeps delay script w) (λ x. itself (Ok (id_text x.0, x.1)))))

  idle_does_keeps : (words : List (List ℕ)) (w : World) → Keeps (idle_does limits words w) (idle_does wider words w)
  idle_does_keeps words w = after_keeps (script_keeps_read words) (λ script. after_keeps (idle_keeps script w) (λ x. itself (Ok (id_text x.0, x.1))))

  cancel_keeps : (words : List (List ℕ)) (w : World) → Keeps (cancel_does limits words w) (cancel_does wider words w)
  cancel_keeps words w = after_keeps (script_keeps_read words) (λ script. itself (silent (cancelled (cancelled_id script words w.timers) w)))

  after_form_keeps : (form : List ℕ) (words : List (List ℕ)) (w : World) → Keeps (form_does limits form words w) (form_does wider form words w)
  after_form_keeps form words w =
      if_keeps (same_text form (codes "cancel")) (cancel_keeps words w)
      (if_keeps (same_text form (codes "idle")) (idle_does_keeps words w) (delay_keeps form words w))

  some_keeps : (name form : List ℕ) (words : List (List ℕ)) (w : World) → Keeps (some_does limits name form words w) (some_does wider name form words w)
  some_keeps name form [] w = itself (wrong_words name)
  some_keeps name form (word ∷ words) w = after_form_keeps form (word ∷ words) w

  after_command_keeps : (name : List ℕ) (words : List (List ℕ)) (w : World) → Keeps (after_does limits name words w) (after_does wider name words w)
  after_command_keeps name [] w = itself (wrong_words name)
  after_command_keeps name (form ∷ words) w = if_keeps (same_text form (codes "info")) (itself (info_does name words w)) (some_keeps name form words w)

  -- ---- all of them

  told_keeps : {r r' : Result Changed Cause} → Keeps r r' → Keeps (told r) (told r')
  told_keeps h = after_keeps h (λ x. itself (Ok (plan.Answer 0 x.0, x.1)))

  form_keeps : (name form : List ℕ) (words : List (List ℕ)) (w : World) → Keeps (event_form_does limits name form words w) (event_form_does wider name form words w)
  form_keeps name form words w =
      if_keeps (same_text form (codes "generate")) (generate_keeps name words w)
      (if_keeps (same_text form (codes "add")) (told_keeps (add_keeps name words w))
      (if_keeps (same_text form (codes "delete")) (itself (told (delete_does name words w)))
      (if_keeps (same_text form (codes "info")) (itself (told (virtuals.info_does name words w))) (itself (wrong_words name)))))

  event_keeps : (name : List ℕ) (words : List (List ℕ)) (w : World) → Keeps (event_does limits name words w) (event_does wider name words w)
  event_keeps name [] w = itself (wrong_words name)
  event_keeps name (form ∷ words) w = form_keeps name form words w

  pub event_command_keeps : (c : EventCommand) (name : List ℕ) (words : List (List ℕ)) (w : World)
      → Keeps (event_command_does limits c name words w) (event_command_does wider c name words w)
  event_command_keeps command.Bind name words w = told_keeps (bind_keeps name words w)
  event_command_keeps command.Bindtags name words w = told_keeps (bindtags_keeps name words w)
  event_command_keeps command.Event name words w = event_keeps name words w
  event_command_keeps command.Focus name words w = told_keeps (focus_keeps name words w)
  event_command_keeps command.FocusNext name words w = itself (told (focus_next_does name words w))
  event_command_keeps command.FocusPrev name words w = itself (told (focus_previous_does name words w))
  event_command_keeps command.After name words w = told_keeps (after_command_keeps name words w)
  event_command_keeps command.Update name words w = itself (after (update_does name words) (λ p. Ok (p, w)))
