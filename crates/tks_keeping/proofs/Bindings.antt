-- `bind` and `bindtags` leave the world within limits.
use Rattle.std.proofs.Common.{◌≡◌, ℕ, Bool, true, ◌&&◌, List, [], ◌∷◌, length, Option, Ok, IfOk, refl}
use Rattle.std.specs.Prelude.{nat_le}
use Rattle.std.specs.List.{list_all}
use Rattle.std.proofs.lemmas.Bool.{and_from, and_parts}
use Rattle.tks_text.specs.Limits.{fits}
use Rattle.tks_text.specs.Size.{Extent}
use Rattle.tks_text.specs.declared.limits.Limits.{Limits}
use Rattle.tks_tcl.specs.Words.{list_in}
use Rattle.tks_tcl.proofs.Framing.{follows, follows_on}
use Rattle.tks_event.specs.declared.pattern.Pattern.{Pattern}
use Rattle.tks_bind.specs.Binding.{Content, is_for, script_for, placed, without, made, bound}
use Rattle.tks_bind.specs.declared.binding.Binding.{Binding}
use Rattle.tks_state.specs.Windows.{with_tags, with_tags_at}
use Rattle.tks_state.specs.World.{World, bound_to, tagged}
use Rattle.tks_state.specs.declared.kept.Kept.{Kept}
use Rattle.tks_limits.specs.Within.{may_hold, texts_fit, tags_fit, widget_fits, kept_fits, sequence_fits, binding_fits}
use Rattle.tks_cmd.specs.Changes.{silent}
use Rattle.tks_cmd.specs.Packing.{window_of}
use Rattle.tks_cmd.specs.Bindings.{tag_read, sequence_read, has_number, bindings_within, script_fits, details_fit, bound_within, bind_does, given_tags, tags_within, tags_read, bindtags_does}
use Rattle.tks_keeping.specs.Fitting.{WorldFits}
use Rattle.tks_keeping.proofs.Lists.{one_so, AllSo}
use Rattle.tks_keeping.proofs.Texts.{tested_so, TextsFit, list_fits, TextFits, first_word, other_words}
use Rattle.tks_keeping.proofs.Parts.{LeftFits, kept_changed, kept_in, events_opened, with_bindings_fits, with_kept_fits}

-- ---- lists that change

-- what a test says of all bindings it says of them with another one, and of those that are left without one
module _ (p : Binding → Bool) where
  placed_so : (b : Binding) (bs : List Binding) → p b ≡ true → AllSo p bs → AllSo p (placed b bs)
  placed_so b [] k h = and_from (p b) true k h
  placed_so b (c ∷ cs) k h =
      let a = and_parts (p c) (list_all p cs) h in
      one_so (λ bs. AllSo p bs) (is_for b.tag b.sequence c) (b ∷ cs) (c ∷ placed b cs)
      (and_from (p b) (list_all p cs) k a.1) (and_from (p c) (list_all p (placed b cs)) a.0 (placed_so b cs k a.1))

  without_so : (tag : List ℕ) (sequence : List Pattern) (bs : List Binding) → AllSo p bs → AllSo p (without tag sequence bs)
  without_so tag sequence [] h = h
  without_so tag sequence (b ∷ bs) h =
      let a = and_parts (p b) (list_all p bs) h in
      one_so (λ bs. AllSo p bs) (is_for tag sequence b) bs (b ∷ without tag sequence bs)
      a.1 (and_from (p b) (list_all p (without tag sequence bs)) a.0 (without_so tag sequence bs a.1))

module _ (limits : Limits) (grid : Extent) where
  -- ---- bind

  bound_fits : (tag : List ℕ) (sequence : List Pattern) (script : List ℕ) (c : Content) → TextFits limits tag → details_fit limits sequence script ≡ true
      → script_fits limits tag sequence script c ≡ true → AllSo (binding_fits limits) c.bindings → AllSo (binding_fits limits) (bound tag sequence script c).bindings
  bound_fits tag sequence [] c t d s h = without_so (binding_fits limits) tag sequence c.bindings h
  bound_fits tag sequence (p ∷ more) c t d s h =
      let script = made (script_for tag sequence c.bindings) (p ∷ more) in
      placed_so (binding_fits limits) (record { number = c.next; tag = tag; sequence = sequence; script = script }) c.bindings
      (and_from (fits limits tag) _ t (and_from (sequence_fits limits sequence) (fits limits script) d s)) h

  bound_within_fits : (tag : List ℕ) (sequence : List Pattern) (script : List ℕ) (w : World) → TextFits limits tag → WorldFits limits grid w
      → IfOk (bound_within limits tag sequence script w) (WorldFits limits grid)
  bound_within_fits tag sequence script w t h =
      let c = bound tag sequence script w.bindings in
      tested_so (WorldFits limits grid) (details_fit limits sequence script && (script_fits limits tag sequence script w.bindings && has_number script w.bindings))
      (bindings_within limits (bound_to tag sequence script w)) (λ room.
      let a = and_parts (details_fit limits sequence script) _ room in
      let b = and_parts (script_fits limits tag sequence script w.bindings) (has_number script w.bindings) a.1 in
      let all = (and_parts (may_hold limits (length w.bindings.bindings)) _ (events_opened limits w h.events).bindings).1 in
      tested_so (WorldFits limits grid) (nat_le (length c.bindings) limits.items) (Ok (bound_to tag sequence script w)) (λ few.
      let fit = bound_fits tag sequence script w.bindings t a.0 b.0 all in
      with_bindings_fits limits grid w h c (and_from (may_hold limits (length c.bindings)) (list_all (binding_fits limits) c.bindings) few fit)))

  -- `bind`, with words that fit
  pub bind_fits : (name : List ℕ) (words : List (List ℕ)) (w : World) → TextsFit limits words → WorldFits limits grid w → IfOk (bind_does limits name words w) (LeftFits limits grid)
  bind_fits name [] w h k = tt
  bind_fits name (tag ∷ []) w h k = follows (LeftFits limits grid) (tag_read w tag) _ (λ _. k)
  bind_fits name (tag ∷ sequence ∷ []) w h k =
      follows (LeftFits limits grid) (tag_read w tag) _ (λ _. follows (LeftFits limits grid) (sequence_read sequence) _ (λ s. k))
  bind_fits name (tag ∷ sequence ∷ script ∷ []) w h k =
      follows (LeftFits limits grid) (tag_read w tag) _ (λ _.
      follows (LeftFits limits grid) (sequence_read sequence) _ (λ s.
      follows_on (WorldFits limits grid) (LeftFits limits grid) (bound_within limits tag s script w) silent
      (bound_within_fits tag s script w (first_word limits tag (sequence ∷ script ∷ []) h) k) (λ u f. f)))
  bind_fits name (tag ∷ sequence ∷ script ∷ more ∷ words) w h k = tt

  -- ---- bindtags

  tags_at_fit : (ks : List Kept) (number : ℕ) (tags : Option (List (List ℕ))) → tags_fit limits tags ≡ true → AllSo (kept_fits limits) ks
      → AllSo (kept_fits limits) (with_tags_at ks number tags)
  tags_at_fit ks number tags t h =
      kept_changed limits ks number (λ k. with_tags k tags)
      (λ k is. and_from (widget_fits limits k.widget) (tags_fit limits tags) (and_parts (widget_fits limits k.widget) (tags_fit limits k.tags) is).0 t) h

  tagged_fits : (w : World) (number : ℕ) (tags : Option (List (List ℕ))) → tags_fit limits tags ≡ true → WorldFits limits grid w → WorldFits limits grid (tagged w number tags)
  tagged_fits w number tags t h =
      with_kept_fits limits grid w h (with_tags_at w.kept number tags) (tags_at_fit w.kept number tags t (kept_in limits grid w h))

  given_fit : (tags : List (List ℕ)) → may_hold limits (length tags) ≡ true → TextsFit limits tags → tags_fit limits (given_tags tags) ≡ true
  given_fit [] few h = refl
  given_fit (tag ∷ tags) few h = and_from (may_hold limits (length (tag ∷ tags))) (texts_fit limits (tag ∷ tags)) few h

  tags_read_fit : (text : List ℕ) → TextFits limits text → IfOk (tags_read limits text) (λ tags. tags_fit limits (given_tags tags) ≡ true)
  tags_read_fit text h =
      follows_on (TextsFit limits) (λ tags. tags_fit limits (given_tags tags) ≡ true) (list_in text) (tags_within limits) (list_fits limits text h) (λ tags all.
      tested_so (λ tags. tags_fit limits (given_tags tags) ≡ true) (nat_le (length tags) limits.items) (Ok tags) (λ few. given_fit tags few all))

  -- `bindtags`
  pub bindtags_fits : (name : List ℕ) (words : List (List ℕ)) (w : World) → TextsFit limits words → WorldFits limits grid w → IfOk (bindtags_does limits name words w) (LeftFits limits grid)
  bindtags_fits name [] w h k = tt
  bindtags_fits name (path ∷ []) w h k = follows (LeftFits limits grid) (window_of w path) _ (λ n. k)
  bindtags_fits name (path ∷ list ∷ []) w h k =
      follows (LeftFits limits grid) (window_of w path) _ (λ n.
      follows_on (λ tags. tags_fit limits (given_tags tags) ≡ true) (LeftFits limits grid) (tags_read limits list) _
      (tags_read_fit list (first_word limits list [] (other_words limits path (list ∷ []) h))) (λ tags t. tagged_fits w n (given_tags tags) t k))
  bindtags_fits name (path ∷ list ∷ more ∷ words) w h k = tt
