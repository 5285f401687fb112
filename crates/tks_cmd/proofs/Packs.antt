-- Options of `pack` are good or bad whatever was set before, so that after the first window none is refused.
use Rattle.std.proofs.Common.{◌≡◌, ℕ, Bool, true, false, ◌==◌, ◌&&◌, not, is_some, cond, List, [], ◌∷◌, Option, Some, None, option_map, Result, Ok, Err, refl, sym, ap, subst, ◌∙◌, true≢false}
use Rattle.std.specs.List.{AllByRecursion}
use Rattle.tks_text.specs.declared.fault.ErrorNumber.TheVariants.{NotAllowedOnRoot}
use Rattle.tks_text.specs.declared.fault.ScriptFault.{ScriptFault}
use Rattle.tks_tcl.specs.Cause.{Cause, Fault}
use Rattle.tks_tcl.specs.Cause as tcl
use Rattle.tks_tcl.specs.Meets.{FailsSo}
use Rattle.tks_tcl.specs.declared.interrupt.Interrupt.{Interrupt}
use Rattle.tks_tcl.specs.declared.interrupt.Interrupt.TheVariants as interrupt
use Rattle.tks_pack.specs.declared.settings.Settings.{Settings}
use Rattle.tks_pack.specs.declared.options.PackOption.{PackOption}
use Rattle.tks_pack.specs.declared.options.PackOption.TheVariants as option
use Rattle.tks_pack.specs.Settings.{default_settings, side_of, fill_of, padding_of, option_of, or_bad_value, of_option, with_option, with_options, after}
use Rattle.tks_pack.specs.Packing as pack
use Rattle.tks_opt.specs.Options as opt
use Rattle.tks_opt.specs.Values.{boolean, anchor_named}
use Rattle.tks_tree.specs.Windows as tree
use Rattle.tks_state.specs.Windows as windows
use Rattle.tks_state.specs.Windows.{Windows, kept_of, on_kept, replaced, with_packing, packed_at}
use Rattle.tks_state.specs.World.{World, windows_of, with_windows, packed}
use Rattle.tks_state.specs.declared.kept.Kept.{Kept}
use Rattle.tks_cmd.specs.Meets.{KeepsSo}
use Rattle.tks_cmd.specs.Packing.{window_of, stands_in_one, or_on_root, content_of, contents_of, options_read, packed_each}

-- whether a value came
abbrev pub Came : {X E : Type 0} → Result X E → Type 0
Came (Ok x) = Unit {0}
Came (Err fault) = ⊥

-- ---- options

mapped : {X : Type 0} (name : List ℕ) (f g : X → Settings) (o : Option X) → Came (or_bad_value name (option_map f o)) → Came (or_bad_value name (option_map g o))
mapped name f g None h = h
mapped name f g (Some x) h = tt

of_alike : (p q : Settings) (name : List ℕ) (o : Option PackOption) (value : List ℕ) → Came (of_option p name o value) → Came (of_option q name o value)
of_alike p q name None value h = h
of_alike p q name (Some option.Side) value h = mapped name (λ x. record p { side = x }) (λ x. record q { side = x }) (side_of value) h
of_alike p q name (Some option.Fill) value h = mapped name (λ x. record p { fill = x }) (λ x. record q { fill = x }) (fill_of value) h
of_alike p q name (Some option.Expand) value h = mapped name (λ x. record p { expand = x }) (λ x. record q { expand = x }) (boolean value) h
of_alike p q name (Some option.Anchor) value h = mapped name (λ x. record p { anchor = x }) (λ x. record q { anchor = x }) (anchor_named value) h
of_alike p q name (Some option.PadX) value h = mapped name (λ x. record p { padx = x }) (λ x. record q { padx = x }) (padding_of value) h
of_alike p q name (Some option.PadY) value h = mapped name (λ x. record p { pady = x }) (λ x. record q { pady = x }) (padding_of value) h
of_alike p q name (Some option.InnerPadX) value h = mapped name (λ x. record p { ipadx = x }) (λ x. record q { ipadx = x }) (padding_of value) h
of_alike p q name (Some option.InnerPadY) value h = mapped name (λ x. record p { ipady = x }) (λ x. record q { ipady = x }) (padding_of value) h

alike : (p q : Settings) (name value : List ℕ) → Came (with_option p name value) → Came (with_option q name value)
alike p q name value h = of_alike p q name (option_of name) value h

then_alike : (options : List (List ℕ)) → ((p q : Settings) → Came (with_options p options) → Came (with_options q options))
    → (r s : Result Settings ScriptFault) → (Came r → Came s) → Came (after r (λ p. with_options p options)) → Came (after s (λ p. with_options p options))
then_alike options more (Err fault) s both h = absurd h
then_alike options more (Ok p) (Err fault) both h = absurd (both tt)
then_alike options more (Ok p) (Ok q) both h = more p q h

-- what may follow some settings may follow any
pub all_alike : (options : List (List ℕ)) (p q : Settings) → Came (with_options p options) → Came (with_options q options)
all_alike [] p q h = tt
all_alike (name ∷ []) p q h = alike p q name [] h
all_alike (name ∷ value ∷ options) p q h =
    then_alike options (all_alike options) (with_option p name value) (with_option q name value) (alike p q name value) h

-- ---- windows

-- a change that came, and left the tree
abbrev Leaves : tree.Windows → Result World ScriptFault → Type 0
Leaves t (Ok v) = v.tree ≡ t
Leaves t (Err fault) = ⊥

abbrev KeepsTree : tree.Windows → Result Windows ScriptFault → Type 0
KeepsTree t (Ok x) = x.tree ≡ t
KeepsTree t (Err fault) = ⊥

abbrev read_of : Result Settings ScriptFault → Result (Unit {0}) Cause
read_of r = tcl.after (tcl.value_or_fault r) (λ _. Ok tt)

-- options that were read are good
good : (r : Result Settings ScriptFault) → Came (read_of r) → Came r
good (Ok p) h = tt
good (Err fault) h = h

abbrev AllStand : tree.Windows → List ℕ → Type 0
AllStand t ns = AllByRecursion (λ n. (not (n == 0) && is_some (tree.parent t n)) ≡ true) ns

module _ (options : List (List ℕ)) (read : (p : Settings) → Came (with_options p options)) where
  by_settings : (x : Windows) (old : pack.Packed) (n : ℕ) (k : Kept) (c : ℕ) (r : Result Settings ScriptFault) → Came r
      → KeepsTree x.tree (opt.after (opt.after (after r (λ p. Ok (record old { contents = pack.put n p old.contents }))) (λ p. Ok (replaced c (with_packing k p) x.kept))) (λ kept. Ok (record x { kept = kept })))
  by_settings x old n k c (Ok p) h = refl
  by_settings x old n k c (Err fault) h = absurd h

  in_container : (x : Windows) (n c : ℕ) (o : Option Kept) → (n == 0) ≡ false
      → KeepsTree x.tree (opt.after (on_kept o (Ok x.kept) (λ k. opt.after (pack.packed n options k.packing) (λ p. Ok (replaced c (with_packing k p) x.kept)))) (λ kept. Ok (record x { kept = kept })))
  in_container x n c None e = refl
  in_container x n c (Some k) e = rw e (by_settings x k.packing n k c (with_options (pack.settings_of n k.packing.contents) options) (read (pack.settings_of n k.packing.contents)))

  by_parent : (x : Windows) (n : ℕ) (b : Bool) (o : Option ℕ) → (n == 0) ≡ b → (not b && is_some o) ≡ true
      → KeepsTree x.tree (opt.after (packed_at x.kept o n options) (λ kept. Ok (record x { kept = kept })))
  by_parent x n true o e h = absurd (true≢false (sym h))
  by_parent x n false None e h = absurd (true≢false (sym h))
  by_parent x n false (Some c) e h = in_container x n c (kept_of x.kept c) e

  in_world : (w : World) (t : tree.Windows) (r : Result Windows ScriptFault) → KeepsTree t r → Leaves t (opt.after r (λ x. Ok (with_windows w x)))
  in_world w t (Ok x) h = h
  in_world w t (Err fault) h = absurd h

  one_packed : (w : World) (n : ℕ) → stands_in_one w n ≡ true → Leaves w.tree (packed w n options)
  one_packed w n h = in_world w w.tree (windows.packed (windows_of w) n options) (by_parent (windows_of w) n (n == 0) (tree.parent w.tree n) refl h)

  rest_packed : (ns : List ℕ) (t : tree.Windows) (r : Result World ScriptFault) → Leaves t r
      → ((v : World) → v.tree ≡ t → Came (packed_each ns options v)) → Came (tcl.after (tcl.value_or_fault r) (packed_each ns options))
  rest_packed ns t (Ok v) h more = more v h
  rest_packed ns t (Err fault) h more = absurd h

  -- windows that stand in others are packed
  pub each_packed : (ns : List ℕ) (t : tree.Windows) (w : World) → w.tree ≡ t → AllStand t ns → Came (packed_each ns options w)
  each_packed [] t w e h = tt
  each_packed (n ∷ ns) t w e h =
      rest_packed ns w.tree (packed w n options) (one_packed w n (ap (λ u. not (n == 0) && is_some (tree.parent u n)) e ∙ h.0))
      (λ v same. each_packed ns t v (same ∙ e) h.1)

-- ---- windows that were looked at

module _ (w : World) where
  abbrev Stands : Result ℕ Cause → Type 0
  Stands (Ok n) = stands_in_one w n ≡ true
  Stands (Err cause) = Unit {0}

  abbrev AllStands : Result (List ℕ) Cause → Type 0
  AllStands (Ok ns) = AllStand w.tree ns
  AllStands (Err cause) = Unit {0}

  tested : (n : ℕ) (b : Bool) → stands_in_one w n ≡ b → Stands (cond b (Ok n) (Err (Fault (tcl.bare NotAllowedOnRoot))))
  tested n true e = e
  tested n false e = tt

  content_stands : (r : Result ℕ Cause) → Stands (tcl.after r (or_on_root w))
  content_stands (Ok n) = tested n (stands_in_one w n) refl
  content_stands (Err cause) = tt

  joined : (r : Result ℕ Cause) (rs : Result (List ℕ) Cause) → Stands r → AllStands rs → AllStands (tcl.after r (λ n. tcl.after rs (λ ns. Ok (n ∷ ns))))
  joined (Err cause) rs h hs = tt
  joined (Ok n) (Err cause) h hs = tt
  joined (Ok n) (Ok ns) h hs = (h, hs)

  contents_stand : (paths : List (List ℕ)) → AllStands (contents_of w paths)
  contents_stand [] = tt
  contents_stand (path ∷ paths) = joined (content_of w path) (contents_of w paths) (content_stands (window_of w path)) (contents_stand paths)

  -- what was looked at is packed, so an error of the script's own doesn't come
  pub never_refused : (paths options : List (List ℕ)) (ns : List ℕ) (new : World) (why : Interrupt) → contents_of w paths ≡ Ok ns → Came (options_read options)
      → FailsSo why (packed_each ns options w) → KeepsSo {X = List ℕ} (Err why) w new
  never_refused paths options ns new (interrupt.Script fault) e read h =
      absurd (subst Came h (each_packed options (λ p. all_alike options default_settings p (good (with_options default_settings options) read)) ns w.tree w refl (subst AllStands e (contents_stand paths))))
  never_refused paths options ns new interrupt.TooLarge e read h = tt
  never_refused paths options ns new interrupt.NoMemory e read h = tt
