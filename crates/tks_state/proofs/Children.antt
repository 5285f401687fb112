-- What is packed in windows stays their children.
use Rattle.std.proofs.Common.{◌≡◌, ℕ, ◌+◌, ◌<◌, ◌==◌, Bool, true, false, cond, if◌then◌else◌, List, [], ◌∷◌, ◌++◌, Option, Some, None, is_some, Result, Ok, Err, refl, sym, ap, subst, ◌∙◌, true≢false, arith}
use Rattle.std.specs.Prelude.{map, IfOk}
use Rattle.std.specs.List.{AllByRecursion, IsDistinct}
use Rattle.std.proofs.lemmas.Bool.{eqb-true, eq-eqb}
use Rattle.tks_text.specs.declared.class.Class.{Class}
use Rattle.tks_text.specs.declared.fault.ErrorNumber.TheVariants.{NotAllowedOnRoot}
use Rattle.tks_text.specs.declared.fault.ScriptFault.{ScriptFault}
use Rattle.tks_opt.specs.Options as options
use Rattle.tks_pack.specs.Packing.{nothing_packed, put, taken_out, settings_of, forgotten}
use Rattle.tks_pack.specs.Packing as packer
use Rattle.tks_pack.specs.Settings as settings
use Rattle.tks_pack.specs.declared.settings.Settings.{Settings}
use Rattle.tks_pack.specs.declared.packing.Content.{Content}
use Rattle.tks_tree.specs.Windows.{Window, Windows, of_number, parent, destroyed, first_windows}
use Rattle.tks_share.specs.Lists.{Rises}
use Rattle.tks_tree.specs.WellFormed as trees
use Rattle.tks_tree.specs.WellFormed.{Rise}
use Rattle.tks_tree.proofs.Parents.{Destroyed, destroyed_so, turned}
use Rattle.tks_state.specs.declared.kept.Kept.{Kept}
use Rattle.tks_state.specs.declared.widget.Widget.{Widget}
use Rattle.tks_state.specs.Windows.{kept_of, replaced, on_kept, with_widget, with_tags, with_packing, new_kept, with_widget_at, with_tags_at, packed_at, forgotten_at, propagating, still_there}
use Rattle.tks_state.specs.WellFormed.{InStep, packed_windows, PacksChildren, AllPackChildren, WellFormedWindows}

abbrev windows_of : List Content → List ℕ
windows_of cs = map (λ c. c.window) cs

-- ---- contents

-- what holds of the windows of contents, and of one more, holds where that one is packed
all_put : (P : ℕ → Type 0) (n : ℕ) (s : Settings) (cs : List Content) → P n → AllByRecursion P (windows_of cs) → AllByRecursion P (windows_of (put n s cs))
all_put P n s [] p all = (p, tt)
all_put P n s (c ∷ cs) p all = by (c.window == n) (all_put P n s cs p all.1)
  where
    by : (b : Bool) → AllByRecursion P (windows_of (put n s cs)) → AllByRecursion P (windows_of (if b then record { window = n; settings = s } ∷ cs else c ∷ put n s cs))
    by true rest = (p, all.1)
    by false rest = (all.0, rest)

distinct_put : (n : ℕ) (s : Settings) (cs : List Content) → IsDistinct ◌==◌ (windows_of cs) → IsDistinct ◌==◌ (windows_of (put n s cs))
unfolding IsDistinct
distinct_put n s [] d = (tt, tt)
distinct_put n s (c ∷ cs) d = by (c.window == n) refl (distinct_put n s cs d.1)
  where
    by : (b : Bool) → (c.window == n) ≡ b → IsDistinct ◌==◌ (windows_of (put n s cs)) → IsDistinct ◌==◌ (windows_of (if b then record { window = n; settings = s } ∷ cs else c ∷ put n s cs))
    by true e rest = (subst (λ m. AllByRecursion (λ y. (m == y) ≡ false) (windows_of cs)) (eqb-true c.window n e) d.0, d.1)
    by false e rest = (all_put (λ y. (c.window == y) ≡ false) n s cs e d.0, rest)

all_out : (P : ℕ → Type 0) (n : ℕ) (cs : List Content) → AllByRecursion P (windows_of cs) → AllByRecursion P (windows_of (taken_out n cs))
all_out P n [] all = tt
all_out P n (c ∷ cs) all = by (c.window == n) (all_out P n cs all.1)
  where
    by : (b : Bool) → AllByRecursion P (windows_of (taken_out n cs)) → AllByRecursion P (windows_of (if b then cs else c ∷ taken_out n cs))
    by true rest = all.1
    by false rest = (all.0, rest)

distinct_out : (n : ℕ) (cs : List Content) → IsDistinct ◌==◌ (windows_of cs) → IsDistinct ◌==◌ (windows_of (taken_out n cs))
unfolding IsDistinct
distinct_out n [] d = tt
distinct_out n (c ∷ cs) d = by (c.window == n) (distinct_out n cs d.1)
  where
    by : (b : Bool) → IsDistinct ◌==◌ (windows_of (taken_out n cs)) → IsDistinct ◌==◌ (windows_of (if b then cs else c ∷ taken_out n cs))
    by true rest = d.1
    by false rest = (all_out (λ y. (c.window == y) ≡ false) n cs d.0, rest)

all_weaker : {X : Type 0} (P Q : X → Type 0) (xs : List X) → ((x : X) → P x → Q x) → AllByRecursion P xs → AllByRecursion Q xs
all_weaker P Q [] f all = tt
all_weaker P Q (x ∷ xs) f all = (f x all.0, all_weaker P Q xs f all.1)

-- a window isn't among these
abbrev NotAmong : ℕ → List ℕ → Type 0
NotAmong n ms = AllByRecursion (λ m. (m == n) ≡ false) ms

-- of windows that differ, one that is taken out is gone
out_gone : (n : ℕ) (cs : List Content) → IsDistinct ◌==◌ (windows_of cs) → NotAmong n (windows_of (taken_out n cs))
unfolding IsDistinct
out_gone n [] d = tt
out_gone n (c ∷ cs) d = by (c.window == n) refl (out_gone n cs d.1)
  where
    by : (b : Bool) → (c.window == n) ≡ b → NotAmong n (windows_of (taken_out n cs)) → NotAmong n (windows_of (if b then cs else c ∷ taken_out n cs))
    by true e rest = all_weaker _ _ (windows_of cs) (λ y h. turned n y (subst (λ m. (m == y) ≡ false) (eqb-true c.window n e) h)) d.0
    by false e rest = (e, rest)

-- ---- what is kept of windows

kept_found : (n : ℕ) (ks : List Kept) (k : Kept) (t : Windows) → kept_of ks n ≡ Some k → AllPackChildren t ks → (k.window ≡ n) × PacksChildren t k
kept_found n [] k t e all = absurd (true≢false (sym (ap is_some e)))
kept_found n (l ∷ ks) k t e all = by (l.window == n) refl e (kept_found n ks k t)
  where
    by : (b : Bool) → (l.window == n) ≡ b → cond b (Some l) (kept_of ks n) ≡ Some k → (kept_of ks n ≡ Some k → AllPackChildren t ks → (k.window ≡ n) × PacksChildren t k)
        → (k.window ≡ n) × PacksChildren t k
    by true s e rest = subst (λ m. (m.window ≡ n) × PacksChildren t m) (some_same e) (eqb-true l.window n s, all.0)
      where
        some_same : Some l ≡ Some k → l ≡ k
        some_same e = ap (λ o. on_kept o l (λ m. m)) e
    by false s e rest = rest e all.1

all_replaced : (P : Kept → Type 0) (n : ℕ) (new : Kept) (ks : List Kept) → P new → AllByRecursion P ks → AllByRecursion P (replaced n new ks)
all_replaced P n new [] p all = tt
all_replaced P n new (k ∷ ks) p all = by (k.window == n) (all_replaced P n new ks p all.1)
  where
    by : (b : Bool) → AllByRecursion P (replaced n new ks) → AllByRecursion P (if b then new ∷ ks else k ∷ replaced n new ks)
    by true rest = (p, all.1)
    by false rest = (all.0, rest)

module _ (t : Windows) where
  out_packs : (n : ℕ) (k : Kept) → PacksChildren t k → PacksChildren t (with_packing k (forgotten n k.packing))
  out_packs n k p = record { distinct = distinct_out n k.packing.contents p.distinct; children = all_out (λ m. parent t m ≡ Some k.window) n k.packing.contents p.children }

  put_packs : (n : ℕ) (s : Settings) (k : Kept) → parent t n ≡ Some k.window → PacksChildren t k → PacksChildren t (with_packing k (record k.packing { contents = put n s k.packing.contents }))
  put_packs n s k child p = record { distinct = distinct_put n s k.packing.contents p.distinct; children = all_put (λ m. parent t m ≡ Some k.window) n s k.packing.contents child p.children }

  pub widget_packs : (ks : List Kept) (n : ℕ) (v : Widget) → AllPackChildren t ks → AllPackChildren t (with_widget_at ks n v)
  widget_packs ks n v all = by (kept_of ks n) refl
    where
      by : (o : Option Kept) → kept_of ks n ≡ o → AllPackChildren t (on_kept o ks (λ k. replaced n (with_widget k v) ks))
      by None e = all
      by (Some k) e =
          let p = (kept_found n ks k t e all).1 in
          all_replaced (PacksChildren t) n (with_widget k v) ks (record { distinct = p.distinct; children = p.children }) all

  pub tagged_packs : (ks : List Kept) (n : ℕ) (tags : Option (List (List ℕ))) → AllPackChildren t ks → AllPackChildren t (with_tags_at ks n tags)
  tagged_packs ks n tags all = by (kept_of ks n) refl
    where
      by : (o : Option Kept) → kept_of ks n ≡ o → AllPackChildren t (on_kept o ks (λ k. replaced n (with_tags k tags) ks))
      by None e = all
      by (Some k) e =
          let p = (kept_found n ks k t e all).1 in
          all_replaced (PacksChildren t) n (with_tags k tags) ks (record { distinct = p.distinct; children = p.children }) all

  pub packed_packs : (ks : List Kept) (n : ℕ) (words : List (List ℕ)) → AllPackChildren t ks → IfOk (packed_at ks (parent t n) n words) (AllPackChildren t)
  packed_packs ks n words all = by (parent t n) refl
    where
      with_settings : (c : ℕ) (k : Kept) → PacksChildren t k → parent t n ≡ Some k.window → (r : Result Settings ScriptFault)
          → IfOk (options.after (settings.after r (λ s. Ok (record k.packing { contents = put n s k.packing.contents }))) (λ p. Ok (replaced c (with_packing k p) ks))) (AllPackChildren t)
      with_settings c k p child (Ok s) = all_replaced (PacksChildren t) c _ ks (put_packs n s k child p) all
      with_settings c k p child (Err fault) = tt

      at_root : (c : ℕ) (k : Kept) → PacksChildren t k → parent t n ≡ Some k.window → (b : Bool)
          → IfOk (options.after (if b then Err (record { number = NotAllowedOnRoot; subject = None }) else settings.after (settings.with_options (settings_of n k.packing.contents) words) (λ s. Ok (record k.packing { contents = put n s k.packing.contents }))) (λ p. Ok (replaced c (with_packing k p) ks))) (AllPackChildren t)
      at_root c k p child true = tt
      at_root c k p child false = with_settings c k p child (settings.with_options (settings_of n k.packing.contents) words)

      in_container : (c : ℕ) → parent t n ≡ Some c → (o : Option Kept) → kept_of ks c ≡ o
          → IfOk (on_kept o (Ok ks) (λ k. options.after (packer.packed n words k.packing) (λ p. Ok (replaced c (with_packing k p) ks)))) (AllPackChildren t)
      in_container c child None e = all
      in_container c child (Some k) e =
          let found = kept_found c ks k t e all in
          at_root c k found.1 (child ∙ ap Some (sym found.0)) (n == 0)

      by : (o : Option ℕ) → parent t n ≡ o → IfOk (packed_at ks o n words) (AllPackChildren t)
      by None e = tt
      by (Some c) e = in_container c e (kept_of ks c) refl

  pub forgotten_packs : (ks : List Kept) (o : Option ℕ) (n : ℕ) → AllPackChildren t ks → AllPackChildren t (forgotten_at ks o n)
  forgotten_packs ks None n all = all
  forgotten_packs ks (Some c) n all = by (kept_of ks c) refl
    where
      by : (o : Option Kept) → kept_of ks c ≡ o → AllPackChildren t (on_kept o ks (λ k. replaced c (with_packing k (forgotten n k.packing)) ks))
      by None e = all
      by (Some k) e = all_replaced (PacksChildren t) c _ ks (out_packs n k (kept_found c ks k t e all).1) all

  pub propagating_packs : (ks : List Kept) (n : ℕ) (b : Bool) → AllPackChildren t ks → AllPackChildren t (propagating ks n b)
  propagating_packs ks n b all = by (kept_of ks n) refl
    where
      by : (o : Option Kept) → kept_of ks n ≡ o → AllPackChildren t (on_kept o ks (λ k. replaced n (with_packing k (record k.packing { propagates = b })) ks))
      by None e = all
      by (Some k) e =
          let p = (kept_found n ks k t e all).1 in
          all_replaced (PacksChildren t) n _ ks (record { distinct = p.distinct; children = p.children }) all

-- ---- a window that holds nothing

pub alone_packs : (t : Windows) (k : Kept) → k.packing ≡ nothing_packed → AllPackChildren t (k ∷ [])
unfolding IsDistinct
alone_packs t k e = (subst (λ p. PacksChildren t (with_packing k p)) (sym e) (record { distinct = tt; children = tt }), tt)

pub added_packs : (t u : Windows) (ks : List Kept) (number : ℕ) (v : Widget) → ((n container : ℕ) → parent t n ≡ Some container → parent u n ≡ Some container) → AllPackChildren t ks
    → AllPackChildren u (ks ++ new_kept number v ∷ [])
added_packs t u [] number v stands all = alone_packs u (new_kept number v) refl
added_packs t u (k ∷ ks) number v stands all =
    (record { distinct = all.0.distinct; children = all_weaker _ _ (packed_windows k) (λ n h. stands n k.window h) all.0.children }, added_packs t u ks number v stands all.1)

-- ---- a window less

abbrev Marks : Type 0
Marks = List (ℕ × Class)

abbrev first_of : Marks → Option (ℕ × Class)
first_of [] = None
first_of (m ∷ ms) = Some m

abbrev rest_of : Marks → Marks
rest_of [] = []
rest_of (m ∷ ms) = ms

abbrev number_in : Marks → ℕ
number_in [] = 0
number_in (m ∷ ms) = m.0

-- what is kept of windows is in the order of their numbers
pub kept_rise : (low : ℕ) (ws : List Window) (high : ℕ) (ks : List Kept) → InStep ws ks → Rise low ws high → Rises (λ k. k.window) low ks
kept_rise low ws high [] s r = tt
kept_rise low [] high (k ∷ ks) s r = absurd (true≢false (ap is_some (ap first_of s)))
kept_rise low (w ∷ ws) high (k ∷ ks) s r =
    let same : k.window ≡ w.number = ap (λ ms. number_in ms) s in
    (omega (arith, same, r.0), subst (λ n. Rises (λ k. k.window) (n + 1) ks) (sym same) (kept_rise (w.number + 1) ws high ks (ap rest_of s) r.1))

-- what is kept of windows that were made after one is kept of others
apart : (low : ℕ) (ks : List Kept) (n : ℕ) → Rises (λ k. k.window) low ks → n < low → AllByRecursion (λ k. (k.window == n) ≡ false) ks
apart low [] n r h = tt
apart low (k ∷ ks) n r h = (by (k.window == n) refl, apart (k.window + 1) ks n r.1 (omega (arith, h, r.0)))
  where
    by : (b : Bool) → (k.window == n) ≡ b → b ≡ false
    by false e = refl
    by true e = absurd (omega (arith, h, r.0, eqb-true k.window n e))

module _ (t : Windows) (n : ℕ) where
  abbrev Free : Kept → Type 0
  Free k = NotAmong n (packed_windows k)

  -- a window isn't packed where it doesn't stand
  free_elsewhere : (k : Kept) → PacksChildren t k → (parent t n ≡ Some k.window → ⊥) → Free k
  free_elsewhere k p other = all_weaker _ _ (packed_windows k) (λ m h. by m h (m == n) refl) p.children
    where
      by : (m : ℕ) → parent t m ≡ Some k.window → (b : Bool) → (m == n) ≡ b → b ≡ false
      by m h false e = refl
      by m h true e = absurd (other (ap (parent t) (sym (eqb-true m n e)) ∙ h))

  in_other : (c : ℕ) (k : Kept) → parent t n ≡ Some c → (k.window == c) ≡ false → PacksChildren t k → Free k
  in_other c k child other p = free_elsewhere k p (λ e. true≢false (sym (eq-eqb k.window c (same (sym e ∙ child))) ∙ other))
    where
      same : Some k.window ≡ Some c → k.window ≡ c
      same e = ap (λ o. or_none o) e
        where
          or_none : Option ℕ → ℕ
          or_none None = 0
          or_none (Some m) = m

  all_others : (c : ℕ) (ks : List Kept) → parent t n ≡ Some c → AllByRecursion (λ k. (k.window == c) ≡ false) ks → AllPackChildren t ks → AllByRecursion Free ks
  all_others c [] child others all = tt
  all_others c (k ∷ ks) child others all = (in_other c k child others.0 all.0, all_others c ks child others.1 all.1)

  free_in : (low c : ℕ) (new : Kept) (ks : List Kept) → Rises (λ k. k.window) low ks → parent t n ≡ Some c → Free new → AllPackChildren t ks → AllByRecursion Free (replaced c new ks)
  free_in low c new [] r child free all = tt
  free_in low c new (k ∷ ks) r child free all = by (k.window == c) refl (free_in (k.window + 1) c new ks r.1 child free all.1)
    where
      by : (b : Bool) → (k.window == c) ≡ b → AllByRecursion Free (replaced c new ks) → AllByRecursion Free (if b then new ∷ ks else k ∷ replaced c new ks)
      by true e rest = (free, all_others c ks child (apart (k.window + 1) ks c r.1 (omega (arith, eqb-true k.window c e))) all.1)
      by false e rest = (in_other c k child e all.0, rest)

  none_of : (c : ℕ) (ks : List Kept) → kept_of ks c ≡ None → AllByRecursion (λ k. (k.window == c) ≡ false) ks
  none_of c [] e = tt
  none_of c (k ∷ ks) e = by (k.window == c) refl e (none_of c ks)
    where
      by : (b : Bool) → (k.window == c) ≡ b → cond b (Some k) (kept_of ks c) ≡ None → (kept_of ks c ≡ None → AllByRecursion (λ k. (k.window == c) ≡ false) ks)
          → AllByRecursion (λ k. (k.window == c) ≡ false) (k ∷ ks)
      by true s e rest = absurd (true≢false (ap is_some e))
      by false s e rest = (s, rest e)

  -- a window that its container holds no more is packed nowhere
  free_all : (ks : List Kept) → Rises (λ k. k.window) 0 ks → AllPackChildren t ks → AllByRecursion Free (forgotten_at ks (parent t n) n)
  free_all ks r all = by (parent t n) refl
    where
      in_container : (c : ℕ) → parent t n ≡ Some c → (o : Option Kept) → kept_of ks c ≡ o → AllByRecursion Free (on_kept o ks (λ k. replaced c (with_packing k (forgotten n k.packing)) ks))
      in_container c child None e = all_others c ks child (none_of c ks e) all
      in_container c child (Some k) e = free_in 0 c _ ks r child (out_gone n k.packing.contents (kept_found c ks k t e all).1.distinct) all

      nowhere : (ks : List Kept) → parent t n ≡ None → AllPackChildren t ks → AllByRecursion Free ks
      nowhere [] e all = tt
      nowhere (k ∷ ks) e all = (free_elsewhere k all.0 (λ child. true≢false (sym (ap is_some (sym e ∙ child)))), nowhere ks e all.1)

      by : (o : Option ℕ) → parent t n ≡ o → AllByRecursion Free (forgotten_at ks o n)
      by None e = nowhere ks e all
      by (Some c) e = in_container c e (kept_of ks c) refl

  -- what is packed nowhere may go, with all that stand in it
  still_packs : (u : Windows) (ks : List Kept) → Destroyed t u n → AllByRecursion Free ks → AllPackChildren t ks → AllPackChildren u (still_there u.windows ks)
  still_packs u [] d free all = tt
  still_packs u (k ∷ ks) d free all = by (is_some (of_number u.windows k.window)) refl (still_packs u ks d free.1 all.1)
    where
      stand : is_some (of_number u.windows k.window) ≡ true → (ms : List ℕ) → NotAmong n ms → AllByRecursion (λ m. parent t m ≡ Some k.window) ms → AllByRecursion (λ m. parent u m ≡ Some k.window) ms
      stand there [] others children = tt
      stand there (m ∷ ms) others children = (d.stands m k.window children.0 there others.0, stand there ms others.1 children.1)

      by : (b : Bool) → is_some (of_number u.windows k.window) ≡ b → AllPackChildren u (still_there u.windows ks)
          → AllPackChildren u (cond b (k ∷ still_there u.windows ks) (still_there u.windows ks))
      by true there rest = (record { distinct = all.0.distinct; children = stand there (packed_windows k) free.0 all.0.children }, rest)
      by false there rest = rest

pub left_packs : (t u : Windows) (n : ℕ) (ks : List Kept) → trees.WellFormed t → destroyed t n ≡ Ok u → InStep t.windows ks → AllPackChildren t ks
    → AllPackChildren u (still_there u.windows (forgotten_at ks (parent t n) n))
left_packs t u n ks w gone s all =
    let r = kept_rise 0 t.windows t.next ks s w.numbered in
    still_packs t n u (forgotten_at ks (parent t n) n) (destroyed_so t u n w gone) (free_all t n ks r all) (forgotten_packs t ks (parent t n) n all)

-- what is kept is in the order of windows' numbers
pub kept_rises : (t : Windows) (ks : List Kept) → WellFormedWindows (record { tree = t; kept = ks }) → Rises (λ k. k.window) 0 ks
kept_rises t ks f = kept_rise 0 t.windows t.next ks f.in_step f.windows.numbered

-- ---- the first windows

pub first_well : trees.WellFormed first_windows
first_well = record { first = ([], refl); numbered = (omega arith, omega arith); bounded = omega arith; founded = (record { path = refl; new = refl; parent = tt }, tt); classes = (refl, tt) }
