-- What moves no window.
use Rattle.std.proofs.Common.{◌≡◌, ℕ, ◌+◌, ◌≤◌, Bool, true, false, if◌then◌else◌, List, [], ◌∷◌, ◌++◌, append_assoc, Option, Some, None, Result, Ok, Err, refl, sym, ap, subst, ◌∙◌, arith}
use Rattle.std.specs.Prelude.{◌==◌, IfSome, is_some, length, option_map, option_and_then}
use Rattle.std.proofs.lemmas.Bool.{eq-eqb}
use Rattle.std.proofs.lemmas.Option.{same_Some}
use Rattle.std.proofs.lemmas.Bool.Decides.{nat_tests}
use Rattle.std.specs.FinMap as map
use Rattle.tks_text.specs.Size as grid
use Rattle.tks_pack.specs.Packing as packer
use Rattle.tks_pack.specs.declared.area.Area.{Area}
use Rattle.tks_pack.specs.declared.area.Extent.{Extent}
use Rattle.tks_share.specs.Lists.{Rises}
use Rattle.tks_tree.specs.Windows.{preorder}
use Rattle.tks_vars.specs.Variables.{Variables}
use Rattle.tks_state.specs.ByWindow.{ByWindow}
use Rattle.tks_opt.specs.Options as options
use Rattle.tks_opt.specs.Options.{value_in}
use Rattle.tks_opt.specs.declared.said.Said.{Said}
use Rattle.tks_text.specs.declared.fault.ScriptFault.{ScriptFault}
use Rattle.tks_opt.specs.Values.{number_within}
use Rattle.tks_opt.specs.Table.{max_size}
use Rattle.tks_opt.specs.declared.name.OptionName.TheVariants as name
use Rattle.tks_pack.specs.Packing.{capped}
use Rattle.tks_entry.specs.Entry.{Entry}
use Rattle.tks_entry.specs.Shown.{or_length}
use Rattle.tks_state.specs.Links.{some_name, global_if, or_empty, link_of, with_text, linked, seen, requested, AsksAs}
use Rattle.tks_state.specs.Widget as widgets
use Rattle.tks_state.specs.Widget.{options_of}
use Rattle.tks_state.specs.declared.widget.Widget.TheVariants as widget
use Rattle.tks_state.specs.Windows.{Windows, kept_of, on_kept, replaced, with_widget, with_tags, changed, tagged, done}
use Rattle.tks_state.specs.Layout.{size_in, or_own, with_size, sizes_before, sizes, with_contents_of, placed_after, grid_area, shown_of}
use Rattle.tks_state.specs.Laid.{shown_in, asks_of, asked_by, AllAsk, Laid, StandSo, ArePlaces, AsksAlone, AreSame}
use Rattle.tks_state.specs.declared.laid.Asked.{Asked}
use Rattle.tks_state.specs.declared.kept.Kept.{Kept}
use Rattle.tks_state.specs.declared.widget.Widget.{Widget}

-- ---- variables, where no window is linked

seen_alone : (variables : Variables) (w : Widget) → link_of w ≡ None → seen variables w ≡ w
unfolding seen
seen_alone variables w e = ap (λ o. linked variables o w) e

pub asks_alone : (variables others : Variables) (v w : Widget) → link_of v ≡ None → link_of w ≡ None → widgets.requested v ≡ widgets.requested w → requested variables v ≡ requested others w
unfolding requested
asks_alone variables others v w first second same = ap widgets.requested (seen_alone variables v first) ∙ same ∙ sym (ap widgets.requested (seen_alone others w second))

pub not_linked : (o : Option (List ℕ)) → is_some o ≡ false → o ≡ None
not_linked None e = refl
not_linked (Some name) e = absurd cc

-- two entries that show one global and are as wide as each other
pub entries_ask : (v w : Widget) (e f : Entry) → v ≡ widget.Entry e → w ≡ widget.Entry f → is_some (link_of v) ≡ true → value_in (options_of v).values name.TextVariable ≡ value_in (options_of w).values name.TextVariable
    → value_in (options_of v).values name.Width ≡ value_in (options_of w).values name.Width → AsksAs v w
unfolding requested seen link_of with_text
entries_ask v w e f first second has link wide variables = ap (requested variables) first ∙ same ∙ sym (ap (requested variables) second)
  where
    links : value_in e.options.values name.TextVariable ≡ value_in f.options.values name.TextVariable
    links = sym (ap (λ v. value_in (options_of v).values name.TextVariable) first) ∙ link ∙ ap (λ v. value_in (options_of v).values name.TextVariable) second

    widths : value_in e.options.values name.Width ≡ value_in f.options.values name.Width
    widths = sym (ap (λ v. value_in (options_of v).values name.Width) first) ∙ wide ∙ ap (λ v. value_in (options_of v).values name.Width) second

    linked_so : is_some (option_and_then some_name (value_in e.options.values name.TextVariable)) ≡ true
    linked_so = sym (ap (λ v. is_some (link_of v)) first) ∙ has

    by : (o : Option (List ℕ)) → is_some o ≡ true → widgets.requested (linked variables o (widget.Entry e)) ≡ widgets.requested (linked variables o (widget.Entry f))
    by None h = absurd cc
    by (Some n) h = ap (λ o. record { width = capped (or_length (option_and_then (number_within 0 max_size) o) (length (or_empty (global_if variables n)))); height = 1 }) widths

    same : requested variables (widget.Entry e) ≡ requested variables (widget.Entry f)
    same =
        by (option_and_then some_name (value_in e.options.values name.TextVariable)) linked_so
        ∙ ap (λ o. widgets.requested (linked variables (option_and_then some_name o) (widget.Entry f))) links

module _ (variables others : Variables) where
  -- of windows behind one, what they ask for is found behind it
  asks_behind : (k : Kept) (kept part : List Kept) (low : ℕ) → k.window + 1 ≤ low → Rises (λ k. k.window) low part → AllAsk others (k ∷ kept) (asked_by variables part) → AllAsk others kept (asked_by variables part)
  asks_behind k kept [] low above rises asks = asks
  asks_behind k kept (m ∷ part) low above rises asks = by (is_some (link_of m.widget)) (asks_behind k kept part (m.window + 1) (omega (arith, above, rises.0)) rises.1) asks
    where
      other : (k.window == m.window) ≡ false
      other = grind (arith, nat_tests, above, rises)

      by : (b : Bool) → (AllAsk others (k ∷ kept) (asked_by variables part) → AllAsk others kept (asked_by variables part))
          → AllAsk others (k ∷ kept) (if b then record { window = m.window; size = requested variables m.widget } ∷ asked_by variables part else asked_by variables part)
          → AllAsk others kept (if b then record { window = m.window; size = requested variables m.widget } ∷ asked_by variables part else asked_by variables part)
      by true rest asks = (ap (λ b. option_map (λ k. requested others k.widget) (if b then Some k else kept_of kept m.window)) (sym other) ∙ asks.0, rest asks.1)
      by false rest asks = rest asks

  -- the first one asks for what it did, and so do the others
  first_asks : (k : Kept) (kept part : List Kept) → AllAsk others (k ∷ kept) (asked_by variables (k ∷ part)) → (requested others k.widget ≡ requested variables k.widget) × AllAsk others (k ∷ kept) (asked_by variables part)
  first_asks k kept part asks = by (is_some (link_of k.widget)) refl asks
    where
      by : (b : Bool) → is_some (link_of k.widget) ≡ b
          → AllAsk others (k ∷ kept) (if b then record { window = k.window; size = requested variables k.widget } ∷ asked_by variables part else asked_by variables part)
          → (requested others k.widget ≡ requested variables k.widget) × AllAsk others (k ∷ kept) (asked_by variables part)
      by true e asks = (same_Some _ _ (ap (λ b. option_map (λ k. requested others k.widget) (if b then Some k else kept_of kept k.window)) (sym (eq-eqb k.window k.window refl)) ∙ asks.0), asks.1)
      by false e asks = let alone = not_linked (link_of k.widget) e in (asks_alone others variables k.widget k.widget alone alone refl, asks)

  size_same : (k : Kept) (first second : ByWindow Extent) → requested others k.widget ≡ requested variables k.widget → first ≡ second → with_size others k first ≡ with_size variables k second
  size_same k first second same known = λ i. map.insert (known i) k.window (or_own (same i) (packer.requested (size_in (known i)) k.packing.propagates k.packing.contents))

  sizes_any : (kept : List Kept) (low : ℕ) (later : ByWindow Extent) → Rises (λ k. k.window) low kept → AllAsk others kept (asked_by variables kept) → sizes_before others kept later ≡ sizes_before variables kept later
  sizes_any [] low later rises asks = refl
  sizes_any (k ∷ kept) low later rises asks =
      let first = first_asks k kept kept asks in
      size_same k (sizes_before others kept later) (sizes_before variables kept later) first.0
      (sizes_any kept (k.window + 1) later rises.1 (asks_behind k kept kept (k.window + 1) (omega arith) rises.1 first.1))

  pub shown_any : (x : Windows) (g : grid.Extent) → Rises (λ k. k.window) 0 x.kept → AllAsk others x.kept (asked_by variables x.kept) → shown_in variables x g ≡ shown_in others x g
  shown_any x g rises asks = ap (λ s. shown_of (placed_after s (map.insert map.empty 0 (grid_area g)) x.kept) (preorder x.tree)) (sym (sizes_any x.kept 0 map.empty rises asks))

asked_with : (variables : Variables) (k : Kept) (rest : List Kept) → asked_by variables (k ∷ []) ++ asked_by variables rest ≡ asked_by variables (k ∷ rest)
asked_with variables k rest = by (is_some (link_of k.widget))
  where
    one : Asked
    one = record { window = k.window; size = requested variables k.widget }

    by : (b : Bool) → (if b then one ∷ [] else []) ++ asked_by variables rest ≡ (if b then one ∷ asked_by variables rest else asked_by variables rest)
    by true = refl
    by false = refl

-- what one more asks for
pub asked_more : (variables : Variables) (old new : List Asked) (all rest : List Kept) (k : Kept) {wanted : List Asked} → all ≡ k ∷ rest → new ≡ old ++ asked_by variables (k ∷ [])
    → old ++ asked_by variables all ≡ wanted → new ++ asked_by variables rest ≡ wanted
asked_more variables old new all rest k e made so_far =
    ap (λ a. a ++ asked_by variables rest) made ∙ append_assoc old (asked_by variables (k ∷ [])) (asked_by variables rest)
    ∙ ap (λ a. old ++ a) (asked_with variables k rest ∙ ap (asked_by variables) (sym e)) ∙ so_far

-- ---- a window that asks for the same room, with the same contents

record StaysPut (k l : Kept) : Type 0 where
  window : k.window ≡ l.window
  packing : k.packing ≡ l.packing
  asks : AsksAs k.widget l.widget

-- what a window asks for that is the first one, or among the others
abbrev asks_or : Variables → List Kept → ℕ → Bool → Kept → Option Extent
asks_or variables kept m b j = option_map (λ k. requested variables k.widget) (if b then Some j else kept_of kept m)

module _ (n : ℕ) (k l : Kept) (stays : StaysPut k l) where
  size_stays : (variables : Variables) (known : ByWindow Extent) → with_size variables l known ≡ with_size variables k known
  size_stays variables known = sym (λ i. map.insert known (stays.window i) (or_own (stays.asks variables i) (packer.requested (size_in known) (stays.packing i).propagates (stays.packing i).contents)))

  sizes_stay : (variables : Variables) (kept : List Kept) (later : ByWindow Extent) → kept_of kept n ≡ Some k → sizes_before variables (replaced n l kept) later ≡ sizes_before variables kept later
  sizes_stay variables [] later there = refl
  sizes_stay variables (m ∷ kept) later there = by (m.window == n) (sizes_stay variables kept later) there
    where
      by : (b : Bool) → (kept_of kept n ≡ Some k → sizes_before variables (replaced n l kept) later ≡ sizes_before variables kept later) → (if b then Some m else kept_of kept n) ≡ Some k
          → sizes_before variables (if b then l ∷ kept else m ∷ replaced n l kept) later ≡ sizes_before variables (m ∷ kept) later
      by true rest there = size_stays variables (sizes_before variables kept later) ∙ ap (λ k. with_size variables k (sizes_before variables kept later)) (sym (same_Some m k there))
      by false rest there = ap (with_size variables m) (rest there)

  contents_stay : (known : ByWindow Extent) (before : ByWindow Area) → with_contents_of known l (map.get before l.window) before ≡ with_contents_of known k (map.get before k.window) before
  contents_stay known before = sym (λ i. with_contents_of known (record k { packing = stays.packing i }) (map.get before (stays.window i)) before)

  places_stay : (known : ByWindow Extent) (kept : List Kept) (before : ByWindow Area) → kept_of kept n ≡ Some k → placed_after known before (replaced n l kept) ≡ placed_after known before kept
  places_stay known [] before there = refl
  places_stay known (m ∷ kept) before there = by (m.window == n) (places_stay known kept (with_contents_of known m (map.get before m.window) before)) there
    where
      after : ByWindow Area
      after = with_contents_of known m (map.get before m.window) before

      by : (b : Bool) → (kept_of kept n ≡ Some k → placed_after known after (replaced n l kept) ≡ placed_after known after kept) → (if b then Some m else kept_of kept n) ≡ Some k
          → placed_after known before (if b then l ∷ kept else m ∷ replaced n l kept) ≡ placed_after known before (m ∷ kept)
      by true rest there = ap (λ ps. placed_after known ps kept) (contents_stay known before ∙ ap (λ k. with_contents_of known k (map.get before k.window) before) (sym (same_Some m k there)))
      by false rest there = rest there

  shown_stays : (variables : Variables) (x : Windows) (g : grid.Extent) → kept_of x.kept n ≡ Some k → shown_in variables (record x { kept = replaced n l x.kept }) g ≡ shown_in variables x g
  shown_stays variables x g there =
      ap (λ s. shown_of (placed_after s (map.insert map.empty 0 (grid_area g)) (replaced n l x.kept)) (preorder x.tree)) (sizes_stay variables x.kept map.empty there)
      ∙ ap (λ ps. shown_of ps (preorder x.tree)) (places_stay (sizes variables x.kept) x.kept (map.insert map.empty 0 (grid_area g)) there)

  own_asks : (variables : Variables) (kept : List Kept) (m : ℕ) (b : Bool) → asks_or variables kept m b l ≡ asks_or variables kept m b k
  own_asks variables kept m true = ap Some (sym (stays.asks variables))
  own_asks variables kept m false = refl

  asks_stay : (variables : Variables) (kept : List Kept) (m : ℕ) → kept_of kept n ≡ Some k → asks_of variables (replaced n l kept) m ≡ asks_of variables kept m
  asks_stay variables [] m there = refl
  asks_stay variables (j ∷ kept) m there = by (j.window == n) (asks_stay variables kept m) there
    where
      other : (b : Bool) → asks_of variables (replaced n l kept) m ≡ asks_of variables kept m → asks_or variables (replaced n l kept) m b j ≡ asks_or variables kept m b j
      other true rest = refl
      other false rest = rest

      by : (b : Bool) → (kept_of kept n ≡ Some k → asks_of variables (replaced n l kept) m ≡ asks_of variables kept m) → (if b then Some j else kept_of kept n) ≡ Some k
          → asks_of variables (if b then l ∷ kept else j ∷ replaced n l kept) m ≡ asks_of variables (j ∷ kept) m
      by true rest there =
          ap (λ w. asks_or variables kept m (w == m) l) (sym stays.window) ∙ own_asks variables kept m (k.window == m)
          ∙ ap (λ k. asks_or variables kept m (k.window == m) k) (sym (same_Some j k there))
      by false rest there = other (j.window == m) (rest there)

  all_asks_stay : (variables : Variables) (kept : List Kept) (asked : List Asked) → kept_of kept n ≡ Some k → AllAsk variables (replaced n l kept) asked → AllAsk variables kept asked
  all_asks_stay variables kept [] there asks = tt
  all_asks_stay variables kept (a ∷ asked) there asks = (sym (asks_stay variables kept a.window there) ∙ asks.0, all_asks_stay variables kept asked there asks.1)

  stands_still : (x : Windows) (g : grid.Extent) (laid : Laid) → kept_of x.kept n ≡ Some k → StandSo x g laid → StandSo (record x { kept = replaced n l x.kept }) g laid
  stands_still x g laid there stands = record {
    always = λ variables asks. stands.always variables (all_asks_stay variables x.kept laid.asked there asks) ∙ sym (shown_stays variables x g there);
    inside = stands.inside;
  }

-- another widget that asks for the same room
pub widget_stays : (x : Windows) (g : grid.Extent) (n : ℕ) (w : Widget) (old now : Option Laid)
    → IfSome now (λ laid. (old ≡ Some laid) × IfSome (kept_of x.kept n) (λ k. AsksAs k.widget w)) → ArePlaces x g old → ArePlaces (changed x n w) g now
widget_stays x g n w old None asks all = tt
widget_stays x g n w old (Some laid) asks all = by (kept_of x.kept n) refl asks.1
  where
    same : StandSo x g laid
    same = subst (ArePlaces x g) asks.0 all

    by : (o : Option Kept) → kept_of x.kept n ≡ o → IfSome o (λ k. AsksAs k.widget w) → StandSo (record x { kept = on_kept o x.kept (λ k. replaced n (with_widget k w) x.kept) }) g laid
    by None e asks = same
    by (Some k) e asks = stands_still n k (with_widget k w) (record { window = refl; packing = refl; asks = asks }) x g laid e same

-- a window that is changed is found with its new widget
found_changed : (n : ℕ) (k : Kept) (w : Widget) (ks : List Kept) → kept_of ks n ≡ Some k → kept_of (replaced n (with_widget k w) ks) n ≡ Some (with_widget k w)
found_changed n k w [] h = absurd cc
found_changed n k w (m ∷ ks) h = by (m.window == n) refl h (found_changed n k w ks)
  where
    by : (b : Bool) → (m.window == n) ≡ b → (if b then Some m else kept_of ks n) ≡ Some k → (kept_of ks n ≡ Some k → kept_of (replaced n (with_widget k w) ks) n ≡ Some (with_widget k w))
        → kept_of (if b then with_widget k w ∷ ks else m ∷ replaced n (with_widget k w) ks) n ≡ Some (with_widget k w)
    by true e there rest = ap (λ b. if b then Some (with_widget k w) else kept_of ks n) (subst (λ (j : Kept). (j.window == n) ≡ true) (same_Some m k there) e)
    by false e there rest = rw e (rest there)

-- a change after which a window asks for the same room, and shows no global, moves none
pub change_stays : (x y : Windows) (g : grid.Extent) (n : ℕ) (does : Widget → Result (Said × Widget) ScriptFault) (said : Said) (size : Extent) (places : Option Laid)
    → done x n does ≡ Ok (said, y) → AsksAlone x n size → AsksAlone y n size → ArePlaces x g places → ArePlaces y g places
change_stays x y g n does said size places is before after all = by (does k.widget) (rw before.there at is)
  where
    k : Kept
    k = before.kept

    still : (w : Widget) → AsksAs k.widget w → (o : Option Laid) → ArePlaces x g o → ArePlaces (record x { kept = replaced n (with_widget k w) x.kept }) g o
    still w asks None stands = tt
    still w asks (Some laid) stands = stands_still n k (with_widget k w) (record { window = refl; packing = refl; asks = asks }) x g laid before.there stands

    asks_same : (w : Widget) → record x { kept = replaced n (with_widget k w) x.kept } ≡ y → AsksAs k.widget w
    asks_same w same variables =
        let there : kept_of (replaced n (with_widget k w) x.kept) n ≡ Some after.kept = ap (λ (z : Windows). kept_of z.kept n) same ∙ after.there in
        let it : after.kept ≡ with_widget k w = same_Some after.kept (with_widget k w) (sym there ∙ found_changed n k w x.kept before.there) in
        asks_alone variables variables k.widget w before.alone (ap (λ (j : Kept). link_of j.widget) (sym it) ∙ after.alone)
        (before.asks ∙ sym (ap (λ (j : Kept). widgets.requested j.widget) (sym it) ∙ after.asks))

    by : (r : Result (Said × Widget) ScriptFault)
        → options.after {X = Said × List Kept} {Y = Said × Windows} (options.after {X = Said × Widget} {Y = Said × List Kept} r (λ a. Ok (a.0, replaced n (with_widget k a.1) x.kept))) (λ a. Ok (a.0, record x { kept = a.1 })) ≡ Ok (said, y)
        → ArePlaces y g places
    by (Err fault) e = absurd cc
    by (Ok (s, w)) e =
        let same : record x { kept = replaced n (with_widget k w) x.kept } ≡ y = ap (λ (a : Result (Said × Windows) ScriptFault). elim a as (λ _. Windows) [ Ok z ↦ z.1 | Err f ↦ y ]) e in
        subst (λ z. ArePlaces z g places) same (still w (asks_same w same) places all)

pub rooms_same : (x y : Windows) (n : ℕ) (o p : Option Extent) → AreSame o p → IfSome o (AsksAlone x n) → IfSome p (AsksAlone y n) → (size : Extent) × AsksAlone x n size × AsksAlone y n size
rooms_same x y n (Some e) (Some f) same before after = (e, before, subst (AsksAlone y n) (sym same) after)
rooms_same x y n None p same before after = absurd same
rooms_same x y n (Some e) None same before after = absurd same

pub kept_if_stays : (y : Windows) (g : grid.Extent) (b : Bool) (places : Option Laid) → (b ≡ true → ArePlaces y g places) → ArePlaces y g (if b then places else None)
kept_if_stays y g true places stays = stays refl
kept_if_stays y g false places stays = tt

-- other tags
pub tags_stay : (x : Windows) (g : grid.Extent) (n : ℕ) (tags : Option (List (List ℕ))) (places : Option Laid) → ArePlaces x g places → ArePlaces (tagged x n tags) g places
tags_stay x g n tags None all = tt
tags_stay x g n tags (Some laid) all = by (kept_of x.kept n) refl
  where
    by : (o : Option Kept) → kept_of x.kept n ≡ o → StandSo (record x { kept = on_kept o x.kept (λ k. replaced n (with_tags k tags) x.kept) }) g laid
    by None e = all
    by (Some k) e = stands_still n k (with_tags k tags) (record { window = refl; packing = refl; asks = λ _. refl }) x g laid e all
