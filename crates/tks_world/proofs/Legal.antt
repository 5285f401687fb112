-- Events of keys and buttons are events that there are.
use Rattle.std.proofs.Common.{◌≡◌, ◌≤◌, ◌<◌, ◌^◌, ◌+◌, ◌-◌, ℕ, zero, suc, pos, negsuc, Bool, true, false, cond, ◌&&◌, ◌==◌, List, [], ◌∷◌, Option, Some, None, IfSome, refl, arith}
use Rattle.std.specs.Prelude.{◌-ℤ◌, nat_le, nat_lt, decimal, if◌then◌else◌}
use Rattle.std.specs.List.{find}
use Rattle.std.proofs.lemmas.Bool.{and_from, and_parts, le-leb, lt-ltb, leb-true, ltb-true}
use Rattle.tks_text.specs.Size.{Extent, IsGridSize}
use Rattle.tks_event.specs.Kinds.{is_button, is_of_button, is_of_key}
use Rattle.tks_event.specs.Keysyms.{is_keysym}
use Rattle.tks_event.specs.Legality.{max_number, max_time, is_place, is_event}
use Rattle.tks_event.specs.declared.kind.Kind.{Kind}
use Rattle.tks_event.specs.declared.kind.Kind.TheVariants as kind
use Rattle.tks_cmd.proofs.Legal.{button_number_legal}
use Rattle.tks_state.specs.Layout.{IsShownOn, AllShownOn}
use Rattle.tks_state.specs.World.{World}
use Rattle.tks_state.specs.declared.layout.Placed.{Placed}
use Rattle.tks_world.specs.Keys.{key_event}
use Rattle.tks_world.specs.Buttons.{is_button_number, on_grid, IsNear, button_event}
use Rattle.tks_world.specs.declared.buttons.Target.{Target}

-- ---- keys

pub key_legal : (k : Kind) (key : List ℕ) (w : World) → is_of_key k ≡ true → w.clock < 2 ^ 62 → is_keysym key ≡ true → is_event (key_event k key w) ≡ true
unfolding is_event
key_legal kind.KeyPress key w of early is = and_from (nat_le w.clock max_time) _ (le-leb w.clock max_time (omega (arith, early))) (and_from (is_keysym key) true is refl)
key_legal kind.KeyRelease key w of early is = and_from (nat_le w.clock max_time) _ (le-leb w.clock max_time (omega (arith, early))) (and_from (is_keysym key) true is refl)
key_legal kind.ButtonPress key w of early is = absurd cc
key_legal kind.ButtonRelease key w of early is = absurd cc
key_legal kind.FocusIn key w of early is = absurd cc
key_legal kind.FocusOut key w of early is = absurd cc
key_legal kind.Virtual key w of early is = absurd cc

-- ---- buttons

place_between : (a b : ℕ) → a ≤ 100_000 → b ≤ 100_000 → is_place (pos a -ℤ pos b) ≡ true
place_between a zero low high = le-leb (a + 0) 100_000 (omega (arith, low))
place_between a (suc c) low high = by (nat_lt a (suc c))
  where
    by : (t : Bool) → is_place (cond t (negsuc (suc c - suc a)) (pos (a - suc c))) ≡ true
    by true = lt-ltb (suc c - suc a) 100_000 (omega (arith, high))
    by false = le-leb (a - suc c) 100_000 (omega (arith, low))

places : (a b c d : Bool) → a ≡ true → b ≡ true → c ≡ true → d ≡ true → (a && (b && (c && d))) ≡ true
places a b c d p q r s = and_from a _ p (and_from b _ q (and_from c d r s))

module _ (button x y : ℕ) (t : Target) (w : World) where
  -- the cells of the event lie in their ranges
  abbrev lies : Bool
  lies = is_place (pos x -ℤ pos t.column) && (is_place (pos y -ℤ pos t.row) && (is_place (pos x) && is_place (pos y)))

  pub button_legal : (k : Kind) → is_of_button k ≡ true → is_button_number button ≡ true → on_grid w x y ≡ true → IsGridSize w.grid.width w.grid.height → IsNear t → w.clock < 2 ^ 62
      → is_event (button_event k button x y t w) ≡ true
  unfolding is_event
  button_legal k of number cell size near early =
      let a = and_parts (nat_le 1 button) (nat_le button 5) number in
      let c = and_parts (nat_lt x w.grid.width) (nat_lt y w.grid.height) cell in
      let left : x ≤ 100_000 = omega (arith, ltb-true x w.grid.width c.0, size.1) in
      let top : y ≤ 100_000 = omega (arith, ltb-true y w.grid.height c.1, size.3) in
      let somewhere =
      places (is_place (pos x -ℤ pos t.column)) (is_place (pos y -ℤ pos t.row)) (is_place (pos x)) (is_place (pos y)) (place_between x t.column left (omega (arith, near.1)))
      (place_between y t.row top (omega (arith, near.2))) (le-leb x 100_000 left) (le-leb y 100_000 top) in
      by k of (and_from (nat_le t.window max_number) (nat_le w.clock max_time) (le-leb t.window max_number near.0) (le-leb w.clock max_time (omega (arith, early)))) (button_number_legal button (leb-true 1 button a.0) (leb-true button 5 a.1)) somewhere
    where
      by : (k : Kind) → is_of_button k ≡ true → (nat_le t.window max_number && nat_le w.clock max_time) ≡ true → is_button (decimal button) ≡ true → lies ≡ true → is_event (button_event k button x y t w) ≡ true
      by kind.ButtonPress of counts is somewhere =
          let both = and_parts (nat_le t.window max_number) (nat_le w.clock max_time) counts in
          and_from (nat_le t.window max_number) _ both.0 (and_from (nat_le w.clock max_time) _ both.1 (and_from (is_button (decimal button)) _ is (and_from lies true somewhere refl)))
      by kind.ButtonRelease of counts is somewhere =
          let both = and_parts (nat_le t.window max_number) (nat_le w.clock max_time) counts in
          and_from (nat_le t.window max_number) _ both.0 (and_from (nat_le w.clock max_time) _ both.1 (and_from (is_button (decimal button)) _ is (and_from lies true somewhere refl)))
      by kind.KeyPress of time is somewhere = absurd cc
      by kind.KeyRelease of time is somewhere = absurd cc
      by kind.FocusIn of time is somewhere = absurd cc
      by kind.FocusOut of time is somewhere = absurd cc
      by kind.Virtual of time is somewhere = absurd cc

-- ---- where windows lie

-- one of those that lie on a grid has its top left cell near
pub lies_near : (g : Extent) (o : Option Placed) → IsGridSize g.width g.height → IfSome o (IsShownOn g) → IfSome o (λ p. (p.area.x ≤ 200) × (p.area.y ≤ 100))
lies_near g None size h = tt
lies_near g (Some p) size h = (omega (arith, size.1, h.1.0), omega (arith, size.3, h.1.1))

found_inside : (g : Extent) (window : ℕ) (ps : List Placed) → AllShownOn g ps → IfSome (find (λ p. p.window == window) ps) (IsShownOn g)
found_inside g window [] all = tt
found_inside g window (p ∷ ps) all = by (p.window == window) (found_inside g window ps all.1)
  where
    by : (b : Bool) → IfSome (find (λ p. p.window == window) ps) (IsShownOn g) → IfSome (if b then Some p else find (λ p. p.window == window) ps) (IsShownOn g)
    by true rest = all.0
    by false rest = rest

pub found_near : (g : Extent) (window : ℕ) (ps : List Placed) → IsGridSize g.width g.height → AllShownOn g ps → IfSome (find (λ p. p.window == window) ps) (λ p. (p.area.x ≤ 200) × (p.area.y ≤ 100))
found_near g window ps size all = lies_near g (find (λ p. p.window == window) ps) size (found_inside g window ps all)
