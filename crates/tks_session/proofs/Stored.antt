-- A world of the machine is stored in its bytes.
use Rattle.std.proofs.Common.{◌≡◌, ◌<◌, ◌==◌, ◌&&◌, Bool, true, false, drop, length, List, [], ◌∷◌, ℕ, suc, zero, Some, IfSome, Ok, refl, sym, ap, ◌∙◌, arith, append-nil}
use Rattle.std.specs.Bool.{then_some}
use Rattle.std.proofs.lemmas.Bool.{and_from, and_parts, eqb-true}
use Rattle.std.proofs.lemmas.Bool.Decides.{nat_tests}
use Rattle.std.specs.Cmp.Lexicographic.{bytes_decides}
use Rattle.tks_text.specs.Size.{Extent}
use Rattle.tks_text.specs.declared.limits.Limits.{Limits}
use Rattle.tks_text.specs.Text.{same_text}
use Rattle.tks_app.specs.Applications.{Application, AreNames}
use Rattle.tks_app.specs.Memories.{first_memories}
use Rattle.tks_app.proofs.Firsts.{first_names}
use Rattle.tks_spelling.specs.Spelling.{Read}
use Rattle.tks_spelling.specs.declared.format.Format.{Format}
use Rattle.tks_spelling.specs.declared.format.Format.TheVariants.{Two}
use Rattle.tks_spelling.specs.declared.header.Header.{Header}
use Rattle.tks_codec.specs.World as codec
use Rattle.tks_codec.proofs.OfWorlds.{world_lawful}
use Rattle.tks_durable.specs.Opening.{same_grid, same_names}
use Rattle.tks_state.specs.World.{World, first_world}
use Rattle.tks_limits.specs.Within.{within}
use Rattle.tks_session.specs.Terminals.{is_nothing, is_own, is_stored, names_of, spelled, stored, stored_in}

-- ---- what stands behind what was read

pub nothing_left : (read : ℕ) (bytes : List ℕ) → read ≡ length bytes → is_nothing (drop read bytes) ≡ true
nothing_left zero [] is = refl
nothing_left zero (byte ∷ bytes) is = absurd (omega (arith, is))
nothing_left (suc read) [] is = refl
nothing_left (suc read) (byte ∷ bytes) is = nothing_left read bytes (omega (arith, is))

pub some_left : (read : ℕ) (bytes : List ℕ) → read < length bytes → is_nothing (drop read bytes) ≡ false
some_left zero [] less = absurd (omega (arith, less))
some_left zero (byte ∷ bytes) less = refl
some_left (suc read) [] less = absurd (omega (arith, less))
some_left (suc read) (byte ∷ bytes) less = some_left read bytes (omega (arith, less))

-- ---- worlds of a machine

each_named : (names : List (List ℕ)) → same_names names names ≡ true
each_named [] = refl
each_named (name ∷ names) = ap (λ b. b && same_names names names) ((bytes_decides name name).1 refl) ∙ each_named names

names_are : (names : List (List ℕ)) → AreNames names → same_names (names_of (first_memories names)) names ≡ true
names_are names are = ap (λ (ns : List (List ℕ)). same_names ns names) (first_names names are) ∙ each_named names

-- lists of names that are told to be the same are
names_same : (names others : List (List ℕ)) → same_names names others ≡ true → names ≡ others
names_same [] [] h = refl
names_same [] (other ∷ others) h = absurd cc
names_same (name ∷ names) [] h = absurd cc
names_same (name ∷ names) (other ∷ others) h =
    let both = and_parts (same_text name other) (same_names names others) h in
    (λ i. (bytes_decides name other).0 both.0 i ∷ names_same names others both.1 i)

grids_same : (a b : Extent) → same_grid a b ≡ true → a ≡ b
grids_same a b h =
    let both = and_parts (a.width == b.width) (a.height == b.height) h in
    let width = eqb-true a.width b.width both.0 in
    let height = eqb-true a.height b.height both.1 in
    (λ i. record { width = width i; height = height i })

grid_is : (grid : Extent) → same_grid grid grid ≡ true
grid_is grid = and_from (grid.width == grid.width) (grid.height == grid.height) (grind (arith, nat_tests)) (grind (arith, nat_tests))

-- a world whose bytes are read is stored in them, behind a header with the names of its memories
stored_alone : (names : List (List ℕ)) (world : World) (read : Read World) → read ≡ Ok (world, []) → same_names (names_of world.memories) names ≡ true → stored_in names read ≡ Some world
stored_alone names world read is same = ap (stored_in names) is ∙ ap (λ (b : Bool). then_some b world) same

-- what a world of the machine is
module _ (app : Application) (limits : Limits) (grid : Extent) where
  own : (world : World) → same_grid world.grid grid ≡ true → same_names (names_of world.memories) app.names ≡ true → within limits world ≡ true → is_own app limits grid world ≡ true
  own world on_grid named fits =
      and_from (same_grid world.grid grid) (same_names (names_of world.memories) app.names && within limits world) on_grid
      (and_from (same_names (names_of world.memories) app.names) (within limits world) named fits)

  own_parts : (world : World) → is_own app limits grid world ≡ true → (world.grid ≡ grid) × (names_of world.memories ≡ app.names) × (within limits world ≡ true)
  own_parts world h =
      let two = and_parts (same_grid world.grid grid) (same_names (names_of world.memories) app.names && within limits world) h in
      let last = and_parts (same_names (names_of world.memories) app.names) (within limits world) two.1 in
      (grids_same world.grid grid two.0, names_same (names_of world.memories) app.names last.0, last.1)

  pub own_within : (world : World) → is_own app limits grid world ≡ true → within limits world ≡ true
  own_within world h = (own_parts world h).2

  -- the first world is, where the limits admit it
  pub first_own : (world : World) → AreNames app.names → world ≡ first_world grid app.names → within limits world ≡ true → is_own app limits grid world ≡ true
  first_own world are is fits =
      own world (ap (λ (w : World). same_grid w.grid grid) is ∙ grid_is grid) (ap (λ (w : World). same_names (names_of w.memories) app.names) is ∙ names_are app.names are) fits

  -- and so is what is stored behind a header of the machine
  stored_own : (h : Header) (world : World) → world.grid ≡ h.grid → same_names (names_of world.memories) h.names ≡ true
      → same_grid h.grid grid ≡ true → same_names h.names app.names ≡ true → within limits world ≡ true → is_own app limits grid world ≡ true
  stored_own h world on_grid named same_header same fits =
      own world (ap (λ (x : Extent). same_grid x grid) on_grid ∙ same_header)
      (ap (λ (ns : List (List ℕ)). same_names ns app.names) (names_same (names_of world.memories) h.names named) ∙ same) fits

  -- what was read and is all, if it is
  pub some_own : (format : Format) (h : Header) (world : World) (rest : List ℕ) (whole : Bool) → (codec.world format h.grid).Legal world → whole ≡ is_stored h.names world rest
      → IfSome (then_some whole world) (λ w. same_grid h.grid grid ≡ true → same_names h.names app.names ≡ true → within limits w ≡ true → is_own app limits grid w ≡ true)
  some_own format h world rest false legal is = tt
  some_own format h world rest true legal is =
      stored_own h world (ap (λ (w : World). w.grid) legal.0.1.1.1.1.1.1.1) (and_parts (is_nothing rest) (same_names (names_of world.memories) h.names) (sym is)).1

  -- and what a step leaves of one
  pub step_own : (old new : World) → (within limits old ≡ true → (within limits new ≡ true) × (new.grid ≡ old.grid) × (names_of new.memories ≡ names_of old.memories)) → is_own app limits grid old ≡ true → is_own app limits grid new ≡ true
  step_own old new keeps h =
      let parts = own_parts old h in
      let kept = keeps parts.2 in
      own new (ap (λ (x : Extent). same_grid x grid) (kept.1 ∙ parts.0) ∙ grid_is grid)
      (ap (λ (ns : List (List ℕ)). same_names ns app.names) (kept.2 ∙ parts.1) ∙ each_named app.names) kept.0

  -- it is stored in its bytes
  pub stored_back : (h : Header) (world : World) (bytes : List ℕ) → (codec.world Two world.grid).Legal world → bytes ≡ spelled world → is_own app limits grid world ≡ true → h.grid ≡ grid → h.names ≡ app.names
      → stored Two h bytes ≡ Some world
  unfolding spelled codec.world_at
  stored_back h world bytes legal is owned on_grid named =
      let parts = own_parts world owned in
      let reads : codec.world_at Two h.grid bytes ≡ Ok (world, []) =
      (λ i. (codec.world Two ((on_grid ∙ sym parts.0) i)).read ((is ∙ sym (append-nil ((codec.world Two world.grid).write world))) i)) ∙ (world_lawful Two world.grid).reads_back world [] legal in
      stored_alone h.names world (codec.world_at Two h.grid bytes) reads
      (ap (λ (ns : List (List ℕ)). same_names ns h.names) (parts.1 ∙ sym named) ∙ each_named h.names)
