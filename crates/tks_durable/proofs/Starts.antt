-- A side that is begun opens to the state that it was begun with.
use Rattle.std.proofs.Common.{◌≡◌, ℕ, ◌==◌, ◌&&◌, true, false, List, [], ◌∷◌, Some, Ok, Err, refl, sym, ◌∙◌, ap, cond, arith}
use Rattle.std.proofs.lemmas.Bool.Decides.{nat_tests}
use Rattle.tks_text.specs.Size.{Extent}
use Rattle.tks_text.specs.Text.{same_text}
use Rattle.tks_spelling.specs.declared.format.Format.TheVariants.{Two}
use Rattle.tks_spelling.specs.declared.header.Header.{Header}
use Rattle.tks_disk.specs.declared.disk.Side.{Side}
use Rattle.tks_journal.specs.Resting.{begun_as}
use Rattle.tks_durable.specs.Machine.{Meaning}
use Rattle.tks_durable.specs.Opening.{admitted, begun, opened, restored, same_grid, same_names}
use Rattle.tks_durable.specs.declared.fault.SessionFault.TheVariants.{OtherCommands, OtherGrid, SmallerLimits}

same_number : (n : ℕ) → (n == n) ≡ true
same_number n = grind (arith, nat_tests)

same_bytes : (l : List ℕ) → same_text l l ≡ true
same_bytes [] = refl
same_bytes (n ∷ l) = ap (λ b. b && same_text l l) (same_number n) ∙ same_bytes l

names_are : (names : List (List ℕ)) → same_names names names ≡ true
names_are [] = refl
names_are (name ∷ names) = ap (λ b. b && same_names names names) (same_bytes name) ∙ names_are names

grid_is : (grid : Extent) → same_grid grid grid ≡ true
grid_is grid = ap (λ b. b && (grid.height == grid.height)) (same_number grid.width) ∙ same_number grid.height

module _ {W : Type 0} (m : Meaning W) (header : Header) (world : W) where
  admits : header.grid ≡ m.grid → header.names ≡ m.names → m.within world ≡ true → admitted m header world ≡ Ok world
  admits grid names within =
      ap (λ b. cond b (cond (same_names header.names m.names) (cond (m.within world) (Ok world) (Err SmallerLimits)) (Err OtherCommands)) (Err OtherGrid)) (ap (λ x. same_grid x m.grid) grid ∙ grid_is m.grid)
      ∙ ap (λ b. cond b (cond (m.within world) (Ok world) (Err SmallerLimits)) (Err OtherCommands)) (ap (λ x. same_names x m.names) names ∙ names_are m.names)
      ∙ ap (λ b. cond b (Ok world) (Err SmallerLimits)) within

  pub begun_opens : (live : Side) (bytes : List ℕ) → header.grid ≡ m.grid → header.names ≡ m.names → m.within world ≡ true → m.stored Two header bytes ≡ Some world → opened m (begun_as live header bytes) ≡ Ok world
  begun_opens live bytes grid names within stored = ap (λ o. restored m Two header o []) stored ∙ admits grid names within

pub begins : {W : Type 0} (m : Meaning W) (world : W) → world ≡ m.first → m.within world ≡ true → begun m ≡ Ok world
begins m world is within = ap (λ b. cond b (Ok m.first) (Err SmallerLimits)) (ap m.within (sym is) ∙ within) ∙ ap Ok (sym is)

pub begins_not : {W : Type 0} (m : Meaning W) (world : W) → world ≡ m.first → m.within world ≡ false → begun m ≡ Err SmallerLimits
begins_not m world is within = ap (λ b. cond b (Ok m.first) (Err SmallerLimits)) (ap m.within (sym is) ∙ within)
