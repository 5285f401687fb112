-- What holds of the spellings of headers.
use Rattle.std.proofs.Common.{◌≡◌, ℕ, ◌<◌, ◌≤◌, ◌^◌, true, List, length, None, refl, ap, arith}
use Rattle.std.specs.Int.{w16, w32, w64, to_be_bytes}
use Rattle.std.specs.List.{AllByRecursion}
use Rattle.std.proofs.lemmas.List.{length-append}
use Rattle.std.proofs.lemmas.Bool.{le-leb}
use Rattle.std.specs.Prelude.{nat_le, ◌&&◌}
use Rattle.tks_text.specs.Size.{Extent, IsGridSize}
use Rattle.tks_text.specs.Short.{IsShort}
use Rattle.tks_spelling.specs.declared.header.Header.{Header}
use Rattle.tks_spelling.specs.Spelling.{Lawful, number, text, texts}
use Rattle.tks_spelling.specs.Header.{is_width, is_height, width, height, grid, names, header, AreNames}
use Rattle.tks_spelling.proofs.Loop.{each_is_legal, rising_legal}
use Rattle.tks_spelling.proofs.EachKind.{wide16, wide64, number_lawful, test_lawful, field_lawful, through_lawful, rising_lawful, text_lawful}

width_lawful : Lawful width
width_lawful = test_lawful is_width (number w16) (λ v h. omega arith) (number_lawful w16 wide16)

height_lawful : Lawful height
height_lawful = test_lawful is_height (number w16) (λ v h. omega arith) (number_lawful w16 wide16)

grid_lawful : Lawful grid
grid_lawful =
    field_lawful (λ g. g.width) _ _ (λ w g k h. ap (λ (g : Extent). g.width) h.1) width_lawful (λ w.
    through_lawful (λ g. g.height) _ _ (λ h k. refl) height_lawful)

filled_text : (t : List ℕ) → 0 < length (text.write t)
filled_text t = let n = length-append (to_be_bytes w32 (length t)) t in omega (arith, n)

names_lawful : Lawful names
names_lawful = rising_lawful (λ name. name) text (λ v h. filled_text v) text_lawful

pub header_lawful : Lawful header
header_lawful =
    field_lawful (λ h. h.generation) _ _ (λ generation v k h. ap (λ (h : Header). h.generation) h.1.1.1) (number_lawful w64 wide64) (λ generation.
    field_lawful (λ h. h.grid) _ _ (λ size v k h. ap (λ (h : Header). h.grid) h.1.1) grid_lawful (λ size.
    field_lawful (λ h. h.names) _ _ (λ names v k h. ap (λ (h : Header). h.names) h.1) names_lawful (λ names.
    through_lawful (λ h. h.world_length) _ _ (λ world_length k. refl) (number_lawful w64 wide64))))

-- ---- which headers have a spelling

pub names_legal : (ns : List (List ℕ)) → AreNames ns → texts.Legal ns → names.Legal ns
names_legal ns r h = (h.0, rising_legal (λ name. name) text None None ns h.1 r)

is_legal : (size : Extent) → IsGridSize size.width size.height → grid.Legal size
is_legal size g = ((omega (arith, g.1), in_range 200 size.width g.0 g.1), ((omega (arith, g.3), in_range 100 size.height g.2 g.3), refl))
  where
    in_range : (most n : ℕ) → 1 ≤ n → n ≤ most → (nat_le 1 n && nat_le n most) ≡ true
    in_range most n p q = rw (le-leb 1 n p, le-leb n most q) refl

pub header_of : (h : Header) → h.generation < 2 ^ 64 → IsGridSize h.grid.width h.grid.height → names.Legal h.names → h.world_length < 2 ^ 64 → header.Legal h
header_of h a g n b = (a, (is_legal h.grid g, (n, (b, refl))))

pub header_legal : (h : Header) → h.generation < 2 ^ 64 → IsGridSize h.grid.width h.grid.height → AreNames h.names → IsShort h.names → AllByRecursion text.Legal h.names → h.world_length < 2 ^ 64 → header.Legal h
header_legal h a g n s t = header_of h a g (names_legal h.names n (s, each_is_legal text None h.names t))
