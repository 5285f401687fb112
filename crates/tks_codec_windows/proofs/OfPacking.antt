-- What holds of the spellings of packing.
use Rattle.std.proofs.Common.{◌≡◌, ℕ, zero, suc, ◌≤◌, Bool, true, false, refl, ap, arith}
use Rattle.std.specs.Int.{w16}
use Rattle.std.proofs.lemmas.Bool.Decides.{nat_tests}
use Rattle.tks_opt.specs.Numbers.{anchor_number, anchor_numbered}
use Rattle.tks_opt.specs.declared.anchor.Anchor.{Anchor}
use Rattle.tks_opt.specs.declared.anchor.Anchor.TheVariants as anchors
use Rattle.tks_opt.specs.declared.anchor.Anchor.TheVariants.{Center}
use Rattle.tks_pack.specs.Numbers.{side_number, side_numbered, fill_number, fill_numbered}
use Rattle.tks_pack.specs.Padding.{max_padding}
use Rattle.tks_pack.specs.declared.settings.Side.{Side}
use Rattle.tks_pack.specs.declared.settings.Side.TheVariants.{Top, Bottom, Left, Right}
use Rattle.tks_pack.specs.declared.settings.Fill.{Fill}
use Rattle.tks_pack.specs.declared.settings.Fill.TheVariants.{Neither, X, Y, Both}
use Rattle.tks_pack.specs.declared.settings.Settings.{Settings}
use Rattle.tks_spelling.specs.Spelling.{Lawful, byte, number, flag, such_that}
use Rattle.tks_spelling.proofs.EachKind.{byte_lawful, wide16, number_lawful, test_lawful, field_lawful, through_lawful, flag_lawful, option_lawful}
use Rattle.tks_codec_windows.specs.Packing.{or_first, is_side, side, is_fill, fill, is_anchor, anchor, is_padding, padding, settings, packing}

side_told : (n : ℕ) → is_side n ≡ true → side_number (or_first Top (side_numbered n)) ≡ n
side_told zero e = refl
side_told (suc zero) e = refl
side_told (suc (suc zero)) e = refl
side_told (suc (suc (suc zero))) e = refl
side_told (suc (suc (suc (suc n)))) e = absurd cc

pub side_lawful : Lawful side
side_lawful = through_lawful side_number (λ n. or_first Top (side_numbered n)) (such_that is_side byte) (λ n k. side_told n k.1) (test_lawful is_side byte (λ v h. omega arith) byte_lawful)

side_legal : (s : Side) → side.Legal s
side_legal Top = ((omega arith, refl), refl)
side_legal Bottom = ((omega arith, refl), refl)
side_legal Left = ((omega arith, refl), refl)
side_legal Right = ((omega arith, refl), refl)

fill_told : (n : ℕ) → is_fill n ≡ true → fill_number (or_first Neither (fill_numbered n)) ≡ n
fill_told zero e = refl
fill_told (suc zero) e = refl
fill_told (suc (suc zero)) e = refl
fill_told (suc (suc (suc zero))) e = refl
fill_told (suc (suc (suc (suc n)))) e = absurd cc

pub fill_lawful : Lawful fill
fill_lawful = through_lawful fill_number (λ n. or_first Neither (fill_numbered n)) (such_that is_fill byte) (λ n k. fill_told n k.1) (test_lawful is_fill byte (λ v h. omega arith) byte_lawful)

fill_legal : (f : Fill) → fill.Legal f
fill_legal Neither = ((omega arith, refl), refl)
fill_legal X = ((omega arith, refl), refl)
fill_legal Y = ((omega arith, refl), refl)
fill_legal Both = ((omega arith, refl), refl)

anchor_told : (n : ℕ) → is_anchor n ≡ true → anchor_number (or_first Center (anchor_numbered n)) ≡ n
anchor_told zero e = refl
anchor_told (suc zero) e = refl
anchor_told (suc (suc zero)) e = refl
anchor_told (suc (suc (suc zero))) e = refl
anchor_told (suc (suc (suc (suc zero)))) e = refl
anchor_told (suc (suc (suc (suc (suc zero))))) e = refl
anchor_told (suc (suc (suc (suc (suc (suc zero)))))) e = refl
anchor_told (suc (suc (suc (suc (suc (suc (suc zero))))))) e = refl
anchor_told (suc (suc (suc (suc (suc (suc (suc (suc zero)))))))) e = refl
anchor_told (suc (suc (suc (suc (suc (suc (suc (suc (suc n))))))))) e = absurd cc

pub anchor_lawful : Lawful anchor
anchor_lawful = through_lawful anchor_number (λ n. or_first Center (anchor_numbered n)) (such_that is_anchor byte) (λ n k. anchor_told n k.1) (test_lawful is_anchor byte (λ v h. omega arith) byte_lawful)

anchor_legal : (a : Anchor) → anchor.Legal a
anchor_legal anchors.Center = ((omega arith, refl), refl)
anchor_legal anchors.North = ((omega arith, refl), refl)
anchor_legal anchors.NorthEast = ((omega arith, refl), refl)
anchor_legal anchors.East = ((omega arith, refl), refl)
anchor_legal anchors.SouthEast = ((omega arith, refl), refl)
anchor_legal anchors.South = ((omega arith, refl), refl)
anchor_legal anchors.SouthWest = ((omega arith, refl), refl)
anchor_legal anchors.West = ((omega arith, refl), refl)
anchor_legal anchors.NorthWest = ((omega arith, refl), refl)

padding_lawful : Lawful padding
padding_lawful = test_lawful is_padding (number w16) (λ v h. omega arith) (number_lawful w16 wide16)

padding_legal : (n : ℕ) → n ≤ max_padding → padding.Legal n
padding_legal n h = (omega (arith, h), grind (arith, nat_tests))

flag_legal : (b : Bool) → flag.Legal b
flag_legal true = ((omega arith, refl), refl)
flag_legal false = ((omega arith, refl), refl)

pub settings_lawful : Lawful settings
settings_lawful =
    field_lawful (λ p. p.side) _ _ (λ side p k h. ap (λ (p : Settings). p.side) h.1.1.1.1.1.1.1) side_lawful (λ side.
    field_lawful (λ p. p.fill) _ _ (λ fill p k h. ap (λ (p : Settings). p.fill) h.1.1.1.1.1.1) fill_lawful (λ fill.
    field_lawful (λ p. p.expand) _ _ (λ expand p k h. ap (λ (p : Settings). p.expand) h.1.1.1.1.1) flag_lawful (λ expand.
    field_lawful (λ p. p.anchor) _ _ (λ anchor p k h. ap (λ (p : Settings). p.anchor) h.1.1.1.1) anchor_lawful (λ anchor.
    field_lawful (λ p. p.padx) _ _ (λ padx p k h. ap (λ (p : Settings). p.padx) h.1.1.1) padding_lawful (λ padx.
    field_lawful (λ p. p.pady) _ _ (λ pady p k h. ap (λ (p : Settings). p.pady) h.1.1) padding_lawful (λ pady.
    field_lawful (λ p. p.ipadx) _ _ (λ ipadx p k h. ap (λ (p : Settings). p.ipadx) h.1) padding_lawful (λ ipadx.
    through_lawful (λ p. p.ipady) _ _ (λ ipady k. refl) padding_lawful)))))))

pub settings_legal : (p : Settings) → p.padx ≤ max_padding → p.pady ≤ max_padding → p.ipadx ≤ max_padding → p.ipady ≤ max_padding → settings.Legal p
settings_legal p x y ix iy =
    (side_legal p.side, (fill_legal p.fill, (flag_legal p.expand, (anchor_legal p.anchor, (padding_legal p.padx x, (padding_legal p.pady y, (padding_legal p.ipadx ix, (padding_legal p.ipady iy, refl))))))))

pub packing_lawful : Lawful packing
packing_lawful = option_lawful settings settings_lawful
