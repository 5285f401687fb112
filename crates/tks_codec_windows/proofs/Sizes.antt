-- The lengths of spellings of which each member takes as many bytes.
use Rattle.std.proofs.Common.{◌≡◌, ℕ, ◌*◌, List, [], ◌∷◌, ◌++◌, length, Option, Some, None, ap, arith}
use Rattle.std.specs.Int.{w64}
use Rattle.tks_lines.specs.declared.range.Range.{Range}
use Rattle.tks_pack.specs.declared.settings.Settings.{Settings}
use Rattle.tks_spelling.specs.Spelling.{number, members}
use Rattle.tks_spelling.proofs.Counting.{flag_is}
use Rattle.tks_codec_windows.specs.Lines.{range}
use Rattle.tks_codec_windows.specs.Packing.{side, fill, anchor, padding, settings}

-- ---- numbers and ranges

any_numbers : (before : Option ℕ) (xs : List ℕ) → length (members (λ before. number w64) before xs) ≡ 8 * length xs
any_numbers before [] = omega arith
any_numbers before (x ∷ xs) = omega (arith, any_numbers (Some x) xs)

pub numbers_size : (xs : List ℕ) → length (members (λ before. number w64) None xs) ≡ 8 * length xs
numbers_size xs = any_numbers None xs

pub ranges_size : (len : ℕ) (before : Option Range) (rs : List Range) → length (members (range len) before rs) ≡ 8 * length rs
ranges_size len before [] = omega arith
ranges_size len before (r ∷ rs) = omega (arith, ranges_size len (Some r) rs)

-- ---- settings

pub settings_size : (p : Settings) → length (settings.write p) ≡ 12
settings_size p =
    ap (λ (w : List ℕ). length (side.write p.side ++ (fill.write p.fill ++ (w ++ (anchor.write p.anchor ++ (padding.write p.padx ++ (padding.write p.pady ++ (padding.write p.ipadx ++ padding.write p.ipady)))))))) (flag_is p.expand)
