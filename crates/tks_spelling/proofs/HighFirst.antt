-- Numbers as the crate `byteorder` tells them, and as std does.
use Rattle.std.proofs.Common.{◌≡◌, ℕ, List, arith}
use Rattle.std.specs.Int.{w16, w32, w64, from_be_bytes}
use Rattle.byteorder.specs.Endian.{big_number}

pub two_bytes : (bytes : List ℕ) → big_number 2 bytes ≡ from_be_bytes w16 bytes
two_bytes bytes = omega arith

pub four_bytes : (bytes : List ℕ) → big_number 4 bytes ≡ from_be_bytes w32 bytes
four_bytes bytes = omega arith

pub eight_bytes : (bytes : List ℕ) → big_number 8 bytes ≡ from_be_bytes w64 bytes
eight_bytes bytes = omega arith
