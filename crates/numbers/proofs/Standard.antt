-- The library's words for what this crate defines: a contract of the library's methods, said in our words.
use Rattle.std.proofs.Common.{◌≡◌, refl, sym, [], ◌∷◌, ℕ, ◌/◌, ◌%◌, ◌<◌, ℤ, arith}
use Rattle.std.specs.Int.{w16, cast_signed, cast_unsigned, to_le_bytes, from_le_bytes}
use Rattle.numbers.specs.Coordinate.{bits_of, signed_of, word_of, bytes_of}
use Rattle.numbers.proofs.Coordinate.{bits_machine, signed_machine}

-- u16::to_le_bytes and u16::from_le_bytes
pub to_le_bytes_is : (w : ℕ) → w < 65536 → to_le_bytes w16 w ≡ bytes_of w
to_le_bytes_is w h =
    let e : w / 256 % 256 ≡ w / 256 = omega arith in
    rw e refl

pub from_le_bytes_is : (low high : ℕ) → from_le_bytes w16 (low ∷ high ∷ []) ≡ word_of low high
from_le_bytes_is low high = omega arith

-- u16::cast_signed and i16::cast_unsigned
pub cast_signed_is : (b : ℕ) → cast_signed w16 b ≡ signed_of b
cast_signed_is b = sym (signed_machine b)

pub cast_unsigned_is : (z : ℤ) → cast_unsigned w16 z ≡ bits_of z
cast_unsigned_is z = sym (bits_machine z)
