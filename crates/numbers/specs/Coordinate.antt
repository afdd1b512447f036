-- Coordinates of shapes, and the two bytes of a 16-bit number (R1.3, R7.1).
use Rattle.std.specs.Prelude.{Bool, cond, ◌&&◌, List, [], ◌∷◌, ℕ, ◌+◌, ◌*◌, ◌-◌, ◌/◌, ◌%◌, ltb, ℤ, pos, negsuc}
use Rattle.std.specs.Int.Signed.{le_z}

-- from −4,096 to 4,095
abbrev pub in_range : ℤ → Bool
in_range c = le_z (negsuc 4095) c && le_z c (pos 4095)

-- two's complement at 16 bits: the bits of a number, and the number of some bits
abbrev pub bits_of : ℤ → ℕ
bits_of (pos n) = n
bits_of (negsuc n) = 65535 - n

abbrev pub signed_of : ℕ → ℤ
signed_of b = cond (ltb b 32768) (pos b) (negsuc (65535 - b))

-- two bytes, the low one first
abbrev pub word_of : ℕ → ℕ → ℕ
word_of low high = low + 256 * high

abbrev pub bytes_of : ℕ → List ℕ
bytes_of w = w % 256 ∷ w / 256 ∷ []
