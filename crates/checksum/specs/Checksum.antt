-- CRC-32C (contract 13.2), bit by bit: a register of 32 bits that moves down by one place with each bit of the message.
use Rattle.std.specs.Prelude.{ℕ, zero, suc, ◌*◌, ◌/◌, ◌%◌, List, [], ◌∷◌, ◌++◌}
use Rattle.std.specs.Int.Bits.{bit_xor, differ}

-- The polynomial 0x1EDC6F41, its lowest power in the highest bit
abbrev pub polynomial : ℕ
polynomial = 0x82F63B78

-- 32 bits, all ones
abbrev pub ones : ℕ
ones = 0xFFFFFFFF

-- One bit of the message: the register moves down by one place; where the bit that falls out differs from the message's, it takes in the
-- polynomial
unfoldable pub shift_in : ℕ → ℕ → ℕ
shift_in s bit = bit_xor (s / 2) (differ (s % 2) bit * polynomial)

-- The register after a list of bits, the first of the list first
unfoldable pub register : ℕ → List ℕ → ℕ
register s [] = s
register s (bit ∷ more) = register (shift_in s bit) more

-- The n lowest bits of x, the lowest first
unfoldable pub bits : ℕ → ℕ → List ℕ
bits zero x = []
bits (suc n) x = x % 2 ∷ bits n (x / 2)

-- The bits of a list of bytes, in the order in which they enter the register
unfoldable pub message : List ℕ → List ℕ
message [] = []
message (byte ∷ more) = bits 8 byte ++ message more

-- The register starts with ones, and is inverted at the end
unfoldable pub checksum : List ℕ → ℕ
checksum bytes = bit_xor (register ones (message bytes)) ones
