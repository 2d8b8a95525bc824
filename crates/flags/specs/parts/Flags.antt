-- Sets of numbers below 65,536 as 2,048 words of 32 bits: n is in the set where bit n / 2048 of word n % 2048 is 1.
use Rattle.std.specs.Prelude.{ℕ, ◌/◌, ◌%◌, ◌^◌, Bool, cond, ◌&&◌, List, get_or, set, replicate, eqb, ltb}
use Rattle.std.specs.Int.Bits.{bit_or}

-- How many numbers have a bit
abbrev pub flag_count : ℕ
flag_count = 65536

-- Bit b of a word
abbrev pub bit_at : ℕ → ℕ → ℕ
bit_at word b = word / 2 ^ b % 2

-- The word that has the bit of n
abbrev pub word_of : List ℕ → ℕ → ℕ
word_of flags n = get_or flags (n % 2048) 0

abbrev pub no_numbers : List ℕ
no_numbers = replicate 2048 0

-- n is in the set. A number above 65,535 never is
unfoldable pub is_set : List ℕ → ℕ → Bool
is_set flags n = ltb n flag_count && eqb (bit_at (word_of flags n) (n / 2048)) 1

-- The set with n put into it, where n is at most 65,535
unfoldable pub with_number : List ℕ → ℕ → List ℕ
with_number flags n = cond (ltb n flag_count) (set flags (n % 2048) (bit_or (word_of flags n) (2 ^ (n / 2048)))) flags
