-- In what two lists of bytes differ, and which damage a checksum notices (contract 13.3).
use Rattle.std.specs.Prelude.{ℕ, ◌+◌, ◌%◌, ◌≤◌, ◌<◌, ◌≡◌, ◌⊎◌, List, [], ◌∷◌, length, get_or}
use Rattle.std.specs.Int.Bits.{differ}
use Rattle.checksum.specs.Checksum.{message, checksum}

-- Each element is a byte
abbrev pub Bytes : List ℕ → Type 0
Bytes xs = (i : ℕ) → i < length xs → get_or xs i 0 < 256

-- 1 at each place where the two lists differ, 0 where they agree
unfoldable pub differences : List ℕ → List ℕ → List ℕ
differences [] cs = []
differences (b ∷ bs) [] = []
differences (b ∷ bs) (c ∷ cs) = differ b c ∷ differences bs cs

-- How many ones a list of bits has
unfoldable pub total : List ℕ → ℕ
total [] = 0
total (b ∷ bs) = b + total bs

-- Every one of the list is in the 32 places from the given one on
abbrev pub Within : List ℕ → ℕ → Type 0
Within d first = (j : ℕ) → get_or d j 0 ≡ 1 → (first ≤ j) × (j < first + 32)

-- Damage that a checksum of 32 bits may miss: at least four bits, an even number of them, over more than 32 places
pub record Far (d : List ℕ) : Type 0 where
  pub four : 4 ≤ total d
  pub even : total d % 2 ≡ 0
  pub wide : (first : ℕ) → Within d first → ⊥

-- The longest list, in bytes, in which no two bits are 2,147,483,647 places apart
abbrev pub longest : ℕ
longest = 268435455

-- Two lists of bytes of one length and with one checksum are equal, or far apart
abbrev pub Detects : Type 0
Detects =
    (xs ys : List ℕ) → Bytes xs → Bytes ys → length xs ≡ length ys → length xs ≤ longest → checksum xs ≡ checksum ys
    → (xs ≡ ys) ⊎ Far (differences (message xs) (message ys))

-- Whatever their length: damage within 32 consecutive bits is noticed
abbrev pub DetectsBursts : Type 0
DetectsBursts =
    (xs ys : List ℕ) → Bytes xs → Bytes ys → length xs ≡ length ys → (first : ℕ) → Within (differences (message xs) (message ys)) first
    → checksum xs ≡ checksum ys → xs ≡ ys

-- Whatever their length: damage to an odd number of bits is noticed
abbrev pub DetectsOdd : Type 0
DetectsOdd =
    (xs ys : List ℕ) → Bytes xs → Bytes ys → length xs ≡ length ys → total (differences (message xs) (message ys)) % 2 ≡ 1
    → checksum xs ≡ checksum ys → ⊥
