-- A list of bytes with its checksum after it (contract 13.2).
use Rattle.std.specs.Prelude.{ℕ, ◌/◌, ◌%◌, ◌≤◌, ◌≡◌, ◌⊎◌, List, [], ◌∷◌, ◌++◌, length}
use Rattle.checksum.specs.Checksum.{message, checksum}
use Rattle.checksum.specs.Damage.{Bytes, differences, Far, longest}

-- A number of 32 bits as four bytes, the lowest first
unfoldable pub little_endian : ℕ → List ℕ
little_endian x = x % 256 ∷ x / 256 % 256 ∷ x / 65536 % 256 ∷ x / 16777216 % 256 ∷ []

unfoldable pub stored : List ℕ → List ℕ
stored xs = xs ++ little_endian (checksum xs)

-- The list is some list with its checksum after it
pub record Stored (ys : List ℕ) : Type 0 where
  pub front : List ℕ
  pub whole : ys ≡ stored front

-- Two lists of one length that both have their checksum after them are equal, or far apart: the checksum's own bytes count like the others
abbrev pub DetectsStored : Type 0
DetectsStored =
    (xs ys : List ℕ) → Bytes xs → Bytes ys → length xs ≡ length ys → length xs ≤ longest → Stored xs → Stored ys
    → (xs ≡ ys) ⊎ Far (differences (message xs) (message ys))
