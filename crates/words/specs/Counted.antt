-- The Christoffel word with given counts of its two letters, and the letters of an edge with
-- a given run and rise (the converse of contract 3.10 and 3.12).
use Rattle.std.specs.Prelude.{ℕ, zero, suc, ◌+◌, ◌*◌, ◌/◌, ◌%◌, Bool, true, false, not, cond, ◌&&◌, List, [], ◌∷◌, ◌++◌, ltb, eqb}
use Rattle.words.specs.Word.{Word, earliers, laters}
use Rattle.words.specs.Lyndon.{Factor, copies}

-- The word of n letters whose letter i, counted from 0, is f i
unfoldable pub listed : (ℕ → Bool) → ℕ → Word
listed f zero = []
listed f (suc n) = f zero ∷ listed (λ i. f (suc i)) n

-- Letter i, counted from 0, of the word of n letters with k later ones: the earlier one exactly if (i + 1)·k mod n exceeds i·k mod n
unfoldable pub counted_letter : ℕ → ℕ → ℕ → Bool
counted_letter k n i = not (ltb (i * k % n) (suc i * k % n))

-- The Christoffel word with a earlier letters and b later ones: a single letter, or a longer word by remainders
unfoldable pub christoffel_word : ℕ → ℕ → Word
christoffel_word a b = cond (eqb (a + b) 1) (eqb b 1 ∷ []) (listed (counted_letter b (a + b)) (a + b))

-- d divides both a and b
unfoldable pub divides_both : ℕ → ℕ → ℕ → Bool
divides_both a b d = eqb (a % d) 0 && eqb (b % d) 0

-- The largest number from n down to 1 that divides both a and b, or 0
unfoldable pub common_up_to : ℕ → ℕ → ℕ → ℕ
common_up_to a b zero = 0
common_up_to a b (suc n) = elim (divides_both a b (suc n)) [ true ↦ suc n | false ↦ common_up_to a b n ]

-- The greatest common divisor. It is 0 for 0 and 0
unfoldable pub common : ℕ → ℕ → ℕ
common a b = common_up_to a b (a + b)

-- The letters of an edge with run earlier and rise later letters: the Christoffel word
-- of run and rise divided by their gcd, repeated gcd times
unfoldable pub edge_word : ℕ → ℕ → Word
edge_word run rise = copies (common run rise) (christoffel_word (run / common run rise) (rise / common run rise))

-- The letters of a list of edges, each given by its run and its rise
unfoldable pub edges_word : List (ℕ × ℕ) → Word
edges_word [] = []
edges_word (e ∷ es) = edge_word e.0 e.1 ++ edges_word es

-- The run and the rise of each factor, all repeats together
unfoldable pub sizes : List Factor → List (ℕ × ℕ)
sizes [] = []
sizes (f ∷ fs) = (f.times * earliers f.word, f.times * laters f.word) ∷ sizes fs
