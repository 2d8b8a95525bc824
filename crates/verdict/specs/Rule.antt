-- The published rule in definitions only: an outline that meets none of 1 to 8 is taken exactly if every factor of every piece is a
-- Christoffel word. Otherwise 9 names the first factor that is not one (contract 3.9 to 3.11, and 5.2). And 8 names the first letter that
-- is neither of its piece's two (contract 3.4 and 3.5). Factors here are any strictly
-- decreasing Lyndon words that spell the piece's word. Christoffel words are defined by remainders. No computed list and no test stands
-- in between. Pieces are counted from 0.
use Rattle.std.specs.Prelude.{ℕ, ◌+◌, ◌%◌, ◌<◌, ◌≡◌, ◌↔◌, ◌⊎◌, List, [], ◌∷◌, ◌++◌, length, get_or, Err}
use Rattle.words.specs.Word.{Word}
use Rattle.words.specs.Lyndon.{Factor, Factoring, written}
use Rattle.words.specs.Christoffel.{Christoffel}
use Rattle.chart.specs.declared.Point.{Point}
use Rattle.chart.specs.declared.Refusal.TheVariants.{Dent}
use Rattle.chart.specs.Taken.{taken_with}
use Rattle.chart.specs.Outline.{Outline}
use Rattle.lattice.specs.Chart.{size}
use Rattle.lattice.specs.Hull.{LowestMissing}
use Rattle.convexity.specs.Frame.{frame_of}
use Rattle.convexity.specs.Cut.{cut}
use Rattle.convexity.specs.Clockwise.{border, block, place_sent, ReadAs}
use Rattle.convexity.specs.Pieces.{piece, word, edges_of, edges, IsAnchor}
use Rattle.verdict.specs.Verdict.{verdict_of}

-- The word of piece k of the border, and the cut place where the piece begins (contract 3.3 and 3.6)
abbrev pub piece_word : Outline → ℕ → Word
piece_word o k = word (border o) k

abbrev pub piece_cut : Outline → ℕ → ℕ
piece_cut o k = cut (border o) k

-- The letters of piece k of the border; letter n of them
abbrev pub piece_letters : Outline → ℕ → List ℕ
piece_letters o k = piece (border o) k

abbrev pub piece_letter : Outline → ℕ → ℕ → ℕ
piece_letter o k n = get_or (piece_letters o k) n 0

-- Letter n of piece k is one of the piece's two (contract 3.4)
abbrev pub Own : Outline → ℕ → ℕ → Type 0
Own o k n = (piece_letter o k n ≡ (frame_of k).earlier) ⊎ (piece_letter o k n ≡ (frame_of k).later)

-- Letter n of the border, counted round and round, is letter i as sent (contract 2.3 and 5.3)
abbrev pub SentAs : Outline → ℕ → ℕ → Type 0
SentAs o n i = ReadAs o (n % size o) i

-- The fields of 8 (contract 5.2). In piece k the letter `at` is neither of the piece's two, and all letters before it, in this piece and in
-- earlier ones, are
pub record FirstBackStep (o : Outline) (p i : ℕ) : Type 0 where
  pub k : ℕ
  pub below : k < 4
  pub earlier : (j : ℕ) → j < k → (n : ℕ) → n < length (piece_letters o j) → Own o j n
  pub at : ℕ
  pub within : at < length (piece_letters o k)
  pub before : (n : ℕ) → n < at → Own o k n
  pub back : ¬ Own o k at
  pub piece : p ≡ k + 1
  pub place : i ≡ place_sent o (piece_cut o k + at)
  pub sent : SentAs o (piece_cut o k + at) i

-- Every factor is a Christoffel word
pub data AllChristoffel : List Factor → Type 0 where
  no_factors : AllChristoffel []
  more : {f : Factor} {fs : List Factor} → Christoffel f.word → AllChristoffel fs → AllChristoffel (f ∷ fs)

-- Piece k has a factorisation without a dent (contract 3.11)
pub record Smooth (o : Outline) (k : ℕ) : Type 0 where
  pub factors : List Factor
  pub factoring : Factoring (piece_word o k) factors
  pub christoffel : AllChristoffel factors

-- The fields of 9 (contract 5.2). In piece k the factor `dent` is not a Christoffel word, and all factors before it, in this piece and in
-- earlier ones, are. Its first copy starts after the piece's first letter, which is not in the word, and after the factors before it
pub record FirstDent (o : Outline) (p i l : ℕ) (x : Point) : Type 0 where
  pub k : ℕ
  pub below : k < 4
  pub earlier : (j : ℕ) → j < k → Smooth o j
  pub before : List Factor
  pub dent : Factor
  pub after : List Factor
  pub factoring : Factoring (piece_word o k) (before ++ dent ∷ after)
  pub smooth : AllChristoffel before
  pub dented : ¬ Christoffel dent.word
  pub piece : p ≡ k + 1
  pub place : i ≡ place_sent o (piece_cut o k + 1 + length (written before))
  pub sent : SentAs o (piece_cut o k + 1 + length (written before)) i
  pub copy : l ≡ length dent.word
  pub cell : LowestMissing (block o) x

-- The factorisations of the four pieces
abbrev pub FactorsOf : Outline → (ℕ → List Factor) → Type 0
FactorsOf o fs = (k : ℕ) → k < 4 → Factoring (piece_word o k) (fs k)

-- What holds for every outline that meets none of 1 to 8 (proofs/Rule.antt: `by-the-rule`)
pub record ByTheRule (o : Outline) : Type 0 where
  -- each piece has exactly one factorisation (contract 3.9)
  pub factored : (k : ℕ) → (fs : List Factor) × Factoring (piece_word o k) fs
  pub one_way : (k : ℕ) (fs gs : List Factor) → Factoring (piece_word o k) fs → Factoring (piece_word o k) gs → fs ≡ gs
  -- it is taken, or refused by 9 with these fields
  pub taken : ((n : ℕ) × (a : Point) × (verdict_of o ≡ taken_with n a)) ↔ ((k : ℕ) → k < 4 → Smooth o k)
  pub nine : (p i l : ℕ) (x : Point) → (verdict_of o ≡ Err (Dent p i l x)) ↔ FirstDent o p i l x
  -- the fields of a taken outline, and its edges, one for each factor (contract 3.12, 3.13 and 6.1)
  pub edges_counted : (n : ℕ) (a : Point) → verdict_of o ≡ taken_with n a → (fs : ℕ → List Factor) → FactorsOf o fs →
      n ≡ length (fs 0) + (length (fs 1) + (length (fs 2) + length (fs 3)))
  pub anchor : (n : ℕ) (a : Point) → verdict_of o ≡ taken_with n a → IsAnchor (block o) a
  pub edges : (fs : ℕ → List Factor) → FactorsOf o fs →
      edges (border o) ≡
      edges_of (frame_of 0) (fs 0) ++ (edges_of (frame_of 1) (fs 1) ++ (edges_of (frame_of 2) (fs 2) ++ edges_of (frame_of 3) (fs 3)))
