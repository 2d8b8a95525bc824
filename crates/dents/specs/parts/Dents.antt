-- What the search for the first dent promises of dents and edges (contract 3.9 to 3.12).
use Rattle.std.specs.Prelude.{ℕ, ◌+◌, ◌-◌, ◌*◌, ◌≤◌, ◌<◌, ◌≡◌, List, [], ◌∷◌, ◌++◌, length, take, drop, ℤ, Result, Ok, Err, ⊤}
use Rattle.words.specs.Word.{word_of}
use Rattle.words.specs.Lyndon.{Factor, factors_of}
use Rattle.chart.specs.Limits.{longest}
use Rattle.chart.specs.Outline.{Outline}
use Rattle.lattice.specs.Chart.{size}
use Rattle.convexity.specs.Frame.{frame_of}
use Rattle.convexity.specs.Cut.{cut}
use Rattle.convexity.specs.Pieces.{factors, dent_at, dent_length, dent_piece, edges_of, edges, edge_count}
use Rattle.dents.specs.declared.Dent.{Dent}
use Rattle.pieces.specs.parts.Pieces.{Laid}

-- If the list has room after its first `count` edges, one more is there; after those that it has then, it is as it was
pub record Put (before : List ℤ) (count : ℕ) (dx dy : ℤ) (after : List ℤ) (r : ℕ) : Type 0 where
  pub grows : count ≤ r
  pub one_more : 2 * (count + 1) ≤ length before → r ≡ count + 1
  pub edges : 2 * (count + 1) ≤ length before → take (2 * (count + 1)) after ≡ take (2 * count) before ++ (dx ∷ dy ∷ [])
  pub beyond : drop (2 * r) after ≡ drop (2 * r) before

-- The factors of letters in the frame of piece k
abbrev pub factors_in : ℕ → List ℕ → List Factor
factors_in k letters = factors_of (word_of (frame_of k).later letters)

-- A list has room for the edges of letters after its first `from`
abbrev pub Room : ℕ → List ℕ → ℕ → List ℤ → Type 0
Room k letters from list = 2 * (from + length (factors_in k letters)) ≤ length list

-- No factor is a dent, and the list has the edges of all after its first `from`, r in all
pub record EdgesPut (k : ℕ) (letters : List ℕ) (from : ℕ) (before after : List ℤ) (r : ℕ) : Type 0 where
  pub no_dent : dent_length (factors_in k letters) ≡ 0
  pub beyond : drop (2 * r) after ≡ drop (2 * r) before
  pub edges_counted : Room k letters from before → r ≡ from + length (factors_in k letters)
  pub edges : Room k letters from before → take (2 * r) after ≡ take (2 * from) before ++ edges_of (frame_of k) (factors_in k letters)

-- The first dent of letters in the frame of piece k, which stand in a list from a place on
pub record DentIn (k : ℕ) (letters : List ℕ) (start : ℕ) (dent : Dent) : Type 0 where
  pub piece : dent.piece ≡ k
  pub within : dent.at + dent.length ≤ start + length letters
  pub long : 0 < dent.length
  pub at : dent.at ≡ start + dent_at (factors_in k letters)
  pub size : dent.length ≡ dent_length (factors_in k letters)

abbrev pub WordRead : ℕ → List ℕ → ℕ → ℕ → List ℤ → List ℤ → ℕ → Result ⊤ Dent → Type 0
WordRead k letters start from before after count (Ok done) = EdgesPut k letters from before after count
WordRead k letters start from before after count (Err dent) = DentIn k letters start dent

-- A dent of piece k lies in the buffer
abbrev pub InBuffer : List ℕ → ℕ → Result ⊤ Dent → Type 0
InBuffer buffer k (Ok done) = k ≡ k
InBuffer buffer k (Err dent) = (dent.piece ≡ k) × (dent.at + dent.length ≤ length buffer) × (0 < dent.length)

-- The word of piece k, which lies in a buffer between two places
pub record PieceRead (buffer : List ℕ) (from to k count : ℕ) (before after : List ℤ) (more : ℕ) (r : Result ⊤ Dent) : Type 0 where
  pub within : InBuffer buffer k r
  pub word : from ≤ to → to ≤ length buffer → to - from ≤ longest
      → WordRead k (drop 1 (take (to - from) (drop from buffer))) (from + 1) count before after more r

-- The first dent of a border is in piece k, at letter i of the border, and has l letters
pub record DentIs (o : Outline) (k i l : ℕ) : Type 0 where
  pub piece : k ≡ dent_piece o
  pub at : i ≡ cut o k + 1 + dent_at (factors o k)
  pub size : l ≡ dent_length (factors o k)

-- A border has no dent, and its edges, r of them, are at the front of a list with room for them
pub record EdgesAre (o : Outline) (before after : List ℤ) (r : ℕ) : Type 0 where
  pub no_dent : dent_piece o ≡ 4
  pub edges_counted : 2 * edge_count o ≤ length before → r ≡ edge_count o
  pub list : 2 * edge_count o ≤ length before → after ≡ edges o ++ drop (2 * r) before

pub record DentRead (buffer cuts : List ℕ) (k i l : ℕ) : Type 0 where
  pub piece_lt : k < 4
  pub at_le : i ≤ length buffer
  pub size_le : l ≤ length buffer
  pub dent : (o : Outline) → size o ≤ longest → Laid o cuts buffer → DentIs o k i l

abbrev pub FactorsRead : List ℕ → List ℕ → List ℤ → List ℤ → Result ℕ Dent → Type 0
FactorsRead buffer cuts before after (Ok r) = (o : Outline) → size o ≤ longest → Laid o cuts buffer → EdgesAre o before after r
FactorsRead buffer cuts before after (Err dent) = DentRead buffer cuts dent.piece dent.at dent.length
