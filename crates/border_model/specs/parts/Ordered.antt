-- Edges in the order of their quadrants.
use Rattle.std.specs.Prelude.{ℕ, ◌≤◌, ◌<◌, List, [], ◌∷◌, ℤ}
use Rattle.convexity.specs.Edges.{Edge}
use Rattle.convexity.specs.FromEdges.{quadrant_of}

-- Every edge has a quadrant, none before that of the edge in front of it, and the first has quadrant k or a later one
pub data Ordered : ℕ → List Edge → Type 0 where
  nothing : {k : ℕ} → Ordered k []
  more : {k : ℕ} {dx dy : ℤ} {es : List Edge} → k ≤ quadrant_of dx dy → quadrant_of dx dy < 4 → Ordered (quadrant_of dx dy) es
      → Ordered k ((dx, dy) ∷ es)
