-- The edges of a list that passes refusal 16, by index: none is zero, and each comes
-- before every later one, so no two have the same direction.
use Prim.Native.Nat.{ℕ, zero, suc, ◌+◌, ◌*◌, ◌<◌}
use native.Mathlib.Omega.{arith}
use mathlib.Core.Path.{◌≡◌}
use mathlib.Core.Bool.{false}
use mathlib.Core.List.{List, [], ◌∷◌}
use lib.ListN.{length}
use lib.IntN.{ℤ, pos}
use Rattle.convexity.specs.Edges.{pairs}
use Rattle.convexity.specs.Directions.{edge_cols, edge_rows, SameDirection}
use Rattle.convexity.proofs.Directions.{cols-next, rows_next}
use Rattle.directions.specs.Increasing.{bad_directions}
use Rattle.directions.proofs.Directions.{Sooner}
use Rattle.directions.proofs.Corners.{Facing, AllAfter, Rising}
use Rattle.directions.proofs.Passing.{facing-not-nil, passes-iff}
use Rattle.directions.proofs.Round.{NotNil, precedes-not-same}

-- Both numbers of edge i are in the list
abbrev pub Listed : List ℤ → ℕ → Type 0
Listed es i = 2 * i + 1 < length es

edge-facing : (es : List ℤ) → Rising (pairs es) → (i : ℕ) → Listed es i → Facing (edge_cols es i) (edge_rows es i)
unfolding edge_cols edge_rows pairs
edge-facing [] Rising.none i h = absurd (omega arith)
edge-facing (d ∷ []) Rising.none i h = absurd (omega arith)
edge-facing (dx ∷ dy ∷ es) (Rising.next f a r) zero h = f
edge-facing (dx ∷ dy ∷ es) (Rising.next f a r) (suc i) h = rw (cols-next, rows_next) (edge-facing es r i (omega arith))

edge-after : {dx dy : ℤ} (es : List ℤ) → AllAfter dx dy (pairs es) → (i : ℕ) → Listed es i → Sooner dx dy (edge_cols es i) (edge_rows es i)
unfolding edge_cols edge_rows pairs
edge-after [] AllAfter.none i h = absurd (omega arith)
edge-after (d ∷ []) AllAfter.none i h = absurd (omega arith)
edge-after (ex ∷ ey ∷ es) (AllAfter.next b a) zero h = b
edge-after (ex ∷ ey ∷ es) (AllAfter.next b a) (suc i) h = rw (cols-next, rows_next) (edge-after es a i (omega arith))

edge-precedes : (es : List ℤ) → Rising (pairs es) → (i j : ℕ) → i < j → Listed es j
    → Sooner (edge_cols es i) (edge_rows es i) (edge_cols es j) (edge_rows es j)
unfolding edge_cols edge_rows pairs
edge-precedes es r i zero h l = absurd (omega arith)
edge-precedes [] Rising.none i (suc j) h l = absurd (omega arith)
edge-precedes (d ∷ []) Rising.none i (suc j) h l = absurd (omega arith)
edge-precedes (dx ∷ dy ∷ es) (Rising.next f a r) zero (suc j) h l = rw (cols-next, rows_next) (edge-after es a j (omega arith))
edge-precedes (dx ∷ dy ∷ es) (Rising.next f a r) (suc i) (suc j) h l =
    simp (cols-next, rows_next) (edge-precedes es r i j (omega arith) (omega arith))

module _ (es : List ℤ) (passes : bad_directions es ≡ false) where
  rises : Rising (pairs es)
  rises = ((passes-iff (pairs es) (pos 0) (pos 0)).0 passes).rises

  pub passed-not-nil : (i : ℕ) → Listed es i → NotNil (edge_cols es i) (edge_rows es i)
  passed-not-nil i h = facing-not-nil (edge-facing es rises i h)

  pub passed-distinct : (i j : ℕ) → i < j → Listed es j → SameDirection (edge_cols es i) (edge_rows es i) (edge_cols es j) (edge_rows es j) → ⊥
  passed-distinct i j h l = precedes-not-same (edge-precedes es rises i j h l)
