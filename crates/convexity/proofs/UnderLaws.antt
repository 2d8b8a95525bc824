-- A point is under a path from a start exactly if, counted from the start, it is under
-- the path; and a later letter in front raises the path by one.
use Prim.Native.Nat.{ℕ, zero, suc, ◌+◌, ◌-◌, ◌≤◌, ◌<◌}
use native.Mathlib.Omega.{arith}
use mathlib.Core.Path.{◌≡◌}
use mathlib.Core.Logic.Iff
use mathlib.Core.Logic.{◌↔◌}
use mathlib.Core.Bool.{true, false}
use mathlib.Core.List.{◌∷◌, ◌++◌}
use lib.ListN.{length, take}
use lib.Seq.{take-length}
use Rattle.words.specs.Word.{Word, earliers, laters}
use Rattle.words.proofs.Counts.{laters-take-le}
use Rattle.convexity.proofs.Frame.{Under, rowwise, columnwise}
use Rattle.convexity.specs.parts.InFrame.{UnderFrom}

module _ (w : Word) (vp vq P Q : ℕ) where
  pub under-from-iff : UnderFrom w vp vq P Q ↔ ((vp ≤ P) × Under w (P - vp) (Q - vq))
  under-from-iff = (
    λ u. (omega arith, record { upto = u.upto; within = u.within; left = omega arith; high = omega arith }),
    λ (h, u). record { upto = u.upto; within = u.within; left = omega (arith, u.left); high = omega (arith, u.high) },
  )

  -- The empty prefix, and the whole word
  pub under-from-start : vp ≤ P → Q ≤ vq → UnderFrom w vp vq P Q
  unfolding earliers laters
  under-from-start h k = record { upto = 0; within = omega arith; left = omega arith; high = omega arith }

  pub under-from-end : vp + earliers w ≤ P → Q ≤ vq + laters w → UnderFrom w vp vq P Q
  under-from-end h k = record { upto = length w; within = omega arith; left = rw (take-length w) h; high = rw (take-length w) k }

  pub under-from-left : UnderFrom w vp vq P Q → vp ≤ P
  under-from-left u = omega arith

  pub under-from-high : UnderFrom w vp vq P Q → Q ≤ vq + laters w
  under-from-high u = omega (arith, laters-take-le u.upto w)

  -- A later letter in front raises the path by one
  pub under-from-rise : UnderFrom w vp vq P Q ↔ UnderFrom (true ∷ w) vp vq P (suc Q)
  unfolding earliers laters
  under-from-rise = (
    λ u. record { upto = suc u.upto; within = omega arith; left = omega (arith, u.left); high = omega (arith, u.high) },
    λ u. lower u.upto u.within u.left u.high,
  )
    where
      lower :
          (i : ℕ) → i ≤ length (true ∷ w) → vp + earliers (take i (true ∷ w)) ≤ P → suc Q ≤ vq + laters (take i (true ∷ w))
          → UnderFrom w vp vq P Q
      lower zero m h k = under-from-start (omega arith) (omega arith)
      lower (suc i) m h k = record { upto = i; within = omega arith; left = omega arith; high = omega arith }

module _ (w : Word) (vp vq P Q : ℕ) (x y : Word) where
  piece-iff : UnderFrom w vp vq P Q ↔ ((vp ≤ P) × Under (true ∷ w) (P - vp) (suc Q - vq))
  piece-iff = Iff.trans (under-from-rise w vp vq P Q) (under-from-iff (true ∷ w) vp vq P (suc Q))

  -- In the row of a later letter of the piece
  pub under-from-row : true ∷ w ≡ x ++ true ∷ y → vq + laters x ≡ Q → UnderFrom w vp vq P Q ↔ (vp + earliers x ≤ P)
  under-from-row s e =
      let row = rowwise (true ∷ w) x y s (P - vp) (suc Q - vq) (omega arith) in
      (λ u. let (h, k) = piece-iff.0 u in omega (arith, row.0 k), λ h. piece-iff.1 (omega arith, row.1 (omega arith)))

  -- In the column of an earlier letter of the piece
  pub under-from-column : true ∷ w ≡ x ++ false ∷ y → vp + earliers x ≡ P → UnderFrom w vp vq P Q ↔ (Q < vq + laters x)
  under-from-column s e =
      let column = columnwise (true ∷ w) x y s (P - vp) (suc Q - vq) (omega arith) in
      (λ u. let (h, k) = piece-iff.0 u in omega (arith, column.0 k), λ h. piece-iff.1 (omega arith, column.1 (omega arith)))
