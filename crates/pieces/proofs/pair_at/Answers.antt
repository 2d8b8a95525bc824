-- Each row of the table is a clause of `frame_of`, whose last holds from 3 on.
use Prim.Native.Nat.{ℕ, zero, suc, min, ◌<◌}
use native.Mathlib.Omega.{arith}
use mathlib.Core.Path.{◌≡◌, refl}
use mathlib.Core.List.{[], ◌∷◌}
use lib.ListN.{get_or}
use Rattle.convexity.specs.Frame.{Frame, frame_of}
use Rattle.pieces.specs.declared.Pair.{Pair}
use Rattle.pieces.specs.parts.Pieces.{PairOf}
use Rattle.pieces.proofs.pair_at.Goals as goal

-- A pair with a frame's letters and steps is that frame
abbrev row : Frame → Pair
row f =
    record {
      earlier = f.earlier;
      later = f.later;
      earlier_cols = f.earlier_cols;
      earlier_rows = f.earlier_rows;
      later_cols = f.later_cols;
      later_rows = f.later_rows;
    }

row_of : (f : Frame) → PairOf f (row f)
row_of f = record { earlier = refl; later = refl; earlier_cols = refl; earlier_rows = refl; later_cols = refl; later_rows = refl }

-- A table of four rows
table_at :
    {a b c d : Pair} (none : Pair) → PairOf (frame_of 0) a → PairOf (frame_of 1) b → PairOf (frame_of 2) c → PairOf (frame_of 3) d → (k : ℕ)
    → k < 4
    → PairOf (frame_of k) (get_or (a ∷ b ∷ c ∷ d ∷ []) k none)
table_at none p q r s zero h = p
table_at none p q r s (suc zero) h = q
table_at none p q r s (suc (suc zero)) h = r
table_at none p q r s (suc (suc (suc zero))) h = s
table_at none p q r s (suc (suc (suc (suc k)))) h = absurd (omega arith)

least_frame : (k : ℕ) {m : ℕ} → m ≡ min k 3 → frame_of k ≡ frame_of m
unfolding frame_of
least_frame zero {m} e = let z : m ≡ 0 = omega arith in rw z
least_frame (suc zero) {m} e = let z : m ≡ 1 = omega arith in rw z
least_frame (suc (suc zero)) {m} e = let z : m ≡ 2 = omega arith in rw z
least_frame (suc (suc (suc k))) {m} e = let z : m ≡ 3 = omega arith in rw z

pub returns : goal.returns
unfolding frame_of
returns c =
    rw (least_frame c.args.k c.min.ensures)
    (table_at _ (row_of (frame_of 0)) (row_of (frame_of 1)) (row_of (frame_of 2)) (row_of (frame_of 3)) c.min.result
    (omega (arith, c.min.ensures)))
