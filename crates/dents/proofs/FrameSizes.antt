-- Every step of a frame is at most 1 in size, so a number of 16 bits holds it.
use Prim.Native.Nat.{ℕ, zero, suc, ◌≤◌}
use native.Mathlib.Omega.{arith}
use mathlib.Core.Path.{◌≡◌, ◌∙◌}
use lib.IntN.{ℤ, nat_abs}
use mir.Syntax.{w16}
use mir.Val.{to_z, of_z}
use mir.ValLaws.{to_z-of_z}
use Rattle.convexity.specs.Frame.{Frame, frame_of}
use Rattle.pieces.specs.declared.Pair.{Pair}
use Rattle.pieces.specs.parts.Pieces.{PairOf}
use Rattle.base.proofs.Sizes.{fits-size}

pub record Units (f : Frame) : Type 0 where
  pub earlier_cols : nat_abs f.earlier_cols ≤ 1
  pub earlier_rows : nat_abs f.earlier_rows ≤ 1
  pub later_cols : nat_abs f.later_cols ≤ 1
  pub later_rows : nat_abs f.later_rows ≤ 1

pub frame-units : (k : ℕ) → Units (frame_of k)
unfolding frame_of
frame-units zero = record { earlier_cols = omega arith; earlier_rows = omega arith; later_cols = omega arith; later_rows = omega arith }
frame-units (suc zero) =
    record { earlier_cols = omega arith; earlier_rows = omega arith; later_cols = omega arith; later_rows = omega arith }
frame-units (suc (suc zero)) =
    record { earlier_cols = omega arith; earlier_rows = omega arith; later_cols = omega arith; later_rows = omega arith }
frame-units (suc (suc (suc k))) =
    record { earlier_cols = omega arith; earlier_rows = omega arith; later_cols = omega arith; later_rows = omega arith }

unit-read : {a b : ℤ} → a ≡ b → nat_abs b ≤ 1 → to_z w16 (of_z w16 a) ≡ b
unit-read {a} {b} e h = to_z-of_z w16 a (rw e (fits-size w16 b (omega arith))) ∙ e

pub record Read (f : Frame) (p : Pair) : Type 0 where
  pub earlier_cols : to_z w16 (of_z w16 p.earlier_cols) ≡ f.earlier_cols
  pub earlier_rows : to_z w16 (of_z w16 p.earlier_rows) ≡ f.earlier_rows
  pub later_cols : to_z w16 (of_z w16 p.later_cols) ≡ f.later_cols
  pub later_rows : to_z w16 (of_z w16 p.later_rows) ≡ f.later_rows

pub pair_read : (k : ℕ) {p : Pair} → PairOf (frame_of k) p → Read (frame_of k) p
pair_read k h =
    record {
      earlier_cols = unit-read h.earlier_cols (frame-units k).earlier_cols;
      earlier_rows = unit-read h.earlier_rows (frame-units k).earlier_rows;
      later_cols = unit-read h.later_cols (frame-units k).later_cols;
      later_rows = unit-read h.later_rows (frame-units k).later_rows;
    }
