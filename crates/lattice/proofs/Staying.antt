-- If a walk stays on the chart, the coordinate that a letter changes is not at its bound: otherwise the letter would leave.
use Prim.Native.Nat.{ℕ, ◌-◌, ◌<◌}
use mathlib.Core.Path.{◌≡◌}
use mathlib.Core.Bool.{false}
use lib.Dec.{eqb, leb, ltb}
use borrow.Author.Tests.{ltb-false, leb-false, eqb-false}
use Rattle.chart.specs.Limits.{side}
use Rattle.chart.specs.declared.Point.{Point}
use Rattle.chart.specs.Outline.{Outline}
use Rattle.lattice.specs.Chart.{leaves, corner_at, size, letter_at}
use Rattle.lattice.specs.Refusals.{bad_start, leaving_place, Stays}
use Rattle.lattice.specs.Walked.{NeverLeaves}
use Rattle.lattice.proofs.WalkLaws.{or_left, or_right, first_absent, OnChart}

-- The coordinate that a letter changes, if the letter stays on the chart
pub stays-right : (p : Point) (a : ℕ) → leaves p a ≡ false → a ≡ 0 → p.col < side
unfolding leaves
stays-right p a e h = leb-false side p.col (rw h at e)

pub stays_up : (p : Point) (a : ℕ) → leaves p a ≡ false → a ≡ 1 → p.row < side
unfolding leaves
stays_up p a e h = leb-false side p.row (rw h at e)

pub stays-left : (p : Point) (a : ℕ) → leaves p a ≡ false → a ≡ 2 → p.col ≡ 0 → ⊥
unfolding leaves
stays-left p a e h = eqb-false p.col 0 (rw h at e)

pub stays-down : (p : Point) (a : ℕ) → leaves p a ≡ false → a ≡ 3 → p.row ≡ 0 → ⊥
unfolding leaves
stays-down p a e h = eqb-false p.row 0 (rw h at e)

pub start-on-chart : (s : Point) → bad_start s ≡ false → OnChart s
unfolding bad_start
start-on-chart s e =
    record {
      col = ltb-false side s.col (or_left (ltb side s.col) (ltb side s.row) e);
      row = ltb-false side s.row (or_right (ltb side s.col) (ltb side s.row) e);
    }

module _ (o : Outline) where
  pub stays_at : Stays o → NeverLeaves o
  unfolding leaving_place
  stays_at t = first_absent (λ i. leaves (corner_at o i) (letter_at o i)) (size o) t
