-- One edge in a piece's frame: a run of earlier letters and a rise of later ones, columns then rows.
use Rattle.std.specs.Prelude.{ℕ, ◌≤◌, ◌≡◌, ℤ, pos, nat_abs, ◌+ℤ◌, ◌*ℤ◌}
use Rattle.chart.specs.Limits.{longest}
use Rattle.convexity.specs.Frame.{Frame}
use Rattle.dents.specs.declared.edge.Edge.{Edge}

-- A run and a rise of an outline's letters, each a step of at most 1
pub record Steps (run : ℕ) (earlier : ℤ) (rise : ℕ) (later : ℤ) : Type 0 where
  pub run_le : run ≤ longest
  pub rise_le : rise ≤ longest
  pub earlier_le : nat_abs earlier ≤ 1
  pub later_le : nat_abs later ≤ 1

-- The edge of a run and a rise
pub record EdgeOf (f : Frame) (run rise : ℕ) (r : Edge) : Type 0 where
  pub dx : r.dx ≡ pos run *ℤ f.earlier_cols +ℤ pos rise *ℤ f.later_cols
  pub dy : r.dy ≡ pos run *ℤ f.earlier_rows +ℤ pos rise *ℤ f.later_rows
