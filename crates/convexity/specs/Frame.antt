-- The ordered letters of the four pieces, with their steps (contract 3.4).
use Rattle.std.specs.Prelude.{ℕ, zero, suc, ◌-◌, ℤ, pos, negsuc}
use Rattle.chart.specs.Limits.{side}
use Rattle.chart.specs.declared.Point.{Point}

-- The two letters of a piece, each with its step in columns and in rows
pub record Frame : Type 0 where
  pub earlier : ℕ
  pub later : ℕ
  pub earlier_cols : ℤ
  pub earlier_rows : ℤ
  pub later_cols : ℤ
  pub later_rows : ℤ

-- The frames of pieces 1 to 4, counted here from 0
unfoldable pub frame_of : ℕ → Frame
frame_of zero = record { earlier = 0; later = 1; earlier_cols = pos 1; earlier_rows = pos 0; later_cols = pos 0; later_rows = pos 1 }
frame_of (suc zero) =
    record { earlier = 3; later = 0; earlier_cols = pos 0; earlier_rows = negsuc 0; later_cols = pos 1; later_rows = pos 0 }
frame_of (suc (suc zero)) =
    record { earlier = 2; later = 3; earlier_cols = negsuc 0; earlier_rows = pos 0; later_cols = pos 0; later_rows = negsuc 0 }
frame_of (suc (suc (suc k))) =
    record { earlier = 1; later = 2; earlier_cols = pos 0; earlier_rows = pos 1; later_cols = negsuc 0; later_rows = pos 0 }

-- The piece after piece k, cyclically
abbrev pub next : ℕ → ℕ
next zero = 1
next (suc zero) = 2
next (suc (suc zero)) = 3
next (suc (suc (suc k))) = 0

-- How far a corner lies along a letter's direction, counted from the chart's border
unfoldable pub along : ℕ → Point → ℕ
along zero p = p.col
along (suc zero) p = p.row
along (suc (suc zero)) p = side - p.col
along (suc (suc (suc a))) p = side - p.row
