-- The corner at a place of a walk as a number of 32 bits, by columns and by rows, and what a letter adds to it, modulo 2^32: 0 right, 1 up,
-- 2 left, 3 down. The place has the lowest bits, and every letter adds one to it.
use Rattle.std.specs.Prelude.{ℕ, zero, suc, ◌+◌, ◌-◌, ◌*◌, ◌/◌, ◌%◌, Bool, ◌||◌, nat_lt}
use Rattle.chart.specs.Limits.{side}
use Rattle.chart.specs.declared.Point.{Point}
use Rattle.survey_walk.specs.declared.Corners.{Corners}

-- By columns and then by rows, ten bits for the row and for the place. W has the least number, E the greatest
abbrev pub col_number : Point → ℕ → ℕ
col_number p i = p.col * 1048576 + p.row * 1024 + i

abbrev pub col_stride : ℕ → ℕ
col_stride zero = 1048577
col_stride (suc zero) = 1025
col_stride (suc (suc zero)) = 4293918721
col_stride (suc (suc (suc a))) = 4294966273

-- Off the chart the row or the column is above 255; one below 0 wraps
unfoldable pub off_chart : ℕ → Bool
off_chart n = nat_lt side (n / 1024 % 1024) || nat_lt side (n / 1048576)

-- By rows from the top and then by columns, eight bits for each and sixteen for the place. N has the least number, S the greatest
abbrev pub row_number : Point → ℕ → ℕ
row_number p i = (side - p.row) * 16777216 + p.col * 65536 + i

abbrev pub row_stride : ℕ → ℕ
row_stride zero = 65537
row_stride (suc zero) = 4278190081
row_stride (suc (suc zero)) = 4294901761
row_stride (suc (suc (suc a))) = 16777217

-- Read back: the place and the corner of a number by columns, and the row of one by rows, whose place is its remainder by 2^16
abbrev pub place_of : ℕ → ℕ
place_of n = n % 1024

abbrev pub corner_read : ℕ → Point
corner_read n = record { col = n / 1048576; row = n / 1024 % 1024 }

abbrev pub row_of : ℕ → ℕ
row_of n = side - n / 16777216 % 256

abbrev pub corners_from : ℕ → ℕ → ℕ → ℕ → Corners
corners_from west north east south =
    record {
      west = place_of west;
      north = north % 65536;
      east = place_of east;
      south = south % 65536;
      corner = corner_read west;
      bottom = row_of south;
      top = row_of north;
    }
