-- The order of directions of steps (dx, dy) in columns and rows: clockwise from up (contract 3.16).
use Rattle.std.specs.Prelude.{zero, suc, Bool, true, false, cond, not, ◌&&◌, ◌||◌, ℤ, pos, negsuc, ◌-ℤ◌, ◌*ℤ◌}

-- The cross product: above 0 exactly if (ex, ey) lies clockwise of (dx, dy) by less than half a turn
unfoldable pub cross : ℤ → ℤ → ℤ → ℤ → ℤ
cross dx dy ex ey = dy *ℤ ex -ℤ dx *ℤ ey

-- Above 0; equal to 0
unfoldable pub positive : ℤ → Bool
positive (pos zero) = false
positive (pos (suc n)) = true
positive (negsuc n) = false

unfoldable pub is_nil : ℤ → Bool
is_nil (pos zero) = true
is_nil (pos (suc n)) = false
is_nil (negsuc n) = false

-- The first half turn: from up, included, to down, excluded
unfoldable pub first_half : ℤ → ℤ → Bool
first_half dx dy = positive dx || (is_nil dx && positive dy)

-- (dx, dy) comes before (ex, ey): it is in the first half and the other is not, or
-- both are in the same half and the other lies clockwise of it
unfoldable pub precedes : ℤ → ℤ → ℤ → ℤ → Bool
precedes dx dy ex ey =
    cond (first_half dx dy) (not (first_half ex ey) || positive (cross dx dy ex ey)) (not (first_half ex ey) && positive (cross dx dy ex ey))
