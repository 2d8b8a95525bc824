-- The edges in a flat list, columns then rows, and when two have the same direction (contract 3.12).
use Rattle.std.specs.Prelude.{ℕ, ◌+◌, ◌*◌, ◌≡◌, true, List, get_or, ℤ, pos, ◌+ℤ◌, ◌*ℤ◌}
use Rattle.std.specs.Int.Signed.{le_z}

-- The column step and the row step of edge i
unfoldable pub edge_cols : List ℤ → ℕ → ℤ
edge_cols es i = get_or es (2 * i) (pos 0)

unfoldable pub edge_rows : List ℤ → ℕ → ℤ
edge_rows es i = get_or es (2 * i + 1) (pos 0)

-- (dx, dy) and (ex, ey) are parallel and not opposite: their scalar product is above 0
pub record SameDirection (dx dy ex ey : ℤ) : Type 0 where
  pub parallel : dx *ℤ ey ≡ dy *ℤ ex
  pub forward : le_z (pos 1) (dx *ℤ ex +ℤ dy *ℤ ey) ≡ true
