-- How the lowest missing cell is computed from the ends of the rows. The crate `convexity` proves that it is the cell that
-- lattice/specs/Hull.antt defines (`named-lowest`).
use Rattle.std.specs.Prelude.{ℕ, zero, suc, ◌+◌, ◌-◌, ◌*◌, ◌/◌, ◌%◌, Bool, cond, ◌||◌, ltb, List, [], ◌∷◌, nat_le, nat_lt}
use Rattle.base.specs.Below.{first}
use Rattle.chart.specs.Limits.{side}
use Rattle.chart.specs.declared.Point.{Point}
use Rattle.chart.specs.Outline.{Outline}
use Rattle.lattice.specs.Chart.{step}
use Rattle.lattice.specs.Enclosed.{up_along, down_along}

-- The column of the last up (down) along row r, or d if there is none
unfoldable pub up_column : Point → List ℕ → ℕ → ℕ → ℕ
up_column p [] r d = d
up_column p (a ∷ w) r d = up_column (step p a) w r (cond (up_along p a r) p.col d)

unfoldable pub down_column : Point → List ℕ → ℕ → ℕ → ℕ
down_column p [] r d = d
down_column p (a ∷ w) r d = down_column (step p a) w r (cond (down_along p a r) p.col d)

-- In what follows, row r begins at column lo r, and t is one above the top row. Seen from the first cell of row i, the first cell of row k
-- is at least as far left as the first cell of row j
unfoldable pub as_far_left : (ℕ → ℕ) → ℕ → ℕ → ℕ → Bool
as_far_left lo i j k = nat_le (lo k * (j - i) + lo i * (k - i)) (lo j * (k - i) + lo i * (j - i))

-- Of row j and the n rows from row k up, the one that is furthest left, seen from row i. Among equals it is the highest
unfoldable pub furthest : (ℕ → ℕ) → ℕ → ℕ → ℕ → ℕ → ℕ
furthest lo i j k zero = j
furthest lo i j k (suc n) = furthest lo i (cond (as_far_left lo i j k) k j) (suc k) n

-- The first column of row r that is not left of the line from row i to row j
unfoldable pub crossing : (ℕ → ℕ) → ℕ → ℕ → ℕ → ℕ
crossing lo i j r = ((j - r) * lo i + (r - i) * lo j + (j - i - 1)) / (j - i)

-- The first row after i and before j that begins right of that column, or j if there is none
unfoldable pub gap_row : (ℕ → ℕ) → ℕ → ℕ → ℕ
gap_row lo i j = suc i + first (λ k. ltb (crossing lo i j (suc i + k)) (lo (suc i + k))) (j - suc i)

-- Goes up the left side of the hull from row i, along at most n edges. In the first row that begins right of the side, the first column
-- inside the hull. If there is no such row, a cell of row t
unfoldable pub chain : (ℕ → ℕ) → ℕ → ℕ → ℕ → Point
chain lo t i zero = record { col = 0; row = t }
chain lo t i (suc n) =
    let j : ℕ = furthest lo i (suc i) (suc (suc i)) (t - suc (suc i)) in
    let r : ℕ = gap_row lo i j in
    let higher : Point = chain lo t j n in
    cond (nat_le t (suc i)) (record { col = 0; row = t }) (cond (nat_lt r j) (record { col = crossing lo i j r; row = r }) higher)

-- Row r of rows b to t - 1 goes from column lo r up to but not including column hi r. The lower of the gaps on the left and on the right
-- side; in the same row, the left one. The right side is the left side of the mirror image. A gap on the right gives the cell just right of
-- its row
unfoldable pub lowest_gap : (ℕ → ℕ) → (ℕ → ℕ) → ℕ → ℕ → Point
lowest_gap lo hi b t =
    let left : Point = chain lo t b (t - b) in
    let right : ℕ = (chain (λ r. side - hi r) t b (t - b)).row in
    cond (nat_le left.row right) left (record { col = hi right; row = right })

-- The lowest missing cell, leftmost in its row, of an outline between corner rows b and t
unfoldable pub missing_cell : Outline → ℕ → ℕ → Point
missing_cell o b t = lowest_gap (λ r. up_column o.start o.letters r 0) (λ r. down_column o.start o.letters r 0) b t

-- ---- for any start and any letters

-- The chart's corners are numbered row by row, 256 to a row. A letter below 4 adds `stride` to the number, modulo 65,536. A letter that
-- would leave the chart leads to another corner of the chart
abbrev pub numbered : Point → ℕ
numbered p = p.row % 256 * 256 + p.col % 256

abbrev pub corner_numbered : ℕ → Point
corner_numbered n = record { col = n % 256; row = n / 256 }

abbrev pub stride : ℕ → ℕ
stride zero = 1
stride (suc zero) = 256
stride (suc (suc zero)) = 65535
stride (suc (suc (suc a))) = 65280

unfoldable pub wrapped : ℕ → ℕ → ℕ
wrapped n a = (n + stride (a % 4)) % 65536

-- The column kept for row r, which is that of the last up (or down) along it
unfoldable pub kept_column : (Point → ℕ → ℕ → Bool) → ℕ → List ℕ → ℕ → ℕ → ℕ
kept_column along n [] r d = d
kept_column along n (a ∷ w) r d = kept_column along (wrapped n a) w r (cond (along (corner_numbered n) a r) (n % 256) d)

abbrev pub kept_up : Outline → ℕ → ℕ
kept_up o r = kept_column up_along (numbered o.start) o.letters r 0

abbrev pub kept_down : Outline → ℕ → ℕ
kept_down o r = kept_column down_along (numbered o.start) o.letters r 0

-- The same search for any start, any letters and any two rows. If the rows are not on the chart or not in order, it gives the start. For an
-- outline it gives the lowest missing cell (proofs/RowLaws.antt: `found-missing`)
unfoldable pub found_cell : Outline → ℕ → ℕ → Point
found_cell o b t = cond (nat_lt side t || nat_lt t b) o.start (lowest_gap (kept_up o) (kept_down o) b t)
