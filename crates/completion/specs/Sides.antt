-- What one walk along the letters as sent finds, in either direction. A side of row r is a step up or down along the height of row r. The
-- walk finds the extreme rows of the corners, and the first and the last side of each row.
use Rattle.std.specs.Prelude.{ℕ, min, max, Bool, true, cond, ◌||◌, List, [], ◌∷◌}
use Rattle.chart.specs.Limits.{side}
use Rattle.chart.specs.declared.Point.{Point}
use Rattle.chart.specs.Outline.{Outline}
use Rattle.lattice.specs.Chart.{step}
use Rattle.lattice.specs.Enclosed.{up_along, down_along}

-- The letter a from p steps up or down along the height of row r
unfoldable pub along_row : ℕ → Point → ℕ → Bool
along_row r p a = up_along p a r || down_along p a r

-- The minimum of d and of g over the corners that are left by letters that pass a test; the maximum
unfoldable pub least_over : (Point → ℕ → Bool) → (Point → ℕ) → Point → List ℕ → ℕ → ℕ
least_over f g p [] d = d
least_over f g p (a ∷ w) d = least_over f g (step p a) w (cond (f p a) (min (g p) d) d)

unfoldable pub greatest_over : (Point → ℕ → Bool) → (Point → ℕ) → Point → List ℕ → ℕ → ℕ
greatest_over f g p [] d = d
greatest_over f g p (a ∷ w) d = greatest_over f g (step p a) w (cond (f p a) (max (g p) d) d)

module _ (o : Outline) where
  -- The columns of the first and of the last side of row r
  unfoldable pub first_side : ℕ → ℕ
  first_side r = least_over (along_row r) (λ p. p.col) o.start o.letters side

  unfoldable pub last_side : ℕ → ℕ
  last_side r = greatest_over (along_row r) (λ p. p.col) o.start o.letters 0

  -- The rows of the lowest and of the highest corner
  unfoldable pub lowest_corner : ℕ
  lowest_corner = least_over (λ p a. true) (λ p. p.row) o.start o.letters side

  unfoldable pub highest_corner : ℕ
  highest_corner = greatest_over (λ p a. true) (λ p. p.row) o.start o.letters 0

  -- The columns of the leftmost and of the rightmost corner
  unfoldable pub leftmost_corner : ℕ
  leftmost_corner = least_over (λ p a. true) (λ p. p.col) o.start o.letters side

  unfoldable pub rightmost_corner : ℕ
  rightmost_corner = greatest_over (λ p a. true) (λ p. p.col) o.start o.letters 0
