-- A cell is enclosed exactly if its level, ups minus downs, is 1, and in a walk that leaves
-- W upward the level is 1 right of each letter and 0 left of it.
-- So the cell at W is enclosed; and since no corner lies left of W or below it in its column, no cell there is.
use Prim.Native.Nat.{ℕ, suc, ◌+◌, ◌<◌, ◌≤◌}
use native.Mathlib.Omega.{arith}
use mathlib.Core.Path.{◌≡◌, refl, subst}
use mathlib.Core.Bool.{Bool, true, false, ◌&&◌}
use mathlib.Core.List.{List, [], ◌∷◌}
use lib.ListN.{length, get_or}
use lib.Dec.{leb, eqb}
use borrow.Author.Tests.{leb-true, eqb-true, eq-eqb, ne_eqb}
use Rattle.base.proofs.BelowLaws.{and_left, and_right}
use Rattle.chart.specs.declared.Point.{Point}
use Rattle.chart.specs.Outline.{Outline, at}
use Rattle.lattice.specs.Chart.{step, corner_at, size, letter_at}
use Rattle.lattice.specs.Enclosed.{up_along, down_along, ups, downs, encloses}
use Rattle.lattice.proofs.WalkLaws.{corner-zero}
use Rattle.lattice.proofs.Jumps.{tally, tally-found, ups_to, downs_to, ups-to, downs-to}
use Rattle.lattice.proofs.RightHand.{left_of, right_of, Lowest, clockwise-right, clockwise-left}
use Rattle.convexity.specs.Frame.{frame_of, along}
use Rattle.convexity.specs.Cut.{clockwise}
use Rattle.convexity.specs.Pieces.{IsAnchor}
use Rattle.convexity.specs.Shape.{WalkFromW}
use Rattle.convexity.proofs.Extreme.{FirstAt, not-before-earlier, not-before-later}

-- The first corner in frame 0 is the lowest of the leftmost column
pub first-lowest : (o : Outline) (k : ℕ) → FirstAt o 0 k → Lowest o k
unfolding frame_of along
first-lowest o k f =
    record {
      below = f.below;
      least-col = λ i l. not-before-earlier (frame_of 0) (corner_at o i) (corner_at o k) (f.none i l);
      least-row = λ i l. not-before-later (frame_of 0) (corner_at o i) (corner_at o k) (f.none i l);
    }

-- A clockwise walk from W leaves it upward
pub leaves-upwards : (o : Outline) → clockwise o ≡ true → letter_at o 0 ≡ 1
unfolding clockwise
leaves-upwards o c = eqb-true (letter_at o 0) 1 c

-- The two counts of a row are tallies
pub ups-tally : (p : Point) (w : List ℕ) (c r : ℕ) → ups p w c r ≡ tally (λ q a. up_along q a r && leb q.col c) p w
unfolding ups tally
ups-tally p [] c r = refl
ups-tally p (a ∷ w) c r = rw (ups-tally (step p a) w c r)

pub downs-tally : (p : Point) (w : List ℕ) (c r : ℕ) → downs p w c r ≡ tally (λ q a. down_along q a r && leb q.col c) p w
unfolding downs tally
downs-tally p [] c r = refl
downs-tally p (a ∷ w) c r = rw (downs-tally (step p a) w c r)

-- What the test of a letter and a row says
pub tested : (a k y r : ℕ) → (eqb a k && eqb y r) ≡ true → (a ≡ k) × (y ≡ r)
tested a k y r e = (eqb-true a k (and_left (eqb a k) (eqb y r) e), eqb-true y r (and_right (eqb a k) (eqb y r) e))

-- The letter at place i is a
abbrev pub LetterAt : List ℕ → ℕ → ℕ → Type 0
LetterAt t a i = (i < length t) × (get_or t i 0 ≡ a)

-- The point p stands for the cell one to its left and one below, as in the laws about
-- cells to the right of a walk. The cell's level is 1, or 0
abbrev pub In : Outline → Point → Type 0
In o p = ups_to o p.col p.row ≡ downs_to o p.col p.row + 1

abbrev pub Out : Outline → Point → Type 0
Out o p = ups_to o p.col p.row ≡ downs_to o p.col p.row

abbrev pub shifted : Point → Point
shifted x = at (suc x.col) (suc x.row)

module _ (o : Outline) where
  pub enclosed-level : (x : Point) → encloses o x.col x.row ≡ true → In o (shifted x)
  unfolding encloses
  enclosed-level x e =
      omega (
        arith,
        eqb-true (ups o.start o.letters x.col x.row) (downs o.start o.letters x.col x.row + 1) e,
        ups-to o.start o.letters x.col x.row,
        downs-to o.start o.letters x.col x.row,
      )

  pub level-enclosed : (x : Point) → In o (shifted x) → encloses o x.col x.row ≡ true
  unfolding encloses
  level-enclosed x h =
      eq-eqb (ups o.start o.letters x.col x.row) (downs o.start o.letters x.col x.row + 1) (rw (ups-to, downs-to) h)

  pub level-open : (x : Point) → Out o (shifted x) → encloses o x.col x.row ≡ false
  unfolding encloses
  level-open x h =
      ne_eqb (ups o.start o.letters x.col x.row) (downs o.start o.letters x.col x.row + 1)
      (rw (ups-to, downs-to) (omega arith))

  -- For an enclosed cell some up is counted
  pub up-counted : (c r : ℕ) → encloses o c r ≡ true
      → (i : ℕ) × LetterAt o.letters 1 i × ((corner_at o i).col ≤ c) × ((corner_at o i).row ≡ r)
  unfolding encloses up_along
  up-counted c r e =
      let (i, l, g) =
      tally-found (λ q a. up_along q a r && leb q.col c) o.start o.letters
      (omega (
        arith,
        ups-tally o.start o.letters c r,
        eqb-true (ups o.start o.letters c r) (downs o.start o.letters c r + 1) e,
      )) in
      let p = corner_at o i in
      let (a, b) = tested (letter_at o i) 1 p.row r (and_left (up_along p (letter_at o i) r) (leb p.col c) g) in
      (i, (l, a), leb-true p.col c (and_right (up_along p (letter_at o i) r) (leb p.col c) g), b)

  open-of-no-ups : (c r : ℕ) → ((i : ℕ) → i < size o → (corner_at o i).col ≤ c → (corner_at o i).row ≡ r → ⊥) → encloses o c r ≡ false
  open-of-no-ups c r h = go (encloses o c r) refl
    where
      go : (b : Bool) → encloses o c r ≡ b → encloses o c r ≡ false
      go false e = e
      go true e = let (i, l, a, b) = up-counted c r e in absurd (h i l.0 a b)

  module _ (h : WalkFromW o) where
    -- A walk from W starts at its lowest corner of the leftmost column
    pub from-w-first : FirstAt o 0 0
    from-w-first = record { below = omega (arith, h.walked.long); none = λ i l. rw corner-zero (h.west i l) }

    pub from-w-lowest : Lowest o 0
    from-w-lowest = first-lowest o 0 from-w-first

    -- No cell of a column left of W is enclosed, and no cell below the one at W in its column
    pub left-of-anchor : (c r : ℕ) → c < o.start.col → encloses o c r ≡ false
    left-of-anchor c r k = open-of-no-ups c r (λ i l a b. omega (arith, rw corner-zero at (from-w-lowest.least-col i l)))

    pub below-anchor : (r : ℕ) → r < o.start.row → encloses o o.start.col r ≡ false
    below-anchor r k =
        open-of-no-ups o.start.col r (λ i l a b.
        let least = rw corner-zero at (from-w-lowest.least-col i l) in
        omega (arith, rw corner-zero at (from-w-lowest.least-row i l) (omega arith)))

    module _ (up : letter_at o 0 ≡ 1) where
      pub right-in : (a i : ℕ) → LetterAt o.letters a i → In o (right_of (corner_at o i) a)
      right-in a i e = subst (λ (b : ℕ). In o (right_of (corner_at o i) b)) e.1 (clockwise-right o h.walked 0 from-w-lowest up i e.0)

      pub left_out : (a i : ℕ) → LetterAt o.letters a i → Out o (left_of (corner_at o i) a)
      left_out a i e = subst (λ (b : ℕ). Out o (left_of (corner_at o i) b)) e.1 (clockwise-left o h.walked 0 from-w-lowest up i e.0)

      -- The cell to the right of an up is enclosed
      pub up-marked : (i : ℕ) → LetterAt o.letters 1 i → encloses o (corner_at o i).col (corner_at o i).row ≡ true
      unfolding right_of left_of
      up-marked i e = level-enclosed (corner_at o i) (right-in 1 i e)

      -- The cell at W is the lowest enclosed cell of the leftmost column
      pub anchor-lowest : IsAnchor (encloses o) o.start
      anchor-lowest =
          record { enclosed = rw corner-zero at (up-marked 0 (from-w-lowest.below, up)); leftmost = left-of-anchor; lowest = below-anchor }
