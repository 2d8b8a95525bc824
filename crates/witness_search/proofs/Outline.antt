-- What the two passes find for an outline: the arrays have the ends of its block's rows, so the laws for rows apply.
use Prim.Native.Nat.{ℕ, pred, ◌+◌, ◌-◌, ◌≤◌, ◌<◌}
use mathlib.Core.Path.{◌≡◌, refl, sym, ap, ◌∙◌, subst, subst₂}
use mathlib.Core.List.{List}
use native.Mathlib.Omega.{arith}
use lib.Dec.{ltb}
use borrow.Author.Tests.{lt-ltb, le-ltb}
use Rattle.base.specs.Below.{first}
use Rattle.base.proofs.BelowLaws.{first-is, first-none}
use Rattle.std.specs.Prelude.{Option, Some, None}
use Rattle.chart.specs.Limits.{side}
use Rattle.chart.specs.declared.Point.{Point}
use Rattle.chart.specs.Outline.{Outline, at}
use Rattle.lattice.specs.Hull.{InHull, LowestMissing}
use Rattle.lattice.specs.Refusals.{Simple}
use Rattle.lattice.proofs.WalkLaws.{point-eq}
use Rattle.rows.specs.parts.Rows.{rows}
use Rattle.convexity.specs.Clockwise.{block}
use Rattle.completion.specs.Sides.{first_side, last_side}
use Rattle.completion.specs.HullRows.{hull_right}
use Rattle.completion.proofs.HullRows.{Ends, hull-iff}
use Rattle.completion.proofs.LeftSide.{lowest-row}
use Rattle.completion.proofs.BlockEnds.{block-joined, rows_fit}
use Rattle.completion.proofs.Sides.{highest-corner}
use Rattle.witness.specs.Three.{first_in, last_in, from_row, three_for}
use Rattle.witness.specs.Gap.{open_column, has_gap, lowest_row, lowest_open, lowest_missing, witness_for, witness_of}
use Rattle.witness.proofs.Gap.{FirstRun, finds, none-missing}
use Rattle.witness.proofs.Alike.{three-alike}
use Rattle.witness.proofs.Theorem.{missing-iff, full-iff, lowest-is}
use Rattle.witness.proofs.FirstInterval.{side-ends, first_run}
use Rattle.row_sides.specs.parts.Passed.{Passed}
use Rattle.witness_search.specs.declared.Shown.{Shown}
use Rattle.witness_search.specs.parts.Answers.{three_by, Shows, Lowest, Answers, Finds}

module _ (o : Outline) (h : Simple o) (lo en hi : List ℕ) (b t : ℕ) (p : Passed o lo en hi b t) where
  pub top : t ≤ side
  top = omega (arith, p.highest, highest-corner o h, rows_fit (block o) (block-joined o h))

  inner : (r : ℕ) → r < t → r < side
  inner r m = omega (arith, top)

  sent : Ends (block o) (first_side o) (last_side o) b t
  sent = subst₂ (λ (m n : ℕ). Ends (block o) (first_side o) (last_side o) m n) (sym p.lowest) (sym p.highest) (side-ends o h)

  pub array-ends : Ends (block o) (rows lo) (rows hi) b t
  array-ends =
      record {
        rows =
            record {
              below = sent.rows.below;
              nonempty = λ r l m. omega (arith, sent.rows.nonempty r l m, p.first r (inner r m), p.last r (inner r m));
              fits = λ r l m. omega (arith, sent.rows.fits r l m, p.last r (inner r m));
            };
        inside = λ x e.
            let w = sent.inside x e in
            record {
              above = w.above;
              below = w.below;
              begun = omega (arith, w.begun, p.first x.row (inner x.row w.below));
              before = omega (arith, w.before, p.last x.row (inner x.row w.below));
            };
        first = λ r l m. ap (λ (c : ℕ). block o c r) (p.first r (inner r m)) ∙ sent.first r l m;
        last = λ r l m. ap (λ (c : ℕ). block o (pred c) r) (p.last r (inner r m)) ∙ sent.last r l m;
      }

  pub array_runs : (r : ℕ) → b ≤ r → r < t → FirstRun (block o) (rows lo) (rows en) r
  array_runs r l m =
      let f = first_run o h r (omega (arith, p.lowest)) (omega (arith, p.highest)) in
      let d = p.first r (inner r m) in
      let e = p.second r (inner r m) in
      record {
        begun = omega (arith, f.begun);
        run = λ c x y. f.run c (omega arith) (omega arith);
        ended = ap (λ (c : ℕ). block o c r) e ∙ f.ended;
      }

  -- A cell of the hull has the same three cells from the arrays as from the sides
  three-sent : (x : Point) → InHull (block o) x → three_for (rows lo) (rows hi) b t x ≡ witness_for o x
  unfolding witness_for
  three-sent x k =
      three-alike (rows lo) (first_side o) (rows hi) (last_side o) b t (λ r m. p.first r (inner r m)) (λ r m. p.last r (inner r m)) x
      ((hull-iff (block o) (rows lo) (rows hi) b t array-ends x).0 k)
      ∙ (λ i. three_for (first_side o) (last_side o) (p.lowest i) (p.highest i) x)

  pub found_of : (r : Option Shown) → Answers (rows lo) (rows en) (rows hi) b t r → Finds o r
  unfolding witness_of
  found_of None l = (full-iff o h).1 (none-missing (block o) (rows lo) (rows en) (rows hi) b t array-ends array_runs l)
  found_of (Some s) a =
      let low : LowestMissing (block o) s.cell =
      subst (LowestMissing (block o)) (sym a.lowest) (finds (block o) (rows lo) (rows en) (rows hi) b t array-ends array_runs a.row) in
      let here : lowest_missing o ≡ s.cell = lowest-is o h s.cell low in
      record {
        missing = (missing-iff o h).1 (s.cell, low.missing);
        lowest = sym here;
        three = ap (witness_for o) here ∙ sym (three-sent s.cell low.missing.hull) ∙ a.three;
      }

-- The rows of the corners under other names
pub passed-at : (o : Outline) (lo en hi : List ℕ) (low high b t : ℕ) → b ≡ low → t ≡ high → Passed o lo en hi low high
    → Passed o lo en hi b t
passed-at o lo en hi low high b t d e p =
    record { first = p.first; second = p.second; last = p.last; lowest = d ∙ p.lowest; highest = e ∙ p.highest }

-- ---- one row

module _ (lo en hi : ℕ → ℕ) (b : ℕ) (fits : hi b ≤ side) (run : lo b < en b) where
  column-is : open_column lo en hi b (b + 1) b ≡ en b
  unfolding open_column
  column-is = rw (lowest-row lo b (b + 1) (omega arith), le-ltb (lo b) (lo b) (omega arith)) refl

  right_is : hull_right hi b (b + 1) b ≡ hi b
  unfolding hull_right
  right_is = rw (lowest-row (λ s. side - hi s) b (b + 1) (omega arith)) (omega arith)

  gap_is : has_gap lo en hi b (b + 1) b ≡ ltb (en b) (hi b)
  unfolding has_gap
  gap_is = rw (column-is, right_is) refl

  test-is : (z : ℕ) → z < b + 1 - b → has_gap lo en hi b (b + 1) (b + z) ≡ ltb (en b) (hi b)
  test-is z l = let e : b + z ≡ b = omega arith in rw e gap_is

  pub single-none : hi b ≤ en b → b + 1 ≤ lowest_row lo en hi b (b + 1)
  unfolding lowest_row
  single-none l =
      let e = first-none (λ z. has_gap lo en hi b (b + 1) (b + z)) (b + 1 - b) (λ z a. test-is z a ∙ le-ltb (en b) (hi b) l) in omega arith

  same : en b < hi b → three_for lo hi b (b + 1) (at (en b) b) ≡ three_by lo hi b b b b (en b) b
  unfolding three_for three_by from_row first_in last_in
  same l = rw (le-ltb (en b) (lo b) (omega arith), lt-ltb (en b) (hi b) l) refl

  pub single-found : en b < hi b → (s : Shown) → Shows lo hi b b b b (en b) b s.cell s.a s.b s.d → Lowest lo en hi b (b + 1) s
  unfolding lowest_row lowest_open
  single-found l s h =
      let e0 =
      first-is (λ z. has_gap lo en hi b (b + 1) (b + z)) (b + 1 - b) 0 (omega arith) (λ z a. absurd (omega arith))
      (test-is 0 (omega arith) ∙ lt-ltb (en b) (hi b) l) in
      let e : b + first (λ z. has_gap lo en hi b (b + 1) (b + z)) (b + 1 - b) ≡ b = omega arith in
      record {
        row = omega arith;
        lowest =
            h.is_cell
            ∙ point-eq (at (en b) b) (lowest_open lo en hi b (b + 1)) (sym column-is ∙ ap (open_column lo en hi b (b + 1)) (sym e)) (sym e);
        three = ap (three_for lo hi b (b + 1)) h.is_cell ∙ same l ∙ h.three;
      }
