-- For an outline that passes refusals 1 to 6, in either direction, the search by rows finds a cell exactly if some cell is missing. It is
-- the lowest one, and three enclosed cells have it in their triangle. Refusal 9 names the same cell.
use Prim.Native.Nat.{ℕ, ◌<◌}
use mathlib.Core.Path.{◌≡◌, refl, sym, ◌∙◌}
use mathlib.Core.Bool.{Bool, true, false}
use mathlib.Core.Logic.{◌↔◌}
use borrow.Author.Tests.{ltb-true, ltb-false}
use Rattle.chart.specs.declared.Point.{Point}
use Rattle.chart.specs.Outline.{Outline}
use Rattle.chart.specs.Fields.{verdict_fields}
use Rattle.lattice.specs.Chart.{corner_at}
use Rattle.lattice.specs.Hull.{InHull, Missing, Convex, LowestMissing}
use Rattle.lattice.specs.Refusals.{Simple}
use Rattle.lattice.proofs.HullLaws.{lowest-unique, lowest-same}
use Rattle.rows.specs.Search.{missing_cell}
use Rattle.convexity.specs.Cut.{corner_place}
use Rattle.convexity.specs.Clockwise.{border, block}
use Rattle.convexity.specs.Pieces.{Reaches, dent_piece}
use Rattle.convexity.specs.SameBlock.{SameCells}
use Rattle.convexity.proofs.AsSent.{named-lowest}
use Rattle.verdict.specs.Verdict.{verdict_of}
use Rattle.verdict.specs.Named.{cell_of}
use Rattle.verdict.proofs.Cells.{verdict-named}
use Rattle.verdict.proofs.Convex.{taken-iff-convex}
use Rattle.completion.specs.Complete.{first_cell, past_cell, first_row, past_row}
use Rattle.completion.specs.Sides.{first_side, last_side, lowest_corner, highest_corner}
use Rattle.completion.proofs.Sides.{first-side, last-side, lowest-corner, highest-corner}
use Rattle.witness.specs.Witness.{Witness}
use Rattle.witness.specs.Three.{three_for}
use Rattle.witness.specs.Gap.{lowest_row, second_side, is_missing, lowest_missing, witness_for, witness_of}
use Rattle.witness.proofs.Three.{hull-shown}
use Rattle.witness.proofs.Gap.{none-missing, finds}
use Rattle.witness.proofs.FirstInterval.{side-ends, first_run}

module _ (o : Outline) (h : Simple o) where
  abbrev row : ℕ
  row = lowest_row (first_side o) (second_side o) (last_side o) (lowest_corner o) (highest_corner o)

  -- If the search finds a cell, it is the lowest missing one
  pub missing-lowest : is_missing o ≡ true → LowestMissing (block o) (lowest_missing o)
  unfolding is_missing lowest_missing
  missing-lowest e =
      finds (block o) (first_side o) (second_side o) (last_side o) (lowest_corner o) (highest_corner o) (side-ends o h) (first_run o h)
      (ltb-true row (highest_corner o) e)

  -- If it finds none, none is missing
  pub missing-none : is_missing o ≡ false → Convex (block o)
  unfolding is_missing
  missing-none e =
      none-missing (block o) (first_side o) (second_side o) (last_side o) (lowest_corner o) (highest_corner o) (side-ends o h) (first_run o h)
      (ltb-false row (highest_corner o) e)

  pub missing-iff : (is_missing o ≡ true) ↔ ((x : Point) × Missing (block o) x)
  missing-iff = ((λ e. (lowest_missing o, (missing-lowest e).missing)), λ m. go (is_missing o) refl m)
    where
      go : (a : Bool) → is_missing o ≡ a → (x : Point) × Missing (block o) x → is_missing o ≡ true
      go true e m = e
      go false e m = absurd (missing-none e m.0 m.1)

  pub full-iff : (is_missing o ≡ false) ↔ Convex (block o)
  full-iff = (missing-none, λ f. go (is_missing o) refl f)
    where
      go : (a : Bool) → is_missing o ≡ a → Convex (block o) → is_missing o ≡ false
      go false e f = e
      go true e f = absurd (f (lowest_missing o) (missing-lowest e).missing)

  -- The lowest missing cell is the one that the search finds
  pub lowest-is : (x : Point) → LowestMissing (block o) x → lowest_missing o ≡ x
  lowest-is x m = lowest-unique (missing-lowest (missing-iff.1 (x, m.missing))) m

  -- ---- the three cells

  pub witness-for : (x : Point) → InHull (block o) x → Witness (block o) x (witness_for o x).a (witness_for o x).b (witness_for o x).d
  unfolding witness_for
  witness-for x k = hull-shown (block o) (first_side o) (last_side o) (lowest_corner o) (highest_corner o) (side-ends o h) x k

  pub witness-holds : is_missing o ≡ true → Witness (block o) (lowest_missing o) (witness_of o).a (witness_of o).b (witness_of o).d
  unfolding witness_of
  witness-holds e = witness-for (lowest_missing o) (missing-lowest e).missing.hull

  -- ---- the verdict

  -- An outline is taken exactly if the search finds none
  pub taken-iff : ((verdict_fields (verdict_of o)).number ≡ 0) ↔ (is_missing o ≡ false)
  taken-iff = let t = taken-iff-convex o h in ((λ e. full-iff.1 (t.0 e)), λ e. t.1 (full-iff.0 e))

  -- Refusal 9 names the same cell
  pub verdict-same : (verdict_fields (verdict_of o)).number ≡ 9 → lowest_missing o ≡ cell_of (verdict_fields (verdict_of o))
  verdict-same e = lowest-is (cell_of (verdict_fields (verdict_of o))) ((verdict-named o).missing e)

-- For an outline with a dent and no back-step, the search of refusal 9 finds the same cell
pub missing-same : (o : Outline) → Reaches o → dent_piece (border o) < 4
    → lowest_missing o ≡ missing_cell (border o) (corner_at (border o) (corner_place (border o) 3)).row
    (corner_at (border o) (corner_place (border o) 1)).row
missing-same o r d = lowest-is o r.simple _ (named-lowest o r d)

-- ---- outlines of the same block, in either direction and from any start

module _ (o v : Outline) (h : Simple o) (k : Simple v) (same : SameCells o v) where
  pub lowest-alike : is_missing o ≡ true → lowest_missing o ≡ lowest_missing v
  lowest-alike e = sym (lowest-is v k (lowest_missing o) (lowest-same same (missing-lowest o h e)))

  pub witness-alike : (x : Point) → witness_for o x ≡ witness_for v x
  unfolding witness_for
  witness-alike x =
      (λ i. three_for (λ r. first-side o h r i) (λ r. last-side o h r i) (lowest-corner o h i) (highest-corner o h i) x)
      ∙ (λ i. three_for (first_cell (λ c r. same c r i)) (past_cell (λ c r. same c r i)) (first_row (λ c r. same c r i))
      (past_row (λ c r. same c r i)) x)
      ∙ (λ i. three_for (λ r. sym (first-side v k r) i) (λ r. sym (last-side v k r) i) (sym (lowest-corner v k) i)
      (sym (highest-corner v k) i) x)
