-- The checker computes witnesses: a dent on the right and its mirror image, gaps within rows, outlines drawn in either direction, a dent on
-- the left of rows that step in and out again, an outline with no missing cell, and replies of the call.
use Prim.Native.Nat.{ℕ}
use mathlib.Core.Path.{◌≡◌, refl}
use mathlib.Core.Bool.{Bool, true, false}
use mathlib.Core.List.{List, [], ◌∷◌}
use lib.ListN.{replicate}
use Rattle.base.specs.Below
use Rattle.chart.specs.declared.Point.{Point}
use Rattle.chart.specs.declared.Fields.{Fields}
use Rattle.chart.specs.Fields.{no_word, numbered, placed, worded, accepted}
use Rattle.chart.specs.Outline.{Outline, outline, at}
use Rattle.calls.specs.Replies.{none_word}
use Rattle.lattice.specs.Chart
use Rattle.lattice.specs.Enclosed
use Rattle.rows.specs.Search
use Rattle.completion.specs.HullRows
use Rattle.completion.specs.Sides
use Rattle.witness.specs.Three
use Rattle.verdict.proofs.Computes.{computes}
use Rattle.witness.specs.Gap
use Rattle.witness.specs.Witnessed

-- Opens the definitions for what follows
opened : Bool
unfolding Below.first Below.further Chart.step Enclosed.up_along Enclosed.down_along Search.as_far_left Search.furthest Search.crossing
    HullRows.left_from HullRows.hull_left HullRows.hull_right Sides.along_row Sides.least_over Sides.greatest_over Sides.first_side Sides.last_side
    Sides.lowest_corner Sides.highest_corner Three.edge_row Three.lower_end Three.upper_end Three.first_in Three.last_in Three.from_left
    Three.from_right Three.from_row Three.three_for Gap.open_column Gap.has_gap Gap.lowest_row Gap.lowest_open Gap.second_side Gap.is_missing
    Gap.lowest_missing Gap.witness_for Gap.witness_of
opened = true

called : Bool
unfolding Witnessed.shown_in Witnessed.past_survey Witnessed.witnessed_of Witnessed.witnessed_fields Witnessed.three_numbers Witnessed.shown_after
    Witnessed.cells_after
called = true

-- Some cell is missing: which one, and which three cells have it in their triangle
pub record Shows (o : Outline) (x a b d : Point) : Type 0 where
  pub missing : Gap.is_missing o ≡ true
  pub cell : Gap.lowest_missing o ≡ x
  pub three : Gap.witness_of o ≡ record { a = a; b = b; d = d }

abbrev drawn : List ℕ → Outline
drawn w = outline (at 0 0) w

-- H6: a row of three and a tower of three at its left
h6 : Shows (drawn (1 ∷ 1 ∷ 1 ∷ 0 ∷ 3 ∷ 3 ∷ 0 ∷ 0 ∷ 3 ∷ 2 ∷ 2 ∷ 2 ∷ [])) (at 1 1) (at 2 0) (at 0 2) (at 0 1)
unfolding opened
h6 = record { missing = refl; cell = refl; three = refl }

-- Its mirror image
h6-left : Shows (drawn (1 ∷ 0 ∷ 0 ∷ 1 ∷ 1 ∷ 0 ∷ 3 ∷ 3 ∷ 3 ∷ 2 ∷ 2 ∷ 2 ∷ [])) (at 1 1) (at 0 0) (at 2 2) (at 2 1)
unfolding opened
h6-left = record { missing = refl; cell = refl; three = refl }

-- H7: two towers of two on a row of three, a gap within a row; and backward
h7 : Shows (drawn (1 ∷ 1 ∷ 0 ∷ 3 ∷ 0 ∷ 1 ∷ 0 ∷ 3 ∷ 3 ∷ 2 ∷ 2 ∷ 2 ∷ [])) (at 1 1) (at 0 1) (at 2 1) (at 2 1)
unfolding opened
h7 = record { missing = refl; cell = refl; three = refl }

h7-back : Shows (drawn (0 ∷ 0 ∷ 0 ∷ 1 ∷ 1 ∷ 2 ∷ 3 ∷ 2 ∷ 1 ∷ 2 ∷ 3 ∷ 3 ∷ [])) (at 1 1) (at 0 1) (at 2 1) (at 2 1)
unfolding opened
h7-back = record { missing = refl; cell = refl; three = refl }

-- Three towers of three on a row of five: two gaps in each row, of which the first is found
comb :
    Shows (drawn (1 ∷ 1 ∷ 1 ∷ 0 ∷ 3 ∷ 3 ∷ 0 ∷ 1 ∷ 1 ∷ 0 ∷ 3 ∷ 3 ∷ 0 ∷ 1 ∷ 1 ∷ 0 ∷ 3 ∷ 3 ∷ 3 ∷ 2 ∷ 2 ∷ 2 ∷ 2 ∷ 2 ∷ []))
    (at 1 1) (at 0 1) (at 4 1) (at 4 1)
unfolding opened
comb = record { missing = refl; cell = refl; three = refl }

-- Row 0 of columns 2 and 3, row 1 of column 3, row 2 of columns 0 to 3: the line from (2, 0) to (0, 2) meets row 1 at column 1
hook : Shows (outline (at 2 0) (1 ∷ 0 ∷ 1 ∷ 2 ∷ 2 ∷ 2 ∷ 1 ∷ 0 ∷ 0 ∷ 0 ∷ 0 ∷ 3 ∷ 3 ∷ 3 ∷ 2 ∷ 2 ∷ [])) (at 1 1) (at 2 0) (at 0 2) (at 3 1)
unfolding opened
hook = record { missing = refl; cell = refl; three = refl }

-- One cell has none missing
one_cell : Gap.is_missing (drawn (1 ∷ 0 ∷ 3 ∷ 2 ∷ [])) ≡ false
unfolding opened
one_cell = refl

-- ---- the call

-- The reply with a buffer of n zeros, and the buffer afterwards
pub record Answers (o : Outline) (n : ℕ) (f : Fields) (after : List ℕ) : Type 0 where
  pub replied : Witnessed.witnessed_fields (Witnessed.witnessed_of o n) ≡ f
  pub written : Witnessed.cells_after o (replicate n 0) ≡ after

-- H6 with a buffer of eight numbers and of five; H1, one cell; H8, which meets a corner twice
h6-answer :
    Answers (drawn (1 ∷ 1 ∷ 1 ∷ 0 ∷ 3 ∷ 3 ∷ 0 ∷ 0 ∷ 3 ∷ 2 ∷ 2 ∷ 2 ∷ [])) 8 (accepted no_word 0 (at 1 1))
    (2 ∷ 0 ∷ 0 ∷ 2 ∷ 0 ∷ 1 ∷ 0 ∷ 0 ∷ [])
unfolding opened computes called
h6-answer = record { replied = refl; written = refl }

h6-short : Answers (drawn (1 ∷ 1 ∷ 1 ∷ 0 ∷ 3 ∷ 3 ∷ 0 ∷ 0 ∷ 3 ∷ 2 ∷ 2 ∷ 2 ∷ [])) 5 (numbered 10) (0 ∷ 0 ∷ 0 ∷ 0 ∷ 0 ∷ [])
unfolding opened computes called
h6-short = record { replied = refl; written = refl }

h1-answer : Answers (drawn (1 ∷ 0 ∷ 3 ∷ 2 ∷ [])) 6 (worded none_word) (0 ∷ 0 ∷ 0 ∷ 0 ∷ 0 ∷ 0 ∷ [])
unfolding opened computes called
h1-answer = record { replied = refl; written = refl }

h8-answer : Answers (drawn (1 ∷ 0 ∷ 2 ∷ 3 ∷ [])) 6 (placed 6 2) (0 ∷ 0 ∷ 0 ∷ 0 ∷ 0 ∷ 0 ∷ [])
unfolding opened computes called
h8-answer = record { replied = refl; written = refl }
