-- Which outlines have an anchor and a list of edges, and the test whether there is one (contract 5.2, refusal 17).
use Rattle.std.specs.Prelude.{ℕ, ◌≡◌, Bool, false, ◌&&◌, List, ℤ, Result, Ok, Err}
use Rattle.base.specs.Same.{sameℤs}
use Rattle.chart.specs.declared.Point.{Point}
use Rattle.chart.specs.declared.Refusal.{Refusal}
use Rattle.chart.specs.declared.Taken.{Taken}
use Rattle.chart.specs.Taken.{taken_with}
use Rattle.chart.specs.Outline.{Outline, outline}
use Rattle.lattice.specs.Chart.{same_point}
use Rattle.convexity.specs.Clockwise.{border}
use Rattle.convexity.specs.Pieces.{edges}
use Rattle.convexity.specs.FromEdges.{letters_from}
use Rattle.verdict.specs.Verdict.{verdict_of}

-- The outline is taken, with this anchor and these edges
pub record TakenAs (o : Outline) (a : Point) (es : List ℤ) : Type 0 where
  pub edges_counted : ℕ
  pub taken : verdict_of o ≡ taken_with edges_counted a
  pub edged : edges (border o) ≡ es

-- Some outline is taken with them. Refusal 17 applies exactly if none is (proofs/Outlines.antt: `outlined-iff`)
abbrev pub HasOutline : Point → List ℤ → Type 0
HasOutline a es = (o : Outline) × TakenAs o a es

-- The verdict takes the outline, with this anchor
unfoldable pub taken_at : Result Taken Refusal → Point → Bool
taken_at (Ok t) a = same_point t.anchor a
taken_at (Err f) a = false

-- Tests whether an outline is taken with this anchor and these edges
unfoldable pub taken_as : Outline → Point → List ℤ → Bool
taken_as o a es = taken_at (verdict_of o) a && sameℤs (edges (border o)) es

-- Tests whether some outline is. It is enough to test the letters that the edges give, started at the anchor's corner
unfoldable pub outlined : Point → List ℤ → Bool
outlined a es = taken_as (outline a (letters_from es)) a es
