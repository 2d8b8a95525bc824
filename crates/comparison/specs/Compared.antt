-- The comparison of two lists: the refusals of the first, then of the second, and otherwise how their cells lie (contract 6.4).
use Rattle.std.specs.Prelude.{ℕ, ◌≡◌, cond, List, [], ℤ, pos, Result, Ok, Err}
use Rattle.std.specs.Borrow.{Bor}
use Rattle.chart.specs.declared.Point.{Point}
use Rattle.chart.specs.declared.Fields.{Fields}
use Rattle.chart.specs.declared.Nesting.{Nesting}
use Rattle.chart.specs.declared.RefusedList.{RefusedList}
use Rattle.chart.specs.declared.Refusal.{Refusal}
use Rattle.chart.specs.declared.Refusal.TheVariants.{EdgeList, Cell, Directions}
use Rattle.chart.specs.Fields.{nesting_fields}
use Rattle.convexity.specs.Edges.{pairs}
use Rattle.directions.specs.Increasing.{bad_directions}
use Rattle.polygon.specs.Loose.{bad_list, bad_cell}
use Rattle.nesting.specs.Cells.{Polygon, polygon, Says}
use Rattle.nesting.specs.Corners.{corners_on_chart}
use Rattle.nesting.specs.Answer.{nesting}

-- What refuses a list: 10, 11 of the anchor, 16, then 11 if a corner cell is off the chart
unfoldable pub checked_of : Point → List ℤ → Result (Unit {0}) Refusal
checked_of a es =
    cond (bad_list es) (Err (EdgeList 0))
    (cond (bad_cell a) (Err Cell)
    (cond (bad_directions es) (Err Directions)
    (cond (corners_on_chart (pairs es) (pos a.col) (pos a.row)) (Ok tt) (Err Cell))))

-- A refusal with the list that it is of
abbrev pub named_list : ℕ → Result (Unit {0}) Refusal → Result (Unit {0}) RefusedList
named_list n (Ok u) = Ok u
named_list n (Err f) = Err (record { list = n; refusal = f })

-- All of the first list comes before the second
unfoldable pub decided : Result (Unit {0}) Refusal → Result (Unit {0}) Refusal → Nesting → Result Nesting RefusedList
decided (Err f) s v = Err (record { list = 1; refusal = f })
decided (Ok u) (Err f) v = Err (record { list = 2; refusal = f })
decided (Ok u) (Ok w) v = Ok v

unfoldable pub comparison_of : Point → List ℤ → Point → List ℤ → Result Nesting RefusedList
comparison_of a es b fs = decided (checked_of a es) (checked_of b fs) (nesting (polygon a es) (polygon b fs))

-- The word of a reply names the one of the five statements about the cells in the two hulls that holds. No other holds
pub record CellsNamed (p q : Polygon) (f : Fields) : Type 0 where
  pub says : (v : Nesting) → f.word ≡ (nesting_fields v).word → Says p q v
  pub only : f.number ≡ 0 → (v : Nesting) → Says p q v → f ≡ nesting_fields v

-- The list that is returned: the first, the second, or an empty part of the first, as the reply's piece says
pub record ReturnedList (f : Fields) (list first second : Bor (List ℤ)) : Type 0 where
  pub one : f.piece ≡ 1 → list ≡ first
  pub two : f.piece ≡ 2 → list ≡ second
  pub neither : f.piece ≡ 0 → (list.ref_ptr ≡ first.ref_ptr) × (list.now ≡ [])
