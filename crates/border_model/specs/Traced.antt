-- A border call: refusals 10, 11, 16, 17 and 18, or the letters (contract 6.3).
use Rattle.std.specs.Prelude.{ℕ, cond, not, List, ◌++◌, length, drop, ltb, ℤ, Result, Ok, Err}
use Rattle.chart.specs.declared.Point.{Point}
use Rattle.chart.specs.declared.Fields.{Fields}
use Rattle.chart.specs.declared.Refusal.{Refusal}
use Rattle.chart.specs.declared.Refusal.TheVariants.{EdgeList, Cell, Directions, NoOutline, LetterBuffer}
use Rattle.chart.specs.Fields.{placed, refusal_fields}
use Rattle.convexity.specs.FromEdges.{letters_from}
use Rattle.directions.specs.Increasing.{bad_directions}
use Rattle.polygon.specs.Loose.{bad_list, bad_cell}
use Rattle.border_model.specs.Outlined.{outlined}

-- 18, or the count of letters, with a buffer of n
unfoldable pub letters_in : ℕ → List ℕ → Result ℕ Refusal
letters_in n w = cond (ltb n (length w)) (Err LetterBuffer) (Ok (length w))

unfoldable pub traced_of : Point → List ℤ → ℕ → Result ℕ Refusal
traced_of a es n =
    cond (bad_list es) (Err (EdgeList 0))
    (cond (bad_cell a) (Err Cell)
    (cond (bad_directions es) (Err Directions)
    (cond (not (outlined a es)) (Err NoOutline) (letters_in n (letters_from es)))))

-- The reply's fields
unfoldable pub traced_fields : Result ℕ Refusal → Fields
traced_fields (Ok n) = placed 0 n
traced_fields (Err f) = refusal_fields f

-- The buffer afterwards. The letters stand first and the rest is unchanged. A refused call changes nothing
unfoldable pub written_after : Result ℕ Refusal → List ℕ → List ℕ → List ℕ
written_after (Ok n) w buffer = w ++ drop (length w) buffer
written_after (Err f) w buffer = buffer

unfoldable pub letters_after : Point → List ℤ → List ℕ → List ℕ
letters_after a es buffer = written_after (traced_of a es (length buffer)) (letters_from es) buffer
