-- An outline at work, and the questions about it (contract 7.6 to 7.11).
use Rattle.std.specs.Prelude.{ℕ, ◌*◌, min, Bool, true, false, cond, ◌&&◌, List, take, ℤ, leb, Ok, Err}
use Rattle.base.specs.Same.{sameℤs}
use Rattle.chart.specs.Limits.{side, most_numbers}
use Rattle.chart.specs.declared.Point.{Point}
use Rattle.chart.specs.declared.Refusal.TheVariants.{Cell, NothingAtWork}
use Rattle.lattice.specs.Chart.{same_point}
use Rattle.polygon.specs.Loose.{bad_cell}
use Rattle.spans.specs.declared.Spans.{Spans}
use Rattle.spans.specs.Spans.{in_spans, span_at, span_reply}
use Rattle.readings.specs.Located.{located_of}
use Rattle.readings.specs.Replies.{located_reply}
use Rattle.drawing.specs.Drawing.{stroke_at}
use Rattle.drawing.specs.Points.{drawn_reply}
use Rattle.calls.specs.declared.Reading.{Reading}
use Rattle.calls.specs.declared.Question.{Question}
use Rattle.calls.specs.declared.Question.TheVariants.{Cell as OfCell, Row as OfRow, Reading as OfReading, Piece as OfPiece}
use Rattle.calls.specs.Replies.{Reply}
use Rattle.calls.specs.declared.Answer.TheVariants.{Inside, Outside}

-- Whether an outline is at work, its anchor, the space for the numbers of its edges, the count of edges, and its rows
pub record Work : Type 0 where
  pub taken : Bool
  pub anchor : Point
  pub numbers : List ℤ
  pub edges : ℕ
  pub spans : Spans

-- The numbers of the first n edges, as far as the list has space
unfoldable pub listed : List ℤ → ℕ → List ℤ
listed numbers n = take (min (2 * n) most_numbers) numbers

-- The numbers of the edges at work
unfoldable pub work_edges : Work → List ℤ
work_edges w = listed w.numbers w.edges

-- The work of a taken outline: its anchor, its edges and their count, and its rows; the work removed
unfoldable pub replaced : Point → List ℤ → ℕ → Spans → Work
replaced a es n s = record { taken = true; anchor = a; numbers = es; edges = n; spans = s }

unfoldable pub removed : Work → Work
removed w = record { taken = false; anchor = w.anchor; numbers = w.numbers; edges = w.edges; spans = w.spans }

-- An outline with this anchor and these edges is at work
unfoldable pub has_edges : Work → Point → List ℤ → Bool
has_edges w a es = w.taken && (same_point w.anchor a && sameℤs (work_edges w) es)

-- 12, 11, or whether the rows at work have the cell
unfoldable pub located : Work → Point → Reply
located w x =
    cond w.taken
    (cond (bad_cell x) (Err Cell) (cond (in_spans w.spans x.col x.row) (Ok Inside) (Ok Outside))) (Err NothingAtWork)

-- 12, 11, or the columns of the row (contract 7.9)
unfoldable pub spanned : Work → ℕ → Reply
spanned w r = cond w.taken (cond (leb side r) (Err Cell) (span_reply (span_at w.spans r))) (Err NothingAtWork)

-- 12, 11, or where the reading lies among the edges at work (contract 7.10)
unfoldable pub read_at : Work → Reading → Reply
read_at w x = cond w.taken (located_reply (located_of w.anchor (work_edges w) x)) (Err NothingAtWork)

-- 12, or the path command (contract 7.11)
unfoldable pub drawn_at : Work → ℕ → Reply
drawn_at w n = cond w.taken (drawn_reply (stroke_at w.anchor (work_edges w) n)) (Err NothingAtWork)

-- The reply to a question
unfoldable pub answered : Work → Question → Reply
answered w (OfCell x) = located w x
answered w (OfRow r) = spanned w r
answered w (OfReading x) = read_at w x
answered w (OfPiece n) = drawn_at w n
