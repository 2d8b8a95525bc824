-- When a call is refused by 20, and when a question is refused by 11 (contract 5).
use Rattle.std.specs.Prelude.{Bool, false, leb}
use Rattle.chart.specs.Limits.{side}
use Rattle.polygon.specs.Loose.{bad_cell}
use Rattle.readings.specs.Located.{bad_reading}
use Rattle.calls.specs.Calls.{bad_place}
use Rattle.calls.specs.declared.Action.{Action}
use Rattle.calls.specs.declared.Action.TheVariants.{Begin, Add, Drop, Clear, Close, Ask}
use Rattle.calls.specs.declared.Question.{Question}
use Rattle.calls.specs.declared.Question.TheVariants.{Cell as OfCell, Row as OfRow, Reading as OfReading, Piece as OfPiece}

-- The action names a place above 3
unfoldable pub no_such_place : Action → Bool
no_such_place (Clear k) = bad_place k
no_such_place (Close k) = bad_place k
no_such_place (Ask k q) = bad_place k
no_such_place (Begin s) = false
no_such_place (Add a) = false
no_such_place Drop = false

-- The question is about a cell, a row or a reading off the chart. A path command may have any position
unfoldable pub off_chart : Question → Bool
off_chart (OfCell x) = bad_cell x
off_chart (OfRow r) = leb side r
off_chart (OfReading x) = bad_reading x
off_chart (OfPiece n) = false
