-- A reply is an answer or a refusal. Every case of it in seven fields: number, word and the rest (contract 4 and 5).
use Rattle.std.specs.Prelude.{Option, Some, None as NoPiece, Result, Ok, Err}
use Rattle.chart.specs.declared.Fields.{Fields}
use Rattle.chart.specs.Fields.{worded, accepted, refusal_fields, no_word, inside, outside, undecided, taken, same}
pub use Rattle.chart.specs.Fields.{none_word, columns, move, line, close}
use Rattle.chart.specs.declared.Point.{Point}
use Rattle.chart.specs.declared.Refusal.{Refusal}
use Rattle.calls.specs.declared.Piece.{Piece}
use Rattle.calls.specs.declared.Piece.TheVariants.{Move, Line, Close}
use Rattle.calls.specs.declared.Answer.{Answer}
use Rattle.calls.specs.declared.Answer.TheVariants.{Done, Inside, Outside, Undecided, Columns, None, Drawn, Taken, Same}

abbrev pub Reply : Type 0
Reply = Result Answer Refusal

-- A piece, or none, in seven numbers: its word and, for a move or a line, the cell whose centre is the point (contract 7.11)
unfoldable pub piece_fields : Option Piece → Point → Fields
piece_fields (Some (Move x y)) c = accepted move 0 c
piece_fields (Some (Line x y)) c = accepted line 0 c
piece_fields (Some Close) c = worded close
piece_fields NoPiece c = worded none_word

-- For a row, the first column is the reply's column and the last is the reply's row (contract 7.9)
unfoldable pub reply_fields : Reply → Fields
reply_fields (Ok Done) = worded no_word
reply_fields (Ok Inside) = worded inside
reply_fields (Ok Outside) = worded outside
reply_fields (Ok Undecided) = worded undecided
reply_fields (Ok (Columns a b)) = accepted columns 0 (record { col = a; row = b })
reply_fields (Ok None) = worded none_word
reply_fields (Ok (Drawn p c)) = piece_fields p c
reply_fields (Ok (Taken n a)) = accepted taken n a
reply_fields (Ok (Same n a)) = accepted same n a
reply_fields (Err f) = refusal_fields f

-- The piece in a reply to a piece call. Any other reply has none
unfoldable pub piece_in : Reply → Option Piece
piece_in (Ok (Drawn p c)) = p
piece_in (Ok Done) = NoPiece
piece_in (Ok Inside) = NoPiece
piece_in (Ok Outside) = NoPiece
piece_in (Ok Undecided) = NoPiece
piece_in (Ok (Columns a b)) = NoPiece
piece_in (Ok None) = NoPiece
piece_in (Ok (Taken n a)) = NoPiece
piece_in (Ok (Same n a)) = NoPiece
piece_in (Err f) = NoPiece
