-- A path command as the tablet takes it: columns and rows as floats, raised by one half (contract 3.22).
use Rattle.std.specs.Prelude.{Option, Some, None, ℕ, false, List, [], ◌∷◌, pos, negsuc, Float, Ok}
use Rattle.std.specs.Float.{fin, binary32}
use Rattle.std.specs.Float.Ieee.{add, of_int}
use Rattle.chart.specs.declared.Point.{Point}
use Rattle.calls.specs.Replies.{Reply}
use Rattle.calls.specs.declared.Answer.TheVariants.{Drawn}
use Rattle.drawing.specs.declared.Stroke.{Stroke}
use Rattle.drawing.specs.declared.Stroke.TheVariants.{Move, Line, Close}
use Rattle.calls.specs.declared.Piece.{Piece}
use Rattle.calls.specs.declared.Piece.TheVariants.{Move as MoveTo, Line as LineTo, Close as Closed}
use Rattle.drawing.specs.Drawing.{Command}

-- n + 1/2. One half is the float 1 * 2 ^ -1
unfoldable pub half : ℕ → Float
half n = add binary32 (of_int binary32 (pos n)) (fin false 1 (negsuc 0))

unfoldable pub piece_of : Stroke → Piece
piece_of (Move c) = MoveTo (half c.col) (half c.row)
piece_of (Line c) = LineTo (half c.col) (half c.row)
piece_of Close = Closed

-- The cell of a move or a line. A close has (0, 0)
unfoldable pub cell_in : Stroke → Point
cell_in (Move c) = c
cell_in (Line c) = c
cell_in Close = record { col = 0; row = 0 }

-- The reply of a piece call: the path command with its point, and the point's cell. No command has (0, 0)
unfoldable pub drawn_reply : Command → Reply
drawn_reply (Some s) = Ok (Drawn (Some (piece_of s)) (cell_in s))
drawn_reply None = Ok (Drawn None (record { col = 0; row = 0 }))

-- Two numbers at the front of a buffer that has room for them. The rest is unchanged
unfoldable pub pair_after : Float → Float → List Float → List Float
pair_after x y [] = []
pair_after x y (a ∷ []) = a ∷ []
pair_after x y (a ∷ b ∷ l) = x ∷ y ∷ l

-- The buffer after a path command. Only a move and a line have a point
unfoldable pub point_after : Option Piece → List Float → List Float
point_after (Some (MoveTo x y)) l = pair_after x y l
point_after (Some (LineTo x y)) l = pair_after x y l
point_after (Some Closed) l = l
point_after None l = l
