-- A path command comes from the drawing of the outline last taken at its party and
-- place, so the claims about drawings hold for the replies in any list of calls.
use Prim.Native.Nat.{ℕ, zero, suc, ◌+◌, ◌-◌, ◌/◌, ◌<◌, max}
use native.Mathlib.Numerals.{add-one}
use native.Mathlib.Omega.{arith}
use mathlib.Core.Path.{◌≡◌, refl, ap, ◌∙◌}
use mathlib.Core.Option.{none, some}
use mathlib.Core.List.{List, [], ◌∷◌, ◌++◌, map}
use lib.ListN.{length, drop, get_or, get_or-append, length-append, length-map}
use lib.IntN.{ℤ, pos}
use Rattle.chart.specs.Outline.{Outline}
use Rattle.chart.specs.declared.Point.{Point}
use Rattle.chart.specs.declared.Refusal.TheVariants.{NothingAtWork}
use Rattle.convexity.specs.Clockwise.{border, block}
use Rattle.convexity.specs.Pieces.{edges}
use Rattle.calls.specs.Calls.{parties, places, by}
use Rattle.calls.specs.declared.Call.{Call}
use Rattle.calls.specs.declared.Action.TheVariants.{Ask}
use Rattle.calls.specs.declared.Question.TheVariants.{Piece as OfPiece}
use Rattle.calls.specs.declared.Piece.TheVariants.{Move as MoveTo, Line as LineTo, Close as Closed}
use Rattle.calls.specs.Replies.{Reply}
use Rattle.calls.specs.declared.Answer.TheVariants.{Drawn}
use Rattle.std.specs.Prelude.{Some, None, Ok, Err}
use Rattle.drawing.specs.declared.Stroke.{Stroke}
use Rattle.drawing.specs.declared.Stroke.TheVariants.{Move, Line, Close}
use Rattle.convexity.specs.Edges.{pairs}
use Rattle.drawing.specs.Drawing.{Command, a_move, a_line, a_close, lines_from, drawing, stroke_at}
use Rattle.drawing.specs.Points.{half, piece_of, cell_in, drawn_reply}
use Rattle.drawing.specs.Claims.{Draws}
use Rattle.drawing.proofs.Positions.{lines-length, position-move, position-close, position-none}
use Rattle.drawing.proofs.Outlines.{outline-draws}
use Rattle.holder_model.specs.Book.{Entry, asked_piece, asks}
use Rattle.holder_model.specs.LastTaken.{last_taken}
use Rattle.book_replies.specs.After.{reply_to}
use Rattle.book_replies.proofs.Taken.{last-working}
use Rattle.book_replies.proofs.Queries.{ask-reply}

-- A line to each cell of a list
line_at : (ps : List Point) (n : ℕ) → n < length ps → (a : Point) → get_or (map a_line ps) n None ≡ a_line (get_or ps n a)
line_at [] n h a = absurd (omega arith)
line_at (x ∷ ps) zero h a = refl
line_at (x ∷ ps) (suc n) h a = line_at ps n (omega arith) a

-- The path command at position n of party p's place k, after a list of calls
module _ (p k : ℕ) (there : p < parties) (inside : k < places) (cs : List Entry) where
  abbrev reply : ℕ → Reply
  reply n = reply_to cs (by p (Ask k (OfPiece n)))

  pub piece-nothing : (n : ℕ) → last_taken p k cs ≡ none → reply n ≡ Err NothingAtWork
  unfolding asks asked_piece
  piece-nothing n last = ask-reply p k there inside cs (OfPiece n) ∙ ap (asked_piece n) last

  -- The outline last taken there is o
  module _ (o : Outline) (last : last_taken p k cs ≡ some o) where
    abbrev a : Point
    a = (border o).start

    abbrev es : List ℤ
    es = edges (border o)

    pub piece-reply : (n : ℕ) → reply n ≡ drawn_reply (stroke_at a es n)
    unfolding asks asked_piece
    piece-reply n = ask-reply p k there inside cs (OfPiece n) ∙ ap (asked_piece n) last

    drawn : (n : ℕ) (s : Stroke) → stroke_at a es n ≡ Some s → reply n ≡ Ok (Drawn (Some (piece_of s)) (cell_in s))
    unfolding drawn_reply
    drawn n s e = piece-reply n ∙ ap drawn_reply e

    -- Position 0 is the move to the anchor. Then come the lines to the corner cells. Position e, or 1 if e is 0, is the close, and
    -- everything after it is none (contract 7.11)
    pub piece-move : reply 0 ≡ Ok (Drawn (Some (MoveTo (half a.col) (half a.row))) a)
    unfolding piece_of cell_in
    piece-move = drawn 0 (Move a) (position-move a es)

    -- The points are the hull's corner cells, in clockwise order, and their floats are exact
    pub pieces-draw : Draws a es (block o)
    pieces-draw =
        let w = last-working p k cs o last in
        outline-draws o w.reaches w.undented

    -- The cells that the lines lead to: one for each edge but the last
    abbrev ends : List Point
    ends = pieces-draw.ends

    pub piece-lines : length ends ≡ length es / 2 - 1
    unfolding drawing
    piece-lines =
        let counted : length (lines_from (pairs es) (pos a.col) (pos a.row) ++ (a_close ∷ [])) ≡ length (map a_line ends ++ (a_close ∷ [])) =
        ap (λ (l : List Command). length (drop 1 l)) pieces-draw.pieces in
        let left = length-append (lines_from (pairs es) (pos a.col) (pos a.row)) (a_close ∷ []) in
        let right = length-append (map a_line ends) (a_close ∷ []) in
        omega (arith, counted, left, right, length-map ends a_line, lines-length es (pos a.col) (pos a.row))

    pub piece-line : (n : ℕ) → n < length ends
        → reply (n + 1) ≡ Ok (Drawn (Some (LineTo (half (get_or ends n a).col) (half (get_or ends n a).row))) (get_or ends n a))
    unfolding stroke_at piece_of cell_in
    piece-line n h =
        drawn (n + 1) (Line (get_or ends n a))
        (ap (λ (l : List Command). get_or l (n + 1) None) pieces-draw.pieces
        ∙ ap (λ (i : ℕ). get_or (a_move a ∷ map a_line ends ++ (a_close ∷ [])) i None) (add-one n)
        ∙ get_or-append (map a_line ends) (a_close ∷ []) None n (omega (arith, h, length-map ends a_line))
        ∙ line_at ends n h a)

    pub piece-close : reply (max 1 (length es / 2)) ≡ Ok (Drawn (Some Closed) (record { col = 0; row = 0 }))
    unfolding piece_of cell_in
    piece-close = drawn _ Close (position-close a es)

    pub piece-none : (n : ℕ) → max 1 (length es / 2) < n → reply n ≡ Ok (Drawn None (record { col = 0; row = 0 }))
    unfolding drawn_reply
    piece-none n l = piece-reply n ∙ ap drawn_reply (position-none a es n l)
