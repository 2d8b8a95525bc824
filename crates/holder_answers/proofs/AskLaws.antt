-- What the replies to a reading and to a piece say, for any content: of the anchor and the edges at work. A refusal says nothing.
use Prim.Native.Nat.{ℕ, ◌^◌, ◌<◌}
use mathlib.Core.Bool.{Bool, true, false, cond}
use mathlib.Core.List.{List}
use lib.Ieee.{Float}
use Rattle.chart.specs.declared.Refusal.TheVariants.{NothingAtWork, Party, Place}
use Rattle.calls.specs.Calls.{bad_party, bad_place, by}
use Rattle.calls.specs.Replies.{Reply, reply_fields, piece_in}
use Rattle.calls.specs.declared.Action.TheVariants.{Ask}
use Rattle.calls.specs.declared.Question.TheVariants.{Reading as OfReading, Piece as OfPiece}
use Rattle.calls.specs.declared.Reading.{Reading}
use Rattle.readings.specs.Located.{Held}
use Rattle.readings.specs.Named.{ReadingNamed}
use Rattle.readings.proofs.Named as Readings
use Rattle.drawing.specs.Drawing.{stroke_at}
use Rattle.drawing.specs.Points.{point_after}
use Rattle.drawing.specs.Named.{PieceNamed}
use Rattle.drawing.proofs.Named as Pieces
use Rattle.holder_records.specs.Work.{work_edges, read_at, drawn_at, answered}
use Rattle.holder_memory.specs.Layout.{Holder}
use Rattle.holder_answers.specs.Arrays.{Answered, work_in, act_of, answer_of}

either : (P : Reply → Type 0) (t : Bool) (x y : Reply) → P x → P y → P (cond t x y)
either P true x y p q = p
either P false x y p q = q

choose : (P : Reply → Type 0) (t : Bool) (x y : Answered) → P x.reply → P y.reply → P (cond t x y).reply
choose P true x y p q = p
choose P false x y p q = q

module _ (h : Holder) (p k : ℕ) where
  abbrev Told : Reading → Reply → Type 0
  Told x r = ReadingNamed (work_in h p k).anchor (work_edges (work_in h p k)) x (reply_fields r)

  pub reading-named : (x : Reading) → Held x
      → ReadingNamed (work_in h p k).anchor (work_edges (work_in h p k)) x (reply_fields (answer_of h (by p (Ask k (OfReading x)))).reply)
  unfolding answer_of act_of answered read_at reply_fields
  reading-named x held =
      choose (Told x) (bad_party p) _ _ (Readings.refused-named _ _ x held Party)
      (either (Told x) (bad_place k) _ _ (Readings.refused-named _ _ x held Place)
      (either (Told x) (work_in h p k).taken _ _ (Readings.located-named _ _ x held) (Readings.refused-named _ _ x held NothingAtWork)))

  -- The point beside the reply, whose cell has two numbers of 16 bits
  abbrev pub Pointed : List Float → Reply → Type 0
  Pointed l r = (reply_fields r).col < 2 ^ 16 → (reply_fields r).row < 2 ^ 16 → PieceNamed (reply_fields r) l (point_after (piece_in r) l)

  pub piece-named : (i : ℕ) (l : List Float) → Pointed l (answer_of h (by p (Ask k (OfPiece i)))).reply
  unfolding answer_of act_of answered drawn_at reply_fields piece_in point_after
  piece-named i l =
      choose (Pointed l) (bad_party p) _ _ (λ c r. Pieces.refused-named Party l)
      (either (Pointed l) (bad_place k) _ _ (λ c r. Pieces.refused-named Place l)
      (either (Pointed l) (work_in h p k).taken _ _
      (λ c r. Pieces.drawn-named (stroke_at (work_in h p k).anchor (work_edges (work_in h p k)) i) c r l)
      (λ c r. Pieces.refused-named NothingAtWork l)))
