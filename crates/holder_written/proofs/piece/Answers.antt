-- The reply's fields are written, and the point of its path command.
use native.Mathlib.Omega.{arith}
use mathlib.Core.Path.{◌∙◌, ap}
use mathlib.Core.List.{[]}
use Rattle.chart.specs.Fields.{numbers_of}
use Rattle.holder_written.proofs.Written.{done-by, point-by, piece-told}
use Rattle.holder_written.proofs.piece.Goals as goal

pub returns : goal.returns
returns c =
    record {
      call = λ l r. done-by _ _ _ _ (c.piece-answer.ensures l r) _ (c.put.ensures ∙ ap numbers_of c.of_reply.ensures);
      point = λ l r. point-by _ _ _ _ (c.piece-answer.ensures l r) _ c.piece_in.ensures _ _ c.write_point.ensures;
      meaning =
          piece-told _ _ _ _ _ _ (c.piece-answer.ensures [] []) _ c.of_reply.ensures (omega (arith, c.of_reply.type_inv))
          (omega (arith, c.of_reply.type_inv)) _ c.piece_in.ensures _ _ c.write_point.ensures _ c.put.ensures;
    }
