-- A move and a line are written with the halves of their cell, which are exact for numbers of 16 bits. Nothing else has a point.
use Prim.Native.Nat.{◌^◌, ◌<◌}
use native.Mathlib.Omega.{arith}
use mathlib.Core.Path.{refl}
use mathlib.Core.Logic.{⊎_elim}
use mathlib.Core.List.{List}
use lib.Ieee.{Float}
use Rattle.chart.specs.declared.Refusal.{Refusal}
use Rattle.chart.specs.Fields.{refusal_fields}
use Rattle.chart.proofs.RefusalLaws.{refusal-wordless}
use Rattle.calls.specs.Replies.{reply_fields, piece_fields, piece_in}
use Rattle.std.specs.Prelude.{Some, None}
use Rattle.drawing.specs.declared.Stroke.TheVariants.{Move, Line, Close}
use Rattle.drawing.specs.Drawing.{Command}
use Rattle.drawing.specs.Points.{half, piece_of, cell_in, drawn_reply, point_after}
use Rattle.drawing.specs.Named.{PieceNamed}
use Rattle.drawing.proofs.Halves.{half-raised}

pub refused-named : (f : Refusal) (l : List Float) → PieceNamed (refusal_fields f) l l
refused-named f l =
    record {
      point = λ w. absurd (⊎_elim (λ e. omega (arith, e, refusal-wordless f)) (λ e. omega (arith, e, refusal-wordless f)) w);
      unchanged = λ m n. refl;
    }

-- The cell of the reply has two numbers of 16 bits
pub drawn-named : (s : Command) → (reply_fields (drawn_reply s)).col < 2 ^ 16 → (reply_fields (drawn_reply s)).row < 2 ^ 16 → (l : List Float)
    → PieceNamed (reply_fields (drawn_reply s)) l (point_after (piece_in (drawn_reply s)) l)
unfolding drawn_reply piece_of cell_in reply_fields piece_fields piece_in point_after
drawn-named (Some (Move a)) c r l =
    record {
      point = λ w. record {
        x = half a.col;
        y = half a.row;
        written = refl;
        col = half-raised a.col c;
        row = half-raised a.row r;
      };
      unchanged = λ m n. absurd (m refl);
    }
drawn-named (Some (Line a)) c r l =
    record {
      point = λ w. record {
        x = half a.col;
        y = half a.row;
        written = refl;
        col = half-raised a.col c;
        row = half-raised a.row r;
      };
      unchanged = λ m n. absurd (n refl);
    }
drawn-named (Some Close) c r l =
    record { point = λ w. absurd (⊎_elim (λ e. omega (arith, e)) (λ e. omega (arith, e)) w); unchanged = λ m n. refl }
drawn-named None c r l =
    record { point = λ w. absurd (⊎_elim (λ e. omega (arith, e)) (λ e. omega (arith, e)) w); unchanged = λ m n. refl }
