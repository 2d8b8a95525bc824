-- Readings with the edges of the specimens H1, H2 and H3 (contract 9). All rows are proved together (proofs/Specimens.antt).
use Rattle.std.specs.Prelude.{ℕ, Bool, List, [], ◌∷◌, ℤ, pos, negsuc}
use Rattle.chart.specs.declared.Point.{Point}
use Rattle.chart.specs.Outline.{at}
use Rattle.chart.specs.declared.Fields.{Fields}
use Rattle.chart.specs.Fields.{numbered, worded, inside, outside, undecided}
use Rattle.chart.specs.Same.{same_fields}
use Rattle.readings.specs.Located.{located_of, reading_of}
use Rattle.calls.specs.Replies.{reply_fields}
use Rattle.readings.specs.Replies.{located_reply}

H2 : List ℤ
H2 = pos 2 ∷ pos 0 ∷ negsuc 1 ∷ pos 0 ∷ []

H3 : List ℤ
H3 = pos 1 ∷ pos 1 ∷ pos 1 ∷ negsuc 0 ∷ negsuc 0 ∷ negsuc 0 ∷ negsuc 0 ∷ pos 1 ∷ []

-- An anchor and edges, the bit patterns of a reading, and the reply
pub record Asked : Type 0 where
  pub anchor : Point
  pub edges : List ℤ
  pub angle : ℕ
  pub load : ℕ
  pub fields : Fields

unfoldable pub answered : Asked → Bool
answered h = same_fields (reply_fields (located_reply (located_of h.anchor h.edges (reading_of h.angle h.load)))) h.fields

ask : Point → List ℤ → ℕ → ℕ → Fields → Asked
ask a es x y f = record { anchor = a; edges = es; angle = x; load = y; fields = f }

-- H3: the middle, a corner cell, a point on an edge, 1/100 outside it, 1/10 inside it, a cell outside, and past the last column. H2, which
-- is flat: on its line, at -0, 2 ^ -149 above the line, and past its end. One cell: its centre, -0, 2 ^ -149 beside it, and from the
-- chart's last cell. Then NaN, infinite, below 0 and above 254, and edges that leave the chart
unfoldable pub specimens : List Asked
unfolding H2 H3 ask
specimens =
    ask (at 0 1) H3 0x3f800000 0x3f800000 (worded inside) ∷
    ask (at 0 1) H3 0x3f800000 0x40000000 (worded undecided) ∷
    ask (at 0 1) H3 0x3f000000 0x3fc00000 (worded undecided) ∷
    ask (at 0 1) H3 0x3f000000 0x3fc147ae (worded undecided) ∷
    ask (at 0 1) H3 0x3f000000 0x3fb33333 (worded inside) ∷
    ask (at 0 1) H3 0x00000000 0x40000000 (worded outside) ∷
    ask (at 0 1) H3 0x40200000 0x3f800000 (worded outside) ∷
    ask (at 0 0) H2 0x3f800000 0x00000000 (worded undecided) ∷
    ask (at 0 0) H2 0x80000000 0x00000000 (worded undecided) ∷
    ask (at 0 0) H2 0x3f800000 0x00000001 (worded outside) ∷
    ask (at 0 0) H2 0x40400000 0x00000000 (worded outside) ∷
    ask (at 0 0) [] 0x00000000 0x00000000 (worded inside) ∷
    ask (at 0 0) [] 0x80000000 0x80000000 (worded inside) ∷
    ask (at 0 0) [] 0x00000001 0x00000000 (worded outside) ∷
    ask (at 0 0) [] 0x437e0000 0x437e0000 (worded outside) ∷
    ask (at 0 0) [] 0x7fc00000 0x00000000 (numbered 11) ∷
    ask (at 0 0) [] 0x00000000 0xff800001 (numbered 11) ∷
    ask (at 0 0) [] 0x7f800000 0x00000000 (numbered 11) ∷
    ask (at 0 0) [] 0x00000000 0xff800000 (numbered 11) ∷
    ask (at 0 0) [] 0x80000001 0x00000000 (numbered 11) ∷
    ask (at 0 0) [] 0x00000000 0x437e0001 (numbered 11) ∷
    ask (at 253 0) H2 0x437e0000 0x00000000 (worded outside) ∷ []
