-- Loose queries with the edges of specimens H2, H3 and others, and refused ones
-- (contract 9). All rows are proved together (proofs/Specimens.antt).
use Rattle.std.specs.Prelude.{Bool, List, [], ◌∷◌, ℤ, pos, negsuc}
use Rattle.chart.specs.declared.Point.{Point}
use Rattle.chart.specs.Outline.{at}
use Rattle.chart.specs.declared.Fields.{Fields}
use Rattle.chart.specs.Fields.{position_fields, numbered, worded, inside, outside}
use Rattle.chart.specs.Same.{same_fields}
use Rattle.polygon.specs.Loose.{loose_of}

-- A loose query, and its reply
pub record Query : Type 0 where
  pub anchor : Point
  pub edges : List ℤ
  pub cell : Point
  pub fields : Fields

unfoldable pub answered : Query → Bool
answered h = same_fields (position_fields (loose_of h.anchor h.edges h.cell)) h.fields

ask : Point → List ℤ → Point → Fields → Query
ask a es x f = record { anchor = a; edges = es; cell = x; fields = f }

-- H2's edges with a cell in the block, beside it and far across the chart; H3's with
-- its corner; no edges; refusals 10 and 11 in their order
unfoldable pub queries : List Query
unfolding ask
queries =
    ask (at 0 0) (pos 2 ∷ pos 0 ∷ negsuc 1 ∷ pos 0 ∷ []) (at 1 0) (worded inside) ∷
    ask (at 0 0) (pos 2 ∷ pos 0 ∷ negsuc 1 ∷ pos 0 ∷ []) (at 3 0) (worded outside) ∷
    ask (at 0 0) (pos 2 ∷ pos 0 ∷ negsuc 1 ∷ pos 0 ∷ []) (at 254 0) (worded outside) ∷
    ask (at 0 1) (pos 1 ∷ pos 1 ∷ pos 1 ∷ negsuc 0 ∷ negsuc 0 ∷ negsuc 0 ∷ negsuc 0 ∷ pos 1 ∷ []) (at 1 2) (worded inside) ∷
    ask (at 0 1) (pos 1 ∷ pos 1 ∷ pos 1 ∷ negsuc 0 ∷ negsuc 0 ∷ negsuc 0 ∷ negsuc 0 ∷ pos 1 ∷ []) (at 0 2) (worded outside) ∷
    ask (at 7 7) [] (at 7 7) (worded inside) ∷
    ask (at 7 7) [] (at 7 8) (worded outside) ∷
    ask (at 255 0) (pos 1 ∷ []) (at 0 0) (numbered 10) ∷
    ask (at 255 0) [] (at 0 0) (numbered 11) ∷
    ask (at 0 0) [] (at 0 255) (numbered 11) ∷ []

-- Lists that pass 16: one with up as its first direction; a half turn; a hull with rows below the chart
unfoldable pub passing : List Query
unfolding ask
passing =
    ask (at 1 1) (pos 0 ∷ pos 3 ∷ pos 3 ∷ negsuc 2 ∷ negsuc 2 ∷ pos 0 ∷ []) (at 2 3) (worded inside) ∷
    ask (at 1 1) (pos 0 ∷ pos 3 ∷ pos 3 ∷ negsuc 2 ∷ negsuc 2 ∷ pos 0 ∷ []) (at 3 3) (worded outside) ∷
    ask (at 0 0) (pos 1 ∷ pos 1 ∷ negsuc 0 ∷ negsuc 0 ∷ []) (at 1 1) (worded inside) ∷
    ask (at 0 0) (pos 1 ∷ pos 1 ∷ negsuc 0 ∷ negsuc 0 ∷ []) (at 1 0) (worded outside) ∷
    ask (at 0 0) (pos 2 ∷ negsuc 0 ∷ negsuc 0 ∷ negsuc 0 ∷ negsuc 0 ∷ pos 2 ∷ []) (at 0 0) (worded inside) ∷
    ask (at 0 0) (pos 2 ∷ negsuc 0 ∷ negsuc 0 ∷ negsuc 0 ∷ negsuc 0 ∷ pos 2 ∷ []) (at 1 0) (worded outside) ∷ []

-- Lists that 16 refuses: a zero edge, among others and alone; edges that do not sum to zero; anticlockwise edges; one direction twice; up
-- after left; a half turn that starts with its other edge; two full turns. Refusals 10 and 11 come first
unfoldable pub turned_back : List Query
unfolding ask
turned_back =
    ask (at 0 0) (pos 0 ∷ pos 2 ∷ pos 0 ∷ pos 0 ∷ pos 0 ∷ negsuc 1 ∷ []) (at 0 0) (numbered 16) ∷
    ask (at 0 0) (pos 0 ∷ pos 0 ∷ []) (at 0 0) (numbered 16) ∷
    ask (at 0 0) (pos 0 ∷ pos 2 ∷ pos 1 ∷ pos 0 ∷ []) (at 0 0) (numbered 16) ∷
    ask (at 5 5) (pos 1 ∷ pos 0 ∷ negsuc 0 ∷ pos 1 ∷ pos 0 ∷ negsuc 0 ∷ []) (at 5 5) (numbered 16) ∷
    ask (at 0 0) (pos 0 ∷ pos 1 ∷ pos 0 ∷ pos 1 ∷ pos 0 ∷ negsuc 1 ∷ []) (at 0 0) (numbered 16) ∷
    ask (at 5 5) (pos 1 ∷ pos 0 ∷ negsuc 0 ∷ negsuc 0 ∷ pos 0 ∷ pos 1 ∷ []) (at 5 5) (numbered 16) ∷
    ask (at 5 5) (pos 0 ∷ negsuc 0 ∷ pos 0 ∷ pos 1 ∷ []) (at 5 5) (numbered 16) ∷
    ask (at 5 5) (pos 0 ∷ pos 1 ∷ pos 1 ∷ negsuc 0 ∷ negsuc 0 ∷ pos 0 ∷ pos 0 ∷ pos 1 ∷ pos 1 ∷ negsuc 0 ∷ negsuc 0 ∷ pos 0 ∷ []) (at 5 5)
    (numbered 16) ∷
    ask (at 5 5) (pos 0 ∷ pos 0 ∷ pos 1 ∷ []) (at 5 5) (numbered 10) ∷
    ask (at 5 5) (pos 0 ∷ pos 0 ∷ []) (at 5 255) (numbered 11) ∷ []
