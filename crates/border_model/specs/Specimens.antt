-- The borders of the specimens' edges and of others, and refusals (contract 9). All rows are proved together (proofs/Specimens.antt).
use Rattle.std.specs.Prelude.{ℕ, Bool, List, [], ◌∷◌, ℤ, pos, negsuc}
use Rattle.chart.specs.declared.Point.{Point}
use Rattle.chart.specs.declared.Fields.{Fields}
use Rattle.chart.specs.Fields.{numbered, placed}
use Rattle.chart.specs.Same.{same_fields}
use Rattle.border_model.specs.Traced.{traced_of, traced_fields}

-- A border call with a buffer of so many letters, and its reply
pub record Row : Type 0 where
  pub anchor : Point
  pub edges : List ℤ
  pub buffer : ℕ
  pub fields : Fields

unfoldable pub answered : Row → Bool
answered h = same_fields (traced_fields (traced_of h.anchor h.edges h.buffer)) h.fields

row : ℕ → ℕ → List ℤ → ℕ → Fields → Row
row c r es n f = record { anchor = record { col = c; row = r }; edges = es; buffer = n; fields = f }

-- One cell; H2; H3; two cells that share only a corner, with and without room; H2 so far right that it leaves the chart; H2 with a buffer
-- one letter too short; 10, 11 and 16 in their order
unfoldable pub rows : List Row
unfolding row
rows =
    row 0 0 [] 4 (placed 0 4) ∷
    row 0 0 (pos 2 ∷ pos 0 ∷ negsuc 1 ∷ pos 0 ∷ []) 8 (placed 0 8) ∷
    row 0 1 (pos 1 ∷ pos 1 ∷ pos 1 ∷ negsuc 0 ∷ negsuc 0 ∷ negsuc 0 ∷ negsuc 0 ∷ pos 1 ∷ []) 20 (placed 0 12) ∷
    row 0 0 (pos 1 ∷ pos 1 ∷ negsuc 0 ∷ negsuc 0 ∷ []) 8 (numbered 17) ∷
    row 0 0 (pos 1 ∷ pos 1 ∷ negsuc 0 ∷ negsuc 0 ∷ []) 0 (numbered 17) ∷
    row 253 0 (pos 2 ∷ pos 0 ∷ negsuc 1 ∷ pos 0 ∷ []) 8 (numbered 17) ∷
    row 0 0 (pos 2 ∷ pos 0 ∷ negsuc 1 ∷ pos 0 ∷ []) 7 (numbered 18) ∷
    row 255 0 (pos 0 ∷ []) 0 (numbered 10) ∷
    row 255 0 (pos 0 ∷ pos 0 ∷ []) 0 (numbered 11) ∷
    row 254 0 (pos 0 ∷ pos 0 ∷ []) 0 (numbered 16) ∷ []
