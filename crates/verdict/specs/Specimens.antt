-- The specimen outlines as one table (contract 9), and the test that each row
-- passes. All rows are proved together (proofs/Specimens.antt).
use Rattle.std.specs.Prelude.{ℕ, ◌≡◌, Bool, ◌&&◌, List, [], ◌∷◌, ◌++◌, length, drop, replicate, ℤ, pos, negsuc}
use Rattle.base.specs.Same.{sameℤs}
use Rattle.chart.specs.declared.Point.{Point}
use Rattle.chart.specs.Outline.{Outline, at}
use Rattle.chart.specs.declared.Fields.{Fields}
use Rattle.chart.specs.Same.{same_fields}
use Rattle.chart.specs.Fields.{numbered, placed, accepted, no_word}
use Rattle.verdict.specs.Verdict.{test_fields, edges_after}

-- An outline, the test's reply, and the edges that the test writes
pub record Specimen : Type 0 where
  pub outline : Outline
  pub fields : Fields
  pub edges : List ℤ

-- A buffer for sixteen edges
unfoldable pub buffer : List ℤ
buffer = replicate 32 (pos 99)

-- The test replies the row's fields and writes the row's edges to the front of the buffer; the rest of the buffer is unchanged
unfoldable pub right : Specimen → Bool
right h =
    same_fields (test_fields h.outline (length buffer)) h.fields &&
    sameℤs (edges_after h.outline buffer) (h.edges ++ drop (length h.edges) buffer)

-- The same as a statement: the reply has the row's fields, and the buffer has the row's edges first and is otherwise unchanged
pub record Holds (h : Specimen) : Type 0 where
  pub replied : test_fields h.outline (length buffer) ≡ h.fields
  pub written : edges_after h.outline buffer ≡ h.edges ++ drop (length h.edges) buffer

-- A taken outline; a refused one
yes_with : Point → List ℕ → ℕ → ℕ → ℕ → List ℤ → Specimen
yes_with s w n c r es = record { outline = record { start = s; letters = w }; fields = accepted no_word n (at c r); edges = es }

no_with : Point → List ℕ → Fields → Specimen
no_with s w f = record { outline = record { start = s; letters = w }; fields = f; edges = [] }

-- H1 to H12 in order; a start above 255 with letters above 3; a walk that leaves the chart and does not close; a dent, the factor 001101,
-- that a palindrome test alone would accept; H3, H4, H6 and H7 drawn backward
unfoldable pub specimens : List Specimen
unfolding yes_with no_with
specimens =
    yes_with (at 0 0) (1 ∷ 0 ∷ 3 ∷ 2 ∷ []) 0 0 0 [] ∷
    yes_with (at 0 0) (1 ∷ 0 ∷ 0 ∷ 0 ∷ 3 ∷ 2 ∷ 2 ∷ 2 ∷ []) 2 0 0 (pos 2 ∷ pos 0 ∷ negsuc 1 ∷ pos 0 ∷ []) ∷
    yes_with (at 0 1) (1 ∷ 0 ∷ 1 ∷ 0 ∷ 3 ∷ 0 ∷ 3 ∷ 2 ∷ 3 ∷ 2 ∷ 1 ∷ 2 ∷ []) 4 0 1
    (pos 1 ∷ pos 1 ∷ pos 1 ∷ negsuc 0 ∷ negsuc 0 ∷ negsuc 0 ∷ negsuc 0 ∷ pos 1 ∷ []) ∷
    yes_with (at 1 1) (2 ∷ 1 ∷ 0 ∷ 1 ∷ 0 ∷ 3 ∷ 0 ∷ 3 ∷ 2 ∷ 3 ∷ 2 ∷ 1 ∷ []) 4 0 1
    (pos 1 ∷ pos 1 ∷ pos 1 ∷ negsuc 0 ∷ negsuc 0 ∷ negsuc 0 ∷ negsuc 0 ∷ pos 1 ∷ []) ∷
    yes_with (at 0 0) (1 ∷ 1 ∷ 0 ∷ 3 ∷ 0 ∷ 3 ∷ 2 ∷ 2 ∷ []) 3 0 0 (pos 0 ∷ pos 1 ∷ pos 1 ∷ negsuc 0 ∷ negsuc 0 ∷ pos 0 ∷ []) ∷
    no_with (at 0 0) (1 ∷ 1 ∷ 1 ∷ 0 ∷ 3 ∷ 3 ∷ 0 ∷ 0 ∷ 3 ∷ 2 ∷ 2 ∷ 2 ∷ [])
    (record { number = 9; word = no_word; place = 4; piece = 2; length = 4; col = 1; row = 1 }) ∷
    no_with (at 0 0) (1 ∷ 1 ∷ 0 ∷ 3 ∷ 0 ∷ 1 ∷ 0 ∷ 3 ∷ 3 ∷ 2 ∷ 2 ∷ 2 ∷ [])
    (record { number = 8; word = no_word; place = 5; piece = 2; length = 0; col = 0; row = 0 }) ∷
    no_with (at 0 0) (1 ∷ 0 ∷ 2 ∷ 3 ∷ []) (placed 6 2) ∷
    yes_with (at 0 0) (0 ∷ 1 ∷ 2 ∷ 3 ∷ []) 0 0 0 [] ∷
    no_with (at 0 0) (1 ∷ 0 ∷ 3 ∷ []) (numbered 1) ∷
    no_with (at 255 0) (1 ∷ 0 ∷ 3 ∷ 2 ∷ []) (placed 4 1) ∷
    no_with (at 0 1) (1 ∷ 0 ∷ 3 ∷ 3 ∷ []) (numbered 5) ∷
    no_with (at 256 0) (7 ∷ 7 ∷ 7 ∷ 7 ∷ []) (numbered 2) ∷
    no_with (at 255 0) (0 ∷ 0 ∷ 0 ∷ 0 ∷ []) (placed 4 0) ∷
    no_with (at 0 0) (1 ∷ 0 ∷ 0 ∷ 1 ∷ 1 ∷ 0 ∷ 1 ∷ 0 ∷ 3 ∷ 3 ∷ 3 ∷ 3 ∷ 2 ∷ 2 ∷ 2 ∷ 2 ∷ [])
    (record { number = 9; word = no_word; place = 1; piece = 1; length = 6; col = 1; row = 1 }) ∷
    yes_with (at 0 1) (0 ∷ 3 ∷ 0 ∷ 1 ∷ 0 ∷ 1 ∷ 2 ∷ 1 ∷ 2 ∷ 3 ∷ 2 ∷ 3 ∷ []) 4 0 1
    (pos 1 ∷ pos 1 ∷ pos 1 ∷ negsuc 0 ∷ negsuc 0 ∷ negsuc 0 ∷ negsuc 0 ∷ pos 1 ∷ []) ∷
    yes_with (at 1 1) (3 ∷ 0 ∷ 1 ∷ 0 ∷ 1 ∷ 2 ∷ 1 ∷ 2 ∷ 3 ∷ 2 ∷ 3 ∷ 0 ∷ []) 4 0 1
    (pos 1 ∷ pos 1 ∷ pos 1 ∷ negsuc 0 ∷ negsuc 0 ∷ negsuc 0 ∷ negsuc 0 ∷ pos 1 ∷ []) ∷
    no_with (at 0 0) (0 ∷ 0 ∷ 0 ∷ 1 ∷ 2 ∷ 2 ∷ 1 ∷ 1 ∷ 2 ∷ 3 ∷ 3 ∷ 3 ∷ [])
    (record { number = 9; word = no_word; place = 7; piece = 2; length = 4; col = 1; row = 1 }) ∷
    no_with (at 0 0) (0 ∷ 0 ∷ 0 ∷ 1 ∷ 1 ∷ 2 ∷ 3 ∷ 2 ∷ 1 ∷ 2 ∷ 3 ∷ 3 ∷ [])
    (record { number = 8; word = no_word; place = 6; piece = 2; length = 0; col = 0; row = 0 }) ∷ []
