-- The checker computes the letters of some lists of edges: one cell, specimens H2 and H4, edges with many repeats, and two cells that
-- share only a corner, whose letters meet that corner twice.
use mathlib.Core.Path.{◌≡◌, refl}
use mathlib.Core.Bool.{Bool, true, false}
use mathlib.Core.List.{[], ◌∷◌}
use lib.IntN.{pos, negsuc}
use Rattle.words.specs.Lyndon
use Rattle.words.specs.Counted
use Rattle.convexity.specs.Frame
use Rattle.convexity.specs.parts.InFrame
use Rattle.convexity.specs.Edges
use Rattle.convexity.specs.FromEdges

-- A name to unfold all definitions at once in the rows below
opened : Bool
unfolding Lyndon.copies Counted.listed Counted.counted_letter Counted.christoffel_word Counted.divides_both Counted.common_up_to Counted.common
    Counted.edge_word Counted.edges_word Frame.frame_of InFrame.spell FromEdges.quadrant_of FromEdges.run_in FromEdges.rise_in Edges.pairs
    FromEdges.sizes_in FromEdges.piece_from FromEdges.letters_from
opened = true

-- No edges: one cell
one_cell : FromEdges.letters_from [] ≡ 1 ∷ 0 ∷ 3 ∷ 2 ∷ []
unfolding opened
one_cell = refl

H2 : FromEdges.letters_from (pos 2 ∷ pos 0 ∷ negsuc 1 ∷ pos 0 ∷ []) ≡ 1 ∷ 0 ∷ 0 ∷ 0 ∷ 3 ∷ 2 ∷ 2 ∷ 2 ∷ []
unfolding opened
H2 = refl

-- From W; in Specimens the same outline starts at another corner
H4 : FromEdges.letters_from (pos 1 ∷ pos 1 ∷ pos 1 ∷ negsuc 0 ∷ negsuc 0 ∷ negsuc 0 ∷ negsuc 0 ∷ pos 1 ∷ [])
    ≡ 1 ∷ 0 ∷ 1 ∷ 0 ∷ 3 ∷ 0 ∷ 3 ∷ 2 ∷ 3 ∷ 2 ∷ 1 ∷ 2 ∷ []
unfolding opened
H4 = refl

-- (4, 2) is 001 repeated twice
repeated : Counted.edge_word 4 2 ≡ false ∷ false ∷ true ∷ false ∷ false ∷ true ∷ []
unfolding opened
repeated = refl

-- 5 earlier letters and 3 later ones
five-three : Counted.christoffel_word 5 3 ≡ false ∷ false ∷ true ∷ false ∷ false ∷ true ∷ false ∷ true ∷ []
unfolding opened
five-three = refl

corner-meeting : FromEdges.letters_from (pos 1 ∷ pos 1 ∷ negsuc 0 ∷ negsuc 0 ∷ []) ≡ 1 ∷ 0 ∷ 1 ∷ 0 ∷ 3 ∷ 2 ∷ 3 ∷ 2 ∷ []
unfolding opened
corner-meeting = refl
