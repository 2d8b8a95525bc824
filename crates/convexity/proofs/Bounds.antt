-- A list of edges is twice as long as the list of factors, since each factor gives two numbers.
use Prim.Native.Nat.{◌*◌}
use native.Mathlib.Omega.{arith}
use mathlib.Core.Path.{◌≡◌, refl}
use mathlib.Core.List.{List, [], ◌∷◌}
use lib.ListN.{length, length-append}
use Rattle.words.specs.Lyndon.{Factor}
use Rattle.chart.specs.Outline.{Outline}
use Rattle.convexity.specs.Frame.{Frame}
use Rattle.convexity.specs.Pieces.{edges_of, edges, edge_count}

edges-of-length : (f : Frame) (fs : List Factor) → length (edges_of f fs) ≡ 2 * length fs
unfolding edges_of
edges-of-length f [] = refl
edges-of-length f (g ∷ fs) = omega (arith, edges-of-length f fs)

pub edges-length : (o : Outline) → length (edges o) ≡ 2 * edge_count o
unfolding edges edge_count
edges-length o = simp (length-append, edges-of-length) (omega arith)
