-- A loose query gives the first refusal that applies, and otherwise inside or outside, as the clauses of the definition do.
use Prim.Native.Nat.{◌≤◌, ◌<◌, ◌%◌}
use mathlib.Core.Path.{◌≡◌}
use mathlib.Core.Bool.{true, false, cond}
use mathlib.Core.List.{List}
use lib.ListN.{length}
use lib.Dec.{eqb, ltb}
use lib.IntN.{ℤ}
use borrow.Author.Tests.{ltb-false, lt-ltb, le-ltb}
use Rattle.std.specs.Prelude.{Ok, Err}
use Rattle.base.proofs.BelowLaws.{or-false-iff}
use Rattle.chart.specs.Limits.{longest_list}
use Rattle.chart.specs.declared.Point.{Point}
use Rattle.convexity.specs.Inside.{inside_edges}
use Rattle.chart.specs.declared.Refusal.TheVariants.{EdgeList, Cell, Directions}
use Rattle.chart.specs.declared.Position.TheVariants.{Inside, Outside}
use Rattle.directions.specs.Increasing.{bad_directions}
use Rattle.polygon.specs.Loose.{inside_list, bad_list, bad_cell, bad_directions_list, loose_of}

-- A list that passes refusal 10 is not too long
pub short-list : (es : List ℤ) → bad_list es ≡ false → length es ≤ longest_list
unfolding bad_list
short-list es e = ltb-false _ _ ((or-false-iff (eqb (length es % 2) 1) (ltb longest_list (length es))).0 e).1

-- Refusal 16, by the length of the list
pub turning-long : (es : List ℤ) → longest_list < length es → true ≡ bad_directions_list es
unfolding bad_directions_list
turning-long es h = rw (lt-ltb longest_list (length es) h)

pub turning-short : (es : List ℤ) → length es ≤ longest_list → bad_directions_list es ≡ bad_directions es
unfolding bad_directions_list
turning-short es h = rw (le-ltb longest_list (length es) h)

module _ (a : Point) (es : List ℤ) (x : Point) where
  -- Inside or outside, by the length of the list
  pub inside-long : longest_list < length es → false ≡ inside_list a es x
  unfolding inside_list
  inside-long h = rw (lt-ltb longest_list (length es) h)

  pub inside-short : length es ≤ longest_list → inside_list a es x ≡ inside_edges a es x
  unfolding inside_list
  inside-short h = rw (le-ltb longest_list (length es) h)

  pub loose-list : bad_list es ≡ true → Err (EdgeList 0) ≡ loose_of a es x
  unfolding loose_of
  loose-list e = rw e

  pub loose-anchor : bad_list es ≡ false → bad_cell a ≡ true → Err Cell ≡ loose_of a es x
  unfolding loose_of
  loose-anchor e h = rw (e, h)

  pub loose-cell : bad_list es ≡ false → bad_cell a ≡ false → bad_cell x ≡ true → Err Cell ≡ loose_of a es x
  unfolding loose_of
  loose-cell e h k = rw (e, h, k)

  pub loose-turning : bad_list es ≡ false → bad_cell a ≡ false → bad_cell x ≡ false → bad_directions es ≡ true
      → Err Directions ≡ loose_of a es x
  unfolding loose_of
  loose-turning e h k t = rw (e, h, k, t)

  pub loose-edges :
      bad_list es ≡ false → bad_cell a ≡ false → bad_cell x ≡ false → bad_directions es ≡ false
      → loose_of a es x ≡ cond (inside_edges a es x) (Ok Inside) (Ok Outside)
  unfolding loose_of
  loose-edges e h k t = rw (e, h, k, t)
