-- The cases of a list and of a comparison: the first refusal that applies, otherwise the tests. Each case is a clause of the definition.
use mathlib.Core.Path.{◌≡◌, refl, sym, ap}
use mathlib.Core.Bool.{Bool, true, false, false≢true, cond}
use mathlib.Core.List.{List}
use Rattle.std.specs.Prelude.{ℕ, Result, Ok, Err}
use lib.IntN.{ℤ, pos}
use Rattle.chart.specs.declared.Point.{Point}
use Rattle.chart.specs.declared.Nesting.{Nesting}
use Rattle.chart.specs.declared.Nesting.TheVariants.{Equal}
use Rattle.chart.specs.declared.RefusedList.{RefusedList}
use Rattle.chart.specs.declared.Refusal.{Refusal}
use Rattle.chart.specs.declared.Refusal.TheVariants.{EdgeList, Cell, Directions}
use Rattle.convexity.specs.Edges.{pairs}
use Rattle.directions.specs.Increasing.{bad_directions}
use Rattle.polygon.specs.Loose.{bad_list, bad_cell}
use Rattle.nesting.specs.Cells.{polygon, Fit as Passing}
use Rattle.nesting.specs.Corners.{corners_on_chart}
use Rattle.nesting.specs.Answer.{nesting}
use Rattle.comparison.specs.Compared.{checked_of, named_list, decided, comparison_of}

module _ (a : Point) (es : List ℤ) where
  pub checked-list : bad_list es ≡ true → Err (EdgeList 0) ≡ checked_of a es
  unfolding checked_of
  checked-list e = rw e

  module _ (l : bad_list es ≡ false) where
    pub checked-anchor : bad_cell a ≡ true → Err Cell ≡ checked_of a es
    unfolding checked_of
    checked-anchor e = rw (l, e)

    module _ (c : bad_cell a ≡ false) where
      pub checked-turning : bad_directions es ≡ true → Err Directions ≡ checked_of a es
      unfolding checked_of
      checked-turning e = rw (l, c, e)

      module _ (t : bad_directions es ≡ false) where
        pub checked-walk : corners_on_chart (pairs es) (pos a.col) (pos a.row) ≡ false → Err Cell ≡ checked_of a es
        unfolding checked_of
        checked-walk e = rw (l, c, t, e)

        pub checked-fit : corners_on_chart (pairs es) (pos a.col) (pos a.row) ≡ true → Ok tt ≡ checked_of a es
        unfolding checked_of
        checked-fit e = rw (l, c, t, e)

-- Nothing refuses the list
abbrev fits : Result (Unit {0}) Refusal → Bool
fits (Ok u) = true
fits (Err f) = false

pub fit-passes : (a : Point) (es : List ℤ) → Ok tt ≡ checked_of a es → Passing (polygon a es)
unfolding checked_of
fit-passes a es e =
    go (bad_list es) (bad_cell a) (bad_directions es) (corners_on_chart (pairs es) (pos a.col) (pos a.row)) refl refl (sym (ap fits e))
  where
    go :
        (l c t p : Bool) → bad_directions es ≡ t → corners_on_chart (pairs es) (pos a.col) (pos a.row) ≡ p
        → fits (cond l (Err (EdgeList 0)) (cond c (Err Cell) (cond t (Err Directions) (cond p (Ok tt) (Err Cell))))) ≡ true
        → Passing (polygon a es)
    go true c t p v w h = absurd (false≢true h)
    go false true t p v w h = absurd (false≢true h)
    go false false true p v w h = absurd (false≢true h)
    go false false false true v w h = record { passes = v; placed = w }
    go false false false false v w h = absurd (false≢true h)

-- ---- a comparison

is_fit : {E : Type 0} → Result (Unit {0}) E → Bool
is_fit (Ok u) = true
is_fit (Err f) = false

-- The same refusal, of a comparison
error : Result (Unit {0}) RefusedList → Result Nesting RefusedList
error (Ok u) = Ok Equal
error (Err x) = Err x

-- A list that is not refused passes
pub list-fits : (n : ℕ) (a : Point) (es : List ℤ) {u : Unit {0}} → Ok u ≡ named_list n (checked_of a es) → Ok tt ≡ checked_of a es
unfolding is_fit
list-fits n a es {u} = go (checked_of a es)
  where
    go : (k : Result (Unit {0}) Refusal) → Ok u ≡ named_list n k → Ok tt ≡ k
    go (Ok w) e = refl
    go (Err f) e = absurd (false≢true (sym (ap is_fit e)))

module _ (a : Point) (es : List ℤ) (b : Point) (fs : List ℤ) where
  pub compared-first : {x : RefusedList} → Err x ≡ named_list 1 (checked_of a es) → Err x ≡ comparison_of a es b fs
  unfolding comparison_of decided is_fit error
  compared-first {x} = go (checked_of a es)
    where
      go : (k : Result (Unit {0}) Refusal) → Err x ≡ named_list 1 k → Err x ≡ decided k (checked_of b fs) (nesting (polygon a es) (polygon b fs))
      go (Ok w) e = absurd (false≢true (ap is_fit e))
      go (Err f) e = ap error e

  pub compared-second : {x : RefusedList} → Ok tt ≡ checked_of a es → Err x ≡ named_list 2 (checked_of b fs) → Err x ≡ comparison_of a es b fs
  unfolding comparison_of decided is_fit error
  compared-second {x} d = rw (← d) (go (checked_of b fs))
    where
      go : (k : Result (Unit {0}) Refusal) → Err x ≡ named_list 2 k → Err x ≡ decided (Ok tt) k (nesting (polygon a es) (polygon b fs))
      go (Ok w) e = absurd (false≢true (ap is_fit e))
      go (Err f) e = ap error e

  pub compared-found : Ok tt ≡ checked_of a es → Ok tt ≡ checked_of b fs → Ok (nesting (polygon a es) (polygon b fs)) ≡ comparison_of a es b fs
  unfolding comparison_of decided
  compared-found e h = rw (← e, ← h)
