-- With the lists exchanged the two words for within are exchanged and the other three stay, and the inner one's list is returned again.
-- Both lists pass, so the result is that of the exchanged polygons.
use mathlib.Core.Path.{◌≡◌, refl, sym, ap, ◌∙◌}
use mathlib.Core.Bool.{Bool, true, false, false≢true}
use mathlib.Core.List.{List}
use Rattle.std.specs.Prelude.{Result, Ok, Err}
use lib.IntN.{ℤ}
use denote.Ref.{Bor}
use Rattle.chart.specs.declared.Point.{Point}
use Rattle.chart.specs.declared.Nesting.{Nesting}
use Rattle.chart.specs.declared.Nesting.TheVariants.{Equal, FirstWithin, SecondWithin, Apart, Crossing}
use Rattle.chart.specs.declared.RefusedList.{RefusedList}
use Rattle.chart.specs.declared.Refusal.{Refusal}
use Rattle.chart.specs.Fields.{nesting_fields}
use Rattle.nesting.specs.Cells.{polygon}
use Rattle.nesting.specs.Answer.{nesting, exchanged}
use Rattle.nesting.proofs.Exchanged.{nesting-exchanged}
use Rattle.comparison.specs.Compared.{checked_of, decided, comparison_of, ReturnedList}
use Rattle.comparison.specs.Exchanged.{ReturnedBoth}
use Rattle.comparison.proofs.Cases.{compared-found}

module _ (a : Point) (es : List ℤ) (b : Point) (fs : List ℤ) where
  -- If the comparison is not refused, neither list is
  nesting_in : Nesting → Result Nesting RefusedList → Nesting
  nesting_in d (Ok v) = v
  nesting_in d (Err r) = d

  is_found : Result Nesting RefusedList → Bool
  is_found (Ok v) = true
  is_found (Err r) = false

  found-parts : (v : Nesting) → comparison_of a es b fs ≡ Ok v
      → (Ok tt ≡ checked_of a es) × (Ok tt ≡ checked_of b fs) × (nesting (polygon a es) (polygon b fs) ≡ v)
  unfolding comparison_of decided nesting_in is_found
  found-parts v = go (checked_of a es) (checked_of b fs)
    where
      go :
          (s t : Result (Unit {0}) Refusal) → decided s t (nesting (polygon a es) (polygon b fs)) ≡ Ok v
          → (Ok tt ≡ s) × (Ok tt ≡ t) × (nesting (polygon a es) (polygon b fs) ≡ v)
      go (Err f) t e = absurd (false≢true (ap is_found e))
      go (Ok u) (Err f) e = absurd (false≢true (ap is_found e))
      go (Ok u) (Ok w) e = (refl, refl, ap (nesting_in v) e)

  -- The claim for the word
  pub exchanged-found : (v : Nesting) → comparison_of a es b fs ≡ Ok v → comparison_of b fs a es ≡ Ok (exchanged v)
  exchanged-found v e =
      let p = found-parts v e in
      sym (compared-found b fs a es p.1 p.0) ∙ ap Ok (nesting-exchanged (polygon a es) (polygon b fs) ∙ ap exchanged p.2)

-- The claim for the lists that are returned
pub exchanged-returned :
    (v : Nesting) (list again first second : Bor (List ℤ)) → ReturnedList (nesting_fields v) list first second
    → ReturnedList (nesting_fields (exchanged v)) again second first → ReturnedBoth v list again first second
unfolding exchanged
exchanged-returned Equal list again first second h k = (h.one refl, k.one refl)
exchanged-returned FirstWithin list again first second h k = (h.one refl, k.two refl)
exchanged-returned SecondWithin list again first second h k = (h.two refl, k.one refl)
exchanged-returned Apart list again first second h k = ((h.neither refl).1, (k.neither refl).1)
exchanged-returned Crossing list again first second h k = ((h.neither refl).1, (k.neither refl).1)
