-- For two polygons that pass, exactly one of the five statements holds, and the answer names it: each test decides its own statement.
use mathlib.Core.Path.{◌≡◌, refl, sym, ◌∙◌}
use mathlib.Core.Logic.{◌↔◌}
use mathlib.Core.Bool.{Bool, true, false, true≢false}
use Rattle.chart.specs.declared.Point.{Point}
use Rattle.chart.specs.declared.Nesting.{Nesting}
use Rattle.chart.specs.declared.Nesting.TheVariants.{Equal, FirstWithin, SecondWithin, Apart, Crossing}
use Rattle.directions.specs.CornerHull.{Met}
use Rattle.nesting.specs.Cells.{Polygon, Fit, Holds, Within, Beyond, Common, Says}
use Rattle.nesting.specs.Rows.{rows_meet}
use Rattle.nesting.specs.Answer.{by_tests, lies_within, nesting}
use Rattle.nesting.proofs.Within.{corner-hull, within-iff-test, test-beyond}
use Rattle.nesting.proofs.Meet.{meet-iff-test}

-- "Within" and "beyond" exclude each other
not-both : (P Q : Point → Type 0) → Within P Q → Beyond P Q → ⊥
not-both P Q w h = h.not_second (w h.cell h.in_first)

module _ (p q : Polygon) (one : Fit p) (two : Fit q) where
  abbrev P : Point → Type 0
  P = Holds p

  abbrev Q : Point → Type 0
  Q = Holds q

  -- A polygon within the other has a common cell with it, its anchor
  first-common : Within P Q → Common P Q
  first-common w = record { cell = p.anchor; in_first = corner-hull Met.start; in_second = w p.anchor (corner-hull Met.start) }

  second-common : Within Q P → Common P Q
  second-common w = record { cell = q.anchor; in_first = w q.anchor (corner-hull Met.start); in_second = corner-hull Met.start }

  -- The statement named by the tests holds
  tests-say : (s t m : Bool) → lies_within p q ≡ s → lies_within q p ≡ t → rows_meet p q ≡ m → Says p q (by_tests s t m)
  unfolding by_tests
  tests-say true true m a b c = ((within-iff-test p q one two).0 a, (within-iff-test q p two one).0 b)
  tests-say true false m a b c = ((within-iff-test p q one two).0 a, test-beyond q p two one b)
  tests-say false true m a b c = ((within-iff-test q p two one).0 b, test-beyond p q one two a)
  tests-say false false true a b c = ((meet-iff-test p q one two).0 c, test-beyond p q one two a, test-beyond q p two one b)
  tests-say false false false a b c = λ k. true≢false (sym ((meet-iff-test p q one two).1 k) ∙ c)

  pub answer-says : Says p q (nesting p q)
  unfolding nesting
  answer-says = tests-say _ _ _ refl refl refl

  -- No two of the five statements hold
  pub says-once : (v w : Nesting) → Says p q v → Says p q w → v ≡ w
  says-once Equal Equal h k = refl
  says-once Equal FirstWithin h k = absurd (not-both Q P h.1 k.1)
  says-once Equal SecondWithin h k = absurd (not-both P Q h.0 k.1)
  says-once Equal Apart h k = absurd (k (first-common h.0))
  says-once Equal Crossing h k = absurd (not-both P Q h.0 k.1)
  says-once FirstWithin Equal h k = absurd (not-both Q P k.1 h.1)
  says-once FirstWithin FirstWithin h k = refl
  says-once FirstWithin SecondWithin h k = absurd (not-both P Q h.0 k.1)
  says-once FirstWithin Apart h k = absurd (k (first-common h.0))
  says-once FirstWithin Crossing h k = absurd (not-both P Q h.0 k.1)
  says-once SecondWithin Equal h k = absurd (not-both P Q k.0 h.1)
  says-once SecondWithin FirstWithin h k = absurd (not-both P Q k.0 h.1)
  says-once SecondWithin SecondWithin h k = refl
  says-once SecondWithin Apart h k = absurd (k (second-common h.0))
  says-once SecondWithin Crossing h k = absurd (not-both Q P h.0 k.2)
  says-once Apart Equal h k = absurd (h (first-common k.0))
  says-once Apart FirstWithin h k = absurd (h (first-common k.0))
  says-once Apart SecondWithin h k = absurd (h (second-common k.0))
  says-once Apart Apart h k = refl
  says-once Apart Crossing h k = absurd (h k.0)
  says-once Crossing Equal h k = absurd (not-both P Q k.0 h.1)
  says-once Crossing FirstWithin h k = absurd (not-both P Q k.0 h.1)
  says-once Crossing SecondWithin h k = absurd (not-both Q P k.0 h.2)
  says-once Crossing Apart h k = absurd (k h.0)
  says-once Crossing Crossing h k = refl

  -- The theorem: the statement that the answer names holds, and no other
  pub answer-iff : (v : Nesting) → Says p q v ↔ (nesting p q ≡ v)
  answer-iff v = ((λ h. says-once _ v answer-says h), λ e. rw e at answer-says)
