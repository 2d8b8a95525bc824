-- The letters are built in an array with room for the longest outline, and tested. More letters than that are refused by 1.
use Prim.Native.Nat.{ℕ, ◌+◌, ◌≤◌, ◌<◌}
use native.Mathlib.Omega.{arith}
use Rattle.std.specs.Prelude.{Ok, Err}
use mathlib.Core.Path.{◌≡◌, sym, ap, ◌∙◌}
use mathlib.Core.Bool.{true, false}
use mathlib.Core.List.{List, ◌++◌}
use lib.ListN.{length, take, drop}
use lib.Dec.{ltb}
use lib.IntN.{ℤ}
use borrow.Author.Tests.{ltb-false}
use Rattle.base.proofs.BelowLaws.{not-held, or-false-iff}
use Rattle.chart.specs.Limits.{shortest, longest}
use Rattle.chart.specs.declared.Point.{Point}
use Rattle.chart.specs.Outline.{outline}
use Rattle.chart.specs.declared.Refusal.TheVariants.{NoOutline, LetterBuffer}
use Rattle.lattice.specs.Refusals.{bad_count}
use Rattle.convexity.specs.Edges.{pairs}
use Rattle.convexity.specs.FromEdges.{letters_from, step_count}
use Rattle.convexity.proofs.FromEdges.{length-letters}
use Rattle.directions.specs.Increasing.{bad_directions}
use Rattle.polygon.specs.Loose.{bad_list, bad_cell}
use Rattle.border_model.specs.Outlined.{taken_as, outlined}
use Rattle.border_model.specs.Named.{Answers}
use Rattle.border_model.proofs.Outlines.{taken-has, taken_as-iff}
use Rattle.border_model.proofs.TracedCases.{traced-none, traced-short, traced-written}

module _ (a : Point) (es : List ℤ) where
  pub too_many : longest < 4 + step_count (pairs es) → outlined a es ≡ false
  unfolding outlined bad_count
  too_many h =
      not-held (taken_as (outline a (letters_from es)) a es) λ e.
      let simple = (taken-has ((taken_as-iff (outline a (letters_from es)) a es).0 e)).reaches.simple in
      omega (
        arith,
        length-letters es,
        ltb-false longest (length (letters_from es))
            ((or-false-iff (ltb (length (letters_from es)) shortest) (ltb longest (length (letters_from es)))).0 simple.counted).1,
      )

  module _ (buffer : List ℕ) (listed : bad_list es ≡ false) (anchored : bad_cell a ≡ false) (turned : bad_directions es ≡ false) {n : ℕ}
      (e : n ≡ 4 + step_count (pairs es)) where
    pub long-none : longest < n → Answers a es buffer buffer (Err NoOutline)
    long-none h = traced-none a es buffer listed anchored turned (too_many (omega arith))

    -- The letters built are the first n of a list
    module _ (list : List ℕ) (built : take (4 + step_count (pairs es)) list ≡ letters_from es) where
      letters-are : take n list ≡ letters_from es
      letters-are = ap (λ (m : ℕ). take m list) e ∙ built

      count-is : n ≡ length (letters_from es)
      count-is = e ∙ sym (length-letters es)

      tested : taken_as (outline a (take n list)) a es ≡ outlined a es
      unfolding outlined
      tested = rw letters-are

      pub untaken-none : taken_as (outline a (take n list)) a es ≡ false → Answers a es buffer buffer (Err NoOutline)
      untaken-none h = traced-none a es buffer listed anchored turned (sym tested ∙ h)

      module _ (h : taken_as (outline a (take n list)) a es ≡ true) where
        pub short_none : length buffer < n → Answers a es buffer buffer (Err LetterBuffer)
        short_none l = traced-short a es buffer listed anchored turned (sym tested ∙ h) (omega (arith, count-is))

        pub copied : {after : List ℕ} → n ≤ length buffer → after ≡ take n list ++ drop n buffer → Answers a es buffer after (Ok n)
        copied l d =
            rw (d, letters-are, count-is) (traced-written a es buffer listed anchored turned (sym tested ∙ h) (omega (arith, count-is)))
