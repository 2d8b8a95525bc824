-- The answer of the test is the verdict, with refusal 10 if the buffer is too short for a taken outline's edges.
use Rattle.std.specs.Prelude.{Result, Err}
use Prim.Native.Nat.{ℕ, ◌*◌, ◌≤◌, ◌<◌}
use mathlib.Core.Path.{◌≡◌, ap, ◌∙◌}
use borrow.Author.Tests.{lt-ltb, le-ltb}
use Rattle.chart.specs.declared.Point.{Point}
use Rattle.chart.specs.declared.Refusal.{Refusal}
use Rattle.chart.specs.declared.Refusal.TheVariants.{EdgeList}
use Rattle.chart.specs.declared.Taken.{Taken}
use Rattle.chart.specs.Taken.{taken_with}
use Rattle.chart.specs.Outline.{Outline}
use Rattle.chart.specs.Fields.{verdict_fields}
use Rattle.verdict.specs.Verdict.{verdict_of, with_room, test_of, test_fields}
use Rattle.verdict.specs.Named.{CellNamed}
use Rattle.verdict.proofs.Cells.{test-named}

module _ (o : Outline) (m : ℕ) {v r : Result Taken Refusal} (said : v ≡ verdict_of o) (asked : r ≡ with_room m v) where
  pub tested : r ≡ test_of o m
  unfolding test_of
  tested = asked ∙ ap (with_room m) said

  pub tested-fields : verdict_fields r ≡ test_fields o m
  unfolding test_fields
  tested-fields = ap verdict_fields tested

  pub tested-cell : CellNamed o (verdict_fields r)
  tested-cell = rw tested-fields (test-named o m)

-- ---- room

module _ (m : ℕ) {v : Result Taken Refusal} where
  pub room-refused : {f : Refusal} → v ≡ Err f → Err f ≡ with_room m v
  unfolding with_room
  room-refused e = rw e

  module _ {n : ℕ} {a : Point} (e : v ≡ taken_with n a) where
    pub room-short : m < 2 * n → Err (EdgeList n) ≡ with_room m v
    unfolding with_room
    room-short h = rw (e, lt-ltb m (2 * n) h)

    pub room-enough : 2 * n ≤ m → taken_with n a ≡ with_room m v
    unfolding with_room
    room-enough h = rw (e, le-ltb m (2 * n) h)
