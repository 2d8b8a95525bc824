-- The checker computes the test of every row of the table, and one law turns the computed test into the row's statement.
use mathlib.Core.Path.{◌≡◌, refl}
use mathlib.Core.Bool.{true, and-eq-true_iff}
use mathlib.Core.List.{◌++◌, Memᴰ}
use lib.ListN.{length, drop}
use Rattle.base.specs.Same.{sameℤ, sameℤs}
use Rattle.base.proofs.Same.{same-ℤs}
use Rattle.chart.specs.Same.{same_fields}
use Rattle.base.specs.Each.{all_pass}
use Rattle.base.proofs.EachLaws.{all-at}
use Rattle.chart.proofs.Tables.{same-fields}
use Rattle.verdict.specs.Verdict.{test_fields, edges_after}
use Rattle.verdict.specs.Specimens.{Specimen, Holds, specimens, right, buffer}
use Rattle.verdict.proofs.Computes.{computes}

right-holds : (h : Specimen) → right h ≡ true → Holds h
unfolding right
right-holds h e =
    let both =
    (and-eq-true_iff (same_fields (test_fields h.outline (length buffer)) h.fields)
    (sameℤs (edges_after h.outline buffer) (h.edges ++ drop (length h.edges) buffer))).0
    e in
    record { replied = same-fields _ _ both.0; written = same-ℤs _ _ both.1 }

computed : all_pass right specimens ≡ true
unfolding all_pass right same_fields sameℤs sameℤ specimens buffer computes
computed = refl

-- H1 to H12, and the other rows
pub specimens-hold : (h : Specimen) → Memᴰ h specimens → Holds h
specimens-hold h m = right-holds h (all-at right specimens computed h m)
