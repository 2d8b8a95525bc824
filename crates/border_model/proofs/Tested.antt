-- A test with room for any taken outline's edges decides whether an outline is taken with an anchor and
-- edges. It refuses what is not taken; otherwise it gives the anchor and the edges, which are compared.
use Rattle.std.specs.Prelude.{Result, Ok, Err}
use Prim.Native.Nat.{ℕ, ◌*◌, ◌≤◌}
use native.Mathlib.Omega.{arith}
use mathlib.Core.Path.{◌≡◌, refl, sym, ap, ◌∙◌}
use mathlib.Core.Bool.{Bool, true, false, true≢false, ◌&&◌}
use mathlib.Core.List.{List}
use lib.ListN.{length, take}
use lib.IntN.{ℤ}
use Rattle.base.specs.Same.{sameℤs}
use Rattle.chart.specs.Limits.{most_numbers}
use Rattle.chart.specs.declared.Point.{Point}
use Rattle.chart.specs.declared.Refusal.{Refusal}
use Rattle.chart.specs.declared.Taken.{Taken}
use Rattle.chart.specs.Taken.{taken_with}
use Rattle.chart.specs.Outline.{Outline}
use Rattle.lattice.specs.Chart.{same_point}
use Rattle.verdict.specs.Verdict.{verdict_of, test_of, edges_after}
use Rattle.verdict.proofs.VerdictLaws.{test-taken, taken-fits, roomy, edges-first}
use Rattle.border_model.specs.Outlined.{taken_at, taken_as}

module _ (o : Outline) (a : Point) (es buffer : List ℤ) where
  pub not_taken : {f : Refusal} → most_numbers ≤ length buffer → test_of o (length buffer) ≡ Err f → taken_as o a es ≡ false
  unfolding taken_as taken_at
  not_taken {f} room e = go (verdict_of o) refl
    where
      is_taken : Result Taken Refusal → Bool
      is_taken (Ok t) = true
      is_taken (Err g) = false

      go : (v : Result Taken Refusal) → verdict_of o ≡ v → taken_as o a es ≡ false
      go (Ok t) h =
          let fits : 2 * t.edges ≤ length buffer = omega (arith, taken-fits o t.edges t.anchor h) in
          absurd (true≢false (ap is_taken (sym (test-taken o (length buffer) t.edges t.anchor h fits) ∙ e)))
      go (Err g) h = rw h

  pub taken-compared :
      {n : ℕ} {b : Point} {after : List ℤ} → test_of o (length buffer) ≡ taken_with n b → after ≡ edges_after o buffer
      → taken_as o a es ≡ (same_point b a && sameℤs (take (2 * n) after) es)
  unfolding taken_as taken_at
  taken-compared {n} {b} e d = rw ((roomy o (length buffer) n b e).verdict, d, edges-first o buffer n b e)
