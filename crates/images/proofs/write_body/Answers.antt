-- The header, the letters and the zeros stand one after the other.
use Prim.Native.Nat.{ℕ, ◌/◌, ◌%◌}
use native.Mathlib.Omega.{arith}
use mathlib.Core.Path.{◌≡◌, refl, ap, ap₂, ◌∙◌}
use mathlib.Core.List.{List, [], ◌∷◌}
use lib.ListN.{length, get_or}
use Rattle.chart.specs.Outline.{at, outline}
use Rattle.images.proofs.Images.{body-written}
use Rattle.images.proofs.write_body.Goals as goal

pub returns : goal.returns
returns c =
    let n = length c.args.letters.now in
    let low : get_or c.to_le_bytes.result 0 0 ≡ n % 256 = ap (λ (l : List ℕ). get_or l 0 0) c.to_le_bytes.ensures in
    let high : get_or c.to_le_bytes.result 1 0 ≡ n / 256 = ap (λ (l : List ℕ). get_or l 1 0) c.to_le_bytes.ensures ∙ omega arith in
    body-written _ _ _ c.args.body.now _ (outline (at c.args.col c.args.row) c.args.letters.now) _ _ c.requires.0 c.requires.1 refl
    (c.copy_from_slice.ensures.after ∙ ap₂ (λ (l h : ℕ). 75 ∷ 79 ∷ c.args.col ∷ c.args.row ∷ l ∷ h ∷ []) low high)
    c.copy_from_slice-2.ensures.after refl (c.fill.ensures.after (λ y h. h)) refl
