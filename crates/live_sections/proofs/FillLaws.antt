-- The two lists of a section are filled layer by layer, so at the end they are the definition's.
use Prim.Native.Nat.{ℕ, ◌+◌, ◌≤◌, ◌<◌}
use native.Mathlib.Omega.{arith}
use mathlib.Core.Path.{◌≡◌}
use mathlib.Core.List.{List}
use lib.ListN.{set, replicate, length-replicate}
use Rattle.spans.specs.Spans.{table}
use Rattle.spans.proofs.Tables.{Filled, filled-start, filled_next, filled-end}
use Rattle.sections.specs.declared.Section.{Section}
use Rattle.sections.specs.Sections.{layers}
use Rattle.pile_sections.proofs.CutLaws.{section-eq}

-- The layers before l have their intervals
pub record Filling (f g : ℕ → ℕ) (lo past : List ℕ) (l : ℕ) : Type 0 where
  pub within : l ≤ layers
  pub begins : Filled f layers lo l
  pub ends : Filled g layers past l

module _ (f g : ℕ → ℕ) where
  pub filling-start : Filling f g (replicate layers 0) (replicate layers 0) 0
  filling-start =
      record {
        within = omega arith;
        begins = filled-start f layers _ (length-replicate {A = ℕ} layers 0);
        ends = filled-start g layers _ (length-replicate {A = ℕ} layers 0);
      }

  pub filling-next : {lo past : List ℕ} {l : ℕ} → Filling f g lo past l → l < layers → (x y : ℕ) → x ≡ f l → y ≡ g l
      → Filling f g (set lo l x) (set past l y) (l + 1)
  filling-next t h x y d e = record { within = omega arith; begins = filled_next t.begins h x d; ends = filled_next t.ends h y e }

  pub filling-end : {lo past : List ℕ} {l : ℕ} → Filling f g lo past l → layers ≤ l
      → ◌≡◌ {A = Section} (record { lo = lo; past = past }) (record { lo = table f 0 layers; past = table g 0 layers })
  filling-end {lo} {past} {l} t h =
      let end : l ≡ layers = omega arith in
      section-eq (filled-end f layers lo (rw end at t.begins)) (filled-end g layers past (rw end at t.ends))
