-- What the reply of a witness call says about the cells that the outline encloses (contract 6.5).
use Rattle.std.specs.Prelude.{ℕ, suc, ◌*◌, ◌≤◌, ◌≡◌, ◌↔◌, List, length, drop, get_or}
use Rattle.chart.specs.declared.Point.{Point}
use Rattle.chart.specs.declared.Fields.{Fields}
use Rattle.chart.specs.Outline.{Outline}
use Rattle.calls.specs.Replies.{none_word}
use Rattle.lattice.specs.Hull.{Convex, LowestMissing}
use Rattle.lattice.specs.Refusals.{Simple}
use Rattle.convexity.specs.Clockwise.{block}
use Rattle.verdict.specs.Named.{cell_of}
use Rattle.witness.specs.Witness.{Witness}
use Rattle.witness.specs.Witnessed.{six_numbers}

-- Cell k of a list of cells, two numbers each
unfoldable pub cell_in : List ℕ → ℕ → Point
cell_in l k = record { col = get_or l (2 * k) 0; row = get_or l (suc (2 * k)) 0 }

-- The number is 0 exactly if the outline passes 1 to 6 and the buffer has six numbers. Then the word is "none" exactly if
-- no cell is missing. Otherwise the reply has the lowest missing cell, and the first three cells of the buffer are enclosed
-- and have it in their triangle. Only then does the buffer change, and only its first six numbers
pub record WitnessNamed (o : Outline) (f : Fields) (before after : List ℕ) : Type 0 where
  pub answers : (f.number ≡ 0) ↔ (Simple o × (six_numbers ≤ length before))
  pub full : f.number ≡ 0 → (f.word ≡ none_word) ↔ Convex (block o)
  pub lowest : f.number ≡ 0 → ¬ (f.word ≡ none_word) → LowestMissing (block o) (cell_of f)
  pub shown : f.number ≡ 0 → ¬ (f.word ≡ none_word) → Witness (block o) (cell_of f) (cell_in after 0) (cell_in after 1) (cell_in after 2)
  pub rest : drop six_numbers after ≡ drop six_numbers before
  pub left_none : f.word ≡ none_word → after ≡ before
  pub left_refused : ¬ (f.number ≡ 0) → after ≡ before
