-- What the reply of a completion and its buffer say about cells (contract 6.6).
use Rattle.std.specs.Prelude.{ℕ, ◌≤◌, ◌<◌, ◌≡◌, true, ◌↔◌, List, length, take}
use Rattle.chart.specs.Limits.{most_numbers}
use Rattle.chart.specs.declared.Point.{Point}
use Rattle.chart.specs.declared.Fields.{Fields}
use Rattle.chart.specs.Outline.{Outline, outline}
use Rattle.chart.specs.Fields.{verdict_fields}
use Rattle.lattice.specs.Chart.{size}
use Rattle.lattice.specs.Hull.{InHull}
use Rattle.lattice.specs.Refusals.{Simple}
use Rattle.convexity.specs.Clockwise.{border, block}
use Rattle.verdict.specs.Verdict.{verdict_of, test_fields}
use Rattle.verdict.specs.Named.{cell_of}
use Rattle.completion_call.specs.Completion.{completed_of, completed_fields, completion_after}

-- The outline in a reply and a buffer: it starts at the reply's corner, and place counts its letters at the front of the buffer
abbrev pub outline_in : Fields → List ℕ → Outline
outline_in f after = outline (cell_of f) (take f.place after)

-- The reply for o with a buffer, and the outline in this reply and the buffer
abbrev pub reply_to : Outline → List ℕ → Fields
reply_to o buffer = completed_fields (completed_of o (length buffer))

abbrev pub replied : Outline → List ℕ → Outline
replied o buffer = outline_in (reply_to o buffer) (completion_after o buffer)

-- v is the completion of o. It passes 1 to 6 and is not refused. A test with room for the edges of every taken outline takes it. It is its
-- own border, so it runs clockwise and starts at W. It encloses exactly the cells in the hull of the cells that o encloses
pub record Completes (o v : Outline) : Type 0 where
  pub simple : Simple v
  pub taken : (verdict_fields (verdict_of v)).number ≡ 0
  pub tested : (m : ℕ) → most_numbers ≤ m → (test_fields v m).number ≡ 0
  pub west : border v ≡ v
  pub cells : (x : Point) → (block v x.col x.row ≡ true) ↔ InHull (block o) x

pub record CompletionNamed (o : Outline) (f : Fields) (before after : List ℕ) : Type 0 where
  -- With number 0 the outline passes 1 to 6, and reply and buffer have its completion
  pub drawn : f.number ≡ 0 → Simple o
  pub completes : f.number ≡ 0 → Completes o (outline_in f after)
  -- 0 whenever the outline passes 1 to 6 and there is room for the letters of its completion
  pub fits : Simple o → (v : Outline) → Completes o v → size v ≤ length before → f.number ≡ 0
  -- 18 exactly when the outline passes 1 to 6 and the buffer is shorter than its completion
  pub short : (f.number ≡ 18) ↔ (Simple o × ((v : Outline) × (Completes o v × (length before < size v))))
  -- A refused call leaves the buffer unchanged
  pub unchanged : (f.number ≡ 0 → ⊥) → after ≡ before
