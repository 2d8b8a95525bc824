-- What the reply of a border call says about all outlines (contract 6.3).
use Rattle.std.specs.Prelude.{◌≡◌, ◌↔◌, List, length, take, ℤ, ℕ, ◌≤◌, ◌<◌, Result}
use Rattle.chart.specs.Refusals.{no_outline, letter_buffer}
use Rattle.chart.specs.declared.Point.{Point}
use Rattle.chart.specs.declared.Refusal.{Refusal}
use Rattle.chart.specs.declared.Fields.{Fields}
use Rattle.chart.specs.Outline.{Outline, outline}
use Rattle.convexity.specs.Clockwise.{border}
use Rattle.border_model.specs.Traced.{traced_of, traced_fields, letters_after}
use Rattle.border_model.specs.Outlined.{TakenAs, HasOutline}

-- These letters are the border of an anchor and edges. Started at the anchor's corner they are an outline that is taken with this anchor
-- and these edges. Every outline so taken has these letters as its border
pub record BorderOf (a : Point) (es : List ℤ) (w : List ℕ) : Type 0 where
  pub taken : TakenAs (outline a w) a es
  pub own : (o : Outline) → TakenAs o a es → border o ≡ outline a w

pub record BorderNamed (a : Point) (es : List ℤ) (f : Fields) (before after : List ℕ) : Type 0 where
  -- 17 says that no outline is so taken
  pub none_taken : f.number ≡ no_outline → ¬ (HasOutline a es)
  -- 18 exactly when there is a border and the buffer is shorter than it
  pub too_short : (f.number ≡ letter_buffer) ↔ ((w : List ℕ) × (BorderOf a es w × (length before < length w)))
  -- With number 0 the letters stand first in the buffer, and place is their count
  pub written : f.number ≡ 0 → BorderOf a es (take f.place after)
  -- 0 whenever there is a border and room for it
  pub fits : (w : List ℕ) → BorderOf a es w → length w ≤ length before → f.number ≡ 0
  -- A refused call leaves the buffer unchanged
  pub unchanged : (f.number ≡ 0 → ⊥) → after ≡ before

-- All that a border call promises of its reply t and of the buffer
pub record Answers (a : Point) (es : List ℤ) (before after : List ℕ) (t : Result ℕ Refusal) : Type 0 where
  pub answer : t ≡ traced_of a es (length before)
  pub letters : after ≡ letters_after a es before
  pub named : BorderNamed a es (traced_fields t) before after
