-- What is refused of a frame that was altered on its way (contract 14.4).
use Rattle.std.specs.Prelude.{ℕ, ◌≡◌, List, length, take}
use Rattle.chart.specs.Fields.{refusal_fields}
use Rattle.chart.specs.declared.Refusal.TheVariants.{Frame}
use Rattle.checksum.specs.Checksum.{message}
use Rattle.checksum.specs.Damage.{Bytes, differences, Far}
use Rattle.frames.specs.Frame.{header_bytes, IsFrame, unframed_fields, body_after}

-- Bytes f are the frame of a body, and bytes d, as many, differ from them, but not far (crate checksum: `Far`)
pub record Damaged (f d : List ℕ) : Type 0 where
  pub body : List ℕ
  pub frame : IsFrame f body
  pub whole : Bytes f
  pub bytes : Bytes d
  pub sized : length f ≡ length d
  pub differs : f ≡ d → ⊥
  pub near : Far (differences (message f) (message d)) → ⊥

-- Bytes f are the frame of a body, and d has its first bytes, and then fewer or more
pub record Cut (f d : List ℕ) : Type 0 where
  pub body : List ℕ
  pub frame : IsFrame f body
  pub head : take header_bytes f ≡ take header_bytes d
  pub other : length f ≡ length d → ⊥

-- Bytes are refused by 28, and nothing is written to any buffer
pub record Refuses28 (d : List ℕ) : Type 0 where
  pub reply : (m : ℕ) → unframed_fields d m ≡ refusal_fields Frame
  pub buffer : (l : List ℕ) → body_after d l ≡ l

abbrev pub DamageRefused : Type 0
DamageRefused = (f d : List ℕ) → Damaged f d → Refuses28 d

abbrev pub CutRefused : Type 0
CutRefused = (f d : List ℕ) → Cut f d → Refuses28 d
