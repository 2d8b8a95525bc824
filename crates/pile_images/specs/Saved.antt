-- A save of a layer (contract 13.11).
use Rattle.std.specs.Prelude.{ℕ, ◌≤◌, ◌<◌, ◌≡◌, List, [], ◌++◌, length, drop, Ok, Err}
use Rattle.std.proofs.Math.Option.{Option, none, some}
use Rattle.chart.specs.Outline.{Outline, at, outline}
use Rattle.chart.specs.declared.Refusal.TheVariants.{LetterBuffer, Layer, Damaged}
use Rattle.convexity.specs.Clockwise.{border}
use Rattle.spans.specs.declared.Spans.{Spans}
use Rattle.span_list.specs.SpanList.{spans_at}
use Rattle.images.specs.Image.{image_bytes, image_of}
use Rattle.sections.specs.Sections.{last_layer}
use Rattle.pile_replies.specs.Replies.{PileReply}
use Rattle.pile_replies.specs.declared.PileAnswer.TheVariants.{Done}
use Rattle.pile_images.specs.Left.{LeftBy}

-- The image of a layer: of its outline's border, which starts at W, or of an empty layer
unfoldable pub layer_image : Option Outline → List ℕ
layer_image none = image_of (outline (at 0 0) [])
layer_image (some o) = image_of (border o)

-- 18, or these bytes stand first in the buffer. The rest of it is unchanged
pub record Written (bytes before after : List ℕ) (r : PileReply) : Type 0 where
  pub short : length before < image_bytes → (r ≡ Err LetterBuffer) × (after ≡ before)
  pub room : image_bytes ≤ length before → (r ≡ Ok Done) × (after ≡ bytes ++ drop image_bytes before)

-- What a set or a set empty leaves is saved, unless the buffer is short. Any other rows are refused by 27, and the buffer is unaltered
pub record Saves (s : Spans) (before after : List ℕ) (r : PileReply) : Type 0 where
  pub left : (v : Option Outline) → LeftBy v s → Written (layer_image v) before after r
  pub damaged : ((v : Option Outline) → LeftBy v s → ⊥) → (r ≡ Err Damaged) × (after ≡ before)

-- 22 first
pub record SavesAt (rows : List ℕ) (l : ℕ) (before after : List ℕ) (r : PileReply) : Type 0 where
  pub high : last_layer < l → (r ≡ Err Layer) × (after ≡ before)
  pub layer : l ≤ last_layer → Saves (spans_at rows l) before after r
