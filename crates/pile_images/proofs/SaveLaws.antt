-- A save by what the rows are: the border found is that of every outline that leaves them.
use Rattle.std.specs.Prelude.{None, Some, Ok, Err}
use Prim.Native.Nat.{ℕ, ◌≤◌, ◌<◌}
use native.Mathlib.Omega.{arith}
use mathlib.Core.Path.{◌≡◌, refl, sym, ap, subst}
use mathlib.Core.Option.{Option, none, some}
use mathlib.Core.List.{List, [], ◌++◌}
use lib.ListN.{length, take, drop}
use Rattle.chart.specs.Limits.{side, longest}
use Rattle.chart.specs.declared.Refusal.{Refusal}
use Rattle.chart.specs.declared.Refusal.TheVariants.{LetterBuffer, Layer}
use Rattle.chart.specs.declared.Point.{Point}
use Rattle.chart.specs.Outline.{Outline, at, outline}
use Rattle.lattice.proofs.WalkLaws.{walked}
use Rattle.lattice.specs.Chart.{corner_at, walk}
use Rattle.spans.specs.declared.Spans.{Spans}
use Rattle.span_list.specs.SpanList.{spans_at}
use Rattle.images.specs.Image.{image_bytes, image_of}
use Rattle.sections.specs.Sections.{last_layer}
use Rattle.pile_replies.specs.Replies.{PileReply}
use Rattle.pile_replies.specs.declared.PileAnswer.TheVariants.{Done}
use Rattle.pile_images.specs.declared.Ring.{Ring}
use Rattle.pile_images.specs.Left.{LeftBy}
use Rattle.pile_images.specs.Saved.{layer_image, Written, Saves, SavesAt}
use Rattle.pile_images.specs.parts.Found.{Holds}
use Rattle.pile_images.proofs.FindLaws.{set-simple, set-not-none}

-- ---- the buffer

module _ (bytes before : List ℕ) where
  pub write-short : length before < image_bytes → Written bytes before before (Err LetterBuffer)
  write-short l = record { short = λ k. (refl, refl); room = λ k. absurd (omega arith) }

  pub write-room : image_bytes ≤ length before → (after : List ℕ) → after ≡ bytes ++ drop image_bytes before → Written bytes before after (Ok Done)
  write-room l after e = record { short = λ k. absurd (omega arith); room = λ k. (refl, e) }

-- ---- what the rows are

-- The start and the letters of what was found
pub record Fits (l : List ℕ) (p : Point) (n : ℕ) : Type 0 where
  pub col : p.col ≤ side
  pub row : p.row ≤ side
  pub letters : n ≤ length l
  pub long : length l ≡ longest

module _ (s : Spans) (l : List ℕ) where
  pub outline-fits : (r : Ring) → Holds s l (Ok (Some r)) → Fits l r.start r.count
  unfolding Holds corner_at walk
  outline-fits r h =
      let w = walked _ (set-simple h.2) in
      record { col = w.col_le 0 (omega arith); row = w.row_le 0 (omega arith); letters = h.0; long = h.1 }

  module _ (before : List ℕ) where
    pub saved-damaged : (f : Refusal) → Holds s l (Err f) → Saves s before before (Err f)
    unfolding Holds LeftBy
    saved-damaged f h = record { left = λ v k. absurd (none_left v k); damaged = λ k. (ap (λ (x : Refusal). Err x) h.0, refl) }
      where
        none_left : (v : Option Outline) → LeftBy v s → ⊥
        none_left none k = h.1 k
        none_left (some o) k = h.2 o k

    module _ (after : List ℕ) (r : PileReply) where
      pub saved-empty : Holds s l (Ok None) → Written (image_of (outline (at 0 0) [])) before after r → Saves s before after r
      unfolding Holds LeftBy layer_image
      saved-empty h w = record { left = go; damaged = λ k. absurd (k none h) }
        where
          go : (v : Option Outline) → LeftBy v s → Written (layer_image v) before after r
          go none k = w
          go (some o) k = absurd (set-not-none k h)

      pub saved-outline : (x : Ring) → Holds s l (Ok (Some x)) → Written (image_of (outline x.start (take x.count l))) before after r
          → Saves s before after r
      unfolding Holds LeftBy layer_image
      saved-outline x h w = record { left = go; damaged = λ k. absurd (k (some (outline x.start (take x.count l))) h.2) }
        where
          go : (v : Option Outline) → LeftBy v s → Written (layer_image v) before after r
          go none k = absurd (set-not-none h.2 k)
          go (some o) k = subst (λ (v : Outline). Written (image_of v) before after r) (sym (h.3 o k)) w

-- ---- the layer

module _ (rows : List ℕ) (l : ℕ) (before : List ℕ) where
  pub save-high : last_layer < l → SavesAt rows l before before (Err Layer)
  save-high h = record { high = λ k. (refl, refl); layer = λ k. absurd (omega arith) }

  pub save-layer : l ≤ last_layer → (s : Spans) → s ≡ spans_at rows l → (after : List ℕ) (r : PileReply) → Saves s before after r
      → SavesAt rows l before after r
  save-layer h s e after r saves =
      record { high = λ k. absurd (omega arith); layer = λ k. subst (λ (x : Spans). Saves x before after r) e saves }
