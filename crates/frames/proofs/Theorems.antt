-- The cases of both calls; a frame gives its body back; 28 is given exactly for bytes that are the frame of no body.
use Prim.Native.Nat.{ℕ, ◌+◌, ◌≤◌, ◌<◌}
use native.Mathlib.Decide.{dec_lt}
use native.Mathlib.Omega.{arith}
use mathlib.Core.Path.{◌≡◌, ap, ◌∙◌}
use mathlib.Core.Logic.{◌↔◌}
use mathlib.Core.Bool.{true, false}
use mathlib.Core.List.{List, ◌++◌}
use lib.ListN.{length, take, drop}
use lib.Seq.{take_at}
use borrow.Author.Tests.{lt-ltb, le-ltb}
use Rattle.base.proofs.BelowLaws.{not-held}
use Rattle.chart.specs.Refusals as refusals
use Rattle.chart.specs.declared.Fields.{Fields}
use Rattle.chart.specs.declared.Refusal.TheVariants.{LetterBuffer, Frame}
use Rattle.chart.specs.Fields.{placed, refusal_fields}
use Rattle.frames.specs.Frame.{most_body, frame_bytes, frame_of, IsFrame, body_in, is_frame, framed_fields, frame_after}
use Rattle.frames.specs.Frame.{unframed_fields, body_after}
use Rattle.frames.proofs.Frames.{frame-length, frame-body, frame-iff, frame-of}

-- ---- the call that writes a frame

module _ (b : List ℕ) where
  module _ (long : most_body < length b) where
    pub framed-long : (m : ℕ) → framed_fields b m ≡ refusal_fields Frame
    unfolding framed_fields
    framed-long m = rw (lt-ltb most_body (length b) long)

    pub kept-long : (l : List ℕ) → frame_after b l ≡ l
    unfolding frame_after
    kept-long l = rw (lt-ltb most_body (length b) long)

  module _ (fit : length b ≤ most_body) where
    pub framed-short : (m : ℕ) → m < length b + frame_bytes → framed_fields b m ≡ refusal_fields LetterBuffer
    unfolding framed_fields
    framed-short m h = rw (le-ltb most_body (length b) fit, lt-ltb m (length b + frame_bytes) h)

    pub kept-short : (l : List ℕ) → length l < length b + frame_bytes → frame_after b l ≡ l
    unfolding frame_after
    kept-short l h = rw (le-ltb most_body (length b) fit, lt-ltb (length l) (length b + frame_bytes) h)

    pub framed-done : (m : ℕ) → length b + frame_bytes ≤ m → framed_fields b m ≡ placed 0 (length b + frame_bytes)
    unfolding framed_fields
    framed-done m h = rw (le-ltb most_body (length b) fit, le-ltb m (length b + frame_bytes) h)

    pub written : (l : List ℕ) → length b + frame_bytes ≤ length l → frame_after b l ≡ frame_of b ++ drop (length b + frame_bytes) l
    unfolding frame_after
    written l h = rw (le-ltb most_body (length b) fit, le-ltb (length l) (length b + frame_bytes) h)

-- ---- the call that reads a frame

module _ (f : List ℕ) where
  module _ (none : is_frame f ≡ false) where
    pub unframed-none : (m : ℕ) → unframed_fields f m ≡ refusal_fields Frame
    unfolding unframed_fields
    unframed-none m = rw none

    pub kept-none : (l : List ℕ) → body_after f l ≡ l
    unfolding body_after
    kept-none l = rw none

  module _ (some : is_frame f ≡ true) where
    pub unframed-short : (m : ℕ) → m < length (body_in f) → unframed_fields f m ≡ refusal_fields LetterBuffer
    unfolding unframed_fields
    unframed-short m h = rw (some, lt-ltb m (length (body_in f)) h)

    pub kept_small : (l : List ℕ) → length l < length (body_in f) → body_after f l ≡ l
    unfolding body_after
    kept_small l h = rw (some, lt-ltb (length l) (length (body_in f)) h)

    pub unframed-done : (m : ℕ) → length (body_in f) ≤ m → unframed_fields f m ≡ placed 0 (length (body_in f))
    unfolding unframed_fields
    unframed-done m h = rw (some, le-ltb m (length (body_in f)) h)

    pub read : (l : List ℕ) → length (body_in f) ≤ length l → body_after f l ≡ body_in f ++ drop (length (body_in f)) l
    unfolding body_after
    read l h = rw (some, le-ltb (length l) (length (body_in f)) h)

-- ---- a frame gives its body back

module _ (f b : List ℕ) (i : IsFrame f b) where
  pub unframed-frame : (m : ℕ) → length b ≤ m → unframed_fields f m ≡ placed 0 (length b)
  unframed-frame m h =
      let e = frame-body f b i in
      unframed-done f (frame-of f b i) m (rw e h) ∙ ap (λ (x : List ℕ). placed 0 (length x)) e

  pub read-frame : (l : List ℕ) → length b ≤ length l → body_after f l ≡ b ++ drop (length b) l
  read-frame l h =
      let e = frame-body f b i in
      read f (frame-of f b i) l (rw e h) ∙ ap (λ (x : List ℕ). x ++ drop (length x) l) e

-- Of the replies: where a frame was written to l, as many bytes as the reply counts give the body back
pub round_trip :
    (b l : List ℕ) → (framed_fields b (length l)).number ≡ 0 → (out : List ℕ) → length b ≤ length out →
    let f = take (framed_fields b (length l)).place (frame_after b l) in
    (unframed_fields f (length out) ≡ placed 0 (length b)) × (body_after f out ≡ b ++ drop (length b) out)
round_trip b l e out h =
    elim (dec_lt most_body (length b)) [
      | yes long ↦ absurd (omega (arith, e, ap (λ (x : Fields). x.number) (framed-long b long (length l))))
      | no fit ↦
          let fits : length b ≤ most_body = omega (arith, fit) in
          elim (dec_lt (length l) (length b + frame_bytes)) [
            | yes short ↦ absurd (omega (arith, e, ap (λ (x : Fields). x.number) (framed-short b fits (length l) short)))
            | no room ↦
                let enough : length b + frame_bytes ≤ length l = omega (arith, room) in
                let size = ap (λ (x : Fields). x.place) (framed-done b fits (length l) enough) in
                let is : take (framed_fields b (length l)).place (frame_after b l) ≡ frame_of b =
                rw (size, written b fits l enough)
                (take_at (frame_of b) (drop (length b + frame_bytes) l) (length b + frame_bytes) (frame-length b)) in
                let i : IsFrame (take (framed_fields b (length l)).place (frame_after b l)) b = record { bytes = is; short = fits } in
                (unframed-frame _ b i (length out) h, read-frame _ b i out h)
          ]
    ]

-- ---- the bytes that are taken are exactly the frames

pub refused-iff : (f : List ℕ) (m : ℕ) → ((unframed_fields f m).number ≡ refusals.frame) ↔ ((b : List ℕ) → IsFrame f b → ⊥)
refused-iff f m = (
  λ e b i.
      let some = frame-of f b i in
      elim (dec_lt m (length (body_in f))) [
        | yes short ↦ omega (arith, e, ap (λ (x : Fields). x.number) (unframed-short f some m short))
        | no room ↦ omega (arith, e, ap (λ (x : Fields). x.number) (unframed-done f some m (omega (arith, room))))
      ],
  λ none.
      ap (λ (x : Fields). x.number) (unframed-none f (not-held (is_frame f) (λ e. none (body_in f) ((frame-iff f).0 e))) m),
)
