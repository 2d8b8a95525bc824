-- The frame of a body (contract 14.1): the mark 52 51, the count of the body's bytes, low byte first, the body, and the checksum of all
-- these, lowest byte first.
use Rattle.std.specs.Prelude.{ℕ, ◌+◌, ◌-◌, ◌/◌, ◌%◌, ◌≤◌, ◌≡◌, Bool, cond, ◌&&◌, List, [], ◌∷◌, ◌++◌, length, take, drop, leb, ltb}
use Rattle.chart.specs.Fields.{placed, refusal_fields}
use Rattle.chart.specs.declared.Fields.{Fields}
use Rattle.chart.specs.declared.Refusal.TheVariants.{LetterBuffer, Frame}
use Rattle.checksum.specs.Stored.{stored}
use Rattle.images.specs.Image.{same_bytes}

-- The longest body, the bytes before it, and the bytes of a frame besides it
abbrev pub most_body : ℕ
most_body = 1024

abbrev pub header_bytes : ℕ
header_bytes = 4

abbrev pub frame_bytes : ℕ
frame_bytes = 8

-- The bytes before a body of n bytes
abbrev pub head_of : ℕ → List ℕ
head_of n = 0x52 ∷ 0x51 ∷ n % 256 ∷ n / 256 ∷ []

unfoldable pub frame_of : List ℕ → List ℕ
frame_of b = stored (head_of (length b) ++ b)

-- The bytes are the frame of this body
pub record IsFrame (f b : List ℕ) : Type 0 where
  pub bytes : f ≡ frame_of b
  pub short : length b ≤ most_body

-- The only body whose frame the bytes can be (proofs/Frames.antt: `frame-body`)
abbrev pub body_in : List ℕ → List ℕ
body_in f = take (length f - frame_bytes) (drop header_bytes f)

-- Tests whether the bytes are the frame of that body, and so of any (proofs/Frames.antt: `frame-iff`)
unfoldable pub is_frame : List ℕ → Bool
is_frame f = leb (length (body_in f)) most_body && same_bytes f (frame_of (body_in f))

-- ---- the call that writes a frame, with a buffer of m bytes: 28, 18, or the count of the frame's bytes

unfoldable pub framed_fields : List ℕ → ℕ → Fields
framed_fields b m =
    cond (ltb most_body (length b)) (refusal_fields Frame)
    (cond (ltb m (length b + frame_bytes)) (refusal_fields LetterBuffer) (placed 0 (length b + frame_bytes)))

-- The buffer after it
unfoldable pub frame_after : List ℕ → List ℕ → List ℕ
frame_after b l =
    cond (ltb most_body (length b)) l (cond (ltb (length l) (length b + frame_bytes)) l (frame_of b ++ drop (length b + frame_bytes) l))

-- ---- the call that reads a frame, with a buffer of m bytes: 28, 18, or the count of the body's bytes

unfoldable pub unframed_fields : List ℕ → ℕ → Fields
unframed_fields f m =
    cond (is_frame f) (cond (ltb m (length (body_in f))) (refusal_fields LetterBuffer) (placed 0 (length (body_in f)))) (refusal_fields Frame)

-- The buffer after it
unfoldable pub body_after : List ℕ → List ℕ → List ℕ
body_after f l = cond (is_frame f) (cond (ltb (length l) (length (body_in f))) l (body_in f ++ drop (length (body_in f)) l)) l
