-- A frame that is damaged, but not far, is no frame: both would carry their checksum, and both would be as long. Bytes that begin as a
-- frame does are no frame if they are fewer or more: both would count the same body.
use Prim.Native.Nat.{ℕ, ◌%◌, ◌<◌}
use native.Mathlib.Omega.{arith}
use mathlib.Core.Path.{◌≡◌, sym, ap, ◌∙◌}
use mathlib.Core.Logic.{⊎_elim}
use mathlib.Core.Bool.{false}
use mathlib.Core.List.{List}
use lib.ListN.{length, get_or, take}
use lib.Seq.{get_or-take}
use Rattle.base.proofs.BelowLaws.{not-held}
use Rattle.checksum.specs.Checksum.{message}
use Rattle.checksum.specs.Damage.{Bytes, differences, total, Within, Far}
use Rattle.checksum.proofs.Residue.{detects-stored}
use Rattle.images.proofs.Damage.{few-near, odd-near, burst-near}
use Rattle.frames.specs.Frame.{header_bytes, IsFrame, body_in, is_frame}
use Rattle.frames.specs.Damage.{Damaged, Refuses28, DamageRefused, CutRefused}
use Rattle.frames.proofs.Frames.{frame-sized, frame-stored, frame-iff, frame-fits}
use Rattle.frames.proofs.Theorems.{unframed-none, kept-none}

refuses : (d : List ℕ) → is_frame d ≡ false → Refuses28 d
refuses d e = record { reply = unframed-none d e; buffer = kept-none d e }

pub damage-refused : DamageRefused
damage-refused f d h =
    refuses d (not-held (is_frame d) (λ e.
    ⊎_elim h.differs h.near
    (detects-stored f d h.whole h.bytes h.sized (omega (arith, frame-sized f h.body h.frame, h.frame.short))
    (frame-stored f h.body h.frame) (frame-stored d (body_in d) ((frame-iff d).0 e)))))

-- A byte of the header, in both
same_head : (f d : List ℕ) → take header_bytes f ≡ take header_bytes d → (k : ℕ) → k < header_bytes → get_or f k 0 ≡ get_or d k 0
same_head f d e k l =
    sym (get_or-take header_bytes f k 0 l) ∙ ap (λ (x : List ℕ). get_or x k 0) e ∙ get_or-take header_bytes d k 0 l

pub cut-refused : CutRefused
cut-refused f d h =
    refuses d (not-held (is_frame d) (λ e.
    let one = frame-fits f h.body h.frame in
    let other = frame-fits d (body_in d) ((frame-iff d).0 e) in
    h.other
    (omega (
      arith,
      one.count,
      one.long,
      other.count,
      other.long,
      same_head f d h.head 2 (omega arith),
      same_head f d h.head 3 (omega arith),
    ))))

-- ---- the kinds of damage by themselves

module _
    (f b d : List ℕ) (frame : IsFrame f b) (whole : Bytes f) (bytes : Bytes d) (sized : length f ≡ length d) (differs : f ≡ d → ⊥)
  where
    near-28 : (Far (differences (message f) (message d)) → ⊥) → Refuses28 d
    near-28 n =
        let x : Damaged f d =
        record { body = b; frame = frame; whole = whole; bytes = bytes; sized = sized; differs = differs; near = n } in
        damage-refused f d x

    -- One, two or three bits; an odd number; any number within 32 consecutive places
    pub few-28 : total (differences (message f) (message d)) < 4 → Refuses28 d
    few-28 l = near-28 (few-near f d l)

    pub odd-28 : total (differences (message f) (message d)) % 2 ≡ 1 → Refuses28 d
    odd-28 e = near-28 (odd-near f d e)

    pub burst-28 : (first : ℕ) → Within (differences (message f) (message d)) first → Refuses28 d
    burst-28 first w = near-28 (burst-near f d first w)
