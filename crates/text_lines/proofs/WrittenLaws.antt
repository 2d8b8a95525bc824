-- One text written after another is the two joined: by induction over the place where they begin, and then over the letters.
use Prim.Native.Nat.{ℕ, zero, suc, ◌+◌, ◌≤◌, ◌<◌, min}
use native.Mathlib.Omega.{arith}
use mathlib.Core.Path.{◌≡◌, refl, ap, ◌∙◌}
use mathlib.Core.List.{List, [], ◌∷◌, ◌++◌}
use lib.ListN.{length, drop, set, length-append}
use Rattle.text_lines.specs.Written.{over, written_at, end_at, Wrote}

over-nil : (t : List ℕ) → over t [] ≡ []
unfolding over
over-nil [] = refl
over-nil (b ∷ t) = refl

-- With room the whole text stands first
pub over-room : (t buffer : List ℕ) → length t ≤ length buffer → over t buffer ≡ t ++ drop (length t) buffer
unfolding over
over-room [] buffer h = refl
over-room (b ∷ t) [] h = absurd (omega (arith, h))
over-room (b ∷ t) (x ∷ buffer) h = ap (λ (l : List ℕ). b ∷ l) (over-room t buffer (omega (arith, h)))

pub length_over : (t buffer : List ℕ) → length (over t buffer) ≡ length buffer
unfolding over
length_over [] buffer = refl
length_over (b ∷ t) [] = refl
length_over (b ∷ t) (x ∷ buffer) = ap suc (length_over t buffer)

-- Nothing written
pub written_none : (at : ℕ) (buffer : List ℕ) → written_at at [] buffer ≡ buffer
unfolding written_at over
written_none zero buffer = refl
written_none (suc at) [] = refl
written_none (suc at) (x ∷ buffer) = ap (λ (l : List ℕ). x ∷ l) (written_none at buffer)

pub length-written : (at : ℕ) (t buffer : List ℕ) → length (written_at at t buffer) ≡ length buffer
unfolding written_at
length-written zero t buffer = length_over t buffer
length-written (suc at) t [] = refl
length-written (suc at) t (x ∷ buffer) = ap suc (length-written at t buffer)

over-behind : (end : ℕ) (s t buffer : List ℕ) → end ≡ min (length s) (length buffer)
    → written_at end t (over s buffer) ≡ over (s ++ t) buffer
unfolding over written_at
over-behind zero [] t buffer e = refl
over-behind (suc end) [] t buffer e = absurd (omega (arith, e))
over-behind zero (b ∷ s) t [] e = over-nil t
over-behind (suc end) (b ∷ s) t [] e = refl
over-behind zero (b ∷ s) t (x ∷ buffer) e = absurd (omega (arith, e))
over-behind (suc end) (b ∷ s) t (x ∷ buffer) e = ap (λ (l : List ℕ). b ∷ l) (over-behind end s t buffer (omega (arith, e)))

written-nil : (at : ℕ) (t : List ℕ) → written_at at t [] ≡ []
unfolding written_at
written-nil zero t = over-nil t
written-nil (suc at) t = refl

-- What is written after a text, from where it ends
pub written_behind : (at end : ℕ) (s t buffer : List ℕ) → end ≡ end_at at (length s) (length buffer)
    → written_at end t (written_at at s buffer) ≡ written_at at (s ++ t) buffer
unfolding written_at
written_behind zero end s t buffer e = over-behind end s t buffer (omega (arith, e))
written_behind (suc at) end s t [] e = written-nil end t
written_behind (suc at) zero s t (x ∷ buffer) e = absurd (omega (arith, e))
written_behind (suc at) (suc end) s t (x ∷ buffer) e = ap (λ (l : List ℕ). x ∷ l) (written_behind at end s t buffer (omega (arith, e)))

pub wrote-behind : {s t : List ℕ} {at end r : ℕ} {before between after : List ℕ} → Wrote s at before between end
    → Wrote t end between after r
    → Wrote (s ++ t) at before after r
wrote-behind {s} {t} {at} {end} {r} {before} p q =
    record {
      text = q.text ∙ rw p.text (written_behind at end s t before p.end);
      end =
          let same : length (written_at at s before) ≡ length before = length-written at s before in
          let first = p.end in
          let second : r ≡ end_at end (length t) (length before) = q.end ∙ rw (p.text, same) in
          rw (length-append s t) (omega arith);
    }

past_end : (b at : ℕ) (buffer : List ℕ) → length buffer ≤ at → buffer ≡ written_at at (b ∷ []) buffer
unfolding written_at over
past_end b zero [] h = refl
past_end b zero (x ∷ buffer) h = absurd (omega (arith, h))
past_end b (suc at) [] h = refl
past_end b (suc at) (x ∷ buffer) h = ap (λ (l : List ℕ). x ∷ l) (past_end b at buffer (omega (arith, h)))

set-written : (b at : ℕ) (buffer : List ℕ) → at < length buffer → set buffer at b ≡ written_at at (b ∷ []) buffer
unfolding written_at over
set-written b at [] h = absurd (omega (arith, h))
set-written b zero (x ∷ buffer) h = refl
set-written b (suc at) (x ∷ buffer) h = ap (λ (l : List ℕ). x ∷ l) (set-written b at buffer (omega (arith, h)))

-- A byte without room, and a byte with room
pub wrote_none : (b at : ℕ) (buffer : List ℕ) → length buffer ≤ at → Wrote (b ∷ []) at buffer buffer at
wrote_none b at buffer h = record { text = past_end b at buffer h; end = omega arith }

pub wrote_one : (b at : ℕ) (buffer : List ℕ) → at < length buffer → Wrote (b ∷ []) at buffer (set buffer at b) (at + 1)
wrote_one b at buffer h = record { text = set-written b at buffer h; end = omega arith }
