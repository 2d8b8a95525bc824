-- Letters stored one after another: the earlier ones stay, and the next one follows them.
use Prim.Native.Nat.{ℕ, zero, suc, ◌+◌, ◌*◌, ◌%◌, ◌≤◌, ◌<◌}
use native.Mathlib.Nat.{add-zero}
use native.Mathlib.Omega.{arith}
use mathlib.Core.Path.{◌≡◌, refl, sym, ap, ◌∙◌}
use mathlib.Core.Bool.{Bool}
use mathlib.Core.List.{List, [], ◌∷◌, ◌++◌, append_assoc, append-nil}
use lib.ListN.{length, take, drop, set, length-set, length-append, length-drop}
use lib.Seq.{take-suc-set, length-take-le}
use borrow.Rule.Slice.PartMut.{put_mid, same_len_mid}
use Rattle.std.proofs.lemmas.Slice.{take-put_mid}
use Rattle.words.specs.Counted.{listed, counted_letter}
use Rattle.words.proofs.Counted.{length-listed}
use Rattle.convexity.specs.Frame.{frame_of}
use Rattle.convexity.specs.parts.InFrame.{spell}
use Rattle.convexity.proofs.Shape.{length-spell, spell-append}
use Rattle.border.specs.parts.Rest.{firsts, letters}
use Rattle.border.specs.parts.Wrote.{Wrote}
use Rattle.border.proofs.Remainders.{letter-below, letter-above, listed_next}

pub wrote_none : (before : List ℕ) (at : ℕ) → Wrote before at [] before
wrote_none before at = record { sized = refl; written = ap (λ (n : ℕ). take n before) (add-zero at) ∙ sym (append-nil (take at before)) }

-- One more letter, at place i after those written
pub wrote-next :
    {before w after : List ℕ} {at : ℕ} → Wrote before at w after → (i a : ℕ) → i ≡ at + length w → i < length before
    → Wrote before at (w ++ (a ∷ [])) (set after i a)
wrote-next {before} {w} {after} {at} h i a e l =
    let n : at + length (w ++ (a ∷ [])) ≡ suc i = omega (arith, length-append w (a ∷ [])) in
    record {
      sized = simp length-set h.sized;
      written =
          rw n
          (take-suc-set after i a (omega (arith, h.sized))
          ∙ ap (λ (l : List ℕ). l ++ (a ∷ [])) (ap (λ (j : ℕ). take j after) e ∙ h.written)
          ∙ append_assoc (take at before) w (a ∷ []));
    }

-- Letters after letters
pub wrote-both :
    {before middle after u v : List ℕ} {at : ℕ} → Wrote before at u middle → (i : ℕ) → i ≡ at + length u → Wrote middle i v after
    → Wrote before at (u ++ v) after
wrote-both {before} {middle} {after} {u} {v} {at} h i e k =
    let n : at + length (u ++ v) ≡ i + length v = omega (arith, length-append u v) in
    record {
      sized = k.sized ∙ h.sized;
      written =
          rw n
          (k.written ∙ ap (λ (l : List ℕ). l ++ v) (ap (λ (j : ℕ). take j middle) e ∙ h.written) ∙ append_assoc (take at before) u v);
    }

-- Letters put in the place of as many
pub wrote-put :
    {before w put : List ℕ} {at k : ℕ} → put ≡ w → k ≡ length w → at + length w ≤ length before → Wrote before at w (put_mid at k before put)
wrote-put {before} {w} {put} {at} {k} e d h =
    rw (e, d)
    (record {
      sized = same_len_mid at (length w) before w (omega (arith, length-take-le (length w) (drop at before), length-drop at before));
      written = take-put_mid at (length w) before w (at + length w) refl (omega arith);
    })

-- ---- the first letters of pieces

pub length-firsts : (k n : ℕ) → length (firsts k n) ≡ n
unfolding firsts
length-firsts k zero = refl
length-firsts k (suc n) = ap suc (length-firsts (suc k) n)

pub firsts-next : (k n : ℕ) → firsts k (suc n) ≡ firsts k n ++ ((frame_of (suc (k + n))).later ∷ [])
unfolding firsts
firsts-next k zero = rw add-zero
firsts-next k (suc n) =
    ap (λ (w : List ℕ). (frame_of (suc k)).later ∷ w) (firsts-next (suc k) n
    ∙ ap (λ (m : ℕ). firsts (suc k) n ++ ((frame_of (suc m)).later ∷ [])) (let e : suc k + n ≡ k + suc n = omega arith in e))

-- ---- the letters of an edge

pub length-letters : (k run rise : ℕ) → length (letters k run rise) ≡ run + rise
unfolding letters
length-letters k run rise = length-spell (frame_of k) (listed (counted_letter rise (run + rise)) (run + rise))
    ∙ length-listed (counted_letter rise (run + rise)) (run + rise)

-- A word listed and spelled, with one more letter
pub spelled-next : (k : ℕ) (f : ℕ → Bool) (i : ℕ)
    → spell (frame_of k) (listed f (suc i)) ≡ spell (frame_of k) (listed f i) ++ spell (frame_of k) (f i ∷ [])
spelled-next k f i = ap (spell (frame_of k)) (listed_next f i) ∙ spell-append (frame_of k) (listed f i) (f i ∷ [])

-- A list whose first i letters are those of the edge
module _ (k run rise i : ℕ) (rises : 0 < rise) (list : List ℕ)
    (h : take i list ≡ spell (frame_of k) (listed (counted_letter rise (run + rise)) i)) (fits : i < length list) where
  abbrev Longer : ℕ → Type 0
  Longer a = take (suc i) (set list i a) ≡ spell (frame_of k) (listed (counted_letter rise (run + rise)) (suc i))

  pub earlier-next : i * rise % (run + rise) < run → Longer (frame_of k).earlier
  unfolding spell
  earlier-next l =
      take-suc-set list i (frame_of k).earlier fits
      ∙ rw (
        spelled-next k (counted_letter rise (run + rise)) i,
        letter-below i run rise rises l,
      ) (ap (λ (w : List ℕ). w ++ ((frame_of k).earlier ∷ [])) h)

  pub later-next : run ≤ i * rise % (run + rise) → Longer (frame_of k).later
  unfolding spell
  later-next l =
      take-suc-set list i (frame_of k).later fits
      ∙ rw (
        spelled-next k (counted_letter rise (run + rise)) i,
        letter-above i run rise rises l,
      ) (ap (λ (w : List ℕ). w ++ ((frame_of k).later ∷ [])) h)
