-- Letters stored one after another: the earlier ones stay, and what stands behind is not changed.
use Prim.Native.Nat.{ℕ, suc, ◌+◌, ◌≤◌, ◌<◌}
use native.Mathlib.Nat.{add-zero, zero-add}
use native.Mathlib.Omega.{arith}
use mathlib.Core.Path.{◌≡◌, refl, sym, ap, ◌∙◌, subst}
use mathlib.Core.List.{List, [], ◌∷◌, ◌++◌, append_assoc, append-nil}
use lib.ListN.{length, take, drop, set, length-set, length-append, length-drop, take-append-drop}
use lib.Seq.{take_at, drop_at, length-take-le, take-suc-set, drop-set-lt, drop-drop}
use Rattle.border_of_rows.specs.parts.Wrote.{Wrote}

pub wrote_none : (before : List ℕ) (at : ℕ) → Wrote before at [] before
wrote_none before at =
    record { sized = refl; written = ap (λ (n : ℕ). take n before) (add-zero at) ∙ sym (append-nil (take at before)); kept = refl }

-- What is unchanged from a place on is unchanged from any later place on
further : (l m : List ℕ) (i j : ℕ) → drop i l ≡ drop i m → drop (i + j) l ≡ drop (i + j) m
further l m i j e = sym (drop-drop j i l) ∙ ap (drop j) e ∙ drop-drop j i m

-- One more letter, at place i after those written
pub wrote-next :
    {before w after : List ℕ} {at : ℕ} → Wrote before at w after → (i a : ℕ) → i ≡ at + length w → i < length before
    → Wrote before at (w ++ (a ∷ [])) (set after i a)
wrote-next {before} {w} {after} {at} h i a e l =
    let n : at + length (w ++ (a ∷ [])) ≡ suc i = omega (arith, length-append w (a ∷ [])) in
    let d : suc i ≡ i + 1 = omega arith in
    record {
      sized = simp length-set h.sized;
      written =
          rw n
          (take-suc-set after i a (omega (arith, h.sized))
          ∙ ap (λ (l : List ℕ). l ++ (a ∷ [])) (ap (λ (j : ℕ). take j after) e ∙ h.written)
          ∙ append_assoc (take at before) w (a ∷ []));
      kept = rw n (drop-set-lt (suc i) after i a (omega arith) ∙ rw d (further after before i 1 (rw e h.kept)));
    }

-- Letters after letters
pub wrote-both :
    {before middle after u v : List ℕ} {at : ℕ} → Wrote before at u middle → (i : ℕ) → i ≡ at + length u → Wrote middle i v after
    → Wrote before at (u ++ v) after
wrote-both {before} {middle} {after} {u} {v} {at} h i e k =
    let n : at + length (u ++ v) ≡ i + length v = omega (arith, length-append u v) in
    record {
      sized = k.sized ∙ h.sized;
      written =
          rw n
          (k.written ∙ ap (λ (l : List ℕ). l ++ v) (ap (λ (j : ℕ). take j middle) e ∙ h.written) ∙ append_assoc (take at before) u v);
      kept = rw n (k.kept ∙ further middle before i (length v) (rw e h.kept));
    }

-- Letters put in the place of as many
pub wrote-put :
    {before w put : List ℕ} {at k : ℕ} → put ≡ w → k ≡ length w → at + length w ≤ length before
    → Wrote before at w (take at before ++ (put ++ drop k (drop at before)))
wrote-put {before} {w} {put} {at} {k} e d h =
    let rest = drop (length w) (drop at before) in
    let front : length (take at before ++ w) ≡ at + length w =
    omega (arith, length-append (take at before) w, length-take-le at before (omega arith)) in
    let whole : take at before ++ (w ++ rest) ≡ (take at before ++ w) ++ rest = sym (append_assoc (take at before) w rest) in
    rw (e, d)
    (record {
      sized =
          omega (
            arith,
            ap length whole,
            length-append (take at before ++ w) rest,
            front,
            length-drop (length w) (drop at before),
            length-drop at before,
          );
      written = ap (take (at + length w)) whole ∙ take_at (take at before ++ w) rest (at + length w) front;
      kept = ap (drop (at + length w)) whole ∙ drop_at (take at before ++ w) rest (at + length w) front ∙ drop-drop (length w) at before;
    })

-- Equal letters
pub wrote-same : {before w v after : List ℕ} {at : ℕ} → w ≡ v → Wrote before at w after → Wrote before at v after
wrote-same {before} {w} {v} {after} {at} e h = subst (λ (u : List ℕ). Wrote before at u after) e h

-- Written from the front
pub wrote-front : {before w after : List ℕ} → Wrote before 0 w after → after ≡ w ++ drop (length w) before
wrote-front {before} {w} {after} h =
    let n : 0 + length w ≡ length w = zero-add (length w) in
    sym (take-append-drop (length w) after) ∙ (λ i. (rw n at h.written) i ++ (rw n at h.kept) i)

-- ---- letters written from the front up to a place

pub record Front (before w after : List ℕ) (k : ℕ) : Type 0 where
  pub at : k ≡ length w
  pub wrote : Wrote before 0 w after

pub front-put : {before w after : List ℕ} {k : ℕ} → Front before w after k → (a : ℕ) → k < length before
    → Front before (w ++ (a ∷ [])) (set after k a) (k + 1)
front-put {before} {w} {after} {k} f a l =
    record { at = omega (arith, f.at, length-append w (a ∷ [])); wrote = wrote-next f.wrote k a (omega (arith, f.at)) l }

pub front-more : {before w after v next : List ℕ} {k n : ℕ} → Front before w after k → n ≡ k + length v → Wrote after k v next
    → Front before (w ++ v) next n
front-more {before} {w} {after} {v} {next} {k} {n} f e h =
    record { at = omega (arith, f.at, length-append w v); wrote = wrote-both f.wrote k (omega (arith, f.at)) h }
