-- Directions of edges increase clockwise: within a piece slopes decrease strictly, and the quadrants of the four pieces, each from its
-- later letter, included, to its earlier one, excluded, follow one another.
use Prim.Native.Nat.{ℕ, suc, pred, ◌+◌, ◌*◌, ◌≤◌, ◌<◌}
use native.Mathlib.Nat.{le_refl, le_trans, mul-pos, mul-le-mul_right, mul-lt-mul_of_pos_left, mul-lt-mul_of_pos_right}
use native.Mathlib.Nat.{lt_of_mul-lt-mul_left, eq-zero-or-pos}
use native.Mathlib.Omega.{arith}
use mathlib.Core.Path.{◌≡◌, refl, sym, ap, ◌∙◌}
use mathlib.Core.Logic.{⊎_elim}
use mathlib.Core.Bool.{Bool, true, false}
use mathlib.Core.List.{List, [], ◌∷◌, ◌++◌, append_assoc, append-nil}
use lib.ListN.{length, get_or, take}
use lib.Seq.{take-suc, take-length}
use lib.IntN.{ℤ}
use lib.Dec.{lit<}
use Rattle.words.specs.Word.{Word, earliers, laters}
use Rattle.words.specs.Lyndon.{Factor, copies, written}
use Rattle.words.proofs.Counts.{laters-copies, length-copies, laters-next-later, laters-take-le}
use Rattle.words.proofs.Factors.{factors-exist}
use Rattle.chart.specs.Outline.{Outline}
use Rattle.convexity.specs.Frame.{frame_of}
use Rattle.convexity.specs.Edges.{Edge, pairs}
use Rattle.convexity.specs.Pieces.{word, factors, edges_of, edges, dent_piece}
use Rattle.convexity.specs.Directions.{edge_cols, edge_rows}
use Rattle.convexity.specs.Shape.{NoBackStep}
use Rattle.convexity.proofs.Frame.{run, rise, Falls, EdgesFall}
use Rattle.convexity.proofs.Shape.{shape}
use Rattle.convexity.proofs.Smooth.{smooth-edges}
use Rattle.convexity.proofs.Inside.{edge-pairs}
use Rattle.convexity.proofs.Signed.{Lies, step_cols, step_rows, step-lies}

-- ---- the directions of the frames

-- (dx, dy) is e earlier letters and l later ones of frame k, with at least one later letter
pub record Points (k e l : ℕ) (dx dy : ℤ) : Type 0 where
  pub small : k < 4
  pub upward : 0 < l
  pub lies : Lies k 0 e l dx dy

-- Beyond a bound: n frames have begun, and in the last of them the direction (e, l) is reached. The direction (e', l') of frame k is in a
-- frame that has not begun, or is less steep than the bound
pub data After (n e l k e' l' : ℕ) : Type 0 where
  later-frame : n ≤ k → After n e l k e' l'
  same-frame : n ≡ suc k → l' * e < l * e' → After n e l k e' l'

pub slope-trans : (e l a b c d : ℕ) → b * e < l * a → d * a < b * c → d * e < l * c
slope-trans e l a b c d h k =
    ⊎_elim (λ z. absurd (omega (arith, ap (λ (n : ℕ). b * n) z)))
    (λ z. lt_of_mul-lt-mul_left a (omega (arith, mul-lt-mul_of_pos_right {k = c} h z, mul-le-mul_right e k)))
    (eq-zero-or-pos c)

-- ---- lists of edges with increasing directions

-- Each edge of the list is beyond the one before it, and the first is beyond the bound
pub data Increasing : ℕ → ℕ → ℕ → List Edge → Type 0 where
  none : {n e l : ℕ} → Increasing n e l []
  more :
      {n e l k e' l' : ℕ} {dx dy : ℤ} {es : List Edge} → After n e l k e' l' → Points k e' l' dx dy → Increasing (suc k) e' l' es
      → Increasing n e l ((dx, dy) ∷ es)

pub cols-next : (dx dy : ℤ) (es : List ℤ) (i : ℕ) → edge_cols (dx ∷ dy ∷ es) (suc i) ≡ edge_cols es i
unfolding edge_cols
cols-next dx dy es i = let d : 2 * suc i ≡ suc (suc (2 * i)) = omega arith in rw d

pub rows_next : (dx dy : ℤ) (es : List ℤ) (i : ℕ) → edge_rows (dx ∷ dy ∷ es) (suc i) ≡ edge_rows es i
unfolding edge_rows
rows_next dx dy es i = let d : 2 * suc i + 1 ≡ suc (suc (2 * i + 1)) = omega arith in rw d

-- A bound that only gives the number of frames begun
turning-from : {n m e l : ℕ} {es : List Edge} → n ≤ m → Increasing m 0 0 es → Increasing n e l es
turning-from h none = none
turning-from h (more (later-frame m) p r) = more (later-frame (le_trans h m)) p r
turning-from h (more (same-frame m s) p r) = absurd (omega arith)

-- ---- the edges of one piece

-- If the word has a last letter, it is the later one
abbrev pub EndsLater : Word → Type 0
EndsLater w = (x : Word) (b : Bool) → w ≡ x ++ (b ∷ []) → b ≡ true

ends-later-some : (w : Word) → 0 < length w → EndsLater w → 0 < laters w
ends-later-some w h ends =
    let i = pred (length w) in
    let e : suc i ≡ length w = omega arith in
    let whole : w ≡ take i w ++ (get_or w i false ∷ []) = sym (take-length w) ∙ ap (λ (n : ℕ). take n w) (sym e)
    ∙ take-suc w i false (omega arith) in
    omega (arith, laters-next-later i w (omega arith) (ends (take i w) (get_or w i false) whole), laters-take-le (suc i) w)

-- Every factor has a later letter: the last one because the word ends with it, any other because it is steeper than the next
pub first-rises : (f : Factor) (fs : List Factor) → EdgesFall (f ∷ fs) → EndsLater (written (f ∷ fs)) → 0 < rise f
unfolding EdgesFall Falls written
first-rises f [] (edge, falls, rest) ends =
    let w : Word = copies f.times f.word in
    let some : 0 < length w = rw length-copies (mul-pos edge.repeated edge.above_zero) in
    rw laters-copies at (ends-later-some w some (rw append-nil at ends))
first-rises f (g ∷ gs) (edge, falls, rest) ends =
    ⊎_elim (λ z. absurd (omega (arith, ap (λ (n : ℕ). n * earliers g.word) z))) (λ z. mul-pos edge.repeated z)
    (eq-zero-or-pos (laters f.word))

-- Repeats do not change a slope
edge-falls :
    (f g : Factor) → 0 < f.times → 0 < g.times → laters g.word * earliers f.word < laters f.word * earliers g.word
    → rise g * run f < rise f * run g
edge-falls f g h k falls = omega (arith, mul-lt-mul_of_pos_left falls (mul-pos h k))

pub ends-later-rest : (f : Factor) (fs : List Factor) → EndsLater (written (f ∷ fs)) → EndsLater (written fs)
unfolding written
ends-later-rest f fs ends x b e =
    let w : Word = copies f.times f.word in
    ends (w ++ x) b (ap (λ (v : Word). w ++ v) e ∙ sym (append_assoc w x (b ∷ [])))

module _ (k : ℕ) (small : k < 4) {es : List Edge} (rest : Increasing (suc k) 0 0 es) where
  points :
      (f : Factor) (fs : List Factor) → EdgesFall (f ∷ fs) → EndsLater (written (f ∷ fs))
      → Points k (run f) (rise f) (step_cols (frame_of k) (run f) (rise f)) (step_rows (frame_of k) (run f) (rise f))
  points f fs h ends = record { small = small; upward = first-rises f fs h ends; lies = step-lies k (run f) (rise f) }

  turning-factors :
      (f : Factor) (fs : List Factor) → EdgesFall (f ∷ fs) → EndsLater (written (f ∷ fs)) → {n e l : ℕ} → After n e l k (run f) (rise f)
      → Increasing n e l (pairs (edges_of (frame_of k) (f ∷ fs)) ++ es)
  unfolding EdgesFall Falls pairs edges_of
  turning-factors f [] h ends a = more a (points f [] h ends) (turning-from (le_refl (suc k)) rest)
  turning-factors f (g ∷ gs) h ends a =
      more a (points f (g ∷ gs) h ends)
      (turning-factors g gs h.2 (ends-later-rest f (g ∷ gs) ends)
      (same-frame refl (edge-falls f g h.0.repeated h.2.0.repeated h.1)))

  turning-piece : (fs : List Factor) → EdgesFall fs → EndsLater (written fs) → Increasing k 0 0 (pairs (edges_of (frame_of k) fs) ++ es)
  unfolding pairs edges_of
  turning-piece [] h ends = turning-from (omega arith) rest
  turning-piece (f ∷ fs) h ends = turning-factors f fs h ends (later-frame (le_refl k))

-- ---- the four pieces

module _ (o : Outline) (straight : NoBackStep o) (smooth : dent_piece o ≡ 4) where
  piece-turning : (k : ℕ) → k < 4 → {es : List Edge} → Increasing (suc k) 0 0 es
      → Increasing k 0 0 (pairs (edges_of (frame_of k) (factors o k)) ++ es)
  unfolding factors
  piece-turning k h rest =
      turning-piece k h rest (factors o k) (smooth-edges o smooth k h) (rw (factors-exist (word o k)).whole ((shape o straight).ends k h))

  -- Directions increase clockwise from up, included, to just short of up again
  pub edges-turning : Increasing 0 0 0 (pairs (edges o))
  edges-turning =
      rw (edge-pairs o) (piece-turning 0 (lit< tt)
      (piece-turning 1 (lit< tt) (piece-turning 2 (lit< tt) (rw append-nil at (piece-turning 3 (lit< tt) none)))))
