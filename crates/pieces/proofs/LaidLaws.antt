-- The cut places rise, so each piece is the part between two of them, of any list that begins as the border read cyclically.
use Prim.Native.Nat.{ℕ, zero, suc, ◌+◌, ◌-◌, ◌*◌, ◌≤◌, ◌<◌}
use native.Mathlib.Nat.{zero-add, suc-add}
use native.Mathlib.Omega.{arith}
use mathlib.Core.Path.{◌≡◌, refl, sym, ap, ◌∙◌}
use mathlib.Core.List.{List, [], ◌∷◌, ◌++◌}
use lib.ListN.{length, get_or, take, drop, length-append}
use lib.Seq.{take-take, take-nil, take-append-le}
use Rattle.chart.specs.Outline.{Outline}
use Rattle.lattice.specs.Chart.{size}
use Rattle.convexity.specs.Cut.{cut}
use Rattle.convexity.specs.Pieces.{rounds, piece}
use Rattle.pieces.specs.parts.Pieces.{Laid}
use Rattle.pieces.proofs.CutLaws.{cut-le-cut, cut-le}

-- ---- the letters four times round

pub length-rounds : (t : List ℕ) → length (rounds t) ≡ 4 * length t
unfolding rounds
length-rounds t = simp length-append (omega arith)

pub take-rounds : (t : List ℕ) (i : ℕ) → i ≤ length t → take i (rounds t) ≡ take i t
unfolding rounds
take-rounds t i h = take-append-le i t (t ++ (t ++ t)) h

-- ---- the pieces

-- The letters from a up to b of a list are those of any beginning of it that reaches b
drop-take : (a m : ℕ) (l : List ℕ) → drop a (take (a + m) l) ≡ take m (drop a l)
drop-take zero m l = rw zero-add
drop-take (suc a) m [] = ap (drop (suc a)) (take-nil (suc a + m)) ∙ sym (take-nil m)
drop-take (suc a) m (x ∷ l) = rw suc-add (drop-take a m l)

pub part-of-take : (a b e : ℕ) (l : List ℕ) → a ≤ b → b ≤ e → take (b - a) (drop a (take e l)) ≡ take (b - a) (drop a l)
part-of-take a b e l h k =
    let z : e ≡ a + (e - a) = omega arith in
    ap (λ (n : ℕ). take (b - a) (drop a (take n l))) z ∙ ap (take (b - a)) (drop-take a (e - a) l)
    ∙ take-take (b - a) (e - a) (drop a l) (omega arith)

module _ {o : Outline} {at buffer : List ℕ} (h : Laid o at buffer) where
  pub laid-rising : (k : ℕ) → k < 4 → get_or at k 0 ≤ get_or at (suc k) 0
  laid-rising k l = omega (arith, h.places k (omega arith), h.places (suc k) l, cut-le-cut o k (suc k) (omega arith))

  pub laid-within : (k : ℕ) → k ≤ 4 → get_or at k 0 ≤ length buffer
  laid-within k l = omega (arith, h.places k l, cut-le-cut o k 4 l, h.within)

  -- The part of the buffer between its cut places is the piece
  pub laid-piece : (k : ℕ) → k < 4 → take (get_or at (suc k) 0 - get_or at k 0) (drop (get_or at k 0) buffer) ≡ piece o k
  unfolding piece
  laid-piece k l =
      let a = h.places k (omega arith) in
      let b = h.places (suc k) l in
      let m = cut-le-cut o k (suc k) (omega arith) in
      let n = cut-le-cut o (suc k) 4 l in
      rw (a, b)
      (sym (part-of-take (cut o k) (cut o (suc k)) (cut o 4) buffer m n)
      ∙ ap (λ (u : List ℕ). take (cut o (suc k) - cut o k) (drop (cut o k) u)) h.letters
      ∙ part-of-take (cut o k) (cut o (suc k)) (cut o 4) (rounds o.letters) m n)

-- The border read four times round has all its pieces
pub laid-round : {o : Outline} {at : List ℕ} → ((k : ℕ) → k ≤ 4 → get_or at k 0 ≡ cut o k) → Laid o at (rounds o.letters)
laid-round {o} places = record { places = places; within = omega (arith, length-rounds o.letters, cut-le o 4); letters = refl }

-- Read once, if the pieces go round once
pub laid-once : {o : Outline} {at : List ℕ} → ((k : ℕ) → k ≤ 4 → get_or at k 0 ≡ cut o k) → cut o 4 ≡ size o → Laid o at o.letters
laid-once {o} places round =
    record { places = places; within = omega arith; letters = sym (take-rounds o.letters (cut o 4) (omega arith)) }
