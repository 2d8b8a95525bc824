-- 612 letters give at most 100 edges, since no two factors of a piece have copies with
-- the same counts, and few short copies have coprime counts.
-- Slopes of a piece decrease strictly, so the counts differ. The weight of a copy is what its
-- length lacks to 9. The weights of a piece's copies sum to at most 75.
use Prim.Native.Nat.{ℕ, zero, suc, ◌+◌, ◌-◌, ◌*◌, ◌≤◌, ◌<◌}
use native.Mathlib.Nat.{mul-zero, eq-or-lt_of_le, mul-le-mul_right}
use native.Mathlib.Omega.{arith}
use mathlib.Core.Path.{◌≡◌, refl, ap, ◌∙◌}
use mathlib.Core.Logic.{inl, inr}
use mathlib.Core.Bool.{Bool, true, false, cond}
use mathlib.Core.List.Memᴰ
use mathlib.Core.List.{List, [], ◌∷◌, ◌++◌, map, Memᴰ}
use lib.ListN.{length, length-append}
use lib.Dec.{lit<}
use Rattle.base.specs.Below.{every}
use Rattle.base.proofs.Weights.{sum_of, Distinct, none, more, mapped, weighs-at-most-grid}
use Rattle.words.specs.Word.{Word, earliers, laters}
use Rattle.words.specs.Lyndon.{Factor, Falling, Proper, copies, written}
use Rattle.words.specs.Christoffel.{Christoffel, coprime}
use Rattle.words.proofs.Counts.{earliers-laters, length-copies}
use Rattle.words.proofs.Christoffel.{coprime-iff, christoffel-floors}
use Rattle.words.proofs.Factors.{factors-exist, falling-head, falling-tail}
use Rattle.chart.specs.Limits.{most_numbers}
use Rattle.chart.specs.Outline.{Outline}
use Rattle.convexity.specs.Frame.{frame_of}
use Rattle.convexity.specs.Clockwise.{border}
use Rattle.convexity.specs.Pieces.{Reaches, piece, word, factors, edge_count, dent_length, dent_piece}
use Rattle.convexity.specs.Shape.{NoBackStep}
use Rattle.convexity.proofs.Frame.{Falls, EdgesFall}
use Rattle.convexity.proofs.Shape.{shape, length-spell}
use Rattle.convexity.proofs.Smooth.{dent-first, smooth-edges, smooth-piece}
use Rattle.convexity.proofs.Directions.{EndsLater, first-rises, ends-later-rest, slope-trans}
use Rattle.convexity.proofs.AsSent.{clear_of}

-- ---- the grid of copies

-- One copy of a factor: the number of earlier letters, and of later ones
abbrev Copy : Type 0
Copy = ℕ × ℕ

abbrev size : Copy → ℕ
size c = c.0 + c.1

-- What the length lacks to 9; 0 if the counts have a common divisor
unfoldable weight : Copy → ℕ
weight c = cond (coprime c.1 (size c)) (9 - size c) 0

-- The copies with e earlier letters and 1 to m later ones
unfoldable row : ℕ → ℕ → List Copy
row e zero = []
row e (suc m) = (e, suc m) ∷ row e m

-- The copies with fewer than n earlier letters and 1 to m later ones
unfoldable grid : ℕ → ℕ → List Copy
grid zero m = []
grid (suc n) m = row n m ++ grid n m

in-row : (e l m : ℕ) → 0 < l → l ≤ m → Memᴰ (e, l) (row e m)
unfolding row
in-row e l zero p h = absurd (omega arith)
in-row e l (suc m) p h =
    elim (eq-or-lt_of_le h) [
      | inl d ↦ Memᴰ.head (ap (λ (n : ℕ). (e, n)) d)
      | inr k ↦ Memᴰ.tail (in-row e l m p (omega arith))
    ]

in-grid : (n e l m : ℕ) → e < n → 0 < l → l ≤ m → Memᴰ (e, l) (grid n m)
unfolding grid
in-grid zero e l m k p h = absurd (omega arith)
in-grid (suc n) e l m k p h =
    elim (eq-or-lt_of_le k) [
      | inl d ↦
          let d' : e ≡ n = omega arith in
          Memᴰ.append_left (grid n m) (Memᴰ.cast (ap (λ (i : ℕ). (i, l)) d') (in-row n l m p h))
      | inr k' ↦ Memᴰ.append_right (row n m) (in-grid n e l m (omega arith) p h)
    ]

grid-weight : sum_of weight (grid 8 8) ≡ 75
unfolding sum_of weight grid row coprime every
grid-weight = refl

-- A copy with a later letter and a positive weight is in the grid
weighs-in-grid : (c : Copy) → 0 < c.1 → 0 < weight c → Memᴰ c (grid 8 8)
unfolding weight
weighs-in-grid c p h = go (coprime c.1 (size c)) h
  where
    go : (b : Bool) → 0 < cond b (9 - size c) 0 → Memᴰ c (grid 8 8)
    go true q = in-grid 8 c.0 c.1 8 (omega arith) p (omega arith)
    go false q = absurd (omega arith)

-- ---- the copies of one piece

abbrev copy : Factor → Copy
copy f = (earliers f.word, laters f.word)

-- All later factors are less steep, so their counts differ
steeper :
    (f : Factor) (fs : List Factor) → EdgesFall (f ∷ fs) → (g : Factor) → Memᴰ g fs
    → laters g.word * earliers f.word < laters f.word * earliers g.word
unfolding EdgesFall Falls
steeper f [] h g m = absurd (Memᴰ.not-nil m)
steeper f (b ∷ bs) h g m =
    elim (Memᴰ.cases_cons m) [
      | inl e ↦ rw e h.1
      | inr t ↦ slope-trans _ _ (earliers b.word) (laters b.word) _ _ h.1 (steeper b bs h.2 g t)
    ]

copies-distinct : (fs : List Factor) → EdgesFall fs → Distinct (map copy fs)
unfolding EdgesFall
copies-distinct [] h = none
copies-distinct (f ∷ fs) h =
    more
    (λ m. let r = mapped copy fs m in apart r.0 r.2 (steeper f fs h r.0 r.1))
    (copies-distinct fs h.2)
  where
    apart : (g : Factor) → copy f ≡ copy g → laters g.word * earliers f.word < laters f.word * earliers g.word → ⊥
    apart g e l =
        let a : earliers f.word ≡ earliers g.word = ap (λ (c : Copy). c.0) e in
        let b : laters f.word ≡ laters g.word = ap (λ (c : Copy). c.1) e in
        omega (arith, rw (a, b) at l)

-- Every factor has a later letter
later-in : (fs : List Factor) → EdgesFall fs → EndsLater (written fs) → (f : Factor) → Memᴰ f fs → 0 < laters f.word
unfolding EdgesFall
later-in [] h ends f m = absurd (Memᴰ.not-nil m)
later-in (g ∷ fs) h ends f m =
    elim (Memᴰ.cases_cons m) [
      | inl e ↦ rw e (some (laters g.word) (first-rises g fs h ends))
      | inr t ↦ later-in fs h.2 (ends-later-rest g fs ends) f t
    ]
  where
    some : (l : ℕ) → 0 < g.times * l → 0 < l
    some zero p = absurd (omega (arith, mul-zero g.times))
    some (suc l) p = omega arith

copies-weigh : (fs : List Factor) → EdgesFall fs → EndsLater (written fs) → sum_of weight (map copy fs) ≤ 75
copies-weigh fs h ends =
    omega (
      arith,
      grid-weight,
      weighs-at-most-grid weight (grid 8 8) (copies-distinct fs h) λ c m. weighs-in-grid c (later c (mapped copy fs m)),
    )
  where
    later : (c : Copy) → (f : Factor) × Memᴰ f fs × (c ≡ copy f) → 0 < c.1
    later c r = rw r.2 (later-in fs h ends r.0 r.1)

-- The length and the weight of one copy sum to at least 9, and a factor has at least one copy
factor-long : (f : Factor) → Proper f → Christoffel f.word → 9 ≤ length (copies f.times f.word) + weight (copy f)
unfolding weight
factor-long f p c =
    let w : Word = f.word in
    let floors = (christoffel-floors w).0 c in
    let once = mul-le-mul_right (length w) p.repeated in
    rw (length-copies, earliers-laters w, (coprime-iff (laters w) (length w) floors.above_zero).1 floors.coprime) (omega arith)

factors-long : (fs : List Factor) → Falling fs → dent_length fs ≡ 0 → 9 * length fs ≤ length (written fs) + sum_of weight (map copy fs)
unfolding sum_of written
factors-long [] h e = omega arith
factors-long (f ∷ fs) h e =
    let p = falling-head h in
    let d = dent-first f fs p e in
    simp length-append (omega (arith, factor-long f p d.0, factors-long fs (falling-tail h) d.1))

-- ---- the four pieces

module _ (o : Outline) (straight : NoBackStep o) where
  letters-of-words : length (word o 0) + (length (word o 1) + (length (word o 2) + length (word o 3))) + 4 ≡ length o.letters
  letters-of-words =
      let f = shape o straight in
      omega (
        arith,
        simp length-append at (ap length f.whole),
        of-piece 0 (lit< tt),
        of-piece 1 (lit< tt),
        of-piece 2 (lit< tt),
        of-piece 3 (lit< tt),
      )
    where
      of-piece : (k : ℕ) → k < 4 → length (piece o k) ≡ suc (length (word o k))
      of-piece k h = ap length ((shape o straight).spelled k h) ∙ length-spell (frame_of k) (true ∷ word o k)

  module _ (smooth : dent_piece o ≡ 4) where
    piece-edges : (k : ℕ) → k < 4 → 9 * length (factors o k) ≤ length (word o k) + 75
    unfolding factors
    piece-edges k h =
        let w : Word = word o k in
        let fs : List Factor = factors o k in
        let e = factors-exist w in
        let weigh = copies-weigh fs (smooth-edges o smooth k h) (rw e.whole ((shape o straight).ends k h)) in
        omega (arith, factors-long fs e.falling (smooth-piece o smooth k h), ap length e.whole)

    -- Nine times the number of edges is at most the number of letters plus 296
    pub edges-and-letters : 9 * edge_count o ≤ length o.letters + 296
    unfolding edge_count
    edges-and-letters =
        omega (arith, letters-of-words, piece-edges 0 (lit< tt), piece-edges 1 (lit< tt), piece-edges 2 (lit< tt), piece-edges 3 (lit< tt))

-- At most 100 edges, even for the longest outlines
pub edges-at-most-100 : (o : Outline) → NoBackStep o → dent_piece o ≡ 4 → 2 * edge_count o ≤ most_numbers
edges-at-most-100 o straight smooth = omega (arith, edges-and-letters o straight smooth, straight.walk.walked.short)

-- The same for an outline as sent: the holder has room for the edges of every taken outline
pub edges_fit : (o : Outline) → Reaches o → dent_piece (border o) ≡ 4 → 2 * edge_count (border o) ≤ most_numbers
edges_fit o h smooth = edges-at-most-100 (border o) (clear_of o h) smooth
