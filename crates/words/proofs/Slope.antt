-- A Christoffel word is the lattice path closest under its chord, since its prefixes are counted by floors; so larger words have larger
-- slopes, and its rotations lie above it.
use Prim.Native.Nat.{ℕ, zero, suc, ◌+◌, ◌-◌, ◌*◌, ◌≤◌, ◌<◌}
use mathlib.Core.Path.{◌≡◌, refl, sym, ap, ◌∙◌}
use mathlib.Core.Bool.{Bool, true, false}
use mathlib.Core.List.{[], ◌∷◌, ◌++◌}
use native.Mathlib.Decide.{dec_lt}
use native.Mathlib.Nat.{add-zero, mul-le-mul_right, mul-lt-mul_of_pos_right, lt_of_mul-lt-mul_left, lt_of_mul-lt-mul_right}
use native.Mathlib.Nat.{le-div_iff_mul-le, div-mul-le_self, lt-div-mul-add}
use native.Mathlib.Omega.{arith}
use lib.ListN.{length, take, drop, length-append, length-drop}
use lib.Seq.{take-append-le, take-append-add, take-append_seam, take-length}
use Rattle.words.specs.Word.{Word, earliers, laters, Begins, Differs, Less, begins, differs}
use Rattle.words.specs.Lyndon.{Lyndon, rotation}
use Rattle.words.specs.Christoffel.{Christoffel}
use Rattle.words.proofs.Counts.{earliers-laters, laters-append, laters-take-add, counts-take}
use Rattle.words.proofs.Coprime.{coprime-no-multiple}
use Rattle.words.proofs.Christoffel.{Floors, christoffel-floors}

-- The floors as inequalities: no prefix ends above the chord, and with one more later letter it would
module _ (w : Word) (f : Floors w) (i : ℕ) (l : i ≤ length w) where
  pub floor-le : laters (take i w) * length w ≤ i * laters w
  floor-le = rw (f.count i l) (div-mul-le_self (i * laters w) (length w))

  pub floor-lt : i * laters w < laters (take i w) * length w + length w
  floor-lt = rw (f.count i l) (lt-div-mul-add {a = i * laters w} f.above_zero)

-- A proper prefix ends strictly under the chord
pub floor-strict : (w : Word) → Floors w → (i : ℕ) → 0 < i → i < length w → laters (take i w) * length w < i * laters w
floor-strict w f i pos less =
    elim (dec_lt (laters (take i w) * length w) (i * laters w)) [
      | yes h ↦ h
      | no h ↦
          absurd (coprime-no-multiple (laters w) (length w) i (laters (take i w)) f.coprime pos less
          (omega (arith, floor-le w f i (omega arith))))
    ]

-- The same in terms of the two letters: the prefix has i letters and the word n
module _ (w : Word) (c : Christoffel w) (i : ℕ) (l : i ≤ length w) where
  prefix : earliers (take i w) * laters w + laters (take i w) * laters w ≡ i * laters w
  prefix = omega (arith, ap (λ (x : ℕ). x * laters w) (counts-take i w l))

  whole : laters (take i w) * earliers w + laters (take i w) * laters w ≡ laters (take i w) * length w
  whole = omega (arith, ap (λ (x : ℕ). laters (take i w) * x) (earliers-laters w))

  pub under-chord : laters (take i w) * earliers w ≤ earliers (take i w) * laters w
  under-chord = omega (arith, prefix, whole, floor-le w ((christoffel-floors w).0 c) i l)

  -- The point one up and one left is strictly above the chord
  pub near-chord : earliers (take i w) * laters w < (laters (take i w) + 1) * earliers w + laters w
  near-chord = omega (arith, prefix, whole, earliers-laters w, floor-lt w ((christoffel-floors w).0 c) i l)

-- Slopes can be compared by the share of later letters among all letters
slope-of-lengths : (u v : Word) → laters v * length u < laters u * length v → laters v * earliers u < laters u * earliers v
slope-of-lengths u v h =
    omega (
      arith,
      ap (λ (x : ℕ). laters v * x) (earliers-laters u),
      ap (λ (x : ℕ). laters u * x) (earliers-laters v),
    )

-- The prefix up to a letter, and with that letter
count_at : (s t : Word) (a : Bool) (w : Word) → w ≡ s ++ a ∷ t → laters (take (length s + 1) w) ≡ laters s + laters (a ∷ [])
count_at s t a w e = ap (λ (x : Word). laters (take (length s + 1) x)) e ∙ ap laters (take-append-add s (a ∷ t) 1)
    ∙ laters-append s (a ∷ [])

length_at : (s t : Word) (a : Bool) (w : Word) → w ≡ s ++ a ∷ t → length s + 1 ≤ length w
length_at s t a w e = omega (arith, ap length e, length-append s (a ∷ t))

-- Two slopes are separated by the point of i steps and b + 1 later letters
between : (i b k n k' n' : ℕ) → (b + 1) * n ≤ i * k → i * k' < b * n' + n' → 0 < n → k' * n < k * n'
between i b k n k' n' h h' pos =
    lt_of_mul-lt-mul_left i (omega (arith, mul-le-mul_right n' h, mul-lt-mul_of_pos_right {k = n} h' pos))

slope-of-differs : (u v : Word) → Floors u → Floors v → Differs v u → laters v * length u < laters u * length v
unfolding laters
slope-of-differs u v f g d =
    let i = length d.same + 1 in
    let high = floor-le u f i (length_at d.same d.high true u d.right) in
    let low = floor-lt v g i (length_at d.same d.low false v d.left) in
    between
    i
    (laters d.same)
    (laters u)
    (length u)
    (laters v)
    (length v)
    (rw (count_at d.same d.high true u d.right) at high)
    (rw (count_at d.same d.low false v d.left, add-zero) at low)
    f.above_zero

slope-of-begins : (u v : Word) → Floors u → Floors v → Begins v u → laters v * length u < laters u * length v
slope-of-begins u v f g b =
    let l : length v < length u = omega (arith, ap length b.whole, length-append v (b.next ∷ b.rest)) in
    let e : take (length v) u ≡ v = ap (take (length v)) b.whole ∙ take-append_seam v (b.next ∷ b.rest) in
    omega (arith, rw e at (floor-strict u f (length v) g.above_zero l))

-- A larger word has the larger slope
pub slope-of-less : (u v : Word) → Christoffel u → Christoffel v → Less v u → laters v * earliers u < laters u * earliers v
slope-of-less u v c d (begins b) = slope-of-lengths u v (slope-of-begins u v ((christoffel-floors u).0 c) ((christoffel-floors v).0 d) b)
slope-of-less u v c d (differs b) = slope-of-lengths u v (slope-of-differs u v ((christoffel-floors u).0 c) ((christoffel-floors v).0 d) b)

less-cons : (a : Bool) (u v : Word) → Less u v → Less (a ∷ u) (a ∷ v)
less-cons a u v (begins b) = begins (record { next = b.next; rest = b.rest; whole = ap (λ (x : Word). a ∷ x) b.whole })
less-cons a u v (differs d) =
    differs
    (record {
      same = a ∷ d.same;
      low = d.low;
      high = d.high;
      left = ap (λ (x : Word). a ∷ x) d.left;
      right = ap (λ (x : Word). a ∷ x) d.right;
    })

-- A word is smaller if none of its prefixes has more later letters, and one has fewer
pub less-of-counts : (m : ℕ) (u v : Word) → ((j : ℕ) → j ≤ m → laters (take j u) ≤ laters (take j v))
    → laters (take m u) < laters (take m v) → Less u v
unfolding laters
less-of-counts zero u v h l = absurd (omega arith)
less-of-counts (suc m) u [] h l = absurd (omega arith)
less-of-counts (suc m) [] (b ∷ v) h l = begins (record { next = b; rest = v; whole = refl })
less-of-counts (suc m) (false ∷ u) (true ∷ v) h l = differs (record { same = []; low = u; high = v; left = refl; right = refl })
less-of-counts (suc m) (true ∷ u) (false ∷ v) h l = absurd (omega (arith, h 1 (omega arith)))
less-of-counts (suc m) (false ∷ u) (false ∷ v) h l = less-cons false u v (less-of-counts m u v (λ j p. h (suc j) (omega arith)) l)
less-of-counts (suc m) (true ∷ u) (true ∷ v) h l =
    less-cons true u v (less-of-counts m u v (λ j p. omega (arith, h (suc j) (omega arith))) (omega arith))

-- The rotation that starts at letter i is counted by differences of floors, which are at least the floors
module _ (w : Word) (f : Floors w) (i : ℕ) where
  turned : (j : ℕ) → i + j ≤ length w → laters (take i w) + laters (take j (rotation i w)) ≡ laters (take (i + j) w)
  unfolding rotation
  turned j l =
      let s : j ≤ length (drop i w) = omega (arith, length-drop i w) in
      rw (take-append-le j (drop i w) (take i w) s) (sym (laters-take-add i j w))

  above : (j : ℕ) → i + j ≤ length w → laters (take i w) + laters (take j w) ≤ laters (take (i + j) w)
  above j l =
      rw
      (f.count (i + j) l)
      ((le-div_iff_mul-le f.above_zero).1 (omega (arith, floor-le w f i (omega arith), floor-le w f j (omega arith))))

  strictly-above : (j : ℕ) → 0 < i → 0 < j → i + j ≡ length w → laters (take i w) + laters (take j w) < laters (take (i + j) w)
  strictly-above j pos more e =
      rw
      (e, take-length w)
      (lt_of_mul-lt-mul_right
      (length w)
      (omega (
        arith,
        ap (λ (x : ℕ). x * laters w) e,
        floor-strict w f i pos (omega arith),
        floor-le w f j (omega arith),
      )))

pub christoffel-lyndon : (w : Word) → Christoffel w → Lyndon w
christoffel-lyndon w c = record { above_zero = f.above_zero; least = least }
  where
    f : Floors w
    f = (christoffel-floors w).0 c

    least : (i : ℕ) → 0 < i → i < length w → Less w (rotation i w)
    least i pos l =
        less-of-counts
        (length w - i)
        w
        (rotation i w)
        (λ j p. omega (arith, turned w f i j (omega arith), above w f i j (omega arith)))
        (omega (arith, turned w f i (length w - i) (omega arith), strictly-above w f i (length w - i) pos (omega arith) (omega arith)))
