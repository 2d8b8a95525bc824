-- A word that is smaller than all its proper suffixes is a Christoffel word unless a lattice point straight above its path lies on or
-- under its chord: each such suffix first rises no less than the word does.
use Prim.Native.Nat.{ℕ, zero, suc, ◌+◌, ◌*◌, ◌/◌, ◌≤◌, ◌<◌}
use native.Mathlib.Nat.{add-zero, le_dest, le_refl, mul-le-mul_left, mul-le-mul_right, div-eq_of_lt-le, lt_of_not-le, lt-div-mul-add}
use native.Mathlib.Nat.{lt_of_mul-lt-mul_left}
use native.Mathlib.Decide.{dec_le}
use native.Mathlib.Omega.{arith}
use mathlib.Core.Path.{◌≡◌, refl, sym, ap, ◌∙◌, subst}
use mathlib.Core.Logic.{◌⊎◌, inl, inr, ⊎_elim, ⊎_map}
use mathlib.Core.Bool.{Bool, true, false}
use mathlib.Core.List.{[], ◌∷◌, ◌++◌, append_assoc}
use lib.ListN.{length, take, drop, length-append, take-append-drop, length-drop}
use lib.Seq.{take_at, length-take-le}
use Rattle.words.specs.Word.{Word, earliers, laters, Differs}
use Rattle.words.specs.Christoffel.{Coprime}
use Rattle.words.proofs.Counts.{earliers-append, laters-append, earliers-laters, counts-take}

-- A point of the path, left by an earlier letter, whose upper neighbour is on or under the chord
pub record Above (w : Word) : Type 0 where
  pub before : Word
  pub after : Word
  pub split : w ≡ before ++ false ∷ after
  pub over : (laters before + 1) * earliers w ≤ earliers before * laters w

-- Lyndon, by first differences: the word is smaller than each of its proper suffixes, and none of them is a prefix of it
abbrev pub ByDiff : Word → Type 0
ByDiff w = (u v : Word) → w ≡ u ++ v → 0 < length u → 0 < length v → Differs w v

-- If no point above the path is under the chord: let u end on or over the chord, and let the word start with x and an earlier letter.
-- Then u, x and a later letter together end strictly over the chord
higher : (w : Word) → (Above w → ⊥) → (u x y : Word) → w ≡ x ++ false ∷ y → earliers u * laters w ≤ laters u * earliers w
    → earliers (u ++ (x ++ true ∷ [])) * laters w < laters (u ++ (x ++ true ∷ [])) * earliers w
unfolding earliers laters
higher w flat u x y e h =
    let up : earliers x * laters w < (laters x + 1) * earliers w =
    lt_of_not-le (λ k. flat (record { before = x; after = y; split = e; over = k })) in
    simp (earliers-append, laters-append) (omega arith)

rejoin : (w u v x z : Word) → w ≡ u ++ v → v ≡ x ++ true ∷ z → w ≡ u ++ (x ++ true ∷ []) ++ z
rejoin w u v x z e r = simp append_assoc (cc)

-- The whole word ends on the chord
whole-on-chord : (w u z : Word) → w ≡ u ++ z → length z ≤ 0 → earliers u * laters w ≡ laters u * earliers w
whole-on-chord w u z e h =
    let p : earliers w ≡ earliers u = omega (arith, ap earliers e, earliers-append u z, earliers-laters z) in
    let q : laters w ≡ laters u = omega (arith, ap laters e, laters-append u z, earliers-laters z) in
    rw (p, q) (omega arith)

-- So a prefix over the chord would continue to the whole word
never-over : (w : Word) → ByDiff w → (Above w → ⊥) → (n : ℕ) (u v : Word) → length v ≤ n → w ≡ u ++ v → 0 < length u → 0 < length v
    → earliers u * laters w ≤ laters u * earliers w → ⊥
never-over w lyn flat zero u v hn e hu hv h = omega arith
never-over w lyn flat (suc n) u v hn e hu hv h =
    let d : Differs w v = lyn u v e hu hv in
    let u' : Word = u ++ (d.same ++ true ∷ []) in
    let z : Word = d.high in
    let over : earliers u' * laters w < laters u' * earliers w = higher w flat u d.same d.low d.left h in
    let whole : w ≡ u' ++ z = rejoin w u v d.same z e d.right in
    elim (dec_le (length z) 0) [
      | yes k ↦ omega (arith, whole-on-chord w u' z whole k)
      | no k ↦
          never-over w lyn flat n u' z (omega (arith, simp length-append at (ap length d.right))) whole
          (simp length-append (omega arith)) (lt_of_not-le k)
          (omega arith)
    ]

-- Every proper prefix that is not empty ends strictly under the chord
pub strictly-under : (w : Word) → ByDiff w → (Above w → ⊥) → (u v : Word) → w ≡ u ++ v → 0 < length u → 0 < length v
    → laters u * earliers w < earliers u * laters w
strictly-under w lyn flat u v e hu hv = lt_of_not-le (never-over w lyn flat (length v) u v (le_refl _) e hu hv)

-- A word with an earlier letter has a last one
record LastEarlier (u : Word) : Type 0 where
  before : Word
  after : Word
  split : u ≡ before ++ false ∷ after
  none : earliers after ≡ 0

later-on : {u : Word} (a : Bool) → LastEarlier u → LastEarlier (a ∷ u)
later-on a l = record { before = a ∷ l.before; after = l.after; split = ap (λ (v : Word). a ∷ v) l.split; none = l.none }

last-earlier : (u : Word) → 0 < earliers u → LastEarlier u
unfolding earliers
last-earlier [] h = absurd (omega arith)
last-earlier (false ∷ u) h =
    elim (dec_le (earliers u) 0) [
      | yes k ↦ record { before = []; after = u; split = refl; none = omega arith }
      | no k ↦ later-on false (last-earlier u (lt_of_not-le k))
    ]
last-earlier (true ∷ u) h = later-on true (last-earlier u h)

-- If the point one up and one left of a prefix's end is on or under the chord, so is
-- the point straight above the prefix's last earlier letter
above-of-left : (w u v : Word) → w ≡ u ++ v → 0 < length w → (laters u + 1) * earliers w + laters w ≤ earliers u * laters w → Above w
unfolding earliers laters
above-of-left w u v e n h =
    elim (dec_le (earliers u) 0) [
      | yes k ↦ absurd (omega (arith, mul-le-mul_right (laters w) k, earliers-laters w))
      | no k ↦ go (last-earlier u (lt_of_not-le k))
    ]
  where
    go : LastEarlier u → Above w
    go l =
        let p : earliers u ≡ earliers l.before + 1 = omega (arith, l.none, simp earliers-append at (ap earliers l.split)) in
        let q : laters l.before + 1 ≤ laters u + 1 = omega (arith, simp laters-append at (ap laters l.split)) in
        let h' : (laters u + 1) * earliers w + laters w ≤ (earliers l.before + 1) * laters w = rw p at h in
        record {
          before = l.before;
          after = l.after ++ v;
          split = e ∙ ap (λ (t : Word). t ++ v) l.split ∙ append_assoc l.before (false ∷ l.after) v;
          over = omega (arith, mul-le-mul_right (earliers w) q);
        }

-- Under the chord, and left of it, in terms of lengths: e earlier and l later letters of i, A and B of n
module _ (e l i A B n : ℕ) (here : e + l ≡ i) (whole : A + B ≡ n) where
  under-lengths : l * A ≤ e * B → l * n ≤ i * B
  under-lengths h = rw (← here, ← whole) (omega arith)

  strictly-under-lengths : l * A < e * B → l * n < i * B
  strictly-under-lengths h = rw (← here, ← whole) (omega arith)

  left-lengths : e * B < (l + 1) * A + B → i * B < (l + 1) * n
  left-lengths h = rw (← here, ← whole) (omega arith)

  left-of-lengths : i * B < (l + 1) * n → e * B < (l + 1) * A + B
  left-of-lengths h =
      let h' : (e + l) * B < (l + 1) * (A + B) = rw (here, whole) h in
      omega arith

-- By a common divisor, b of the n letters have exactly a of the B later ones, so no floor is strictly below
exact-floor : (d a b l B n : ℕ) → d * a ≡ B → d * b ≡ n → l * n < b * B → b * B < (l + 1) * n → ⊥
exact-floor d a b l B n p q low high =
    let low' : l * (d * b) < b * (d * a) = rw (p, q) low in
    let high' : b * (d * a) < (l + 1) * (d * b) = rw (p, q) high in
    let x : l < a = lt_of_mul-lt-mul_left (d * b) (omega arith) in
    let y : a < l + 1 = lt_of_mul-lt-mul_left (d * b) (omega arith) in
    omega arith

module _ (w : Word) (lyn : ByDiff w) (flat : Above w → ⊥) (long : 1 < length w) where
  on-or-under : (u v : Word) → w ≡ u ++ v → laters u * earliers w ≤ earliers u * laters w
  on-or-under u v e =
      elim (dec_le (length u) 0) [
        | yes hu ↦
            let p : laters u ≤ 0 = omega (arith, earliers-laters u) in
            omega (arith, mul-le-mul_right (earliers w) p)
        | no hu ↦
            elim (dec_le (length v) 0) [
              | yes hv ↦ omega (arith, whole-on-chord w u v e hv)
              | no hv ↦ omega (arith, strictly-under w lyn flat u v e (lt_of_not-le hu) (lt_of_not-le hv))
            ]
      ]

  left_over : (u v : Word) → w ≡ u ++ v → earliers u * laters w < (laters u + 1) * earliers w + laters w
  left_over u v e = lt_of_not-le (λ h. flat (above-of-left w u v e (omega arith) h))

  floor-low : (i : ℕ) → i ≤ length w → laters (take i w) * length w ≤ i * laters w
  floor-low i h =
      under-lengths _ _ i _ _ (length w) (counts-take i w h) (earliers-laters w)
      (on-or-under (take i w) (drop i w) (sym (take-append-drop i w)))

  floor-high : (i : ℕ) → i ≤ length w → i * laters w < (laters (take i w) + 1) * length w
  floor-high i h =
      left-lengths _ _ i _ _ (length w) (counts-take i w h) (earliers-laters w)
      (left_over (take i w) (drop i w) (sym (take-append-drop i w)))

  floor-strict : (i : ℕ) → 0 < i → i < length w → laters (take i w) * length w < i * laters w
  floor-strict i some h =
      let within : i ≤ length w = omega arith in
      let under : laters (take i w) * earliers w < earliers (take i w) * laters w =
      strictly-under w lyn flat (take i w) (drop i w) (sym (take-append-drop i w)) (rw length-take-le some)
      (rw length-drop (omega arith)) in
      strictly-under-lengths _ _ i _ _ (length w) (counts-take i w within) (earliers-laters w) under

  dent-floor : (i : ℕ) → i ≤ length w → laters (take i w) ≡ i * laters w / length w
  dent-floor i h = sym (div-eq_of_lt-le (length w) (floor-low i h) (floor-high i h))

  -- A common divisor above 1 would put the end of a proper prefix on the chord
  dent-coprime : Coprime (laters w) (length w)
  unfolding Coprime
  dent-coprime d a b p q =
      elim (dec_le d 1) [
        | yes h ↦ h
        | no h ↦
            let some : 0 < b = lt_of_not-le (λ k. omega (arith, mul-le-mul_left d k)) in
            let two : 2 ≤ d = lt_of_not-le h in
            let fits : b < length w = omega (arith, mul-le-mul_right b two) in
            absurd (exact-floor d a b (laters (take b w)) (laters w) (length w) p q (floor-strict b some fits) (floor-high b (omega arith)))
      ]

  pub dent-floors : Coprime (laters w) (length w) × ((i : ℕ) → i ≤ length w → laters (take i w) ≡ i * laters w / length w)
  dent-floors = (dent-coprime, dent-floor)

-- The prefix that ends with the earlier letter after `before` would have one more later letter
pub floors-no-above : (w : Word) → 0 < length w → ((i : ℕ) → i ≤ length w → laters (take i w) ≡ i * laters w / length w) → Above w → ⊥
unfolding earliers laters
floors-no-above w some floor a =
    let i : ℕ = suc (length a.before) in
    let u : Word = a.before ++ false ∷ [] in
    let long : length u ≡ i = simp length-append (omega arith) in
    let split : w ≡ u ++ a.after = a.split ∙ simp append_assoc in
    let whole : length w ≡ i + length a.after = ap length split ∙ simp length-append (omega arith) in
    let begins : take i w ≡ u = ap (take i) split ∙ take_at u a.after i long in
    let e : earliers (take i w) ≡ earliers a.before + 1 = ap earliers begins ∙ earliers-append a.before (false ∷ []) in
    let l : laters (take i w) ≡ laters a.before = ap laters begins ∙ laters-append a.before (false ∷ []) ∙ omega arith in
    let high : i * laters w < (laters (take i w) + 1) * length w =
    omega (arith, lt-div-mul-add {a = i * laters w} some, ap (λ (k : ℕ). k * length w) (floor i (omega arith))) in
    let left = left-of-lengths _ _ i _ _ (length w) (counts-take i w (omega arith)) (earliers-laters w) high in
    let left' : (earliers a.before + 1) * laters w < (laters a.before + 1) * earliers w + laters w = rw (← e, ← l) left in
    omega (arith, a.over)

-- A point above the path and under the chord from (0, 0) to (A, B), searched by the letters of w from a point (p, q) of the path on
AboveFrom : ℕ → ℕ → ℕ → ℕ → Word → Type 0
AboveFrom A B p q [] = ⊥
AboveFrom A B p q (false ∷ w) = ((q + 1) * A ≤ p * B) ⊎ AboveFrom A B (p + 1) q w
AboveFrom A B p q (true ∷ w) = AboveFrom A B p (q + 1) w

above-from-dec : (A B p q : ℕ) (w : Word) → AboveFrom A B p q w ⊎ (AboveFrom A B p q w → ⊥)
unfolding AboveFrom
above-from-dec A B p q [] = inr (λ a. a)
above-from-dec A B p q (false ∷ w) =
    elim (dec_le ((q + 1) * A) (p * B)) [
      | yes h ↦ inl (inl h)
      | no h ↦ ⊎_elim (λ a. inl (inr a)) (λ n. inr (λ a. ⊎_elim h n a)) (above-from-dec A B (p + 1) q w)
    ]
above-from-dec A B p q (true ∷ w) = above-from-dec A B p (q + 1) w

above_from : (A B p q : ℕ) (x y : Word) → (q + laters x + 1) * A ≤ (p + earliers x) * B → AboveFrom A B p q (x ++ false ∷ y)
unfolding AboveFrom earliers laters
above_from A B p q [] y h = inl (omega arith)
above_from A B p q (false ∷ x) y h = inr (above_from A B (p + 1) q x y (omega arith))
above_from A B p q (true ∷ x) y h = above_from A B p (q + 1) x y (omega arith)

above-found : (w u v : Word) → w ≡ u ++ v → AboveFrom (earliers w) (laters w) (earliers u) (laters u) v → Above w
unfolding AboveFrom earliers laters
above-found w u [] e a = absurd a
above-found w u (false ∷ v) e (inl h) = record { before = u; after = v; split = e; over = h }
above-found w u (false ∷ v) e (inr a) =
    above-found w (u ++ false ∷ []) v (e ∙ simp append_assoc) (simp (earliers-append, laters-append, add-zero) a)
above-found w u (true ∷ v) e a =
    above-found w (u ++ true ∷ []) v (e ∙ simp append_assoc) (simp (earliers-append, laters-append, add-zero) a)

of-above : (w : Word) → Above w → AboveFrom (earliers w) (laters w) 0 0 w
of-above w a =
    subst (λ (t : Word). AboveFrom (earliers w) (laters w) 0 0 t) (sym a.split)
    (above_from (earliers w) (laters w) 0 0 a.before a.after (omega (arith, a.over)))

pub above-dec : (w : Word) → Above w ⊎ (Above w → ⊥)
unfolding earliers laters
above-dec w = ⊎_map (above-found w [] w refl) (λ n a. n (of-above w a)) (above-from-dec (earliers w) (laters w) 0 0 w)

-- Natural weights by which (p, q + 1) lies in the triangle of (p, q), (A, B) and (0, 0)
pub record Triangle (p q A B : ℕ) : Type 0 where
  pub near : ℕ
  pub far : ℕ
  pub start : ℕ
  pub above_zero : 0 < near + far + start
  pub across : (near + far + start) * p ≡ near * p + far * A
  pub up : (near + far + start) * (q + 1) ≡ near * q + far * B

-- The weights are D - A, p and A - p, where D = p * B - q * A. Their sum is D
pub above-triangle : (w : Word) (a : Above w) → Triangle (earliers a.before) (laters a.before) (earliers w) (laters w)
unfolding earliers
above-triangle w a = weights _ _ _ _ (omega (arith, ap earliers a.split, earliers-append a.before (false ∷ a.after))) a.over
  where
    weights : (p q A B : ℕ) → p < A → (q + 1) * A ≤ p * B → Triangle p q A B
    weights p q A B h k =
        let (r, hr) = le_dest h in
        let (s, hs) = le_dest k in
        let hs' : (q + 1) * (suc p + r) + s ≡ p * B = rw hr hs in
        record { near = s; far = p; start = r + 1; above_zero = omega arith; across = omega (arith, ap (λ (m : ℕ). p * m) hr); up = omega arith }
