-- A point is under a path of decreasing edges exactly if it is on the right side of each edge: the path stays within one step of its own
-- edge, and decreasing slopes carry the inequality to all others.
use Prim.Native.Nat.{ℕ, zero, suc, pred, ◌+◌, ◌*◌, ◌≤◌, ◌<◌}
use native.Mathlib.Nat.{add_assoc, add-zero, le_dest, le_of_lt, le_refl, mul-le-mul_left, mul-le-mul_right, lt_of_not-le}
use native.Mathlib.Nat.{mul-lt-mul_of_pos_left, le_of_mul-le-mul_left}
use native.Mathlib.Decide.{dec_le}
use native.Mathlib.Omega.{arith}
use mathlib.Core.Path.{◌≡◌, refl, sym, ap, ◌∙◌, subst}
use mathlib.Core.Logic.{◌↔◌, ◌⊎◌, inl, inr, ⊎_elim, ⊎_map}
use mathlib.Core.Bool.{Bool, true, false}
use mathlib.Core.List.{List, [], ◌∷◌, ◌++◌, append_assoc, append-nil}
use lib.ListN.{length, take, drop, length-append}
use lib.Seq.{take-append_seam, take-append-le, take-append-add, take-length, take-nil}
use Rattle.words.specs.Word.{Word, earliers, laters}
use Rattle.words.specs.Lyndon.{Factor, copies, written}
use Rattle.words.proofs.Counts.{earliers-append, laters-append, earliers-laters, earliers-copies, laters-copies, earliers-take-drop}
use Rattle.words.proofs.Counts.{laters-take-drop, earliers-take-mono, laters-take-mono}
use Rattle.words.proofs.Dent.{Above, Triangle, above-triangle}

-- Some point of the path of w is at or left of (p, q) and at or above it
pub record Under (w : Word) (p q : ℕ) : Type 0 where
  pub upto : ℕ
  pub within : upto ≤ length w
  pub left : earliers (take upto w) ≤ p
  pub high : q ≤ laters (take upto w)

-- ---- a point of the path is the end of a prefix

pub take_split : (w x y : Word) → w ≡ x ++ y → take (length x) w ≡ x
take_split w x y e = ap (take (length x)) e ∙ take-append_seam x y

split-within : (w x y : Word) → w ≡ x ++ y → length x ≤ length w
split-within w x y e = omega (arith, simp length-append at (ap length e))

pub under-of-split : (w x y : Word) → w ≡ x ++ y → (p q : ℕ) → earliers x ≤ p → q ≤ laters x → Under w p q
under-of-split w x y e p q h k =
    record { upto = length x; within = split-within w x y e; left = rw (take_split w x y e) h; high = rw (take_split w x y e) k }

-- The prefix before a letter, made longer by that letter
next-split : (w x : Word) (a : Bool) (y : Word) → w ≡ x ++ a ∷ y → w ≡ x ++ a ∷ [] ++ y
next-split w x a y e = e ∙ sym (append_assoc x (a ∷ []) y)

-- A point of the path is up to x, or from the next letter on
before-or-after : (w x : Word) (a : Bool) (y : Word) → w ≡ x ++ a ∷ y → (i : ℕ)
    → (laters (take i w) ≤ laters x) ⊎ (earliers x + earliers (a ∷ []) ≤ earliers (take i w))
before-or-after w x a y e i =
    elim (dec_le i (length x)) [
      | yes h ↦ inl (rw (take_split w x (a ∷ y) e) at (laters-take-mono i (length x) w h))
      | no h ↦
          let u : Word = x ++ a ∷ [] in
          let long : length u ≤ i = simp length-append (omega arith) in
          inr (rw (take_split w u y (next-split w x a y e), earliers-append) at (earliers-take-mono (length u) i w long))
    ]

-- In the column of an earlier letter: under the path is at most the path's height there
pub columnwise : (w x y : Word) → w ≡ x ++ false ∷ y → (p q : ℕ) → earliers x ≡ p → Under w p q ↔ (q ≤ laters x)
unfolding earliers
columnwise w x y e p q h = (
  λ u. ⊎_elim (λ k. omega (arith, u.high)) (λ k. absurd (omega (arith, u.left))) (before-or-after w x false y e u.upto),
  λ k. under-of-split w x (false ∷ y) e p q (omega arith) k,
)

-- In the row of a later letter: under the path is at the path or right of it
pub rowwise : (w x y : Word) → w ≡ x ++ true ∷ y → (p q : ℕ) → laters x + 1 ≡ q → Under w p q ↔ (earliers x ≤ p)
unfolding earliers laters
rowwise w x y e p q h = (
  λ u. ⊎_elim (λ k. absurd (omega (arith, u.high))) (λ k. omega (arith, u.left)) (before-or-after w x true y e u.upto),
  λ k. under-of-split w (x ++ true ∷ []) y (next-split w x true y e) p q (rw earliers-append (omega arith))
      (rw laters-append (omega arith)),
)

pub above-not-under : (w x y : Word) → w ≡ x ++ false ∷ y → Under w (earliers x) (laters x + 1) → ⊥
above-not-under w x y e u = omega (arith, (columnwise w x y e (earliers x) (laters x + 1) refl).0 u)

-- The (p + 1)-th earlier letter of w, with the parts before it and after it
pub record EarlierAt (w : Word) (p : ℕ) : Type 0 where
  pub before : Word
  pub after : Word
  pub split : w ≡ before ++ false ∷ after
  pub count : earliers before ≡ p

-- The q-th later letter of w
pub record LaterAt (w : Word) (q : ℕ) : Type 0 where
  pub before : Word
  pub after : Word
  pub split : w ≡ before ++ true ∷ after
  pub count : laters before + 1 ≡ q

pub earlier-at : (w : Word) (p : ℕ) → p < earliers w → EarlierAt w p
unfolding earliers
earlier-at [] p h = absurd (omega arith)
earlier-at (false ∷ w) zero h = record { before = []; after = w; split = refl; count = refl }
earlier-at (false ∷ w) (suc p) h =
    let r : EarlierAt w p = earlier-at w p (omega arith) in
    record { before = false ∷ r.before; after = r.after; split = ap (λ (v : Word). false ∷ v) r.split; count = ap suc r.count }
earlier-at (true ∷ w) p h =
    let r : EarlierAt w p = earlier-at w p h in
    record { before = true ∷ r.before; after = r.after; split = ap (λ (v : Word). true ∷ v) r.split; count = r.count }

pub later-at : (w : Word) (q : ℕ) → 0 < q → q ≤ laters w → LaterAt w q
unfolding laters
later-at [] q h k = absurd (omega arith)
later-at (false ∷ w) q h k =
    let r : LaterAt w q = later-at w q h k in
    record { before = false ∷ r.before; after = r.after; split = ap (λ (v : Word). false ∷ v) r.split; count = r.count }
later-at (true ∷ w) zero h k = absurd (omega arith)
later-at (true ∷ w) (suc zero) h k = record { before = []; after = w; split = refl; count = refl }
later-at (true ∷ w) (suc (suc q)) h k =
    let r : LaterAt w (suc q) = later-at w (suc q) (omega arith) (omega arith) in
    record { before = true ∷ r.before; after = r.after; split = ap (λ (v : Word). true ∷ v) r.split; count = omega (arith, r.count) }

-- The point of the path in the column of (p, q) is lower, and the next letter is the earlier one
pub record Over (w : Word) (p q : ℕ) : Type 0 where
  pub at : EarlierAt w p
  pub low : laters at.before < q

-- A point no higher than the path's end is under the path or over it
pub under-or-over : (w : Word) (p q : ℕ) → q ≤ laters w → Under w p q ⊎ Over w p q
under-or-over w p q h =
    elim (dec_le (earliers w) p) [
      | yes k ↦ inl (under-of-split w w [] (sym (append-nil w)) p q k h)
      | no k ↦ column (earlier-at w p (lt_of_not-le k))
    ]
  where
    column : EarlierAt w p → Under w p q ⊎ Over w p q
    column r =
        elim (dec_le q (laters r.before)) [
          | yes k ↦ inl ((columnwise w r.before r.after r.split p q r.count).1 k)
          | no k ↦ inr (record { at = r; low = lt_of_not-le k })
        ]

-- ---- edges

-- The edge of a factor: its run and its rise
abbrev pub run : Factor → ℕ
run f = f.times * earliers f.word

abbrev pub rise : Factor → ℕ
rise f = f.times * laters f.word

-- (p, q) is on the right side of every edge, or on the edge; the first edge starts at (vp, vq)
unfoldable pub Sides : List Factor → ℕ → ℕ → ℕ → ℕ → Type 0
Sides [] vp vq p q = Unit
Sides (f ∷ fs) vp vq p q = (run f * q + rise f * vp ≤ rise f * p + run f * vq) × Sides fs (vp + run f) (vq + rise f) p q

-- What is used about a Christoffel word: the points of its path are on or under the chord,
-- and the point one up and one left of each is strictly over it
pub record RunsAlong (w : Word) : Type 0 where
  pub under : (i : ℕ) → i ≤ length w → laters (take i w) * earliers w ≤ earliers (take i w) * laters w
  pub left : (i : ℕ) → i ≤ length w → earliers (take i w) * laters w < (laters (take i w) + 1) * earliers w + laters w

pub record Edge (f : Factor) : Type 0 where
  pub repeated : 0 < f.times
  pub above_zero : 0 < length f.word
  pub hugs : RunsAlong f.word

-- The edge after f, if there is one, is less steep
unfoldable pub Falls : Factor → List Factor → Type 0
Falls f [] = Unit
Falls f (g ∷ gs) = laters g.word * earliers f.word < laters f.word * earliers g.word

unfoldable pub EdgesFall : List Factor → Type 0
EdgesFall [] = Unit
EdgesFall (f ∷ fs) = Edge f × Falls f fs × EdgesFall fs

-- ---- slopes

-- Slopes are transitive through a vector (a, b) that is not zero: l / e ≤ b / a and b / a ≤ d / c give l / e ≤ d / c
slope-trans : (e l a b c d : ℕ) → 0 < a + b → l * a ≤ e * b → b * c ≤ a * d → l * c ≤ e * d
slope-trans e l a b c d some h k =
    elim (dec_le a 0) [
      | yes z ↦
          let one : 1 ≤ b = omega arith in
          let none : c ≤ 0 = omega (arith, mul-le-mul_right d z, mul-le-mul_right c one) in
          omega (arith, mul-le-mul_left l none)
      | no z ↦ le_of_mul-le-mul_left {k = a} (omega (arith, mul-le-mul_right c h, mul-le-mul_left e k)) (lt_of_not-le z)
    ]

-- If P holds for the prefixes of c, and for c followed by each prefix of r, it holds for the prefixes of c ++ r
take_cases : (P : Word → Type 0) (c r : Word) → ((i : ℕ) → i ≤ length c → P (take i c)) → ((j : ℕ) → j ≤ length r → P (c ++ take j r))
    → (i : ℕ) → i ≤ length (c ++ r) → P (take i (c ++ r))
take_cases P c r low high i h =
    elim (dec_le i (length c)) [
      | yes k ↦ rw (take-append-le i c r k) (low i k)
      | no k ↦
          let (j, e) = le_dest (le_of_lt (lt_of_not-le k)) in
          let fits : j ≤ length r = omega (arith, length-append c r) in
          subst (λ (n : ℕ). P (take n (c ++ r))) e (rw take-append-add (high j fits))
    ]

-- No point of the path of w is over the line of slope b / a through its start
Flat : ℕ → ℕ → Word → Type 0
Flat a b w = (i : ℕ) → i ≤ length w → laters (take i w) * a ≤ earliers (take i w) * b

flat-nil : (a b : ℕ) → Flat a b []
unfolding Flat laters earliers
flat-nil a b i h = rw take-nil (omega arith)

flat_append : (a b : ℕ) (u v : Word) → Flat a b u → Flat a b v → Flat a b (u ++ v)
unfolding Flat
flat_append a b u v h k =
    let whole : laters u * a ≤ earliers u * b = rw take-length at (h (length u) (le_refl _)) in
    take_cases (λ (t : Word). laters t * a ≤ earliers t * b) u v h (λ j m. simp (laters-append, earliers-append) (omega (arith, k j m)))

flat-copies : (a b k : ℕ) (w : Word) → Flat a b w → Flat a b (copies k w)
unfolding copies
flat-copies a b zero w h = flat-nil a b
flat-copies a b (suc k) w h = flat_append a b w (copies k w) h (flat-copies a b k w h)

flat-steeper : (a b c d : ℕ) (w : Word) → 0 < a + b → b * c ≤ a * d → Flat a b w → Flat c d w
unfolding Flat
flat-steeper a b c d w some s h i k = slope-trans _ _ a b c d some (h i k) s

-- The edges after f are all less steep
flat_after : (f : Factor) (fs : List Factor) → Falls f fs → EdgesFall fs → Flat (earliers f.word) (laters f.word) (written fs)
unfolding Falls EdgesFall written Flat
flat_after f [] s h = flat-nil _ _
flat_after f (g ∷ gs) s h =
    let g⁺ : Edge g = h.0 in
    let some : 0 < earliers g.word + laters g.word = omega (arith, g⁺.above_zero, earliers-laters g.word) in
    let steeper : laters g.word * earliers f.word ≤ earliers g.word * laters f.word = omega arith in
    flat-steeper _ _ _ _ (copies g.times g.word ++ written gs) some steeper
    (flat_append _ _ (copies g.times g.word) (written gs) (flat-copies _ _ g.times g.word g⁺.hugs.under)
    (flat_after g gs h.1 h.2))

-- The point one up and one left of each point of the path of w is over the line of slope b / a through its start
Left : ℕ → ℕ → Word → Type 0
Left a b w = (i : ℕ) → i ≤ length w → earliers (take i w) * b < (laters (take i w) + 1) * a + b

left-copies : (k : ℕ) (w : Word) → 0 < length w → Left (earliers w) (laters w) w → Left (earliers w) (laters w) (copies k w)
unfolding Left copies earliers laters
left-copies zero w some h = λ i m. rw take-nil (omega (arith, earliers-laters w))
left-copies (suc k) w some h =
    take_cases (λ (t : Word). earliers t * laters w < (laters t + 1) * earliers w + laters w) w (copies k w) h
    (λ j m. simp (laters-append, earliers-append) (omega (arith, left-copies k w some h j m)))

-- ---- from under the path to the right side of every edge

pub sides-mono : (fs : List Factor) (vp vq p q p' q' : ℕ) → p ≤ p' → q' ≤ q → Sides fs vp vq p q → Sides fs vp vq p' q'
unfolding Sides
sides-mono [] vp vq p q p' q' h k s = tt
sides-mono (f ∷ fs) vp vq p q p' q' h k s = (
  omega (arith, s.0, mul-le-mul_left (rise f) h, mul-le-mul_left (run f) k),
  sides-mono fs (vp + run f) (vq + rise f) p q p' q' h k s.1,
)

-- The first edge, if there is one, is no steeper than the vector (x, y)
NoSteeper : List Factor → ℕ → ℕ → Type 0
NoSteeper [] x y = Unit
NoSteeper (g ∷ gs) x y = laters g.word * x ≤ earliers g.word * y

no-steeper : (f : Factor) (fs : List Factor) (x y : ℕ) → 0 < length f.word → Falls f fs → laters f.word * x ≤ earliers f.word * y
    → NoSteeper fs x y
unfolding Falls NoSteeper
no-steeper f [] x y some s h = tt
no-steeper f (g ∷ gs) x y some s h =
    slope-trans _ _ (earliers f.word) (laters f.word) x y (omega (arith, earliers-laters f.word)) (omega arith) h

-- A point from which a steep vector leads to the start of the edges is on their right side
sides-before : (fs : List Factor) → EdgesFall fs → (p q x y : ℕ) → NoSteeper fs x y → Sides fs (p + x) (q + y) p q
unfolding EdgesFall NoSteeper Sides
sides-before [] h p q x y s = tt
sides-before (f ∷ fs) h p q x y s = (
  omega (arith, mul-le-mul_left f.times s),
  rw (add_assoc p x (run f), add_assoc q y (rise f)) (sides-before fs h.2 p q (x + run f) (y + rise f)
      (no-steeper f fs (x + run f) (y + rise f) h.0.above_zero h.1 (omega arith))),
)

-- The points on the path of f's own copies
sides-own : (f : Factor) (fs : List Factor) → EdgesFall (f ∷ fs) → (vp vq i : ℕ) → i ≤ length (copies f.times f.word)
    → Sides (f ∷ fs) vp vq (vp + earliers (take i (copies f.times f.word))) (vq + laters (take i (copies f.times f.word)))
unfolding EdgesFall Sides Flat
sides-own f fs h vp vq i m =
    let k : ℕ = f.times in
    let w : Word = f.word in
    let c : Word = copies k w in
    let e : ℕ = earliers (take i c) in
    let l : ℕ = laters (take i c) in
    let x : ℕ = earliers (drop i c) in
    let y : ℕ = laters (drop i c) in
    let flat : l * earliers w ≤ e * laters w = flat-copies (earliers w) (laters w) k w h.0.hugs.under i m in
    let across : e + x ≡ run f = earliers-take-drop i c ∙ earliers-copies k w in
    let up : l + y ≡ rise f = laters-take-drop i c ∙ laters-copies k w in
    let p : vp + e + x ≡ vp + run f = omega arith in
    let q : vq + l + y ≡ vq + rise f = omega arith in
    let steep : laters w * x ≤ earliers w * y = omega (arith, ap (λ (n : ℕ). laters w * n) across, ap (λ (n : ℕ). earliers w * n) up) in (
      omega (arith, mul-le-mul_left k flat),
      rw (p, q) at (sides-before fs h.2 (vp + e) (vq + l) x y (no-steeper f fs x y h.0.above_zero h.1 steep)),
    )

-- The points on the path after f's copies
sides-after : (f : Factor) (fs : List Factor) → EdgesFall (f ∷ fs) → (vp vq j : ℕ) → j ≤ length (written fs)
    → Sides fs (vp + run f) (vq + rise f) (vp + run f + earliers (take j (written fs))) (vq + rise f + laters (take j (written fs)))
    → Sides (f ∷ fs) vp vq (vp + earliers (copies f.times f.word ++ take j (written fs)))
    (vq + laters (copies f.times f.word ++ take j (written fs)))
unfolding EdgesFall Sides Flat
sides-after f fs h vp vq j m s =
    let k : ℕ = f.times in
    let w : Word = f.word in
    let t : Word = take j (written fs) in
    let flat : laters t * earliers w ≤ earliers t * laters w = flat_after f fs h.1 h.2 j m in
    let p : vp + earliers (copies k w ++ t) ≡ vp + run f + earliers t =
    omega (arith, earliers-append (copies k w) t, earliers-copies k w) in
    let q : vq + laters (copies k w ++ t) ≡ vq + rise f + laters t = omega (arith, laters-append (copies k w) t, laters-copies k w) in
    rw (p, q) (omega (arith, mul-le-mul_left k flat), s)

-- Every point of the path is on the right side of every edge
sides-path : (fs : List Factor) → EdgesFall fs → (vp vq i : ℕ) → i ≤ length (written fs)
    → Sides fs vp vq (vp + earliers (take i (written fs))) (vq + laters (take i (written fs)))
unfolding EdgesFall Sides written
sides-path [] h vp vq i m = tt
sides-path (f ∷ fs) h vp vq i m =
    take_cases (λ (t : Word). Sides (f ∷ fs) vp vq (vp + earliers t) (vq + laters t)) (copies f.times f.word) (written fs)
    (sides-own f fs h vp vq) (λ j n. sides-after f fs h vp vq j n (sides-path fs h.2 (vp + run f) (vq + rise f) j n)) i m

-- ---- from the right side of every edge to under the path

-- A letter of c ++ r is a letter of c or one of r
append-split : (c r x : Word) (a : Bool) (y : Word) → c ++ r ≡ x ++ a ∷ y
    → ((s : Word) × (c ≡ x ++ a ∷ s)) ⊎ ((s : Word) × (x ≡ c ++ s) × (r ≡ s ++ a ∷ y))
append-split [] r x a y e = inr (x, refl, e)
append-split (b ∷ c) r [] a y e = inl (c, (cc))
append-split (b ∷ c) r (d ∷ x) a y e =
    ⊎_map (λ (s, p). (s, (cc))) (λ (s, p, q). (s, (cc), q)) (append-split c r x a y (cc))

-- The point straight above the start of one of f's earlier letters is on the wrong side of f's edge
own-side-fails : (f : Factor) → Edge f → (vp vq : ℕ) (x s : Word) → copies f.times f.word ≡ x ++ false ∷ s
    → run f * (vq + laters x + 1) + rise f * vp ≤ rise f * (vp + earliers x) + run f * vq → ⊥
unfolding Left earliers laters
own-side-fails f g vp vq x s e h =
    let w : Word = f.word in
    let c : Word = copies f.times w in
    let u : Word = x ++ false ∷ [] in
    let split : c ≡ u ++ s = next-split c x false s e in
    let begins : take (length u) c ≡ u = take_split c u s split in
    let across : earliers (take (length u) c) ≡ earliers x + 1 = ap earliers begins ∙ earliers-append x (false ∷ []) in
    let up : laters (take (length u) c) ≡ laters x = ap laters begins ∙ laters-append x (false ∷ []) ∙ add-zero (laters x) in
    let near = left-copies f.times w g.above_zero g.hugs.left (length u) (split-within c u s split) in
    let left : (earliers x + 1) * laters w < (laters x + 1) * earliers w + laters w = rw (across, up) at near in
    let over : earliers x * laters w < (laters x + 1) * earliers w = omega arith in
    omega (arith, mul-lt-mul_of_pos_left over g.repeated)

no-sides-above : (fs : List Factor) → EdgesFall fs → (vp vq : ℕ) (x y : Word) → written fs ≡ x ++ false ∷ y
    → Sides fs vp vq (vp + earliers x) (vq + laters x + 1) → ⊥
unfolding EdgesFall Sides written
no-sides-above [] h vp vq x y e s = omega (arith, simp length-append at (ap length e))
no-sides-above (f ∷ fs) h vp vq x y e s =
    let c : Word = copies f.times f.word in
    ⊎_elim (λ (t, p). own-side-fails f h.0 vp vq x t p s.0)
    (λ (t, p, q).
    let across : earliers x ≡ run f + earliers t =
    omega (arith, ap earliers p, earliers-append c t, earliers-copies f.times f.word) in
    let up : laters x ≡ rise f + laters t = omega (arith, ap laters p, laters-append c t, laters-copies f.times f.word) in
    no-sides-above fs h.2 (vp + run f) (vq + rise f) t y q (sides-mono fs _ _ _ _ _ _ (omega arith) (omega arith) s.1))
    (append-split c (written fs) x false y e)

pub under-iff-sides : (fs : List Factor) → EdgesFall fs → (p q : ℕ) → q ≤ laters (written fs) → Under (written fs) p q ↔ Sides fs 0 0 p q
under-iff-sides fs h p q high = (
  λ u. sides-mono fs 0 0 _ _ p q (omega (arith, u.left)) (omega (arith, u.high)) (sides-path fs h 0 0 u.upto u.within),
  λ s. ⊎_elim (λ u. u) (λ o. absurd (fails s o)) (under-or-over (written fs) p q high),
)
  where
    fails : Sides fs 0 0 p q → Over (written fs) p q → ⊥
    fails s o =
        let r : EarlierAt (written fs) p = o.at in
        no-sides-above fs h 0 0 r.before r.after r.split
        (sides-mono fs 0 0 p q _ _ (omega (arith, r.count)) (omega (arith, o.low)) s)

-- ---- a dent in a piece

-- Natural weights by which (p, q) lies in the triangle of three points of the path of w
pub record InTriangle (w : Word) (p q : ℕ) : Type 0 where
  pub i : ℕ
  pub j : ℕ
  pub k : ℕ
  pub i-within : i ≤ length w
  pub j-within : j ≤ length w
  pub k-within : k ≤ length w
  pub a : ℕ
  pub b : ℕ
  pub c : ℕ
  pub above_zero : 0 < a + b + c
  pub across : (a + b + c) * p ≡ a * earliers (take i w) + b * earliers (take j w) + c * earliers (take k w)
  pub up : (a + b + c) * q ≡ a * laters (take i w) + b * laters (take j w) + c * laters (take k w)

-- An earlier letter of w such that the point straight above its start is in the triangle of three points of the path
pub record Dented (w : Word) : Type 0 where
  pub before : Word
  pub after : Word
  pub split : w ≡ before ++ false ∷ after
  pub hull : InTriangle w (earliers before) (laters before + 1)

-- A dent of a part of a word, shifted by the letters before that part
dent-shift : (w v u r : Word) → w ≡ v ++ (u ++ r) → Above u → Dented w
dent-shift w v u r e d =
    let t : Triangle (earliers d.before) (laters d.before) (earliers u) (laters u) = above-triangle u d in
    let x : Word = v ++ d.before in
    let split : w ≡ x ++ false ∷ (d.after ++ r) = e ∙ ap (λ (z : Word). v ++ (z ++ r)) d.split ∙ simp append_assoc in
    let split' : w ≡ v ++ u ++ r = e ∙ sym (append_assoc v u r) in
    let near : take (length x) w ≡ x = take_split w x _ split in
    let far : take (length (v ++ u)) w ≡ v ++ u = take_split w (v ++ u) r split' in
    let start : take (length v) w ≡ v = take_split w v (u ++ r) e in
    record {
      before = x;
      after = d.after ++ r;
      split = split;
      hull = record {
        i = length x;
        j = length (v ++ u);
        k = length v;
        i-within = split-within w x _ split;
        j-within = split-within w (v ++ u) r split';
        k-within = split-within w v (u ++ r) e;
        a = t.near;
        b = t.far;
        c = t.start;
        above_zero = t.above_zero;
        across = rw (near, far, start) (simp earliers-append (omega (arith, t.across)));
        up = rw (near, far, start) (simp laters-append (omega (arith, t.up)));
      };
    }

written-append : (fs gs : List Factor) → written (fs ++ gs) ≡ written fs ++ written gs
unfolding written
written-append [] gs = refl
written-append (f ∷ fs) gs = rw (written-append fs gs) (sym (append_assoc (copies f.times f.word) (written fs) (written gs)))

copies-pos : (k : ℕ) (w : Word) → 0 < k → copies k w ≡ w ++ copies (pred k) w
unfolding copies
copies-pos zero w h = absurd (omega arith)
copies-pos (suc k) w h = refl

-- If some factor has a point above it that is under its chord, the piece has a dent
pub dent-in-piece : (fs before : List Factor) (f : Factor) (after : List Factor) → fs ≡ before ++ f ∷ after → 0 < f.times → Above f.word
    → Dented (written fs)
unfolding written
dent-in-piece fs before f after e h a =
    let w : Word = f.word in
    let rest : Word = copies (pred f.times) w ++ written after in
    let first : written (f ∷ after) ≡ w ++ rest = ap (λ (c : Word). c ++ written after) (copies-pos f.times w h)
    ∙ append_assoc w (copies (pred f.times) w) (written after) in
    dent-shift (written fs) (written before) w rest (ap written e ∙ written-append before (f ∷ after)
    ∙ ap (λ (c : Word). written before ++ c) first) a
