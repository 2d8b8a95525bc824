-- A Christoffel word's prefix of i letters has floor(i·k/n) later letters: the remainder grows
-- by k if the floor stays, and falls by n − k if the floor grows.
use Prim.Native.Nat.{ℕ, zero, suc, ◌+◌, ◌-◌, ◌*◌, ◌/◌, ◌%◌, ◌≤◌, ◌<◌}
use mathlib.Core.Path.{◌≡◌, refl, sym, ◌∙◌, subst}
use mathlib.Core.Logic.{◌↔◌}
use mathlib.Core.Bool.{Bool, true, false, not, ◌&&◌, beq}
use mathlib.Core.List.{[], ◌∷◌}
use native.Mathlib.Decide.{dec_le, dec_lt}
use native.Mathlib.Nat.{zero-mul, suc-mul, mul-zero, mul-one, one-mul, mul-mod_right, mod-add-div, div-one, zero-div, mod-lt, mod-add-div'}
use native.Mathlib.Nat.{mul-le-mul_right}
use native.Mathlib.Omega.{arith}
use lib.ListN.{length, take, get_or}
use lib.Dec.{ltb, eqb}
use borrow.Author.Tests.{ltb-true, ltb-false, eqb-true, eq-eqb}
use Rattle.base.specs.Below.{every}
use Rattle.words.specs.Word.{Word, laters}
use Rattle.words.specs.Christoffel.{Coprime, Remainders, Christoffel, single, longer, coprime, remainders, christoffel}
use Rattle.base.proofs.BelowLaws.{and_left, and_right, every-at, every_of}
use Rattle.words.proofs.Counts.{laters-le-length, laters-take-suc, laters-next-earlier, letter-earlier}

no_false : {A : Type 0} → false ≡ true → A
no_false e = let z : ◌≡◌ {A = ℕ} 0 1 = cc in absurd (omega arith)

-- The test of one divisor
both-fail : (a b : ℕ) → (a ≡ 0 → b ≡ 0 → ⊥) → not (eqb a 0 && eqb b 0) ≡ true
both-fail a b h = go (eqb a 0) (eqb b 0) refl refl
  where
    go : (s t : Bool) → eqb a 0 ≡ s → eqb b 0 ≡ t → not (s && t) ≡ true
    go true true p q = absurd (h (eqb-true a 0 p) (eqb-true b 0 q))
    go true false p q = refl
    go false t p q = refl

both-pass : (a b : ℕ) → not (eqb a 0 && eqb b 0) ≡ true → a ≡ 0 → b ≡ 0 → ⊥
both-pass a b h p q = no_false (rw (eq-eqb a 0 p, eq-eqb b 0 q) at h)

pub factor-le : (d b n : ℕ) → d * b ≡ n → 0 < n → d ≤ n
factor-le d zero n e pos = absurd (omega (arith, mul-zero d))
factor-le d (suc b) n e pos = omega arith

divided : (x d : ℕ) → x % d ≡ 0 → d * (x / d) ≡ x
divided x d e = omega (arith, mod-add-div x d)

pub coprime-iff : (k n : ℕ) → 0 < n → (coprime k n ≡ true) ↔ Coprime k n
unfolding coprime Coprime
coprime-iff k n pos = (to, from)
  where
    test : ℕ → Bool
    test i = not (eqb (k % (i + 2)) 0 && eqb (n % (i + 2)) 0)

    to : every test (n - 1) ≡ true → (d a b : ℕ) → d * a ≡ k → d * b ≡ n → d ≤ 1
    to h zero a b p q = omega arith
    to h (suc zero) a b p q = omega arith
    to h (suc (suc i)) a b p q =
        let e : i + 2 ≡ suc (suc i) = omega arith in
        let t = every-at test (n - 1) h i (omega (arith, factor-le (suc (suc i)) b n q pos)) in
        absurd (both-pass (k % (i + 2)) (n % (i + 2)) t (rw (e, ← p) (mul-mod_right (suc (suc i)) a))
        (rw (e, ← q) (mul-mod_right (suc (suc i)) b)))

    from : ((d a b : ℕ) → d * a ≡ k → d * b ≡ n → d ≤ 1) → every test (n - 1) ≡ true
    from h =
        every_of test (n - 1) λ i l.
        both-fail (k % (i + 2)) (n % (i + 2)) λ p q.
        omega (arith, h (i + 2) (k / (i + 2)) (n / (i + 2)) (divided k (i + 2) p) (divided n (i + 2) q))

-- The remainders, with letters counted from 0
pub record Letters (w : Word) (k n : ℕ) : Type 0 where
  pub letter : (i : ℕ) → i < n → (get_or w i false ≡ false) ↔ (i * k % n < suc i * k % n)

pub remainders-letters : (w : Word) (k n : ℕ) → Remainders w k n ↔ Letters w k n
unfolding Remainders
remainders-letters w k n = (to, from)
  where
    to : ((i : ℕ) → 1 ≤ i → i ≤ n → (get_or w (i - 1) false ≡ false) ↔ ((i - 1) * k % n < i * k % n)) → Letters w k n
    to h =
        record {
          letter = λ i l.
              subst (λ (j : ℕ). (get_or w j false ≡ false) ↔ (j * k % n < suc i * k % n)) (omega arith) (h (suc i) (omega arith) l);
        }

    from : Letters w k n → (i : ℕ) → 1 ≤ i → i ≤ n → (get_or w (i - 1) false ≡ false) ↔ ((i - 1) * k % n < i * k % n)
    from h i p l =
        let e : suc (i - 1) ≡ i = omega arith in
        subst (λ (j : ℕ). (get_or w (i - 1) false ≡ false) ↔ ((i - 1) * k % n < j * k % n)) e (h.letter (i - 1) (omega arith))

same-iff : (a : Bool) (x y : ℕ) → (beq (not a) (ltb x y) ≡ true) ↔ ((a ≡ false) ↔ (x < y))
same-iff a x y = (to a (ltb x y) refl, from a (ltb x y) refl)
  where
    to : (a b : Bool) → ltb x y ≡ b → beq (not a) b ≡ true → (a ≡ false) ↔ (x < y)
    to false true e h = (λ p. ltb-true x y e, λ l. refl)
    to false false e h = no_false h
    to true true e h = no_false h
    to true false e h = (λ p. no_false (sym p), λ l. absurd (omega (arith, ltb-false x y e)))

    from : (a b : Bool) → ltb x y ≡ b → (a ≡ false) ↔ (x < y) → beq (not a) b ≡ true
    from false true e h = refl
    from false false e h = absurd (omega (arith, ltb-false x y e, h.0 refl))
    from true true e h = no_false (sym (h.1 (ltb-true x y e)))
    from true false e h = refl

pub remainders-iff : (w : Word) (k n : ℕ) → (remainders w k n ≡ true) ↔ Remainders w k n
unfolding remainders
remainders-iff w k n = (λ h. (remainders-letters w k n).1 (to h), λ h. from ((remainders-letters w k n).0 h))
  where
    test : ℕ → Bool
    test i = beq (not (get_or w i false)) (ltb (i * k % n) (suc i * k % n))

    to : every test n ≡ true → Letters w k n
    to h = record { letter = λ i l. (same-iff (get_or w i false) (i * k % n) (suc i * k % n)).0 (every-at test n h i l) }

    from : Letters w k n → every test n ≡ true
    from h = every_of test n (λ i l. (same-iff (get_or w i false) (i * k % n) (suc i * k % n)).1 (h.letter i l))

pub christoffel-iff : (w : Word) → (christoffel w ≡ true) ↔ Christoffel w
unfolding christoffel
christoffel-iff [] = (λ h. no_false h, from)
  where
    from : Christoffel [] → false ≡ true
    from (longer l c r) = absurd (omega arith)
christoffel-iff (a ∷ []) = (λ h. single a, λ h. refl)
christoffel-iff (a ∷ b ∷ w) = (to, from)
  where
    v : Word
    v = a ∷ b ∷ w

    k : ℕ
    k = laters v

    n : ℕ
    n = length v

    to : (coprime k n && remainders v k n) ≡ true → Christoffel v
    to h =
        longer
        {w = v}
        (omega arith)
        ((coprime-iff k n (omega arith)).0 (and_left (coprime k n) (remainders v k n) h))
        ((remainders-iff v k n).0 (and_right (coprime k n) (remainders v k n) h))

    from : Christoffel (a ∷ b ∷ w) → (coprime k n && remainders v k n) ≡ true
    from (longer l c r) = rw ((coprime-iff k n (omega arith)).1 c, (remainders-iff v k n).1 r)

-- The later letters of each prefix are counted by the floor
pub record Floors (w : Word) : Type 0 where
  pub above_zero : 0 < length w
  pub coprime : Coprime (laters w) (length w)
  pub count : (i : ℕ) → i ≤ length w → laters (take i w) ≡ i * laters w / length w

-- If k is coprime to n and at most n, it lies strictly between 0 and n
pub coprime-pos : (k n : ℕ) → 1 < n → Coprime k n → 0 < k
unfolding Coprime
coprime-pos zero n l c = absurd (omega (arith, c n 0 1 (mul-zero n) (mul-one n)))
coprime-pos (suc k) n l c = omega arith

pub coprime-lt : (k n : ℕ) → 1 < n → k ≤ n → Coprime k n → k < n
unfolding Coprime
coprime-lt k n l h c =
    elim (dec_lt k n) [ yes s ↦ s | no s ↦ let e : n ≡ k = omega arith in absurd (omega (arith, c n 1 1 (mul-one n ∙ e) (mul-one n))) ]

-- If remainders are below n, order of numbers implies order of quotients
quotient_le : (q r p s n : ℕ) → r + q * n ≤ s + p * n → s < n → q ≤ p
quotient_le q r p s n e l =
    elim (dec_le q p) [ yes h ↦ h | no h ↦ absurd (omega (arith, mul-le-mul_right {m = suc p} {n = q} n (omega arith))) ]

-- One step of k modulo n: the floor stays exactly if the remainder grows, and otherwise grows by one
module _ (k n x : ℕ) (pos : 0 < k) (small : k < n) where
  step : x % n + x / n * n + k ≡ (x + k) % n + (x + k) / n * n
  step = omega (arith, mod-add-div' x n, mod-add-div' (x + k) n)

  pub floor-stays : x % n < (x + k) % n → (x + k) / n ≡ x / n
  floor-stays l =
      let e = step in
      let m = mod-lt (x + k) {m = n} (omega arith) in
      omega (
        arith,
        quotient_le ((x + k) / n) 0 (x / n) k n (omega arith) small,
        quotient_le (x / n) (x % n + k) ((x + k) / n) ((x + k) % n) n (omega arith) m,
      )

  pub floor-grows : (x + k) % n ≤ x % n → (x + k) / n ≡ suc (x / n)
  floor-grows l =
      let e = step in
      let m = mod-lt x {m = n} (omega arith) in
      let up = quotient_le ((x + k) / n) 0 (suc (x / n)) k n (omega arith) small in
      elim (dec_le ((x + k) / n) (x / n)) [
        | yes h ↦ absurd (omega (arith, mul-le-mul_right n h))
        | no h ↦ omega arith
      ]

  pub remainder-grows : (x + k) / n ≡ x / n → x % n < (x + k) % n
  remainder-grows l = omega (arith, rw l at step)

  pub floor-next : (a : Bool) → (a ≡ false) ↔ (x % n < (x + k) % n) → (x + k) / n ≡ x / n + laters (a ∷ [])
  unfolding laters
  floor-next false h = omega (arith, floor-stays (h.0 refl))
  floor-next true h =
      elim (dec_lt (x % n) ((x + k) % n)) [ yes l ↦ no_false (sym (h.1 l)) | no l ↦ omega (arith, floor-grows (omega arith)) ]

-- The letters follow the remainders exactly if the counts of the prefixes follow the floors
floors-of-letters : (w : Word) → 1 < length w → Coprime (laters w) (length w) → Letters w (laters w) (length w) → (i : ℕ) → i ≤ length w →
    laters (take i w) ≡ i * laters w / length w
unfolding laters
floors-of-letters w l c h zero p = rw (zero-mul, zero-div)
floors-of-letters w l c h (suc i) p =
    let k = laters w in
    let n = length w in
    let letter = rw suc-mul at (h.letter i p) in
    let grown = floor-next k n (i * k) (coprime-pos k n l c) (coprime-lt k n l (laters-le-length w) c) (get_or w i false) letter in
    rw (suc-mul, grown, ← floors-of-letters w l c h i (omega arith)) (laters-take-suc i w p)

letters-of-floors : (w : Word) → 1 < length w → Floors w → Letters w (laters w) (length w)
letters-of-floors w l h = record { letter = λ i p. (rw suc-mul (to i p), rw suc-mul (from i p)) }
  where
    k : ℕ
    k = laters w

    n : ℕ
    n = length w

    pos : 0 < k
    pos = coprime-pos k n l h.coprime

    small : k < n
    small = coprime-lt k n l (laters-le-length w) h.coprime

    here : (i : ℕ) → i < n → laters (take i w) ≡ i * k / n
    here i p = h.count i (omega arith)

    next : (i : ℕ) → i < n → laters (take (suc i) w) ≡ (i * k + k) / n
    next i p = rw suc-mul at (h.count (suc i) p)

    to : (i : ℕ) → i < n → get_or w i false ≡ false → i * k % n < (i * k + k) % n
    to i p e = remainder-grows k n (i * k) pos small (omega (arith, here i p, next i p, laters-next-earlier i w p e))

    from : (i : ℕ) → i < n → i * k % n < (i * k + k) % n → get_or w i false ≡ false
    from i p e = letter-earlier i w p (omega (arith, here i p, next i p, floor-stays k n (i * k) pos small e))

coprime-one : (k : ℕ) → Coprime k 1
unfolding Coprime
coprime-one k d a b p q = factor-le d b 1 q (omega arith)

floors-single : (a : Bool) (i : ℕ) → i ≤ 1 → laters (take i (a ∷ [])) ≡ i * laters (a ∷ [])
unfolding laters
floors-single a zero h = rw zero-mul
floors-single a (suc zero) h = rw one-mul
floors-single a (suc (suc i)) h = absurd (omega arith)

floors-of : {w : Word} → Christoffel w → Floors w
floors-of (single a) =
    record { above_zero = omega arith; coprime = coprime-one (laters (a ∷ [])); count = λ i h. rw div-one (floors-single a i h) }
floors-of (longer {w} l c r) =
    record { above_zero = omega arith; coprime = c; count = floors-of-letters w l c ((remainders-letters w (laters w) (length w)).0 r) }

of-floors : (w : Word) → Floors w → Christoffel w
of-floors [] h = absurd (omega (arith, h.above_zero))
of-floors (a ∷ []) h = single a
of-floors (a ∷ b ∷ w) h =
    let v : Word = a ∷ b ∷ w in
    let l : 1 < length v = omega arith in
    longer {w = v} l h.coprime ((remainders-letters v (laters v) (length v)).1 (letters-of-floors v l h))

pub christoffel-floors : (w : Word) → Christoffel w ↔ Floors w
christoffel-floors w = (floors-of, of-floors w)
