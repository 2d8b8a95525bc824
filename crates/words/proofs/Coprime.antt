-- A number that divides a product and is coprime to one factor divides the other: by Euclid's descent to n mod k.
use Prim.Native.Nat.{ℕ, zero, suc, ◌+◌, ◌*◌, ◌/◌, ◌%◌, ◌≤◌, ◌<◌}
use mathlib.Core.Path.{◌≡◌, refl, sym, ap, ◌∙◌}
use native.Mathlib.Nat.{mul-zero, mul-one, mul-add, mul_assoc, mod-add-div, mod-lt, le_dest, le_of_mul-le-mul_right, eq_of_mul-eq-mul_right}
use native.Mathlib.Omega.{arith}
use Rattle.words.specs.Christoffel.{Coprime}

coprime-zero : (n : ℕ) → Coprime 0 n → n ≡ 1
unfolding Coprime
coprime-zero zero c = absurd (omega (arith, c 2 0 0 refl refl))
coprime-zero (suc n) c = omega (arith, c (suc n) 0 1 (mul-zero (suc n)) (mul-one (suc n)))

coprime-mod : (k n : ℕ) → Coprime k n → Coprime (n % k) k
unfolding Coprime
coprime-mod k n c d a b p q =
    let s = n / k in
    c d b (a + b * s) q (mul-add d a (b * s) ∙ ap (λ (x : ℕ). d * a + x) (sym (mul_assoc d b s)) ∙ rw (p, q) (mod-add-div n k))

-- The two equations of the descent
divided-down : (k n i q r s : ℕ) → r + k * s ≡ n → 0 < k → i * k ≡ q * n → (j : ℕ) × (q * r ≡ j * k)
divided-down k n i q r s whole pos e =
    let d = le_dest {n = q * s} {m = i} (le_of_mul-le-mul_right {k = k} (omega (arith, ap (λ (x : ℕ). q * x) whole)) pos) in
    (d.0, rest d.0 d.1)
  where
    rest : (j : ℕ) → q * s + j ≡ i → q * r ≡ j * k
    rest j f = omega (arith, ap (λ (x : ℕ). q * x) whole, ap (λ (x : ℕ). x * k) f)

divided-up : (k n i q t : ℕ) → 0 < k → i * k ≡ q * n → q ≡ t * k → i ≡ t * n
divided-up k n i q t pos e f = eq_of_mul-eq-mul_right k pos i (t * n) (omega (arith, ap (λ (x : ℕ). x * n) f))

-- The descent, by induction on a bound of k
descent : (bound k n i q : ℕ) → k ≤ bound → Coprime k n → i * k ≡ q * n → (t : ℕ) × (i ≡ t * n)
descent zero zero n i q l c e = (i, rw (coprime-zero n c) (omega arith))
descent zero (suc k) n i q l c e = absurd (omega arith)
descent (suc bound) zero n i q l c e = (i, rw (coprime-zero n c) (omega arith))
descent (suc bound) (suc k) n i q l c e =
    let r = n % suc k in
    let less : r ≤ bound = omega (arith, mod-lt n {m = suc k} (omega arith)) in
    let down = divided-down (suc k) n i q r (n / suc k) (mod-add-div n (suc k)) (omega arith) e in
    let up = descent bound r (suc k) q down.0 less (coprime-mod (suc k) n c) down.1 in
    (up.0, divided-up (suc k) n i q up.0 (omega arith) e up.1)

pub coprime-divides : (k n i q : ℕ) → Coprime k n → i * k ≡ q * n → (t : ℕ) × (i ≡ t * n)
coprime-divides k n i q = descent k k n i q (omega arith)

-- A positive number below n, times k, is not a multiple of n
pub coprime-no-multiple : (k n i q : ℕ) → Coprime k n → 0 < i → i < n → i * k ≡ q * n → ⊥
coprime-no-multiple k n i q c pos l e = go (coprime-divides k n i q c e).0 (coprime-divides k n i q c e).1
  where
    go : (t : ℕ) → i ≡ t * n → ⊥
    go zero h = omega arith
    go (suc t) h = omega arith
