-- A bit of `|` is the larger of the two bits, and a power of two has one bit: so a number that is put in is in, and no other comes or goes.
use Prim.Native.Nat.{ℕ, suc, ◌+◌, ◌-◌, ◌*◌, ◌/◌, ◌%◌, ◌^◌, ◌≤◌, ◌<◌, max}
use mathlib.Core.Path.{◌≡◌, refl, ap, ◌∙◌}
use mathlib.Core.Bool.{Bool, true, false, cond, ◌&&◌}
use mathlib.Core.List.{List}
use native.Mathlib.Nat.{div-eq_of_lt, mul-mod_left, pow-suc, one-mul, zero-div}
use native.Mathlib.Decide.{dec_lt, ℕ_discrete}
use native.Mathlib.Omega.{arith}
use lib.ListN.{length, get_or, set, replicate, length-replicate, get_or-replicate, length-set, get_or-eq_default}
use lib.Seq.{get_or-set_same, get_or-set_other}
use lib.Dec.{eqb, ltb, lit<}
use lib.Bits.{bit_or, or_step, or_shr}
use lib.Pow.{pow-lt, pow-add, shl-shr, shl_exact}
use borrow.Author.Tests.{eq-eqb, lt-ltb, le-ltb}
use Rattle.flags.specs.parts.Flags.{flag_count, bit_at, word_of, no_numbers, is_set, with_number}

or-bit : (a b j : ℕ) → bit_at (bit_or a b) j ≡ max (bit_at a j) (bit_at b j)
or-bit a b j = rw (or_shr a b j) (omega (arith, or_step (a / 2 ^ j) (b / 2 ^ j)))

-- Bit b of 2 ^ b is 1, and the others are 0
power-here : (b : ℕ) → bit_at (2 ^ b) b ≡ 1
power-here b = ap (λ (n : ℕ). n % 2) (rw one-mul at (shl-shr 1 b))

higher-bit : (d j : ℕ) → bit_at (2 ^ (suc d + j)) j ≡ 0
higher-bit d j = rw (pow-add 2 (suc d) j, shl-shr (2 ^ suc d) j, pow-suc 2 d, mul-mod_left (2 ^ d) 2)

lower-bit : (b j : ℕ) → b < j → bit_at (2 ^ b) j ≡ 0
lower-bit b j h = rw (div-eq_of_lt (pow-lt h))

power-other : (b j : ℕ) → (j ≡ b → ⊥) → bit_at (2 ^ b) j ≡ 0
power-other b j d =
    elim (dec_lt j b) [
      | yes l ↦
          let e : b ≡ suc (b - suc j) + j = omega arith in
          ap (λ (n : ℕ). bit_at (2 ^ n) j) e ∙ higher-bit (b - suc j) j
      | no l ↦ lower-bit b j (omega arith)
    ]

-- The word of n with its bit set, and the list with that word
abbrev stored : List ℕ → ℕ → ℕ
stored flags n = bit_or (word_of flags n) (2 ^ (n / 2048))

abbrev after : List ℕ → ℕ → List ℕ
after flags n = set flags (n % 2048) (stored flags n)

-- A number above 65,535 is not in the set, and is not put in
module _ (flags : List ℕ) (n : ℕ) (h : flag_count ≤ n) where
  pub above-not-set : false ≡ is_set flags n
  unfolding is_set
  above-not-set = rw (le-ltb n flag_count h)

  pub with-above : flags ≡ with_number flags n
  unfolding with_number
  with-above = rw (le-ltb n flag_count h)

module _ (flags : List ℕ) (n : ℕ) (l : n < flag_count) where
  with-below : with_number flags n ≡ after flags n
  unfolding with_number
  with-below = rw (lt-ltb n flag_count l)

  pub is-set-below : eqb (bit_at (word_of flags n) (n / 2048)) 1 ≡ is_set flags n
  unfolding is_set
  is-set-below = rw (lt-ltb n flag_count l)

  -- The code's one, shifted, keeps within its word of 32 bits
  pub with_shift : set flags (n % 2048) (bit_or (word_of flags n) (1 * 2 ^ (n / 2048) % 2 ^ 32)) ≡ with_number flags n
  with_shift = rw (with-below, shl_exact 1 (n / 2048) 32 (lit< tt) (omega arith), one-mul)

pub with-length : (flags : List ℕ) (n : ℕ) → length (with_number flags n) ≡ length flags
unfolding with_number
with-length flags n = go (ltb n flag_count)
  where
    go : (b : Bool) → length (cond b (after flags n) flags) ≡ length flags
    go true = length-set flags (n % 2048) (stored flags n)
    go false = refl

module _ (flags : List ℕ) (n : ℕ) (e : length flags ≡ 2048) where
  after-bit : (j : ℕ) → bit_at (get_or (after flags n) (n % 2048) 0) j ≡ max (bit_at (word_of flags n) j) (bit_at (2 ^ (n / 2048)) j)
  after-bit j = rw (get_or-set_same flags (n % 2048) (stored flags n) 0 (omega arith)) (or-bit (word_of flags n) (2 ^ (n / 2048)) j)

  pub with-here : n < flag_count → is_set (with_number flags n) n ≡ true
  unfolding is_set
  with-here l =
      rw (with-below flags n l, lt-ltb n flag_count l)
      (eq-eqb (bit_at (get_or (after flags n) (n % 2048) 0) (n / 2048)) 1 (omega (arith, after-bit (n / 2048), power-here (n / 2048))))

  bits-other : (j : ℕ) → (j ≡ n → ⊥) → bit_at (word_of (after flags n) j) (j / 2048) ≡ bit_at (word_of flags j) (j / 2048)
  bits-other j d =
      elim (ℕ_discrete (j % 2048) (n % 2048)) [
        | yes q ↦ rw q (omega (arith, after-bit (j / 2048), power-other (n / 2048) (j / 2048) (omega arith)))
        | no q ↦ rw (get_or-set_other flags (n % 2048) (j % 2048) (stored flags n) 0 q)
      ]

  pub with-other : (j : ℕ) → n < flag_count → (j ≡ n → ⊥) → is_set (with_number flags n) j ≡ is_set flags j
  unfolding is_set
  with-other j l d = rw (with-below flags n l, bits-other j d)

zeros-zero : (n i : ℕ) → get_or (replicate {A = ℕ} n 0) i 0 ≡ 0
zeros-zero n i =
    elim (dec_lt i n) [
      | yes h ↦ get_or-replicate n i 0 0 h
      | no h ↦ get_or-eq_default (replicate {A = ℕ} n 0) 0 (omega (arith, length-replicate {A = ℕ} n 0))
    ]

pub none-length : length no_numbers ≡ 2048
none-length = length-replicate {A = ℕ} 2048 0

pub none-set : (n : ℕ) → is_set no_numbers n ≡ false
unfolding is_set
none-set n = rw (zeros-zero 2048 (n % 2048), zero-div (2 ^ (n / 2048))) (go (ltb n flag_count))
  where
    go : (b : Bool) → b && false ≡ false
    go true = refl
    go false = refl
