-- Laws of sums, differences and products of integers: each becomes an equation of naturals, once the integers are written as differences.
use native.Mathlib.Omega.{arith}
use mathlib.Core.Path.{◌≡◌}
use lib.IntN.{ℤ, neg_ℤ, ◌+ℤ◌, ◌-ℤ◌, ◌*ℤ◌}
use Rattle.base.proofs.Differences.{is-self, is-unique, is-neg, is-add, is-minus, is_mul}

pub times-assoc : (a b c : ℤ) → a *ℤ b *ℤ c ≡ a *ℤ (b *ℤ c)
times-assoc a b c =
    is-unique (is_mul (is_mul (is-self a) (is-self b)) (is-self c)) (is_mul (is-self a) (is_mul (is-self b) (is-self c))) (omega arith)

pub times-left : (a b c : ℤ) → a *ℤ (b *ℤ c) ≡ b *ℤ (a *ℤ c)
times-left a b c =
    is-unique (is_mul (is-self a) (is_mul (is-self b) (is-self c))) (is_mul (is-self b) (is_mul (is-self a) (is-self c))) (omega arith)

pub times-minus : (a b c : ℤ) → a *ℤ (b -ℤ c) ≡ a *ℤ b -ℤ a *ℤ c
times-minus a b c =
    is-unique (is_mul (is-self a) (is-minus (is-self b) (is-self c)))
    (is-minus (is_mul (is-self a) (is-self b)) (is_mul (is-self a) (is-self c)))
    (omega arith)

pub minus-times : (a b c : ℤ) → (a -ℤ b) *ℤ c ≡ a *ℤ c -ℤ b *ℤ c
minus-times a b c =
    is-unique (is_mul (is-minus (is-self a) (is-self b)) (is-self c))
    (is-minus (is_mul (is-self a) (is-self c)) (is_mul (is-self b) (is-self c)))
    (omega arith)

pub times-sum : (e a b c : ℤ) → e *ℤ (a +ℤ b +ℤ c) ≡ e *ℤ a +ℤ e *ℤ b +ℤ e *ℤ c
times-sum e a b c =
    is-unique (is_mul (is-self e) (is-add (is-add (is-self a) (is-self b)) (is-self c)))
    (is-add (is-add (is_mul (is-self e) (is-self a)) (is_mul (is-self e) (is-self b))) (is_mul (is-self e) (is-self c))) (omega arith)

pub sum-minus : (a b c a' b' c' : ℤ) → (a +ℤ b +ℤ c) -ℤ (a' +ℤ b' +ℤ c') ≡ (a -ℤ a') +ℤ (b -ℤ b') +ℤ (c -ℤ c')
sum-minus a b c a' b' c' =
    is-unique (is-minus (is-add (is-add (is-self a) (is-self b)) (is-self c)) (is-add (is-add (is-self a') (is-self b')) (is-self c')))
    (is-add (is-add (is-minus (is-self a) (is-self a')) (is-minus (is-self b) (is-self b'))) (is-minus (is-self c) (is-self c')))
    (omega arith)

-- Two differences with a common part
pub minus-shared-end : (a b c : ℤ) → (a -ℤ c) -ℤ (b -ℤ c) ≡ a -ℤ b
minus-shared-end a b c =
    is-unique (is-minus (is-minus (is-self a) (is-self c)) (is-minus (is-self b) (is-self c))) (is-minus (is-self a) (is-self b))
    (omega arith)

pub minus-shared-start : (a b c : ℤ) → (a -ℤ b) -ℤ (a -ℤ c) ≡ c -ℤ b
minus-shared-start a b c =
    is-unique (is-minus (is-minus (is-self a) (is-self b)) (is-minus (is-self a) (is-self c))) (is-minus (is-self c) (is-self b))
    (omega arith)

-- A step before or after a difference; a difference added back; a difference reversed
pub minus-step : (u d x : ℤ) → (u +ℤ d) -ℤ x ≡ (u -ℤ x) +ℤ d
minus-step u d x =
    is-unique (is-minus (is-add (is-self u) (is-self d)) (is-self x)) (is-add (is-minus (is-self u) (is-self x)) (is-self d)) (omega arith)

pub there_and_back : (x c : ℤ) → x +ℤ (c -ℤ x) ≡ c
there_and_back x c = is-unique (is-add (is-self x) (is-minus (is-self c) (is-self x))) (is-self c) (omega arith)

pub opposite-way : (x u : ℤ) → x -ℤ u ≡ neg_ℤ (u -ℤ x)
opposite-way x u = is-unique (is-minus (is-self x) (is-self u)) (is-neg (is-minus (is-self u) (is-self x))) (omega arith)
