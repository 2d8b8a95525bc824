-- Laws of the tests below a bound, by induction on the bound: the last number passes or fails, and the smaller bound covers the others.
use Prim.Native.Nat.{ℕ, zero, suc, ◌+◌, ◌≤◌, ◌<◌}
use mathlib.Core.Path.{◌≡◌, refl, sym, ◌∙◌}
use mathlib.Core.Bool.{Bool, true, false, true≢false, ◌&&◌, ◌||◌}
use mathlib.Core.Logic.{◌↔◌, ◌⊎◌, inl, inr}
use native.Mathlib.Nat.{eq-or-lt_of_le, le_of_suc-le-suc}
use native.Mathlib.Decide.{dec_lt}
use native.Mathlib.Omega.{arith}
use lib.Dec.{leb, ltb}
use borrow.Author.Tests.{leb-true, le-leb, ltb-true, ltb-false, lt-ltb}
use Rattle.base.specs.Below.{every, further, first, some_below}

-- A number below n + 1 is n or below n
pub below_suc : (i n : ℕ) → i < suc n → (i ≡ n) ⊎ (i < n)
below_suc i n h = eq-or-lt_of_le (le_of_suc-le-suc h)

-- A statement about each of four numbers, such as the letters
pub below-four : (P : ℕ → Type 0) → P 0 → P 1 → P 2 → P 3 → (k : ℕ) → k < 4 → P k
below-four P a b c d zero h = a
below-four P a b c d (suc zero) h = b
below-four P a b c d (suc (suc zero)) h = c
below-four P a b c d (suc (suc (suc zero))) h = d
below-four P a b c d (suc (suc (suc (suc k)))) h = absurd (omega arith)

pub and_left : (a b : Bool) → (a && b) ≡ true → a ≡ true
and_left true b h = refl
and_left false b h = h

pub and_right : (a b : Bool) → (a && b) ≡ true → b ≡ true
and_right true b h = h
and_right false b h = let z : ◌≡◌ {A = ℕ} 0 1 = cc in absurd (omega arith)

-- The test of an interval
pub in-interval : (a b c : ℕ) → ((leb a c && ltb c b) ≡ true) ↔ ((a ≤ c) × (c < b))
in-interval a b c = (
  λ e. (leb-true a c (and_left (leb a c) (ltb c b) e), ltb-true c b (and_right (leb a c) (ltb c b) e)),
  λ h. rw (le-leb a c h.0, lt-ltb c b h.1),
)

pub or-false-iff : (a b : Bool) → ((a || b) ≡ false) ↔ ((a ≡ false) × (b ≡ false))
or-false-iff true b = ((λ h. absurd (true≢false h)), λ h. h.0)
or-false-iff false b = ((λ h. (refl, h)), λ h. h.1)

-- A test that cannot hold fails
pub not-held : (b : Bool) → (b ≡ true → ⊥) → b ≡ false
not-held true h = absurd (h refl)
not-held false h = refl

-- Two tests of the same statement are equal
pub same_test : {P : Type 0} (a b : Bool) → (a ≡ true) ↔ P → (b ≡ true) ↔ P → a ≡ b
same_test true b e f = sym (f.1 (e.0 refl))
same_test false true e f = e.1 (f.0 refl)
same_test false false e f = refl

pub every-at : (f : ℕ → Bool) (n : ℕ) → every f n ≡ true → (i : ℕ) → i < n → f i ≡ true
unfolding every
every-at f zero h i l = absurd (omega arith)
every-at f (suc n) h i l =
    elim (below_suc i n l) [
      | inl e ↦ rw e (and_right (every f n) (f n) h)
      | inr l' ↦ every-at f n (and_left (every f n) (f n) h) i l'
    ]

pub every_of : (f : ℕ → Bool) (n : ℕ) → ((i : ℕ) → i < n → f i ≡ true) → every f n ≡ true
unfolding every
every_of f zero h = refl
every_of f (suc n) h = cc (h n (omega arith), every_of f n (λ i l. h i (omega arith)))

pub every-fails : (f : ℕ → Bool) (n : ℕ) → every f n ≡ false → (i : ℕ) × (i < n) × (f i ≡ false)
unfolding every
every-fails f zero h = let z : ◌≡◌ {A = ℕ} 0 1 = cc in absurd (omega arith)
every-fails f (suc n) h = go (every f n) refl (every-fails f n)
  where
    go : (b : Bool) → every f n ≡ b → (every f n ≡ false → (i : ℕ) × (i < n) × (f i ≡ false)) → (i : ℕ) × (i < suc n) × (f i ≡ false)
    go true e rest = (n, omega arith, cc)
    go false e rest = let r = rest e in (r.0, omega (arith, r.1), r.2)

-- What the first number is; it is unique
record First (f : ℕ → Bool) (n m : ℕ) : Type 0 where
  le : m ≤ n
  found : m < n → f m ≡ true
  before : (i : ℕ) → i < m → f i ≡ false

further-first : (f : ℕ → Bool) (n m : ℕ) → First f n m → (b c : Bool) → ltb m n ≡ b → f n ≡ c → First f (suc n) (further b c m n)
unfolding further
further-first f n m r true c p q =
    let l : m < n = ltb-true m n p in record { le = omega arith; found = λ h. r.found l; before = r.before }
further-first f n m r false true p q =
    let e : m ≡ n = omega (arith, ltb-false m n p) in
    record { le = omega arith; found = λ h. q; before = λ i l. r.before i (omega arith) }
further-first f n m r false false p q =
    let e : m ≡ n = omega (arith, ltb-false m n p) in
    record {
      le = omega arith;
      found = λ h. absurd (omega arith);
      before = λ i l. elim (below_suc i n l) [ inl d ↦ rw d q | inr l' ↦ r.before i (omega arith) ];
    }

first-first : (f : ℕ → Bool) (n : ℕ) → First f n (first f n)
unfolding first
first-first f zero = record { le = omega arith; found = λ h. absurd (omega arith); before = λ i h. absurd (omega arith) }
first-first f (suc n) = further-first f n (first f n) (first-first f n) (ltb (first f n) n) (f n) refl refl

first-unique : (f g : ℕ → Bool) (n a b : ℕ) → ((i : ℕ) → i < n → f i ≡ g i) → First f n a → First g n b → a ≡ b
first-unique f g n a b same r s =
    elim (dec_lt a b) [
      | yes l ↦
          let l' : a < n = omega (arith, s.le) in
          let p = r.found l' in
          let q = s.before a l in
          let d = same a l' in
          let z : ◌≡◌ {A = ℕ} 0 1 = cc in
          absurd (omega arith)
      | no l ↦
          elim (dec_lt b a) [
            | yes m ↦
                let m' : b < n = omega (arith, r.le) in
                let p = s.found m' in
                let q = r.before b m in
                let d = same b m' in
                let z : ◌≡◌ {A = ℕ} 0 1 = cc in
                absurd (omega arith)
            | no m ↦ omega arith
          ]
    ]

pub first-le : (f : ℕ → Bool) (n : ℕ) → first f n ≤ n
first-le f n = (first-first f n).le

pub first_found : (f : ℕ → Bool) (n : ℕ) → first f n < n → f (first f n) ≡ true
first_found f n = (first-first f n).found

pub first-before : (f : ℕ → Bool) (n i : ℕ) → i < first f n → f i ≡ false
first-before f n = (first-first f n).before

-- Tests that agree below n have the same first
pub first-same : (f g : ℕ → Bool) (n : ℕ) → ((i : ℕ) → i < n → f i ≡ g i) → first f n ≡ first g n
first-same f g n same = first-unique f g n (first f n) (first g n) same (first-first f n) (first-first g n)

first-eq : (f : ℕ → Bool) (n m : ℕ) → First f n m → first f n ≡ m
first-eq f n m r = first-unique f f n (first f n) m (λ i l. refl) (first-first f n) r

pub first-none : (f : ℕ → Bool) (n : ℕ) → ((i : ℕ) → i < n → f i ≡ false) → first f n ≡ n
first-none f n h = first-eq f n n (record { le = omega arith; found = λ l. absurd (omega arith); before = h })

pub first-is : (f : ℕ → Bool) (n i : ℕ) → i < n → ((j : ℕ) → j < i → f j ≡ false) → f i ≡ true → first f n ≡ i
first-is f n i l h e = first-eq f n i (record { le = omega arith; found = λ l. e; before = h })

-- A number that passes if it is below n, and before which none does
pub is_first : (f : ℕ → Bool) (n m : ℕ) → m ≤ n → ((i : ℕ) → i < m → f i ≡ false) → (m < n → f m ≡ true) → m ≡ first f n
is_first f n m l h e = sym (first-eq f n m (record { le = l; found = e; before = h }))

-- If the first number is not below i, no number below i passes
pub first-none-at : (f : ℕ → Bool) (i : ℕ) → first f i ≡ i → (j : ℕ) → j < i → f j ≡ false
first-none-at f i e j l = first-before f i j (omega arith)

-- A search loop goes one step further, stops, or has stopped
pub first_step : (f : ℕ → Bool) (i : ℕ) → first f i ≡ i → f i ≡ false → first f (i + 1) ≡ i + 1
first_step f i e q =
    first-none f (i + 1) (λ j l. elim (below_suc j i (omega arith)) [ inl d ↦ rw d q | inr l' ↦ first-none-at f i e j l' ])

pub first-stop : (f : ℕ → Bool) (n i : ℕ) → first f i ≡ i → f i ≡ true → i < n → first f n ≡ i
first-stop f n i e q l = first-is f n i l (first-none-at f i e) q

-- If a number below n passes, then some number passes
pub some_of : (f : ℕ → Bool) (n i : ℕ) → i < n → f i ≡ true → some_below f n ≡ true
unfolding some_below
some_of f n i l e = go (ltb (first f n) n) refl
  where
    go : (b : Bool) → ltb (first f n) n ≡ b → ltb (first f n) n ≡ true
    go true h = h
    go false h = absurd (true≢false (sym e ∙ first-before f n i (omega (arith, ltb-false (first f n) n h))))
