-- A Christoffel word is determined by its two counts, since its letters follow from their remainders; a factor with its repeats is
-- determined by its run and its rise, since the number of repeats is their greatest common divisor.
use Prim.Native.Nat.{ℕ, zero, suc, ◌+◌, ◌*◌, ◌/◌, ◌%◌, ◌≤◌, ◌<◌}
use mathlib.Core.Path.{◌≡◌, refl, sym, ap, ◌∙◌}
use mathlib.Core.Logic.{◌↔◌}
use mathlib.Core.Bool.{Bool, true, false, not, false≢true}
use mathlib.Core.List.{List, [], ◌∷◌, ◌++◌, append_assoc}
use native.Mathlib.Decide.{dec_le}
use native.Mathlib.Nat.{zero-add, suc-add, zero-mul, suc-mul, add-mul, mul_left_comm, mod-lt, mod-eq_of_lt, mod-add-mod}
use native.Mathlib.Nat.{add-mul-mod_self_left, mul-add-mod_self_left, mul-lt-mul_of_pos_left, lt_of_mul-lt-mul_left, mul-zero, mul-one}
use native.Mathlib.Nat.{one-mul, mul-add, mul-pos, mul-le-mul_left, le_of_mul-le-mul_left, zero-div, mul-mod_right, mod-add-div, le_dest}
use native.Mathlib.Nat.{mul-div_cancel_left, eq_of_mul-eq-mul_right}
use native.Mathlib.Omega.{arith}
use lib.ListN.{length, take, get_or}
use lib.Seq.{take_all}
use lib.Dec.{ltb, eqb}
use borrow.Author.Tests.{ltb-true, ltb-false, eqb-true, eq-eqb, ne_eqb}
use Rattle.words.specs.Word.{Word, earliers, laters}
use Rattle.words.specs.Lyndon.{Factor, Proper, copies}
use Rattle.words.specs.Christoffel.{Coprime, Christoffel, single, longer}
use Rattle.words.specs.Counted.{listed, counted_letter, christoffel_word, divides_both, common_up_to, common, edge_word, edges_word}
use Rattle.base.proofs.BelowLaws.{and_left, and_right}
use Rattle.words.proofs.Counts.{earliers-laters, earliers-copies, laters-copies, laters-take-suc}
use Rattle.words.proofs.Coprime.{coprime-divides}
use Rattle.words.proofs.Christoffel.{factor-le, Letters, remainders-letters, coprime-pos, coprime-lt, floor-next, christoffel-floors}

-- ---- words given letter by letter

pub length-listed : (f : ℕ → Bool) (n : ℕ) → length (listed f n) ≡ n
unfolding listed
length-listed f zero = refl
length-listed f (suc n) = ap suc (length-listed (λ i. f (suc i)) n)

pub letter-listed : (f : ℕ → Bool) (n i : ℕ) → i < n → get_or (listed f n) i false ≡ f i
unfolding listed
letter-listed f zero i h = absurd (omega arith)
letter-listed f (suc n) zero h = refl
letter-listed f (suc n) (suc i) h = letter-listed (λ j. f (suc j)) n i (omega arith)

-- A word is the list of its letters
pub listed_of : (w : Word) (f : ℕ → Bool) → ((i : ℕ) → i < length w → get_or w i false ≡ f i) → w ≡ listed f (length w)
unfolding listed
listed_of [] f h = refl
listed_of (a ∷ w) f h =
    let e : a ≡ f 0 = h 0 (omega arith) in
    let r : w ≡ listed (λ i. f (suc i)) (length w) = listed_of w (λ i. f (suc i)) (λ i l. h (suc i) (omega arith)) in
    λ i. e i ∷ r i

-- ---- a Christoffel word is determined by its two counts

-- What a remainder says about a letter, and the letter that it determines
pub counted_letter-iff : (k n i : ℕ) → (counted_letter k n i ≡ false) ↔ (i * k % n < suc i * k % n)
unfolding counted_letter
counted_letter-iff k n i = go (ltb (i * k % n) (suc i * k % n)) refl
  where
    go : (t : Bool) → ltb (i * k % n) (suc i * k % n) ≡ t → (not t ≡ false) ↔ (i * k % n < suc i * k % n)
    go true e = (λ p. ltb-true (i * k % n) (suc i * k % n) e, λ l. refl)
    go false e = (λ p. absurd (false≢true (sym p)), λ l. absurd (omega (arith, ltb-false (i * k % n) (suc i * k % n) e)))

same-letter : (a b : Bool) {P : Type 0} → (a ≡ false) ↔ P → (b ≡ false) ↔ P → a ≡ b
same-letter false b h k = sym (k.1 (h.0 refl))
same-letter true false h k = h.1 (k.0 refl)
same-letter true true h k = refl

-- A word of two or more letters is listed by remainders
christoffel_word-longer : (a b : ℕ) → 1 < a + b → christoffel_word a b ≡ listed (counted_letter b (a + b)) (a + b)
unfolding christoffel_word
christoffel_word-longer a b h = rw (ne_eqb (a + b) 1 (λ e. omega arith))

pub christoffel-counted : (w : Word) → Christoffel w → w ≡ christoffel_word (earliers w) (laters w)
unfolding christoffel_word earliers laters
christoffel-counted w (single false) = refl
christoffel-counted w (single true) = refl
christoffel-counted w (longer l c r) =
    let k = laters w in
    let n = length w in
    let e : earliers w + k ≡ n = earliers-laters w in
    let letters = (remainders-letters w k n).0 r in
    listed_of w (counted_letter k n) (λ i h. same-letter _ _ (letters.letter i h) (counted_letter-iff k n i))
    ∙ ap (λ (m : ℕ). listed (counted_letter k m) m) (sym e) ∙ sym (christoffel_word-longer (earliers w) k (omega arith))

-- ---- the word of two coprime counts is a Christoffel word with those counts

-- If two numbers are coprime, each is coprime to their sum
pub coprime-sum : (a b : ℕ) → Coprime a b → Coprime b (a + b)
unfolding Coprime
coprime-sum a b c d x y p q =
    elim (dec_le x y) [
      | yes h ↦ let z = le_dest h in c d z.0 x (omega (arith, ap (λ (m : ℕ). d * m) z.1)) p
      | no h ↦ let m : y ≤ x = omega arith in c d 0 x (omega (arith, mul-zero d, mul-le-mul_left d m)) p
    ]

-- The two counts of a Christoffel word are coprime
pub coprime-counts : (w : Word) → Christoffel w → Coprime (earliers w) (laters w)
unfolding Coprime
coprime-counts w h d x y p q = ((christoffel-floors w).0 h).coprime d y (x + y) q (omega (arith, mul-add d x y, earliers-laters w))

-- Its prefixes are counted by floors, so the whole word has k later letters
module _ (k n : ℕ) (pos : 0 < k) (small : k < n) where
  abbrev made : Word
  made = listed (counted_letter k n) n

  prefix : (i : ℕ) → i ≤ n → laters (take i made) ≡ i * k / n
  unfolding laters
  prefix zero h = rw (zero-mul, zero-div)
  prefix (suc i) h =
      let fits : i < length made = omega (arith, length-listed (counted_letter k n) n) in
      let grown = floor-next k n (i * k) pos small (counted_letter k n i) (rw suc-mul at (counted_letter-iff k n i)) in
      let next = rw (letter-listed (counted_letter k n) n i h) at (laters-take-suc i made fits) in
      rw suc-mul (omega (arith, prefix i (omega arith)))

  made-laters : laters made ≡ k
  made-laters =
      sym (ap laters (take_all n made (omega (arith, length-listed (counted_letter k n) n)))) ∙ prefix n (omega arith)
      ∙ mul-div_cancel_left k (omega arith)

  made-letters : Letters made k n
  made-letters = record { letter = λ i l. rw (letter-listed (counted_letter k n) n i l) (counted_letter-iff k n i) }

pub record IsCounted (w : Word) (a b : ℕ) : Type 0 where
  pub christoffel : Christoffel w
  pub earlier : earliers w ≡ a
  pub later : laters w ≡ b

counted-longer : (a b : ℕ) → 1 < a + b → Coprime a b → IsCounted (christoffel_word a b) a b
counted-longer a b l c =
    let n = a + b in
    let d : Coprime b n = coprime-sum a b c in
    let pos : 0 < b = coprime-pos b n l d in
    let small : b < n = coprime-lt b n l (omega arith) d in
    let w : Word = listed (counted_letter b n) n in
    let long : length w ≡ n = length-listed (counted_letter b n) n in
    let many : laters w ≡ b = made-laters b n pos small in
    rw (christoffel_word-longer a b l)
    (record {
      christoffel =
          longer {w = w} (omega arith) (rw (many, long) d) (rw (many, long) ((remainders-letters w b n).1 (made-letters b n pos small)));
      earlier = omega (arith, earliers-laters w);
      later = many;
    })

pub counted-christoffel : (a b : ℕ) → Coprime a b → IsCounted (christoffel_word a b) a b
unfolding Coprime christoffel_word earliers laters
counted-christoffel zero zero c = absurd (omega (arith, c 2 0 0 refl refl))
counted-christoffel zero (suc zero) c = record { christoffel = single true; earlier = refl; later = refl }
counted-christoffel zero (suc (suc b)) c = counted-longer 0 (suc (suc b)) (omega arith) c
counted-christoffel (suc zero) zero c = record { christoffel = single false; earlier = refl; later = refl }
counted-christoffel (suc zero) (suc b) c = counted-longer 1 (suc b) (omega arith) c
counted-christoffel (suc (suc a)) b c = counted-longer (suc (suc a)) b (omega arith) c

-- ---- the greatest common divisor

divides-both : (a b d x y : ℕ) → d * x ≡ a → d * y ≡ b → divides_both a b d ≡ true
unfolding divides_both
divides-both a b d x y p q = rw (eq-eqb (a % d) 0 (rw (← p) (mul-mod_right d x)), eq-eqb (b % d) 0 (rw (← q) (mul-mod_right d y)))

both-divided : (a b d : ℕ) → divides_both a b d ≡ true → (d * (a / d) ≡ a) × (d * (b / d) ≡ b)
unfolding divides_both
both-divided a b d h =
    let p = eqb-true (a % d) 0 (and_left (eqb (a % d) 0) (eqb (b % d) 0) h) in
    let q = eqb-true (b % d) 0 (and_right (eqb (a % d) 0) (eqb (b % d) 0) h) in
    (omega (arith, mod-add-div a d), omega (arith, mod-add-div b d))

up_to-greatest : (a b n d : ℕ) → d ≤ n → divides_both a b d ≡ true → d ≤ common_up_to a b n
unfolding common_up_to
up_to-greatest a b zero d l h = l
up_to-greatest a b (suc n) d l h = go (divides_both a b (suc n)) refl (λ m. up_to-greatest a b n d m h)
  where
    go : (t : Bool) → divides_both a b (suc n) ≡ t → (d ≤ n → d ≤ common_up_to a b n) → d ≤ elim t [ true ↦ suc n | false ↦ common_up_to a b n ]
    go true e ih = l
    go false e ih =
        elim (dec_le d n) [
          | yes m ↦ ih m
          | no m ↦ absurd (false≢true (sym e ∙ ap (divides_both a b) (let s : suc n ≡ d = omega arith in s) ∙ h))
        ]

up_to-divides : (a b n : ℕ) → 0 < common_up_to a b n → divides_both a b (common_up_to a b n) ≡ true
unfolding common_up_to
up_to-divides a b zero h = absurd (omega arith)
up_to-divides a b (suc n) h = go (divides_both a b (suc n)) refl (up_to-divides a b n) h
  where
    go :
        (t : Bool) → divides_both a b (suc n) ≡ t → (0 < common_up_to a b n → divides_both a b (common_up_to a b n) ≡ true)
        → 0 < elim t [ true ↦ suc n | false ↦ common_up_to a b n ]
        → divides_both a b (elim t [ true ↦ suc n | false ↦ common_up_to a b n ]) ≡ true
    go true e ih l = e
    go false e ih l = ih l

-- It is a common divisor, and no common divisor is larger
pub common-greatest : (a b d x y : ℕ) → 0 < a + b → d * x ≡ a → d * y ≡ b → d ≤ common a b
unfolding common
common-greatest a b d x y some p q =
    up_to-greatest a b (a + b) d (factor-le d (x + y) (a + b) (omega (arith, mul-add d x y)) some) (divides-both a b d x y p q)

pub common-pos : (a b : ℕ) → 0 < a + b → 0 < common a b
common-pos a b some = common-greatest a b 1 a b some (one-mul a) (one-mul b)

common-divides-both : (a b : ℕ) → 0 < common a b → divides_both a b (common a b) ≡ true
unfolding common
common-divides-both a b = up_to-divides a b (a + b)

pub common-divides : (a b : ℕ) → 0 < a + b → (common a b * (a / common a b) ≡ a) × (common a b * (b / common a b) ≡ b)
common-divides a b some = both-divided a b (common a b) (common-divides-both a b (common-pos a b some))

-- Divided by it, two numbers are coprime
pub common-coprime : (a b : ℕ) → 0 < a + b → Coprime (a / common a b) (b / common a b)
unfolding Coprime
common-coprime a b some d x y p q =
    let g = common a b in
    let whole = common-divides a b some in
    let across : g * d * x ≡ a = omega (arith, ap (λ (m : ℕ). g * m) p) in
    let upward : g * d * y ≡ b = omega (arith, ap (λ (m : ℕ). g * m) q) in
    le_of_mul-le-mul_left {k = g} (omega (arith, mul-one g, common-greatest a b (g * d) x y some across upward)) (common-pos a b some)

-- ---- a factor with its repeats is determined by its run and its rise

coprime-zero-right : (e : ℕ) → Coprime e 0 → e ≡ 1
unfolding Coprime
coprime-zero-right zero c = absurd (omega (arith, c 2 0 0 refl refl))
coprime-zero-right (suc e) c = omega (arith, c (suc e) 1 0 (mul-one (suc e)) (mul-zero (suc e)))

coprime-some : (e l : ℕ) → Coprime e l → 0 < e + l
unfolding Coprime
coprime-some zero zero c = absurd (omega (arith, c 2 0 0 refl refl))
coprime-some zero (suc l) c = omega arith
coprime-some (suc e) l c = omega arith

-- A number that divides t·e and t·l divides t if e and l are coprime
divides-times : (g x y t e l : ℕ) → 0 < t → Coprime e l → g * x ≡ t * e → g * y ≡ t * l → g ≤ t
divides-times zero x y t e l pos c p q = omega arith
divides-times (suc g) x y t e zero pos c p q = factor-le (suc g) x t (p ∙ ap (λ (m : ℕ). t * m) (coprime-zero-right e c) ∙ mul-one t) pos
divides-times (suc g) x y t e (suc l) pos c p q =
    let even : y * e ≡ x * suc l =
    eq_of_mul-eq-mul_right (suc g) (omega arith) (y * e) (x * suc l) (omega (arith, ap (λ (m : ℕ). m * e) q, ap (λ (m : ℕ). m * suc l) p))
    in
    go (coprime-divides e (suc l) y x c even).0 (coprime-divides e (suc l) y x c even).1
  where
    go : (u : ℕ) → y ≡ u * suc l → suc g ≤ t
    go u h =
        factor-le (suc g) u t (eq_of_mul-eq-mul_right (suc l) (omega arith) (suc g * u) t (omega (arith, ap (λ (m : ℕ). suc g * m) h))) pos

pub common-times : (t e l : ℕ) → 0 < t → Coprime e l → common (t * e) (t * l) ≡ t
common-times t e l pos c =
    let some : 0 < t * e + t * l = omega (arith, mul-pos pos (coprime-some e l c), mul-add t e l) in
    let d = common-divides (t * e) (t * l) some in
    omega (arith, common-greatest (t * e) (t * l) t e l some refl refl, divides-times _ _ _ t e l pos c d.0 d.1)

pub factor-edge :
    (f : Factor) → Proper f → Christoffel f.word
    → copies f.times f.word ≡ edge_word (f.times * earliers f.word) (f.times * laters f.word)
unfolding edge_word
factor-edge f p c =
    let t = f.times in
    let w = f.word in
    let g : common (t * earliers w) (t * laters w) ≡ t = common-times t (earliers w) (laters w) p.repeated (coprime-counts w c) in
    rw (
      g,
      mul-div_cancel_left (earliers w) p.repeated,
      mul-div_cancel_left (laters w) p.repeated,
    ) (ap (copies t) (christoffel-counted w c))

-- ---- the word of an edge has the edge's run and rise

pub edge-counts : (run rise : ℕ) → 0 < run + rise → (earliers (edge_word run rise) ≡ run) × (laters (edge_word run rise) ≡ rise)
unfolding edge_word
edge-counts run rise some =
    let g = common run rise in
    let made = counted-christoffel (run / g) (rise / g) (common-coprime run rise some) in
    let whole = common-divides run rise some in (
      earliers-copies g (christoffel_word (run / g) (rise / g)) ∙ ap (λ (m : ℕ). g * m) made.earlier ∙ whole.0,
      laters-copies g (christoffel_word (run / g) (rise / g)) ∙ ap (λ (m : ℕ). g * m) made.later ∙ whole.1,
    )

pub edge-length : (run rise : ℕ) → 0 < run + rise → length (edge_word run rise) ≡ run + rise
edge-length run rise some = omega (arith, earliers-laters (edge_word run rise), edge-counts run rise some)

-- ---- an edge can be written in one pass without its divisor, because the remainders of its whole length repeat

listed_same : (f h : ℕ → Bool) (n : ℕ) → ((i : ℕ) → f i ≡ h i) → listed f n ≡ listed h n
listed_same f h n e = λ j. listed (λ i. e i j) n

listed-add : (m n : ℕ) (f : ℕ → Bool) → listed f (m + n) ≡ listed f m ++ listed (λ i. f (m + i)) n
unfolding listed
listed-add zero n f = rw zero-add (listed_same f (λ i. f (0 + i)) n (λ i. rw zero-add))
listed-add (suc m) n f =
    rw suc-add
    (ap (λ (w : Word). f 0 ∷ w)
    (listed-add m n (λ i. f (suc i))
    ∙ ap (λ (w : Word). listed (λ i. f (suc i)) m ++ w) (listed_same (λ i. f (suc (m + i))) (λ i. f (suc m + i)) n (λ i. rw suc-add))))

-- Copies of a word whose letters are periodic
copies-listed : (g n : ℕ) (f : ℕ → Bool) → ((i : ℕ) → f (n + i) ≡ f i) → copies g (listed f n) ≡ listed f (g * n)
unfolding copies listed
copies-listed zero n f again = rw zero-mul
copies-listed (suc g) n f again =
    let e : suc g * n ≡ n + g * n = omega arith in
    rw e
    (ap (λ (w : Word). listed f n ++ w) (copies-listed g n f again ∙ listed_same f (λ i. f (n + i)) (g * n) (λ i. sym (again i)))
    ∙ sym (listed-add n (g * n) f))

mod-scaled : (g x n : ℕ) → 0 < g → 0 < n → g * x % (g * n) ≡ g * (x % n)
mod-scaled g x n pos some =
    let e : g * x ≡ g * (x % n) + g * n * (x / n) = omega (arith, ap (λ (m : ℕ). g * m) (mod-add-div x n)) in
    ap (λ (m : ℕ). m % (g * n)) e ∙ add-mul-mod_self_left (g * (x % n)) (g * n) (x / n)
    ∙ mod-eq_of_lt (mul-lt-mul_of_pos_left (mod-lt x some) pos)

letter-again : (k n i : ℕ) → counted_letter k n (n + i) ≡ counted_letter k n i
unfolding counted_letter
letter-again k n i =
    let here : (n + i) * k % n ≡ i * k % n = rw add-mul (mul-add-mod_self_left n k (i * k)) in
    let e : suc (n + i) * k ≡ n * k + suc i * k = omega arith in
    let next : suc (n + i) * k % n ≡ suc i * k % n = rw e (mul-add-mod_self_left n k (suc i * k)) in
    rw (here, next)

letter-scaled : (g k n i : ℕ) → 0 < g → 0 < n → counted_letter k n i ≡ counted_letter (g * k) (g * n) i
letter-scaled g k n i pos some =
    let here : i * (g * k) % (g * n) ≡ g * (i * k % n) = rw (mul_left_comm i g k) (mod-scaled g (i * k) n pos some) in
    let next : suc i * (g * k) % (g * n) ≡ g * (suc i * k % n) = rw (mul_left_comm (suc i) g k) (mod-scaled g (suc i * k) n pos some) in
    let wide = rw (here, next) at (counted_letter-iff (g * k) (g * n) i) in
    same-letter (counted_letter k n i) (counted_letter (g * k) (g * n) i) (counted_letter-iff k n i)
    (λ e. lt_of_mul-lt-mul_left g (wide.0 e), λ l. wide.1 (mul-lt-mul_of_pos_left l pos))

christoffel_word-rising : (a b : ℕ) → 0 < b → christoffel_word a b ≡ listed (counted_letter b (a + b)) (a + b)
unfolding christoffel_word listed counted_letter
christoffel_word-rising a zero h = absurd (omega arith)
christoffel_word-rising zero (suc zero) h = refl
christoffel_word-rising zero (suc (suc b)) h = christoffel_word-longer 0 (suc (suc b)) (omega arith)
christoffel_word-rising (suc a) (suc b) h = christoffel_word-longer (suc a) (suc b) (omega arith)

copies-rising : (g a b : ℕ) → 0 < g → 0 < b
    → copies g (christoffel_word a b) ≡ listed (counted_letter (g * b) (g * a + g * b)) (g * a + g * b)
copies-rising g a b pos some =
    let n = a + b in
    let e : g * n ≡ g * a + g * b = mul-add g a b in
    ap (copies g) (christoffel_word-rising a b some)
    ∙ copies-listed g n (counted_letter b n) (letter-again b n)
    ∙ listed_same (counted_letter b n) (counted_letter (g * b) (g * n)) (g * n) (λ i. letter-scaled g b n i pos (omega arith))
    ∙ ap (λ (m : ℕ). listed (counted_letter (g * b) m) m) e

pub edge-listed : (run rise : ℕ) → 0 < rise → edge_word run rise ≡ listed (counted_letter rise (run + rise)) (run + rise)
unfolding edge_word
edge-listed run rise pos =
    let g = common run rise in
    let some : 0 < run + rise = omega arith in
    let whole = common-divides run rise some in
    copies-rising g (run / g) (rise / g) (common-pos run rise some) (factor-pos g (rise / g) rise pos whole.1)
    ∙ ap (λ (e : ℕ). listed (counted_letter (g * (rise / g)) (e + g * (rise / g))) (e + g * (rise / g))) whole.0
    ∙ ap (λ (l : ℕ). listed (counted_letter l (run + l)) (run + l)) whole.1
  where
    factor-pos : (g b n : ℕ) → 0 < n → g * b ≡ n → 0 < b
    factor-pos g zero n h e = absurd (omega (arith, mul-zero g))
    factor-pos g (suc b) n h e = omega arith

-- ---- one more letter, and one more list

pub listed_next : (n : ℕ) (f : ℕ → Bool) → listed f (suc n) ≡ listed f n ++ (f n ∷ [])
unfolding listed
listed_next zero f = refl
listed_next (suc n) f = ap (λ (w : Word). f 0 ∷ w) (listed_next n (λ i. f (suc i)))

-- The remainder of letter i + 1 from that of letter i
pub remainder-next : (k n i : ℕ) → (i * k % n + k) % n ≡ suc i * k % n
remainder-next k n i = rw suc-mul (mod-add-mod (i * k) n k)

pub edges_word-append : (es fs : List (ℕ × ℕ)) → edges_word (es ++ fs) ≡ edges_word es ++ edges_word fs
unfolding edges_word
edges_word-append [] fs = refl
edges_word-append (e ∷ es) fs =
    ap (λ (w : Word). edge_word e.0 e.1 ++ w) (edges_word-append es fs)
    ∙ sym (append_assoc (edge_word e.0 e.1) (edges_word es) (edges_word fs))
