-- What bytes begin with, by how many there are, and by the bytes of the mark and of the header.
use Prim.Native.Nat.{ℕ, ◌+◌, ◌-◌, ◌≤◌, ◌<◌}
use native.Mathlib.Omega.{arith}
use mathlib.Core.Path.{◌≡◌, refl, sym, ap, ◌∙◌}
use mathlib.Core.List.{List, [], ◌∷◌}
use lib.ListN.{length, get_or, take, drop, length-drop, drop_of_length-le}
use lib.Seq.{take-length}
use borrow.Author.Tests.{le-leb, lt-leb, eq-eqb, ne_eqb}
use Rattle.std.specs.Prelude.{None, Ok, Err}
use Rattle.fitting_records.specs.declared.Fault.TheVariants.{WrongMark, Truncated}
use Rattle.fitting_records.specs.Found.{wide, whole, after_mark, marked, found_in}

-- ---- after a mark

pub after-short : (w : List ℕ) → length w < 4 → after_mark w ≡ Err Truncated
unfolding after_mark
after-short [] h = refl
after-short (c ∷ []) h = refl
after-short (c ∷ r ∷ []) h = refl
after-short (c ∷ r ∷ low ∷ []) h = refl
after-short (c ∷ r ∷ low ∷ high ∷ w) h = absurd (omega (arith, h))

-- The count of letters
abbrev pub count_in : List ℕ → ℕ
count_in w = wide (get_or w 2 0) (get_or w 3 0)

pub after-whole : (w : List ℕ) (n : ℕ) → n ≡ count_in w → 4 + n ≤ length w → after_mark w ≡ whole (get_or w 0 0) (get_or w 1 0) n
unfolding after_mark
after-whole [] n e h = absurd (omega (arith, h))
after-whole (c ∷ []) n e h = absurd (omega (arith, h))
after-whole (c ∷ r ∷ []) n e h = absurd (omega (arith, h))
after-whole (c ∷ r ∷ low ∷ []) n e h = absurd (omega (arith, h))
after-whole (c ∷ r ∷ low ∷ high ∷ w) n e h = rw (e, le-leb (wide low high) (length w) (omega (arith, e, h)))

pub after-cut : (w : List ℕ) (n : ℕ) → n ≡ count_in w → length w < 4 + n → after_mark w ≡ Err Truncated
unfolding after_mark
after-cut [] n e h = refl
after-cut (c ∷ []) n e h = refl
after-cut (c ∷ r ∷ []) n e h = refl
after-cut (c ∷ r ∷ low ∷ []) n e h = refl
after-cut (c ∷ r ∷ low ∷ high ∷ w) n e h = rw (lt-leb (wide low high) (length w) (omega (arith, e, h)))

-- ---- the mark

pub found-none : (w : List ℕ) → length w < 1 → found_in w ≡ Ok None
unfolding found_in
found-none [] h = refl
found-none (a ∷ w) h = absurd (omega (arith, h))

pub found-end : (w : List ℕ) (i : ℕ) → length w ≤ i → found_in (drop i w) ≡ Ok None
unfolding found_in
found-end w i h = rw (drop_of_length-le w h)

pub found-lone : (w : List ℕ) → 0 < length w → length w < 2 → found_in w ≡ Err WrongMark
unfolding found_in
found-lone [] h l = absurd (omega (arith, h))
found-lone (a ∷ []) h l = refl
found-lone (a ∷ b ∷ w) h l = absurd (omega (arith, l))

-- The bytes from the third on are all the rest
pub from-third : (w : List ℕ) → take (length w - 2) (drop 2 w) ≡ drop 2 w
from-third w = ap (λ (n : ℕ). take n (drop 2 w)) (sym (length-drop 2 w)) ∙ take-length (drop 2 w)

pub found-marked : (w : List ℕ) → 2 ≤ length w → get_or w 0 0 ≡ 75 → get_or w 1 0 ≡ 79 → found_in w ≡ after_mark (drop 2 w)
unfolding found_in marked
found-marked [] h e d = absurd (omega (arith, h))
found-marked (a ∷ []) h e d = absurd (omega (arith, h))
found-marked (a ∷ b ∷ w) h e d = rw (eq-eqb a 75 e, eq-eqb b 79 d)

pub found-first : (w : List ℕ) → 2 ≤ length w → (get_or w 0 0 ≡ 75 → ⊥) → found_in w ≡ Err WrongMark
unfolding found_in marked
found-first [] h n = absurd (omega (arith, h))
found-first (a ∷ []) h n = absurd (omega (arith, h))
found-first (a ∷ b ∷ w) h n = rw (ne_eqb a 75 n)

pub found-second : (w : List ℕ) → 2 ≤ length w → get_or w 0 0 ≡ 75 → (get_or w 1 0 ≡ 79 → ⊥) → found_in w ≡ Err WrongMark
unfolding found_in marked
found-second [] h e n = absurd (omega (arith, h))
found-second (a ∷ []) h e n = absurd (omega (arith, h))
found-second (a ∷ b ∷ w) h e n = rw (eq-eqb a 75 e, ne_eqb b 79 n)
