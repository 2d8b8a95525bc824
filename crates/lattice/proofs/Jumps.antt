-- Ups minus downs changes by one across a side that the walk uses, and not across others,
-- since a closed walk leaves a set of corners as often as it enters it.
-- Across a vertical side this holds by definition, across a horizontal one by the corners {column up to x, row R}. Each side is used at
-- most once because the corners are distinct.
-- The pair (C, R) stands for the cell (C - 1, R - 1), so C = 0 or R = 0 is off the chart.
use Prim.Native.Nat.{ℕ, zero, suc, ◌+◌, ◌-◌, ◌≤◌, ◌<◌}
use mathlib.Core.Path.{◌≡◌, refl, sym, ap, ◌∙◌, subst}
use mathlib.Core.Bool.{Bool, true, false, ◌&&◌}
use mathlib.Core.Logic.{◌⊎◌, inl, inr}
use mathlib.Core.List.{List, [], ◌∷◌, ◌++◌}
use native.Mathlib.Numerals.{add-one}
use native.Mathlib.Decide.{dec_lt, dec_le}
use native.Mathlib.Omega.{arith}
use lib.ListN.{length, get_or}
use lib.Dec.{ltb, eqb, leb-suc-suc, leb-suc-zero, eqb-suc-suc, eqb-suc-zero}
use borrow.Author.Tests.{eqb-true, eqb-false, lt-ltb, le-ltb, eq-eqb, ne_eqb}
use Rattle.base.proofs.BelowLaws.{and_left, and_right, not-held}
use Rattle.chart.specs.declared.Point.{Point}
use Rattle.chart.specs.Outline.{Outline, outline, at}
use Rattle.chart.specs.Limits.{shortest}
use Rattle.lattice.specs.Chart.{step, leaves, walk, corner_at, size, Closed, letter_at}
use Rattle.lattice.specs.Enclosed.{one_if, up_along, down_along, ups, downs}
use Rattle.lattice.specs.Walked.{Walked, NeverLeaves}
use Rattle.lattice.proofs.WalkLaws.{point-eq, step_right, step-up, step_left, step_down, corner-zero, corner-suc, corner-all}
use Rattle.lattice.proofs.WalkLaws.{corner-injective}

-- The number of letters, starting at p, that pass a test of themselves and of the corner that they leave
unfoldable pub tally : (Point → ℕ → Bool) → Point → List ℕ → ℕ
tally f p [] = 0
tally f p (a ∷ w) = one_if (f p a) + tally f (step p a) w

-- The letter a, leaving p, runs up to row R (down from row R) at a corner column below C
unfoldable pub rises : ℕ → ℕ → Point → ℕ → Bool
rises C R p a = eqb a 1 && eqb (suc p.row) R && ltb p.col C

unfoldable pub falls : ℕ → ℕ → Point → ℕ → Bool
falls C R p a = eqb a 3 && eqb p.row R && ltb p.col C

-- The letter b, leaving p, is the letter a and leaves q
unfoldable pub letter_from : ℕ → Point → Point → ℕ → Bool
letter_from a q p b = eqb b a && eqb p.row q.row && eqb p.col q.col

unfoldable pub ups_to : Outline → ℕ → ℕ → ℕ
ups_to o C R = tally (rises C R) o.start o.letters

unfoldable pub downs_to : Outline → ℕ → ℕ → ℕ
downs_to o C R = tally (falls C R) o.start o.letters

-- The number of letters a that leave the corner q
unfoldable pub letters_at : Outline → ℕ → Point → ℕ
letters_at o a q = tally (letter_from a q) o.start o.letters

-- The letters along one side: the vertical side of column x whose upper end is in row R, the horizontal side from (x, y) to (x + 1, y)
unfoldable pub ups_at : Outline → ℕ → ℕ → ℕ
ups_at o x R = tally (λ p a. eqb a 1 && eqb (suc p.row) R && eqb p.col x) o.start o.letters

unfoldable pub downs_at : Outline → ℕ → ℕ → ℕ
downs_at o x R = letters_at o 3 (at x R)

unfoldable pub rights_at : Outline → ℕ → ℕ → ℕ
rights_at o x y = letters_at o 0 (at x y)

unfoldable pub lefts_at : Outline → ℕ → ℕ → ℕ
lefts_at o x y = letters_at o 2 (at (suc x) y)

-- Laws of tallies, by induction on the letters

pub tally-same : (f g : Point → ℕ → Bool) → ((p : Point) (a : ℕ) → f p a ≡ g p a) → (p : Point) (w : List ℕ) → tally f p w ≡ tally g p w
unfolding tally
tally-same f g h p [] = refl
tally-same f g h p (a ∷ w) = rw (h p a, tally-same f g h (step p a) w)

tally-add :
    (f g h : Point → ℕ → Bool)
    → ((p : Point) (a : ℕ) → one_if (f p a) ≡ one_if (g p a) + one_if (h p a))
    → (p : Point) (w : List ℕ) → tally f p w ≡ tally g p w + tally h p w
unfolding tally
tally-add f g h e p [] = omega arith
tally-add f g h e p (a ∷ w) = omega (arith, e p a, tally-add f g h e (step p a) w)

pub tally-append : (f : Point → ℕ → Bool) (p : Point) (u v : List ℕ) → tally f p (u ++ v) ≡ tally f p u + tally f (walk p u) v
unfolding tally walk
tally-append f p [] v = omega arith
tally-append f p (a ∷ u) v = omega (arith, tally-append f (step p a) u v)

-- If no place passes; if some place passes; if at most one does
pub tally-none : (f : Point → ℕ → Bool) (p : Point) (w : List ℕ)
    → ((i : ℕ) → i < length w → f (corner_at (outline p w) i) (get_or w i 0) ≡ false) → tally f p w ≡ 0
unfolding tally corner_at walk one_if
tally-none f p [] h = refl
tally-none f p (a ∷ w) h = rw (h 0 (omega arith)) (omega (arith, tally-none f (step p a) w (λ i l. h (suc i) (omega arith))))

pub tally-some : (f : Point → ℕ → Bool) (p : Point) (w : List ℕ) (i : ℕ) → i < length w → f (corner_at (outline p w) i) (get_or w i 0) ≡ true
    → 1 ≤ tally f p w
unfolding tally corner_at walk one_if
tally-some f p [] i l e = absurd (omega arith)
tally-some f p (a ∷ w) zero l e = rw e (omega arith)
tally-some f p (a ∷ w) (suc i) l e = omega (arith, tally-some f (step p a) w i (omega arith) e)

pub tally-found : (f : Point → ℕ → Bool) (p : Point) (w : List ℕ) → 1 ≤ tally f p w
    → (i : ℕ) × (i < length w) × (f (corner_at (outline p w) i) (get_or w i 0) ≡ true)
unfolding tally corner_at walk one_if
tally-found f p [] h = absurd (omega arith)
tally-found f p (a ∷ w) h = go (f p a) refl (tally-found f (step p a) w)
  where
    go : (b : Bool) → f p a ≡ b
        → (1 ≤ tally f (step p a) w → (i : ℕ) × (i < length w) × (f (corner_at (outline (step p a) w) i) (get_or w i 0) ≡ true))
        → (i : ℕ) × (i < length (a ∷ w)) × (f (corner_at (outline p (a ∷ w)) i) (get_or (a ∷ w) i 0) ≡ true)
    go true e rest = (0, omega arith, e)
    go false e rest = let (i, l, t) = rest (omega (arith, rw e at h)) in (suc i, omega arith, t)

pub tally-once :
    (f : Point → ℕ → Bool) (p : Point) (w : List ℕ)
    → ((i j : ℕ) → i < j → j < length w → f (corner_at (outline p w) i) (get_or w i 0) ≡ true
    → f (corner_at (outline p w) j) (get_or w j 0) ≡ true → ⊥)
    → tally f p w ≤ 1
unfolding tally corner_at walk one_if
tally-once f p [] h = omega arith
tally-once f p (a ∷ w) h = go (f p a) refl (tally-once f (step p a) w (λ i j l m. h (suc i) (suc j) (omega arith) (omega arith)))
  where
    go : (b : Bool) → f p a ≡ b → tally f (step p a) w ≤ 1 → one_if (f p a) + tally f (step p a) w ≤ 1
    go true e rest = rw e (
        elim (dec_le 1 (tally f (step p a) w)) [
          | yes m ↦ let (i, l, t) = tally-found f (step p a) w m in absurd (h 0 (suc i) (omega arith) (omega arith) e t)
          | no m ↦ omega arith
        ])
    go false e rest = rw e (omega arith)

-- The counts for enclosed cells are these tallies, at the shifted column and row
pub ups-to : (s : Point) (w : List ℕ) (c r : ℕ) → ups s w c r ≡ ups_to (outline s w) (suc c) (suc r)
unfolding ups ups_to tally rises up_along
ups-to s [] c r = refl
ups-to s (a ∷ w) c r = rw (eqb-suc-suc, leb-suc-suc, ups-to (step s a) w c r)

pub downs-to : (s : Point) (w : List ℕ) (c r : ℕ) → downs s w c r ≡ downs_to (outline s w) (suc c) (suc r)
unfolding downs downs_to tally falls down_along
downs-to s [] c r = refl
downs-to s (a ∷ w) c r = rw (leb-suc-suc, downs-to (step s a) w c r)

-- A column below C + 1 is below C or is C
count-below : (c C : ℕ) → one_if (ltb c (suc C)) ≡ one_if (ltb c C) + one_if (eqb c C)
unfolding one_if
count-below c C =
    elim (dec_lt c C) [
      | yes l ↦ rw (lt-ltb c C l, lt-ltb c (suc C) (omega arith), ne_eqb c C (omega arith)) (omega arith)
      | no l ↦
          elim (dec_lt C c) [
            | yes m ↦ rw (le-ltb c C (omega arith), le-ltb c (suc C) (omega arith), ne_eqb c C (omega arith)) (omega arith)
            | no m ↦ rw (le-ltb c C (omega arith), lt-ltb c (suc C) (omega arith), eq-eqb c C (omega arith)) (omega arith)
          ]
    ]

count-split : (b : Bool) (c C : ℕ) → one_if (b && ltb c (suc C)) ≡ one_if (b && ltb c C) + one_if (b && eqb c C)
unfolding one_if
count-split true c C = count-below c C
count-split false c C = omega arith

and-false : (a b : Bool) → b ≡ false → (a && b) ≡ false
and-false true b e = e
and-false false b e = refl

-- A test of three parts
tested : (a k y R : ℕ) (t : Bool) → (eqb a k && eqb y R && t) ≡ true → (a ≡ k) × (y ≡ R) × (t ≡ true)
tested a k y R t e =
    let d = and_left (eqb a k && eqb y R) t e in (
      eqb-true a k (and_left (eqb a k) (eqb y R) d),
      eqb-true y R (and_right (eqb a k) (eqb y R) d),
      and_right (eqb a k && eqb y R) t e,
    )

module _ (o : Outline) where
  -- Across a vertical side
  pub ups-jump-vertical : (C R : ℕ) → ups_to o (suc C) R ≡ ups_to o C R + ups_at o C R
  unfolding ups_to ups_at rises
  ups-jump-vertical C R =
      tally-add (rises (suc C) R) (rises C R) _ (λ p a. count-split (eqb a 1 && eqb (suc p.row) R) p.col C) o.start o.letters

  pub downs-jump-vertical : (C R : ℕ) → downs_to o (suc C) R ≡ downs_to o C R + downs_at o C R
  unfolding downs_to downs_at letters_at letter_from falls
  downs-jump-vertical C R =
      tally-add (falls (suc C) R) (falls C R) _ (λ p a. count-split (eqb a 3 && eqb p.row R) p.col C) o.start o.letters

  -- Off the chart there is nothing to count
  pub ups-column-zero : (R : ℕ) → ups_to o 0 R ≡ 0
  unfolding ups_to rises
  ups-column-zero R =
      tally-none (rises 0 R) o.start o.letters
      (λ i l. and-false (eqb (letter_at o i) 1 && eqb (suc (corner_at o i).row) R) _ (leb-suc-zero (corner_at o i).col))

  pub downs-column-zero : (R : ℕ) → downs_to o 0 R ≡ 0
  unfolding downs_to falls
  downs-column-zero R =
      tally-none (falls 0 R) o.start o.letters
      (λ i l. and-false (eqb (letter_at o i) 3 && eqb (corner_at o i).row R) _ (leb-suc-zero (corner_at o i).col))

  pub ups-row-zero : (C : ℕ) → ups_to o C 0 ≡ 0
  unfolding ups_to rises
  ups-row-zero C =
      tally-none (rises C 0) o.start o.letters
      (λ i l. ap (λ (b : Bool). b && ltb (corner_at o i).col C) (and-false (eqb (letter_at o i) 1) _ (eqb-suc-zero (corner_at o i).row)))

  pub downs-row-zero : NeverLeaves o → (C : ℕ) → downs_to o C 0 ≡ 0
  unfolding downs_to falls leaves
  downs-row-zero h C = tally-none (falls C 0) o.start o.letters (λ i l. not-down (corner_at o i) (letter_at o i) (h i l))
    where
      not-down : (p : Point) (a : ℕ) → leaves p a ≡ false → falls C 0 p a ≡ false
      not-down p a e =
          not-held (falls C 0 p a) λ d.
          let t = tested a 3 p.row 0 (ltb p.col C) d in
          eqb-false p.row 0 (subst (λ (b : ℕ). leaves p b ≡ false) t.0 e) t.1

-- Across a horizontal side

-- The corner is in the band {column up to x, row R}; the letters that enter the band, and those that leave it
in_band : ℕ → ℕ → Point → ℕ
in_band x R p = one_if (eqb p.row R && ltb p.col (suc x))

abbrev enters : Outline → ℕ → ℕ → ℕ
enters o x R = downs_to o (suc x) (suc R) + ups_to o (suc x) R + lefts_at o x R

abbrev exits : Outline → ℕ → ℕ → ℕ
exits o x R = ups_to o (suc x) (suc R) + downs_to o (suc x) R + rights_at o x R

module _ (x R : ℕ) where
  abbrev Passes : Point → ℕ → Type 0
  Passes p a = in_band x R p + enters (outline p (a ∷ [])) x R ≡ in_band x R (step p a) + exits (outline p (a ∷ [])) x R

  band-left : (c r : ℕ) → leaves (at c r) 2 ≡ false → Passes (at c r) 2
  unfolding ups_to downs_to lefts_at rights_at letters_at tally rises falls letter_from leaves step in_band one_if
  band-left zero r h = let z : ◌≡◌ {A = ℕ} 0 1 = cc in absurd (omega arith)
  band-left (suc c) r h =
      let e : suc c - 1 ≡ c = omega arith in rw (e, eqb-suc-suc c x, leb-suc-suc (suc c) x) (omega (arith, count-split (eqb r R) c x))

  band-down : (c r : ℕ) → leaves (at c r) 3 ≡ false → Passes (at c r) 3
  unfolding ups_to downs_to lefts_at rights_at letters_at tally rises falls letter_from leaves step in_band one_if
  band-down c zero h = let z : ◌≡◌ {A = ℕ} 0 1 = cc in absurd (omega arith)
  band-down c (suc r) h = let e : suc r - 1 ≡ r = omega arith in rw (e, eqb-suc-suc r R) (omega arith)

  -- One letter enters the band, leaves it, or does neither
  band-step : (p : Point) (a : ℕ) → leaves p a ≡ false → Passes p a
  unfolding ups_to downs_to lefts_at rights_at letters_at tally rises falls letter_from step in_band one_if
  band-step p zero h = rw (add-one p.col, leb-suc-suc (suc p.col) x) (omega (arith, count-split (eqb p.row R) p.col x))
  band-step p (suc zero) h = rw (add-one p.row, eqb-suc-suc p.row R) (omega arith)
  band-step p (suc (suc zero)) h = band-left p.col p.row h
  band-step p (suc (suc (suc zero))) h = band-down p.col p.row h
  band-step p (suc (suc (suc (suc a)))) h =
      rw (no-letter a 0 (omega arith), no-letter a 1 (omega arith), no-letter a 2 (omega arith), no-letter a 3 (omega arith))
    where
      no-letter : (a k : ℕ) → k < 4 → eqb (suc (suc (suc (suc a)))) k ≡ false
      no-letter a k l = ne_eqb (suc (suc (suc (suc a)))) k (omega arith)

  band-walk : (p : Point) (w : List ℕ) → NeverLeaves (outline p w)
      → in_band x R p + enters (outline p w) x R ≡ in_band x R (walk p w) + exits (outline p w) x R
  unfolding ups_to downs_to lefts_at rights_at letters_at tally walk corner_at
  band-walk p [] h = omega arith
  band-walk p (a ∷ w) h = omega (arith, band-step p a (h 0 (omega arith)), band-walk (step p a) w (λ i l. h (suc i) (omega arith)))

pub jump-horizontal :
    (o : Outline) → NeverLeaves o → Closed o → (x R : ℕ)
    → ups_to o (suc x) (suc R) + downs_to o (suc x) R + rights_at o x R ≡ downs_to o (suc x) (suc R) + ups_to o (suc x) R + lefts_at o x R
jump-horizontal o h c x R = omega (arith, band-walk x R o.start o.letters h, ap (in_band x R) c)

-- Letters that leave one corner: a count of at least 1 gives a place

letter-from : (a : ℕ) (q p : Point) (b : ℕ) → letter_from a q p b ≡ true → (b ≡ a) × (p ≡ q)
unfolding letter_from
letter-from a q p b e =
    let t = tested b a p.row q.row (eqb p.col q.col) e in
    (t.0, point-eq p q (eqb-true p.col q.col t.2) t.1)

from-letter : (a : ℕ) (q p : Point) (b : ℕ) → b ≡ a → p ≡ q → letter_from a q p b ≡ true
unfolding letter_from
from-letter a q p b e d =
    rw (eq-eqb b a e, eq-eqb p.row q.row (ap (λ (x : Point). x.row) d), eq-eqb p.col q.col (ap (λ (x : Point). x.col) d))

module _ (o : Outline) where
  pub letters-found : (a : ℕ) (q : Point) → 1 ≤ letters_at o a q → (i : ℕ) × (i < size o) × (letter_at o i ≡ a) × (corner_at o i ≡ q)
  unfolding letters_at
  letters-found a q h =
      let (i, l, e) = tally-found (letter_from a q) o.start o.letters h in
      let t = letter-from a q (corner_at o i) (letter_at o i) e in
      (i, l, t.0, t.1)

  pub letters-none : (a : ℕ) (q : Point) → ((i : ℕ) → i < size o → letter_at o i ≡ a → corner_at o i ≡ q → ⊥) → letters_at o a q ≡ 0
  letters-none a q h =
      elim (dec_le 1 (letters_at o a q))
      [ yes m ↦ let (i, l, e, d) = letters-found a q m in absurd (h i l e d) | no m ↦ omega arith ]

  pub letters-some : (i : ℕ) → i < size o → 1 ≤ letters_at o (letter_at o i) (corner_at o i)
  unfolding letters_at
  letters-some i l =
      tally-some (letter_from (letter_at o i) (corner_at o i)) o.start o.letters i l
      (from-letter (letter_at o i) (corner_at o i) (corner_at o i) (letter_at o i) refl refl)

  -- An up along a side leaves the side's lower end
  pub ups-at-letters : (x y : ℕ) → ups_at o x (suc y) ≡ letters_at o 1 (at x y)
  unfolding ups_at letters_at letter_from
  ups-at-letters x y = tally-same _ (letter_from 1 (at x y)) (λ p a. rw eqb-suc-suc) o.start o.letters

  pub ups-at-zero : (x : ℕ) → ups_at o x 0 ≡ 0
  ups-at-zero x = omega (arith, ups-jump-vertical o x 0, ups-row-zero o (suc x))

-- A side with a count is used by the letter at some place; a side that no letter uses has count 0

module _ (o : Outline) where
  pub ups-found : (x R : ℕ) → 1 ≤ ups_at o x R → (i : ℕ) × (i < size o) × (letter_at o i ≡ 1) × (corner_at o i ≡ at x (R - 1)) × (0 < R)
  ups-found x zero h = absurd (omega (arith, ups-at-zero o x))
  ups-found x (suc y) h =
      let (i, l, e, d) = letters-found o 1 (at x y) (rw ups-at-letters at h) in (i, l, e, d ∙ ap (at x) (omega arith), omega arith)

  pub downs-found : (x R : ℕ) → 1 ≤ downs_at o x R → (i : ℕ) × (i < size o) × (letter_at o i ≡ 3) × (corner_at o i ≡ at x R)
  unfolding downs_at
  downs-found x R = letters-found o 3 (at x R)

  pub rights-found : (x y : ℕ) → 1 ≤ rights_at o x y → (i : ℕ) × (i < size o) × (letter_at o i ≡ 0) × (corner_at o i ≡ at x y)
  unfolding rights_at
  rights-found x y = letters-found o 0 (at x y)

  pub lefts-found : (x y : ℕ) → 1 ≤ lefts_at o x y → (i : ℕ) × (i < size o) × (letter_at o i ≡ 2) × (corner_at o i ≡ at (suc x) y)
  unfolding lefts_at
  lefts-found x y = letters-found o 2 (at (suc x) y)

  pub ups-none : (x y : ℕ) → ((i : ℕ) → i < size o → letter_at o i ≡ 1 → corner_at o i ≡ at x y → ⊥) → ups_at o x (suc y) ≡ 0
  ups-none x y h = ups-at-letters o x y ∙ letters-none o 1 (at x y) h

  pub rights-none : (x y : ℕ) → ((i : ℕ) → i < size o → letter_at o i ≡ 0 → corner_at o i ≡ at x y → ⊥) → rights_at o x y ≡ 0
  unfolding rights_at
  rights-none x y = letters-none o 0 (at x y)

  pub lefts-none : (x y : ℕ) → ((i : ℕ) → i < size o → letter_at o i ≡ 2 → corner_at o i ≡ at (suc x) y → ⊥) → lefts_at o x y ≡ 0
  unfolding lefts_at
  lefts-none x y = letters-none o 2 (at (suc x) y)

-- Each side is used at most once: two letters along it, in the same direction or in both, would meet a corner twice

module _ (o : Outline) (t : Walked o) where
  -- The place whose letter leaves the corner where letter i arrives: the next place, or the first after the last
  pub next : (i : ℕ) → i < size o → (j : ℕ) × (j < size o) × (corner_at o (suc i) ≡ corner_at o j) × ((suc i ≡ j) ⊎ (suc i ≡ size o + j))
  next i l =
      elim (dec_lt (suc i) (size o)) [
        | yes m ↦ (suc i, m, refl, inl refl)
        | no m ↦ (
          0,
          omega (arith, t.long),
          ap (corner_at o) (omega arith) ∙ corner-all o ∙ t.closed ∙ sym (corner-zero o),
          inr (omega arith),
        )
      ]

  -- Only one letter arrives at a corner
  pub arrival-injective : (i j : ℕ) → i < size o → j < size o → corner_at o (suc i) ≡ corner_at o (suc j) → i ≡ j
  arrival-injective i j l m e =
      let (i', a, p, u) = next i l in
      let (j', b, q, v) = next j m in
      let d : i' ≡ j' = corner-injective o t i' j' a b (sym p ∙ e ∙ q) in
      elim u [
        | inl f ↦ elim v [ inl g ↦ omega arith | inr g ↦ omega arith ]
        | inr f ↦ elim v [ inl g ↦ omega arith | inr g ↦ omega arith ]
      ]

  -- No letter goes back to the corner that the letter before it left
  pub no_return : (i j : ℕ) → i < size o → j < size o → corner_at o (suc i) ≡ corner_at o j → corner_at o (suc j) ≡ corner_at o i → ⊥
  no_return i j l m e f =
      let (i', a, p, u) = next i l in
      let (j', b, q, v) = next j m in
      let c : i' ≡ j = corner-injective o t i' j a m (sym p ∙ e) in
      let d : j' ≡ i = corner-injective o t j' i b l (sym q ∙ f) in
      let n : shortest ≤ size o = t.long in
      elim u [
        | inl f ↦ elim v [ inl g ↦ omega arith | inr g ↦ omega arith ]
        | inr f ↦ elim v [ inl g ↦ omega arith | inr g ↦ omega arith ]
      ]

  pub letters-once : (a : ℕ) (q : Point) → letters_at o a q ≤ 1
  unfolding letters_at
  letters-once a q =
      tally-once (letter_from a q) o.start o.letters (λ i j l m e f.
      t.distinct i j l m ((letter-from a q (corner_at o i) (letter_at o i) e).1 ∙ sym (letter-from a q (corner_at o j) (letter_at o j) f).1))

  -- The letter at place i is the only one of its kind that leaves its corner
  pub letters-one : (i : ℕ) → i < size o → letters_at o (letter_at o i) (corner_at o i) ≡ 1
  letters-one i l = omega (arith, letters-some o i l, letters-once (letter_at o i) (corner_at o i))

  -- A side from p to q is used by at most one letter
  pub side-once : (a b : ℕ) (p q : Point) → step p a ≡ q → step q b ≡ p → letters_at o a p + letters_at o b q ≤ 1
  side-once a b p q e f =
      elim (dec_le 1 (letters_at o a p)) [
        | yes h ↦
            elim (dec_le 1 (letters_at o b q)) [
              | yes k ↦
                  let (i, l, c, d) = letters-found o a p h in
                  let (j, m, c', d') = letters-found o b q k in
                  absurd (no_return i j l m
                  (corner-suc o i l ∙ (λ z. step (d z) (c z)) ∙ e ∙ sym d')
                  (corner-suc o j m ∙ (λ z. step (d' z) (c' z)) ∙ f ∙ sym d))
              | no k ↦ omega (arith, letters-once a p)
            ]
        | no h ↦ omega (arith, letters-once b q)
      ]

  pub vertical-sides-once : (x R : ℕ) → ups_at o x R + downs_at o x R ≤ 1
  unfolding downs_at
  vertical-sides-once x zero = omega (arith, ups-at-zero o x, letters-once 3 (at x 0))
  vertical-sides-once x (suc y) =
      rw (ups-at-letters o x y) (side-once 1 3 (at x y) (at x (suc y)) (step-up x y) (step_down x y))

  pub horizontal-sides-once : (x y : ℕ) → rights_at o x y + lefts_at o x y ≤ 1
  unfolding rights_at lefts_at
  horizontal-sides-once x y = side-once 0 2 (at x y) (at (suc x) y) (step_right x y) (step_left x y)
