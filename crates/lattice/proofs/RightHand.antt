-- All cells to the right of a walk have the same ups minus downs, since at each corner they
-- are the same cell or joined across sides that no letter uses.
-- The walk passes refusals 1 to 6. To the left of a letter the number is one less,
-- and left of the lowest corner of the first column it is 0.
use Prim.Native.Nat.{ℕ, zero, suc, ◌+◌, ◌-◌, ◌%◌, ◌≤◌, ◌<◌}
use mathlib.Core.Path.{◌≡◌, refl, sym, ap, ◌∙◌, subst}
use mathlib.Core.Bool.{Bool, false}
use mathlib.Core.Logic.{◌⊎◌, inl, inr, ◌≢◌}
use mathlib.Core.List.{◌++◌}
use native.Mathlib.Decide.{dec_le, ℕ_discrete}
use native.Mathlib.Omega.{arith}
use lib.ListN.{take, drop, take-append-drop}
use borrow.Author.Tests.{eqb-false}
use Rattle.base.proofs.BelowLaws.{below-four}
use Rattle.chart.specs.declared.Point.{Point}
use Rattle.chart.specs.Outline.{Outline, at}
use Rattle.lattice.specs.Chart.{step, leaves, walk, corner_at, size, Closed, letter_at, rotated, opposite}
use Rattle.lattice.specs.Enclosed.{ups, downs, encloses}
use Rattle.lattice.specs.Walked.{Walked, NeverLeaves}
use Rattle.lattice.proofs.WalkLaws.{point-eq, step_right, step-up, step_left, step_down, corner-zero, corner-suc, corner-all}
use Rattle.lattice.proofs.WalkLaws.{corner-injective, walk-append}
use Rattle.lattice.proofs.Jumps.{tally, rises, falls, tally-append, ups_to, downs_to, letters_at, ups_at, downs_at, rights_at, lefts_at}
use Rattle.lattice.proofs.Jumps.{ups-to, downs-to, ups-jump-vertical, downs-jump-vertical, ups-column-zero, downs-column-zero}
use Rattle.lattice.proofs.Jumps.{jump-horizontal, letters-none, letters-one, ups-at-letters, ups-found, downs-found, rights-found}
use Rattle.lattice.proofs.Jumps.{lefts-found, next, arrival-injective, no_return}

-- The four cells around a corner, anticlockwise: cell k lies between the sides along which letters k and k + 1 leave. So it is to the
-- left of letter k and to the right of letter k + 1
unfoldable pub left_of : Point → ℕ → Point
left_of p zero = at (suc p.col) (suc p.row)
left_of p (suc zero) = at p.col (suc p.row)
left_of p (suc (suc zero)) = p
left_of p (suc (suc (suc zero))) = at (suc p.col) p.row
left_of p (suc (suc (suc (suc a)))) = p

unfoldable pub right_of : Point → ℕ → Point
right_of p zero = left_of p 3
right_of p (suc a) = left_of p a

abbrev pub quarter_turn : ℕ → ℕ
quarter_turn a = (a + 1) % 4

-- The opposite of a letter is two quarter turns away
opposite-sum : (a : ℕ) → a < 4 → opposite a ≡ (a + 2) % 4
unfolding opposite
opposite-sum = below-four (λ a. opposite a ≡ (a + 2) % 4) refl refl refl refl

right-of-turn : (p : Point) (a : ℕ) → a < 4 → (b : ℕ) → b ≡ quarter_turn a → right_of p b ≡ left_of p a
unfolding right_of left_of
right-of-turn p a l b e = ap (right_of p) e ∙ below-four (λ a. right_of p (quarter_turn a) ≡ left_of p a) refl refl refl refl a l

-- The cell to the right of a letter, named from the corner where the letter arrives
right-arriving : (p : Point) (a : ℕ) → a < 4 → leaves p a ≡ false → right_of p a ≡ left_of (step p a) (opposite a)
unfolding right_of left_of leaves step opposite
right-arriving p =
    below-four (λ a. leaves p a ≡ false → right_of p a ≡ left_of (step p a) (opposite a))
    (λ e. point-eq (at (suc p.col) p.row) (at (p.col + 1) p.row) (omega arith) refl)
    (λ e. point-eq (at (suc p.col) (suc p.row)) (at (suc p.col) (p.row + 1)) refl (omega arith))
    (λ e. let h = eqb-false p.col 0 e in point-eq (at p.col (suc p.row)) (at (suc (p.col - 1)) (suc p.row)) (omega arith) refl)
    (λ e. let h = eqb-false p.row 0 e in point-eq p (at p.col (suc (p.row - 1))) refl (omega arith))

-- A letter and its opposite lead back
pub step_back : (p : Point) (a : ℕ) → a < 4 → leaves p a ≡ false → step (step p a) (opposite a) ≡ p
unfolding leaves step opposite
step_back p =
    below-four (λ a. leaves p a ≡ false → step (step p a) (opposite a) ≡ p)
    (λ e. point-eq (at (p.col + 1 - 1) p.row) p (omega arith) refl)
    (λ e. point-eq (at p.col (p.row + 1 - 1)) p refl (omega arith))
    (λ e. let h = eqb-false p.col 0 e in point-eq (at (p.col - 1 + 1) p.row) p (omega arith) refl)
    (λ e. let h = eqb-false p.row 0 e in point-eq (at p.col (p.row - 1 + 1)) p refl (omega arith))

-- The cell in the corner of a left turn after the letter a, which leaves p: it would be
-- to the right of the next letter if the walk went straight on
unfoldable pub corner_of : Point → ℕ → Point
corner_of p a = right_of (step p a) a

-- The number of letters that arrive at q along the side by which letter k would leave it
rights_into : Outline → ℕ → ℕ → ℕ
rights_into o zero y = 0
rights_into o (suc x) y = rights_at o x y

backs : Outline → Point → ℕ → ℕ
backs o q zero = lefts_at o q.col q.row
backs o q (suc zero) = downs_at o q.col (suc q.row)
backs o q (suc (suc zero)) = rights_into o q.col q.row
backs o q (suc (suc (suc zero))) = ups_at o q.col q.row
backs o q (suc (suc (suc (suc a)))) = 0

-- Two cells have the same level if their ups minus downs are equal; one cell is one level above another
abbrev pub SameLevel : Outline → Point → Point → Type 0
SameLevel o p q = ups_to o p.col p.row + downs_to o q.col q.row ≡ downs_to o p.col p.row + ups_to o q.col q.row

abbrev pub OneAbove : Outline → Point → Point → Type 0
OneAbove o p q = ups_to o p.col p.row + downs_to o q.col q.row ≡ downs_to o p.col p.row + ups_to o q.col q.row + 1

module _ (o : Outline) (h : NeverLeaves o) (c : Closed o) where
  -- Across the side by which letter k leaves the corner q
  abbrev Jump : Point → ℕ → Type 0
  Jump q k =
      ups_to o (right_of q k).col (right_of q k).row + downs_to o (left_of q k).col (left_of q k).row + backs o q k
      ≡ downs_to o (right_of q k).col (right_of q k).row + ups_to o (left_of q k).col (left_of q k).row + letters_at o k q

  jump-left : (x y : ℕ) → Jump (at x y) 2
  unfolding right_of left_of backs rights_into lefts_at leaves
  jump-left zero y =
      let e : letters_at o 2 (at 0 y) ≡ 0 = letters-none o 2 (at 0 y) (λ i l e d. off i (h i l) e d) in
      omega (arith, ups-column-zero o y, ups-column-zero o (suc y), downs-column-zero o y, downs-column-zero o (suc y))
    where
      off : (i : ℕ) → leaves (corner_at o i) (letter_at o i) ≡ false → letter_at o i ≡ 2 → corner_at o i ≡ at 0 y → ⊥
      off i f e d = let g : leaves (at 0 y) 2 ≡ false = rw (e, d) at f in let z : ◌≡◌ {A = ℕ} 0 1 = cc in omega arith
  jump-left (suc x) y = omega (arith, jump-horizontal o h c x y)

  jump : (q : Point) (k : ℕ) → k < 4 → Jump q k
  unfolding right_of left_of backs rights_at downs_at
  jump q =
      below-four (Jump q)
      (omega (arith, jump-horizontal o h c q.col q.row))
      (omega (
        arith,
        ups-jump-vertical o q.col (suc q.row),
        downs-jump-vertical o q.col (suc q.row),
        ups-at-letters o q.col q.row,
      ))
      (jump-left q.col q.row)
      (omega (arith, ups-jump-vertical o q.col q.row, downs-jump-vertical o q.col q.row))

-- A letter that arrives at q along the side by which letter k would leave it
record Back (o : Outline) (q : Point) (k i : ℕ) : Type 0 where
  below : i < size o
  letter : letter_at o i ≡ opposite k
  leaving : corner_at o i ≡ step q k
  arriving : corner_at o (suc i) ≡ q

module _ (o : Outline) where
  back : (q : Point) (k i a : ℕ) (p : Point)
      → i < size o → letter_at o i ≡ a → corner_at o i ≡ p → a ≡ opposite k → p ≡ step q k → step p a ≡ q → Back o q k i
  back q k i a p l e d f g r =
      record {
        below = l;
        letter = e ∙ f;
        leaving = d ∙ g;
        arriving = corner-suc o i l ∙ (λ z. step (d z) (e z)) ∙ r;
      }

  back-right : (x y : ℕ) → 1 ≤ rights_into o x y → (i : ℕ) × Back o (at x y) 2 i
  unfolding rights_into opposite
  back-right zero y b = absurd (omega arith)
  back-right (suc x) y b =
      let (i, l, e, d) = rights-found o x y b in (i, back (at (suc x) y) 2 i 0 (at x y) l e d refl (sym (step_left x y)) (step_right x y))

  back_found : (q : Point) (k : ℕ) → k < 4 → 1 ≤ backs o q k → (i : ℕ) × Back o q k i
  unfolding backs step opposite
  back_found q =
      below-four (λ k. 1 ≤ backs o q k → (i : ℕ) × Back o q k i)
      (λ b.
      let (i, l, e, d) = lefts-found o q.col q.row b in
      (i, back q 0 i 2 (at (suc q.col) q.row) l e d refl (sym (step_right q.col q.row)) (step_left q.col q.row)))
      (λ b.
      let (i, l, e, d) = downs-found o q.col (suc q.row) b in
      (i, back q 1 i 3 (at q.col (suc q.row)) l e d refl (sym (step-up q.col q.row)) (step_down q.col q.row)))
      (back-right q.col q.row)
      (λ b.
      let (i, l, e, d, m) = ups-found o q.col q.row b in
      (i, back q 3 i 1 (at q.col (q.row - 1)) l e d refl refl (point-eq (at q.col (q.row - 1 + 1)) q refl (omega arith))))

module _ (o : Outline) (t : Walked o) where
  abbrev corner : ℕ → Point
  corner i = corner_at o i

  abbrev letter : ℕ → ℕ
  letter i = letter_at o i

  -- The letter at place i arrives at the corner that the letter at place j leaves: no letter uses the other two sides there
  module _ (i j : ℕ) (l : i < size o) (m : j < size o) (e : corner_at o (suc i) ≡ corner_at o j) where
    back-other : (k : ℕ) → k < 4 → k ≢ opposite (letter i) → backs o (corner j) k ≡ 0
    back-other k b n =
        elim (dec_le 1 (backs o (corner j) k)) [
          | yes a ↦
              let (i', r) = back_found o (corner j) k b a in
              let same : i' ≡ i = arrival-injective o t i' i r.below l (r.arriving ∙ sym e) in
              let f : letter i ≡ opposite k = ap letter (sym same) ∙ r.letter in
              absurd (omega (arith, opposite-sum k b, opposite-sum (letter i) (t.letter i l)))
          | no a ↦ omega arith
        ]

    letter-other : (k : ℕ) → k ≢ letter j → letters_at o k (corner j) ≡ 0
    letter-other k n =
        letters-none o k (corner j) (λ j' l' f d.
        n (sym f ∙ ap letter (corner-injective o t j' j l' m d)))

    across : (k : ℕ) → k < 4 → k ≢ letter j → k ≢ opposite (letter i) → SameLevel o (right_of (corner j) k) (left_of (corner j) k)
    across k b n m' = omega (arith, jump o t.stays t.closed (corner j) k b, back-other k b m', letter-other k n)

    -- No letter is the opposite of the one before it
    pub no-back : letter_at o j ≢ opposite (letter_at o i)
    no-back f =
        no_return o t i j l m e
        (corner-suc o j m
        ∙ ap (step (corner j)) f
        ∙ ap (λ (q : Point). step q (opposite (letter i))) (sym e ∙ corner-suc o i l)
        ∙ step_back (corner i) (letter i) (t.letter i l) (t.stays i l))

    -- The cells to the right of the two letters are the same, or are two or three cells around the corner with no used side between them
    right-seen : right_of (corner i) (letter i) ≡ left_of (corner j) (opposite (letter i))
    right-seen =
        right-arriving (corner i) (letter i) (t.letter i l) (t.stays i l)
        ∙ ap (λ (q : Point). left_of q (opposite (letter i))) (sym (corner-suc o i l) ∙ e)

    across-turn : (k : ℕ) → k < 4 → quarter_turn k ≢ letter j → quarter_turn k ≢ opposite (letter i)
        → SameLevel o (left_of (corner j) k) (left_of (corner j) (quarter_turn k))
    across-turn k b n m' = rw (right-of-turn (corner j) k b (quarter_turn k) refl) at (across (quarter_turn k) (omega arith) n m')

    straight : letter i ≢ quarter_turn (letter j) → SameLevel o (right_of (corner i) (letter i)) (right_of (corner j) (letter i))
    straight n =
        let behind = opposite (letter i) in
        let a : letter i < 4 = t.letter i l in
        let b : letter j < 4 = t.letter j m in
        let s = opposite-sum (letter i) a in
        rw (right-seen, right-of-turn (corner j) (quarter_turn behind) (omega arith) (letter i) (omega arith))
        (across-turn behind (omega arith) (omega arith) (omega arith))

    right-hand-next : SameLevel o (right_of (corner i) (letter i)) (right_of (corner j) (letter j))
    right-hand-next =
        let behind = opposite (letter i) in
        let a : letter i < 4 = t.letter i l in
        let b : letter j < 4 = t.letter j m in
        let s = opposite-sum (letter i) a in
        elim (ℕ_discrete (letter j) (quarter_turn behind)) [
          | yes f ↦ rw (right-seen, right-of-turn (corner j) behind (omega arith) (letter j) f) (omega arith)
          | no f ↦
              let ahead = straight (omega arith) in
              elim (ℕ_discrete (letter j) (letter i)) [
                | yes g ↦ rw g ahead
                | no g ↦
                    let b' = no-back in
                    let beside = across-turn (quarter_turn behind) (omega arith) (omega arith) (omega arith) in
                    rw (right-of-turn (corner j) (quarter_turn (quarter_turn behind)) (omega arith) (letter j) (omega arith))
                    (omega (arith, rw (right-of-turn (corner j) (quarter_turn behind) (omega arith) (letter i) (omega arith)) at ahead))
              ]
        ]

  from_start : (i : ℕ) → i < size o → SameLevel o (right_of (corner 0) (letter 0)) (right_of (corner i) (letter i))
  from_start zero l = omega arith
  from_start (suc i) l = omega (arith, from_start i (omega arith), right-hand-next i (suc i) (omega arith) l refl)

  -- All cells to the right of the walk have one level
  pub right-hand : (i j : ℕ) → i < size o → j < size o
      → SameLevel o (right_of (corner_at o i) (letter_at o i)) (right_of (corner_at o j) (letter_at o j))
  right-hand i j l m = omega (arith, from_start i l, from_start j m)

  -- The cell to the right of a letter is one level above the cell to its left
  pub left-hand : (i : ℕ) → i < size o → OneAbove o (right_of (corner_at o i) (letter_at o i)) (left_of (corner_at o i) (letter_at o i))
  left-hand i l =
      omega (arith, jump o t.stays t.closed (corner i) (letter i) (t.letter i l), letters-one o t i l, alone)
    where
      alone : backs o (corner i) (letter i) ≡ 0
      alone =
          elim (dec_le 1 (backs o (corner i) (letter i))) [
            | yes a ↦
                let (j, r) = back_found o (corner i) (letter i) (t.letter i l) a in
                absurd (no_return o t i j l r.below (corner-suc o i l ∙ sym r.leaving) r.arriving)
            | no a ↦ omega arith
          ]

  -- The cell in the corner of a left turn has that level too. Place j comes after place i, cyclically
  pub left-turn :
      (i j : ℕ) → i < size o → j < size o → corner_at o (suc i) ≡ corner_at o j → letter_at o j ≡ quarter_turn (letter_at o i)
      → SameLevel o (right_of (corner_at o i) (letter_at o i)) (corner_of (corner_at o i) (letter_at o i))
  unfolding corner_of
  left-turn i j l m e f =
      let a : letter i < 4 = t.letter i l in
      rw (sym (corner-suc o i l) ∙ e) (straight i j l m e (omega arith))

-- A corner of the leftmost column, and the lowest of that column
pub record Lowest (o : Outline) (k : ℕ) : Type 0 where
  pub below : k < size o
  pub least-col : (i : ℕ) → i < size o → (corner_at o k).col ≤ (corner_at o i).col
  pub least-row : (i : ℕ) → i < size o → (corner_at o i).col ≡ (corner_at o k).col → (corner_at o k).row ≤ (corner_at o i).row

module _ (o : Outline) (t : Walked o) where
  -- The place before k, cyclically
  pub place-before : (k : ℕ) → k < size o
      → (j : ℕ) × (j < size o) × (corner_at o (suc j) ≡ corner_at o k) × ((suc j ≡ k) ⊎ (suc j ≡ size o + k))
  place-before zero l =
      let n : suc (size o - 1) ≡ size o = omega arith in (
        size o - 1,
        omega arith,
        ap (corner_at o) n ∙ corner-all o ∙ t.closed ∙ sym (corner-zero o),
        inr (omega arith),
      )
  place-before (suc k) l = (k, omega arith, refl, inl refl)

-- A letter that goes neither left nor down is 0 or 1; one that comes neither from the left nor from below is 2 or 3
leaving-step :
    (p : Point) (a : ℕ) → a < 4 → leaves p a ≡ false → p.col ≤ (step p a).col → ((step p a).col ≡ p.col → p.row ≤ (step p a).row)
    → (a ≡ 0) ⊎ (a ≡ 1)
unfolding leaves step
leaving-step p =
    below-four (λ a. leaves p a ≡ false → p.col ≤ (step p a).col → ((step p a).col ≡ p.col → p.row ≤ (step p a).row) → (a ≡ 0) ⊎ (a ≡ 1))
    (λ e c r. inl refl)
    (λ e c r. inr refl)
    (λ e c r. let h = eqb-false p.col 0 e in absurd (omega arith))
    (λ e c r. let h = eqb-false p.row 0 e in absurd (omega (arith, r refl)))

arriving-step : (p : Point) (a : ℕ) → a < 4 → (step p a).col ≤ p.col → (p.col ≡ (step p a).col → (step p a).row ≤ p.row) → (a ≡ 2) ⊎ (a ≡ 3)
unfolding step
arriving-step p =
    below-four (λ a. (step p a).col ≤ p.col → (p.col ≡ (step p a).col → (step p a).row ≤ p.row) → (a ≡ 2) ⊎ (a ≡ 3))
    (λ c r. absurd (omega arith))
    (λ c r. absurd (omega (arith, r refl)))
    (λ c r. inl refl)
    (λ c r. inr refl)

module _ (o : Outline) (t : Walked o) (k : ℕ) (m : Lowest o k) where
  pub leaving-lowest : (letter_at o k ≡ 0) ⊎ (letter_at o k ≡ 1)
  leaving-lowest =
      let (j, l, e, _) = next o t k m.below in
      let d : corner_at o j ≡ step (corner_at o k) (letter_at o k) = sym e ∙ corner-suc o k m.below in
      leaving-step (corner_at o k) (letter_at o k) (t.letter k m.below) (t.stays k m.below)
      (rw d at (m.least-col j l))
      (rw d at (m.least-row j l))

  arriving : (j : ℕ) → j < size o → corner_at o (suc j) ≡ corner_at o k → (letter_at o j ≡ 2) ⊎ (letter_at o j ≡ 3)
  arriving j l e =
      let d : corner_at o k ≡ step (corner_at o j) (letter_at o j) = sym e ∙ corner-suc o j l in
      arriving-step (corner_at o j) (letter_at o j) (t.letter j l)
      (subst (λ (p : Point). p.col ≤ (corner_at o j).col) d (m.least-col j l))
      (subst (λ (p : Point). (corner_at o j).col ≡ p.col → p.row ≤ (corner_at o j).row) d (m.least-row j l))

  -- The letter before place k, cyclically, is at place j
  pub arriving-up : (j : ℕ) → j < size o → corner_at o (suc j) ≡ corner_at o k → letter_at o k ≡ 1 → letter_at o j ≡ 2
  unfolding opposite
  arriving-up j l e f =
      elim (arriving j l e) [ inl g ↦ g | inr g ↦ absurd (no-back o t j k l m.below e (f ∙ ap opposite (sym g))) ]

  pub arriving-right : (j : ℕ) → j < size o → corner_at o (suc j) ≡ corner_at o k → letter_at o k ≡ 0 → letter_at o j ≡ 3
  unfolding opposite
  arriving-right j l e f =
      elim (arriving j l e) [ inl g ↦ absurd (no-back o t j k l m.below e (f ∙ ap opposite (sym g))) | inr g ↦ g ]

  -- Left of the leftmost column nothing is counted
  ups-left : (C R : ℕ) → C ≤ (corner_at o k).col → ups_to o C R ≡ 0
  ups-left zero R l = ups-column-zero o R
  ups-left (suc C) R l = omega (arith, ups-jump-vertical o C R, ups-left C R (omega arith), none)
    where
      none : ups_at o C R ≡ 0
      none =
          elim (dec_le 1 (ups_at o C R)) [
            | yes a ↦ let (i, b, e, d, _) = ups-found o C R a in absurd (omega (arith, m.least-col i b, ap (λ (p : Point). p.col) d))
            | no a ↦ omega arith
          ]

  downs-left : (C R : ℕ) → C ≤ (corner_at o k).col → downs_to o C R ≡ 0
  downs-left zero R l = downs-column-zero o R
  downs-left (suc C) R l = omega (arith, downs-jump-vertical o C R, downs-left C R (omega arith), none)
    where
      none : downs_at o C R ≡ 0
      none =
          elim (dec_le 1 (downs_at o C R)) [
            | yes a ↦ let (i, b, e, d) = downs-found o C R a in absurd (omega (arith, m.least-col i b, ap (λ (p : Point). p.col) d))
            | no a ↦ omega arith
          ]

  module _ (up : letter_at o k ≡ 1) where
    -- If a walk leaves its lowest corner of the leftmost column upward, the cells to its
    -- right have level 1, and those to its left have level 0
    pub clockwise-right :
        (i : ℕ) → i < size o
        → ups_to o (right_of (corner_at o i) (letter_at o i)).col (right_of (corner_at o i) (letter_at o i)).row
        ≡ downs_to o (right_of (corner_at o i) (letter_at o i)).col (right_of (corner_at o i) (letter_at o i)).row + 1
    unfolding left_of
    clockwise-right i l =
        let p = corner_at o k in
        omega (
          arith,
          right-hand o t i k l m.below,
          subst (λ (a : ℕ). OneAbove o (right_of p (letter_at o k)) (left_of p a)) up (left-hand o t k m.below),
          ups-left p.col (suc p.row) (omega arith),
          downs-left p.col (suc p.row) (omega arith),
        )

    pub clockwise-left :
        (i : ℕ) → i < size o
        → ups_to o (left_of (corner_at o i) (letter_at o i)).col (left_of (corner_at o i) (letter_at o i)).row
        ≡ downs_to o (left_of (corner_at o i) (letter_at o i)).col (left_of (corner_at o i) (letter_at o i)).row
    clockwise-left i l = omega (arith, clockwise-right i l, left-hand o t i l)

    pub clockwise-left-turn :
        (i j : ℕ) → i < size o → j < size o → corner_at o (suc i) ≡ corner_at o j → letter_at o j ≡ quarter_turn (letter_at o i)
        → ups_to o (corner_of (corner_at o i) (letter_at o i)).col (corner_of (corner_at o i) (letter_at o i)).row
        ≡ downs_to o (corner_of (corner_at o i) (letter_at o i)).col (corner_of (corner_at o i) (letter_at o i)).row + 1
    clockwise-left-turn i j l b e f = omega (arith, clockwise-right i l, left-turn o t i j l b e f)

    -- Every cell has level 0 or 1: along a row the level changes only at a vertical side, and
    -- next to such a side it is that of a cell right or left of the walk
    pub level : (C R : ℕ) → (ups_to o C R ≡ downs_to o C R) ⊎ (ups_to o C R ≡ downs_to o C R + 1)
    unfolding right_of left_of
    level zero R = inl (ups-column-zero o R ∙ sym (downs-column-zero o R))
    level (suc C) R =
        elim (dec_le 1 (ups_at o C R)) [
          | yes a ↦
              let (i, b, e, d, c) = ups-found o C R a in
              let cell : right_of (corner_at o i) (letter_at o i) ≡ at (suc C) R = (λ z. right_of (d z) (e z))
              ∙ ap (at (suc C)) (omega arith) in
              inr (rw cell at (clockwise-right i b))
          | no a ↦
              elim (dec_le 1 (downs_at o C R)) [
                | yes a' ↦
                    let (i, b, e, d) = downs-found o C R a' in
                    let cell : left_of (corner_at o i) (letter_at o i) ≡ at (suc C) R = λ z. left_of (d z) (e z) in
                    inl (rw cell at (clockwise-left i b))
                | no a' ↦
                    let u = ups-jump-vertical o C R in
                    let v = downs-jump-vertical o C R in
                    elim (level C R) [ inl f ↦ inl (omega arith) | inr f ↦ inr (omega arith) ]
              ]
        ]

-- Counts over a closed walk do not depend on its start

pub tally-rotation : (f : Point → ℕ → Bool) (o : Outline) (k : ℕ) → Closed o
    → tally f (corner_at o k) (rotated k o).letters ≡ tally f o.start o.letters
unfolding corner_at
tally-rotation f o k c =
    let p = walk o.start (take k o.letters) in
    let around : walk p (drop k o.letters) ≡ o.start = sym (walk-append o.start (take k o.letters) (drop k o.letters))
    ∙ ap (walk o.start) (take-append-drop k o.letters) ∙ c in
    omega (
      arith,
      tally-append f p (drop k o.letters) (take k o.letters),
      ap (λ (q : Point). tally f q (take k o.letters)) around,
      tally-append f o.start (take k o.letters) (drop k o.letters),
      ap (tally f o.start) (take-append-drop k o.letters),
    )

module _ (o : Outline) (k : ℕ) (e : Closed o) (c r : ℕ) where
  pub ups-rotation : ups (corner_at o k) (drop k o.letters ++ take k o.letters) c r ≡ ups o.start o.letters c r
  unfolding ups_to
  ups-rotation = ups-to (corner_at o k) (rotated k o).letters c r ∙ tally-rotation (rises (suc c) (suc r)) o k e
      ∙ sym (ups-to o.start o.letters c r)

  pub downs-rotation : downs (corner_at o k) (drop k o.letters ++ take k o.letters) c r ≡ downs o.start o.letters c r
  unfolding downs_to
  downs-rotation = downs-to (corner_at o k) (rotated k o).letters c r ∙ tally-rotation (falls (suc c) (suc r)) o k e
      ∙ sym (downs-to o.start o.letters c r)

  pub encloses-rotation : encloses (rotated k o) c r ≡ encloses o c r
  unfolding encloses
  encloses-rotation = rw (ups-rotation, downs-rotation)
