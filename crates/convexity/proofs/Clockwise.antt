-- An anticlockwise outline is clockwise backward, since the letter that leaves W backward is the opposite of the one that arrived there.
-- A walk backward has the same corners from last to first, so refusals 1 to 6 and W are the same; and ups become downs.
use Prim.Native.Nat.{ℕ, zero, suc, ◌+◌, ◌-◌, ◌≤◌, ◌<◌}
use native.Mathlib.Decide.{dec_lt}
use native.Mathlib.Numerals.{add-one}
use native.Mathlib.Omega.{arith}
use mathlib.Core.Path.{◌≡◌, refl, sym, ap, ◌∙◌, subst}
use mathlib.Core.Logic.{inl, inr}
use mathlib.Core.Bool.{Bool, true, false, cond, ◌&&◌}
use mathlib.Core.List.{List, [], ◌∷◌, ◌++◌, append-nil, append_assoc}
use lib.ListN.{length, get_or, take, drop, length-append, length-drop, take-append-drop, get_or-append}
use lib.Seq.{get_or_at, take_at, drop_at}
use lib.Dec.{leb, eqb, eqb-suc-suc}
use borrow.Author.Tests.{lt-leb, eqb-false, ne_eqb, eqb-true, eq-eqb}
use Rattle.chart.specs.Limits.{side}
use Rattle.chart.specs.declared.Point.{Point}
use Rattle.chart.specs.Outline.{Outline, outline}
use Rattle.lattice.specs.Chart.{step, leaves, walk, corner_at, size, letter_at, rotated, rotation, Closed}
use Rattle.lattice.specs.Enclosed.{one_if, up_along, down_along, ups, downs, encloses}
use Rattle.lattice.specs.Refusals.{Simple}
use Rattle.lattice.specs.Walked.{Walked, NeverLeaves}
use Rattle.lattice.proofs.WalkLaws.{OnChart, SameCorners, walked, simple-of-walked, walk-append, corner-zero, corner-suc}
use Rattle.lattice.proofs.WalkLaws.{corner-all, corner-injective, letter-rotation-before, outline-eq}
use Rattle.lattice.proofs.Jumps.{tally, tally-append}
use Rattle.lattice.proofs.RightHand.{step_back, Lowest, place-before, leaving-lowest, arriving-up, arriving-right}
use Rattle.convexity.specs.Cut.{west_place, west, from_w, clockwise}
use Rattle.convexity.specs.Clockwise.{opposite, backward, clockwise_form, reversed, border}
use Rattle.convexity.proofs.Levels.{first-lowest, ups-tally, downs-tally}
use Rattle.convexity.proofs.Extreme.{FirstAt, first-at-corner_place, first-shared, on_chart}

-- ---- the opposite of one letter

opposite-lt : (a : ℕ) → opposite a < 4
unfolding opposite
opposite-lt zero = omega arith
opposite-lt (suc zero) = omega arith
opposite-lt (suc (suc zero)) = omega arith
opposite-lt (suc (suc (suc a))) = omega arith

opposite-twice : (a : ℕ) → a < 4 → opposite (opposite a) ≡ a
unfolding opposite
opposite-twice zero l = refl
opposite-twice (suc zero) l = refl
opposite-twice (suc (suc zero)) l = refl
opposite-twice (suc (suc (suc zero))) l = refl
opposite-twice (suc (suc (suc (suc a)))) l = absurd (omega arith)

pub opposite-high : (a : ℕ) → 2 < a → opposite a ≡ 1
unfolding opposite
opposite-high zero l = absurd (omega arith)
opposite-high (suc zero) l = absurd (omega arith)
opposite-high (suc (suc zero)) l = absurd (omega arith)
opposite-high (suc (suc (suc a))) l = refl

stays-back : (p : Point) (a : ℕ) → OnChart p → a < 4 → leaves p a ≡ false → leaves (step p a) (opposite a) ≡ false
unfolding leaves step opposite
stays-back p zero c l e = ne_eqb (p.col + 1) 0 (omega arith)
stays-back p (suc zero) c l e = ne_eqb (p.row + 1) 0 (omega arith)
stays-back p (suc (suc zero)) c l e = lt-leb side (p.col - 1) (omega (arith, c.col, eqb-false p.col 0 e))
stays-back p (suc (suc (suc zero))) c l e = lt-leb side (p.row - 1) (omega (arith, c.row, eqb-false p.row 0 e))
stays-back p (suc (suc (suc (suc a)))) c l e = absurd (omega arith)

-- ---- letters and corners of a walk backward

pub length-backward : (w : List ℕ) → length (backward w) ≡ length w
unfolding backward
length-backward [] = refl
length-backward (a ∷ w) = omega (arith, length-append (backward w) (opposite a ∷ []), length-backward w)

-- Letter i backward is the opposite of the letter that is followed by i letters
pub letter-backward : (w : List ℕ) (i : ℕ) → i < length w → get_or (backward w) i 0 ≡ opposite (get_or w (length w - suc i) 0)
unfolding backward
letter-backward [] i l = absurd (omega arith)
letter-backward (a ∷ w) i l = go (letter-backward w i)
  where
    v : List ℕ
    v = backward w

    go : (i < length w → get_or v i 0 ≡ opposite (get_or w (length w - suc i) 0))
        → get_or (v ++ (opposite a ∷ [])) i 0 ≡ opposite (get_or (a ∷ w) (suc (length w) - suc i) 0)
    go rest =
        elim (dec_lt i (length w)) [
          | yes m ↦
              get_or-append v (opposite a ∷ []) 0 i (omega (arith, length-backward w)) ∙ rest m
              ∙ ap (λ (k : ℕ). opposite (get_or (a ∷ w) k 0)) (later m)
          | no m ↦ get_or_at v (opposite a) [] 0 i (omega (arith, length-backward w)) ∙ ap (λ (k : ℕ). opposite (get_or (a ∷ w) k 0)) (first m)
        ]
      where
        later : i < length w → suc (length w - suc i) ≡ suc (length w) - suc i
        later m = omega arith

        first : (i < length w → ⊥) → 0 ≡ suc (length w) - suc i
        first m = omega arith

module _ (o : Outline) (t : Walked o) where
  corner-round : corner_at o (size o) ≡ o.start
  corner-round = corner-all o ∙ t.closed

  -- After i letters backward the walk is at the corner before the last i letters
  pub corner-backward : (i : ℕ) → i ≤ size o → corner_at (reversed o) i ≡ corner_at o (size o - i)
  corner-backward zero l = corner-zero (reversed o) ∙ sym corner-round ∙ ap (corner_at o) (omega arith)
  corner-backward (suc i) l =
      let m : ℕ = size o - suc i in
      let b : m < size o = omega arith in
      let a : ℕ = letter_at o m in
      let here : corner_at (reversed o) i ≡ step (corner_at o m) a =
      corner-backward i (omega arith) ∙ ap (corner_at o) (omega arith) ∙ corner-suc o m b in
      corner-suc (reversed o) i (omega (arith, length-backward o.letters))
      ∙ (λ z. step (here z) (letter-backward o.letters i l z))
      ∙ step_back (corner_at o m) a (t.letter m b) (t.stays m b)

  -- The corner that letter i leaves backward, in terms of the letter as sent
  leaving-backward : (i : ℕ) → i < size o → corner_at (reversed o) i ≡ step (corner_at o (size o - suc i)) (letter_at o (size o - suc i))
  leaving-backward i l =
      corner-backward i (omega arith) ∙ ap (corner_at o) (omega arith) ∙ corner-suc o (size o - suc i) (omega arith)

  pub walked-backward : Walked (reversed o)
  walked-backward =
      let n : length (backward o.letters) ≡ size o = length-backward o.letters in
      record {
        long = omega (arith, t.long);
        short = omega (arith, t.short);
        letter = λ i l. rw (letter-backward o.letters i (omega arith)) (opposite-lt (letter_at o (size o - suc i)));
        col_le = λ i l. rw (corner-backward i (omega arith)) (t.col_le (size o - i) (omega arith));
        row_le = λ i l. rw (corner-backward i (omega arith)) (t.row_le (size o - i) (omega arith));
        stays = λ i l. stays i (omega arith);
        closed =
            sym (corner-all (reversed o)) ∙ ap (corner_at (reversed o)) n ∙ corner-backward (size o) (omega arith)
            ∙ ap (corner_at o) (omega arith)
            ∙ corner-zero o;
        distinct = λ i j l m. apart i j l (omega arith);
      }
    where
      stays : (i : ℕ) → i < size o → leaves (corner_at (reversed o) i) (get_or (backward o.letters) i 0) ≡ false
      stays i l =
          let m : ℕ = size o - suc i in
          let b : m < size o = omega arith in
          (λ z. leaves (leaving-backward i l z) (letter-backward o.letters i l z))
          ∙ stays-back (corner_at o m) (letter_at o m) (on_chart o t m (omega arith)) (t.letter m b) (t.stays m b)

      apart : (i j : ℕ) → i < j → j < size o → corner_at (reversed o) i ≡ corner_at (reversed o) j → ⊥
      apart zero j l m e =
          t.distinct 0 (size o - j) (omega arith) (omega arith)
          (corner-zero o ∙ sym (corner-zero (reversed o)) ∙ e ∙ corner-backward j (omega arith))
      apart (suc i) j l m e =
          t.distinct (size o - j) (size o - suc i) (omega arith) (omega arith)
          (sym (corner-backward j (omega arith)) ∙ sym e ∙ corner-backward (suc i) (omega arith))

  -- The walk backward leaves the same corners
  pub backward-corners : SameCorners (reversed o) o
  backward-corners = record { there = λ j l. sent j (omega (arith, length-backward o.letters)); back = back }
    where
      n : length (backward o.letters) ≡ size o
      n = length-backward o.letters

      sent : (j : ℕ) → j < size o → (i : ℕ) × (i < size o) × (corner_at o i ≡ corner_at (reversed o) j)
      sent zero l = (0, omega arith, corner-zero o ∙ sym (corner-zero (reversed o)))
      sent (suc j) l = (size o - suc j, omega arith, sym (corner-backward (suc j) (omega arith)))

      back : (i : ℕ) → i < size o → (j : ℕ) × (j < size (reversed o)) × (corner_at (reversed o) j ≡ corner_at o i)
      back zero l = (0, omega (arith, n), corner-zero (reversed o) ∙ sym (corner-zero o))
      back (suc i) l =
          (size o - suc i, omega (arith, n), corner-backward (size o - suc i) (omega arith) ∙ ap (corner_at o) (omega arith))

-- ---- W

pub west-first : (o : Outline) → Walked o → FirstAt o 0 (west_place o)
unfolding west_place
west-first o t = first-at-corner_place o 0 (omega (arith, t.long))

west-lowest : (o : Outline) → Walked o → Lowest o (west_place o)
west-lowest o t = first-lowest o (west_place o) (west-first o t)

-- The letter that leaves W
pub leaving-west : (o : Outline) → Walked o → letter_at (from_w o) 0 ≡ letter_at o (west_place o)
unfolding from_w
leaving-west o t =
    let k = west_place o in
    let l : k < size o = (west-first o t).below in
    letter-rotation-before o k (omega arith) 0 (omega arith) ∙ ap (λ (i : ℕ). letter_at o i) (omega arith)

module _ (o : Outline) (t : Walked o) where
  west-same : west (reversed o) ≡ west o
  unfolding from_w west_place
  west-same = first-shared (reversed o) o (walked-backward o t) t (backward-corners o t) 0

  -- A place where the walk backward leaves W is W's place there
  west-place-at : (i : ℕ) → i < size o → corner_at (reversed o) i ≡ corner_at o (west_place o) → west_place (reversed o) ≡ i
  unfolding from_w
  west-place-at i l e =
      let back = walked-backward o t in
      corner-injective (reversed o) back (west_place (reversed o)) i (west-first (reversed o) back).below
      (omega (arith, length-backward o.letters)) (west-same ∙ sym e)

  -- Backward, W is left by the opposite of the letter at place j, which arrives at it
  leaving-back : (j : ℕ) → j < size o → corner_at o (suc j) ≡ corner_at o (west_place o)
      → get_or (from_w (reversed o)).letters 0 0 ≡ opposite (letter_at o j)
  leaving-back j l e =
      let i : ℕ = size o - suc j in
      let place : west_place (reversed o) ≡ i =
      west-place-at i (omega arith) (corner-backward o t i (omega arith) ∙ ap (corner_at o) (omega arith) ∙ e) in
      leaving-west (reversed o) (walked-backward o t) ∙ ap (λ (h : ℕ). get_or (backward o.letters) h 0) place
      ∙ letter-backward o.letters i (omega arith)
      ∙ ap (λ (h : ℕ). opposite (letter_at o h)) (omega arith)

  -- An outline that leaves W to the right arrives there from above, so backward it leaves W upward
  clockwise-back : clockwise (from_w o) ≡ false → clockwise (from_w (reversed o)) ≡ true
  unfolding clockwise opposite
  clockwise-back c =
      let m = west-lowest o t in
      let (j, l, e, _) = place-before o t (west_place o) m.below in
      eq-eqb (get_or (from_w (reversed o)).letters 0 0) 1 (leaving-back j l e ∙ ap opposite (arriving-right o t (west_place o) m j l e right))
    where
      right : letter_at o (west_place o) ≡ 0
      right =
          elim (leaving-lowest o t (west_place o) (west-lowest o t)) [
            | inl a ↦ a
            | inr a ↦ absurd (eqb-false (letter_at (from_w o) 0) 1 c (leaving-west o t ∙ a))
          ]

  -- An outline that leaves W upward arrives there from the right, so backward it leaves W to the right
  anticlockwise-back : clockwise (from_w o) ≡ true → clockwise (from_w (reversed o)) ≡ false
  unfolding clockwise opposite
  anticlockwise-back c =
      let m = west-lowest o t in
      let (j, l, e, _) = place-before o t (west_place o) m.below in
      let up : letter_at o (west_place o) ≡ 1 = sym (leaving-west o t) ∙ eqb-true (letter_at (from_w o) 0) 1 c in
      let right : get_or (from_w (reversed o)).letters 0 0 ≡ 0 = leaving-back j l e
      ∙ ap opposite (arriving-up o t (west_place o) m j l e up) in
      ne_eqb (get_or (from_w (reversed o)).letters 0 0) 1 (omega arith)

-- ---- counts

-- Up and down are exchanged along the same side
up-back : (p : Point) (a c r : ℕ) → a < 4 → leaves p a ≡ false
    → (up_along (step p a) (opposite a) r && leb (step p a).col c) ≡ (down_along p a r && leb p.col c)
unfolding up_along down_along step opposite leaves
up-back p zero c r l e = refl
up-back p (suc zero) c r l e = refl
up-back p (suc (suc zero)) c r l e = refl
up-back p (suc (suc (suc zero))) c r l e =
    let y = p.row - 1 in
    let h : suc y ≡ p.row = omega (arith, eqb-false p.row 0 e) in
    ap (λ (b : Bool). b && leb p.col c) (sym (eqb-suc-suc y r) ∙ ap (λ (n : ℕ). eqb n (suc r)) h)
up-back p (suc (suc (suc (suc a)))) c r l e = absurd (omega arith)

down-back : (p : Point) (a c r : ℕ) → a < 4 → leaves p a ≡ false
    → (down_along (step p a) (opposite a) r && leb (step p a).col c) ≡ (up_along p a r && leb p.col c)
unfolding up_along down_along step opposite leaves
down-back p zero c r l e = refl
down-back p (suc zero) c r l e =
    ap (λ (b : Bool). b && leb p.col c) (ap (λ (n : ℕ). eqb n (suc r)) (add-one p.row) ∙ eqb-suc-suc p.row r)
down-back p (suc (suc zero)) c r l e = refl
down-back p (suc (suc (suc zero))) c r l e = refl
down-back p (suc (suc (suc (suc a)))) c r l e = absurd (omega arith)

-- Each letter is below 4 and stays on the chart, so it can be reversed
record Kept (o : Outline) : Type 0 where
  letter : (i : ℕ) → i < size o → letter_at o i < 4
  stays : NeverLeaves o

kept-rest : (p : Point) (a : ℕ) (w : List ℕ) → Kept (outline p (a ∷ w)) → Kept (outline (step p a) w)
unfolding corner_at walk
kept-rest p a w k = record { letter = λ i l. k.letter (suc i) (omega arith); stays = λ i l. k.stays (suc i) (omega arith) }

kept-first : (p : Point) (a : ℕ) (w : List ℕ) → Kept (outline p (a ∷ w)) → (a < 4) × (leaves p a ≡ false)
unfolding corner_at walk
kept-first p a w k = (k.letter 0 (omega arith), k.stays 0 (omega arith))

walk-back : (p : Point) (w : List ℕ) → Kept (outline p w) → walk (walk p w) (backward w) ≡ p
unfolding walk backward
walk-back p [] k = refl
walk-back p (a ∷ w) k =
    let (l, e) = kept-first p a w k in
    walk-append (walk (step p a) w) (backward w) (opposite a ∷ [])
    ∙ ap (λ (q : Point). step q (opposite a)) (walk-back (step p a) w (kept-rest p a w k))
    ∙ step_back p a l e

-- A test counts the same letters backward as its counterpart does in the letters as sent
tally-back :
    (f g : Point → ℕ → Bool) → ((p : Point) (a : ℕ) → a < 4 → leaves p a ≡ false → f (step p a) (opposite a) ≡ g p a)
    → (p : Point) (w : List ℕ) → Kept (outline p w) → tally f (walk p w) (backward w) ≡ tally g p w
unfolding walk backward tally
tally-back f g same p [] k = refl
tally-back f g same p (a ∷ w) k =
    let (l, e) = kept-first p a w k in
    let rest = kept-rest p a w k in
    omega (
      arith,
      tally-append f (walk (step p a) w) (backward w) (opposite a ∷ []),
      ap (λ (q : Point). tally f q (opposite a ∷ [])) (walk-back (step p a) w rest),
      ap one_if (same p a l e),
      tally-back f g same (step p a) w rest,
    )

tally-closed :
    (f g : Point → ℕ → Bool) → ((p : Point) (a : ℕ) → a < 4 → leaves p a ≡ false → f (step p a) (opposite a) ≡ g p a)
    → (o : Outline) → Kept o → Closed o → tally f o.start (backward o.letters) ≡ tally g o.start o.letters
tally-closed f g same o k e = ap (λ (q : Point). tally f q (backward o.letters)) (sym e) ∙ tally-back f g same o.start o.letters k

-- ---- the walk from W

-- Backward, the later list comes first
pub backward-append : (u v : List ℕ) → backward (u ++ v) ≡ backward v ++ backward u
unfolding backward
backward-append [] v = sym (append-nil (backward v))
backward-append (a ∷ u) v = ap (λ (x : List ℕ). x ++ (opposite a ∷ [])) (backward-append u v)
    ∙ append_assoc (backward v) (backward u) (opposite a ∷ [])

backward-twice : (w : List ℕ) → ((i : ℕ) → i < length w → get_or w i 0 < 4) → backward (backward w) ≡ w
unfolding backward
backward-twice [] h = refl
backward-twice (a ∷ w) h =
    backward-append (backward w) (opposite a ∷ [])
    ∙ (λ z. opposite-twice a (h 0 (omega arith)) z ∷ backward-twice w (λ i l. h (suc i) (omega arith)) z)

-- A rotation of the letters backward starts equally far from the end
rotation-backward : (w : List ℕ) (k : ℕ) → k ≤ length w → rotation (length w - k) (backward w) ≡ backward (rotation k w)
rotation-backward w k h =
    let u : List ℕ = take k w in
    let v : List ℕ = drop k w in
    let n : length (backward v) ≡ length w - k = length-backward v ∙ length-drop k w in
    let whole : backward w ≡ backward v ++ backward u = ap backward (sym (take-append-drop k w)) ∙ backward-append u v in
    rw (
      whole,
      drop_at (backward v) (backward u) (length w - k) n,
      take_at (backward v) (backward u) (length w - k) n,
    ) (sym (backward-append v u))

module _ (o : Outline) (t : Walked o) where
  -- The place of W backward: the number of letters before it is that of the letters from W on; it is first if W is first
  pub west-place-first : west_place o ≡ 0 → west_place (reversed o) ≡ 0
  west-place-first e =
      west-place-at o t 0 (omega (arith, t.long)) (corner-zero (reversed o) ∙ sym (corner-zero o) ∙ ap (corner_at o) (sym e))

  pub west-place-later : 0 < west_place o → west_place (reversed o) ≡ size o - west_place o
  west-place-later h =
      let l : west_place o < size o = (west-first o t).below in
      west-place-at o t (size o - west_place o) (omega arith)
      (corner-backward o t (size o - west_place o) (omega arith) ∙ ap (corner_at o) (omega arith))

  -- Backward and then started at W is the same as started at W and then backward
  turn-back : (from_w (reversed o)).letters ≡ backward (from_w o).letters
  unfolding from_w
  turn-back =
      elim (dec_lt 0 (west_place o)) [
        | yes h ↦
            ap (λ (i : ℕ). rotation i (backward o.letters)) (west-place-later h)
            ∙ rotation-backward o.letters (west_place o) (omega (arith, (west-first o t).below))
        | no h ↦
            let z : west_place o ≡ 0 = omega arith in
            ap (λ (i : ℕ). rotation i (backward o.letters)) (west-place-first z) ∙ append-nil (backward o.letters)
            ∙ ap backward (sym (append-nil o.letters) ∙ ap (λ (i : ℕ). (rotated i o).letters) (sym z))
      ]

-- ---- an outline that passes refusals 1 to 6

module _ (o : Outline) (h : Simple o) where
  kept : Kept o
  kept = record { letter = (walked o h).letter; stays = (walked o h).stays }

  -- Backward it passes them too
  pub simple-backward : Simple (reversed o)
  simple-backward = simple-of-walked (reversed o) (walked-backward o (walked o h))

  -- Backward it has the same W
  pub west-backward : west (reversed o) ≡ west o
  west-backward = west-same o (walked o h)

  pub from-w-backward : from_w (reversed o) ≡ reversed (from_w o)
  from-w-backward = outline-eq (from_w (reversed o)) (reversed (from_w o)) west-backward (turn-back o (walked o h))

  -- It is clockwise either as sent or backward
  pub clockwise-backward : clockwise (from_w o) ≡ false → clockwise (from_w (reversed o)) ≡ true
  clockwise-backward = clockwise-back o (walked o h)

  pub anticlockwise-backward : clockwise (from_w o) ≡ true → clockwise (from_w (reversed o)) ≡ false
  anticlockwise-backward = anticlockwise-back o (walked o h)

  pub backward-backward : backward (backward o.letters) ≡ o.letters
  backward-backward = backward-twice o.letters (walked o h).letter

  -- Ups and downs are exchanged
  pub ups-backward : (c r : ℕ) → ups o.start (backward o.letters) c r ≡ downs o.start o.letters c r
  ups-backward c r = ups-tally o.start (backward o.letters) c r
      ∙ tally-closed _ _ (λ p a. up-back p a c r) o kept (walked o h).closed ∙ sym (downs-tally o.start o.letters c r)

  pub downs-backward : (c r : ℕ) → downs o.start (backward o.letters) c r ≡ ups o.start o.letters c r
  downs-backward c r = downs-tally o.start (backward o.letters) c r
      ∙ tally-closed _ _ (λ p a. down-back p a c r) o kept (walked o h).closed ∙ sym (ups-tally o.start o.letters c r)

  -- Backward it encloses the cells with downs minus ups equal to 1
  pub encloses-backward : (c r : ℕ)
      → encloses (reversed o) c r ≡ eqb (downs o.start o.letters c r) (ups o.start o.letters c r + 1)
  unfolding encloses
  encloses-backward c r = rw (ups-backward c r, downs-backward c r)

-- ---- the clockwise form

pub form-clockwise : (o : Outline) → clockwise (from_w o) ≡ true → clockwise_form o ≡ o
unfolding clockwise_form
form-clockwise o e = rw e

pub form-backward : (o : Outline) → clockwise (from_w o) ≡ false → clockwise_form o ≡ reversed o
unfolding clockwise_form
form-backward o e = rw e

-- A statement about the clockwise form: prove it for the outline if that is clockwise, and for its reverse if it is not
pub by-reading : (o : Outline) (P : Outline → Type 0) → (clockwise (from_w o) ≡ true → P o) → (clockwise (from_w o) ≡ false → P (reversed o))
    → P (clockwise_form o)
by-reading o P on back = go (clockwise (from_w o)) refl
  where
    go : (b : Bool) → clockwise (from_w o) ≡ b → P (clockwise_form o)
    go true e = subst P (sym (form-clockwise o e)) (on e)
    go false e = subst P (sym (form-backward o e)) (back e)

pub length-form : (o : Outline) → size (clockwise_form o) ≡ size o
length-form o = by-reading o (λ v. size v ≡ size o) (λ e. refl) (λ e. length-backward o.letters)

module _ (o : Outline) (h : Simple o) where
  -- The clockwise form passes refusals 1 to 6 and has the same W
  pub simple-form : Simple (clockwise_form o)
  simple-form = by-reading o Simple (λ e. h) (λ e. simple-backward o h)

  pub west-form : west (clockwise_form o) ≡ west o
  west-form = by-reading o (λ v. west v ≡ west o) (λ e. refl) (λ e. west-backward o h)

  pub clockwise-form : clockwise (border o) ≡ true
  clockwise-form = by-reading o (λ v. clockwise (from_w v) ≡ true) (λ e. e) (clockwise-backward o h)

  -- The border is the walk from W, forward or backward
  pub from-w-form : border o ≡ cond (clockwise (from_w o)) (from_w o) (reversed (from_w o))
  from-w-form =
      by-reading o (λ v. from_w v ≡ cond (clockwise (from_w o)) (from_w o) (reversed (from_w o))) (λ e. rw e) (λ e. rw e (from-w-backward o h))

  -- The letters sent backward have the same clockwise form
  pub form-of-backward : clockwise_form (reversed o) ≡ clockwise_form o
  form-of-backward =
      by-reading o (λ v. clockwise_form (reversed o) ≡ v)
      (λ e. form-backward (reversed o) (anticlockwise-backward o h e) ∙ ap (outline o.start) (backward-backward o h))
      (λ e. form-clockwise (reversed o) (clockwise-backward o h e))
