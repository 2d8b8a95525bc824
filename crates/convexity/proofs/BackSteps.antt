-- A walk that leaves W upward and has a back-step has a missing cell, because it crosses
-- some line twice in one direction, or back on the wrong side.
-- If an opposite letter stands between a lowest and a highest corner, the forward letter crosses its line twice. So without a missing
-- cell all lefts stand between E and W, all rights between W and E, all ups between S and N and all downs between N and S; and W, N, E
-- and S come in this order.
use Prim.Native.Nat.{ℕ, zero, suc, ◌+◌, ◌-◌, ◌≤◌, ◌<◌}
use native.Mathlib.Nat.{add-zero, add-suc}
use native.Mathlib.Decide.{dec_lt, ℕ_discrete}
use native.Mathlib.Omega.{arith}
use mathlib.Core.Path.{◌≡◌, sym, ap, ◌∙◌, subst}
use mathlib.Core.Logic.{◌↔◌, ◌⊎◌, inl, inr, ⊎_elim, ◌≢◌}
use mathlib.Core.Bool.{true, false, ◌||◌}
use lib.ListN.{length, get_or}
use lib.Dec.{ltb, eqb}
use borrow.Author.Tests.{ltb-true, eqb-false, not-true, le-ltb}
use Rattle.base.proofs.BelowLaws.{first-le, first_found}
use Rattle.chart.specs.declared.Point.{Point}
use Rattle.chart.specs.Outline.{Outline}
use Rattle.lattice.specs.Chart.{step, corner_at, size, letter_at}
use Rattle.lattice.specs.Hull.{Missing, Convex}
use Rattle.lattice.specs.Refusals.{Simple}
use Rattle.lattice.specs.Walked.{Walked}
use Rattle.lattice.proofs.WalkLaws.{corner-suc, or_left, or_right}
use Rattle.convexity.specs.Frame.{Frame, frame_of, along, next}
use Rattle.convexity.specs.Cut.{cut_corner, cut}
use Rattle.convexity.specs.Clockwise.{clockwise_form, block, border, opposite}
use Rattle.convexity.specs.Pieces.{piece, is_back_step, back_step_at, back_step_piece, factors, dent_length, dent_piece, Reaches}
use Rattle.lattice.proofs.HullLaws.{missing-same}
use Rattle.convexity.specs.Shape.{WalkFromW}
use Rattle.convexity.proofs.Extreme.{not-before-earlier, Moved, earlier_on, later-on, earlier-back, later-back, Bend, by-later}
use Rattle.convexity.proofs.Extreme.{by-earlier, on_chart, corner-round, moves, bend, from-w-of}
use Rattle.convexity.proofs.Shape.{straight-of}
use Rattle.convexity.proofs.Cuts.{previous-pos, cut-zero, corner-west, cut_on, cut-round, cuts_fit, piece-length, piece-at}
use Rattle.convexity.proofs.Cuts.{corner-first, corner-after}
use Rattle.convexity.proofs.Ring.{next-lt, Apart, apart, turns, along-next}
use Rattle.convexity.proofs.Levels.{LetterAt, leaves-upwards}
use Rattle.convexity.proofs.Clockwise.{simple-form, clockwise-form}
use Rattle.convexity.proofs.AsSent.{block-from-w, dented-iff-missing}
use Rattle.convexity.proofs.OneRun.{SomeMissing, twice, back-gap}

-- ---- a frame's later letter and its opposite. Line m of a frame has the corners that lie m along its later letter

-- A letter that leads beyond line m is the later letter, and leaves line m
passes : (f : Frame) (a m : ℕ) (p q : Point) → Moved f a p q → along f.later p ≤ m → m < along f.later q
    → (a ≡ f.later) × (along f.later p ≡ m)
passes f a m p q (earlier_on x y z) h k = absurd (omega arith)
passes f a m p q (later-on x y z) h k = (x, omega arith)
passes f a m p q (earlier-back x y z) h k = absurd (omega arith)
passes f a m p q (later-back x y z) h k = absurd (omega arith)

-- The opposite of the later letter leads one line back and keeps the other coordinate
falls-by : (f : Frame) (a : ℕ) (p q : Point) → Apart f → Moved f a p q → a ≡ opposite f.later
    → (along f.later q + 1 ≡ along f.later p) × (along f.earlier q ≡ along f.earlier p)
falls-by f a p q d (earlier_on x y z) e = absurd (omega arith)
falls-by f a p q d (later-on x y z) e = absurd (omega arith)
falls-by f a p q d (earlier-back x y z) e = absurd (omega arith)
falls-by f a p q d (later-back x y z) e = (z, y)

-- A letter that is neither of its frame's is the opposite of one of them
back-step-not : (f : Frame) (a : ℕ) → is_back_step f a ≡ true → (a ≢ f.earlier) × (a ≢ f.later)
unfolding is_back_step
back-step-not f a e =
    let n = not-true (eqb a f.earlier || eqb a f.later) e in (
      eqb-false a f.earlier (or_left (eqb a f.earlier) (eqb a f.later) n),
      eqb-false a f.later (or_right (eqb a f.earlier) (eqb a f.later) n),
    )

other-letter : (k a : ℕ) → a < 4 → a ≢ (frame_of k).earlier → a ≢ (frame_of k).later
    → (a ≡ opposite (frame_of k).earlier) ⊎ (a ≡ opposite (frame_of k).later)
unfolding frame_of opposite
other-letter zero a h x y = elim (ℕ_discrete a 2) [ yes z ↦ inl z | no z ↦ inr (omega arith) ]
other-letter (suc zero) a h x y = elim (ℕ_discrete a 1) [ yes z ↦ inl z | no z ↦ inr (omega arith) ]
other-letter (suc (suc zero)) a h x y = elim (ℕ_discrete a 0) [ yes z ↦ inl z | no z ↦ inr (omega arith) ]
other-letter (suc (suc (suc k))) a h x y = elim (ℕ_discrete a 3) [ yes z ↦ inl z | no z ↦ inr (omega arith) ]

back-step-goes : (k a : ℕ) → a < 4 → is_back_step (frame_of k) a ≡ true
    → (a ≡ opposite (frame_of k).earlier) ⊎ (a ≡ opposite (frame_of k).later)
back-step-goes k a h e = let n = back-step-not (frame_of k) a e in other-letter k a h n.0 n.1

module _ (o : Outline) (h : WalkFromW o) (up : letter_at o 0 ≡ 1) where
  abbrev corner : ℕ → Point
  corner i = corner_at o i

  -- The line of the corner at place i, in frame k
  abbrev far : ℕ → ℕ → ℕ
  far k i = along (frame_of k).later (corner_at o i)

  abbrev At : ℕ → ℕ → Type 0
  At a i = LetterAt o.letters a i

  d : Walked o
  d = h.walked

  -- ---- crossing lines

  -- Between places i and j the later letter of frame k leaves line m
  record Crossed (k m i j : ℕ) : Type 0 where
    place : ℕ
    from : i ≤ place
    to : place < j
    letter : letter_at o place ≡ (frame_of k).later
    line : far k place ≡ m

  -- A walk from line m or before it to a line after m leaves line m
  cross-by : (k m i e : ℕ) → i + e ≤ size o → far k i ≤ m → m < far k (i + e) → Crossed k m i (i + e)
  cross-by k m i zero l a b = absurd (omega (arith, ap (far k) (add-zero i)))
  cross-by k m i (suc e) l a b =
      let b' : m < far k (suc (i + e)) = rw add-suc at b in
      elim (dec_lt m (far k (i + e))) [
        | yes q ↦
            let c = cross-by k m i e (omega arith) a q in
            record { place = c.place; from = c.from; to = omega (arith, c.to); letter = c.letter; line = c.line }
        | no q ↦
            let p =
            passes (frame_of k) (letter_at o (i + e)) m (corner (i + e)) (corner (suc (i + e))) (moves o d k (i + e) (omega arith))
            (omega arith) b' in
            record { place = i + e; from = omega arith; to = omega arith; letter = p.0; line = p.1 }
      ]

  cross : (k m i j : ℕ) → i ≤ j → j ≤ size o → far k i ≤ m → m < far k j → Crossed k m i j
  cross k m i j l n a b =
      let e : i + (j - i) ≡ j = omega arith in
      subst (Crossed k m i) e (cross-by k m i (j - i) (omega arith) a (subst (λ (q : ℕ). m < far k q) (sym e) b))

  letter_at-crossed : (k m i j : ℕ) → j ≤ size o → (c : Crossed k m i j) → At (frame_of k).later c.place
  letter_at-crossed k m i j l c = (omega (arith, c.to), c.letter)

  -- The same line is left in two separate parts of the walk
  crossed-twice : (k m i j i' j' : ℕ) → j ≤ i' → j' ≤ size o → Crossed k m i j → Crossed k m i' j' → SomeMissing o
  crossed-twice k m i j i' j' l n c c' =
      twice o h up k c.place c'.place (letter_at-crossed k m i j (omega (arith, c'.from, c'.to)) c) (letter_at-crossed k m i' j' n c')
      (omega (arith, c.to, c'.from)) (c.line ∙ sym c'.line)

  falls : (k m : ℕ) → m < size o → letter_at o m ≡ opposite (frame_of k).later
      → (far k (suc m) + 1 ≡ far k m) × (along (frame_of k).earlier (corner (suc m)) ≡ along (frame_of k).earlier (corner m))
  falls k m l e = falls-by (frame_of k) (letter_at o m) (corner m) (corner (suc m)) (apart k) (moves o d k m l) e

  -- An opposite letter between a lowest corner and a highest one
  back-between : (k i j m : ℕ) → i ≤ m → m < j → j ≤ size o → letter_at o m ≡ opposite (frame_of k).later
      → ((q : ℕ) → q ≤ size o → far k i ≤ far k q) → ((q : ℕ) → q ≤ size o → far k q ≤ far k j) → SomeMissing o
  back-between k i j m a b l e low high =
      let (f, _) = falls k m (omega arith) e in
      crossed-twice k (far k (suc m)) i m (suc m) j (omega arith) l
      (cross k (far k (suc m)) i m a (omega arith) (low (suc m) (omega arith)) (omega arith))
      (cross k (far k (suc m)) (suc m) j b l (omega arith) (omega (arith, high m (omega arith))))

  -- ---- the first corners of the pieces

  -- The places of W, N, E and S
  abbrev place : ℕ → ℕ
  place k = cut_corner o k

  place-lt : (k : ℕ) → k < 4 → place k < size o
  place-lt k l = (corner-first o h k l).below

  -- If P holds for the corner at every place, it also holds at the end, which is W again
  everywhere : (P : Point → Type 0) → ((i : ℕ) → i < size o → P (corner i)) → (i : ℕ) → i ≤ size o → P (corner i)
  everywhere P f i l =
      elim (dec_lt i (size o)) [
        | yes m ↦ f i m
        | no m ↦ subst P (sym (corner-round o d) ∙ ap corner (omega arith)) (f 0 (omega (arith, d.long)))
      ]

  -- The first corner of piece k lies least far along the earlier letter of its frame. That letter is the later one of the next frame, and
  -- the opposite of the later one of the frame before, along which the corner lies furthest
  first-earlier : (k : ℕ) → k < 4 → (i : ℕ) → i ≤ size o
      → along (frame_of k).earlier (corner (place k)) ≤ along (frame_of k).earlier (corner i)
  first-earlier k l =
      everywhere (λ p. along (frame_of k).earlier (corner (place k)) ≤ along (frame_of k).earlier p) λ i m.
      not-before-earlier (frame_of k) (corner i) (corner (place k)) ((corner-first o h k l).none i m)

  least : (k : ℕ) → k < 4 → (i : ℕ) → i ≤ size o → far (next k) (place k) ≤ far (next k) i
  least k l i m = rw (turns k).later (first-earlier k l i m)

  most : (k : ℕ) → k < 4 → (i : ℕ) → i ≤ size o → far k i ≤ far k (place (next k))
  most k l i m =
      let n = next-lt k in
      omega (
        arith,
        first-earlier (next k) n i m,
        along-next k (corner i) (on_chart o d i m),
        along-next k (corner (place (next k))) (on_chart o d (place (next k)) (omega (arith, place-lt (next k) n))),
      )

  far-round : (k : ℕ) → far k (size o) ≡ far k 0
  far-round k = ap (along (frame_of k).later) (corner-round o d)

  to_end : far 3 (place 0) ≤ far 3 (size o)
  to_end = omega (arith, far-round 3, ap (far 3) (corner-west o))

  rises-first : far 0 1 ≡ far 0 0 + 1
  unfolding frame_of along step
  rises-first = ap (λ (p : Point). p.row) (corner-suc o 0 (omega (arith, d.long)) ∙ ap (step (corner 0)) up)

  -- ---- where each letter can stand

  -- The later letter of a frame leads from the first corner of the piece before to that of the piece after, so if its opposite stands
  -- between them, a cell is missing
  no-back : (k : ℕ) → k < 4 → (j : ℕ) → j ≤ size o → far (next k) (place (next (next k))) ≤ far (next k) j → (m : ℕ) → place k ≤ m → m < j
      → letter_at o m ≡ opposite (frame_of (next k)).later → SomeMissing o
  no-back k l j n g m a b e =
      back-between (next k) (place k) j m a b n e (least k l) (λ q v. omega (arith, most (next k) (next-lt k) q v))

  -- Ups lead from S to N past W, so a down there meets two ups on one side of W, or one on each side
  no-down-first : place 1 < place 3 → (m : ℕ) → m < place 1 → letter_at o m ≡ opposite (frame_of 0).later → SomeMissing o
  no-down-first v m l e =
      let r : ℕ = far 0 (suc m) in
      let n = place-lt 1 (omega arith) in
      let z = place-lt 3 (omega arith) in
      let (f, _) = falls 0 m (omega arith) e in
      let after : Crossed 0 r (suc m) (place 1) =
      cross 0 r (suc m) (place 1) l (omega arith) (omega arith) (omega (arith, most 0 (omega arith) m (omega arith))) in
      elim (dec_lt r (far 0 (size o))) [
        | yes q ↦
            crossed-twice 0 r (suc m) (place 1) (place 3) (size o) (omega arith) (omega arith) after
            (cross 0 r (place 3) (size o) (omega arith) (omega arith) (least 3 (omega arith) (suc m) (omega arith)) q)
        | no q ↦
            crossed-twice 0 r 0 m (suc m) (place 1) (omega arith) (omega arith)
            (cross 0 r 0 m (omega arith) (omega arith) (omega (arith, far-round 0)) (omega arith)) after
      ]

  no-down-last : place 1 < place 3 → (m : ℕ) → place 3 ≤ m → m < size o → letter_at o m ≡ opposite (frame_of 0).later → SomeMissing o
  no-down-last v m a b e =
      let r : ℕ = far 0 (suc m) in
      let (f, _) = falls 0 m b e in
      let ahead : Crossed 0 r (place 3) m = cross 0 r (place 3) m a (omega arith) (least 3 (omega arith) (suc m) b) (omega arith) in
      elim (dec_lt r (far 0 (size o))) [
        | yes q ↦
            crossed-twice 0 r (place 3) m (suc m) (size o) (omega arith) (omega arith) ahead
            (cross 0 r (suc m) (size o) b (omega arith) (omega arith) q)
        | no q ↦
            crossed-twice 0 r 0 (place 1) (place 3) m (omega arith) (omega arith)
            (cross 0 r 0 (place 1) (omega arith) (omega arith) (omega (arith, far-round 0))
            (omega (arith, most 0 (omega arith) m (omega arith)))) ahead
      ]

  -- ---- N comes before S, and E between them

  -- Otherwise the first letter and another up, between S and N, would both leave the row of W
  south-first : place 3 ≤ place 1 → SomeMissing o
  unfolding frame_of
  south-first l =
      let m : 0 < size o = omega (arith, d.long) in
      let n = place-lt 1 (omega arith) in
      let c =
      cross 0 (far 0 0) (place 3) (place 1) l (omega arith) (least 3 (omega arith) 0 (omega arith))
      (omega (arith, rises-first, most 0 (omega arith) 1 m)) in
      twice o h up 0 0 c.place (m, up) (letter_at-crossed 0 (far 0 0) (place 3) (place 1) (omega arith) c)
      (omega (arith, c.from, corner-after o h up 3 (omega arith) (omega arith))) (sym c.line)

  -- If the first corner of a piece is reached by an opposite letter, and the forward letter
  -- crosses its line elsewhere, that letter cannot be on the outer side
  reached-back : (k : ℕ) → k < 4 → 0 < place k → (i j : ℕ) → i ≤ j → j ≤ size o → far k i ≤ far k (place k)
      → far k (place (next k)) ≤ far k j
      → letter_at o (place k - 1) ≡ opposite (frame_of k).later → SomeMissing o
  reached-back k l z i j a b low high e =
      let q : ℕ = place k - 1 in
      let n : suc q ≡ place k = omega arith in
      let m : q < size o = omega (arith, place-lt k l) in
      let (f, g) = rw n at (falls k q m e) in
      let c = cross k (far k (place k)) i j a b low (omega (arith, most k l q (omega arith))) in
      back-gap o h up k c.place q (letter_at-crossed k (far k (place k)) i j b c) (m, e) (omega (arith, c.line))
      (omega (arith, first-earlier k l c.place (omega (arith, c.to))))

  -- Otherwise a left along the top row would reach N, with no right above it
  east-first : place 2 ≤ place 1 → SomeMissing o
  unfolding frame_of opposite
  east-first l =
      let z = corner-after o h up 1 (omega arith) (omega arith) in
      go (rw (previous-pos (size o) (place 1) z) at (bend o d 1 (place 1) (corner-first o h 1 (omega arith))))
    where
      go : Bend (frame_of 1) (letter_at o (place 1 - 1)) (letter_at o (place 1)) → SomeMissing o
      go (by-later p q) = no-back 2 (omega arith) (size o) (omega arith) to_end (place 1) l (place-lt 1 (omega arith)) q
      go (by-earlier p q) =
          let w = corner-west o in
          let n = place-lt 1 (omega arith) in
          let v = place-lt 2 (omega arith) in
          reached-back 1 (omega arith) (corner-after o h up 1 (omega arith) (omega arith)) 0 (place 2) (omega arith) (omega arith)
          (omega (arith, ap (far 1) w, least 0 (omega arith) (place 1) (omega arith))) (omega arith) p

  -- Otherwise an up along the last column would reach E, with no down to its right
  east-last : place 1 < place 3 → place 3 ≤ place 2 → SomeMissing o
  unfolding frame_of opposite
  east-last v l =
      let z = corner-after o h up 2 (omega arith) (omega arith) in
      go (rw (previous-pos (size o) (place 2) z) at (bend o d 2 (place 2) (corner-first o h 2 (omega arith))))
    where
      go : Bend (frame_of 2) (letter_at o (place 2 - 1)) (letter_at o (place 2)) → SomeMissing o
      go (by-later p q) = no-down-last v (place 2) l (place-lt 2 (omega arith)) q
      go (by-earlier p q) =
          let n = place-lt 2 (omega arith) in
          let m = place-lt 3 (omega arith) in
          reached-back 2 (omega arith) (corner-after o h up 2 (omega arith) (omega arith)) (place 1) (place 3) (omega arith) (omega arith)
          (least 1 (omega arith) (place 2) (omega arith)) (omega arith) p

  -- ---- the cut places

  module _ (a : place 1 < place 2) (b : place 2 < place 3) where
    rise : (k : ℕ) → k < 3 → place k < place (suc k)
    rise zero l = omega (arith, corner-west o, corner-after o h up 1 (omega arith) (omega arith))
    rise (suc zero) l = a
    rise (suc (suc zero)) l = b
    rise (suc (suc (suc k))) l = absurd (omega arith)

    cuts : (k : ℕ) → k < 4 → cut o k ≡ place k
    cuts zero l = omega (arith, cut-zero o, corner-west o)
    cuts (suc k) l = cut_on o k (cuts k (omega arith)) (omega (arith, rise k (omega arith)))

    round : cut o 4 ≡ size o
    round = cut-round o cuts rise (place-lt 3 (omega arith))

    fits : (k : ℕ) → k < 4 → cut o (suc k) ≤ size o
    fits = cuts_fit o cuts rise (place-lt 3 (omega arith))

    -- If one of the other two letters stands in a piece, a cell is missing
    own-letters : (k : ℕ) → k < 4 → (i : ℕ) → cut o k ≤ i → i < cut o (suc k)
        → (letter_at o i ≡ opposite (frame_of k).earlier) ⊎ (letter_at o i ≡ opposite (frame_of k).later) → SomeMissing o
    unfolding frame_of
    own-letters zero l i x y e =
        ⊎_elim (no-back 0 (omega arith) (place 2) (omega (arith, place-lt 2 (omega arith))) (omega arith) i (omega (arith, corner-west o))
        (omega (arith, cuts 1 (omega arith))))
        (no-down-first (omega arith) i (omega (arith, cuts 1 (omega arith)))) e
    own-letters (suc zero) l i x y e =
        ⊎_elim (no-back 1 (omega arith) (place 3) (omega (arith, place-lt 3 (omega arith))) (omega arith) i
        (omega (arith, cuts 1 (omega arith))) (omega (arith, cuts 2 (omega arith))))
        (no-back 0 (omega arith) (place 2) (omega (arith, place-lt 2 (omega arith))) (omega arith) i (omega (arith, corner-west o))
        (omega (arith, cuts 2 (omega arith)))) e
    own-letters (suc (suc zero)) l i x y e =
        ⊎_elim (no-back 2 (omega arith) (size o) (omega arith) to_end i (omega (arith, cuts 2 (omega arith)))
        (omega (arith, cuts 3 (omega arith), place-lt 3 (omega arith))))
        (no-back 1 (omega arith) (place 3) (omega (arith, place-lt 3 (omega arith))) (omega arith) i (omega (arith, cuts 2 (omega arith)))
        (omega (arith, cuts 3 (omega arith)))) e
    own-letters (suc (suc (suc zero))) l i x y e =
        ⊎_elim (no-down-last (omega arith) i (omega (arith, cuts 3 (omega arith))) (omega (arith, round)))
        (no-back 2 (omega arith) (size o) (omega arith) to_end i (omega (arith, cuts 3 (omega arith))) (omega (arith, round))) e
    own-letters (suc (suc (suc (suc k)))) l i x y e = absurd (omega arith)

    back-step-here : (k : ℕ) → k < 4 → (i : ℕ) → i < length (piece o k) → is_back_step (frame_of k) (get_or (piece o k) i 0) ≡ true
        → SomeMissing o
    back-step-here k l i m e =
        let n : i < cut o (suc k) - cut o k = omega (arith, piece-length o fits k l) in
        let j : ℕ = cut o k + i in
        let b : j < size o = omega (arith, fits k l) in
        own-letters k l j (omega arith) (omega arith) (back-step-goes k (letter_at o j) (d.letter j b) (rw (piece-at o fits k l i n) at e))

    found : back_step_piece o < 4 → SomeMissing o
    unfolding back_step_piece back_step_at
    found l =
        let k : ℕ = back_step_piece o in
        let m : back_step_at o k < length (piece o k) =
        ltb-true (back_step_at o k) (length (piece o k)) (first_found (λ k. ltb (back_step_at o k) (length (piece o k))) 4 l) in
        back-step-here k l (back_step_at o k) m (first_found (λ i. is_back_step (frame_of k) (get_or (piece o k) i 0)) (length (piece o k)) m)

  -- A walk that leaves W upward and has a back-step has a missing cell
  pub back-step-missing : back_step_piece o < 4 → SomeMissing o
  back-step-missing l =
      elim (dec_lt (place 1) (place 2)) [
        | yes a ↦
            elim (dec_lt (place 2) (place 3)) [
              | yes b ↦ found a b l
              | no b ↦ elim (dec_lt (place 1) (place 3)) [ yes c ↦ east-last c (omega arith) | no c ↦ south-first (omega arith) ]
            ]
        | no a ↦ east-first (omega arith)
      ]

-- ---- an outline as sent that passes refusals 1 to 6

module _ (o : Outline) (h : Simple o) where
  -- Every outline that refusal 8 refuses has a missing cell
  pub back-step-missing-sent : back_step_piece (border o) < 4 → (x : Point) × Missing (block o) x
  back-step-missing-sent l =
      let (x, m) =
      back-step-missing (border o) (from-w-of (clockwise_form o) (simple-form o h)) (leaves-upwards (border o) (clockwise-form o h)) l in
      (x, missing-same (block-from-w o h) m)

  -- An outline without a missing cell has no back-step
  pub full-straight : Convex (block o) → ltb (back_step_piece (border o)) 4 ≡ false
  full-straight full =
      elim (dec_lt (back_step_piece (border o)) 4) [
        | yes l ↦ let (x, m) = back-step-missing-sent l in absurd (full x m)
        | no l ↦ le-ltb (back_step_piece (border o)) 4 (omega arith)
      ]

  -- So an outline that passes refusals 1 to 6 passes 8 and 9 exactly if no cell is missing
  pub passes-iff-convex :
      ((back_step_piece (border o) ≡ 4) × (dent_piece (border o) ≡ 4)) ↔ Convex (block o)
  unfolding dent_piece
  passes-iff-convex = (
    λ e x m. absurd (omega (arith, (dented-iff-missing o (reaches e.0)).1 (x, m))),
    λ full.
        let straight = straight-of (border o) (full-straight full) in
        (straight, smooth full straight),
  )
    where
      reaches : back_step_piece (border o) ≡ 4 → Reaches o
      reaches e = record { simple = h; straight = le-ltb (back_step_piece (border o)) 4 (omega arith) }

      smooth : Convex (block o) → back_step_piece (border o) ≡ 4 → dent_piece (border o) ≡ 4
      smooth full e =
          elim (dec_lt (dent_piece (border o)) 4) [
            | yes l ↦ let (x, m) = (dented-iff-missing o (reaches e)).0 l in absurd (full x m)
            | no l ↦ omega (arith, first-le (λ k. ltb 0 (dent_length (factors (border o) k))) 4)
          ]
