-- Each cut place is where its corner is met next, because a closed walk, read cyclically, meets its corners again in the same order.
use Prim.Native.Nat.{ℕ, zero, suc, ◌+◌, ◌-◌, ◌≤◌, ◌<◌}
use native.Mathlib.Decide.{dec_le, dec_lt}
use native.Mathlib.Omega.{arith}
use mathlib.Core.Path.{◌≡◌, refl, sym, ap, ap₂, ◌∙◌}
use mathlib.Core.Bool.{Bool, true, false, not, ◌||◌}
use mathlib.Core.List.{List, ◌++◌}
use lib.ListN.{length, get_or, take, drop, length-append, length-drop, get_or-append}
use lib.Seq.{take-append-le, take-append-add, take-add, length-take-le, get_or-append-add, get_or-take, get_or-drop}
use lib.Dec.{eqb}
use borrow.Author.Tests.{eq-eqb}
use Rattle.base.proofs.BelowLaws.{below-four}
use Rattle.chart.specs.declared.Point.{Point}
use Rattle.chart.specs.Outline.{Outline}
use Rattle.lattice.specs.Chart.{walk, corner_at, size, letter_at, Closed}
use Rattle.lattice.specs.Refusals.{Simple}
use Rattle.lattice.specs.Walked.{Walked}
use Rattle.lattice.proofs.WalkLaws.{walk-append, corner-injective}
use Rattle.convexity.specs.Frame.{Frame, frame_of, next}
use Rattle.convexity.specs.Cut.{corner_place, west_place, ahead, cut_corner, cut}
use Rattle.convexity.specs.Clockwise.{clockwise_form, border}
use Rattle.convexity.specs.Pieces.{rounds, piece, is_back_step}
use Rattle.convexity.specs.Shape.{WalkFromW}
use Rattle.convexity.specs.Leads.{corner_round, Leads, PiecesLead}
use Rattle.convexity.proofs.Extreme.{corner_place-lt, from-w-of, Bend, by-later, by-earlier, bend}
use Rattle.convexity.proofs.Cuts.{ahead-on, ahead-round, cut_step, cut-zero, corner-west, corner-first, corners-differ}
use Rattle.convexity.proofs.Clockwise.{simple-form}
use Rattle.convexity.proofs.Corners.{four-corners, corner-form}
use Rattle.convexity.proofs.Border.{west-start}
use Rattle.convexity.proofs.Ring.{next-lt}

-- ---- several times round

-- i letters after q rounds of n letters
laps : ℕ → ℕ → ℕ → ℕ
laps n zero i = i
laps n (suc q) i = n + laps n q i

laps-add : (n q i d : ℕ) → laps n q (i + d) ≡ laps n q i + d
unfolding laps
laps-add n zero i d = refl
laps-add n (suc q) i d = omega (arith, laps-add n q i d)

laps-more : (n q i : ℕ) → laps n q (n + i) ≡ laps n (suc q) i
unfolding laps
laps-more n zero i = refl
laps-more n (suc q) i = ap (λ (m : ℕ). n + m) (laps-more n q i)

laps-le : (n q i : ℕ) → q < 4 → i ≤ n → laps n q i ≤ n + (n + (n + n))
unfolding laps
laps-le n zero i h l = omega arith
laps-le n (suc zero) i h l = omega arith
laps-le n (suc (suc zero)) i h l = omega arith
laps-le n (suc (suc (suc zero))) i h l = omega arith
laps-le n (suc (suc (suc (suc q)))) i h l = absurd (omega arith)

module _ (o : Outline) (c : Closed o) where
  abbrev w : List ℕ
  w = o.letters

  -- One full round returns to the start
  once : (r : List ℕ) (i : ℕ) → walk o.start (take (size o + i) (w ++ r)) ≡ walk o.start (take i r)
  once r i =
      ap (walk o.start) (take-append-add w r i) ∙ walk-append o.start w (take i r) ∙ ap (λ (p : Point). walk p (take i r)) c

  within : (r : List ℕ) (i : ℕ) → i ≤ size o → walk o.start (take i (w ++ r)) ≡ corner_at o i
  unfolding corner_at
  within r i h = ap (walk o.start) (take-append-le i w r h)

  round-corner : (q i : ℕ) → q < 4 → i ≤ size o → corner_round o (laps (size o) q i) ≡ corner_at o i
  unfolding corner_round rounds laps corner_at
  round-corner zero i h l = within (w ++ (w ++ w)) i l
  round-corner (suc zero) i h l = once (w ++ (w ++ w)) i ∙ within (w ++ w) i l
  round-corner (suc (suc zero)) i h l = once (w ++ (w ++ w)) (size o + i) ∙ once (w ++ w) i ∙ within w i l
  round-corner (suc (suc (suc zero))) i h l = once (w ++ (w ++ w)) (size o + (size o + i)) ∙ once (w ++ w) (size o + i) ∙ once w i
  round-corner (suc (suc (suc (suc q)))) i h l = absurd (omega arith)

-- The letters repeat as the corners do
round-letter : (w : List ℕ) (q i : ℕ) → q < 4 → i < length w → get_or (rounds w) (laps (length w) q i) 0 ≡ get_or w i 0
unfolding rounds laps
round-letter w zero i h l = get_or-append w (w ++ (w ++ w)) 0 i l
round-letter w (suc zero) i h l = get_or-append-add w (w ++ (w ++ w)) i 0 ∙ get_or-append w (w ++ w) 0 i l
round-letter w (suc (suc zero)) i h l =
    get_or-append-add w (w ++ (w ++ w)) (length w + i) 0 ∙ get_or-append-add w (w ++ w) i 0 ∙ get_or-append w w 0 i l
round-letter w (suc (suc (suc zero))) i h l =
    get_or-append-add w (w ++ (w ++ w)) (length w + (length w + i)) 0 ∙ get_or-append-add w (w ++ w) (length w + i) 0 ∙ get_or-append-add w w i 0
round-letter w (suc (suc (suc (suc q)))) i h l = absurd (omega arith)

-- The letters between two places lead from one corner to the other
part-leads : (o : Outline) (a b : ℕ) → a ≤ b → walk (corner_round o a) (take (b - a) (drop a (rounds o.letters))) ≡ corner_round o b
unfolding corner_round
part-leads o a b h =
    sym (walk-append o.start (take a (rounds o.letters)) (take (b - a) (drop a (rounds o.letters))))
    ∙ ap (walk o.start) (sym (take-add a (b - a) (rounds o.letters)) ∙ ap (λ (i : ℕ). take i (rounds o.letters)) on)
  where
    on : a + (b - a) ≡ b
    on = omega arith

length-rounds : (w : List ℕ) → length (rounds w) ≡ length w + (length w + (length w + length w))
unfolding rounds
length-rounds w = simp length-append

own-letter : (f : Frame) (a b : ℕ) → Bend f a b → is_back_step f b ≡ false
unfolding is_back_step
own-letter f a b (by-later p q) = go (eqb b f.earlier)
  where
    go : (e : Bool) → not (e || eqb b f.later) ≡ false
    go true = refl
    go false = rw (eq-eqb b f.later q)
own-letter f a b (by-earlier p q) = rw (eq-eqb b f.earlier q)

-- ---- the pieces of a walk from W

module _ (o : Outline) (t : WalkFromW o) where
  abbrev d : Walked o
  d = t.walked

  some-letter : 0 < size o
  some-letter = omega (arith, d.long)

  -- The places of the first and last corners of the pieces
  from_place : (k : ℕ) → k < 4 → cut_corner o k ≡ corner_place o k
  unfolding cut_corner west_place
  from_place = below-four (λ k. cut_corner o k ≡ corner_place o k) (sym (west-start o t)) refl refl refl

  to-place : (k : ℕ) → k < 4 → cut_corner o (suc k) ≡ corner_place o (next k)
  unfolding cut_corner west_place
  to-place = below-four (λ k. cut_corner o (suc k) ≡ corner_place o (next k)) refl refl refl (sym (west-start o t))

  from-lt : (k : ℕ) → k < 4 → cut_corner o k < size o
  from-lt k l = rw (from_place k l) (corner_place-lt o k some-letter)

  to-lt : (k : ℕ) → k < 4 → cut_corner o (suc k) < size o
  to-lt k l = rw (to-place k l) (corner_place-lt o (next k) some-letter)

  differ : (k : ℕ) → k < 4 → cut_corner o k ≡ cut_corner o (suc k) → ⊥
  differ k l e = corners-differ o t k l (e ∙ to-place k l ∙ sym (from_place (next k) (next-lt k)))

  -- A cut place is the place of its corner plus some full rounds
  record Lapped (k : ℕ) : Type 0 where
    times : ℕ
    few : times ≤ k - 1
    place : cut o k ≡ laps (size o) times (cut_corner o k)

  -- The next corner is further on in the list, or in the next round
  lapped-on : (k : ℕ) → Lapped k → cut_corner o k ≤ cut_corner o (suc k) → Lapped (suc k)
  lapped-on k h m =
      let a = cut_corner o k in
      let b = cut_corner o (suc k) in
      let on : a + (b - a) ≡ b = omega arith in
      record {
        times = h.times;
        few = omega (arith, h.few);
        place =
            cut_step o k ∙ ap₂ ◌+◌ h.place (ahead-on (size o) a b m)
            ∙ sym (laps-add (size o) h.times a (b - a)) ∙ ap (laps (size o) h.times) on;
      }

  lapped-past : (k : ℕ) → 0 < k → Lapped k → cut_corner o (suc k) < cut_corner o k → cut_corner o k < size o → Lapped (suc k)
  lapped-past k z h m l =
      let n = size o in
      let a = cut_corner o k in
      let b = cut_corner o (suc k) in
      let past : a + (b + n - a) ≡ n + b = omega arith in
      record {
        times = suc h.times;
        few = omega (arith, h.few);
        place =
            cut_step o k ∙ ap₂ ◌+◌ h.place (ahead-round n a b m)
            ∙ sym (laps-add n h.times a (b + n - a)) ∙ ap (laps n h.times) past ∙ laps-more n h.times b;
      }

  lapped : (k : ℕ) → k ≤ 4 → Lapped k
  unfolding laps
  lapped zero l = record { times = 0; few = omega arith; place = cut-zero o ∙ sym (corner-west o) }
  lapped (suc zero) l = lapped-on 0 (lapped zero (omega arith)) (rw (corner-west o) (omega arith))
  lapped (suc (suc k)) l = go (lapped (suc k) (omega arith))
    where
      go : Lapped (suc k) → Lapped (suc (suc k))
      go h =
          elim (dec_le (cut_corner o (suc k)) (cut_corner o (suc (suc k)))) [
            | yes m ↦ lapped-on (suc k) h m
            | no m ↦ lapped-past (suc k) (omega arith) h (omega arith) (from-lt (suc k) (omega arith))
          ]

  module _ (k : ℕ) (l : k < 4) where
    -- The places of the first corner and of the last
    abbrev a : ℕ
    a = cut_corner o k

    abbrev b : ℕ
    b = cut_corner o (suc k)

    here : Lapped k
    here = lapped k (omega arith)

    end : Lapped (suc k)
    end = lapped (suc k) (omega arith)

    on-from : (i : ℕ) → cut o k + i ≡ laps (size o) here.times (a + i)
    on-from i = ap (λ (c : ℕ). c + i) here.place ∙ sym (laps-add (size o) here.times a i)

    -- The corners on the way, up to the list's end and after it
    before-end : (i : ℕ) → a + i ≤ size o → corner_round o (cut o k + i) ≡ corner_at o (a + i)
    before-end i h = ap (corner_round o) (on-from i) ∙ round-corner o d.closed here.times (a + i) (omega (arith, here.few)) h

    past_end : (i j : ℕ) → a + i ≡ size o + j → j ≤ size o → corner_round o (cut o k + i) ≡ corner_at o j
    past_end i j e h =
        ap (corner_round o) (on-from i ∙ ap (laps (size o) here.times) e ∙ laps-more (size o) here.times j)
        ∙ round-corner o d.closed (suc here.times) j (omega (arith, here.few)) h

    -- None of them is the last corner
    first-met : (i : ℕ) → i < ahead (size o) a b → corner_round o (cut o k + i) ≡ corner_at o b → ⊥
    first-met i h e =
        let last = to-lt k l in
        elim (dec_le a b) [
          | yes m ↦
              let small : i < b - a = rw (ahead-on (size o) a b m) at h in
              omega (arith, same (a + i) (omega arith) (before-end i (omega arith)))
          | no m ↦
              let small : i < b + size o - a = rw (ahead-round (size o) a b (omega arith)) at h in
              elim (dec_lt (a + i) (size o)) [
                | yes s ↦ omega (arith, same (a + i) s (before-end i (omega arith)))
                | no s ↦ omega (arith, same (a + i - size o) (omega arith) (past_end i (a + i - size o) (omega arith) (omega arith)))
              ]
        ]
      where
        same : (j : ℕ) → j < size o → corner_round o (cut o k + i) ≡ corner_at o j → j ≡ b
        same j m c = corner-injective o d j b m (to-lt k l) (sym c ∙ e)

    rise : 0 < ahead (size o) a b
    rise =
        elim (dec_le a b) [
          | yes m ↦ omega (arith, ahead-on (size o) a b m, differ k l)
          | no m ↦ omega (arith, ahead-round (size o) a b (omega arith), from-lt k l)
        ]

    fits : cut o (suc k) ≤ length (rounds o.letters)
    fits =
        let last = laps-le (size o) end.times b (omega (arith, end.few)) (omega (arith, to-lt k l)) in
        omega (arith, end.place, length-rounds o.letters)

    leads-between : Leads o k (corner_at o a) (corner_at o b)
    unfolding piece
    leads-between =
        record {
          nonempty = omega (arith, rise, cut_step o k);
          letter_count = omega (arith, long, on);
          from = from;
          to = ap (λ (p : Point). walk p (piece o k)) (sym from) ∙ part-leads o (cut o k) (cut o (suc k)) on ∙ met;
          met = met;
          first = λ i low high e. first-met (i - cut o k) (omega (arith, cut_step o k)) (ap (corner_round o) (there i low) ∙ e);
        }
      where
        on : cut o k ≤ cut o (suc k)
        on = omega (arith, cut_step o k)

        long : length (piece o k) ≡ cut o (suc k) - cut o k
        long =
            length-take-le (cut o (suc k) - cut o k) (drop (cut o k) (rounds o.letters))
            (rw (length-drop (cut o k) (rounds o.letters)) (omega (arith, fits, on)))

        from : corner_round o (cut o k) ≡ corner_at o a
        from =
            ap (corner_round o) here.place
            ∙ round-corner o d.closed here.times a (omega (arith, here.few)) (omega (arith, from-lt k l))

        met : corner_round o (cut o (suc k)) ≡ corner_at o b
        met =
            ap (corner_round o) end.place
            ∙ round-corner o d.closed end.times b (omega (arith, end.few)) (omega (arith, to-lt k l))

        there : (i : ℕ) → cut o k ≤ i → cut o k + (i - cut o k) ≡ i
        there i h = omega arith

    -- Each piece leads from its corner to the next, and the last one leads to W
    pub leads-on : Leads o k (corner_at o (corner_place o k)) (corner_at o (corner_place o (next k)))
    leads-on = rw (from_place k l, to-place k l) at leads-between

    -- The first letter leaves the piece's first corner, and from there no letter goes back along either of the piece's letters
    pub begins-on : is_back_step (frame_of k) (get_or (piece o k) 0 0) ≡ false
    unfolding piece
    begins-on = rw first-letter (own-letter (frame_of k) _ _ (bend o d k a (corner-first o t k l)))
      where
        start : cut o k + 0 ≡ laps (size o) here.times a
        start = omega (arith, here.place)

        first-letter : get_or (piece o k) 0 0 ≡ letter_at o a
        first-letter =
            get_or-take (cut o (suc k) - cut o k) (drop (cut o k) (rounds o.letters)) 0 0 (omega (arith, leads-between.nonempty))
            ∙ get_or-drop (cut o k) (rounds o.letters) 0 0 ∙ ap (λ (i : ℕ). get_or (rounds o.letters) i 0) start
            ∙ round-letter o.letters here.times a (omega (arith, here.few)) (from-lt k l)

-- ---- outlines that pass 1 to 6

module _ (o : Outline) (h : Simple o) where
  turning : WalkFromW (border o)
  turning = from-w-of (clockwise_form o) (simple-form o h)

  -- Piece k of the border, counted from 0, leads from the first corner of frame k to that of the next frame
  pub piece-leads : (k : ℕ) → k < 4 → Leads (border o) k (corner_at o (corner_place o k)) (corner_at o (corner_place o (next k)))
  piece-leads k l = rw (corner-form o h k, corner-form o h (next k)) at (leads-on (border o) turning k l)

  -- Its first letter, which its word leaves out, is never a back-step (contract 3.5 and 3.6)
  pub first-letter-own : (k : ℕ) → k < 4 → is_back_step (frame_of k) (get_or (piece (border o) k) 0 0) ≡ false
  first-letter-own k l = begins-on (border o) turning k l

  -- As in contract 3.3: from W to N, on to E, on to S and back to W
  pub pieces-lead : PiecesLead o
  pieces-lead =
      let four = four-corners o h in
      record {
        w = corner_at o (corner_place o 0);
        n = corner_at o (corner_place o 1);
        e = corner_at o (corner_place o 2);
        s = corner_at o (corner_place o 3);
        is_west = four.west.here;
        is_north = four.north.here;
        is_east = four.east.here;
        is_south = four.south.here;
        begins = cut-zero (border o);
        to_north = piece-leads 0 (omega arith);
        to_east = piece-leads 1 (omega arith);
        to_south = piece-leads 2 (omega arith);
        to_west = piece-leads 3 (omega arith);
      }
