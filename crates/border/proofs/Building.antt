-- The loop that writes all edges: what stands in the buffer, followed by what is still to be written, is always the border.
use Prim.Native.Nat.{ℕ, zero, suc, ◌+◌, ◌-◌, ◌≤◌, ◌<◌}
use native.Mathlib.Nat.{add_comm}
use native.Mathlib.Omega.{arith}
use mathlib.Core.Path.{◌≡◌, refl, sym, ap, ◌∙◌, subst}
use mathlib.Core.List.{List, ◌∷◌, ◌++◌, append_assoc}
use lib.ListN.{length, take, drop, set, length-set, length-append}
use lib.Seq.{take-suc-set, length-take-le}
use lib.IntN.{ℤ, nat_abs}
use Rattle.convexity.specs.Edges.{Edge, pairs}
use Rattle.convexity.specs.Frame.{frame_of}
use Rattle.convexity.specs.FromEdges.{quadrant_of, run_in, rise_in, letters_from, step_count}
use Rattle.convexity.proofs.FromEdges.{length-letters}
use Rattle.edge_walk.proofs.Loop.{Chunk, next_edge, no_edge}
use Rattle.border_model.specs.parts.Ordered.{Ordered}
use Rattle.border.specs.parts.Rest.{rest, firsts, letters, step_letters}
use Rattle.border.specs.parts.Wrote.{Wrote}
use Rattle.border.proofs.RestLaws.{all-letters, rest-none, rest-next}
use Rattle.border.proofs.Writing.{wrote-both, length-firsts, length-letters as length-edge}

-- ---- one edge

-- An edge has as many letters as columns and rows
pub run-and-rise : (k : ℕ) (dx dy : ℤ) → run_in k dx dy + rise_in k dx dy ≡ nat_abs dx + nat_abs dy
unfolding run_in rise_in
run-and-rise zero dx dy = refl
run-and-rise (suc zero) dx dy = add_comm (nat_abs dy) (nat_abs dx)
run-and-rise (suc (suc k)) dx dy = run-and-rise k dx dy

length-step : (p : ℕ) (dx dy : ℤ) → length (step_letters p dx dy) ≡ quadrant_of dx dy - p + (nat_abs dx + nat_abs dy)
unfolding step_letters
length-step p dx dy =
    let k = quadrant_of dx dy in
    omega (
      arith,
      length-append (firsts p (k - p)) (letters k (run_in k dx dy) (rise_in k dx dy)),
      length-firsts p (k - p),
      length-edge k (run_in k dx dy) (rise_in k dx dy),
      run-and-rise k dx dy,
    )

-- The first letters of the pieces that begin, and then the edge's own
pub step-wrote :
    (p : ℕ) (dx dy : ℤ) {before middle after : List ℕ} {at k run rise i : ℕ} → k ≡ quadrant_of dx dy → run ≡ run_in (quadrant_of dx dy) dx dy
    → rise ≡ rise_in (quadrant_of dx dy) dx dy → Wrote before at (firsts p (k - p)) middle → i ≡ at + (k - p)
    → Wrote middle i (letters k run rise) after
    → Wrote before at (step_letters p dx dy) after
unfolding step_letters
step-wrote p dx dy {k = k} {i = i} e d f b h w =
    let one = rw e at b in
    let two = rw (e, d, f) at w in
    wrote-both one i (omega (arith, length-firsts p (quadrant_of dx dy - p))) two

-- The first edge of a list in order
pub record First (p : ℕ) (dx dy : ℤ) (es : List Edge) : Type 0 where
  pub from : p ≤ quadrant_of dx dy
  pub small : quadrant_of dx dy < 4
  pub others : Ordered (quadrant_of dx dy) es

first_of : {p : ℕ} {dx dy : ℤ} {es : List Edge} → Ordered p ((dx, dy) ∷ es) → First p dx dy es
first_of (Ordered.more l s r) = record { from = l; small = s; others = r }

-- ---- the loop

-- The first `at` letters are written, piece p was begun last, and the numbers from index i on are still to come
pub record Building (es : List ℤ) (before list : List ℕ) (at p i : ℕ) : Type 0 where
  pub sized : length list ≡ length before
  pub room : length (letters_from es) ≤ length before
  pub passed : i ≤ length es
  pub piece : p ≤ 3
  pub within : at ≤ length before
  pub ordered : Ordered p (pairs (drop i es))
  pub written : take at list ++ rest (3 - p) p (pairs (drop i es)) ≡ letters_from es

pub building-start :
    (es : List ℤ) (list : List ℕ) → Ordered 0 (pairs es) → 4 + step_count (pairs es) ≤ length list
    → let begun = set list 0 (frame_of 0).later in Building es begun begun 1 0 0
building-start es list o h =
    record {
      sized = refl;
      room = omega (arith, length-letters es, length-set list 0 (frame_of 0).later);
      passed = omega arith;
      piece = omega arith;
      within = omega (arith, length-set list 0 (frame_of 0).later);
      ordered = o;
      written = rw (take-suc-set list 0 (frame_of 0).later (omega arith)) (sym (all-letters es));
    }

module _ {es : List ℤ} {before list : List ℕ} {at p i : ℕ} (b : Building es before list at p i) where
  -- How many letters are still to come
  left : at + length (rest (3 - p) p (pairs (drop i es))) ≡ length (letters_from es)
  left =
      omega (
        arith,
        ap length b.written,
        length-append (take at list) (rest (3 - p) p (pairs (drop i es))),
        length-take-le at list (let l : at ≤ length list = omega (arith, b.sized, b.within) in l),
      )

  module _ {dx dy : ℤ} (edge : Chunk es dx dy i) where
    next-here : pairs (drop i es) ≡ (dx, dy) ∷ pairs (drop (i + 2) es)
    next-here = next_edge es i edge.inside ∙ rw (edge.across, edge.up)

    pub first-here : First p dx dy (pairs (drop (i + 2) es))
    first-here = first_of (subst (Ordered p) next-here b.ordered)

    rest-here : rest (3 - p) p (pairs (drop i es))
        ≡ step_letters p dx dy ++ rest (3 - quadrant_of dx dy) (quadrant_of dx dy) (pairs (drop (i + 2) es))
    unfolding step_letters
    rest-here =
        let f = first-here in
        ap (rest (3 - p) p) next-here
        ∙ rest-next p dx dy (pairs (drop (i + 2) es)) (subst (Ordered p) next-here b.ordered) f.from f.small
        f.others

    -- There is room for the edge
    pub step_room : at + (quadrant_of dx dy - p) + (nat_abs dx + nat_abs dy) ≤ length list
    step_room =
        omega (
          arith,
          left,
          ap length rest-here,
          length-append (step_letters p dx dy) (rest (3 - quadrant_of dx dy) (quadrant_of dx dy) (pairs (drop (i + 2) es))),
          length-step p dx dy,
          b.room,
          b.sized,
        )

    pub building-step :
        {after : List ℕ} → Wrote list at (step_letters p dx dy) after
        → Building es before after (at + (quadrant_of dx dy - p) + (nat_abs dx + nat_abs dy)) (quadrant_of dx dy) (i + 2)
    building-step {after} w =
        let f = first-here in
        let k = quadrant_of dx dy in
        let inside = edge.inside in
        let e : at + (k - p) + (nat_abs dx + nat_abs dy) ≡ at + length (step_letters p dx dy) = omega (arith, length-step p dx dy) in
        record {
          sized = w.sized ∙ b.sized;
          room = b.room;
          passed = omega arith;
          piece = omega (arith, f.small);
          within = omega (arith, step_room, b.sized);
          ordered = f.others;
          written =
              ap (λ (n : ℕ). take n after ++ rest (3 - k) k (pairs (drop (i + 2) es))) e
              ∙ ap (λ (u : List ℕ). u ++ rest (3 - k) k (pairs (drop (i + 2) es))) w.written
              ∙ append_assoc (take at list) (step_letters p dx dy) (rest (3 - k) k (pairs (drop (i + 2) es)))
              ∙ ap (λ (u : List ℕ). take at list ++ u) (sym rest-here)
              ∙ b.written;
        }

  module _ (none : length es ≤ i + 1) where
    rest_end : rest (3 - p) p (pairs (drop i es)) ≡ firsts p (3 - p)
    rest_end = rest-none p b.piece (rw (no_edge es i none) Ordered.nothing)

    pub end-room : at + (3 - p) ≤ length list
    end-room = omega (arith, left, ap length rest_end, length-firsts p (3 - p), b.room, b.sized)

    pub building-end : {after : List ℕ} → Wrote list at (firsts p (3 - p)) after → take (4 + step_count (pairs es)) after ≡ letters_from es
    building-end {after} w =
        let e : 4 + step_count (pairs es) ≡ at + length (firsts p (3 - p)) = omega (arith, left, ap length rest_end, length-letters es) in
        ap (λ (n : ℕ). take n after) e ∙ w.written ∙ ap (λ (u : List ℕ). take at list ++ u) (sym rest_end) ∙ b.written

-- ---- how many letters there will be

pub steps_next :
    {es : List ℤ} {dx dy : ℤ} {i : ℕ} → Chunk es dx dy i
    → step_count (pairs (drop i es)) ≡ nat_abs dx + nat_abs dy + step_count (pairs (drop (i + 2) es))
unfolding step_count
steps_next {es} {i = i} e = rw (next_edge es i e.inside, e.across, e.up)

pub steps-end : (es : List ℤ) (i : ℕ) → length es ≤ i + 1 → step_count (pairs (drop i es)) ≡ 0
unfolding step_count
steps-end es i h = rw (no_edge es i h)
