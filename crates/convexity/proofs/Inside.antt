-- Inside is decided piece by piece: the edges lead through the first cells of the four pieces, which have the extreme columns and rows,
-- and the side values of each piece are the same in its own frame.
use Prim.Native.Nat.{ℕ, zero, suc, ◌+◌, ◌-◌, ◌≤◌, ◌<◌}
use native.Mathlib.Nat.{le_refl}
use native.Mathlib.Omega.{arith}
use mathlib.Core.Path.{◌≡◌, refl, sym, ap, ◌∙◌}
use mathlib.Core.Logic.Iff
use mathlib.Core.Logic.{◌↔◌, ◌⊎◌, inl, inr, ⊎_elim, ⊎_map}
use mathlib.Core.Bool.{Bool, true, false, cond, and-eq-true_iff}
use mathlib.Core.List.{List, [], ◌∷◌, ◌++◌}
use lib.IntN.{ℤ, pos, ◌+ℤ◌, +ℤ_assoc, +ℤ_idr}
use lib.Signed.{le_z}
use Rattle.words.specs.Word.{earliers, laters}
use Rattle.words.specs.Lyndon.{Factor, copies, written}
use Rattle.words.proofs.Factors.{factors-exist}
use Rattle.words.proofs.Counts.{earliers-append, laters-append, earliers-copies, laters-copies}
use Rattle.base.proofs.BelowLaws.{below-four}
use Rattle.chart.specs.declared.Point.{Point}
use Rattle.chart.specs.Outline.{Outline}
use Rattle.chart.specs.Limits.{side}
use Rattle.lattice.specs.Chart.{walk, corner_at}
use Rattle.convexity.specs.Frame.{Frame, frame_of, along, next}
use Rattle.convexity.specs.Cut.{cut}
use Rattle.convexity.specs.Edges.{Edge, pairs}
use Rattle.convexity.specs.Pieces.{word, factors, edges_of, edges}
use Rattle.convexity.specs.Inside.{minℤ, maxℤ, none_outside, col_steps, row_steps, total, lowest_met, highest_met, within, inside_at}
use Rattle.convexity.specs.Inside.{inside_edges}
use Rattle.convexity.specs.Shape.{Shape}
use Rattle.convexity.proofs.Frame.{Sides, run, rise}
use Rattle.convexity.specs.parts.InFrame.{start_of, start_e, start_l, cell_along, cell_e, cell_l}
use Rattle.convexity.proofs.Ring.{next-lt, next-suc, next-round, all-round}
use Rattle.base.proofs.IntegerOrder.{up, down, at-most-iff, not-at-most}
use Rattle.base.proofs.Differences.{Is, is-self, is-add, is-unique, le_iff}
use Rattle.convexity.proofs.Signed.{Counted, Lies, Placed, placed-cell, lies-next, step-lies, lies-step, reached}
use Rattle.convexity.proofs.Signed.{lies-end, lies-sides, pairs-append, none-outside-append, cols-append, rows_append}
use Rattle.convexity.proofs.Signed.{reached-append}

-- ---- the vertices of a list of edges

-- P holds for some vertex of the edges es from (x, y)
unfoldable pub Meets : (ℤ → ℤ → Type 0) → List Edge → ℤ → ℤ → Type 0
Meets P [] x y = P x y
Meets P ((dx, dy) ∷ es) x y = P x y ⊎ Meets P es (x +ℤ dx) (y +ℤ dy)

min-iff : (a b c : ℤ) → (le_z (minℤ a b) c ≡ true) ↔ ((le_z a c ≡ true) ⊎ (le_z b c ≡ true))
unfolding minℤ
min-iff a b c = go (le_z a b) refl
  where
    go : (t : Bool) → le_z a b ≡ t → (le_z (cond t a b) c ≡ true) ↔ ((le_z a c ≡ true) ⊎ (le_z b c ≡ true))
    go true e = (inl, ⊎_elim (λ h. h) λ h. (at-most-iff a c).1 (omega (arith, (at-most-iff a b).0 e, (at-most-iff b c).0 h)))
    go false e = (inr, ⊎_elim (λ h. (at-most-iff b c).1 (omega (arith, not-at-most a b e, (at-most-iff a c).0 h))) λ h. h)

max-iff : (a b c : ℤ) → (le_z c (maxℤ a b) ≡ true) ↔ ((le_z c a ≡ true) ⊎ (le_z c b ≡ true))
unfolding maxℤ
max-iff a b c = go (le_z a b) refl
  where
    go : (t : Bool) → le_z a b ≡ t → (le_z c (cond t b a) ≡ true) ↔ ((le_z c a ≡ true) ⊎ (le_z c b ≡ true))
    go true e = (inr, ⊎_elim (λ h. (at-most-iff c b).1 (omega (arith, (at-most-iff a b).0 e, (at-most-iff c a).0 h))) λ h. h)
    go false e = (inl, ⊎_elim (λ h. h) λ h. (at-most-iff c a).1 (omega (arith, not-at-most a b e, (at-most-iff c b).0 h)))

either : {A B C D : Type 0} → A ↔ (B ⊎ C) → C ↔ D → A ↔ (B ⊎ D)
either f g = ((λ a. ⊎_map (λ b. b) g.0 (f.0 a)), λ d. f.1 (⊎_map (λ b. b) g.1 d))

or_assoc : {A B C D : Type 0} → B ↔ (C ⊎ D) → (A ⊎ B) ↔ ((A ⊎ C) ⊎ D)
or_assoc f = (
  ⊎_elim (λ a. inl (inl a)) (λ b. ⊎_map inr (λ d. d) (f.0 b)),
  ⊎_elim (⊎_map (λ a. a) λ c. f.1 (inl c)) λ d. inr (f.1 (inr d)),
)

-- The test of the extreme along the earlier letter of frame k. For frames 0 to 3: the lowest column is at most that of the cell x, the
-- highest row at least that of x, the highest column at least, the lowest row at most. Without edges it tests one vertex
unfoldable spans : ℕ → Point → List Edge → ℤ → ℤ → Bool
spans zero x es v w = le_z (lowest_met (col_steps es) v) (pos x.col)
spans (suc zero) x es v w = le_z (pos x.row) (highest_met (row_steps es) w)
spans (suc (suc zero)) x es v w = le_z (pos x.col) (highest_met (col_steps es) v)
spans (suc (suc (suc k))) x es v w = le_z (lowest_met (row_steps es) w) (pos x.row)

-- If Q of a list holds exactly if Q holds at the first vertex or for the rest, then Q holds exactly if it holds at some vertex
meets-iff :
    (Q : List Edge → ℤ → ℤ → Type 0) → ((d e : ℤ) (es : List Edge) (v w : ℤ) → Q ((d, e) ∷ es) v w ↔ (Q [] v w ⊎ Q es (v +ℤ d) (w +ℤ e)))
    → (es : List Edge) (v w : ℤ) → Q es v w ↔ Meets (Q []) es v w
unfolding Meets
meets-iff Q more [] v w = Iff.rfl
meets-iff Q more ((d, e) ∷ es) v w = either (more d e es v w) (meets-iff Q more es (v +ℤ d) (w +ℤ e))

-- The extreme passes exactly if some vertex does
spans-iff : (k : ℕ) (x : Point) (es : List Edge) (v w : ℤ) → (spans k x es v w ≡ true) ↔ Meets (λ a b. spans k x [] a b ≡ true) es v w
unfolding spans lowest_met highest_met col_steps row_steps
spans-iff zero x = meets-iff (λ es v w. spans 0 x es v w ≡ true) λ d e es v w. min-iff v (lowest_met (col_steps es) (v +ℤ d)) (pos x.col)
spans-iff (suc zero) x =
    meets-iff (λ es v w. spans 1 x es v w ≡ true) λ d e es v w. max-iff w (highest_met (row_steps es) (w +ℤ e)) (pos x.row)
spans-iff (suc (suc zero)) x =
    meets-iff (λ es v w. spans 2 x es v w ≡ true) λ d e es v w. max-iff v (highest_met (col_steps es) (v +ℤ d)) (pos x.col)
spans-iff (suc (suc (suc k))) x =
    meets-iff (λ es v w. spans 3 x es v w ≡ true) λ d e es v w. min-iff w (lowest_met (row_steps es) (w +ℤ e)) (pos x.row)

-- A vertex in frame k
placed-spans : (k : ℕ) (x : Point) → x.col < side → x.row < side → {p q : ℕ} {v w : ℤ} → Placed k p q v w
    → (spans k x [] v w ≡ true) ↔ (p ≤ cell_e k x)
unfolding spans lowest_met highest_met col_steps row_steps Counted cell_e cell_along frame_of
placed-spans zero x c r h = Iff.trans (le_iff h.counted.0 (is-self (pos x.col))) (omega arith)
placed-spans (suc zero) x c r h = Iff.trans (le_iff (is-self (pos x.row)) h.counted.1) (omega arith)
placed-spans (suc (suc zero)) x c r h = Iff.trans (le_iff (is-self (pos x.col)) h.counted.0) (omega arith)
placed-spans (suc (suc (suc k))) x c r h = Iff.trans (le_iff h.counted.1 (is-self (pos x.row))) (omega arith)

meets-here : (P : ℤ → ℤ → Type 0) (es : List Edge) (x y : ℤ) → P x y → Meets P es x y
unfolding Meets
meets-here P [] x y h = h
meets-here P ((dx, dy) ∷ es) x y h = inl h

-- A vertex of some edges followed by others is one of the first, or one of the others
meets-append :
    (P : ℤ → ℤ → Type 0) (ds es : List Edge) (x y : ℤ)
    → Meets P (ds ++ es) x y ↔ (Meets P ds x y ⊎ Meets P es (reached (col_steps ds) x) (reached (row_steps ds) y))
unfolding Meets col_steps row_steps reached
meets-append P [] es x y = (inr, ⊎_elim (meets-here P es x y) λ h. h)
meets-append P ((dx, dy) ∷ ds) es x y = or_assoc (meets-append P ds es (x +ℤ dx) (y +ℤ dy))

-- A vertex on the way along a piece that starts at vp along the earlier letter and vq along the later, after e and l letters
pub record Passed (k o vp vq e l : ℕ) (v w : ℤ) : Type 0 where
  pub p : ℕ
  pub q : ℕ
  pub lies : Lies k o p q v w
  pub p-from : vp ≤ p
  pub p-upto : p ≤ vp + e
  pub q-from : vq ≤ q
  pub q-upto : q ≤ vq + l

passed_start : {k o vp vq : ℕ} {x y : ℤ} (e l : ℕ) → Lies k o vp vq x y → Passed k o vp vq e l x y
passed_start {vp = vp} {vq = vq} e l h =
    record { p = vp; q = vq; lies = h; p-from = le_refl vp; p-upto = omega arith; q-from = le_refl vq; q-upto = omega arith }

-- What P implies at every vertex along a piece holds if P holds at one of them
meets-passed :
    (P : ℤ → ℤ → Type 0) (N : Type 0) (k : ℕ) (fs : List Factor) {o vp vq : ℕ} {x y : ℤ} → Lies k o vp vq x y
    → ((v w : ℤ) → Passed k o vp vq (earliers (written fs)) (laters (written fs)) v w → P v w → N)
    → Meets P (pairs (edges_of (frame_of k) fs)) x y → N
unfolding Meets pairs edges_of written
meets-passed P N k [] {x = x} {y = y} h f m = f x y (passed_start _ _ h) m
meets-passed P N k (g ∷ gs) {o = o} {vp = vp} {vq = vq} {x = x} {y = y} h f m =
    ⊎_elim (f x y (passed_start _ _ h)) (meets-passed P N k gs (lies-step k h (step-lies k (run g) (rise g))) λ v w i. f v w (further i)) m
  where
    further :
        {v w : ℤ} → Passed k o (vp + run g) (vq + rise g) (earliers (written gs)) (laters (written gs)) v w
        → Passed k o vp vq (earliers (copies g.times g.word ++ written gs)) (laters (copies g.times g.word ++ written gs)) v w
    further i =
        let across = earliers-append (copies g.times g.word) (written gs) in
        let upward = laters-append (copies g.times g.word) (written gs) in
        let e = earliers-copies g.times g.word in
        let l = laters-copies g.times g.word in
        record {
          p = i.p;
          q = i.q;
          lies = i.lies;
          p-from = omega arith;
          p-upto = omega arith;
          q-from = omega arith;
          q-upto = omega arith;
        }

-- ---- the cycle of the four pieces

module _ (o : Outline) where
  -- The edges of piece k
  abbrev pub piece_pairs : ℕ → List Edge
  piece_pairs k = pairs (edges_of (frame_of k) (factors o k))

  pub edge-pairs : pairs (edges o) ≡ piece_pairs 0 ++ (piece_pairs 1 ++ (piece_pairs 2 ++ piece_pairs 3))
  unfolding edges
  edge-pairs = simp pairs-append

  -- The first cell of piece k, reached along the edges
  unfoldable pub first_col : ℕ → ℤ
  first_col zero = pos o.start.col
  first_col (suc k) = reached (col_steps (piece_pairs k)) (first_col k)

  unfoldable pub first_row : ℕ → ℤ
  first_row zero = pos o.start.row
  first_row (suc k) = reached (row_steps (piece_pairs k)) (first_row k)

  whole-piece : (k : ℕ) → written (factors o k) ≡ word o k
  unfolding factors
  whole-piece k = (factors-exist (word o k)).whole

  first-placed-0 : Placed 0 (start_e o 0) (start_l o 0) (first_col 0) (first_row 0)
  unfolding first_col first_row start_e start_l start_of along frame_of cut corner_at walk Counted
  first-placed-0 = record { counted = omega arith }

  -- The next piece starts where the edges of this one end
  next-corner : Shape o → (k : ℕ) → k < 4 → {x y : ℤ} → Placed k (start_e o k + earliers (word o k)) (start_l o k + laters (word o k)) x y
      → Placed (next k) (start_e o (next k)) (start_l o (next k)) x y
  next-corner g k h p = rw (g.next_later k h) (lies-next k (omega (arith, g.next_earlier k h)) p)

  first-placed : Shape o → (k : ℕ) → k < 4 → Placed k (start_e o k) (start_l o k) (first_col k) (first_row k)
  unfolding first_col first_row
  first-placed g zero l = first-placed-0
  first-placed g (suc k) l =
      rw (next-suc k (omega arith)) at
      (next-corner g k (omega arith) (rw whole-piece at (lies-end k (factors o k) (first-placed g k (omega arith)))))

  -- The last piece ends at the first cell of the first
  last-placed : Shape o → Placed 0 (start_e o 0) (start_l o 0) (first_col 4) (first_row 4)
  unfolding first_col first_row
  last-placed g = next-corner g 3 (omega arith) (rw whole-piece at (lies-end 3 (factors o 3) (first-placed g 3 (omega arith))))

  -- P holds for some vertex of piece k
  abbrev MeetsPiece : (ℤ → ℤ → Type 0) → ℕ → Type 0
  MeetsPiece P k = Meets P (piece_pairs k) (first_col k) (first_row k)

  abbrev MeetsSome : (ℤ → ℤ → Type 0) → Type 0
  MeetsSome P = MeetsPiece P 0 ⊎ (MeetsPiece P 1 ⊎ (MeetsPiece P 2 ⊎ MeetsPiece P 3))

  meets-edges : (P : ℤ → ℤ → Type 0) → Meets P (pairs (edges o)) (pos o.start.col) (pos o.start.row) ↔ MeetsSome P
  unfolding first_col first_row
  meets-edges P = rw edge-pairs (either (meets-append P _ _ _ _) (either (meets-append P _ _ _ _) (meets-append P _ _ _ _)))

  among : (P : ℤ → ℤ → Type 0) (j : ℕ) → j < 4 → MeetsPiece P j → MeetsSome P
  among P = below-four (λ j. MeetsPiece P j → MeetsSome P) inl (λ m. inr (inl m)) (λ m. inr (inr (inl m))) (λ m. inr (inr (inr m)))

  -- No side value of piece k is below 0, in its frame
  abbrev RightSide : Point → ℕ → Type 0
  RightSide x k = Sides (factors o k) (start_e o k) (start_l o k) (cell_e k x) (cell_l k x)

  module _ (g : Shape o) (x : Point) (x-col : x.col < side) (x-row : x.row < side) where
    -- No vertex of piece j is less far along the earlier letter of any frame than the first cell of that frame's piece
    none_before :
        (j : ℕ) → j < 4 → {v w : ℤ} → Passed j (side - 1) (start_e o j) (start_l o j) (earliers (word o j)) (laters (word o j)) v w
        → (k : ℕ) → k < 4 → spans k x [] v w ≡ true → start_e o k ≤ cell_e k x
    none_before j h {v} {w} i =
        let a = next-lt j in
        let b = next-lt (next j) in
        let here = i.lies in
        let after = lies-next j {q' = side - 1 - i.q} (omega (arith, g.next_earlier j h)) here in
        let across = lies-next (next j) {q' = side - 1 - i.p} (omega (arith, g.next_later j h, g.next_earlier (next j) a)) after in
        let back = lies-next (next (next j)) {q' = i.q} (omega (arith, g.next_earlier j h)) across in
        all-round (λ k. spans k x [] v w ≡ true → start_e o k ≤ cell_e k x) j h
        (λ m. omega (arith, (placed-spans j x x-col x-row here).0 m))
        (λ m. omega (arith, (placed-spans (next j) x x-col x-row after).0 m, g.next_earlier j h))
        (λ m. omega (arith, (placed-spans (next (next j)) x x-col x-row across).0 m, g.next_later j h, g.next_earlier (next j) a))
        (λ m. omega (
          arith,
          (placed-spans (next (next (next j))) x x-col x-row back).0 m,
          rw (next-round j h) at (g.next_later (next (next (next j))) (next-lt (next (next j)))),
        ))

    -- So the extreme along each frame's earlier letter is that of its piece's first cell
    extreme : (k : ℕ) → k < 4 → (spans k x (pairs (edges o)) (pos o.start.col) (pos o.start.row) ≡ true) ↔ (start_e o k ≤ cell_e k x)
    extreme k l =
        Iff.trans (spans-iff k x (pairs (edges o)) (pos o.start.col) (pos o.start.row)) (
          λ m. ⊎_elim (passes 0 (omega arith)) (⊎_elim (passes 1 (omega arith)) (⊎_elim (passes 2 (omega arith)) (passes 3 (omega arith))))
              ((meets-edges P).0 m),
          λ n. (meets-edges P).1 (among P k l (meets-here P _ _ _ ((placed-spans k x x-col x-row (first-placed g k l)).1 n))),
        )
      where
        P : ℤ → ℤ → Type 0
        P v w = spans k x [] v w ≡ true

        passes : (j : ℕ) → j < 4 → MeetsPiece P j → start_e o k ≤ cell_e k x
        passes j h = meets-passed P _ j (factors o j) (first-placed g j h) λ v w i. none_before j h (rw whole-piece at i) k l

    none-outside-iff :
        (none_outside (pairs (edges o)) (pos o.start.col) (pos o.start.row) (pos x.col) (pos x.row) ≡ true)
        ↔ (RightSide x 0 × (RightSide x 1 × (RightSide x 2 × RightSide x 3)))
    unfolding first_col first_row
    none-outside-iff = rw edge-pairs (split 0 _ (omega arith) (split 1 _ (omega arith) (split 2 _ (omega arith) (sides 3 (omega arith)))))
      where
        sides : (k : ℕ) → k < 4
            → (none_outside (piece_pairs k) (first_col k) (first_row k) (pos x.col) (pos x.row) ≡ true) ↔ RightSide x k
        sides k l = lies-sides k (factors o k) (first-placed g k l) (placed-cell k x x-col x-row)

        split :
            (k : ℕ) (es : List Edge) → k < 4 → {A : Type 0}
            → (none_outside es (first_col (suc k)) (first_row (suc k)) (pos x.col) (pos x.row) ≡ true) ↔ A
            → (none_outside (piece_pairs k ++ es) (first_col k) (first_row k) (pos x.col) (pos x.row) ≡ true) ↔ (RightSide x k × A)
        split k es l i = rw (none-outside-append (piece_pairs k) es) (Iff.trans (and-eq-true_iff _ _) (Iff.and (sides k l) i))

-- Columns, then rows, then side values: two facts about each piece
gather : (A B : ℕ → Type 0) → (((A 0 × A 2) × (A 3 × A 1)) × (B 0 × (B 1 × (B 2 × B 3)))) ↔ ((k : ℕ) → k < 4 → A k × B k)
gather A B = (
  λ h. below-four (λ k. A k × B k) (h.0.0.0, h.1.0) (h.0.1.1, h.1.1.0) (h.0.0.1, h.1.1.1.0) (h.0.1.0, h.1.1.1.1),
  λ h.
      let w = h 0 (omega arith) in
      let n = h 1 (omega arith) in
      let e = h 2 (omega arith) in
      let o = h 3 (omega arith) in
      (((w.0, e.0), (o.0, n.0)), (w.1, (n.1, (e.1, o.1)))),
)

-- The rule of a loose query in the four frames
pub inside-iff :
    (o : Outline) → Shape o → (x : Point) → x.col < side → x.row < side
    → (inside_edges o.start (edges o) x ≡ true)
    ↔ ((k : ℕ) → k < 4 → (start_e o k ≤ cell_e k x) × Sides (factors o k) (start_e o k) (start_l o k) (cell_e k x) (cell_l k x))
unfolding inside_edges inside_at within spans
inside-iff o g x c r =
    let cols = Iff.trans (and-eq-true_iff _ _) (Iff.and (extreme o g x c r 0 (omega arith)) (extreme o g x c r 2 (omega arith))) in
    let rows = Iff.trans (and-eq-true_iff _ _) (Iff.and (extreme o g x c r 3 (omega arith)) (extreme o g x c r 1 (omega arith))) in
    Iff.trans (and-eq-true_iff _ _) (Iff.trans (Iff.and (Iff.trans (and-eq-true_iff _ _) (Iff.and cols rows)) (none-outside-iff o g x c r))
    (gather (λ k. start_e o k ≤ cell_e k x) (RightSide o x)))

-- ---- the edges close

reached-total : (ds : List ℤ) (x : ℤ) → reached ds x ≡ x +ℤ total ds
unfolding reached total
reached-total [] x = sym (+ℤ_idr x)
reached-total (d ∷ ds) x = reached-total ds (x +ℤ d) ∙ +ℤ_assoc x d (total ds)

total-nil : (ds : List ℤ) (x : ℤ) → reached ds x ≡ x → total ds ≡ pos 0
total-nil ds x e =
    let sum = is-add (is-self x) (is-self (total ds)) in
    is-unique (is-self (total ds)) (is-self (pos 0))
    (omega (arith, sum.eq, ap up (sym (reached-total ds x) ∙ e), ap down (sym (reached-total ds x) ∙ e)))

module _ (o : Outline) where
  cols-reached : reached (col_steps (pairs (edges o))) (pos o.start.col) ≡ first_col o 4
  unfolding first_col
  cols-reached = simp (edge-pairs, cols-append, reached-append)

  rows-reached : reached (row_steps (pairs (edges o))) (pos o.start.row) ≡ first_row o 4
  unfolding first_row
  rows-reached = simp (edge-pairs, rows_append, reached-append)

  -- The edges lead back to the anchor
  pub edges-return :
      Shape o → let es = pairs (edges o) in
      (reached (col_steps es) (pos o.start.col) ≡ pos o.start.col)
      × (reached (row_steps es) (pos o.start.row) ≡ pos o.start.row)
  unfolding Counted first_col first_row
  edges-return h =
      let start = (first-placed-0 o).counted in
      let stop = (last-placed o h).counted in
      (cols-reached ∙ is-unique stop.0 start.0 refl, rows-reached ∙ is-unique stop.1 start.1 refl)

  -- The edges sum to zero
  pub edges-close : Shape o → (total (col_steps (pairs (edges o))) ≡ pos 0) × (total (row_steps (pairs (edges o))) ≡ pos 0)
  edges-close h = (total-nil _ _ (edges-return h).0, total-nil _ _ (edges-return h).1)

-- ---- the vertices are on the chart

-- (v, w) is a cell of the chart
pub record IsCell (v w : ℤ) : Type 0 where
  pub cell : Point
  pub col-is : v ≡ pos cell.col
  pub row_is : w ≡ pos cell.row
  pub col-on : cell.col < side
  pub row_on : cell.row < side

placed-is-cell : (k : ℕ) {p q : ℕ} {v w : ℤ} → p < side → q < side → Placed k p q v w → IsCell v w
unfolding Counted
placed-is-cell k {p} {q} {v} {w} l m h = go k h.counted
  where
    cell : (c r : ℕ) → c < side → r < side → Is v c 0 → Is w r 0 → IsCell v w
    cell c r i j x y =
        record {
          cell = record { col = c; row = r };
          col-is = is-unique x (is-self (pos c)) refl;
          row_is = is-unique y (is-self (pos r)) refl;
          col-on = i;
          row_on = j;
        }

    back : {z : ℤ} {n : ℕ} → n < side → Is z (side - 1) n → Is z (side - 1 - n) 0
    back i x = record { eq = omega (arith, x.eq) }

    go : (k : ℕ) → Counted k (side - 1) p q v w → IsCell v w
    go zero c = cell p q l m c.0 c.1
    go (suc zero) c = cell q (side - 1 - p) m (omega arith) c.0 (back l c.1)
    go (suc (suc zero)) c = cell (side - 1 - p) (side - 1 - q) (omega arith) (omega arith) (back l c.0) (back m c.1)
    go (suc (suc (suc k))) c = cell (side - 1 - q) p (omega arith) l (back m c.0) c.1

-- A vertex is a cell of the chart
pub vertex-is-cell :
    (o : Outline) → Shape o → (P : ℤ → ℤ → Type 0) → Meets P (pairs (edges o)) (pos o.start.col) (pos o.start.row)
    → (v : ℤ) × (w : ℤ) × IsCell v w × P v w
vertex-is-cell o g P m =
    ⊎_elim (passes 0 (omega arith)) (⊎_elim (passes 1 (omega arith)) (⊎_elim (passes 2 (omega arith)) (passes 3 (omega arith))))
    ((meets-edges o P).0 m)
  where
    passes : (j : ℕ) → j < 4 → MeetsPiece o P j → (v : ℤ) × (w : ℤ) × IsCell v w × P v w
    passes j h =
        meets-passed P _ j (factors o j) (first-placed o g j h) λ v w i p.
        let i' : Passed j (side - 1) (start_e o j) (start_l o j) (earliers (word o j)) (laters (word o j)) v w = rw whole-piece at i in (
          v,
          w,
          placed-is-cell j (omega (arith, i'.p-upto, g.next_later j h, g.next_earlier (next j) (next-lt j)))
              (omega (arith, i'.q-upto, g.next_earlier j h)) i'.lies,
          p,
        )
