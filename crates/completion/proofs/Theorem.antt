-- The completion of an outline that passes refusals 1 to 6 is taken and encloses exactly the hull of the outline's block. Every taken
-- outline that encloses the block encloses the completion. It has no more letters than the outline.
use Prim.Native.Nat.{ℕ, suc, ◌≤◌, ◌<◌}
use mathlib.Core.Path.{◌≡◌, refl, sym, ap, ◌∙◌}
use mathlib.Core.Bool.{Bool, true, false, true≢false}
use mathlib.Core.Logic.{◌↔◌}
use native.Mathlib.Omega.{arith}
use Rattle.chart.specs.Limits.{side, longest}
use Rattle.chart.specs.declared.Point.{Point}
use Rattle.chart.specs.Outline.{Outline, outline, at}
use Rattle.chart.specs.Fields.{verdict_fields}
use Rattle.lattice.specs.Chart.{size}
use Rattle.lattice.specs.Hull.{InHull, Convex}
use Rattle.lattice.specs.Refusals.{Simple}
use Rattle.lattice.proofs.WalkLaws.{walked}
use Rattle.lattice.proofs.HullLaws.{enclosed-in-hull, missing-same}
use Rattle.rows.specs.parts.Rows.{in_rows}
use Rattle.rows.proofs.Rows.{Rows, within-marked, marked-within}
use Rattle.convexity.specs.Cut.{from_w, clockwise}
use Rattle.convexity.specs.Clockwise.{border, block}
use Rattle.convexity.specs.SameBlock.{SameCells}
use Rattle.convexity.proofs.SameBlock.{same-from-w-iff}
use Rattle.verdict.specs.Verdict.{verdict_of}
use Rattle.verdict.proofs.Convex.{taken-iff-convex}
use Rattle.completion.specs.RowsOutline.{outline_of, Overlapping}
use Rattle.completion.specs.HullRows.{hull_left, hull_right}
use Rattle.completion.specs.Complete.{first_cell, past_cell, first_row, past_row, hull_outline, complete}
use Rattle.completion.proofs.Round.{outline-simple}
use Rattle.completion.proofs.Marks.{outline-clockwise, outline-block}
use Rattle.completion.proofs.HullRows.{Ends, hull-rows, wider_left, wider_right, hull-convex, hull-iff}
use Rattle.completion.proofs.BlockEnds.{block-joined, rows_fit, ends, overlapping}
use Rattle.completion.specs.parts.Written.{written_from}
use Rattle.completion.proofs.Extent.{hull-shorter}
use Rattle.completion.proofs.FromWest.{from-west}

-- Wider rows overlap if the rows do
wider-overlap :
    (lo hi lo' hi' : ℕ → ℕ) (b t : ℕ) → ((r : ℕ) → b ≤ r → r < t → lo' r ≤ lo r) → ((r : ℕ) → b ≤ r → r < t → hi r ≤ hi' r)
    → Overlapping lo hi b t → Overlapping lo' hi' b t
wider-overlap lo hi lo' hi' b t left right h r l m =
    let d = h r l m in (
      omega (arith, d, left r l (omega arith), right (suc r) (omega arith) m),
      omega (arith, d, left (suc r) (omega arith) m, right r l (omega arith)),
    )

-- A convex set has the hull of every part of it
full-holds : (marked whole : ℕ → ℕ → Bool) → Convex whole → ((c r : ℕ) → marked c r ≡ true → whole c r ≡ true) → (x : Point)
    → InHull marked x → whole x.col x.row ≡ true
full-holds marked whole full part x h = go (whole x.col x.row) refl
  where
    go : (b : Bool) → whole x.col x.row ≡ b → whole x.col x.row ≡ true
    go true e = e
    go false e =
        absurd (full x (record {
          hull =
              record {
                p = h.p;
                q = h.q;
                t = h.t;
                p_marked = part h.p.col h.p.row h.p_marked;
                q_marked = part h.q.col h.q.row h.q_marked;
                t_marked = part h.t.col h.t.row h.t_marked;
                triangle = h.triangle;
              };
          open_cell = e;
        }))

module _ (o : Outline) (h : Simple o) where
  abbrev pub lo : ℕ → ℕ
  lo = first_cell (block o)

  abbrev pub hi : ℕ → ℕ
  hi = past_cell (block o)

  abbrev pub b : ℕ
  b = first_row (block o)

  abbrev pub t : ℕ
  t = past_row (block o)

  -- The ends of the hull's rows
  abbrev pub left : ℕ → ℕ
  left = hull_left lo b t

  abbrev pub right : ℕ → ℕ
  right = hull_right hi b t

  row_ends : Ends (block o) (first_cell (block o)) (past_cell (block o)) (first_row (block o)) (past_row (block o))
  row_ends = ends (block o) (block-joined o h)

  rows : Rows (hull_left lo b t) (hull_right hi b t) (first_row (block o)) (past_row (block o))
  rows = hull-rows lo hi b t row_ends.rows

  high : past_row (block o) ≤ side
  high = rows_fit (block o) (block-joined o h)

  shares : Overlapping (hull_left lo b t) (hull_right hi b t) (first_row (block o)) (past_row (block o))
  shares =
      wider-overlap lo hi (hull_left lo b t) (hull_right hi b t) b t (wider_left lo hi b t row_ends.rows)
      (wider_right lo hi b t row_ends.rows)
      (overlapping (block o) (block-joined o h))

  -- No more letters than the outline has
  pub complete-shorter : size (complete o) ≤ size o
  unfolding complete hull_outline
  complete-shorter = hull-shorter o h lo hi b t row_ends

  short : size (outline_of (hull_left lo b t) (hull_right hi b t) b t) ≤ longest
  short = omega (arith, hull-shorter o h lo hi b t row_ends, (walked o h).short)

  -- It passes refusals 1 to 6 and runs clockwise
  pub complete-simple : Simple (complete o)
  unfolding complete hull_outline
  complete-simple = outline-simple (hull_left lo b t) (hull_right hi b t) b t rows high shares short

  pub complete-clockwise : clockwise (from_w (complete o)) ≡ true
  unfolding complete hull_outline
  complete-clockwise = outline-clockwise (hull_left lo b t) (hull_right hi b t) b t rows high shares short

  complete-rows : (c r : ℕ) → block (complete o) c r ≡ in_rows (hull_left lo b t) (hull_right hi b t) b t c r
  unfolding complete hull_outline
  complete-rows = outline-block (hull_left lo b t) (hull_right hi b t) b t rows high shares short

  -- Its block is the hull of the outline's
  pub complete-hull : (x : Point) → (block (complete o) x.col x.row ≡ true) ↔ InHull (block o) x
  complete-hull x =
      let e = hull-iff (block o) lo hi b t row_ends x in (
        λ m. e.1 (marked-within x (sym (complete-rows x.col x.row) ∙ m)),
        λ k. complete-rows x.col x.row ∙ within-marked x (e.0 k),
      )

  pub complete-holds : (c r : ℕ) → block o c r ≡ true → block (complete o) c r ≡ true
  complete-holds c r m = (complete-hull (at c r)).1 (enclosed-in-hull (block o) (at c r) m)

  -- It is convex: the hull of the hull is the hull
  pub complete-convex : Convex (block (complete o))
  complete-convex x m = hull-convex lo hi b t row_ends.rows x (missing-same complete-rows m)

  pub hull-of-hull : (x : Point) → InHull (block (complete o)) x → InHull (block o) x
  hull-of-hull x k = (complete-hull x).0 (full-holds (block (complete o)) (block (complete o)) complete-convex (λ c r m. m) x k)

  -- It is taken
  pub complete-taken : (verdict_fields (verdict_of (complete o))).number ≡ 0
  complete-taken = (taken-iff-convex (complete o) complete-simple).1 complete-convex

  -- It is the smallest: a taken outline that encloses the outline's cells encloses the completion's
  pub complete-least :
      (v : Outline) → Simple v → (verdict_fields (verdict_of v)).number ≡ 0 → ((c r : ℕ) → block o c r ≡ true → block v c r ≡ true)
      → (c r : ℕ) → block (complete o) c r ≡ true → block v c r ≡ true
  complete-least v k taken part c r m =
      full-holds (block o) (block v) ((taken-iff-convex v k).0 taken) part (at c r) ((complete-hull (at c r)).0 m)

  -- The completion of a taken outline encloses its own block, and has its border
  pub complete-own : (verdict_fields (verdict_of o)).number ≡ 0 → SameCells (complete o) o
  complete-own taken c r = go (block o c r) (block (complete o) c r) refl refl
    where
      go : (x y : Bool) → block o c r ≡ x → block (complete o) c r ≡ y → block (complete o) c r ≡ block o c r
      go x true e f = f ∙ sym (complete-least o h taken (λ d s m. m) c r f)
      go false false e f = f ∙ sym e
      go true false e f = absurd (true≢false (sym (complete-holds c r e) ∙ f))

  pub complete-own-border : (verdict_fields (verdict_of o)).number ≡ 0 → border (complete o) ≡ border o
  complete-own-border taken = (same-from-w-iff (complete o) o complete-simple h).0 (complete-own taken)

module _ (o : Outline) (h : Simple o) where
  -- Its border as the loops write it. W is the lower left corner of row m, the lowest of the hull's rows that begin furthest left
  pub complete-border :
      (m : ℕ) → b o h ≤ m → m < t o h → ((r : ℕ) → b o h ≤ r → r < t o h → left o h m ≤ left o h r)
      → ((r : ℕ) → b o h ≤ r → r < m → left o h m < left o h r)
      → border (complete o) ≡ outline (at (left o h m) m) (written_from (left o h) (right o h) (b o h) (t o h) m)
  unfolding complete hull_outline
  complete-border = from-west (left o h) (right o h) (b o h) (t o h) (rows o h) (high o h) (shares o h) (short o h)

-- Outlines of the same block have the same completion
pub complete-same : (o v : Outline) → SameCells o v → complete o ≡ complete v
unfolding complete
complete-same o v same = ap hull_outline (λ i c r. same c r i)

-- The completion of a completion encloses the same block
pub complete-twice : (o : Outline) → Simple o → SameCells (complete (complete o)) (complete o)
complete-twice o h = complete-own (complete o) (complete-simple o h) (complete-taken o h)
