-- The parts follow one another, and together they are the letters round the rows.
use Prim.Native.Nat.{ℕ, ◌+◌, ◌-◌, ◌≤◌, ◌<◌}
use mathlib.Core.Path.{◌≡◌}
use mathlib.Core.List.{List, [], ◌∷◌, ◌++◌}
use lib.ListN.{length, set, length-set}
use native.Mathlib.Omega.{arith}
use Rattle.rows.specs.parts.Rows.{rows}
use Rattle.completion.specs.RowsOutline.{across}
use Rattle.completion.specs.parts.Written.{to_row, descent, written_from}
use Rattle.border_of_rows.specs.parts.Wrote.{Wrote}
use Rattle.border_of_rows.proofs.Writing.{wrote-same, wrote-front, Front, front-put, front-more}
use Rattle.border_of_rows.proofs.Parts.{round-parts, round-length}
use Rattle.border_of_rows.proofs.round.Goals as goal

-- Rows that begin and end at these columns, and the list before
module _ (lo hi : ℕ → ℕ) (b t m : ℕ) (before : List ℕ) (below : m < t) (fits : length (written_from lo hi b t m) ≤ length before) where
  -- The letters part by part
  abbrev first : List ℕ
  first = to_row lo m (t - 1 - m)

  abbrev top : List ℕ
  top = across (lo (t - 1)) (hi (t - 1))

  abbrev fallen : List ℕ
  fallen = descent hi b (t - 1 - b)

  abbrev bottom : List ℕ
  bottom = across (hi b) (lo b)

  abbrev last : List ℕ
  last = to_row lo b (m - b)

  room : length first + 1 + length top + length fallen + length bottom + length last ≤ length before
  room = omega (arith, round-length lo hi b t m below, fits)

  -- What is written after the first two calls, and up to where
  up : {after : List ℕ} {k : ℕ} → (k ≡ 0 + length first) × Wrote before 0 first after → Front before first after k
  up said = record { at = omega (arith, said.0); wrote = said.1 }

  over : {after next : List ℕ} {k n : ℕ} → Front before first after k → (n ≡ k + 1 + length top) × Wrote (set after k 1) (k + 1) top next
      → Front before ((first ++ (1 ∷ [])) ++ top) next n
  over f said = front-more (front-put f 1 (omega (arith, room, f.at))) said.0 said.1

  done : {after : List ℕ} {n : ℕ} → Front before (((((first ++ (1 ∷ [])) ++ top) ++ fallen) ++ bottom) ++ last) after n
      → Wrote before 0 (written_from lo hi b t m) after
  done f = wrote-same (round-parts lo hi b t m below) f.wrote

pub rise-up-requires : goal.rise-up-requires
rise-up-requires c =
    let a = c.args in
    let all = room (rows a.lo.now) (rows a.hi.now) a.b a.t a.m a.out.now c.requires.b_le_m.1 c.requires.m_in_bounds in
    (omega (arith, c.requires.b_le_m), omega (arith, c.requires.b_le_m), omega (arith, all))

pub bounds-out-up : goal.bounds-out-up
bounds-out-up c =
    let a = c.args in
    let all = room (rows a.lo.now) (rows a.hi.now) a.b a.t a.m a.out.now c.requires.b_le_m.1 c.requires.m_in_bounds in
    omega (arith, all, c.rise-up.ensures.0, c.rise-up.ensures.1.sized)

pub overflow_add-up : goal.overflow_add-up
overflow_add-up c =
    let a = c.args in
    let all = room (rows a.lo.now) (rows a.hi.now) a.b a.t a.m a.out.now c.requires.b_le_m.1 c.requires.m_in_bounds in
    omega (arith, all, c.rise-up.ensures.0)

pub across-over-requires : goal.across-over-requires
across-over-requires c =
    let a = c.args in
    let all = room (rows a.lo.now) (rows a.hi.now) a.b a.t a.m a.out.now c.requires.b_le_m.1 c.requires.m_in_bounds in
    omega (arith, all, c.rise-up.ensures.0, c.rise-up.ensures.1.sized, length-set c.rise-up.new.out c.rise-up.result 1)

pub fall-down-requires : goal.fall-down-requires
fall-down-requires c =
    let a = c.args in
    let all = room (rows a.lo.now) (rows a.hi.now) a.b a.t a.m a.out.now c.requires.b_le_m.1 c.requires.m_in_bounds in
    let wide = length-set c.rise-up.new.out c.rise-up.result 1 in (
      omega (arith, c.requires.b_le_m),
      omega (arith, c.requires.b_le_m),
      omega (arith, all, c.rise-up.ensures.0, c.rise-up.ensures.1.sized, wide, c.across-over.ensures.0, c.across-over.ensures.1.sized),
    )

pub across-back-requires : goal.across-back-requires
across-back-requires c =
    let a = c.args in
    let all = room (rows a.lo.now) (rows a.hi.now) a.b a.t a.m a.out.now c.requires.b_le_m.1 c.requires.m_in_bounds in
    let wide = length-set c.rise-up.new.out c.rise-up.result 1 in
    omega (
      arith,
      all,
      c.rise-up.ensures.0,
      c.rise-up.ensures.1.sized,
      wide,
      c.across-over.ensures.0,
      c.across-over.ensures.1.sized,
      c.fall-down.ensures.0,
      c.fall-down.ensures.1.sized,
    )

pub rise-requires : goal.rise-requires
rise-requires c =
    let a = c.args in
    let all = room (rows a.lo.now) (rows a.hi.now) a.b a.t a.m a.out.now c.requires.b_le_m.1 c.requires.m_in_bounds in
    let wide = length-set c.rise-up.new.out c.rise-up.result 1 in (
      omega (arith, c.requires.b_le_m),
      omega (arith, c.requires.b_le_m),
      omega (
        arith,
        all,
        c.rise-up.ensures.0,
        c.rise-up.ensures.1.sized,
        wide,
        c.across-over.ensures.0,
        c.across-over.ensures.1.sized,
        c.fall-down.ensures.0,
        c.fall-down.ensures.1.sized,
        c.across-back.ensures.0,
        c.across-back.ensures.1.sized,
      ),
    )

pub returns : goal.returns
returns c =
    let a = c.args in
    let lo = rows a.lo.now in
    let hi = rows a.hi.now in
    let out = a.out.now in
    let f = up lo hi a.b a.t a.m out c.requires.b_le_m.1 c.requires.m_in_bounds c.rise-up.ensures in
    let g = over lo hi a.b a.t a.m out c.requires.b_le_m.1 c.requires.m_in_bounds f c.across-over.ensures in
    let h = front-more g c.fall-down.ensures.0 c.fall-down.ensures.1 in
    let k = front-more h c.across-back.ensures.0 c.across-back.ensures.1 in
    let l = front-more k c.rise.ensures.0 c.rise.ensures.1 in
    wrote-front (done lo hi a.b a.t a.m out c.requires.b_le_m.1 c.requires.m_in_bounds l)
