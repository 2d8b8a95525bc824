-- A cell is in the hull exactly if a lower line is at or below it and an upper line at or above it.
use Prim.Native.Nat.{ℕ, ◌+◌, ◌-◌, ◌*◌, ◌≤◌, ◌<◌}
use native.Mathlib.Nat.{sub_self, mul-le-mul_left}
use native.Mathlib.Decide.{dec_le, dec_lt}
use native.Mathlib.Omega.{arith}
use mathlib.Core.Path.{◌≡◌, refl, ap}
use mathlib.Core.Bool.{Bool, true, false}
use Rattle.chart.specs.declared.Point.{Point}
use Rattle.lattice.specs.Hull.{InTriangle, InHull}
use Rattle.sections.proofs.Lines.{Runs, Line, own, line, Lower, Upper}
use Rattle.sections.proofs.Sides.{Dir, dir-cancel, dir-as, Mark, triangle-line}
use Rattle.sections.proofs.Fan.{fan}

-- ---- a line is the layer's own end, or goes from an earlier to a later layer

pub data Strict (u : Bool) (full : ℕ → Bool) (end : ℕ → ℕ) (j r : ℕ) : Type 0 where
  here : full j ≡ true → Dir u (end j) r → Strict u full end j r
  across : (i k : ℕ) → full i ≡ true → full k ≡ true → i < j → j < k → Dir u ((k - j) * end i + (j - i) * end k) ((k - i) * r)
      → Strict u full end j r

pub strict : (u : Bool) (full : ℕ → Bool) (end : ℕ → ℕ) (j r : ℕ) → Line (Dir u) full end j r → Strict u full end j r
strict u full end j r (own f h) = here f h
strict u full end j r (line i k f g h l m s) =
    elim (dec_lt i j) [
      | yes a ↦ elim (dec_lt j k) [ yes b ↦ across i k f g a b s | no b ↦ last (omega arith) ]
      | no a ↦ first (omega arith)
    ]
  where
    first : i ≡ j → Strict u full end j r
    first e = here (rw e at f) (dir-cancel u (k - j) (end j) r (omega arith) (dir-as u (rw (e, sub_self) (omega arith)) (rw e refl) s))

    last : k ≡ j → Strict u full end j r
    last e = here (rw e at g) (dir-cancel u (j - i) (end j) r (omega arith) (dir-as u (rw (e, sub_self) (omega arith)) (rw e refl) s))

-- ---- the weights that put the line from layer i to layer k into layer j

straddle-by : (i j k d e : ℕ) → j ≡ i + d → k ≡ j + e → (e + d) * j ≡ e * i + d * k
straddle-by i j k d e h l = omega (arith, ap (λ n. e * n) h, ap (λ n. d * n) l)

straddle : (i j k : ℕ) → i ≤ j → j ≤ k → (k - j + (j - i)) * j ≡ (k - j) * i + (j - i) * k
straddle i j k h l = straddle-by i j k (j - i) (k - j) (omega arith) (omega arith)

straddle-back : (i j k : ℕ) → i ≤ j → j ≤ k → (j - i + (k - j)) * j ≡ (j - i) * k + (k - j) * i
straddle-back i j k h l = add-comm' (k - j) (j - i) i k j (straddle i j k h l)
  where
    add-comm' : (e d i k j : ℕ) → (e + d) * j ≡ e * i + d * k → (d + e) * j ≡ d * k + e * i
    add-comm' e d i k j h = omega arith

split : (u : Bool) (i j k a r : ℕ) → i ≤ j → j ≤ k → Dir u a ((k - i) * r) → Dir u a ((k - j + (j - i)) * r)
split u i j k a r h l = dir-as u refl (ap (λ n. n * r) (omega arith))

turn-round : (e d a b r : ℕ) → e * a + d * b ≤ (e + d) * r → d * b + e * a ≤ (d + e) * r
turn-round e d a b r h = omega arith

turn-under : (e d a b r : ℕ) → (e * a + d * b ≤ (e + d) * r → ⊥) → (d + e) * r ≤ d * b + e * a
turn-under e d a b r h = omega arith

-- The end of layer l as a cell
abbrev cell : (ℕ → ℕ) → ℕ → Point
cell end l = record { col = l; row = end l }

module _ (marked : ℕ → ℕ → Bool) (full : ℕ → Bool) (lo hi : ℕ → ℕ) (runs : Runs marked full lo hi) where
  -- ---- from the hull to the lines

  low-mark : (p : Point) → marked p.col p.row ≡ true → Mark true full lo p
  low-mark p m = record { is-full = runs.is-full p.col p.row m; reached = runs.from-lo p.col p.row m }

  high-mark : (p : Point) → marked p.col p.row ≡ true → Mark false full hi p
  high-mark p m = record { is-full = runs.is-full p.col p.row m; reached = runs.to-hi p.col p.row m }

  pub hull-lower : (x : Point) → InHull marked x → Lower full lo x.col x.row
  hull-lower x h =
      triangle-line true full lo x h.p h.q h.t h.triangle (low-mark _ h.p_marked) (low-mark _ h.q_marked)
      (low-mark _ h.t_marked)

  pub hull-upper : (x : Point) → InHull marked x → Upper full hi x.col x.row
  hull-upper x h =
      triangle-line false full hi x h.p h.q h.t h.triangle (high-mark _ h.p_marked) (high-mark _ h.q_marked)
      (high-mark _ h.t_marked)

  -- ---- from the lines to the hull

  low_end : (l : ℕ) → full l ≡ true → marked l (lo l) ≡ true
  low_end l f = runs.in-run l (lo l) f (omega arith) (runs.ordered l f)

  high_end : (l : ℕ) → full l ≡ true → marked l (hi l) ≡ true
  high_end l f = runs.in-run l (hi l) f (runs.ordered l f) (omega arith)

  of : {x p q t : Point} → marked p.col p.row ≡ true → marked q.col q.row ≡ true → marked t.col t.row ≡ true
      → InTriangle x p q t → InHull marked x
  of {p = p} {q = q} {t = t} m n o h = record { p = p; q = q; t = t; p_marked = m; q_marked = n; t_marked = o; triangle = h }

  pub marked-hull : (x : Point) → marked x.col x.row ≡ true → InHull marked x
  marked-hull x m =
      of {p = x} {q = x} {t = x} m m m (record { a = 1; b = 0; c = 0; above_zero = omega arith; cols = omega arith; rows = omega arith })

  -- The lower line goes through p and t, the upper one through s and u
  between : (j r : ℕ) → Strict true full lo j r → Strict false full hi j r → InHull marked (record { col = j; row = r })
  between j r (here f h) (here g k) = marked-hull _ (runs.in-run j r f h k)
  -- p = t in layer j: the triangle s p u
  between j r (here f h) (across i k g g' a b s) =
      of (high_end i g) (low_end j f) (high_end k g')
      (fan _ (cell hi i) (cell lo j) (cell hi k) (j - i) 0 (k - j) (omega arith) (omega arith) (straddle i j k (omega arith) (omega arith))
      (omega (arith, mul-le-mul_left (j - i) h))
      (split false i j k _ r (omega arith) (omega arith) s))
  -- s = u in layer j: the triangle p t s
  between j r (across i k f f' a b s) (here g h) =
      of (low_end i f) (low_end k f') (high_end j g)
      (fan _ (cell lo i) (cell lo k) (cell hi j) (j - i) (k - j) 0 (omega arith) (straddle i j k (omega arith) (omega arith)) (omega arith)
      (split true i j k _ r (omega arith) (omega arith) s)
      (omega (arith, mul-le-mul_left (j - i) h)))
  -- If the cell is at or above the line s t, it is in the triangle s t u. If it is below, it is in the triangle t p s
  between j r (across i k f f' a b s) (across i' k' g g' a' b' s') =
      elim (dec_le ((k - j) * hi i' + (j - i') * lo k) ((k - j + (j - i')) * r)) [
        | yes m ↦
            of (high_end i' g) (low_end k f') (high_end k' g')
            (fan _ (cell hi i') (cell lo k) (cell hi k') (j - i') (k - j) (k' - j) (omega arith)
            (straddle i' j k (omega arith) (omega arith))
            (straddle i' j k' (omega arith) (omega arith))
            m
            (split false i' j k' _ r (omega arith) (omega arith) s'))
        | no m ↦
            of (low_end k f') (low_end i f) (high_end i' g)
            (fan _ (cell lo k) (cell lo i) (cell hi i') (k - j) (j - i) (j - i') (omega arith)
            (straddle-back i j k (omega arith) (omega arith))
            (straddle-back i' j k (omega arith) (omega arith))
            (turn-round (k - j) (j - i) (lo i) (lo k) r (split true i j k _ r (omega arith) (omega arith) s))
            (turn-under (k - j) (j - i') (hi i') (lo k) r m))
      ]

  -- ---- the theorem

  pub lines-hull : (x : Point) → Lower full lo x.col x.row → Upper full hi x.col x.row → InHull marked x
  lines-hull x l h = between x.col x.row (strict true full lo x.col x.row l) (strict false full hi x.col x.row h)
