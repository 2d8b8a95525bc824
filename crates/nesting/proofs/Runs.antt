-- The inside cells of a row form an interval of columns: along a row a side value is linear, so each edge bounds the columns on one side.
use Prim.Native.Nat.{ℕ, zero, suc, ◌+◌, ◌*◌, ◌≤◌, ◌<◌, min, max}
use native.Mathlib.Nat.{le-div_iff_mul-le, div-lt_iff_lt-mul}
use native.Mathlib.Omega.{arith}
use mathlib.Core.Path.{◌≡◌, refl}
use mathlib.Core.Logic.{◌↔◌}
use mathlib.Core.Bool.{Bool, true, false, cond, and-eq-true_iff}
use mathlib.Core.List.{List, [], ◌∷◌}
use lib.IntN.{ℤ, pos, negsuc, ◌+ℤ◌, ◌-ℤ◌}
use Rattle.chart.specs.Limits.{side}
use Rattle.base.proofs.IntegerOrder.{up, down, AtMost}
use Rattle.base.proofs.Differences.{Is, is-self, is-minus}
use Rattle.convexity.specs.Edges.{Edge}
use Rattle.convexity.specs.Inside.{not_negative, side_value, none_outside, col_steps, row_steps, lowest_met, highest_met, within, inside_at}
use Rattle.convexity.proofs.Signed.{not-negative-iff}
use Rattle.directions.proofs.Cross.{is-cross, side-cross}
use Rattle.nesting.specs.Cells.{Polygon}
use Rattle.nesting.specs.Rows.{edge_from, edge_to, edges_from, edges_to, start_at, end_after, run_from, run_to}
use Rattle.nesting.proofs.Means.{inside-parts, inside-of-parts, within-parts, within_of}

-- c is in the interval from lo, included, to hi, excluded
abbrev pub In : ℕ → ℕ → ℕ → Type 0
In lo hi c = (lo ≤ c) × (c < hi)

-- The side value at column c is dy·c plus the side value at column 0
pub side-column :
    (dx dy x y r : ℤ) (c : ℕ)
    → Is (side_value dx dy x y (pos c) r) (up (side_value dx dy x y (pos 0) r) + up dy * c)
    (down (side_value dx dy x y (pos 0) r) + down dy * c)
side-column dx dy x y r c =
    let s = is-cross (is-self dx) (is-self dy) (is-minus (is-self (pos c)) (is-self x)) (is-self (r -ℤ y)) in
    let t = is-cross (is-self dx) (is-self dy) (is-minus (is-self (pos 0)) (is-self x)) (is-self (r -ℤ y)) in
    rw (side-cross dx dy x y (pos c) r, side-cross dx dy x y (pos 0) r) (record { eq = omega (arith, s.eq, t.eq) })

-- One edge
pub edge_in : (dy b : ℤ) (c : ℕ) → c < side → down b + down dy * c ≤ up b + up dy * c → In (edge_from dy b) (edge_to dy b) c
unfolding edge_from edge_to
edge_in (pos zero) (pos b) c l h = omega arith
edge_in (pos zero) (negsuc b) c l h = absurd (omega arith)
edge_in (pos (suc n)) (pos b) c l h = omega arith
edge_in (pos (suc n)) (negsuc b) c l h = ((div-lt_iff_lt-mul {k = suc n} (omega arith)).1 (omega arith), l)
edge_in (negsuc n) (pos b) c l h = omega (arith, (le-div_iff_mul-le {k = suc n} {x = c} {y = b} (omega arith)).1 (omega arith))
edge_in (negsuc n) (negsuc b) c l h = absurd (omega arith)

pub in-edge : (dy b : ℤ) (c : ℕ) → In (edge_from dy b) (edge_to dy b) c → down b + down dy * c ≤ up b + up dy * c
unfolding edge_from edge_to
in-edge (pos zero) (pos b) c h = omega arith
in-edge (pos zero) (negsuc b) c h = absurd (omega arith)
in-edge (pos (suc n)) (pos b) c h = omega arith
in-edge (pos (suc n)) (negsuc b) c h = omega (arith, (div-lt_iff_lt-mul {k = suc n} {x = b} {y = c} (omega arith)).0 h.0)
in-edge (negsuc n) (pos b) c h = omega (arith, (le-div_iff_mul-le {k = suc n} {x = c} {y = b} (omega arith)).0 (omega arith))
in-edge (negsuc n) (negsuc b) c h = absurd (omega arith)

-- All edges
edges-in : (es : List Edge) (x y r : ℤ) (c : ℕ) → c < side → none_outside es x y (pos c) r ≡ true
    → In (edges_from es x y r) (edges_to es x y r) c
unfolding none_outside edges_from edges_to
edges-in [] x y r c l e = omega arith
edges-in ((dx, dy) ∷ es) x y r c l e =
    let k = (and-eq-true_iff (not_negative (side_value dx dy x y (pos c) r)) (none_outside es (x +ℤ dx) (y +ℤ dy) (pos c) r)).0 e in
    let b = side_value dx dy x y (pos 0) r in
    let here = edge_in dy b c l ((not-negative-iff (side-column dx dy x y r c)).0 k.0) in
    let rest = edges-in es (x +ℤ dx) (y +ℤ dy) r c l k.1 in
    omega (arith, here.0, here.1, rest.0, rest.1)

in-edges : (es : List Edge) (x y r : ℤ) (c : ℕ) → In (edges_from es x y r) (edges_to es x y r) c → none_outside es x y (pos c) r ≡ true
unfolding none_outside edges_from edges_to
in-edges [] x y r c h = refl
in-edges ((dx, dy) ∷ es) x y r c h =
    let b = side_value dx dy x y (pos 0) r in
    let here : In (edge_from dy b) (edge_to dy b) c = omega arith in
    let rest : In (edges_from es (x +ℤ dx) (y +ℤ dy) r) (edges_to es (x +ℤ dx) (y +ℤ dy) r) c = omega arith in
    (and-eq-true_iff _ _).1 ((not-negative-iff (side-column dx dy x y r c)).1 (in-edge dy b c here), in-edges es (x +ℤ dx) (y +ℤ dy) r c rest)

pub edges-below : (es : List Edge) (x y r : ℤ) → edges_to es x y r ≤ side
unfolding edges_to
edges-below [] x y r = omega arith
edges-below ((dx, dy) ∷ es) x y r = omega (arith, edges-below es (x +ℤ dx) (y +ℤ dy) r)

-- The extremes
pub start-iff : (z : ℤ) (c : ℕ) → AtMost z (pos c) ↔ (start_at z ≤ c)
unfolding start_at
start-iff (pos n) c = ((λ l. omega arith), λ l. omega arith)
start-iff (negsuc n) c = ((λ l. omega arith), λ l. omega arith)

pub end-iff : (z : ℤ) (c : ℕ) → AtMost (pos c) z ↔ (c < end_after z)
unfolding end_after
end-iff (pos n) c = ((λ l. omega arith), λ l. omega arith)
end-iff (negsuc n) c = ((λ l. absurd (omega arith)), λ l. absurd (omega arith))

module _ (p : Polygon) (r c : ℕ) where
  abbrev es : List Edge
  es = p.edges

  abbrev x : ℤ
  x = pos p.anchor.col

  abbrev y : ℤ
  y = pos p.anchor.row

  inside-run : c < side → inside_at es x y (pos c) (pos r) ≡ true → In (run_from p r) (run_to p r) c
  unfolding run_from run_to
  inside-run l e =
      let k = inside-parts es x y (pos c) (pos r) e in
      let w = within-parts (col_steps es) x (pos c) k.0 in
      let s = (start-iff (lowest_met (col_steps es) x) c).0 w.0 in
      let t = (end-iff (highest_met (col_steps es) x) c).0 w.1 in
      let v = edges-in es x y (pos r) c l k.2 in
      rw k.1 (omega (arith, s, t, v.0, v.1))

  run_inside : In (run_from p r) (run_to p r) c → inside_at es x y (pos c) (pos r) ≡ true
  unfolding run_from run_to
  run_inside h = go (within (row_steps es) y (pos r)) refl h
    where
      go :
          (s : Bool) → within (row_steps es) y (pos r) ≡ s
          → In (max (start_at (lowest_met (col_steps es) x)) (edges_from es x y (pos r)))
          (cond s (min (end_after (highest_met (col_steps es) x)) (edges_to es x y (pos r))) 0) c
          → inside_at es x y (pos c) (pos r) ≡ true
      go true e m =
          let s = (start-iff (lowest_met (col_steps es) x) c).1 (omega arith) in
          let t = (end-iff (highest_met (col_steps es) x) c).1 (omega arith) in
          inside-of-parts es x y (pos c) (pos r) (within_of (col_steps es) x (pos c) s t) e (in-edges es x y (pos r) c (omega arith))
      go false e m = absurd (omega arith)

  -- The theorem, for any edges
  pub row-run : c < side → (inside_at es x y (pos c) (pos r) ≡ true) ↔ In (run_from p r) (run_to p r) c
  row-run l = (inside-run l, run_inside)

-- An interval ends at column 255 or before
pub run-below : (p : Polygon) (r : ℕ) → run_to p r ≤ side
unfolding run_to
run-below p r = go (within (row_steps p.edges) (pos p.anchor.row) (pos r))
  where
    go :
        (s : Bool)
        → cond s (min (end_after (highest_met (col_steps p.edges) (pos p.anchor.col)))
        (edges_to p.edges (pos p.anchor.col) (pos p.anchor.row) (pos r))) 0
        ≤ side
    go true = omega (arith, edges-below p.edges (pos p.anchor.col) (pos p.anchor.row) (pos r))
    go false = omega arith
