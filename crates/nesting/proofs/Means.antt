-- A mean of three cells inside a polygon is inside it: its side values are means of
-- theirs, and a mean respects the bounds of columns and rows.
use Prim.Native.Nat.{ℕ, ◌+◌, ◌<◌}
use mathlib.Core.Path.{◌≡◌}
use mathlib.Core.Bool.{true, ◌&&◌, and-eq-true_iff}
use mathlib.Core.List.{List}
use lib.IntN.{ℤ}
use lib.Signed.{le_z}
use Rattle.base.proofs.IntegerOrder.{AtMost, at-most-iff}
use Rattle.convexity.specs.Edges.{Edge}
use Rattle.convexity.specs.Inside.{col_steps, row_steps, lowest_met, highest_met, none_outside, within, inside_at}
use Rattle.directions.proofs.Passing.{Inner, inner, none-outside}
use Rattle.directions.proofs.Means.{Meanℤ, mean-least, mean-side, mean-low, mean-high}

-- The parts of "inside"
pub inside-parts :
    (es : List Edge) (x y c r : ℤ) → inside_at es x y c r ≡ true
    → (within (col_steps es) x c ≡ true) × (within (row_steps es) y r ≡ true) × (none_outside es x y c r ≡ true)
unfolding inside_at
inside-parts es x y c r h =
    let k = (and-eq-true_iff (within (col_steps es) x c && within (row_steps es) y r) (none_outside es x y c r)).0 h in
    let l = (and-eq-true_iff (within (col_steps es) x c) (within (row_steps es) y r)).0 k.0 in
    (l.0, l.1, k.1)

pub inside-of-parts :
    (es : List Edge) (x y c r : ℤ) → within (col_steps es) x c ≡ true → within (row_steps es) y r ≡ true → none_outside es x y c r ≡ true
    → inside_at es x y c r ≡ true
unfolding inside_at
inside-of-parts es x y c r k l n = (and-eq-true_iff _ _).1 ((and-eq-true_iff _ _).1 (k, l), n)

pub within-parts : (ds : List ℤ) (x c : ℤ) → within ds x c ≡ true → AtMost (lowest_met ds x) c × AtMost c (highest_met ds x)
unfolding within
within-parts ds x c h =
    let k = (and-eq-true_iff (le_z (lowest_met ds x) c) (le_z c (highest_met ds x))).0 h in
    ((at-most-iff (lowest_met ds x) c).0 k.0, (at-most-iff c (highest_met ds x)).0 k.1)

pub within_of : (ds : List ℤ) (x c : ℤ) → AtMost (lowest_met ds x) c → AtMost c (highest_met ds x) → within ds x c ≡ true
unfolding within
within_of ds x c l h = (and-eq-true_iff _ _).1 ((at-most-iff (lowest_met ds x) c).1 l, (at-most-iff c (highest_met ds x)).1 h)

module _ {w i j k : ℕ} (g : 0 < w) (e : w ≡ i + j + k) where
  mean-between :
      (ds : List ℤ) (x c : ℤ) {p q t : ℤ} → Meanℤ w i j k c p q t → within ds x p ≡ true → within ds x q ≡ true → within ds x t ≡ true
      → within ds x c ≡ true
  mean-between ds x c {p} {q} {t} h l m n =
      let a = within-parts ds x p l in
      let b = within-parts ds x q m in
      let d = within-parts ds x t n in
      within_of ds x c (mean-low g e (lowest_met ds x) h a.0 b.0 d.0) (mean-high g e (highest_met ds x) h a.1 b.1 d.1)

  mean-inner :
      {es : List Edge} {x y c r cp rp cq rq ct rt : ℤ} → Meanℤ w i j k c cp cq ct → Meanℤ w i j k r rp rq rt → Inner es x y cp rp
      → Inner es x y cq rq
      → Inner es x y ct rt → Inner es x y c r
  mean-inner h l p q t =
      record {
        side =
            λ ex ey u v fs m. mean-least g (mean-side ex ey u v e h l) (p.side ex ey u v fs m) (q.side ex ey u v fs m)
            (t.side ex ey u v fs m);
      }

  pub mean-inside :
      (es : List Edge) (x y c r cp rp cq rq ct rt : ℤ) → Meanℤ w i j k c cp cq ct → Meanℤ w i j k r rp rq rt → inside_at es x y cp rp ≡ true
      → inside_at es x y cq rq ≡ true → inside_at es x y ct rt ≡ true → inside_at es x y c r ≡ true
  mean-inside es x y c r cp rp cq rq ct rt h l p q t =
      let a = inside-parts es x y cp rp p in
      let b = inside-parts es x y cq rq q in
      let d = inside-parts es x y ct rt t in
      inside-of-parts es x y c r (mean-between (col_steps es) x c h a.0 b.0 d.0)
      (mean-between (row_steps es) y r l a.1 b.1 d.1)
      (none-outside es x y c r (mean-inner h l (inner es x y cp rp a.2) (inner es x y cq rq b.2) (inner es x y ct rt d.2)))
