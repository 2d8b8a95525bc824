-- A cell of a set is in the set's hull, as a triangle that is one point; equal sets
-- have equal hulls; only one missing cell is the lowest.
-- Then the simplest outlines: the border of one cell encloses that cell, and anticlockwise it encloses nothing.
use Prim.Native.Nat.{ℕ}
use native.Mathlib.Omega.{arith}
use mathlib.Core.Path.{◌≡◌, refl, sym, ◌∙◌}
use mathlib.Core.Logic.{inl, inr, ⊎_elim}
use mathlib.Core.Bool.{Bool, true, false}
use mathlib.Core.List.{[], ◌∷◌}
use Rattle.chart.specs.declared.Point.{Point}
use Rattle.chart.specs.Outline.{outline}
use Rattle.lattice.specs.Chart.{step}
use Rattle.lattice.specs.Enclosed.{encloses, ups, downs, one_if, up_along, down_along}
use Rattle.lattice.specs.Hull.{InHull, Missing, After, LowestMissing}

pub enclosed-in-hull : (marked : ℕ → ℕ → Bool) (x : Point) → marked x.col x.row ≡ true → InHull marked x
enclosed-in-hull marked x e =
    record {
      p = x;
      q = x;
      t = x;
      p_marked = e;
      q_marked = e;
      t_marked = e;
      triangle = record { a = 1; b = 0; c = 0; above_zero = omega arith; cols = omega arith; rows = omega arith };
    }

-- Equal sets have the same hull and the same missing cells
module _ {f g : ℕ → ℕ → Bool} (same : (c r : ℕ) → f c r ≡ g c r) where
  pub hull-same : {x : Point} → InHull f x → InHull g x
  hull-same h =
      record {
        p = h.p;
        q = h.q;
        t = h.t;
        p_marked = sym (same _ _) ∙ h.p_marked;
        q_marked = sym (same _ _) ∙ h.q_marked;
        t_marked = sym (same _ _) ∙ h.t_marked;
        triangle = h.triangle;
      }

  pub missing-same : {x : Point} → Missing f x → Missing g x
  missing-same m = record { hull = hull-same m.hull; open_cell = sym (same _ _) ∙ m.open_cell }

pub lowest-same : {f g : ℕ → ℕ → Bool} → ((c r : ℕ) → f c r ≡ g c r) → {x : Point} → LowestMissing f x → LowestMissing g x
lowest-same same m =
    record { missing = missing-same same m.missing; lowest = λ y n. m.lowest y (missing-same (λ c r. sym (same c r)) n) }

-- Only one missing cell is the lowest
pub lowest-unique : {marked : ℕ → ℕ → Bool} {x y : Point} → LowestMissing marked x → LowestMissing marked y → x ≡ y
unfolding After
lowest-unique {marked} {x} {y} h k =
    ⊎_elim (λ e. e) (λ a. ⊎_elim sym (λ b. absurd (both a b)) (h.lowest y k.missing)) (k.lowest x h.missing)
  where
    both : After y x → After x y → ⊥
    both (inl a) (inl b) = omega arith
    both (inl a) (inr b) = omega arith
    both (inr a) (inl b) = omega arith
    both (inr a) (inr b) = omega arith

-- H1: its cell, and the cell beside it
pub one_cell : encloses (outline (record { col = 0; row = 0 }) (1 ∷ 0 ∷ 3 ∷ 2 ∷ [])) 0 0 ≡ true
unfolding encloses ups downs one_if up_along down_along step
one_cell = refl

pub beside : encloses (outline (record { col = 0; row = 0 }) (1 ∷ 0 ∷ 3 ∷ 2 ∷ [])) 1 0 ≡ false
unfolding encloses ups downs one_if up_along down_along step
beside = refl

-- H9, anticlockwise: ups minus downs is -1
pub anticlockwise-none : encloses (outline (record { col = 0; row = 0 }) (0 ∷ 1 ∷ 2 ∷ 3 ∷ [])) 0 0 ≡ false
unfolding encloses ups downs one_if up_along down_along step
anticlockwise-none = refl
