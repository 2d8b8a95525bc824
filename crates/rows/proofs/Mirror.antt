-- The mirror image of a block's hull is the hull of its mirror image, because the mirror image of a mean is the mean of the mirror images.
-- Column c becomes column 254 - c.
use Rattle.std.proofs.Common.{◌≡◌, ℕ, suc, ◌+◌, ◌-◌, ◌<◌, ◌≤◌, arith}
use Rattle.chart.specs.Limits.{side}
use Rattle.chart.specs.declared.Point.{Point}
use Rattle.lattice.specs.Hull.{InTriangle, InHull}
use Rattle.rows.specs.parts.Rows.{in_rows}
use Rattle.base.proofs.Mean.{mean-mirror}
use Rattle.rows.proofs.Rows.{Rows, Within, within-marked, within-cols, p-within, q-within, t_within, hull-cols}

abbrev pub mirror : Point → Point
mirror x = record { col = side - suc x.col; row = x.row }

-- Each row of one block is the mirror image of the same row of the other
pub record Mirrored (lo hi lo' hi' : ℕ → ℕ) (b t : ℕ) : Type 0 where
  pub begins : (r : ℕ) → b ≤ r → r < t → lo r + hi' r ≡ side
  pub ends : (r : ℕ) → b ≤ r → r < t → hi r + lo' r ≡ side

module _ {lo hi lo' hi' : ℕ → ℕ} {b t : ℕ} (m : Mirrored lo hi lo' hi' b t) where
  pub mirrored-back : Mirrored lo' hi' lo hi b t
  mirrored-back = record { begins = λ r h l. omega (arith, m.ends r h l); ends = λ r h l. omega (arith, m.begins r h l) }

  pub mirrored-rows : Rows lo hi b t → Rows lo' hi' b t
  mirrored-rows k =
      record {
        below = k.below;
        nonempty = λ r h l. omega (arith, k.nonempty r h l, m.begins r h l, m.ends r h l);
        fits = λ r h l. omega (arith, m.begins r h l);
      }

  pub mirrored-within : {x : Point} → Within lo hi b t x → Within lo' hi' b t (mirror x)
  mirrored-within {x} w =
      let e = m.begins x.row w.above w.below in
      let f = m.ends x.row w.above w.below in
      record { above = w.above; below = w.below; begun = omega arith; before = omega arith }

triangle-mirror :
    {x p q u : Point} → x.col < side → p.col < side → q.col < side → u.col < side → InTriangle x p q u
    → InTriangle (mirror x) (mirror p) (mirror q) (mirror u)
triangle-mirror {x} {p} {q} {u} i j k l h =
    record {
      a = h.a;
      b = h.b;
      c = h.c;
      above_zero = h.above_zero;
      cols =
          mean-mirror 254 h.a h.b h.c x.col p.col q.col u.col _ _ _ _ (omega arith) (omega arith) (omega arith)
          (omega arith) h.cols;
      rows = h.rows;
    }

pub mirrored-hull :
    {lo hi lo' hi' : ℕ → ℕ} {b t : ℕ} {x : Point} → Mirrored lo hi lo' hi' b t → Rows lo hi b t → InHull (in_rows lo hi b t) x
    → InHull (in_rows lo' hi' b t) (mirror x)
mirrored-hull m k h =
    record {
      p = mirror h.p;
      q = mirror h.q;
      t = mirror h.t;
      p_marked = within-marked (mirror h.p) (mirrored-within m (p-within k h));
      q_marked = within-marked (mirror h.q) (mirrored-within m (q-within k h));
      t_marked = within-marked (mirror h.t) (mirrored-within m (t_within k h));
      triangle =
          triangle-mirror (hull-cols k h) (within-cols k (p-within k h)) (within-cols k (q-within k h)) (within-cols k (t_within k h))
          h.triangle;
    }
