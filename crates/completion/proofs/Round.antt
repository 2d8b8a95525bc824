-- The outline round a block of rows is a path joined to the bottom row, so it passes refusals 1 to 6 if it has at most 612 letters.
use Prim.Native.Nat.{ℕ, zero, suc, ◌+◌, ◌-◌, ◌≤◌, ◌<◌}
use mathlib.Core.Path.{◌≡◌, sym, ap, ◌∙◌, subst}
use mathlib.Core.Logic.{◌⊎◌, inl, inr, ⊎_elim}
use mathlib.Core.List.{List, ◌++◌}
use native.Mathlib.Omega.{arith}
use lib.ListN.{length, length-append}
use Rattle.chart.specs.Limits.{side, longest}
use Rattle.chart.specs.declared.Point.{Point}
use Rattle.chart.specs.Outline.{Outline, at}
use Rattle.lattice.specs.Chart.{walk, corner_at, size, Closed}
use Rattle.lattice.specs.Refusals.{Simple}
use Rattle.lattice.specs.Walked.{NeverLeaves, Walked}
use Rattle.lattice.proofs.WalkLaws.{walk-append, OnChart, corners-on-chart, simple-of-walked}
use Rattle.rows.proofs.Rows.{Rows}
use Rattle.completion.specs.RowsOutline.{across, capped, hood, outline_of, Overlapping}
use Rattle.completion.proofs.Paths.{Visits, Apart, Keeps, Path, apart-append, keeps-append, apart-at, keeps-at}
use Rattle.completion.proofs.Segments.{Between, visits-across, path-across, length-across}
use Rattle.completion.proofs.Hood.{same-col, Stack, higher, Hooded, hooded}

pub length-capped : (w : List ℕ) → length (capped w) ≡ suc (suc (length w))
unfolding capped
length-capped w = simp length-append (omega arith)

module _ (lo hi : ℕ → ℕ) where
  hood-long : (y k : ℕ) → Stack lo hi y k → 3 ≤ length (hood lo hi y k)
  unfolding hood
  hood-long y zero h =
      omega (arith, h.nonempty y (omega arith) (omega arith), length-capped (across (lo y) (hi y)), length-across (lo y) (hi y))
  hood-long y (suc k) h =
      let w = across (hi (suc y)) (hi y) in
      let v = across (lo y) (lo (suc y)) in
      omega (
        arith,
        hood-long (suc y) k (higher lo hi h),
        length-capped (v ++ (hood lo hi (suc y) k ++ w)),
        length-append v (hood lo hi (suc y) k ++ w),
        length-append (hood lo hi (suc y) k) w,
      )

  module _ (b t : ℕ) (rows : Rows lo hi b t) (high : t ≤ side) (shares : Overlapping lo hi b t) where
    pub stack : Stack lo hi b (t - suc b)
    stack =
        let l : b < t = rows.below in
        record {
          high = omega arith;
          nonempty = λ r m n. rows.nonempty r m (omega arith);
          fits = λ r m n. rows.fits r m (omega arith);
          shares = λ r m n. shares r m (omega arith);
        }

    abbrev o : Outline
    o = outline_of lo hi b t

    first-nonempty : lo b < hi b
    first-nonempty = rows.nonempty b (omega arith) rows.below

    first_fits : hi b ≤ side
    first_fits = rows.fits b (omega arith) rows.below

    pub round : Hooded lo hi b (t - suc b)
    round = hooded lo hi b (t - suc b) stack

    pub bottom : Path (at (hi b) b) (at (lo b) b) (across (hi b) (lo b))
    bottom = path-across b (hi b) (lo b) first_fits (omega (arith, first-nonempty, first_fits))

    apart : Apart (at (lo b) b) (hood lo hi b (t - suc b) ++ across (hi b) (lo b))
    apart =
        apart-append (at (lo b) b) (hood lo hi b (t - suc b)) (across (hi b) (lo b)) round.path.apart
        (subst (λ (z : Point). Apart z (across (hi b) (lo b))) (sym round.path.ends) bottom.apart)
        (λ x h k. disjoint x (round.above x h)
        (visits-across b (hi b) (lo b) x (subst (λ (z : Point). Visits z (across (hi b) (lo b)) x) round.path.ends k)))
      where
        disjoint : (x : Point) → (at (lo b) b ≡ x) ⊎ (b < x.row) → Between b (hi b) (lo b) x → ⊥
        disjoint x (inl e) c = ⊎_elim (λ m. omega (arith, first-nonempty, same-col e)) (λ m. omega (arith, same-col e)) c.column
        disjoint x (inr g) c = omega (arith, c.height)

    keeps : Keeps (at (lo b) b) (hood lo hi b (t - suc b) ++ across (hi b) (lo b))
    keeps =
        keeps-append (at (lo b) b) (hood lo hi b (t - suc b)) (across (hi b) (lo b)) round.path.keeps
        (subst (λ (z : Point). Keeps z (across (hi b) (lo b))) (sym round.path.ends) bottom.keeps)

    pub outline-closed : Closed (outline_of lo hi b t)
    unfolding outline_of
    outline-closed =
        walk-append (at (lo b) b) (hood lo hi b (t - suc b)) (across (hi b) (lo b))
        ∙ ap (λ (z : Point). walk z (across (hi b) (lo b))) round.path.ends
        ∙ bottom.ends

    pub outline-long : 4 ≤ size (outline_of lo hi b t)
    unfolding outline_of
    outline-long =
        omega (
          arith,
          hood-long b (t - suc b) stack,
          first-nonempty,
          length-append (hood lo hi b (t - suc b)) (across (hi b) (lo b)),
          length-across (hi b) (lo b),
        )

    outline-stays : NeverLeaves (outline_of lo hi b t)
    unfolding outline_of corner_at
    outline-stays i l = (keeps-at (at (lo b) b) (hood lo hi b (t - suc b) ++ across (hi b) (lo b)) keeps i l).1

    on_chart : (i : ℕ) → i ≤ size (outline_of lo hi b t) → OnChart (corner_at (outline_of lo hi b t) i)
    unfolding outline_of
    on_chart =
        corners-on-chart o (record { col = omega (arith, first-nonempty, first_fits); row = omega (arith, rows.below) }) outline-stays

    pub outline-walked : size (outline_of lo hi b t) ≤ longest → Walked (outline_of lo hi b t)
    unfolding outline_of corner_at
    outline-walked short =
        record {
          long = outline-long;
          short = short;
          letter = λ i l. (keeps-at (at (lo b) b) (hood lo hi b (t - suc b) ++ across (hi b) (lo b)) keeps i l).0;
          col_le = λ i l. (on_chart i l).col;
          row_le = λ i l. (on_chart i l).row;
          stays = outline-stays;
          closed = outline-closed;
          distinct = apart-at (at (lo b) b) (hood lo hi b (t - suc b) ++ across (hi b) (lo b)) apart;
        }

    pub outline-simple : size (outline_of lo hi b t) ≤ longest → Simple (outline_of lo hi b t)
    outline-simple short = simple-of-walked (outline_of lo hi b t) (outline-walked short)
