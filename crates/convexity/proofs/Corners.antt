-- W, N, E and S are the corners of contract 3.1, since the order of each frame says in columns and rows what the contract says in words.
-- The first corner of a frame is least along the frame's earlier letter, and then along its later one: left and low, high and left, right
-- and high, low and right. Two such corners agree in both coordinates, so they are equal, and a walk that meets no corner twice leaves it
-- once.
use Prim.Native.Nat.{ℕ, ◌≤◌, ◌<◌}
use native.Mathlib.Omega.{arith}
use mathlib.Core.Path.{◌≡◌, refl, ◌∙◌}
use mathlib.Core.Logic.{◌↔◌}
use Rattle.chart.specs.declared.Point.{Point}
use Rattle.chart.specs.Outline.{Outline}
use Rattle.chart.specs.Limits.{side}
use Rattle.lattice.specs.Chart.{corner_at, size, rotated}
use Rattle.lattice.specs.Refusals.{Simple}
use Rattle.lattice.specs.Walked.{Walked}
use Rattle.lattice.proofs.WalkLaws.{walked, corner-injective, rotated-walked, rotated-corners}
use Rattle.convexity.specs.Frame.{frame_of, along}
use Rattle.convexity.specs.Cut.{corner_place, west_place, from_w}
use Rattle.convexity.specs.Clockwise.{reversed, clockwise_form, border}
use Rattle.convexity.specs.Corners.{OnWalk, IsWest, IsNorth, IsEast, IsSouth, OnlyAt, FourCorners}
use Rattle.convexity.proofs.Extreme.{FirstAt, corner_place-lt, first-at-corner_place, not-before-earlier, not-before-later, on_chart}
use Rattle.convexity.proofs.Extreme.{along-injective, from-w-of, first-shared}
use Rattle.convexity.proofs.Clockwise.{backward-corners, walked-backward, by-reading, simple-form}

module _ (o : Outline) where
  -- ---- one law for every frame

  -- No corner of the walk is less far along the earlier letter of frame k than p, and
  -- none that is equally far is less far along the later
  pub record IsFirst (k : ℕ) (p : Point) : Type 0 where
    pub on_walk : OnWalk o p
    pub earlier : (j : ℕ) → j < size o → along (frame_of k).earlier p ≤ along (frame_of k).earlier (corner_at o j)
    pub later : (j : ℕ) → j < size o → along (frame_of k).earlier (corner_at o j) ≡ along (frame_of k).earlier p
        → along (frame_of k).later p ≤ along (frame_of k).later (corner_at o j)

  on-walk-at : (i : ℕ) → i < size o → OnWalk o (corner_at o i)
  on-walk-at i h = record { place = i; below = h; corner = refl }

  module _ (d : Walked o) where
    pub first-only : (k : ℕ) → OnlyAt o (IsFirst k) (corner_place o k)
    first-only k = record { below = f.below; here = here; only = only }
      where
        i : ℕ
        i = corner_place o k

        f : FirstAt o k i
        f = first-at-corner_place o k (omega (arith, d.long))

        here : IsFirst k (corner_at o i)
        here =
            record {
              on_walk = on-walk-at i f.below;
              earlier = λ j h. not-before-earlier (frame_of k) (corner_at o j) (corner_at o i) (f.none j h);
              later = λ j h e. not-before-later (frame_of k) (corner_at o j) (corner_at o i) (f.none j h) e;
            }

        only : (j : ℕ) → j < size o → IsFirst k (corner_at o j) → j ≡ i
        only j h g =
            let e : along (frame_of k).earlier (corner_at o j) ≡ along (frame_of k).earlier (corner_at o i) =
            omega (arith, g.earlier i f.below, here.earlier j h) in
            let l : along (frame_of k).later (corner_at o j) ≡ along (frame_of k).later (corner_at o i) =
            omega (arith, g.later i f.below (omega (arith, e)), here.later j h e) in
            corner-injective o d j i h f.below
            (along-injective k (corner_at o j) (corner_at o i) (on_chart o d j (omega arith)) (on_chart o d i (omega (arith, f.below))) e l)

    -- ---- the four frames in columns and rows

    only-as : {P Q : Point → Type 0} (i : ℕ) → ((j : ℕ) → j < size o → P (corner_at o j) ↔ Q (corner_at o j)) → OnlyAt o P i → OnlyAt o Q i
    only-as i same u =
        record { below = u.below; here = (same i u.below).0 u.here; only = λ j h q. u.only j h ((same j h).1 q) }

    col_le : (j : ℕ) → j < size o → (corner_at o j).col ≤ side
    col_le j h = d.col_le j (omega arith)

    row_le : (j : ℕ) → j < size o → (corner_at o j).row ≤ side
    row_le j h = d.row_le j (omega arith)

    pub west-only : OnlyAt o (IsWest o) (corner_place o 0)
    unfolding frame_of along
    west-only =
        only-as (corner_place o 0)
        (λ i l. (
          λ f. record { on_walk = f.on_walk; leftmost = f.earlier; lowest = f.later },
          λ f. record { on_walk = f.on_walk; earlier = f.leftmost; later = f.lowest },
        ))
        (first-only 0)

    pub north-only : OnlyAt o (IsNorth o) (corner_place o 1)
    unfolding frame_of along
    north-only =
        only-as (corner_place o 1)
        (λ i l. (
          λ f.
              record {
                on_walk = f.on_walk;
                highest = λ j h. omega (arith, f.earlier j h, row_le i l, row_le j h);
                leftmost = λ j h e. f.later j h (omega (arith, e));
              },
          λ f.
              record {
                on_walk = f.on_walk;
                earlier = λ j h. omega (arith, f.highest j h);
                later = λ j h e. f.leftmost j h (omega (arith, e, row_le i l, row_le j h));
              },
        ))
        (first-only 1)

    pub east-only : OnlyAt o (IsEast o) (corner_place o 2)
    unfolding frame_of along
    east-only =
        only-as (corner_place o 2)
        (λ i l. (
          λ f.
              record {
                on_walk = f.on_walk;
                rightmost = λ j h. omega (arith, f.earlier j h, col_le i l, col_le j h);
                highest = λ j h e. omega (arith, f.later j h (omega (arith, e)), row_le i l, row_le j h);
              },
          λ f.
              record {
                on_walk = f.on_walk;
                earlier = λ j h. omega (arith, f.rightmost j h);
                later = λ j h e. omega (arith, f.highest j h (omega (arith, e, col_le i l, col_le j h)));
              },
        ))
        (first-only 2)

    pub south-only : OnlyAt o (IsSouth o) (corner_place o 3)
    unfolding frame_of along
    south-only =
        only-as (corner_place o 3)
        (λ i l. (
          λ f.
              record {
                on_walk = f.on_walk;
                lowest = f.earlier;
                rightmost = λ j h e. omega (arith, f.later j h e, col_le i l, col_le j h);
              },
          λ f.
              record {
                on_walk = f.on_walk;
                earlier = f.lowest;
                later = λ j h e. omega (arith, f.rightmost j h e);
              },
        ))
        (first-only 3)

    pub walk-corners : FourCorners o
    walk-corners = record { west = west-only; north = north-only; east = east-only; south = south-only }

-- ---- an outline that passes 1 to 6, and its border

turned-corner : (o : Outline) → Walked o → (k : ℕ) → corner_at (from_w o) (corner_place (from_w o) k) ≡ corner_at o (corner_place o k)
unfolding from_w west_place
turned-corner o d k =
    let b : corner_place o 0 ≤ size o = omega (arith, corner_place-lt o 0 (omega (arith, d.long))) in
    first-shared (rotated (corner_place o 0) o) o (rotated-walked o (corner_place o 0) b d) d
    (rotated-corners o (corner_place o 0) b d.closed) k

module _ (o : Outline) (simple : Simple o) where
  abbrev d : Walked o
  d = walked o simple

  pub four-corners : FourCorners o
  four-corners = walk-corners o d

  pub four-corners-form : FourCorners (border o)
  four-corners-form = walk-corners (border o) (from-w-of (clockwise_form o) (simple-form o simple)).walked

  -- The border leaves the same corners, so its W, N, E and S are those of the outline
  pub corner-form : (k : ℕ) → corner_at (border o) (corner_place (border o) k) ≡ corner_at o (corner_place o k)
  corner-form k = turned-corner (clockwise_form o) (walked (clockwise_form o) (simple-form o simple)) k
      ∙ by-reading o (λ v. corner_at v (corner_place v k) ≡ corner_at o (corner_place o k)) (λ _. refl)
      (λ _. first-shared (reversed o) o (walked-backward o d) d (backward-corners o d) k)
