-- The walk keeps the current corner, the corners met, and the least and the greatest number of either kind, each by its own laws.
use Rattle.std.proofs.Common.{◌≡◌, ℕ, ◌+◌, ◌/◌, ◌%◌, ◌<◌, ◌≤◌, true, false, List, sym, ap, ◌∙◌, arith, le-ltb}
use Prim.Native.Nat.{min, max}
use native.Mathlib.Decide.{dec_lt}
use Rattle.chart.specs.Outline.{Outline}
use Rattle.lattice.specs.Chart.{corner_at, size, letter_at}
use Rattle.lattice.specs.Refusals.{leaving_place}
use Rattle.lattice.proofs.WalkLaws.{OnChart, corner-zero}
use Rattle.convexity.specs.Cut.{corner_place}
use Rattle.flags.specs.parts.Flags.{no_numbers, is_set, with_number}
use Rattle.survey_walk.specs.declared.Corners.{Corners}
use Rattle.survey_walk.specs.parts.Numbers.{col_number, col_stride, off_chart, row_number, row_stride, corners_from}
use Rattle.survey_walk.specs.Corners.{corners_of}
use Rattle.survey_walk.specs.parts.Walks.{Begun, Out, MetAt, AllRound}
use Rattle.survey_walk.proofs.NumberLaws.{Visits, west-least, north-least, east-greatest, south-greatest}
use Rattle.survey_walk.proofs.WalkLaws.{size_small, reached-on-chart, out-start, out-next, out-leaves, rows_next, out_stays}
use Rattle.survey_walk.proofs.WalkLaws.{out-number}
use Rattle.survey_walk.proofs.MetLaws.{Passed, passed_start, met-again, new, passed-next, passed-end}
use Rattle.survey_walk.proofs.KeptLaws.{first_of, first-le, place-le, Kept, kept-start, kept-lower, kept-higher, kept-end, col-place}
use Rattle.survey_walk.proofs.KeptLaws.{col-corner, row-place, row-row}

pub record Along (o : Outline) (i by-col by_Row : ℕ) (met : List ℕ) (w n e s : ℕ) : Type 0 where
  pub out : Out o i by-col
  pub row : by_Row ≡ row_number (corner_at o i) i
  pub passed : Passed o i met
  pub west : Kept o 0 col_number i w
  pub north : Kept o 1 row_number i n
  pub east : Kept o 2 col_number i e
  pub south : Kept o 3 row_number i s

module _ (o : Outline) (b : Begun o) where
  pub along-start : {n m : ℕ} → n ≡ col_number o.start 0 → m ≡ row_number o.start 0 → Along o 0 n m no_numbers n m n m
  along-start {n} {m} e f =
      let c : n ≡ col_number (corner_at o 0) 0 = rw (corner-zero o) e in
      let r : m ≡ row_number (corner_at o 0) 0 = rw (corner-zero o) f in
      record {
        out = out-start o b e;
        row = r;
        passed = passed_start o;
        west = kept-start o 0 col_number c;
        north = kept-start o 1 row_number r;
        east = kept-start o 2 col_number c;
        south = kept-start o 3 row_number r;
      }

  module _ {i n m : ℕ} {met : List ℕ} {west north east south : ℕ} (t : Along o i n m met west north east south) where
    chart : (j : ℕ) → j ≤ i → OnChart (corner_at o j)
    chart = reached-on-chart o b t.out

    small : i < 1024
    small = omega (arith, size_small o b, t.out.passed)

    wide : i < 65536
    wide = omega (arith, small)

    number : m / 65536 ≡ row_number (corner_at o i) i / 65536
    number = ap (λ (x : ℕ). x / 65536) t.row

    module _ (l : i < size o) where
      pub along-meets : is_set met (m / 65536) ≡ true → MetAt o i n
      along-meets h =
          let again = met-again o t.passed chart wide (rw number at h) in
          record { above_zero = again.0; below = l; place = again.1 l; out = t.out }

      module _ {d : ℕ} (e : d ≡ col_stride (letter_at o i % 4)) where
        pub along-leaves : off_chart ((n + d) % 4294967296) ≡ true → (i < size o) × (i ≡ leaving_place o)
        along-leaves f = (l, out-leaves o b t.out l e f)

        -- The current corner is new: it was not passed before
        module _ (h : is_set met (m / 65536) ≡ false) {g : ℕ} (k : g ≡ row_stride (letter_at o i % 4))
            (f : off_chart ((n + d) % 4294967296) ≡ false) where
          is-new : is_set met (row_number (corner_at o i) i / 65536) ≡ false
          is-new = rw number at h

          visits : (k : ℕ) → Visits (corner_at o i) (corner_at o (first_of o k i)) i (first_of o k i)
          visits k =
              let at = first-le o k i in
              record {
                here = chart i (omega arith);
                there = chart (first_of o k i) (omega arith);
                order = omega arith;
                small = small;
                once = λ same.
                    elim (dec_lt (first_of o k i) i) [
                      | yes before ↦ absurd (new o t.passed chart wide is-new (first_of o k i) before (sym same))
                      | no before ↦ omega arith
                    ];
              }

          pub along-next
              : Along o (i + 1) ((n + d) % 4294967296) ((m + g) % 4294967296) (with_number met (m / 65536))
              (min west n) (min north m) (max east n) (max south m)
          along-next =
              record {
                out = out-next o b t.out l e f;
                row = rows_next o b t.out l e t.row k f;
                passed = rw number (passed-next o t.passed chart wide is-new);
                west = kept-lower o 0 col_number t.west t.out.number (visits 0) west-least;
                north = kept-lower o 1 row_number t.north t.row (visits 1) north-least;
                east = kept-higher o 2 col_number t.east t.out.number (visits 2) east-greatest;
                south = kept-higher o 3 row_number t.south t.row (visits 3) south-greatest;
              }

    module _ (l : size o ≤ i) where
      all : i ≡ size o
      all = omega (arith, t.out.passed)

      at-chart : (k : ℕ) → OnChart (corner_at o (corner_place o k))
      at-chart k = chart (corner_place o k) (omega (arith, place-le o k))

      at_small : (k : ℕ) → corner_place o k < 1024
      at_small k = omega (arith, place-le o k, size_small o b)

      corners : corners_from west north east south ≡ corners_of o
      unfolding corners_of
      corners =
          let w = kept-end o 0 col_number t.west all in
          let n = kept-end o 1 row_number t.north all in
          let e = kept-end o 2 col_number t.east all in
          let s = kept-end o 3 row_number t.south all in
          λ z.
          record {
            west = col-place (at-chart 0) (at_small 0) w z;
            north = row-place (at-chart 1) (at_small 1) n z;
            east = col-place (at-chart 2) (at_small 2) e z;
            south = row-place (at-chart 3) (at_small 3) s z;
            corner = col-corner (at-chart 0) (at_small 0) w z;
            bottom = row-row (at-chart 3) (at_small 3) s z;
            top = row-row (at-chart 1) (at_small 1) n z;
          }

      pub along-round : {c : Corners} → c ≡ corners_from west north east south → AllRound o n c
      along-round e =
          record {
            stays = le-ltb (leaving_place o) (size o) (omega (arith, out_stays o b t.out all));
            meets = passed-end o t.passed all;
            number = out-number o b t.out all;
            corners = e ∙ corners;
          }
