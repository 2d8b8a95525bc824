-- The numbers that the code finds are the ends of the hull's rows, so the letters written round them are the completion's border.
use Prim.Native.Nat.{ℕ, suc, ◌+◌, ◌-◌, ◌*◌, ◌≤◌, ◌<◌}
use mathlib.Core.Path.{◌≡◌, sym, ap, ◌∙◌}
use mathlib.Core.List.{List}
use native.Mathlib.Decide.{dec_lt}
use native.Mathlib.Omega.{arith}
use Rattle.chart.specs.Limits.{corners, side, longest}
use Rattle.chart.specs.Outline.{Outline, outline, at}
use Rattle.lattice.specs.Chart.{size}
use Rattle.lattice.specs.Refusals.{Simple}
use Rattle.lattice.proofs.WalkLaws.{walked}
use Rattle.rows.specs.parts.Rows.{rows}
use Rattle.rows.proofs.Rows.{Rows}
use Rattle.convexity.specs.Clockwise.{border, block}
use Rattle.completion.specs.parts.Written.{written_from}
use Rattle.completion.specs.HullRows.{hull_left, hull_right}
use Rattle.completion.specs.Complete.{first_cell, past_cell, first_row, past_row, hull_outline, complete}
use Rattle.completion.proofs.Count.{Least}
use Rattle.completion.proofs.Written.{written_same}
use Rattle.completion.proofs.LeftSide.{lowest-row}
use Rattle.completion.proofs.HullRows.{hull-rows}
use Rattle.completion.proofs.BlockEnds.{block-joined, rows_fit, ends as block-ends}
use Rattle.completion.proofs.Extent.{hull-letters, length-border}
use Rattle.completion.proofs.Sides.{first-side, last-side, lowest-corner, highest-corner}
use Rattle.completion.proofs.Theorem.{complete-simple, complete-shorter, complete-border, left, right}
use Rattle.witness.proofs.Steps.{left-same}
use Rattle.row_sides.specs.parts.Passed.{Passed}
use Rattle.hull_rows.specs.parts.Ends.{LeftEnds, Lowest}

-- The ends of the hull's rows b to t - 1. From these the completion's border is written, from the left end of row m. It has n letters
pub record HullOf (o : Outline) (begins ends : List ℕ) (b t m n : ℕ) : Type 0 where
  pub low : b ≤ m
  pub high : m < t
  pub fits : t ≤ side
  pub round : border (complete o) ≡ outline (record { col = rows begins m; row = m }) (written_from (rows begins) (rows ends) b t m)
  pub count : n ≡ size (border (complete o))
  pub short : n ≤ longest

-- Rows that begin alike begin alike in the hull, even a single row
hull-same : (f g : ℕ → ℕ) (b t : ℕ) → ((r : ℕ) → r < t → f r ≡ g r) → (r : ℕ) → b ≤ r → r < t → hull_left f b t r ≡ hull_left g b t r
hull-same f g b t same r h l =
    elim (dec_lt (suc b) t) [
      | yes two ↦ left-same f g b t same two r h l
      | no one ↦ let e : r ≡ b = omega arith in
          rw e (lowest-row f b t (omega arith) ∙ same b (omega arith) ∙ sym (lowest-row g b t (omega arith)))
    ]

-- ---- an outline

module _ (o : Outline) (h : Simple o) where
  abbrev lo : ℕ → ℕ
  lo = first_cell (block o)

  -- The last cells, seen from the right
  abbrev mirror : ℕ → ℕ
  mirror s = side - past_cell (block o) s

  block-rows : Rows (first_cell (block o)) (past_cell (block o)) (first_row (block o)) (past_row (block o))
  block-rows = (block-ends (block o) (block-joined o h)).rows

  -- The rows that the code's two passes find
  pub record Sided (begins over ends : ℕ → ℕ) (b t : ℕ) : Type 0 where
    pub low : b ≡ first_row (block o)
    pub high : t ≡ past_row (block o)
    pub lefts : (r : ℕ) → b ≤ r → r < t → begins r ≡ hull_left lo b t r
    pub overs : (r : ℕ) → b ≤ r → r < t → over r ≡ hull_left mirror b t r
    pub rights : (r : ℕ) → b ≤ r → r < t → ends r ≡ side - over r

  module _ (begins over ends : ℕ → ℕ) (b t : ℕ) (s : Sided begins over ends b t) where
    pub sided-below : b < t
    sided-below = omega (arith, s.low, s.high, block-rows.below)

    pub sided-fits : t ≤ side
    sided-fits = omega (arith, s.high, rows_fit (block o) (block-joined o h))

    left_is : (r : ℕ) → b ≤ r → r < t → begins r ≡ left o h r
    left_is r k l = s.lefts r k l ∙ (λ i. hull_left lo (s.low i) (s.high i) r)

    over-is : (r : ℕ) → b ≤ r → r < t → over r ≡ hull_left mirror (first_row (block o)) (past_row (block o)) r
    over-is r k l = s.overs r k l ∙ (λ i. hull_left mirror (s.low i) (s.high i) r)

    right_is : (r : ℕ) → b ≤ r → r < t → ends r ≡ right o h r
    unfolding hull_right
    right_is r k l = s.rights r k l ∙ ap (λ (n : ℕ). side - n) (over-is r k l)

    -- The row m is that of W
    module _ (m : ℕ) (w : Lowest begins b t m) where
      sided-border : border (complete o) ≡ outline (at (begins m) m) (written_from begins ends b t m)
      sided-border =
          complete-border o h m (omega (arith, s.low, w.low)) (omega (arith, s.high, w.high))
          (λ r k l.
          omega (
            arith,
            left_is m w.low w.high,
            left_is r (omega (arith, s.low)) (omega (arith, s.high)),
            w.least r (omega (arith, s.low)) (omega (arith, s.high)),
          ))
          (λ r k l.
          omega (
            arith,
            left_is m w.low w.high,
            left_is r (omega (arith, s.low)) (omega (arith, w.high)),
            w.lowest r (omega (arith, s.low)) l,
          ))
          ∙ sym (λ i. outline (at (left_is m w.low w.high i) m) (written_from (left o h) (right o h) (s.low i) (s.high i) m))
          ∙ ap (outline (at (begins m) m)) (sym (written_same begins (left o h) ends (right o h) b t m w.low w.high left_is right_is))

      -- The row n is that of E
      module _ (n : ℕ) (e : Lowest over b t n) where
        nonempty : left o h n < right o h n
        nonempty =
            (hull-rows lo (past_cell (block o)) (first_row (block o)) (past_row (block o)) block-rows).nonempty n
            (omega (arith, s.low, e.low)) (omega (arith, s.high, e.high))

        pub sided-gap : begins m ≤ ends n
        sided-gap =
            omega (arith, nonempty, left_is n e.low e.high, right_is n e.low e.high, w.least n e.low e.high)

        west : Least (left o h) (first_row (block o)) (past_row (block o))
        west =
            record {
              at = m;
              low = omega (arith, s.low, w.low);
              high = omega (arith, s.high, w.high);
              least = λ r k l.
                  omega (
                    arith,
                    left_is m w.low w.high,
                    left_is r (omega (arith, s.low)) (omega (arith, s.high)),
                    w.least r (omega (arith, s.low)) (omega (arith, s.high)),
                  );
            }

        east : Least (hull_left mirror (first_row (block o)) (past_row (block o))) (first_row (block o)) (past_row (block o))
        east =
            record {
              at = n;
              low = omega (arith, s.low, e.low);
              high = omega (arith, s.high, e.high);
              least = λ r k l.
                  omega (
                    arith,
                    over-is n e.low e.high,
                    over-is r (omega (arith, s.low)) (omega (arith, s.high)),
                    e.least r (omega (arith, s.low)) (omega (arith, s.high)),
                  );
            }

        sized : size (complete o) + 2 * left o h m ≡ 2 * (past_row (block o) - first_row (block o)) + 2 * right o h n
        unfolding complete hull_outline west east
        sized = hull-letters lo (past_cell (block o)) (first_row (block o)) (past_row (block o)) block-rows west east

        pub sided-count : 2 * (t - b) + 2 * (ends n - begins m) ≡ size (border (complete o))
        sided-count =
            counted (size (complete o)) (left o h m) (right o h n) (begins m) (ends n) (left_is m w.low w.high)
            (right_is n e.low e.high) sided-gap sized
            ∙ sym (length-border (complete o) (complete-simple o h))
          where
            counted :
                (z l r x y : ℕ) → x ≡ l → y ≡ r → x ≤ y → z + 2 * l ≡ 2 * (past_row (block o) - first_row (block o)) + 2 * r
                → 2 * (t - b) + 2 * (y - x) ≡ z
            counted z l r x y p q g k = omega (arith, s.low, s.high)

        pub sided-short : size (border (complete o)) ≤ longest
        sided-short = omega (arith, length-border (complete o) (complete-simple o h), complete-shorter o h, (walked o h).short)

-- ---- the arrays

module _ (o : Outline) (h : Simple o) (lo en hi : List ℕ) (low high b t : ℕ) (p : Passed o lo en hi low high) (d : b ≡ low) (e : t ≡ high)
  where
    is-low : b ≡ first_row (block o)
    is-low = d ∙ p.lowest ∙ lowest-corner o h

    is-high : t ≡ past_row (block o)
    is-high = e ∙ p.highest ∙ highest-corner o h

    pub array-below : (b < t) × (t ≤ side)
    array-below =
        (omega (arith, is-low, is-high, (block-rows o h).below), omega (arith, is-high, rows_fit (block o) (block-joined o h)))

    pub sides :
        (mirrored begins over ends : List ℕ) → LeftEnds (rows lo) (rows begins) b t
        → ((k : ℕ) → k < corners → rows mirrored k ≡ side - rows hi k) → LeftEnds (rows mirrored) (rows over) b t
        → ((k : ℕ) → k < corners → rows ends k ≡ side - rows over k) → Sided o h (rows begins) (rows over) (rows ends) b t
    sides mirrored begins over ends l m n k =
        record {
          low = is-low;
          high = is-high;
          lefts = λ r u v. l.ends r u v
              ∙ hull-same (rows lo) (first_cell (block o)) b t (λ z x. p.first z (omega (arith, array-below)) ∙ first-side o h z) r u v;
          overs = λ r u v.
              n.ends r u v
              ∙ hull-same (rows mirrored) (λ z. side - past_cell (block o) z) b t
              (λ z x. m z (omega (arith, array-below))
              ∙ ap (λ (c : ℕ). side - c) (p.last z (omega (arith, array-below)) ∙ last-side o h z)) r u v;
          rights = λ r u v. k r (omega (arith, array-below));
        }

pub hull-of :
    (o : Outline) (h : Simple o) (begins over ends : List ℕ) (b t m n x : ℕ) → Sided o h (rows begins) (rows over) (rows ends) b t
    → Lowest (rows begins) b t m
    → Lowest (rows over) b t n → x ≡ 2 * (t - b) + 2 * (rows ends n - rows begins m) → HullOf o begins ends b t m x
hull-of o h begins over ends b t m n x s w e k =
    let c = sided-count o h (rows begins) (rows over) (rows ends) b t s m w n e in
    record {
      low = w.low;
      high = w.high;
      fits = sided-fits o h (rows begins) (rows over) (rows ends) b t s;
      round = sided-border o h (rows begins) (rows over) (rows ends) b t s m w;
      count = k ∙ c;
      short = omega (arith, k, c, sided-short o h (rows begins) (rows over) (rows ends) b t s m w n e);
    }
