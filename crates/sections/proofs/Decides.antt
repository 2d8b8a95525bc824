-- What the loops gather for a layer is the hull's part there: some line is at or below a row exactly if
-- the smallest of the lines' rows is. So no cell is missing exactly if every layer has the hull's cells
-- there. If one layer does not, the hull's first or last cell there is missing.
use Prim.Native.Nat.{ℕ, zero, suc, ◌+◌, ◌-◌, ◌*◌, ◌≤◌, ◌<◌, min, max}
use native.Mathlib.Nat.{mul-le-mul_left, eq-or-lt_of_le, le_of_suc-le-suc}
use native.Mathlib.Decide.{dec_le, dec_lt}
use native.Mathlib.Omega.{arith}
use mathlib.Core.Path.{◌≡◌, refl, sym, ap, ◌∙◌}
use mathlib.Core.Logic.{◌⊎◌, inl, inr, ◌↔◌}
use mathlib.Core.Bool.{Bool, true, false, true≢false, ◌&&◌, ◌||◌}
use lib.Dec.{leb, ltb}
use borrow.Author.Tests.{leb-true, leb-false, le-leb, ltb-true, lt-ltb}
use Rattle.base.proofs.BelowLaws.{and_left, and_right, or-false-iff, not-held, every-at, every-fails}
use Rattle.chart.specs.Limits.{side}
use Rattle.chart.specs.declared.Point.{Point}
use Rattle.chart.specs.Outline.{at}
use Rattle.lattice.specs.Hull.{InHull, Missing, Convex}
use Rattle.sections.specs.declared.Reach.{Reach}
use Rattle.sections.specs.Sections.{layers, fold, ceiling, above, low_line, high_line, full, alone, joined, joined_from, reached}
use Rattle.sections.specs.Sections.{whole_in, whole, clear}
use Rattle.sections.proofs.Lines.{Runs, Line, own, line, Upper}
use Rattle.sections.proofs.Quotients.{ceiling-iff, above-iff}
use Rattle.sections.proofs.Sides.{Dir}
use Rattle.sections.proofs.Theorem.{Strict, here, across, strict, hull-lower, hull-upper, lines-hull}

-- ---- what a fold gathers

at-most-min : (r a b : ℕ) → (min a b ≤ r) ↔ ((a ≤ r) ⊎ (b ≤ r))
at-most-min r a b =
    ((λ h. elim (dec_le a r) [ yes l ↦ inl l | no l ↦ inr (omega arith) ]), λ s. elim s [ inl l ↦ omega arith | inr l ↦ omega arith ])

below-max : (r a b : ℕ) → (r < max a b) ↔ ((r < a) ⊎ (r < b))
below-max r a b =
    ((λ h. elim (dec_le (suc r) a) [ yes l ↦ inl l | no l ↦ inr (omega arith) ]), λ s. elim s [ inl l ↦ omega arith | inr l ↦ omega arith ])

-- One of the steps below n makes Q true
abbrev Some : (ℕ → Type 0) → ℕ → Type 0
Some Q n = (k : ℕ) × (k < n) × Q k

module _ {A : Type 0} (P : A → Type 0) (Q : ℕ → Type 0) (f : ℕ → A → A) where
  -- Each step keeps P or makes it true. So P holds in the end exactly if it held at first or some step made it true
  fold-iff : (n : ℕ) → ((k : ℕ) → k < n → (a : A) → P (f k a) ↔ (P a ⊎ Q k)) → (a : A) → P (fold f n a) ↔ (P a ⊎ Some Q n)
  unfolding fold
  fold-iff zero law a = (λ h. inl h, λ s. elim s [ inl h ↦ h | inr (k, l, q) ↦ absurd (omega arith) ])
  fold-iff (suc n) law a = step (fold-iff n (λ k l. law k (omega arith)) a) (law n (omega arith) (fold f n a))
    where
      step : P (fold f n a) ↔ (P a ⊎ Some Q n) → P (f n (fold f n a)) ↔ (P (fold f n a) ⊎ Q n)
          → P (f n (fold f n a)) ↔ (P a ⊎ Some Q (suc n))
      step rest last = (
        λ h. elim (last.0 h) [ inl g ↦ later (rest.0 g) | inr q ↦ inr (n, omega arith, q) ],
        λ s.
            elim s [
              | inl g ↦ last.1 (inl (rest.1 (inl g)))
              | inr (k, l, q) ↦ last.1 (place k l q)
            ],
      )
        where
          later : P a ⊎ Some Q n → P a ⊎ Some Q (suc n)
          later (inl g) = inl g
          later (inr (k, l, q)) = inr (k, omega arith, q)

          place : (k : ℕ) → k < suc n → Q k → P (fold f n a) ⊎ Q n
          place k l q = elim (eq-or-lt_of_le (le_of_suc-le-suc l)) [ inl e ↦ inr (rw e at q) | inr m ↦ inl (rest.1 (inr (k, m, q))) ]

-- ---- the lines of a layer

module _ (lo past : ℕ → ℕ) where
  abbrev hi : ℕ → ℕ
  hi l = past l - 1

  -- P holds for what is gathered of layer j exactly if it holds for the layer's own interval, or for a line through two other layers
  module _ (P : Reach → Type 0) (Q : ℕ → ℕ → ℕ → Type 0)
      (law : (i j k : ℕ) → i < j → j < k → (r : Reach) → full lo past k ≡ true → P (joined lo past i j k r) ↔ (P r ⊎ Q i j k)) where
    abbrev Crossed : ℕ → Type 0
    Crossed j = (i : ℕ) × (k : ℕ) × (full lo past i ≡ true) × (full lo past k ≡ true) × (i < j) × (j < k) × (k < layers) × Q i j k

    one : (i j k : ℕ) → i < j → j < k → (r : Reach) → P (joined lo past i j k r) ↔ (P r ⊎ ((full lo past k ≡ true) × Q i j k))
    unfolding joined
    one i j k h l r = go (full lo past k) refl
      where
        go : (b : Bool) → full lo past k ≡ b → P (joined lo past i j k r) ↔ (P r ⊎ ((full lo past k ≡ true) × Q i j k))
        go true e =
            let e' = law i j k h l r e in
            (λ g. elim (e'.0 g) [ inl p ↦ inl p | inr q ↦ inr (e, q) ], λ s. elim s [ inl p ↦ e'.1 (inl p) | inr (_, q) ↦ e'.1 (inr q) ])
        go false e = rw e (λ g. inl g, λ s. elim s [ inl p ↦ p | inr (f, q) ↦ absurd (true≢false (sym f)) ])

    abbrev From : ℕ → ℕ → Type 0
    From j i = (full lo past i ≡ true) × Some (λ k. (full lo past (suc j + k) ≡ true) × Q i j (suc j + k)) (layers - suc j)

    from_one : (j i : ℕ) → i < j → (r : Reach) → P (joined_from lo past i j r) ↔ (P r ⊎ From j i)
    unfolding joined_from
    from_one j i h r = go (full lo past i) refl
      where
        go : (b : Bool) → full lo past i ≡ b → P (joined_from lo past i j r) ↔ (P r ⊎ From j i)
        go true e =
            let e' =
            fold-iff P (λ k. (full lo past (suc j + k) ≡ true) × Q i j (suc j + k)) (λ k. joined lo past i j (suc j + k)) (layers - suc j)
            (λ k l a. one i j (suc j + k) h (omega arith) a) r in
            rw e (
              λ g. elim (e'.0 g) [ inl p ↦ inl p | inr q ↦ inr (refl, q) ],
              λ s. elim s [ inl p ↦ e'.1 (inl p) | inr (_, q) ↦ e'.1 (inr q) ],
            )
        go false e = rw e (λ g. inl g, λ s. elim s [ inl p ↦ p | inr (f, q) ↦ absurd (true≢false (sym f)) ])

    reached-iff : (j : ℕ) → j < layers → P (reached lo past j) ↔ (P (alone lo past j) ⊎ Crossed j)
    unfolding reached
    reached-iff j l =
        let e = fold-iff P (From j) (λ i. joined_from lo past i j) j (λ i h a. from_one j i h a) (alone lo past j) in (
          λ g. elim (e.0 g) [ inl p ↦ inl p | inr q ↦ inr (to q) ],
          λ s. elim s [ inl p ↦ e.1 (inl p) | inr q ↦ e.1 (inr (from q)) ],
        )
      where
        to : Some (From j) j → Crossed j
        to (i, h, (f, (k, m, (g, q)))) = (i, suc j + k, f, g, h, omega arith, omega arith, q)

        from : Crossed j → Some (From j) j
        from (i, k, f, g, h, m, n, q) = (i, h, (f, (k - suc j, omega arith, (rw e at g, rw e at q))))
          where
            e : k ≡ suc j + (k - suc j)
            e = omega arith

  -- ---- the lower lines and the upper ones

  module _ (x : ℕ) where
    abbrev Below : Reach → Type 0
    Below r = r.low ≤ x

    abbrev Beyond : Reach → Type 0
    Beyond r = x < r.high

    low-law : (i j k : ℕ) → i < j → j < k → (r : Reach) → full lo past k ≡ true
        → Below (joined lo past i j k r) ↔ (Below r ⊎ (low_line lo i j k ≤ (k - i) * x))
    unfolding joined
    low-law i j k h l r f =
        let e = ceiling-iff (low_line lo i j k) (k - i) x (omega arith) in
        let m = at-most-min x r.low (ceiling (low_line lo i j k) (k - i)) in
        rw f (λ g. elim (m.0 g) [ inl p ↦ inl p | inr p ↦ inr (e.0 p) ], λ s. m.1 (elim s [ inl p ↦ inl p | inr p ↦ inr (e.1 p) ]))

    high-law : (i j k : ℕ) → i < j → j < k → (r : Reach) → full lo past k ≡ true
        → Beyond (joined lo past i j k r) ↔ (Beyond r ⊎ ((k - i) * x ≤ high_line past i j k))
    unfolding joined
    high-law i j k h l r f =
        let e = above-iff (high_line past i j k) (k - i) x (omega arith) in
        let m = below-max x r.high (above (high_line past i j k) (k - i)) in
        rw f (λ g. elim (m.0 g) [ inl p ↦ inl p | inr p ↦ inr (e.0 p) ], λ s. m.1 (elim s [ inl p ↦ inl p | inr p ↦ inr (e.1 p) ]))

    alone-low : (j : ℕ) → x < side → Below (alone lo past j) ↔ ((full lo past j ≡ true) × (lo j ≤ x))
    unfolding alone
    alone-low j h = go (full lo past j) refl
      where
        go : (b : Bool) → full lo past j ≡ b → Below (alone lo past j) ↔ ((full lo past j ≡ true) × (lo j ≤ x))
        go true e = rw e (λ g. (refl, g), λ g. g.1)
        go false e = rw e (λ g. absurd (omega arith), λ g. absurd (true≢false (sym g.0)))

    alone-high : (j : ℕ) → Beyond (alone lo past j) ↔ ((full lo past j ≡ true) × (x ≤ hi j))
    unfolding alone full
    alone-high j = go (ltb (lo j) (past j)) refl
      where
        go : (b : Bool) → ltb (lo j) (past j) ≡ b → Beyond (alone lo past j) ↔ ((full lo past j ≡ true) × (x ≤ hi j))
        go true e = rw e (λ g. (refl, omega arith), λ g. omega (arith, g.1, ltb-true (lo j) (past j) e))
        go false e = rw e (λ g. absurd (omega arith), λ g. absurd (true≢false (sym g.0)))

    module _ (small : (l : ℕ) → full lo past l ≡ true → l < layers) (j : ℕ) (near : j < layers) where
      reached-low : x < side → Below (reached lo past j) ↔ Strict true (full lo past) lo j x
      unfolding low_line
      reached-low h =
          let e = reached-iff Below (λ i j k. low_line lo i j k ≤ (k - i) * x) low-law j near in
          let a = alone-low j h in (
            λ g. elim (e.0 g) [ inl p ↦ here (a.0 p).0 (a.0 p).1 | inr (i, k, f, f', u, v, w, q) ↦ across i k f f' u v q ],
            λ s. e.1 (elim s [ here f p ↦ inl (a.1 (f, p)) | across i k f f' u v q ↦ inr (i, k, f, f', u, v, small k f', q) ]),
          )

      reached-high : Beyond (reached lo past j) ↔ Strict false (full lo past) hi j x
      unfolding high_line
      reached-high =
          let e = reached-iff Beyond (λ i j k. (k - i) * x ≤ high_line past i j k) high-law j near in
          let a = alone-high j in (
            λ g. elim (e.0 g) [ inl p ↦ here (a.0 p).0 (a.0 p).1 | inr (i, k, f, f', u, v, w, q) ↦ across i k f f' u v q ],
            λ s. e.1 (elim s [ here f p ↦ inl (a.1 (f, p)) | across i k f f' u v q ↦ inr (i, k, f, f', u, v, small k f', q) ]),
          )

-- ---- the section

line_of : (u : Bool) (full : ℕ → Bool) (end : ℕ → ℕ) (j r : ℕ) → Strict u full end j r → Line (Dir u) full end j r
line_of u full end j r (here f h) = own f h
line_of u full end j r (across i k f g h l s) = line i k f g (omega arith) (omega arith) (omega arith) s

-- The marked cells of layer l are those from lo l up to but not including past l, within the chart. There are none past the last layer
pub record InRuns (marked : ℕ → ℕ → Bool) (lo past : ℕ → ℕ) : Type 0 where
  pub exact : (l r : ℕ) → (marked l r ≡ true) ↔ ((lo l ≤ r) × (r < past l))
  pub small : (l : ℕ) → lo l < past l → l < layers
  pub fits : (l : ℕ) → past l ≤ side

module _ (marked : ℕ → ℕ → Bool) (lo past : ℕ → ℕ) (t : InRuns marked lo past) where
  abbrev filled : ℕ → Bool
  filled = full lo past

  is-filled : (l : ℕ) → lo l < past l → filled l ≡ true
  unfolding full
  is-filled l h = lt-ltb (lo l) (past l) h

  filled_is : (l : ℕ) → filled l ≡ true → lo l < past l
  unfolding full
  filled_is l e = ltb-true (lo l) (past l) e

  runs : Runs marked filled lo (hi lo past)
  runs =
      record {
        ordered = λ l f. omega (arith, filled_is l f);
        is-full = λ l r m. is-filled l (omega (arith, (t.exact l r).0 m));
        from-lo = λ l r m. ((t.exact l r).0 m).0;
        to-hi = λ l r m. omega (arith, (t.exact l r).0 m);
        in-run = λ l r f h k. (t.exact l r).1 (h, omega (arith, filled_is l f));
      }

  small-filled : (l : ℕ) → filled l ≡ true → l < layers
  small-filled l f = t.small l (filled_is l f)

  -- An upper line is in one of the layers and below the chart's end
  upper-layer : (j r : ℕ) → Upper filled (hi lo past) j r → j < layers
  upper-layer j r (own f h) = small-filled j f
  upper-layer j r (line i k f g a b l h) = omega (arith, small-filled k g)

  upper-below : (j r : ℕ) → Upper filled (hi lo past) j r → r < side
  upper-below j r (own f h) = omega (arith, t.fits j, filled_is j f)
  upper-below j r (line i k f g a b l h) =
      bounded (k - i) (k - j) (j - i) (past i - 1) (past k - 1) (omega arith) (omega arith) (omega (arith, t.fits i, filled_is i f))
      (omega (arith, t.fits k, filled_is k g)) h
    where
      bounded : (c d e y z : ℕ) → c ≡ d + e → 0 < c → y < side → z < side → c * r ≤ d * y + e * z → r < side
      bounded c d e y z q p u v m =
          elim (dec_lt r side) [
            | yes w ↦ w
            | no w ↦
                let y' : suc y ≤ r = omega arith in
                let z' : suc z ≤ r = omega arith in
                absurd (omega (arith, mul-le-mul_left d y', mul-le-mul_left e z', ap (λ s. s * r) q))
          ]

  -- A cell of the hull lies in the plane of layers and rows
  pub hull-on-plane : (x : Point) → InHull marked x → (x.col < layers) × (x.row < side)
  hull-on-plane x h =
      let u = hull-upper marked filled lo (hi lo past) runs x h in
      (upper-layer x.col x.row u, upper-below x.col x.row u)

  -- The hull's cells in a layer are those that the loops find
  hull-reached : (x : Point) → InHull marked x
      → (x.col < layers) × ((reached lo past x.col).low ≤ x.row) × (x.row < (reached lo past x.col).high)
  hull-reached x h =
      let u = hull-upper marked filled lo (hi lo past) runs x h in
      let (near, below) = hull-on-plane x h in (
        near,
        (reached-low lo past x.row small-filled x.col near below).1
            (strict true filled lo x.col x.row (hull-lower marked filled lo (hi lo past) runs x h)),
        (reached-high lo past x.row small-filled x.col near).1 (strict false filled (hi lo past) x.col x.row u),
      )

  reached-hull : (j r : ℕ) → j < layers → (reached lo past j).low ≤ r → r < (reached lo past j).high → InHull marked (at j r)
  reached-hull j r near low high =
      let u = line_of false filled (hi lo past) j r ((reached-high lo past r small-filled j near).0 high) in
      lines-hull marked filled lo (hi lo past) runs (at j r)
      (line_of true filled lo j r ((reached-low lo past r small-filled j near (upper-below j r u)).0 low)) u

  -- If the test passes, no cell is missing
  whole-full : (j r : ℕ) → whole lo past j ≡ true → (reached lo past j).low ≤ r → r < (reached lo past j).high → marked j r ≡ true
  unfolding whole whole_in
  whole-full j r e low high = go (leb (reached lo past j).high (reached lo past j).low) refl e
    where
      go : (b : Bool) → leb (reached lo past j).high (reached lo past j).low ≡ b
          → (b || (leb (lo j) (reached lo past j).low && leb (reached lo past j).high (past j))) ≡ true → marked j r ≡ true
      go true f g = let c : (reached lo past j).high ≤ (reached lo past j).low = leb-true _ _ f in absurd (omega arith)
      go false f g =
          let a : lo j ≤ (reached lo past j).low =
          leb-true _ _ (and_left (leb (lo j) (reached lo past j).low) (leb (reached lo past j).high (past j)) g) in
          let b : (reached lo past j).high ≤ past j =
          leb-true _ _ (and_right (leb (lo j) (reached lo past j).low) (leb (reached lo past j).high (past j)) g) in
          (t.exact j r).1 (omega arith, omega arith)

  pub clear-convex : clear lo past ≡ true → Convex marked
  unfolding clear
  clear-convex e x m =
      let (near, low, high) = hull-reached x m.hull in
      true≢false (sym (whole-full x.col x.row (every-at (whole lo past) layers e x.col near) low high) ∙ m.open_cell)

  -- If it fails, one is
  open_of : (j r : ℕ) → ((lo j ≤ r) → (r < past j) → ⊥) → marked j r ≡ false
  open_of j r h = not-held (marked j r) (λ e. let (a, b) = (t.exact j r).0 e in h a b)

  broken : (j : ℕ) → j < layers → whole lo past j ≡ false → (x : Point) × Missing marked x
  unfolding whole whole_in
  broken j near e =
      let (f, g) = (or-false-iff (leb (reached lo past j).high (reached lo past j).low) _).0 e in
      let gap : (reached lo past j).low < (reached lo past j).high = leb-false _ _ f in
      elim (dec_le (lo j) (reached lo past j).low) [
        | yes l ↦
            let m : past j < (reached lo past j).high = leb-false _ _ (rw (le-leb _ _ l) at g) in
            missing ((reached lo past j).high - 1) (omega arith) (omega arith) (λ a b. omega arith)
        | no l ↦ missing (reached lo past j).low (omega arith) gap (λ a b. l a)
      ]
    where
      missing : (r : ℕ) → (reached lo past j).low ≤ r → r < (reached lo past j).high → (lo j ≤ r → r < past j → ⊥)
          → (x : Point) × Missing marked x
      missing r a b h = (at j r, record { hull = reached-hull j r near a b; open_cell = open_of j r h })

  pub unclear-missing : clear lo past ≡ false → (x : Point) × Missing marked x
  unfolding clear
  unclear-missing e = let (j, l, f) = every-fails (whole lo past) layers e in broken j l f

  -- The test decides the hull statement
  pub clear-iff : (clear lo past ≡ true) ↔ Convex marked
  clear-iff = (clear-convex, back (clear lo past) refl)
    where
      back : (b : Bool) → clear lo past ≡ b → Convex marked → clear lo past ≡ true
      back true e h = e
      back false e h = let (x, m) = unclear-missing e in absurd (h x m)
