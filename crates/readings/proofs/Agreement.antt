-- "Inside" and "outside" agree with exactly inside, because rounding moves a side value by less than 1/64: if the computed one is at most
-- -1/64, the exact one is below 0, and if it is at least 1/64, the exact one is not below 0.
use Prim.Native.Nat.{ℕ, ◌^◌}
use mathlib.Core.Path.{◌≡◌, refl, sym, ap, ◌∙◌, subst}
use mathlib.Core.Logic.{◌↔◌, ◌⊎◌, inl, inr, ⊎_elim}
use mathlib.Core.Bool.{Bool, true, false, not, cond, ◌&&◌, and-eq-true_iff, true≢false}
use mathlib.Core.List.{List, Memᴰ}
use lib.IntN.{ℤ, pos, negsuc, neg_ℤ}
use lib.Signed.{le_z}
use lib.Dec.{T}
use lib.Ieee.{fin, binary32, fits}
use lib.Ieee.Bits.{of_bits-fits}
use lib.Ieee.Fits.{sub-fits}
use borrow.Author.Tests.{not-true, not-false}
use Rattle.base.specs.Each.{all_pass, some_pass}
use Rattle.base.proofs.BelowLaws.{not-held}
use Rattle.base.proofs.EachLaws.{all-at, all_of, any_found, any_at, any_none}
use Rattle.rounding.specs.Units.{negative, units, value}
use Rattle.rounding.proofs.Values.{Exact, exact-finite}
use Rattle.rounding.proofs.Order.{le-value, lt-value}
use Rattle.chart.specs.declared.Point.{Point}
use Rattle.convexity.specs.Inside.{not_negative}
use Rattle.calls.specs.declared.Reading.{Reading}
use Rattle.std.specs.Prelude.{Result, Ok, Err}
use Rattle.chart.specs.declared.Refusal.{Refusal}
use Rattle.chart.specs.declared.Refusal.TheVariants.{Cell}
use Rattle.readings.specs.declared.Located.{Located}
use Rattle.readings.specs.declared.Located.TheVariants.{Inside, Outside, Undecided}
use Rattle.readings.specs.Sides.{PlacedEdge, edges_along, exact_side, computed_side}
use Rattle.readings.specs.Located.{Held, bad_reading, within_extremes, exactly_inside, far, near, sided, stays_on, located_of, reading_of}
use Rattle.readings.specs.Claims.{Open, Answers}
use Rattle.readings.proofs.Numbers.{Good, good-both, good-number}
use Rattle.readings.proofs.Side.{Close, side-close}
use Rattle.readings.proofs.Edges.{stays-small}
use Rattle.readings.proofs.Apart.{far-negative, beyond-positive, inner-beyond, outer-far, level-near}

-- The reading of two bit patterns has 32-bit floats
pub patterns-held : (x y : ℕ) → Held (reading_of x y)
unfolding reading_of
patterns-held x y = record { angle = of_bits-fits binary32 x; load = of_bits-fits binary32 y }

-- ---- the answer by its tests

-- 11; the walk stays on the chart; between the extremes; far outside some edge; near some edge
answer : Bool → Bool → Bool → Bool → Bool → Result Located Refusal
answer b s w f n = cond b (Err Cell) (Ok (cond s (cond (w && not f) (cond n Undecided Inside) Outside) Outside))

-- What an answer says about the tests
abbrev Says : Result Located Refusal → Bool → Bool → Bool → Bool → Bool → Type 0
Says (Ok Inside) b s w f n = (b ≡ false) × (s ≡ true) × (w ≡ true) × (f ≡ false) × (n ≡ false)
Says (Ok Outside) b s w f n = (b ≡ false) × ((s ≡ false) ⊎ ((w ≡ false) ⊎ (f ≡ true)))
Says (Ok Undecided) b s w f n = (b ≡ false) × (s ≡ true) × (w ≡ true) × (f ≡ false) × (n ≡ true)
Says (Err why) b s w f n = b ≡ true

says : (b s w f n : Bool) → Says (answer b s w f n) b s w f n
unfolding answer
says true s w f n = refl
says false false w f n = (refl, inl refl)
says false true false f n = (refl, inr (inl refl))
says false true true true n = (refl, inr (inr refl))
says false true true false true = (refl, refl, refl, refl, refl)
says false true true false false = (refl, refl, refl, refl, refl)

module _ (a : Point) (es : List ℤ) (r : Reading) where
  abbrev Told : Result Located Refusal → Type 0
  Told l = Says l (bad_reading r) (stays_on a es) (within_extremes a es r) (some_pass (far r) (edges_along a es)) (some_pass (near r) (edges_along a es))

  told : (l : Result Located Refusal) → located_of a es r ≡ l → Told l
  unfolding answer located_of sided
  told l e =
      subst Told e (says (bad_reading r) (stays_on a es) (within_extremes a es r) (some_pass (far r) (edges_along a es))
      (some_pass (near r) (edges_along a es)))

  -- 11 is given exactly for a bad number
  pub refused-bad : {why : Refusal} → located_of a es r ≡ Err why → bad_reading r ≡ true
  refused-bad {why} e = told (Err why) e

  pub refused-iff : (located_of a es r ≡ Err Cell) ↔ (bad_reading r ≡ true)
  unfolding located_of
  refused-iff = (refused-bad, λ b. rw b)

  -- Undecided only if the walk stays on the chart
  pub undecided-stays : located_of a es r ≡ Ok Undecided → stays_on a es ≡ true
  undecided-stays e = let (good, on, within, none_far, some) = told (Ok Undecided) e in on

-- ---- a computed side value and the exact one

abbrev sixty_fourth : ℕ
sixty_fourth = 2 ^ 143

low-exact : Exact binary32 (fin true 1 (negsuc 5))
unfolding negative units
low-exact = record { is = (refl, refl) }

low-is : value binary32 (fin true 1 (negsuc 5)) ≡ neg_ℤ (pos sixty_fourth)
unfolding value negative units
low-is = refl

high-exact : Exact binary32 (fin false 1 (negsuc 5))
unfolding negative units
high-exact = record { is = (refl, refl) }

high_is : value binary32 (fin false 1 (negsuc 5)) ≡ pos sixty_fourth
unfolding value negative units
high_is = refl

module _ (a : Point) (es : List ℤ) (r : Reading) (held : Held r) (good : bad_reading r ≡ false) (on : stays_on a es ≡ true) where
  good-numbers : Good r.angle × Good r.load
  good-numbers =
      let neither = good-both r good in
      (good-number r.angle held.angle neither.0, good-number r.load held.load neither.1)

  -- The computed side value is finite, and rounding has moved it by less than 1/64
  pub computed-close : (e : PlacedEdge) → Memᴰ e (edges_along a es) → Close (computed_side r e) (exact_side r e)
  computed-close e m = side-close r e good-numbers.0 good-numbers.1 (stays-small a es on e m)

  -- The two comparisons, in units of 2 ^ -149
  pub far-value : (e : PlacedEdge) → Memᴰ e (edges_along a es)
      → far r e ≡ le_z (value binary32 (computed_side r e)) (neg_ℤ (pos sixty_fourth))
  unfolding far
  far-value e m = rw low-is at (le-value binary32 (computed_side r e) (fin true 1 (negsuc 5)) (computed-close e m).exact low-exact)

  pub near-value : (e : PlacedEdge) → Memᴰ e (edges_along a es)
      → near r e ≡ not (le_z (pos sixty_fourth) (value binary32 (computed_side r e)))
  unfolding near
  near-value e m = rw high_is at (lt-value binary32 (computed_side r e) (fin false 1 (negsuc 5)) (computed-close e m).exact high-exact)

-- The last difference is rounded to 32 bits
computed_fits : (r : Reading) (e : PlacedEdge) → T (fits binary32 (computed_side r e))
unfolding computed_side
computed_fits r e = sub-fits binary32 _ _

-- ---- "inside" and "outside" agree with exactly inside

module _ (a : Point) (es : List ℤ) (r : Reading) (held : Held r) where
  pub inside-exact : located_of a es r ≡ Ok Inside → exactly_inside a es r ≡ true
  unfolding exactly_inside
  inside-exact e =
      let (good, on, within, none_far, none-near) = told a es r (Ok Inside) e in
      (and-eq-true_iff (within_extremes a es r) (all_pass (λ e. not_negative (exact_side r e)) (edges_along a es))).1 (
        within,
        all_of (λ e. not_negative (exact_side r e)) (edges_along a es) (λ e m.
            beyond-positive sixty_fourth (value binary32 (computed_side r e)) (exact_side r e) (computed-close a es r held good on e m).near
            (not-false _ (sym (near-value a es r held good on e m) ∙ any_none (near r) (edges_along a es) none-near e m))),
      )

  module _ (on : stays_on a es ≡ true) where
    pub outside-exact : located_of a es r ≡ Ok Outside → exactly_inside a es r ≡ false
    unfolding exactly_inside
    outside-exact e =
        let (good, why) = told a es r (Ok Outside) e in
        not-held (exactly_inside a es r) (λ i.
        let (within, sides) = (and-eq-true_iff (within_extremes a es r) (all_pass (λ e. not_negative (exact_side r e)) (edges_along a es))).0 i in
        ⊎_elim (λ off. true≢false (sym on ∙ off))
        (⊎_elim (λ out. true≢false (sym within ∙ out)) (λ some.
        let (e, m, f) = any_found (far r) (edges_along a es) some in
        true≢false (sym (all-at (λ e. not_negative (exact_side r e)) (edges_along a es) sides e m)
        ∙ far-negative sixty_fourth (value binary32 (computed_side r e)) (exact_side r e) (computed-close a es r held good on e m).near
        (sym (far-value a es r held good on e m) ∙ f))))
        why)

    -- ---- when the answer is "undecided"

    module _ (good : bad_reading r ≡ false) where
      -- It lies within the extremes, every computed side value is above -1/64, and some is below 1/64
      pub undecided-iff : (located_of a es r ≡ Ok Undecided) ↔ Open a es r
      unfolding located_of sided
      undecided-iff = (
        λ e.
            let (b, s, within, none_far, some) = told a es r (Ok Undecided) e in
            let (edge, met, n) = any_found (near r) (edges_along a es) some in
            record {
              within = within;
              none_far = λ e m. sym (far-value a es r held good on e m) ∙ any_none (far r) (edges_along a es) none_far e m;
              edge = edge;
              met = met;
              close = not-true _ (sym (near-value a es r held good on edge met) ∙ n);
            },
        λ o.
            let none_far = not-held (some_pass (far r) (edges_along a es)) (λ some.
            let (e, m, f) = any_found (far r) (edges_along a es) some in
            true≢false (sym f ∙ far-value a es r held good on e m ∙ o.none_far e m)) in
            let some =
            any_at (near r) (edges_along a es) o.edge o.met (near-value a es r held good on o.edge o.met
            ∙ ap not o.close) in
            rw (good, on, o.within, none_far, some),
      )

      -- The answer is decided if all exact values are at least 1/32
      pub decided-inside : ((e : PlacedEdge) → Memᴰ e (edges_along a es) → le_z (pos (2 ^ 144)) (exact_side r e) ≡ true)
          → located_of a es r ≡ Ok Undecided → ⊥
      decided-inside h e =
          let o = undecided-iff.0 e in
          true≢false (sym (inner-beyond sixty_fourth (value binary32 (computed_side r o.edge)) (exact_side r o.edge)
          (computed-close a es r held good on o.edge o.met).near (h o.edge o.met)) ∙ o.close)

      -- It is decided too if one is at most -1/32
      pub decided-outside : (e : PlacedEdge) → Memᴰ e (edges_along a es) → le_z (exact_side r e) (neg_ℤ (pos (2 ^ 144))) ≡ true
          → located_of a es r ≡ Ok Undecided → ⊥
      decided-outside e m h u =
          true≢false (sym (outer-far sixty_fourth (value binary32 (computed_side r e)) (exact_side r e)
          (computed-close a es r held good on e m).near h) ∙ (undecided-iff.0 u).none_far e m)

      -- On an edge of what is exactly inside it is always undecided
      pub undecided-on-edge : exactly_inside a es r ≡ true → (e : PlacedEdge) → Memᴰ e (edges_along a es) → exact_side r e ≡ pos 0
          → located_of a es r ≡ Ok Undecided
      unfolding exactly_inside
      undecided-on-edge i e m z =
          let (within, sides) = (and-eq-true_iff (within_extremes a es r) (all_pass (λ e. not_negative (exact_side r e)) (edges_along a es))).0 i in
          undecided-iff.1 (record {
            within = within;
            none_far =
                λ e m. not-held _ (λ f.
                true≢false (sym (all-at (λ e. not_negative (exact_side r e)) (edges_along a es) sides e m)
                ∙ far-negative sixty_fourth (value binary32 (computed_side r e)) (exact_side r e)
                (computed-close a es r held good on e m).near f));
            edge = e;
            met = m;
            close =
                level-near sixty_fourth (value binary32 (computed_side r e)) (exact_side r e) (computed-close a es r held good on e m).near z;
          })

      -- All claims together
      pub answers : Answers a es r
      answers =
          record {
            finite = λ e m. (exact-finite binary32 _ (computed-close a es r held good on e m).exact, computed_fits r e);
            close = λ e m. (computed-close a es r held good on e m).near;
            inside = inside-exact;
            outside = outside-exact;
            undecided = undecided-iff;
            inner = decided-inside;
            outer = decided-outside;
          }
