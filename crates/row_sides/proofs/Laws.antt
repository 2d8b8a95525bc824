-- The pass, letter by letter: what is kept so far, together with the remaining letters, gives the sides of the rows.
use Rattle.std.proofs.Common.{◌≡◌, ℕ, zero, suc, ◌+◌, ◌-◌, ◌<◌, ◌≤◌, min, max, Bool, true, false, cond, eqb, ◌⊎◌, List, length, drop, set, replicate, sym, refl, ap, ◌∙◌, subst, inl, inr, add-one, arith, length-set, drop_of_length-le, drop-cons, get_or-set_other, get_or-set_same, le-ltb, lt-ltb, eq-eqb, ne_eqb, eqb-true}
use native.Mathlib.Decide.{dec_lt}
use lib.ListN.{length-replicate, get_or-replicate}
use borrow.Author.Tests.{eqb-false}
use Rattle.base.proofs.BelowLaws.{same_test}
use Rattle.chart.specs.Limits.{corners, side}
use Rattle.chart.specs.declared.Point.{Point}
use Rattle.chart.specs.Outline.{Outline}
use Rattle.lattice.specs.Chart.{step, corner_at, size, letter_at}
use Rattle.lattice.specs.Refusals.{Simple}
use Rattle.lattice.specs.Walked.{Walked}
use Rattle.lattice.proofs.WalkLaws.{walked, corner-zero, corner-suc}
use Rattle.rows.specs.Search.{numbered, corner_numbered, wrapped}
use Rattle.rows.specs.parts.Rows.{rows}
use Rattle.rows.proofs.RowLaws.{corner-numbered, wrapped-staying}
use Rattle.completion.specs.Sides.{along_row, least_over, greatest_over, last_side, lowest_corner, highest_corner}
use Rattle.completion.proofs.Sides.{along-cases, along-up, along-down}
use Rattle.witness.specs.parts.Kept.{Two, keep_two, kept_two}
use Rattle.witness.proofs.Kept.{kept_sides, kept-first, kept-second-side}
use Rattle.row_sides.specs.parts.Passed.{Tells, Marks, Passed}

-- ---- the row of a letter

tells-by : (y a x : ℕ) → x < corners → ((p : Point) → p.row ≡ y → (r : ℕ) → r < side → along_row r p a ≡ true → x ≡ r)
    → ((p : Point) → p.row ≡ y → (r : ℕ) → r < side → x ≡ r → along_row r p a ≡ true) → Tells y a x
tells-by y a x l f g =
    record {
      below = l;
      tells = λ p e r h. same_test {P = x ≡ r} (along_row r p a) (eqb x r) (f p e r h, g p e r h) (
        (λ d. eqb-true x r d),
        λ d. eq-eqb x r d,
      );
    }

pub tells-up : (y a : ℕ) → y < corners → a ≡ 1 → Tells y a y
tells-up y a l e =
    tells-by y a y l
    (λ p d r h k. elim (along-cases r p a k) [ inl (_, q) ↦ sym d ∙ q | inr (z, _) ↦ absurd (omega arith) ])
    (λ p d r h k. along-up r p a e (d ∙ k))

pub tells-down : (y a : ℕ) → y < corners → a ≡ 3 → 0 < y → Tells y a (y - 1)
tells-down y a l e m =
    tells-by y a (y - 1) (omega arith)
    (λ p d r h k. elim (along-cases r p a k) [ inl (z, _) ↦ absurd (omega arith) | inr (_, q) ↦ omega arith ])
    (λ p d r h k. along-down r p a e (omega arith))

pub tells_none : (y a : ℕ) → (a ≡ 1 → ⊥) → (a ≡ 3 → 0 < y → ⊥) → Tells y a side
tells_none y a f g =
    tells-by y a side (omega arith)
    (λ p d r h k. elim (along-cases r p a k) [ inl (z, _) ↦ absurd (f z) | inr (z, q) ↦ absurd (g z (omega arith)) ])
    (λ p d r h k. absurd (omega arith))

-- ---- two columns and one more

abbrev Keeps : ℕ → ℕ → ℕ → ℕ → ℕ → Type 0
Keeps c u v u' v' = (u' ≡ (keep_two c (record { one = u; two = v })).one) × (v' ≡ (keep_two c (record { one = u; two = v })).two)

pub keeps-least : (c u v : ℕ) → c < u → Keeps c u v c u
unfolding keep_two
keeps-least c u v l = rw (lt-ltb c u l) (refl, refl)

pub keeps-second : (c u v : ℕ) → u < c → c < v → Keeps c u v u c
unfolding keep_two
keeps-second c u v l m = rw (le-ltb c u (omega arith), lt-ltb u c l, lt-ltb c v m) (refl, refl)

pub keeps-neither : (c u v : ℕ) → u ≤ c → (c ≤ u) ⊎ (v ≤ c) → Keeps c u v u v
unfolding keep_two
keeps-neither c u v l s =
    elim (dec_lt u c) [
      | yes m ↦ elim s [ inl z ↦ absurd (omega arith) | inr z ↦ rw (le-ltb c u l, lt-ltb u c m, le-ltb c v z) (refl, refl) ]
      | no m ↦ rw (le-ltb c u l, le-ltb u c (omega arith)) (refl, refl)
    ]

-- ---- one side more

two-eq : (s t : Two) → s.one ≡ t.one → s.two ≡ t.two → s ≡ t
two-eq s t e f = λ i. record { one = e i; two = f i }

-- The letter steps along row x, which may be no row of the chart
module _ (p : Point) (a x : ℕ) (lo en hi : List ℕ) (t : Tells p.row a x)
    (u : (length lo ≡ corners) × (length en ≡ corners) × (length hi ≡ corners)) where
  differ : (r : ℕ) → eqb x r ≡ false → r ≡ x → ⊥
  differ r e d = eqb-false x r e (sym d)

  pick_two :
      (one two : ℕ)
      → one ≡ (keep_two p.col (record { one = rows lo x; two = rows en x })).one
      → two ≡ (keep_two p.col (record { one = rows lo x; two = rows en x })).two
      → (r : ℕ) → r < side
      → ◌≡◌ {A = Two} (record { one = rows (set lo x one) r; two = rows (set en x two) r })
      (cond (along_row r p a) (keep_two p.col (record { one = rows lo r; two = rows en r }))
      (record { one = rows lo r; two = rows en r }))
  pick_two one two e f r h = rw (t.tells p refl r h) (go (eqb x r) refl)
    where
      go : (b : Bool) → eqb x r ≡ b
          → ◌≡◌ {A = Two} (record { one = rows (set lo x one) r; two = rows (set en x two) r })
          (cond b (keep_two p.col (record { one = rows lo r; two = rows en r })) (record { one = rows lo r; two = rows en r }))
      go true d =
          let z : x ≡ r = eqb-true x r d in
          two-eq _ _
          (subst (λ (y : ℕ). rows (set lo x one) y ≡ (keep_two p.col (record { one = rows lo y; two = rows en y })).one) z
          (get_or-set_same lo x one 0 (omega (arith, u.0, t.below)) ∙ e))
          (subst (λ (y : ℕ). rows (set en x two) y ≡ (keep_two p.col (record { one = rows lo y; two = rows en y })).two) z
          (get_or-set_same en x two 0 (omega (arith, u.1, t.below)) ∙ f))
      go false d = two-eq _ _ (get_or-set_other lo x r one 0 (differ r d)) (get_or-set_other en x r two 0 (differ r d))

  pick-last : (last : ℕ) → last ≡ max p.col (rows hi x) → (r : ℕ) → r < side
      → rows (set hi x last) r ≡ cond (along_row r p a) (max p.col (rows hi r)) (rows hi r)
  pick-last last g r h = rw (t.tells p refl r h) (go (eqb x r) refl)
    where
      go : (b : Bool) → eqb x r ≡ b → rows (set hi x last) r ≡ cond b (max p.col (rows hi r)) (rows hi r)
      go true d =
          subst (λ (y : ℕ). rows (set hi x last) y ≡ max p.col (rows hi y)) (eqb-true x r d)
          (get_or-set_same hi x last 0 (omega (arith, u.2, t.below)) ∙ g)
      go false d = get_or-set_other hi x r last 0 (differ r d)

  pub marks-side :
      (one two last : ℕ)
      → one ≡ (keep_two p.col (record { one = rows lo x; two = rows en x })).one
      → two ≡ (keep_two p.col (record { one = rows lo x; two = rows en x })).two
      → last ≡ max p.col (rows hi x) → Marks p a lo en hi (set lo x one) (set en x two) (set hi x last)
  marks-side one two last e f g =
      record {
        lo_size = length-set lo x one ∙ u.0;
        en_size = length-set en x two ∙ u.1;
        hi_size = length-set hi x last ∙ u.2;
        two = pick_two one two e f;
        last = pick-last last g;
      }

  none : side ≤ x → (r : ℕ) → r < side → along_row r p a ≡ false
  none l r h = t.tells p refl r h ∙ ne_eqb x r (λ d. omega arith)

  pub marks-none : side ≤ x → Marks p a lo en hi lo en hi
  marks-none l =
      record {
        lo_size = u.0;
        en_size = u.1;
        hi_size = u.2;
        two = λ r h. rw (none l r h) refl;
        last = λ r h. rw (none l r h) refl;
      }

-- ---- what is kept

pub record Passing (o : Outline) (i : ℕ) (p : Point) (lo en hi : List ℕ) (low high : ℕ) : Type 0 where
  pub at : p ≡ corner_at o i
  pub lo_size : length lo ≡ corners
  pub en_size : length en ≡ corners
  pub hi_size : length hi ≡ corners
  pub two : (r : ℕ) → r < side → kept_two r p (drop i o.letters) (record { one = rows lo r; two = rows en r }) ≡ kept_sides o r
  pub last : (r : ℕ) → r < side → greatest_over (along_row r) (λ (q : Point). q.col) p (drop i o.letters) (rows hi r) ≡ last_side o r
  pub lowest : least_over (λ q a. true) (λ (q : Point). q.row) p (drop i o.letters) low ≡ lowest_corner o
  pub highest : greatest_over (λ q a. true) (λ (q : Point). q.row) p (drop i o.letters) high ≡ highest_corner o

pub passing-start : (o : Outline) → Passing o 0 o.start (replicate corners side) (replicate corners side) (replicate corners 0) side 0
unfolding last_side lowest_corner highest_corner
passing-start o =
    record {
      at = sym (corner-zero o);
      lo_size = length-replicate {A = ℕ} corners side;
      en_size = length-replicate {A = ℕ} corners side;
      hi_size = length-replicate {A = ℕ} corners 0;
      two = λ r h. let e = get_or-replicate {A = ℕ} corners r side 0 (omega arith) in
          ap (λ (n : ℕ). kept_two r o.start o.letters (record { one = n; two = n })) e;
      last =
          λ r h. ap (greatest_over (along_row r) (λ q. q.col) o.start o.letters) (get_or-replicate {A = ℕ} corners r 0 0 (omega arith));
      lowest = refl;
      highest = refl;
    }

pub passing-end : (o : Outline) (i : ℕ) (p : Point) (lo en hi : List ℕ) (low high : ℕ) → size o ≤ i → Passing o i p lo en hi low high
    → Passed o lo en hi low high
unfolding kept_two least_over greatest_over
passing-end o i p lo en hi low high l k =
    let d = drop_of_length-le o.letters l in
    record {
      first = λ r h. ap (λ (t : Two). t.one) (rw d at (k.two r h)) ∙ kept-first o r;
      second = λ r h. ap (λ (t : Two). t.two) (rw d at (k.two r h)) ∙ kept-second-side o r;
      last = λ r h. rw d at (k.last r h);
      lowest = rw d at k.lowest;
      highest = rw d at k.highest;
    }

-- The corner is on the chart
pub passing-on : (o : Outline) (i : ℕ) (p : Point) (lo en hi : List ℕ) (low high : ℕ) → Simple o → i < size o
    → Passing o i p lo en hi low high → (p.col < corners) × (p.row < corners)
passing-on o i p lo en hi low high s l k =
    let w = walked o s in (
      omega (arith, ap (λ (q : Point). q.col) k.at, w.col_le i (omega arith)),
      omega (arith, ap (λ (q : Point). q.row) k.at, w.row_le i (omega arith)),
    )

-- One letter
module _ (o : Outline) (i : ℕ) (p : Point) (lo en hi : List ℕ) (low high : ℕ) (l : i < size o)
    (k : Passing o i p lo en hi low high) where
  abbrev rest : List ℕ
  rest = drop (suc i) o.letters

  pub passing-next :
      (lo' en' hi' : List ℕ) (low' high' : ℕ) (q : Point) → Marks p (letter_at o i) lo en hi lo' en' hi'
      → low' ≡ min p.row low → high' ≡ max p.row high → q ≡ step p (letter_at o i) → Passing o (i + 1) q lo' en' hi' low' high'
  unfolding kept_two least_over greatest_over
  passing-next lo' en' hi' low' high' q u m n s =
      let left : drop (i + 1) o.letters ≡ rest = ap (λ (z : ℕ). drop z o.letters) (add-one i) in
      record {
        at = s ∙ ap (λ (z : Point). step z (letter_at o i)) k.at ∙ sym (corner-suc o i l) ∙ ap (corner_at o) (sym (add-one i));
        lo_size = u.lo_size;
        en_size = u.en_size;
        hi_size = u.hi_size;
        two = λ r h. (λ j. kept_two r (s j) (left j) (u.two r h j)) ∙ (rw (drop-cons o.letters i 0 l) at (k.two r h));
        last = λ r h. (λ j. greatest_over (along_row r) (λ (z : Point). z.col) (s j) (left j) (u.last r h j))
            ∙ (rw (drop-cons o.letters i 0 l) at (k.last r h));
        lowest = (λ j. least_over (λ z a. true) (λ (z : Point). z.row) (s j) (left j) (m j))
            ∙ (rw (drop-cons o.letters i 0 l) at k.lowest);
        highest = (λ j. greatest_over (λ z a. true) (λ (z : Point). z.row) (s j) (left j) (n j))
            ∙ (rw (drop-cons o.letters i 0 l) at k.highest);
      }

-- ---- corners as numbers

-- The number of a corner of the chart, and back
numbered-corner : (n : ℕ) → n < 65536 → n ≡ numbered (corner_numbered n)
numbered-corner n h = omega arith

module _ (o : Outline) (simple : Simple o) where
  walk : Walked o
  walk = walked o simple

  pub start-numbered : corner_numbered (numbered o.start) ≡ o.start
  start-numbered =
      let e = corner-zero o in
      corner-numbered o.start (omega (arith, ap (λ (p : Point). p.col) e, walk.col_le 0 (omega arith)))
      (omega (arith, ap (λ (p : Point). p.row) e, walk.row_le 0 (omega arith)))

  -- No letter of an outline leaves the chart, so the next number is that of the next corner
  pub next-numbered : (i n m : ℕ) → i < size o → corner_numbered n ≡ corner_at o i → m ≡ wrapped n (letter_at o i)
      → corner_numbered m ≡ step (corner_numbered n) (letter_at o i)
  next-numbered i n m l e f =
      let p : Point = corner_at o i in
      let a : ℕ = letter_at o i in
      let low : n < 65536 = omega (arith, ap (λ (q : Point). q.row) e, walk.row_le i (omega arith)) in
      let here : n ≡ numbered p = numbered-corner n low ∙ ap (λ (q : Point). numbered q) e in
      let next : m ≡ numbered (step p a) =
      f ∙ ap (λ (z : ℕ). wrapped z a) here
      ∙ wrapped-staying p a (walk.col_le i (omega arith)) (walk.row_le i (omega arith)) (walk.letter i l) (walk.stays i l) in
      let reached : step p a ≡ corner_at o (suc i) = sym (corner-suc o i l) in
      ap (λ (z : ℕ). corner_numbered z) next
      ∙ corner-numbered (step p a)
      (omega (arith, ap (λ (q : Point). q.col) reached, walk.col_le (suc i) l))
      (omega (arith, ap (λ (q : Point). q.row) reached, walk.row_le (suc i) l))
      ∙ ap (λ (q : Point). step q a) (sym e)
