-- While no letter leaves the chart, the numbers are those of the current corner; the first letter that leaves it leads to a number off the
-- chart.
use Rattle.std.proofs.Common.{◌≡◌, ℕ, zero, suc, ◌+◌, ◌*◌, ◌/◌, ◌%◌, ◌<◌, ◌≤◌, Bool, true, false, not, eqb, ltb, List, length, get_or, sym, refl, ap, ◌∙◌, add-one, arith, le-ltb, ltb-false, eqb-true}
use borrow.Author.Tests.{eqb-false}
use Rattle.base.specs.Below.{first}
use Rattle.base.proofs.BelowLaws.{first-none-at, first_step, first-stop}
use Rattle.chart.specs.declared.Point.{Point}
use Rattle.chart.specs.Limits.{longest}
use Rattle.chart.specs.Outline.{Outline, outline}
use Rattle.lattice.specs.Chart.{same_point, step, leaves, walk, corner_at, size, letter_at}
use Rattle.lattice.specs.Refusals.{letter_place, leaving_place, Stays, unclosed}
use Rattle.lattice.proofs.WalkLaws.{OnChart, point-eq, same-point-self, not-same-point, first_absent, step-on-chart, corner-zero}
use Rattle.lattice.proofs.WalkLaws.{corner-suc, corner-all, corners-on-chart}
use Rattle.lattice.proofs.Staying.{start-on-chart, stays_at}
use Rattle.survey_walk.specs.parts.Numbers.{col_number, col_stride, off_chart, row_number, row_stride}
use Rattle.std.specs.Prelude.{Ok, Err}
use Rattle.survey_walk.specs.parts.Walks.{Begun, Out, RestOf}
use Rattle.survey_walk.proofs.CheckLaws.{first-zero, counted-short}
use Rattle.survey_walk.proofs.NumberLaws.{col-stays, col-next, col-leaves, row_next}

letters-small : (o : Outline) → Begun o → (i : ℕ) → i < size o → letter_at o i < 4
unfolding letter_place
letters-small o b i l = omega (arith, ltb-false 3 (letter_at o i) (first_absent (λ i. ltb 3 (letter_at o i)) (size o) b.lettered i l))

module _ (o : Outline) (b : Begun o) where
  abbrev leaves_at : ℕ → Bool
  leaves_at j = leaves (corner_at o j) (letter_at o j)

  pub size_small : size o ≤ longest
  size_small = counted-short o.letters b.counted

  -- Every corner reached is on the chart
  pub reached-on-chart : {i n : ℕ} → Out o i n → (j : ℕ) → j ≤ i → OnChart (corner_at o j)
  reached-on-chart h zero l = rw (corner-zero o) (start-on-chart o.start b.started)
  reached-on-chart {i} h (suc j) l =
      rw (corner-suc o j (omega (arith, h.passed)))
      (step-on-chart (corner_at o j) (letter_at o j) (first-none-at leaves_at i h.none_leaves j (omega arith))
      (reached-on-chart h j (omega arith)))

  pub out-start : {n : ℕ} → n ≡ col_number o.start 0 → Out o 0 n
  out-start e = record { passed = omega arith; none_leaves = first-zero leaves_at; number = rw (corner-zero o) e }

  module _ {i n d : ℕ} (h : Out o i n) (l : i < size o) (e : d ≡ col_stride (letter_at o i % 4)) where
    small : letter_at o i < 4
    small = letters-small o b i l

    same : letter_at o i % 4 ≡ letter_at o i
    same = omega (arith, small)

    here : OnChart (corner_at o i)
    here = reached-on-chart h i (omega arith)

    place-small : i < 1023
    place-small = omega (arith, size_small)

    next : corner_at o (i + 1) ≡ step (corner_at o i) (letter_at o i)
    next = rw add-one (corner-suc o i l)

    to : (n + d) % 4294967296 ≡ (col_number (corner_at o i) i + col_stride (letter_at o i)) % 4294967296
    to = rw (h.number, e, same)

    -- The letter leaves the chart exactly where the number does
    off-leaves : off_chart ((n + d) % 4294967296) ≡ leaves_at i
    off-leaves = go (leaves_at i) refl
      where
        go : (v : Bool) → leaves_at i ≡ v → off_chart ((n + d) % 4294967296) ≡ v
        go true f = rw to (col-leaves (corner_at o i) i here place-small (letter_at o i) small f)
        go false f =
            ap off_chart (to ∙ col-next (corner_at o i) i here place-small (letter_at o i) small f)
            ∙ col-stays (step (corner_at o i) (letter_at o i)) (i + 1) (step-on-chart (corner_at o i) (letter_at o i) f here)
            (omega (arith, size_small))

    pub out-next : off_chart ((n + d) % 4294967296) ≡ false → Out o (i + 1) ((n + d) % 4294967296)
    out-next f =
        let stays : leaves_at i ≡ false = sym off-leaves ∙ f in
        record {
          passed = omega arith;
          none_leaves = first_step leaves_at i h.none_leaves stays;
          number = rw next (to ∙ col-next (corner_at o i) i here place-small (letter_at o i) small stays);
        }

    pub out-leaves : off_chart ((n + d) % 4294967296) ≡ true → i ≡ leaving_place o
    unfolding leaving_place
    out-leaves f = sym (first-stop leaves_at (size o) i h.none_leaves (sym off-leaves ∙ f) l)

    -- The number by rows goes along
    pub rows_next : {m g : ℕ} → m ≡ row_number (corner_at o i) i → g ≡ row_stride (letter_at o i % 4) → off_chart ((n + d) % 4294967296) ≡ false
        → (m + g) % 4294967296 ≡ row_number (corner_at o (i + 1)) (i + 1)
    rows_next f k off = rw (next, f, k, same) (row_next (corner_at o i) i here place-small (letter_at o i) small (sym off-leaves ∙ off))

  pub out_stays : {i n : ℕ} → Out o i n → i ≡ size o → leaving_place o ≡ size o
  unfolding leaving_place
  out_stays h e = ap (first leaves_at) (sym e) ∙ h.none_leaves ∙ e

  pub out-number : {i n : ℕ} → Out o i n → i ≡ size o → n ≡ col_number (walk o.start o.letters) (size o)
  out-number {i} {n} h e = h.number ∙ (λ z. col_number (corner_at o (e z)) (e z)) ∙ ap (λ (p : Point). col_number p (size o)) (corner-all o)

-- ---- the rest of a walk

-- Of the letters w: what holds of every start from which the walk came to the corner with number m at place k
abbrev pub Further : List ℕ → ℕ → ℕ → ℕ → ℕ → Type 0
Further w k m i n = (s : Point) → Begun (outline s w) → Out (outline s w) k m → Out (outline s w) i n

module _ {w : List ℕ} {k m i n d : ℕ} (h : Further w k m i n) (l : i < length w) (e : d ≡ col_stride (get_or w i 0 % 4)) where
  pub further-next : off_chart ((n + d) % 4294967296) ≡ false → Further w k m (i + 1) ((n + d) % 4294967296)
  further-next f s b g = out-next (outline s w) b (h s b g) l e f

  pub further-leaves : off_chart ((n + d) % 4294967296) ≡ true → (s : Point) → Begun (outline s w) → Out (outline s w) k m
      → RestOf (outline s w) (Err i)
  unfolding RestOf
  further-leaves f s b g = (l, out-leaves (outline s w) b (h s b g) l e f)

pub further-end : {w : List ℕ} {k m i n : ℕ} → Further w k m i n → length w ≤ i → (s : Point) → Begun (outline s w) → Out (outline s w) k m
    → RestOf (outline s w) (Ok n)
unfolding RestOf
further-end {w} {k} {m} {i} {n} h l s b g =
    let o = outline s w in
    let t = h s b g in
    let all : i ≡ size o = omega (arith, t.passed) in
    (le-ltb (leaving_place o) (size o) (omega (arith, out_stays o b t all)), out-number o b t all)

-- ---- refusal 5

same_number : (p q : Point) (i : ℕ) → OnChart p → OnChart q → i < 1024 → eqb (col_number p i / 1024) (q.col * 1024 + q.row) ≡ same_point p q
same_number p q i h k l = go (eqb (col_number p i / 1024) (q.col * 1024 + q.row)) refl
  where
    go : (b : Bool) → eqb (col_number p i / 1024) (q.col * 1024 + q.row) ≡ b → b ≡ same_point p q
    go true e =
        let f = eqb-true (col_number p i / 1024) (q.col * 1024 + q.row) e in
        sym (same-point-self p q (point-eq p q (omega arith) (omega arith)))
    go false e =
        sym
        (not-same-point p q λ d.
        eqb-false (col_number p i / 1024) (q.col * 1024 + q.row) e
        (let c = ap (λ (x : Point). x.col) d in
        let r = ap (λ (x : Point). x.row) d in
        omega arith))

pub away-unclosed : (o : Outline) → Begun o → Stays o → {n : ℕ} → n ≡ col_number (walk o.start o.letters) (size o)
    → not (eqb (n / 1024) (o.start.col * 1024 + o.start.row)) ≡ unclosed o
unfolding unclosed
away-unclosed o b t e =
    let start = start-on-chart o.start b.started in
    let end : OnChart (walk o.start o.letters) =
    rw (corner-all o) at (corners-on-chart o start (stays_at o t) (size o) (omega arith)) in
    rw e (ap not (same_number (walk o.start o.letters) o.start (size o) end start (omega (arith, size_small o b))))
