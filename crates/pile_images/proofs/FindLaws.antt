-- What rows are: the letters round the rows of a taken outline are its border, which is taken with the same rows, so testing these
-- letters decides.
use Rattle.std.specs.Prelude.{Result, None, Some, Ok, Err}
use Prim.Native.Nat.{ℕ, ◌-◌, ◌≤◌, ◌<◌}
use native.Mathlib.Decide.{dec_lt}
use native.Mathlib.Omega.{arith}
use mathlib.Core.Path.{◌≡◌, refl, sym, ap, subst, ◌∙◌}
use mathlib.Core.Logic.{◌↔◌}
use mathlib.Core.Bool.{Bool, true, false, true≢false}
use mathlib.Core.List.{List, ◌++◌}
use lib.ListN.{length, take, drop, replicate, length-append, length-drop, get_or-replicate}
use lib.Seq.{take_at}
use borrow.Author.Tests.{le-ltb}
use Rattle.base.specs.Below.{first}
use Rattle.base.proofs.BelowLaws.{first-le, first_found, first-before, first-none}
use Rattle.chart.specs.Limits.{side, longest}
use Rattle.chart.specs.declared.Point.{Point}
use Rattle.chart.specs.declared.Taken.{Taken}
use Rattle.chart.specs.Taken.{taken_with}
use Rattle.chart.specs.declared.Refusal.{Refusal}
use Rattle.chart.specs.declared.Refusal.TheVariants.{Damaged}
use Rattle.chart.specs.Outline.{Outline, outline, at}
use Rattle.chart.specs.Fields.{verdict_fields}
use Rattle.lattice.specs.Chart.{size}
use Rattle.lattice.specs.Refusals.{Simple}
use Rattle.lattice.proofs.WalkLaws.{walked}
use Rattle.rows.specs.parts.Rows.{rows}
use Rattle.convexity.specs.Border.{HasEdges}
use Rattle.convexity.specs.Clockwise.{border, block}
use Rattle.convexity.specs.Pieces.{edges}
use Rattle.convexity.specs.FromEdges.{letters_from}
use Rattle.convexity.proofs.Border.{border-form, border-has}
use Rattle.verdict.specs.Verdict.{verdict_of}
use Rattle.verdict.proofs.VerdictLaws.{TakenFacts, taken-facts}
use Rattle.border_model.specs.Outlined.{TakenAs}
use Rattle.border_model.proofs.Outlines.{taken-has, has-taken}
use Rattle.completion.specs.parts.Written.{written_from}
use Rattle.hull_rows.specs.parts.Ends.{Lowest}
use Rattle.completion.proofs.BlockEnds.{block-joined, rows-below, rows_fit}
use Rattle.completion.proofs.Extent.{length-border}
use Rattle.spans.specs.declared.Spans.{Spans}
use Rattle.spans.specs.Spans.{no_spans, spans_of, in_spans}
use Rattle.spans.proofs.Exact.{spans-exact, same-border}
use Rattle.live_sections.specs.parts.Reach.{has_cell, bottom_of, top_of}
use Rattle.pile_images.specs.declared.Ring.{Ring}
use Rattle.pile_images.specs.Left.{SetTo}
use Rattle.pile_images.specs.parts.Found.{Ringed, Holds}
use Rattle.pile_images.proofs.LayerRows.{bottom-row, border-round}

-- ---- the letters round rows

module _ (first past lo hi : List ℕ) (firsts : (k : ℕ) → rows lo k ≡ rows first k) (pasts : (k : ℕ) → rows hi k ≡ rows past k) (b t m n : ℕ)
    (w : Lowest (rows lo) b t m) (counted : n ≡ length (written_from (rows lo) (rows hi) b t m)) where
  abbrev ring : Ring
  ring = record { start = at (rows lo m) m; count = n }

  ringed : (l : List ℕ) → length l ≡ longest → (n ≤ longest → take n l ≡ written_from (rows lo) (rows hi) b t m)
      → Ringed (rows first) (rows past) b t l (record { start = at (rows lo m) m; count = n })
  ringed l long written =
      subst (λ (f : ℕ → ℕ). Ringed f (rows past) b t l ring) (λ i k. firsts k i)
      (subst (λ (f : ℕ → ℕ). Ringed (rows lo) f b t l ring) (λ i k. pasts k i)
      (record { lowest = w; start = refl; counted = counted; written = written; sized = long }))

  pub ring-counted : longest < n → (l : List ℕ) → length l ≡ longest
      → Ringed (rows first) (rows past) b t l (record { start = at (rows lo m) m; count = n })
  ring-counted many l long = ringed l long (λ k. absurd (omega arith))

  pub ring-written : n ≤ longest → (before after : List ℕ) → length before ≡ longest
      → after ≡ written_from (rows lo) (rows hi) b t m ++ drop (length (written_from (rows lo) (rows hi) b t m)) before
      → Ringed (rows first) (rows past) b t after (record { start = at (rows lo m) m; count = n })
  ring-written few before after room e =
      let u = written_from (rows lo) (rows hi) b t m in
      let v = drop (length u) before in
      ringed after (omega (arith, counted, room, ap length e, length-append u v, length-drop (length u) before))
      (λ k. ap (take n) e ∙ take_at u v n (sym counted))

-- ---- a taken outline and its border

module _ {o : Outline} {s : Spans} (h : SetTo o s) where
  abbrev number : Result Taken Refusal → ℕ
  number v = (verdict_fields v).number

  facts : TakenFacts o h.edges_counted h.anchor
  facts = taken-facts o h.edges_counted h.anchor h.taken

  pub set-simple : Simple o
  set-simple = facts.reaches.simple

  set-exact : (c r : ℕ) → in_spans s c r ≡ block o c r
  set-exact = subst (λ (x : Spans). (c r : ℕ) → in_spans x c r ≡ block o c r) (sym h.rows) (spans-exact o facts.reaches)

  -- The border is taken, and has the same rows
  pub set-border : SetTo (border o) s
  set-border =
      let a : TakenAs o h.anchor (edges (border o)) = record { edges_counted = h.edges_counted; taken = h.taken; edged = refl } in
      let e : HasEdges o h.anchor (edges (border o)) = taken-has a in
      let f = border-form e in
      let g = border-has e in
      let t = has-taken g in
      subst (λ (v : Outline). SetTo v s) (sym f) (record {
        edges_counted = t.edges_counted;
        anchor = h.anchor;
        taken = t.taken;
        rows =
            h.rows ∙ same-border o (outline h.anchor (letters_from (edges (border o)))) e.reaches g.reaches
            (f ∙ sym (border-form g));
      })

  -- Some row has a cell
  set-some : bottom_of s < side
  set-some =
      let j = block-joined o set-simple in
      omega (arith, bottom-row s (block o) j set-exact, rows-below (block o) j, rows_fit (block o) j)

  -- The letters round the rows are the border
  module _ (l : List ℕ) (b t : ℕ) (r : Ring) (low : b ≡ bottom_of s) (high : t ≡ top_of s)
      (g : Ringed (rows s.first) (rows s.past) b t l r)
    where
      ring-border : border o ≡ outline r.start (written_from (rows s.first) (rows s.past) b t r.start.row)
      ring-border =
          border-round o set-simple (ap number h.taken) s set-exact b t low high r.start.row g.lowest
          ∙ ap (λ (p : Point). outline p (written_from (rows s.first) (rows s.past) b t r.start.row)) (sym g.start)

      pub ring-short : r.count ≤ longest
      ring-short =
          omega (
            arith,
            g.counted,
            ap size ring-border,
            length-border o set-simple,
            (walked o set-simple).short,
          )

      pub ring-is : border o ≡ outline r.start (take r.count l)
      ring-is = ring-border ∙ ap (outline r.start) (sym (g.written ring-short))

-- ---- whether a set of an outline leaves these rows

module _ (o : Outline) (s : Spans) (v : Result Taken Refusal) (e : v ≡ verdict_of o) where
  pub not_set : (f : Refusal) → v ≡ Err f → (false ≡ true) ↔ SetTo o s
  not_set f g = (
    λ k. absurd (true≢false (sym k)),
    λ h. let t = h.taken in let z : ◌≡◌ {A = ℕ} 0 1 = cc in absurd (omega (arith, z)),
  )

  pub set-iff : (n : ℕ) (a : Point) → v ≡ taken_with n a → (x : Spans) → x ≡ spans_of o → (b : Bool) → (b ≡ true) ↔ (s ≡ x)
      → (b ≡ true) ↔ SetTo o s
  set-iff n a g x own b same = (
    λ k. record { edges_counted = n; anchor = a; taken = sym e ∙ g; rows = same.0 k ∙ own },
    λ h. same.1 (h.rows ∙ sym own),
  )

-- ---- rows without a cell

no_cell : (r : ℕ) → r < side → has_cell no_spans.first no_spans.past r ≡ false
unfolding has_cell no_spans
no_cell r l =
    let z : rows (replicate side 0) r ≡ 0 = get_or-replicate {A = ℕ} side r 0 0 l in
    le-ltb (rows (replicate side 0) r) (rows (replicate side 0) r) (omega arith)

none-bottom : bottom_of no_spans ≡ side
unfolding bottom_of
none-bottom = first-none (has_cell no_spans.first no_spans.past) side no_cell

pub set-not-none : {o : Outline} {s : Spans} → SetTo o s → s ≡ no_spans → ⊥
set-not-none h e = omega (arith, set-some h, ap bottom_of e, none-bottom)

module _ (s : Spans) (l : List ℕ) where
  pub found-empty : s ≡ no_spans → Holds s l (Ok None)
  unfolding Holds
  found-empty e = e

  pub found-bare : bottom_of s ≡ side → (s ≡ no_spans → ⊥) → Holds s l (Err Damaged)
  unfolding Holds
  found-bare none e = (refl, e, λ o h. omega (arith, none, set-some h))

-- ---- rows with one

pub some-row : (s : Spans) (b : ℕ) → b ≡ bottom_of s → (b ≡ side → ⊥) → bottom_of s < side
unfolding bottom_of
some-row s b e none =
    let f : ℕ → Bool = has_cell s.first s.past in
    elim (dec_lt (first f side) side) [ yes l ↦ l | no l ↦ absurd (none (omega (arith, e, first-le f side))) ]

module _ (s : Spans) (some : bottom_of s < side) where
  rows-span : (bottom_of s < top_of s) × (top_of s ≤ side)
  unfolding bottom_of top_of
  rows-span =
      let f : ℕ → Bool = has_cell s.first s.past in
      let g : ℕ → Bool = λ k. f (side - 1 - k) in
      let b = first f side in
      let e : side - 1 - (side - 1 - b) ≡ b = omega arith in
      let here : g (side - 1 - b) ≡ true = ap f e ∙ first_found f side some in
      let m : first g side ≤ side - 1 - b =
      elim (dec_lt (side - 1 - b) (first g side)) [
        | yes k ↦ absurd (true≢false (sym here ∙ first-before g side (side - 1 - b) k))
        | no k ↦ omega arith
      ] in
      (omega arith, omega arith)

  pub between : (b t : ℕ) → b ≡ bottom_of s → t ≡ top_of s → (b < t) × (t ≤ side)
  between b t low high = let (k, m) = rows-span in (omega arith, omega arith)

  not_none : s ≡ no_spans → ⊥
  not_none e = omega (arith, some, ap bottom_of e, none-bottom)

  module _ (l : List ℕ) (b t : ℕ) (r : Ring) (low : b ≡ bottom_of s) (high : t ≡ top_of s)
      (g : Ringed (rows s.first) (rows s.past) b t l r)
    where
      pub found-long : longest < r.count → Holds s l (Err Damaged)
      unfolding Holds
      found-long k = (refl, not_none, λ o h. omega (arith, k, ring-short h l b t r low high g))

      pub found-outline : r.count ≤ longest → SetTo (outline r.start (take r.count l)) s
          → Holds s l (Ok (Some r))
      unfolding Holds
      found-outline k h = (omega (arith, g.sized), g.sized, h, λ o i. ring-is i l b t r low high g)

      pub found-other : (SetTo (outline r.start (take r.count l)) s → ⊥) → Holds s l (Err Damaged)
      unfolding Holds
      found-other k =
          (refl, not_none, λ o h. k (subst (λ (v : Outline). SetTo v s) (ring-is h l b t r low high g) (set-border h)))
