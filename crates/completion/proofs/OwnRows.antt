-- The border of a taken outline goes round the rows of its own block: no cell is missing, so the hull's rows are the block's.
use Prim.Native.Nat.{ℕ, pred, ◌≤◌, ◌<◌}
use native.Mathlib.Omega.{arith}
use mathlib.Core.Path.{◌≡◌, sym, ap, ap₂, ◌∙◌}
use mathlib.Core.Bool.{true}
use Rattle.chart.specs.Outline.{Outline, outline, at}
use Rattle.chart.specs.Fields.{verdict_fields}
use Rattle.lattice.specs.Refusals.{Simple}
use Rattle.convexity.specs.Clockwise.{border, block}
use Rattle.verdict.specs.Verdict.{verdict_of}
use Rattle.completion.specs.Complete.{first_cell, past_cell, first_row, past_row}
use Rattle.completion.specs.parts.Written.{written_from}
use Rattle.completion.proofs.HullRows.{Ends, hull-rows, wider_left, wider_right, hull-iff}
use Rattle.completion.proofs.BlockEnds.{block-joined, ends, cell-after, cell-before}
use Rattle.completion.proofs.Written.{written_same}
use Rattle.completion.proofs.Theorem.{left, right, complete-hull, complete-own, complete-own-border, complete-border}

module _ (o : Outline) (h : Simple o) (taken : (verdict_fields (verdict_of o)).number ≡ 0) where
  abbrev lo : ℕ → ℕ
  lo = first_cell (block o)

  abbrev hi : ℕ → ℕ
  hi = past_cell (block o)

  abbrev b : ℕ
  b = first_row (block o)

  abbrev t : ℕ
  t = past_row (block o)

  all : Ends (block o) (first_cell (block o)) (past_cell (block o)) (first_row (block o)) (past_row (block o))
  all = ends (block o) (block-joined o h)

  some-columns : (r : ℕ) → b ≤ r → r < t → left o h r < right o h r
  some-columns = (hull-rows lo hi b t all.rows).nonempty

  -- A cell in the hull's rows is enclosed
  held : (c r : ℕ) → b ≤ r → r < t → left o h r ≤ c → c < right o h r → block o c r ≡ true
  held c r k l m n =
      sym (complete-own o h taken c r)
      ∙ (complete-hull o h (at c r)).1
      ((hull-iff (block o) lo hi b t all (at c r)).1 (record { above = k; below = l; begun = m; before = n }))

  own-left : (r : ℕ) → b ≤ r → r < t → first_cell (block o) r ≡ left o h r
  own-left r k l =
      omega (
        arith,
        wider_left lo hi b t all.rows r k l,
        cell-after (block o) (block-joined o h) (left o h r) r (held (left o h r) r k l (omega arith) (some-columns r k l)),
      )

  own-right : (r : ℕ) → b ≤ r → r < t → past_cell (block o) r ≡ right o h r
  own-right r k l =
      let some = some-columns r k l in
      omega (
        arith,
        wider_right lo hi b t all.rows r k l,
        cell-before (block o) (block-joined o h) (pred (right o h r)) r
            (held (pred (right o h r)) r k l (omega (arith, some)) (omega (arith, some))),
      )

  -- From the lower left corner of row m, the lowest of the rows that begin furthest left
  pub own-rows :
      (first past : ℕ → ℕ) → ((r : ℕ) → b ≤ r → r < t → first r ≡ first_cell (block o) r)
      → ((r : ℕ) → b ≤ r → r < t → past r ≡ past_cell (block o) r) → (m : ℕ) → b ≤ m → m < t
      → ((r : ℕ) → b ≤ r → r < t → first m ≤ first r) → ((r : ℕ) → b ≤ r → r < m → first m < first r)
      → border o ≡ outline (at (first m) m) (written_from first past b t m)
  own-rows first past firsts pasts m low high least lowest =
      sym (complete-own-border o h taken)
      ∙ complete-border o h m low high (λ r k l. omega (arith, is-left m low high, is-left r k l, least r k l))
      (λ r k l. omega (arith, is-left m low high, is-left r k (omega arith), lowest r k l))
      ∙ ap₂ outline (ap (λ (c : ℕ). at c m) (sym (is-left m low high)))
      (sym (written_same first (left o h) past (right o h) b t m low high is-left (λ r k l. pasts r k l ∙ own-right r k l)))
    where
      is-left : (r : ℕ) → b ≤ r → r < t → first r ≡ left o h r
      is-left r k l = firsts r k l ∙ own-left r k l
