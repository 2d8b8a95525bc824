-- A list of a function's values has the value for i at index i, by induction on the count.
use Prim.Native.Nat.{ℕ, zero, suc, ◌+◌, ◌%◌, ◌<◌, ◌≤◌}
use native.Mathlib.Omega.{arith}
use mathlib.Core.Path.{◌≡◌, refl, sym, ap, ◌∙◌}
use mathlib.Core.Logic.{inl, inr}
use mathlib.Core.List.{List, [], ◌∷◌}
use lib.ListN.{length, get_or, set, length-set}
use lib.Seq.{get_or-set_same, get_or-set_other, ext_get_or}
use mathlib.Core.Bool.{Bool, true, false, cond}
use Rattle.base.proofs.BelowLaws.{below_suc}
use Rattle.chart.specs.Limits.{side}
use Rattle.chart.specs.declared.Point.{Point}
use Rattle.chart.specs.Outline.{Outline}
use Rattle.lattice.specs.Enclosed.{up_along, down_along}
use Rattle.rows.specs.Search.{numbered, corner_numbered, wrapped, kept_column, kept_up, kept_down}
use Rattle.spans.specs.Spans.{table}

pub length-table : (f : ℕ → ℕ) (i n : ℕ) → length (table f i n) ≡ n
unfolding table
length-table f i zero = refl
length-table f i (suc n) = ap suc (length-table f (suc i) n)

pub table_at : (f : ℕ → ℕ) (i n k : ℕ) → k < n → get_or (table f i n) k 0 ≡ f (i + k)
unfolding table
table_at f i zero k h = absurd (omega arith)
table_at f i (suc n) zero h = ap f (omega arith)
table_at f i (suc n) (suc k) h = table_at f (suc i) n k (omega arith) ∙ ap f (omega arith)

pub table-past : (f : ℕ → ℕ) (i n k : ℕ) → n ≤ k → get_or (table f i n) k 0 ≡ 0
unfolding table
table-past f i zero k h = refl
table-past f i (suc n) zero h = absurd (omega arith)
table-past f i (suc n) (suc k) h = table-past f (suc i) n k (omega arith)

-- The first k of the n numbers of l are values of f
pub record Filled (f : ℕ → ℕ) (n : ℕ) (l : List ℕ) (k : ℕ) : Type 0 where
  pub sized : length l ≡ n
  pub filled : (m : ℕ) → m < k → get_or l m 0 ≡ f m

pub filled-start : (f : ℕ → ℕ) (n : ℕ) (l : List ℕ) → length l ≡ n → Filled f n l 0
filled-start f n l e = record { sized = e; filled = λ m h. absurd (omega arith) }

pub filled_next : {f : ℕ → ℕ} {n : ℕ} {l : List ℕ} {k : ℕ} → Filled f n l k → k < n → (x : ℕ) → x ≡ f k → Filled f n (set l k x) (k + 1)
filled_next {l = l} {k = k} t h x e =
    record {
      sized = simp length-set t.sized;
      filled = λ m g.
          elim (below_suc m k (omega arith)) [
            | inl d ↦ rw d (get_or-set_same l k x 0 (omega (arith, t.sized)) ∙ e)
            | inr g' ↦ get_or-set_other l k m x 0 (λ d. omega arith) ∙ t.filled m g'
          ];
    }

pub filled-end : (f : ℕ → ℕ) (n : ℕ) (l : List ℕ) → Filled f n l n → l ≡ table f 0 n
filled-end f n l t =
    ext_get_or 0 l (table f 0 n) (t.sized ∙ sym (length-table f 0 n))
    (λ i h. t.filled i (omega (arith, t.sized)) ∙ sym (table_at f 0 n i (omega (arith, t.sized)) ∙ ap f (omega arith)))

-- The same for a function with the same values
pub filled-same : {f g : ℕ → ℕ} {n : ℕ} {l : List ℕ} {k : ℕ} → ((m : ℕ) → m < k → f m ≡ g m) → Filled f n l k → Filled g n l k
filled-same h t = record { sized = t.sized; filled = λ m l. t.filled m l ∙ h m l }

-- A kept column is a corner column of the chart
kept-column-le : (along : Point → ℕ → ℕ → Bool) (w : List ℕ) (n r d : ℕ) → d ≤ side → kept_column along n w r d ≤ side
unfolding kept_column
kept-column-le along [] n r d h = h
kept-column-le along (a ∷ w) n r d h = kept-column-le along w (wrapped n a) r _ (go (along (corner_numbered n) a r))
  where
    go : (x : Bool) → cond x (n % 256) d ≤ side
    go true = omega arith
    go false = h

pub up_le : (o : Outline) (r : ℕ) → kept_up o r ≤ side
up_le o r = kept-column-le up_along o.letters (numbered o.start) r 0 (omega arith)

pub down_le : (o : Outline) (r : ℕ) → kept_down o r ≤ side
down_le o r = kept-column-le down_along o.letters (numbered o.start) r 0 (omega arith)
