-- The pass over the letters keeps the column of the last up and of the last down along each row, because each letter changes at most one
-- row's entry. For an outline these columns are the ends of its rows, because no letter leaves the chart.
use Rattle.std.proofs.Common.{◌≡◌, ℕ, zero, suc, ◌+◌, ◌-◌, ◌*◌, ◌%◌, ◌^◌, ◌<◌, ◌≤◌, Bool, true, false, cond, ◌||◌, eqb, ltb, List, [], ◌∷◌, length, get_or, drop, set, replicate, sym, refl, ap, ◌∙◌, true≢false, add-one, arith, length-set, drop_of_length-le, drop-cons, get_or-set_other, get_or-set_same, le-ltb, lt-ltb, eq-eqb, eqb-true}
use lib.ListN.{length-replicate, get_or-replicate}
use Rattle.base.proofs.BelowLaws.{and_left, and_right}
use Rattle.chart.specs.Limits.{side}
use Rattle.chart.specs.declared.Point.{Point}
use Rattle.chart.specs.Outline.{Outline}
use Rattle.lattice.specs.Chart.{step, leaves, corner_at, size, letter_at}
use Rattle.lattice.specs.Refusals.{Simple}
use Rattle.lattice.specs.Enclosed.{up_along, down_along}
use Rattle.rows.specs.Search.{up_column, down_column, lowest_gap, numbered, corner_numbered, stride, wrapped, kept_column, kept_up}
use Rattle.rows.specs.Search.{kept_down, missing_cell, found_cell}
use Rattle.rows.specs.parts.Rows.{rows, Marked, RowEnds}
use Rattle.lattice.specs.Walked.{Walked}
use Rattle.lattice.proofs.WalkLaws.{walked, point-eq, corner-zero, corner-suc}
use Rattle.lattice.proofs.Staying.{stays-right, stays_up, stays-left, stays-down}
use Rattle.rows.proofs.SearchLaws.{lowest_gap-same}

-- What it means that a letter is an up, or a down, along row r
pub up-along : (p : Point) (a r : ℕ) → up_along p a r ≡ true → (a ≡ 1) × (p.row ≡ r)
unfolding up_along
up-along p a r e =
    (eqb-true a 1 (and_left (eqb a 1) (eqb p.row r) e), eqb-true p.row r (and_right (eqb a 1) (eqb p.row r) e))

pub along-up : (p : Point) (a r : ℕ) → a ≡ 1 → p.row ≡ r → up_along p a r ≡ true
unfolding up_along
along-up p a r h k = rw (eq-eqb a 1 h) (eq-eqb p.row r k)

pub down-along : (p : Point) (a r : ℕ) → down_along p a r ≡ true → (a ≡ 3) × (p.row ≡ suc r)
unfolding down_along
down-along p a r e =
    (eqb-true a 3 (and_left (eqb a 3) (eqb p.row (suc r)) e), eqb-true p.row (suc r) (and_right (eqb a 3) (eqb p.row (suc r)) e))

pub along-down : (p : Point) (a r : ℕ) → a ≡ 3 → p.row ≡ suc r → down_along p a r ≡ true
unfolding down_along
along-down p a r h k = rw (eq-eqb a 3 h) (eq-eqb p.row (suc r) k)

-- The test holds for one row, and the store is at that row; or it holds for no row, and there is no store
module _ (test : ℕ → Bool) (c : ℕ) (l : List ℕ) (size : length l ≡ 256) where
  pub marked-set : (x : ℕ) → x < 256 → test x ≡ true → ((r : ℕ) → test r ≡ true → r ≡ x) → Marked test c l (set l x c)
  marked-set x h t only = record { size = length-set l x c ∙ size; marked = λ r n. go r (test r) refl }
    where
      go : (r : ℕ) (b : Bool) → test r ≡ b → rows (set l x c) r ≡ cond b c (rows l r)
      go r true e = rw (only r e) (get_or-set_same l x c 0 (omega arith))
      go r false e = get_or-set_other l x r c 0 (λ d. true≢false (sym t ∙ ap test (sym d) ∙ e))

  pub marked-none : ((r : ℕ) → test r ≡ true → ⊥) → Marked test c l l
  marked-none none = record { size = size; marked = λ r n. go r (test r) refl }
    where
      go : (r : ℕ) (b : Bool) → test r ≡ b → rows l r ≡ cond b c (rows l r)
      go r true e = absurd (none r e)
      go r false e = refl

-- l has the columns kept from the letters before place i, where the walk is at corner n. The remaining letters complete them
pub record Kept (along : Point → ℕ → ℕ → Bool) (n₀ : ℕ) (w : List ℕ) (i n : ℕ) (l : List ℕ) : Type 0 where
  pub size : length l ≡ 256
  pub rest : (r : ℕ) → r < 256 → kept_column along n (drop i w) r (rows l r) ≡ kept_column along n₀ w r 0

-- One proof for ups and downs: `along` is the test
module _ (along : Point → ℕ → ℕ → Bool) (n₀ : ℕ) (w : List ℕ) where
  kept-start : Kept along n₀ w 0 n₀ (replicate 256 0)
  kept-start =
      record {
        size = length-replicate {A = ℕ} 256 0;
        rest = λ r h. ap (kept_column along n₀ w r) (get_or-replicate {A = ℕ} 256 r 0 0 h);
      }

  kept_next :
      (i n m : ℕ) (l l' : List ℕ) → i < length w → Marked (along (corner_numbered n) (get_or w i 0)) (n % 256) l l'
      → m ≡ wrapped n (get_or w i 0) →
      Kept along n₀ w i n l → Kept along n₀ w (i + 1) m l'
  unfolding kept_column
  kept_next i n m l l' h d e k = record { size = d.size; rest = λ r b. go r b (k.rest r b) }
    where
      go : (r : ℕ) → r < 256 → kept_column along n (drop i w) r (rows l r) ≡ kept_column along n₀ w r 0
          → kept_column along m (drop (i + 1) w) r (rows l' r) ≡ kept_column along n₀ w r 0
      go r b f = rw (e, add-one i, d.marked r b) (rw (drop-cons w i 0 h) at f)

  kept-end : (i n : ℕ) (l : List ℕ) → length w ≤ i → Kept along n₀ w i n l → (r : ℕ) → r < 256 → rows l r ≡ kept_column along n₀ w r 0
  unfolding kept_column
  kept-end i n l h k r b = rw (drop_of_length-le w h) at (k.rest r b)

-- What the loop over the letters keeps
pub record Marks (n₀ : ℕ) (w : List ℕ) (i n : ℕ) (lo hi : List ℕ) : Type 0 where
  pub ups : Kept up_along n₀ w i n lo
  pub downs : Kept down_along n₀ w i n hi

-- The wrapping sum in the code is the number of the next corner
pub wrapped_sum : (n a b m : ℕ) → b ≡ stride (a % 4) → m ≡ (n + b) % 2 ^ 16 → m ≡ wrapped n a
unfolding wrapped
wrapped_sum n a b m h e = rw (e, h)

module _ (n₀ : ℕ) (w : List ℕ) where
  pub marks-start : Marks n₀ w 0 n₀ (replicate 256 0) (replicate 256 0)
  marks-start = record { ups = kept-start up_along n₀ w; downs = kept-start down_along n₀ w }

  module _ (i n m : ℕ) (lo hi lo' hi' : List ℕ) where
    pub marks-next :
        i < length w → Marked (up_along (corner_numbered n) (get_or w i 0)) (n % 256) lo lo'
        → Marked (down_along (corner_numbered n) (get_or w i 0)) (n % 256) hi hi' →
        m ≡ wrapped n (get_or w i 0) → Marks n₀ w i n lo hi → Marks n₀ w (i + 1) m lo' hi'
    marks-next h u d e t =
        record { ups = kept_next up_along n₀ w i n m lo lo' h u e t.ups; downs = kept_next down_along n₀ w i n m hi hi' h d e t.downs }

pub marks-end : (o : Outline) (i n : ℕ) (lo hi : List ℕ) → size o ≤ i → Marks (numbered o.start) o.letters i n lo hi → RowEnds o lo hi
marks-end o i n lo hi h t =
    record { lo_up = kept-end up_along _ o.letters i n lo h t.ups; hi_down = kept-end down_along _ o.letters i n hi h t.downs }

-- ---- the three cases of found_cell

or-true : (a : Bool) → (a || true) ≡ true
or-true true = refl
or-true false = refl

module _ (o : Outline) (b t : ℕ) where
  pub found-high : side < t → o.start ≡ found_cell o b t
  unfolding found_cell
  found-high h = rw (lt-ltb side t h)

  pub found_below : t < b → o.start ≡ found_cell o b t
  unfolding found_cell
  found_below h = rw (lt-ltb t b h, or-true (ltb side t))

  pub found-gap : b ≤ t → t ≤ side → found_cell o b t ≡ lowest_gap (kept_up o) (kept_down o) b t
  unfolding found_cell
  found-gap h k = rw (le-ltb side t k, le-ltb t b h)

-- ---- outlines

-- A corner of the chart is given by its number. A letter that does not leave the chart leads to the number of the next corner
pub corner-numbered : (p : Point) → p.col ≤ side → p.row ≤ side → corner_numbered (numbered p) ≡ p
corner-numbered p h k = point-eq (corner_numbered (numbered p)) p (omega arith) (omega arith)

one_less : (n : ℕ) → 0 < n → n < 65536 → (n + 65535) % 65536 ≡ n - 1
one_less n h k = omega arith

number-left : (c r : ℕ) → 0 < c → c ≤ side → r ≤ side → r % 256 * 256 + c % 256 - 1 ≡ r % 256 * 256 + (c - 1) % 256
number-left c r l h k = omega arith

pub wrapped-staying : (p : Point) (a : ℕ) → p.col ≤ side → p.row ≤ side → a < 4 → leaves p a ≡ false
    → wrapped (numbered p) a ≡ numbered (step p a)
unfolding wrapped step
wrapped-staying p zero h k l e = omega (arith, stays-right p 0 e refl)
wrapped-staying p (suc zero) h k l e = omega (arith, stays_up p 1 e refl)
wrapped-staying p (suc (suc zero)) h k l e =
    let low : 0 < p.col = omega (arith, stays-left p 2 e refl) in
    one_less (numbered p) (omega arith) (omega arith) ∙ number-left p.col p.row low h k
wrapped-staying p (suc (suc (suc zero))) h k l e = omega (arith, stays-down p 3 e refl)
wrapped-staying p (suc (suc (suc (suc a)))) h k l e = absurd (omega arith)

kept_more : (along : Point → ℕ → ℕ → Bool) {p : Point} {m : ℕ} (n a : ℕ) (v : List ℕ) (r d : ℕ) → corner_numbered n ≡ p → wrapped n a ≡ m
    → kept_column along n (a ∷ v) r d ≡ kept_column along m v r (cond (along p a r) p.col d)
unfolding kept_column
kept_more along n a v r d e f i = kept_column along (f i) v r (cond (along (e i) a r) (e i).col d)

module _ (o : Outline) (simple : Simple o) where
  walk : Walked o
  walk = walked o simple

  -- No letter of an outline leaves the chart, so each number is that of the walk's corner
  kept-column : (along : Point → ℕ → ℕ → Bool) (column : Point → List ℕ → ℕ → ℕ → ℕ) → ((p : Point) (r d : ℕ) → column p [] r d ≡ d) →
      ((p : Point) (a : ℕ) (v : List ℕ) (r d : ℕ) → column p (a ∷ v) r d ≡ column (step p a) v r (cond (along p a r) p.col d)) →
      (r m i d : ℕ) → i + m ≡ size o
      → kept_column along (numbered (corner_at o i)) (drop i o.letters) r d ≡ column (corner_at o i) (drop i o.letters) r d
  unfolding kept_column
  kept-column along column none more r zero i d h = let e : size o ≤ i = omega arith in
      rw (drop_of_length-le o.letters e) (sym (none (corner_at o i) r d))
  kept-column along column none more r (suc m) i d h =
      let l : i < size o = omega arith in
      let p : Point = corner_at o i in
      let a : ℕ = letter_at o i in
      let v : List ℕ = drop (suc i) o.letters in
      let col : p.col ≤ side = walk.col_le i (omega arith) in
      let row : p.row ≤ side = walk.row_le i (omega arith) in
      let next : wrapped (numbered p) a ≡ numbered (corner_at o (suc i)) =
      wrapped-staying p a col row (walk.letter i l) (walk.stays i l) ∙ ap (λ (q : Point). numbered q) (sym (corner-suc o i l)) in
      rw (drop-cons o.letters i 0 l, more p a v r d, ← corner-suc o i l)
      (kept_more along (numbered p) a v r d (corner-numbered p col row) next
      ∙ kept-column along column none more r m (suc i) (cond (along p a r) p.col d) (omega arith))

  pub kept-up : (r : ℕ) → kept_up o r ≡ up_column o.start o.letters r 0
  unfolding up_column
  kept-up r = rw (corner-zero o) at (kept-column up_along up_column (λ p r d. refl) (λ p a v r d. refl) r (size o) 0 0 (omega arith))

  pub kept-down : (r : ℕ) → kept_down o r ≡ down_column o.start o.letters r 0
  unfolding down_column
  kept-down r = rw (corner-zero o) at (kept-column down_along down_column (λ p r d. refl) (λ p a v r d. refl) r (size o) 0 0 (omega arith))

  pub found-missing : (b t : ℕ) → b ≤ t → t ≤ side → found_cell o b t ≡ missing_cell o b t
  unfolding missing_cell
  found-missing b t h k = found-gap o b t h k ∙ lowest_gap-same _ _ _ _ b t (λ r l. kept-up r) (λ r l. kept-down r)
