-- A dented outline has a missing cell: the point straight above an earlier letter of a factor that is not a Christoffel word lies in the
-- triangle of three cells of the path, all enclosed, and is not under the path of its piece.
use Prim.Native.Nat.{ℕ, zero, suc, ◌+◌, ◌-◌, ◌*◌, ◌≤◌, ◌<◌}
use native.Mathlib.Omega.{arith}
use mathlib.Core.Path.{◌≡◌, refl, ap, subst}
use mathlib.Core.Logic.{⊎_elim}
use mathlib.Core.Bool.{Bool, true, false}
use mathlib.Core.List.{List, [], ◌∷◌, ◌++◌}
use lib.ListN.{take}
use lib.Dec.{ltb}
use borrow.Author.Tests.{ltb-true}
use Rattle.words.specs.Word.{Word, earliers, laters}
use Rattle.words.specs.Lyndon.{Factor, Falling, factors_of}
use Rattle.words.specs.Christoffel.{christoffel}
use Rattle.base.proofs.BelowLaws.{first_found}
use Rattle.words.proofs.Counts.{earliers-take-le, laters-take-le}
use Rattle.words.proofs.Factors.{falling-head, falling-tail, factors-exist}
use Rattle.words.proofs.Dent.{Above}
use Rattle.words.proofs.Criterion.{christoffel-or-above}
use Rattle.chart.specs.declared.Point.{Point}
use Rattle.chart.specs.Limits.{side}
use Rattle.chart.specs.Outline.{Outline}
use Rattle.lattice.specs.Enclosed.{encloses}
use Rattle.lattice.specs.Hull
use Rattle.lattice.specs.Hull.{InHull, Missing}
use Rattle.convexity.specs.Pieces.{word, factors, dent_length, dent_piece}
use Rattle.base.proofs.Mean.{mean-mirror, mean-at-most}
use Rattle.convexity.specs.Shape.{NoBackStep}
use Rattle.convexity.proofs.Frame.{Dented, InTriangle, dent-in-piece, above-not-under}
use Rattle.convexity.specs.parts.InFrame.{start_e, start_l, UnderFrom}
use Rattle.convexity.proofs.RowEnds.{enclosed-iff}
use Rattle.convexity.proofs.PathCells.{cell_of, cell_e-cell_of, cell_l-cell_of, col-cell_of, row-cell_of, path_cell, across-le, up_le}
use Rattle.convexity.proofs.PathCells.{path-across-le, path-up-le, path-enclosed}

-- ---- a piece with a dent

-- A factor, with a point above it that is on or under its chord
record AboveFactor (fs : List Factor) : Type 0 where
  before : List Factor
  factor : Factor
  after : List Factor
  split : fs ≡ before ++ factor ∷ after
  repeated : 0 < factor.times
  above : Above factor.word

-- A factor that is not a Christoffel word has such a point
dent-factor : (fs : List Factor) → Falling fs → 0 < dent_length fs → AboveFactor fs
unfolding dent_length
dent-factor [] d h = absurd (omega arith)
dent-factor (f ∷ fs) d h = go (christoffel f.word) refl (dent-factor fs (falling-tail d))
  where
    go : (b : Bool) → christoffel f.word ≡ b → (0 < dent_length fs → AboveFactor fs) → AboveFactor (f ∷ fs)
    go true e rest =
        let r = rest (rw (e, dent_length) at h) in
        record {
          before = f ∷ r.before;
          factor = r.factor;
          after = r.after;
          split = ap (λ (l : List Factor). f ∷ l) r.split;
          repeated = r.repeated;
          above = r.above;
        }
    go false e rest =
        record {
          before = [];
          factor = f;
          after = fs;
          split = refl;
          repeated = (falling-head d).repeated;
          above =
              ⊎_elim (λ c. let z : ◌≡◌ {A = ℕ} 0 1 = cc in
              absurd (omega arith)) (λ a. a) (christoffel-or-above f.word (falling-head d).lyndon);
        }

pub dented-word : (w : Word) → 0 < dent_length (factors_of w) → Dented w
dented-word w h =
    let g = factors-exist w in
    let r = dent-factor (factors_of w) g.falling h in
    subst (λ (v : Word). Dented v) g.whole
    (dent-in-piece (factors_of w) r.before r.factor r.after r.split r.repeated r.above)

-- ---- means in a frame

module _ (a b c P P₁ P₂ P₃ Q Q₁ Q₂ Q₃ : ℕ) (some : 0 < a + b + c)
    (p : P ≤ side - 1) (p₁ : P₁ ≤ side - 1) (p₂ : P₂ ≤ side - 1) (p₃ : P₃ ≤ side - 1) (q : Q ≤ side - 1) (q₁ : Q₁ ≤ side - 1)
    (q₂ : Q₂ ≤ side - 1) (q₃ : Q₃ ≤ side - 1)
    (across : (a + b + c) * P ≡ a * P₁ + b * P₂ + c * P₃) (up : (a + b + c) * Q ≡ a * Q₁ + b * Q₂ + c * Q₃) where
  P-flipped : (a + b + c) * (side - 1 - P) ≡ a * (side - 1 - P₁) + b * (side - 1 - P₂) + c * (side - 1 - P₃)
  P-flipped = mean-mirror (side - 1) a b c P P₁ P₂ P₃ _ _ _ _ (omega arith) (omega arith) (omega arith) (omega arith) across

  Q-flipped : (a + b + c) * (side - 1 - Q) ≡ a * (side - 1 - Q₁) + b * (side - 1 - Q₂) + c * (side - 1 - Q₃)
  Q-flipped = mean-mirror (side - 1) a b c Q Q₁ Q₂ Q₃ _ _ _ _ (omega arith) (omega arith) (omega arith) (omega arith) up

  -- A mean of points in a frame is the same mean of cells
  cell-triangle : (k : ℕ) → Hull.InTriangle (cell_of k P Q) (cell_of k P₁ Q₁) (cell_of k P₂ Q₂) (cell_of k P₃ Q₃)
  unfolding cell_of
  cell-triangle zero = record { a = a; b = b; c = c; above_zero = some; cols = across; rows = up }
  cell-triangle (suc zero) = record { a = a; b = b; c = c; above_zero = some; cols = up; rows = P-flipped }
  cell-triangle (suc (suc zero)) = record { a = a; b = b; c = c; above_zero = some; cols = P-flipped; rows = Q-flipped }
  cell-triangle (suc (suc (suc k))) = record { a = a; b = b; c = c; above_zero = some; cols = Q-flipped; rows = across }

-- ---- the missing cell

module _ (o : Outline) (straight : NoBackStep o) where
  module _ (k : ℕ) (h : k < 4) (d : Dented (word o k)) where
    abbrev w : Word
    w = word o k

    abbrev v : InTriangle w (earliers d.before) (laters d.before + 1)
    v = d.hull

    -- The point above the path in the frame's coordinates, and its cell
    abbrev P : ℕ
    P = start_e o k + earliers d.before

    abbrev Q : ℕ
    Q = start_l o k + (laters d.before + 1)

    abbrev cell : Point
    cell = cell_of k P Q

    across-on-chart : P ≤ side - 1
    across-on-chart =
        let m =
        mean-at-most v.a v.b v.c _ _ _ _ (earliers w) v.above_zero v.across (earliers-take-le v.i w)
        (earliers-take-le v.j w) (earliers-take-le v.k w) in
        omega (arith, across-le o straight k h)

    up-on-chart : Q ≤ side - 1
    up-on-chart =
        let m =
        mean-at-most v.a v.b v.c _ _ _ _ (laters w) v.above_zero v.up (laters-take-le v.i w) (laters-take-le v.j w)
        (laters-take-le v.k w) in
        omega (arith, up_le o straight k h)

    cell-in-hull : InHull (encloses o) cell
    cell-in-hull =
        record {
          p = path_cell o k v.i;
          q = path_cell o k v.j;
          t = path_cell o k v.k;
          p_marked = path-enclosed o straight k h v.i v.i-within;
          q_marked = path-enclosed o straight k h v.j v.j-within;
          t_marked = path-enclosed o straight k h v.k v.k-within;
          triangle =
              cell-triangle v.a v.b v.c _ _ _ _ _ _ _ _ v.above_zero
              across-on-chart (on-path-across v.i) (on-path-across v.j) (on-path-across v.k)
              up-on-chart (on-path-up v.i) (on-path-up v.j) (on-path-up v.k)
              (omega (arith, v.across)) (omega (arith, v.up)) k;
        }
      where
        on-path-across : (i : ℕ) → start_e o k + earliers (take i w) ≤ side - 1
        on-path-across = path-across-le o straight k h

        on-path-up : (i : ℕ) → start_l o k + laters (take i w) ≤ side - 1
        on-path-up = path-up-le o straight k h

    cell-open : encloses o cell.col cell.row ≡ false
    cell-open = go (encloses o cell.col cell.row) refl
      where
        under : UnderFrom w (start_e o k) (start_l o k) P Q → ⊥
        under u =
            above-not-under w d.before d.after d.split
            (record { upto = u.upto; within = u.within; left = omega (arith, u.left); high = omega (arith, u.high) })

        go : (b : Bool) → encloses o cell.col cell.row ≡ b → encloses o cell.col cell.row ≡ false
        go false e = e
        go true e =
            let col = col-cell_of k P Q across-on-chart up-on-chart in
            let row = row-cell_of k P Q across-on-chart up-on-chart in
            let u = (enclosed-iff o straight cell (omega arith) (omega arith)).0 e k h in
            absurd (under (rw (cell_e-cell_of k P Q across-on-chart, cell_l-cell_of k P Q up-on-chart) at u))

    pub dented-missing : Missing (encloses o) cell
    dented-missing = record { hull = cell-in-hull; open_cell = cell-open }

  pub dent-missing : dent_piece o < 4 → (x : Point) × Missing (encloses o) x
  unfolding dent_piece factors
  dent-missing h =
      let k : ℕ = dent_piece o in
      let e = first_found (λ k. ltb 0 (dent_length (factors o k))) 4 h in
      let d : Dented (word o k) = dented-word (word o k) (ltb-true 0 (dent_length (factors o k)) e) in
      (cell k h d, dented-missing k h d)
