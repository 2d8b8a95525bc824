-- Every cell on the path of a piece's word is enclosed: it is to the right of the letter that arrives at its corner or of the one that
-- leaves, or in the corner of a left turn.
use Prim.Native.Nat.{ℕ, zero, suc, ◌+◌, ◌-◌, ◌≤◌, ◌<◌}
use native.Mathlib.Decide.{dec_lt}
use native.Mathlib.Omega.{arith}
use mathlib.Core.Path.{◌≡◌, refl, sym, ap, ◌∙◌, subst}
use mathlib.Core.Bool.{Bool, true, false}
use mathlib.Core.List.{[], ◌∷◌, ◌++◌}
use lib.ListN.{length, take, get_or}
use lib.Seq.{take-suc, take-length}
use Rattle.words.specs.Word.{Word, earliers, laters}
use Rattle.words.proofs.Counts.{earliers-take-le, laters-take-le, earliers-next-later, laters-next-later}
use Rattle.chart.specs.Limits.{side}
use Rattle.chart.specs.declared.Point.{Point}
use Rattle.chart.specs.Outline.{Outline, at}
use Rattle.lattice.specs.Chart.{corner_at, letter_at}
use Rattle.lattice.specs.Enclosed.{encloses}
use Rattle.lattice.proofs.WalkLaws.{point-eq, corner-suc}
use Rattle.lattice.proofs.RightHand.{left_of, right_of, corner_of, quarter_turn, clockwise-left-turn}
use Rattle.convexity.specs.Frame.{frame_of, along, next}
use Rattle.convexity.specs.Cut.{cut}
use Rattle.convexity.specs.Pieces.{word}
use Rattle.convexity.specs.parts.InFrame.{cell_along, start_e, start_l, cell_e, cell_l}
use Rattle.convexity.specs.Shape.{NoBackStep}
use Rattle.convexity.proofs.Ring.{next-lt}
use Rattle.convexity.proofs.Levels.{LetterAt, In, shifted, level-enclosed, leaves-upwards, from-w-lowest, right-in}
use Rattle.convexity.proofs.Shape.{shape, letter_of, CornerIn, place-lt, letter-in-piece, corner-in-piece}

-- ---- cells in a frame

-- The cell at P along the earlier letter of frame k and Q along the later one
unfoldable pub cell_of : ℕ → ℕ → ℕ → Point
cell_of zero P Q = at P Q
cell_of (suc zero) P Q = at Q (side - 1 - P)
cell_of (suc (suc zero)) P Q = at (side - 1 - P) (side - 1 - Q)
cell_of (suc (suc (suc k))) P Q = at (side - 1 - Q) P

pub cell_e-cell_of : (k P Q : ℕ) → P ≤ side - 1 → cell_e k (cell_of k P Q) ≡ P
unfolding cell_e cell_along frame_of cell_of
cell_e-cell_of zero P Q h = refl
cell_e-cell_of (suc zero) P Q h = omega arith
cell_e-cell_of (suc (suc zero)) P Q h = omega arith
cell_e-cell_of (suc (suc (suc k))) P Q h = refl

pub cell_l-cell_of : (k P Q : ℕ) → Q ≤ side - 1 → cell_l k (cell_of k P Q) ≡ Q
unfolding cell_l cell_along frame_of cell_of
cell_l-cell_of zero P Q h = refl
cell_l-cell_of (suc zero) P Q h = refl
cell_l-cell_of (suc (suc zero)) P Q h = omega arith
cell_l-cell_of (suc (suc (suc k))) P Q h = omega arith

pub col-cell_of : (k P Q : ℕ) → P ≤ side - 1 → Q ≤ side - 1 → (cell_of k P Q).col ≤ side - 1
unfolding cell_of
col-cell_of zero P Q h l = h
col-cell_of (suc zero) P Q h l = l
col-cell_of (suc (suc zero)) P Q h l = omega arith
col-cell_of (suc (suc (suc k))) P Q h l = omega arith

pub row-cell_of : (k P Q : ℕ) → P ≤ side - 1 → Q ≤ side - 1 → (cell_of k P Q).row ≤ side - 1
unfolding cell_of
row-cell_of zero P Q h l = l
row-cell_of (suc zero) P Q h l = omega arith
row-cell_of (suc (suc zero)) P Q h l = omega arith
row-cell_of (suc (suc (suc k))) P Q h l = h

-- ---- cells beside a letter of a frame

-- The later letter that leaves (P, Q) has the cell (P, Q) to its right
pub right-later : (k : ℕ) (p : Point) (P Q : ℕ) → CornerIn k p P Q → P ≤ side - 1 → Q ≤ side - 1
    → right_of p (frame_of k).later ≡ shifted (cell_of k P Q)
unfolding frame_of along cell_of right_of left_of
right-later zero p P Q c h l = point-eq (shifted p) (shifted (at P Q)) (ap suc c.across) (ap suc c.up)
right-later (suc zero) p P Q c h l =
    point-eq (at (suc p.col) p.row) (shifted (at Q (side - 1 - P))) (ap suc c.up) (omega arith)
right-later (suc (suc zero)) p P Q c h l =
    point-eq p (shifted (at (side - 1 - P) (side - 1 - Q))) (omega arith) (omega arith)
right-later (suc (suc (suc k))) p P Q c h l =
    point-eq (at p.col (suc p.row)) (shifted (at (side - 1 - Q) P)) (omega arith) (ap suc c.across)

-- So has the earlier letter that leaves (P, Q + 1). Where an earlier letter arrives and
-- the walk turns left, the cell is in the corner of that turn
pub right-earlier : (k : ℕ) (p : Point) (P Q : ℕ) → CornerIn k p P (suc Q) → P ≤ side - 1 → Q ≤ side - 1
    → right_of p (frame_of k).earlier ≡ shifted (cell_of k P Q)
unfolding frame_of along cell_of right_of left_of
right-earlier zero p P Q c h l = point-eq (at (suc p.col) p.row) (shifted (at P Q)) (ap suc c.across) c.up
right-earlier (suc zero) p P Q c h l = point-eq p (shifted (at Q (side - 1 - P))) c.up (omega arith)
right-earlier (suc (suc zero)) p P Q c h l =
    point-eq (at p.col (suc p.row)) (shifted (at (side - 1 - P) (side - 1 - Q))) (omega arith) (omega arith)
right-earlier (suc (suc (suc k))) p P Q c h l =
    point-eq (shifted p) (shifted (at (side - 1 - Q) P)) (omega arith) (ap suc c.across)

-- From the earlier letter to the later one is a left turn
left-turn-letters : (k : ℕ) → (frame_of k).later ≡ quarter_turn (frame_of k).earlier
unfolding frame_of
left-turn-letters zero = refl
left-turn-letters (suc zero) = refl
left-turn-letters (suc (suc zero)) = refl
left-turn-letters (suc (suc (suc k))) = refl

-- The coordinates of piece k's path in its frame after i letters of its word, and the cell there
abbrev pub path_e : Outline → ℕ → ℕ → ℕ
path_e o k i = start_e o k + earliers (take i (word o k))

abbrev pub path_l : Outline → ℕ → ℕ → ℕ
path_l o k i = start_l o k + laters (take i (word o k))

abbrev pub path_cell : Outline → ℕ → ℕ → Point
path_cell o k i = cell_of k (path_e o k i) (path_l o k i)

module _ (o : Outline) (c : NoBackStep o) where
  -- The bounds of a piece in its frame
  pub across-le : (k : ℕ) → k < 4 → start_e o k + earliers (word o k) ≤ side - 1
  across-le k h = omega (arith, (shape o c).next_later k h, (shape o c).next_earlier (next k) (next-lt k))

  pub up_le : (k : ℕ) → k < 4 → start_l o k + laters (word o k) ≤ side - 1
  up_le k h = omega (arith, (shape o c).next_earlier k h)

  module _ (k : ℕ) (h : k < 4) where
    -- The letters of the piece
    abbrev spelt : Word
    spelt = true ∷ word o k

    -- The last letter of the piece is not the earlier one
    not_last : (i : ℕ) → i ≤ length (word o k) → get_or spelt i false ≡ false → i < length (word o k)
    not_last zero l e = let z : ◌≡◌ {A = ℕ} 0 1 = cc in absurd (omega arith)
    not_last (suc i) l e =
        elim (dec_lt (suc i) (length (word o k))) [
          | yes m ↦ m
          | no m ↦
              let w : Word = word o k in
              let n : suc i ≡ length w = omega arith in
              let split : w ≡ take i w ++ (false ∷ []) =
              sym (take-length w) ∙ ap (λ (j : ℕ). take j w) (sym n) ∙ take-suc w i false l ∙ ap (λ (b : Bool). take i w ++ (b ∷ [])) e in
              let b = (shape o c).ends k h (take i w) false split in
              let z : ◌≡◌ {A = ℕ} 0 1 = cc in
              absurd (omega arith)
        ]

    pub path-across-le : (i : ℕ) → path_e o k i ≤ side - 1
    path-across-le i = omega (arith, across-le k h, earliers-take-le i (word o k))

    pub path-up-le : (i : ℕ) → path_l o k i ≤ side - 1
    path-up-le i = omega (arith, up_le k h, laters-take-le i (word o k))

    pub path-enclosed : (i : ℕ) → i ≤ length (word o k) → encloses o (path_cell o k i).col (path_cell o k i).row ≡ true
    unfolding earliers laters letter_of corner_of
    path-enclosed i l = level-enclosed o (path_cell o k i) (arrives (get_or spelt i false) refl)
      where
        -- The place of the letter that arrives at the corner above the cell, and of the one that leaves it
        a : ℕ
        a = cut o k + i

        b : ℕ
        b = cut o k + suc i

        up : letter_at o 0 ≡ 1
        up = leaves-upwards o c.clockwise

        letter : (m : ℕ) → m < length spelt → (d : Bool) → get_or spelt m false ≡ d
            → LetterAt o.letters (letter_of (frame_of k) d) (cut o k + m)
        letter m n d e = (place-lt o c k h m n, letter-in-piece o c k h m n ∙ ap (letter_of (frame_of k)) e)

        right : (m : ℕ) → m < length spelt → (d : Bool) → get_or spelt m false ≡ d
            → In o (right_of (corner_at o (cut o k + m)) (letter_of (frame_of k) d))
        right m n d e = right-in o c.walk up (letter_of (frame_of k) d) (cut o k + m) (letter m n d e)

        corner : CornerIn k (corner_at o b) (path_e o k i) (suc (path_l o k i))
        corner = let q = corner-in-piece o c k h (suc i) (omega arith) in
            record { on_chart = q.on_chart; across = q.across; up = omega arith }

        arrives-earlier : i < length (word o k) → get_or spelt i false ≡ false → (d : Bool) → get_or spelt (suc i) false ≡ d
            → In o (shifted (path_cell o k i))
        arrives-earlier m e false d =
            subst (In o) (right-earlier k (corner_at o b) _ _ corner (path-across-le i) (path-up-le i)) (right (suc i) (omega arith) false d)
        arrives-earlier m e true d =
            let (n, f) = letter i (omega arith) false e in
            let (n', g) = letter (suc i) (omega arith) true d in
            let next : corner_at o (suc a) ≡ corner_at o b = ap (corner_at o) (omega arith) in
            subst (In o)
            (ap (λ (p : Point). right_of p (letter_at o a)) (sym (corner-suc o a n) ∙ next) ∙ ap (right_of (corner_at o b)) f
            ∙ right-earlier k (corner_at o b) _ _ corner (path-across-le i) (path-up-le i))
            (clockwise-left-turn o c.walk.walked 0 (from-w-lowest o c.walk) up a b n n' next (g ∙ left-turn-letters k
            ∙ ap quarter_turn (sym f)))

        arrives : (d : Bool) → get_or spelt i false ≡ d → In o (shifted (path_cell o k i))
        arrives true e =
            let q = corner-in-piece o c k h i (omega arith) in
            let below : CornerIn k (corner_at o a) (path_e o k i) (path_l o k i) =
            record {
              on_chart = q.on_chart;
              across = omega (arith, earliers-next-later i spelt (omega arith) e);
              up = omega (arith, laters-next-later i spelt (omega arith) e);
            } in
            subst (In o) (right-later k (corner_at o a) _ _ below (path-across-le i) (path-up-le i)) (right i (omega arith) true e)
        arrives false e = arrives-earlier (not_last i l e) e (get_or spelt (suc i) false) refl
