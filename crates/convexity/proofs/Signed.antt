-- A side value is the same difference of naturals in all four frames: integers become
-- differences, and only the table of the frames' coordinates differs.
use Prim.Native.Nat.{ℕ, zero, suc, ◌+◌, ◌-◌, ◌*◌, ◌≤◌, ◌<◌}
use native.Mathlib.Nat.{add-zero}
use native.Mathlib.Omega.{arith}
use mathlib.Core.Path.{◌≡◌, refl, sym, ap, ◌∙◌}
use mathlib.Core.Logic.Iff
use mathlib.Core.Logic.{◌↔◌}
use mathlib.Core.Bool.{Bool, true, ◌&&◌, and-eq-true_iff, and_assoc}
use mathlib.Core.List.{List, [], ◌∷◌, ◌++◌}
use lib.IntN.{ℤ, pos, negsuc, ◌+ℤ◌, ◌*ℤ◌}
use Rattle.base.proofs.IntegerOrder.{up, down}
use Rattle.base.proofs.Differences.{Is, is-self, is-add, is-minus, is_mul}
use Rattle.words.specs.Word.{Word, earliers, laters}
use Rattle.words.specs.Lyndon.{Factor, copies, written}
use Rattle.words.proofs.Counts.{earliers-append, laters-append, earliers-copies, laters-copies}
use Rattle.chart.specs.declared.Point.{Point}
use Rattle.chart.specs.Limits.{side}
use Rattle.convexity.specs.Frame.{Frame, frame_of, next}
use Rattle.convexity.specs.Edges.{Edge, pairs}
use Rattle.convexity.specs.Pieces.{edges_of}
use Rattle.convexity.specs.Inside.{not_negative, side_value, none_outside, col_steps, row_steps}
use Rattle.convexity.proofs.Frame.{Sides, run, rise}
use Rattle.convexity.specs.parts.InFrame.{cell_along, cell_e, cell_l}

-- ---- side values

pub not-negative-iff : {z : ℤ} {a b : ℕ} → Is z a b → (not_negative z ≡ true) ↔ (b ≤ a)
unfolding not_negative
not-negative-iff {z = pos n} h = ((λ e. omega arith), λ l. refl)
not-negative-iff {z = negsuc n} h = ((λ e. absurd (let w : ◌≡◌ {A = ℕ} 0 1 = cc in omega arith)), λ l. absurd (omega arith))

-- The same for two integers at once
is-add-both :
    {x y u v : ℤ} {a a' b b' c c' d d' : ℕ} → Is x a a' × Is y b b' → Is u c c' × Is v d d'
    → Is (x +ℤ u) (a + c) (a' + c') × Is (y +ℤ v) (b + d) (b' + d')
is-add-both h k = (is-add h.0 k.0, is-add h.1 k.1)

-- The side value at a cell (c, r) of an edge (dx, dy) that starts at (x, y)
side-not-negative :
    {dx dy x y c r : ℤ} {a a' b b' m m' n n' p p' q q' : ℕ} → Is dx a a' × Is dy b b' → Is x m m' × Is y n n' → Is c p p' × Is r q q'
    → (not_negative (side_value dx dy x y c r) ≡ true)
    ↔ (b * (p' + m) + b' * (p + m') + (a * (q + n') + a' * (q' + n)) ≤ b * (p + m') + b' * (p' + m) + (a * (q' + n) + a' * (q + n')))
unfolding side_value
side-not-negative d v g = not-negative-iff (is-minus (is_mul d.1 (is-minus g.0 v.0)) (is_mul d.0 (is-minus g.1 v.1)))

-- ---- the four frames

-- In frame k, (x, y) is p along the earlier letter and q along the later; a coordinate that counts down counts from o
unfoldable pub Counted : ℕ → ℕ → ℕ → ℕ → ℤ → ℤ → Type 0
Counted zero o p q x y = Is x p 0 × Is y q 0
Counted (suc zero) o p q x y = Is x q 0 × Is y o p
Counted (suc (suc zero)) o p q x y = Is x o p × Is y o q
Counted (suc (suc (suc k))) o p q x y = Is x o q × Is y p 0

pub record Lies (k o p q : ℕ) (x y : ℤ) : Type 0 where
  pub counted : Counted k o p q x y

-- A cell, on the chart or off it, counts from the last column and row; a step counts from 0
abbrev pub Placed : ℕ → ℕ → ℕ → ℤ → ℤ → Type 0
Placed k p q x y = Lies k (side - 1) p q x y

pub placed-cell : (k : ℕ) (x : Point) → x.col < side → x.row < side → Placed k (cell_e k x) (cell_l k x) (pos x.col) (pos x.row)
unfolding Counted cell_e cell_l cell_along frame_of
placed-cell zero x h l = record { counted = omega arith }
placed-cell (suc zero) x h l = record { counted = omega arith }
placed-cell (suc (suc zero)) x h l = record { counted = omega arith }
placed-cell (suc (suc (suc k))) x h l = record { counted = omega arith }

-- Turned by a quarter: along the earlier letter becomes along the later in the next frame,
-- and along the later becomes along the earlier from the other end
pub lies-next : (k : ℕ) {o p q q' : ℕ} {x y : ℤ} → q + q' ≡ o → Lies k o p q x y → Lies (next k) o q' p x y
unfolding Counted
lies-next zero e h = record { counted = omega arith }
lies-next (suc zero) e h = record { counted = omega arith }
lies-next (suc (suc zero)) e h = record { counted = omega arith }
lies-next (suc (suc (suc k))) e h = record { counted = omega arith }

-- The step of e earlier letters and l later ones
abbrev pub step_cols : Frame → ℕ → ℕ → ℤ
step_cols f e l = pos e *ℤ f.earlier_cols +ℤ pos l *ℤ f.later_cols

abbrev pub step_rows : Frame → ℕ → ℕ → ℤ
step_rows f e l = pos e *ℤ f.earlier_rows +ℤ pos l *ℤ f.later_rows

step_is : (u v : ℤ) (e l : ℕ) → Is (pos e *ℤ u +ℤ pos l *ℤ v) (e * up u + l * up v) (e * down u + l * down v)
step_is u v e l = record { eq = omega (arith, (is-add (is_mul (is-self (pos e)) (is-self u)) (is_mul (is-self (pos l)) (is-self v))).eq) }

pub step-lies : (k e l : ℕ) → Lies k 0 e l (step_cols (frame_of k) e l) (step_rows (frame_of k) e l)
unfolding Counted frame_of
step-lies k e l =
    go k (step_is (frame_of k).earlier_cols (frame_of k).later_cols e l) (step_is (frame_of k).earlier_rows (frame_of k).later_rows e l)
  where
    go :
        (k : ℕ) {x y : ℤ}
        → Is x (e * up (frame_of k).earlier_cols + l * up (frame_of k).later_cols)
        (e * down (frame_of k).earlier_cols + l * down (frame_of k).later_cols)
        → Is y (e * up (frame_of k).earlier_rows + l * up (frame_of k).later_rows)
        (e * down (frame_of k).earlier_rows + l * down (frame_of k).later_rows)
        → Lies k 0 e l x y
    go zero c r = record { counted = omega arith }
    go (suc zero) c r = record { counted = omega arith }
    go (suc (suc zero)) c r = record { counted = omega arith }
    go (suc (suc (suc k))) c r = record { counted = omega arith }

pub lies-step : (k : ℕ) {o p q e l : ℕ} {x y dx dy : ℤ} → Lies k o p q x y → Lies k 0 e l dx dy
    → Lies k o (p + e) (q + l) (x +ℤ dx) (y +ℤ dy)
unfolding Counted
lies-step zero h d = record { counted = omega (arith, is-add-both h.counted d.counted) }
lies-step (suc zero) h d = record { counted = omega (arith, is-add-both h.counted d.counted) }
lies-step (suc (suc zero)) h d = record { counted = omega (arith, is-add-both h.counted d.counted) }
lies-step (suc (suc (suc k))) h d = record { counted = omega (arith, is-add-both h.counted d.counted) }

-- The side value is the same difference in every frame
pub side-iff :
    (k : ℕ) {o vp vq e l p q : ℕ} {x y dx dy c r : ℤ} → Lies k o vp vq x y → Lies k 0 e l dx dy → Lies k o p q c r
    → (not_negative (side_value dx dy x y c r) ≡ true) ↔ (e * q + l * vp ≤ l * p + e * vq)
unfolding Counted
side-iff zero h d g = Iff.trans (side-not-negative d.counted h.counted g.counted) (omega arith)
side-iff (suc zero) h d g = Iff.trans (side-not-negative d.counted h.counted g.counted) (omega arith)
side-iff (suc (suc zero)) h d g = Iff.trans (side-not-negative d.counted h.counted g.counted) (omega arith)
side-iff (suc (suc (suc k))) h d g = Iff.trans (side-not-negative d.counted h.counted g.counted) (omega arith)

-- ---- the edges of one piece

-- The number that steps from x lead to
unfoldable pub reached : List ℤ → ℤ → ℤ
reached [] x = x
reached (d ∷ ds) x = reached ds (x +ℤ d)

-- The edges of a piece lead as far along its two letters as its word has letters
pub lies-end :
    (k : ℕ) (fs : List Factor) {o vp vq : ℕ} {x y : ℤ} → Lies k o vp vq x y
    → let es = pairs (edges_of (frame_of k) fs) in
    Lies k o (vp + earliers (written fs)) (vq + laters (written fs)) (reached (col_steps es) x) (reached (row_steps es) y)
unfolding reached col_steps row_steps pairs edges_of written earliers laters
lies-end k [] {vp = vp} {vq = vq} h = rw (add-zero vp, add-zero vq) h
lies-end k (f ∷ fs) {vp = vp} {vq = vq} h =
    let w : Word = copies f.times f.word in
    let e : earliers w ≡ run f = earliers-copies f.times f.word in
    let l : laters w ≡ rise f = laters-copies f.times f.word in
    let across : vp + earliers (w ++ written fs) ≡ vp + run f + earliers (written fs) = omega (arith, earliers-append w (written fs)) in
    let upward : vq + laters (w ++ written fs) ≡ vq + rise f + laters (written fs) = omega (arith, laters-append w (written fs)) in
    rw (across, upward) (lies-end k fs (lies-step k h (step-lies k (run f) (rise f))))

pub lies-sides :
    (k : ℕ) (fs : List Factor) {o vp vq p q : ℕ} {x y c r : ℤ} → Lies k o vp vq x y → Lies k o p q c r
    → (none_outside (pairs (edges_of (frame_of k) fs)) x y c r ≡ true) ↔ Sides fs vp vq p q
unfolding none_outside pairs edges_of Sides
lies-sides k [] h g = ((λ e. tt), λ s. refl)
lies-sides k (f ∷ fs) h g =
    let d = step-lies k (run f) (rise f) in
    Iff.trans (and-eq-true_iff _ _) (Iff.and (side-iff k h d g) (lies-sides k fs (lies-step k h d) g))

-- ---- two lists of edges, one after the other: the second starts where the first ends

pub pairs-append : (f : Frame) (fs : List Factor) (ns : List ℤ) → pairs (edges_of f fs ++ ns) ≡ pairs (edges_of f fs) ++ pairs ns
unfolding pairs edges_of
pairs-append f [] ns = refl
pairs-append f (g ∷ gs) ns = rw (pairs-append f gs ns)

pub none-outside-append :
    (ds es : List Edge) (x y c r : ℤ)
    → none_outside (ds ++ es) x y c r ≡ (none_outside ds x y c r && none_outside es (reached (col_steps ds) x) (reached (row_steps ds) y) c r)
unfolding none_outside reached col_steps row_steps
none-outside-append [] es x y c r = refl
none-outside-append ((dx, dy) ∷ ds) es x y c r =
    ap (λ (b : Bool). not_negative (side_value dx dy x y c r) && b) (none-outside-append ds es (x +ℤ dx) (y +ℤ dy) c r)
    ∙ sym (and_assoc (not_negative (side_value dx dy x y c r)) (none_outside ds (x +ℤ dx) (y +ℤ dy) c r) _)

pub cols-append : (ds es : List Edge) → col_steps (ds ++ es) ≡ col_steps ds ++ col_steps es
unfolding col_steps
cols-append [] es = refl
cols-append ((dx, dy) ∷ ds) es = rw (cols-append ds es)

pub rows_append : (ds es : List Edge) → row_steps (ds ++ es) ≡ row_steps ds ++ row_steps es
unfolding row_steps
rows_append [] es = refl
rows_append ((dx, dy) ∷ ds) es = rw (rows_append ds es)

pub reached-append : (ds es : List ℤ) (x : ℤ) → reached (ds ++ es) x ≡ reached es (reached ds x)
unfolding reached
reached-append [] es x = refl
reached-append (d ∷ ds) es x = reached-append ds es (x +ℤ d)
