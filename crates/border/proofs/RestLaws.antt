-- What is still to be written after one more edge: a piece without further edges leaves only
-- its first letter, and an edge of the piece begun last leaves its own letters.
use Prim.Native.Nat.{ℕ, zero, suc, ◌+◌, ◌-◌, ◌≤◌, ◌<◌}
use native.Mathlib.Omega.{arith}
use mathlib.Core.Path.{◌≡◌, refl, sym, ap, ◌∙◌}
use mathlib.Core.List.{List, [], ◌∷◌, ◌++◌, append_assoc, append-nil}
use lib.IntN.{ℤ}
use borrow.Author.Tests.{eq-eqb, ne_eqb}
use Rattle.words.specs.Counted.{edge_word, edges_word}
use Rattle.words.proofs.Counted.{edge-listed}
use Rattle.convexity.specs.Edges.{Edge, pairs}
use Rattle.convexity.specs.Frame.{frame_of}
use Rattle.convexity.specs.parts.InFrame.{spell}
use Rattle.convexity.specs.FromEdges.{quadrant_of, run_in, rise_in, sizes_in, piece_from, letters_from}
use Rattle.convexity.proofs.Shape.{spell-append}
use Rattle.convexity.proofs.FromEdges.{quadrant-step}
use Rattle.border_model.specs.parts.Ordered.{Ordered}
use Rattle.border.specs.parts.Rest.{edge_letters, rest, firsts, letters}

-- All letters: the first, and then the rest of piece 0
pub all-letters : (es : List ℤ) → letters_from es ≡ (frame_of 0).later ∷ rest 3 0 (pairs es)
unfolding letters_from piece_from rest edge_letters spell
all-letters es = refl

-- ---- an edge of another quadrant

elsewhere : (k : ℕ) (dx dy : ℤ) (es : List Edge) → (quadrant_of dx dy ≡ k → ⊥) → sizes_in k ((dx, dy) ∷ es) ≡ sizes_in k es
unfolding sizes_in
elsewhere k dx dy es h = rw (ne_eqb (quadrant_of dx dy) k h)

-- Edges from quadrant j on have none in an earlier one
earlier-none : {j : ℕ} {es : List Edge} → Ordered j es → (k : ℕ) → k < j → sizes_in k es ≡ []
unfolding sizes_in
earlier-none Ordered.nothing k h = refl
earlier-none (Ordered.more {dx = dx} {dy = dy} {es = es} l s r) k h =
    elsewhere k dx dy es (λ e. omega arith) ∙ earlier-none r k (omega arith)

letters-none : {j : ℕ} {es : List Edge} → Ordered j es → (k : ℕ) → k < j → edge_letters k es ≡ []
unfolding edge_letters edges_word spell
letters-none o k h = rw (earlier-none o k h)

-- So for the next m pieces only their first letters are written
pub rest-on : (m n k : ℕ) {j : ℕ} {es : List Edge} → Ordered j es → k + m ≤ j → rest (m + n) k es ≡ firsts k m ++ rest n (k + m) es
unfolding rest firsts
rest-on zero n k {es = es} o h = let e : k + 0 ≡ k = omega arith in let d : 0 + n ≡ n = omega arith in rw (d, e)
rest-on (suc m) n k {es = es} o h =
    let e : suc k + m ≡ k + suc m = omega arith in
    let d : suc m + n ≡ suc (m + n) = omega arith in
    rw (d, letters-none o k (omega arith))
    (ap (λ (w : List ℕ). (frame_of (suc k)).later ∷ w) (rest-on m n (suc k) o (omega arith)
    ∙ ap (λ (q : ℕ). firsts (suc k) m ++ rest n q es) e))

-- Without edges only first letters are left
pub rest-none : (k : ℕ) {es : List Edge} → k ≤ 3 → Ordered 4 es → rest (3 - k) k es ≡ firsts k (3 - k)
unfolding rest
rest-none k {es} h o =
    let e : 3 - k + 0 ≡ 3 - k = omega arith in
    let d : k + (3 - k) ≡ 3 = omega arith in
    ap (λ (n : ℕ). rest n k es) (sym e) ∙ rest-on (3 - k) 0 k o (omega arith)
    ∙ rw (d, letters-none o 3 (omega arith)) (append-nil (firsts k (3 - k)))

-- ---- an edge of the piece begun last

own-letters :
    (dx dy : ℤ) (es : List Edge) → quadrant_of dx dy < 4
    → let k = quadrant_of dx dy in edge_letters k ((dx, dy) ∷ es) ≡ letters k (run_in k dx dy) (rise_in k dx dy) ++ edge_letters k es
unfolding edge_letters letters sizes_in edges_word
own-letters dx dy es h =
    let k = quadrant_of dx dy in
    let run = run_in k dx dy in
    let rise = rise_in k dx dy in
    rw (eq-eqb k k refl)
    (spell-append (frame_of k) (edge_word run rise) (edges_word (sizes_in k es))
    ∙ ap (λ (w : List ℕ). w ++ spell (frame_of k) (edges_word (sizes_in k es)))
    (ap (spell (frame_of k)) (edge-listed run rise (quadrant-step dx dy h).rises)))

-- The later pieces do not have the edge
later_same : (n k : ℕ) (dx dy : ℤ) (es : List Edge) → quadrant_of dx dy < k → rest n k ((dx, dy) ∷ es) ≡ rest n k es
unfolding rest edge_letters
later_same zero k dx dy es h = rw (elsewhere k dx dy es (λ e. omega arith))
later_same (suc n) k dx dy es h = rw (elsewhere k dx dy es (λ e. omega arith), later_same n (suc k) dx dy es (omega arith))

rest-edge :
    (n : ℕ) (dx dy : ℤ) (es : List Edge) → quadrant_of dx dy < 4
    → let k = quadrant_of dx dy in rest n k ((dx, dy) ∷ es) ≡ letters k (run_in k dx dy) (rise_in k dx dy) ++ rest n k es
unfolding rest
rest-edge zero dx dy es h = own-letters dx dy es h
rest-edge (suc n) dx dy es h =
    let k = quadrant_of dx dy in
    rw (own-letters dx dy es h, later_same n (suc k) dx dy es (omega arith))
    (append_assoc (letters k (run_in k dx dy) (rise_in k dx dy)) (edge_letters k es) ((frame_of (suc k)).later ∷ rest n (suc k) es))

-- One edge: the first letters of the pieces that begin with it, then its own
pub rest-next :
    (p : ℕ) (dx dy : ℤ) (es : List Edge) → Ordered p ((dx, dy) ∷ es) → p ≤ quadrant_of dx dy → quadrant_of dx dy < 4
    → Ordered (quadrant_of dx dy) es
    → let k = quadrant_of dx dy in
    rest (3 - p) p ((dx, dy) ∷ es) ≡ (firsts p (k - p) ++ letters k (run_in k dx dy) (rise_in k dx dy)) ++ rest (3 - k) k es
rest-next p dx dy es o l s r =
    let k = quadrant_of dx dy in
    let e : k - p + (3 - k) ≡ 3 - p = omega arith in
    let d : p + (k - p) ≡ k = omega arith in
    let here : Ordered k ((dx, dy) ∷ es) = Ordered.more {k = k} {dx = dx} {dy = dy} {es = es} (omega arith) s r in
    ap (λ (n : ℕ). rest n p ((dx, dy) ∷ es)) (sym e)
    ∙ rest-on (k - p) (3 - k) p here (omega arith)
    ∙ ap (λ (q : ℕ). firsts p (k - p) ++ rest (3 - k) q ((dx, dy) ∷ es)) d
    ∙ ap (λ (w : List ℕ). firsts p (k - p) ++ w) (rest-edge (3 - k) dx dy es s)
    ∙ sym (append_assoc (firsts p (k - p)) (letters k (run_in k dx dy) (rise_in k dx dy)) (rest (3 - k) k es))
