-- The edges of an outline determine its border, since each edge has one Christoffel word and lies in its own piece's quadrant only.
-- Without a dent each factor with its repeats is the word of its run and its rise. The
-- quadrants tell to which piece each edge of the flat list belongs.
use Prim.Native.Nat.{ℕ, zero, suc, ◌+◌, ◌<◌}
use native.Mathlib.Omega.{arith}
use mathlib.Core.Path.{◌≡◌, refl, sym, ap, ◌∙◌}
use mathlib.Core.Bool.{true}
use mathlib.Core.List.{List, [], ◌∷◌, ◌++◌, append-nil}
use lib.ListN.{length, length-append}
use lib.Dec.{ltb, lit<}
use lib.IntN.{ℤ, pos, negsuc, neg_ℤ}
use borrow.Author.Tests.{ltb-false, eq-eqb, ne_eqb}
use Rattle.words.specs.Word.{Word}
use Rattle.words.specs.Lyndon.{Factor, Falling, written}
use Rattle.words.specs.Counted.{edge_word, edges_word, sizes}
use Rattle.base.proofs.BelowLaws.{first-none-at}
use Rattle.words.proofs.Factors.{factors-exist, falling-head, falling-tail}
use Rattle.words.proofs.Counted.{factor-edge, edge-length}
use Rattle.chart.specs.Outline.{Outline}
use Rattle.convexity.specs.Frame.{frame_of}
use Rattle.convexity.specs.Clockwise.{border}
use Rattle.convexity.specs.Edges.{Edge, pairs}
use Rattle.convexity.specs.Pieces.{Reaches, piece, word, factors, dent_length, dent_piece, edges_of, edges}
use Rattle.convexity.specs.parts.InFrame.{spell}
use Rattle.convexity.specs.FromEdges.{quadrant_of, run_in, rise_in, sizes_in, piece_from, letters_from, step_count}
use Rattle.convexity.specs.Shape.{NoBackStep}
use Rattle.convexity.proofs.Frame.{run, rise, EdgesFall}
use Rattle.convexity.proofs.Shape.{shape, length-spell}
use Rattle.convexity.proofs.Smooth.{dent-first, smooth-edges}
use Rattle.base.proofs.Differences.{Is, is-self, is-neg, is-unique}
use Rattle.convexity.proofs.Signed.{Counted, step_cols, step_rows, step-lies}
use Rattle.convexity.proofs.Directions.{EndsLater, first-rises, ends-later-rest}
use Rattle.convexity.proofs.AsSent.{clear_of}
use Rattle.convexity.proofs.Inside.{piece_pairs, edge-pairs}

-- ---- a piece from the runs and rises of its edges

-- Without a dent a word is determined by the runs and rises of its factors
pub written-sizes : (fs : List Factor) → Falling fs → dent_length fs ≡ 0 → written fs ≡ edges_word (sizes fs)
unfolding written edges_word sizes
written-sizes [] h e = refl
written-sizes (f ∷ fs) h e =
    let p = falling-head h in
    let d = dent-first f fs p e in
    rw (factor-edge f p d.0, written-sizes fs (falling-tail h) d.1)

pub word-sizes : (o : Outline) → dent_piece o ≡ 4 → (k : ℕ) → k < 4 → word o k ≡ edges_word (sizes (factors o k))
unfolding dent_piece factors
word-sizes o e k l =
    let f = factors-exist (word o k) in
    let none_here = ltb-false 0 (dent_length (factors o k)) (first-none-at (λ k. ltb 0 (dent_length (factors o k))) 4 e k l) in
    sym f.whole ∙ written-sizes (factors o k) f.falling (omega arith)

-- ---- an edge lies in the quadrant of its own piece

-- e earlier letters and l later ones of frame k, as columns and as rows
abbrev signed_cols : ℕ → ℕ → ℕ → ℤ
signed_cols zero e l = pos e
signed_cols (suc zero) e l = pos l
signed_cols (suc (suc zero)) e l = neg_ℤ (pos e)
signed_cols (suc (suc (suc k))) e l = neg_ℤ (pos l)

abbrev signed_rows : ℕ → ℕ → ℕ → ℤ
signed_rows zero e l = pos l
signed_rows (suc zero) e l = neg_ℤ (pos e)
signed_rows (suc (suc zero)) e l = neg_ℤ (pos l)
signed_rows (suc (suc (suc k))) e l = pos e

is_pos : {z : ℤ} {a : ℕ} → Is z a 0 → z ≡ pos a
is_pos {a} h = is-unique h (is-self (pos a)) (omega arith)

is-minus-pos : {z : ℤ} {a : ℕ} → Is z 0 a → z ≡ neg_ℤ (pos a)
is-minus-pos {a} h = is-unique h (is-neg (is-self (pos a))) (omega arith)

signed : (k e l : ℕ) {dx dy : ℤ} → Counted k 0 e l dx dy → (dx ≡ signed_cols k e l) × (dy ≡ signed_rows k e l)
unfolding Counted
signed zero e l h = (is_pos h.0, is_pos h.1)
signed (suc zero) e l h = (is_pos h.0, is-minus-pos h.1)
signed (suc (suc zero)) e l h = (is-minus-pos h.0, is-minus-pos h.1)
signed (suc (suc (suc k))) e l h = (is-minus-pos h.0, is_pos h.1)

-- (dx, dy) lies in quadrant k and has this run and this rise
pub record Sits (k e l : ℕ) (dx dy : ℤ) : Type 0 where
  pub quadrant : quadrant_of dx dy ≡ k
  pub across : run_in k dx dy ≡ e
  pub upward : rise_in k dx dy ≡ l

signed-sits : (k e l : ℕ) → k < 4 → 0 < l → Sits k e l (signed_cols k e l) (signed_rows k e l)
unfolding quadrant_of run_in rise_in
signed-sits k e zero h p = absurd (omega arith)
signed-sits zero zero (suc l) h p = record { quadrant = refl; across = refl; upward = refl }
signed-sits zero (suc e) (suc l) h p = record { quadrant = refl; across = refl; upward = refl }
signed-sits (suc zero) zero (suc l) h p = record { quadrant = refl; across = refl; upward = refl }
signed-sits (suc zero) (suc e) (suc l) h p = record { quadrant = refl; across = refl; upward = refl }
signed-sits (suc (suc zero)) zero (suc l) h p = record { quadrant = refl; across = refl; upward = refl }
signed-sits (suc (suc zero)) (suc e) (suc l) h p = record { quadrant = refl; across = refl; upward = refl }
signed-sits (suc (suc (suc zero))) zero (suc l) h p = record { quadrant = refl; across = refl; upward = refl }
signed-sits (suc (suc (suc zero))) (suc e) (suc l) h p = record { quadrant = refl; across = refl; upward = refl }
signed-sits (suc (suc (suc (suc k)))) e (suc l) h p = absurd (omega arith)

-- An edge of piece k with a later letter lies in quadrant k and in no other
pub step-sits : (k e l : ℕ) → k < 4 → 0 < l → Sits k e l (step_cols (frame_of k) e l) (step_rows (frame_of k) e l)
step-sits k e l h p = let d = signed k e l (step-lies k e l).counted in rw (d.0, d.1) (signed-sits k e l h p)

-- Conversely, a direction of quadrant k is the step of its run and its rise in frame k, and its rise is not zero
quadrant-signed : (dx dy : ℤ) → quadrant_of dx dy < 4 → let k = quadrant_of dx dy in
    (0 < rise_in k dx dy) × (signed_cols k (run_in k dx dy) (rise_in k dx dy) ≡ dx) × (signed_rows k (run_in k dx dy) (rise_in k dx dy) ≡ dy)
unfolding quadrant_of run_in rise_in
quadrant-signed (pos zero) (pos zero) h = absurd (omega arith)
quadrant-signed (pos zero) (pos (suc b)) h = (omega arith, refl, refl)
quadrant-signed (pos (suc a)) (pos zero) h = (omega arith, refl, refl)
quadrant-signed (pos (suc a)) (pos (suc b)) h = (omega arith, refl, refl)
quadrant-signed (pos zero) (negsuc b) h = (omega arith, refl, refl)
quadrant-signed (pos (suc a)) (negsuc b) h = (omega arith, refl, refl)
quadrant-signed (negsuc a) (pos zero) h = (omega arith, refl, refl)
quadrant-signed (negsuc a) (pos (suc b)) h = (omega arith, refl, refl)
quadrant-signed (negsuc a) (negsuc b) h = (omega arith, refl, refl)

pub record Step (k : ℕ) (dx dy : ℤ) : Type 0 where
  pub rises : 0 < rise_in k dx dy
  pub cols : step_cols (frame_of k) (run_in k dx dy) (rise_in k dx dy) ≡ dx
  pub rows : step_rows (frame_of k) (run_in k dx dy) (rise_in k dx dy) ≡ dy

pub quadrant-step : (dx dy : ℤ) → quadrant_of dx dy < 4 → Step (quadrant_of dx dy) dx dy
quadrant-step dx dy h =
    let k = quadrant_of dx dy in
    let q = quadrant-signed dx dy h in
    let d = signed k (run_in k dx dy) (rise_in k dx dy) (step-lies k (run_in k dx dy) (rise_in k dx dy)).counted in
    record { rises = q.0; cols = d.0 ∙ q.1; rows = d.1 ∙ q.2 }

-- ---- the edges of each piece from the whole list

-- Every factor of the list has a later letter
unfoldable AllRise : List Factor → Type 0
AllRise [] = Unit
AllRise (f ∷ fs) = (0 < rise f) × AllRise fs

all-rise : (fs : List Factor) → EdgesFall fs → EndsLater (written fs) → AllRise fs
unfolding AllRise EdgesFall
all-rise [] h ends = tt
all-rise (f ∷ fs) h ends = (first-rises f fs h ends, all-rise fs h.2 (ends-later-rest f fs ends))

module _ (k : ℕ) (small : k < 4) (es : List Edge) where
  own-sizes : (fs : List Factor) → AllRise fs → sizes_in k (pairs (edges_of (frame_of k) fs) ++ es) ≡ sizes fs ++ sizes_in k es
  unfolding AllRise pairs edges_of sizes_in sizes
  own-sizes [] h = refl
  own-sizes (f ∷ fs) h =
      let s = step-sits k (run f) (rise f) small h.0 in
      rw (eq-eqb _ k s.quadrant, s.across, s.upward, own-sizes fs h.1)

  other-sizes : (j : ℕ) → (k ≡ j → ⊥) → (fs : List Factor) → AllRise fs → sizes_in j (pairs (edges_of (frame_of k) fs) ++ es) ≡ sizes_in j es
  unfolding AllRise pairs edges_of sizes_in
  other-sizes j apart [] h = refl
  other-sizes j apart (f ∷ fs) h =
      let s = step-sits k (run f) (rise f) small h.0 in
      rw (ne_eqb _ j (λ e. apart (sym s.quadrant ∙ e))) (other-sizes j apart fs h.1)

-- ---- the four pieces

module _ (o : Outline) (straight : NoBackStep o) (smooth : dent_piece o ≡ 4) where
  rises : (k : ℕ) → k < 4 → AllRise (factors o k)
  unfolding factors
  rises k h = all-rise (factors o k) (smooth-edges o smooth k h) (rw (factors-exist (word o k)).whole ((shape o straight).ends k h))

  keep : (k : ℕ) → k < 4 → (es : List Edge) → sizes_in k (piece_pairs o k ++ es) ≡ sizes (factors o k) ++ sizes_in k es
  keep k h es = own-sizes k h es (factors o k) (rises k h)

  skip : (j k : ℕ) → k < 4 → (k ≡ j → ⊥) → (es : List Edge) → sizes_in j (piece_pairs o k ++ es) ≡ sizes_in j es
  skip j k h apart es = other-sizes k h es j apart (factors o k) (rises k h)

  all-pieces : pairs (edges o) ≡ piece_pairs o 0 ++ (piece_pairs o 1 ++ (piece_pairs o 2 ++ (piece_pairs o 3 ++ [])))
  all-pieces = edge-pairs o ∙ rw append-nil

  -- The list determines the runs and rises of each piece's edges
  pub edges-sizes : (k : ℕ) → k < 4 → sizes_in k (pairs (edges o)) ≡ sizes (factors o k)
  unfolding sizes_in
  edges-sizes zero h =
      rw (
        all-pieces,
        keep 0 (lit< tt),
        skip 0 1 (lit< tt) (λ e. omega arith),
        skip 0 2 (lit< tt) (λ e. omega arith),
        skip 0 3 (lit< tt) (λ e. omega arith),
      )
      (append-nil _)
  edges-sizes (suc zero) h =
      rw (
        all-pieces,
        skip 1 0 (lit< tt) (λ e. omega arith),
        keep 1 (lit< tt),
        skip 1 2 (lit< tt) (λ e. omega arith),
        skip 1 3 (lit< tt) (λ e. omega arith),
      )
      (append-nil _)
  edges-sizes (suc (suc zero)) h =
      rw (
        all-pieces,
        skip 2 0 (lit< tt) (λ e. omega arith),
        skip 2 1 (lit< tt) (λ e. omega arith),
        keep 2 (lit< tt),
        skip 2 3 (lit< tt) (λ e. omega arith),
      )
      (append-nil _)
  edges-sizes (suc (suc (suc zero))) h =
      rw (
        all-pieces,
        skip 3 0 (lit< tt) (λ e. omega arith),
        skip 3 1 (lit< tt) (λ e. omega arith),
        skip 3 2 (lit< tt) (λ e. omega arith),
        keep 3 (lit< tt),
      )
      (append-nil _)
  edges-sizes (suc (suc (suc (suc k)))) h = absurd (omega arith)

  -- So it determines each piece, and the border
  pub piece-from-edges : (k : ℕ) → k < 4 → piece o k ≡ piece_from k (pairs (edges o))
  unfolding piece_from
  piece-from-edges k h =
      (shape o straight).spelled k h
      ∙ ap (λ (w : Word). spell (frame_of k) (true ∷ w)) (word-sizes o smooth k h ∙ ap edges_word (sym (edges-sizes k h)))

  pub from-w-from-edges : o.letters ≡ letters_from (edges o)
  unfolding letters_from
  from-w-from-edges =
      (shape o straight).whole
      ∙ rw (piece-from-edges 0 (lit< tt), piece-from-edges 1 (lit< tt), piece-from-edges 2 (lit< tt), piece-from-edges 3 (lit< tt))

-- ---- outlines as sent

pub sent-from-edges : (o : Outline) → Reaches o → dent_piece (border o) ≡ 4 → (border o).letters ≡ letters_from (edges (border o))
sent-from-edges o h smooth = from-w-from-edges (border o) (clear_of o h) smooth

-- ---- the number of letters that a list gives

-- The number of letters of quadrant k, without the first
abbrev count : ℕ → List Edge → ℕ
count k es = length (edges_word (sizes_in k es))

abbrev Counts : List Edge → Type 0
Counts es = count 0 es + count 1 es + count 2 es + count 3 es ≡ step_count es

-- One more edge
longer : (a b : ℕ) (l : List (ℕ × ℕ)) → 0 < a + b → length (edges_word ((a, b) ∷ l)) ≡ a + b + length (edges_word l)
unfolding edges_word
longer a b l h = omega (arith, length-append (edge_word a b) (edges_word l), edge-length a b h)

counts-next : (dx dy : ℤ) (es : List Edge) → Counts es → Counts ((dx, dy) ∷ es)
unfolding sizes_in quadrant_of run_in rise_in step_count
counts-next (pos zero) (pos zero) es h = omega arith
counts-next (pos zero) (pos (suc b)) es h = omega (arith, longer 0 (suc b) (sizes_in 0 es) (omega arith))
counts-next (pos (suc a)) (pos zero) es h = omega (arith, longer 0 (suc a) (sizes_in 1 es) (omega arith))
counts-next (pos (suc a)) (pos (suc b)) es h = omega (arith, longer (suc a) (suc b) (sizes_in 0 es) (omega arith))
counts-next (pos zero) (negsuc b) es h = omega (arith, longer 0 (suc b) (sizes_in 2 es) (omega arith))
counts-next (pos (suc a)) (negsuc b) es h = omega (arith, longer (suc b) (suc a) (sizes_in 1 es) (omega arith))
counts-next (negsuc a) (pos b) es h = omega (arith, longer b (suc a) (sizes_in 3 es) (omega arith))
counts-next (negsuc a) (negsuc b) es h = omega (arith, longer (suc a) (suc b) (sizes_in 2 es) (omega arith))

counts : (es : List Edge) → Counts es
unfolding sizes_in step_count edges_word
counts [] = refl
counts ((dx, dy) ∷ es) = counts-next dx dy es (counts es)

length-piece : (k : ℕ) (es : List Edge) → length (piece_from k es) ≡ suc (count k es)
unfolding piece_from
length-piece k es = length-spell (frame_of k) (true ∷ edges_word (sizes_in k es))

-- Any list gives four letters and one for each column and row of its edges
pub length-letters : (ns : List ℤ) → length (letters_from ns) ≡ 4 + step_count (pairs ns)
unfolding letters_from
length-letters ns =
    let es = pairs ns in
    omega (
      arith,
      counts es,
      length-append (piece_from 0 es) (piece_from 1 es ++ (piece_from 2 es ++ piece_from 3 es)),
      length-append (piece_from 1 es) (piece_from 2 es ++ piece_from 3 es),
      length-append (piece_from 2 es) (piece_from 3 es),
      length-piece 0 es,
      length-piece 1 es,
      length-piece 2 es,
      length-piece 3 es,
    )
