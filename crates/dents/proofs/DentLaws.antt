-- The search keeps that no piece passed has a dent and that the list has the edges of those passed, in their order.
use Prim.Native.Nat.{ℕ, zero, suc, ◌+◌, ◌-◌, ◌*◌, ◌≤◌, ◌<◌}
use native.Mathlib.Decide.{dec_lt}
use native.Mathlib.Numerals.{add-one}
use native.Mathlib.Omega.{arith}
use mathlib.Core.Path.{◌≡◌, refl, sym, ap, ◌∙◌}
use mathlib.Core.Bool.{Bool}
use mathlib.Core.List.{List, [], ◌∷◌, ◌++◌, append_assoc}
use lib.ListN.{length, get_or, take, drop, length-take, length-drop, take-append-drop}
use lib.Seq.{take-nil, drop-drop}
use lib.IntN.{ℤ}
use lib.Dec.{ltb}
use borrow.Author.Tests.{lt-ltb, le-ltb}
use Rattle.std.specs.Prelude.{Result, Ok, Err, ⊤}
use Rattle.base.specs.Below.{first}
use Rattle.base.proofs.BelowLaws.{first_step, first-stop}
use Rattle.words.specs.Lyndon.{Factor}
use Rattle.chart.specs.Limits.{longest}
use Rattle.chart.specs.Outline.{Outline}
use Rattle.lattice.specs.Chart.{size}
use Rattle.convexity.specs.Frame.{frame_of}
use Rattle.convexity.specs.Pieces.{piece, word, factors, dent_at, dent_length, dent_piece, edges_of, edges, edge_count}
use Rattle.dents.specs.declared.Dent.{Dent}
use Rattle.pieces.specs.parts.Pieces.{Laid}
use Rattle.dents.specs.parts.Dents.{factors_in, EdgesPut, DentIn, WordRead, PieceRead, DentRead, FactorsRead}
use Rattle.pieces.proofs.CutLaws.{cut-le-suc, cut-suc-le, cut-le-cut}
use Rattle.pieces.proofs.LaidLaws.{laid-piece}
use Rattle.dents.proofs.WordLaws.{drop-further, tracing-start, tracing-end}

-- ---- a part of a list without its first letter

drop-take-one : (m : ℕ) (l : List ℕ) → drop 1 (take (suc m) l) ≡ take m (drop 1 l)
drop-take-one m [] = sym (take-nil m)
drop-take-one m (x ∷ l) = refl

module _ (l : List ℕ) (from to : ℕ) where
  pub part-dropped : from < to → take (to - (from + 1)) (drop (from + 1) l) ≡ drop 1 (take (to - from) (drop from l))
  part-dropped h =
      let e : to - from ≡ suc (to - (from + 1)) = omega arith in
      sym (ap (λ (m : ℕ). drop 1 (take m (drop from l))) e ∙ drop-take-one (to - (from + 1)) (drop from l)
      ∙ ap (take (to - (from + 1))) (drop-drop 1 from l))

  part-empty : to ≤ from → drop 1 (take (to - from) (drop from l)) ≡ []
  part-empty h = let e : to - from ≡ 0 = omega arith in rw e

  part_length : to ≤ length l → length (take (to - (from + 1)) (drop (from + 1) l)) ≡ to - (from + 1)
  part_length h = simp (length-take, length-drop) (omega arith)

module _ {buffer : List ℕ} {from to k count : ℕ} {before : List ℤ} where
  -- A piece with a letter, and one with none
  pub piece-edges : {n : ℕ} {after : List ℤ} → from < to → EdgesPut k (take (to - (from + 1)) (drop (from + 1) buffer)) count before after n
      → PieceRead buffer from to k count before after n (Ok tt)
  piece-edges l t = record { within = refl; word = λ a b c. rw (part-dropped buffer from to l) at t }

  pub piece-dent : {dent : Dent} {n : ℕ} {after : List ℤ} → from < to → to ≤ length buffer
      → DentIn k (take (to - (from + 1)) (drop (from + 1) buffer)) 0 dent
      → PieceRead buffer from to k count before after n (Err (record dent { at = from + 1 + dent.at }))
  piece-dent {dent} l h t =
      let w : dent.at + dent.length ≤ 0 + (to - (from + 1)) = rw (part_length buffer from to h) at t.within in
      let u : DentIn k (drop 1 (take (to - from) (drop from buffer))) 0 dent = rw (part-dropped buffer from to l) at t in
      record {
        within = (t.piece, omega arith, t.long);
        word = λ a b c.
            record {
              piece = u.piece;
              within = omega (arith, u.within);
              long = u.long;
              at = omega (arith, u.at);
              size = u.size;
            };
      }

  pub piece-none : (from < to → to ≤ length buffer → longest ≤ to - (from + 1))
      → PieceRead buffer from to k count before before count (Ok tt)
  piece-none off =
      record {
        within = refl;
        word = λ a b c.
            elim (dec_lt from to) [
              | yes l ↦ absurd (omega (arith, off l b))
              | no l ↦ rw (part-empty buffer from to (omega arith)) (tracing-end (tracing-start k [] count before) (omega arith))
            ];
      }

-- ---- the edges of the first pieces

unfoldable pub count_up_to : Outline → ℕ → ℕ
count_up_to o zero = 0
count_up_to o (suc k) = count_up_to o k + length (factors o k)

unfoldable pub edges_up_to : Outline → ℕ → List ℤ
edges_up_to o zero = []
edges_up_to o (suc k) = edges_up_to o k ++ edges_of (frame_of k) (factors o k)

module _ (o : Outline) where
  count-all : count_up_to o 4 ≡ edge_count o
  unfolding count_up_to edge_count
  count-all = omega arith

  edges-all : edges_up_to o 4 ≡ edges o
  unfolding edges_up_to edges
  edges-all = simp append_assoc

  count-le : (k : ℕ) → k < 4 → count_up_to o k + length (factors o k) ≤ edge_count o
  unfolding count_up_to edge_count
  count-le zero h = omega arith
  count-le (suc zero) h = omega arith
  count-le (suc (suc zero)) h = omega arith
  count-le (suc (suc (suc zero))) h = omega arith
  count-le (suc (suc (suc (suc k)))) h = absurd (omega arith)

-- ---- the pieces

-- The piece has a dent
abbrev pub dented : Outline → ℕ → Bool
dented o k = ltb 0 (dent_length (factors o k))

-- After the first k pieces, with their edges in the list
pub record Passed (buffer at : List ℕ) (before list : List ℤ) (count k : ℕ) : Type 0 where
  pub passed : k ≤ 4
  pub same : length list ≡ length before
  pub none : (o : Outline) → size o ≤ longest → Laid o at buffer → first (dented o) k ≡ k
  pub beyond : (o : Outline) → size o ≤ longest → Laid o at buffer → 2 * edge_count o ≤ length before
      → drop (2 * count) list ≡ drop (2 * count) before
  pub counted : (o : Outline) → size o ≤ longest → Laid o at buffer → 2 * edge_count o ≤ length before → count ≡ count_up_to o k
  pub edges : (o : Outline) → size o ≤ longest → Laid o at buffer → 2 * edge_count o ≤ length before → take (2 * count) list ≡ edges_up_to o k

pub passed_start : (buffer at : List ℕ) (before : List ℤ) → Passed buffer at before before 0 0
unfolding first count_up_to edges_up_to
passed_start buffer at before =
    record {
      passed = omega arith;
      same = refl;
      none = λ o h l. refl;
      beyond = λ o h l room. refl;
      counted = λ o h l room. refl;
      edges = λ o h l room. refl;
    }

-- Piece k lies in the buffer from x up to y, and its factors are found
pub record Read (buffer at : List ℕ) (before list : List ℤ) (count k x y : ℕ) (after : List ℤ) (more : ℕ) (r : Result ⊤ Dent) : Type 0 where
  pub pieces : Passed buffer at before list count k
  pub piece_lt : k < 4
  pub begins : x ≡ get_or at k 0
  pub ends : y ≡ get_or at (k + 1) 0
  pub kept : length after ≡ length list
  pub found : PieceRead buffer x y k count list after more r

module _ {buffer at : List ℕ} {before list : List ℤ} {count k x y : ℕ} {after : List ℤ} where
  module _ {n : ℕ} {r : Result ⊤ Dent} (p : Read buffer at before list count k x y after n r) {o : Outline} (h : Laid o at buffer) where
    read-factors : factors_in k (drop 1 (take (y - x) (drop x buffer))) ≡ factors o k
    unfolding factors word
    read-factors =
        let letters : take (y - x) (drop x buffer) ≡ piece o k = rw (p.begins, p.ends, add-one) (laid-piece h k p.piece_lt) in
        ap (λ (u : List ℕ). factors_in k (drop 1 u)) letters

    read_word : size o ≤ longest → WordRead k (drop 1 (take (y - x) (drop x buffer))) (x + 1) count list after n r
    read_word short =
        let a = p.begins ∙ h.places k (omega (arith, p.piece_lt)) in
        let b = p.ends ∙ ap (λ (i : ℕ). get_or at i 0) (add-one k) ∙ h.places (suc k) p.piece_lt in
        p.found.word (omega (arith, cut-le-suc o k)) (omega (arith, cut-le-cut o (suc k) 4 p.piece_lt, h.within))
        (omega (arith, cut-suc-le o k))

  -- Its edges come after those of the pieces before it
  module _ {n : ℕ} (p : Read buffer at before list count k x y after n (Ok tt)) where
    module _ {o : Outline} (short : size o ≤ longest) (h : Laid o at buffer) where
      abbrev put : EdgesPut k (drop 1 (take (y - x) (drop x buffer))) count list after n
      put = read_word p h short

      smooth : dent_length (factors o k) ≡ 0
      smooth = sym (ap dent_length (read-factors p h)) ∙ put.no_dent

      module _ (room : 2 * edge_count o ≤ length before) where
        fits : 2 * (count + length (factors_in k (drop 1 (take (y - x) (drop x buffer))))) ≤ length list
        fits = omega (arith, count-le o k p.piece_lt, p.pieces.counted o short h room, ap length (read-factors p h), p.pieces.same)

        more : n ≡ count_up_to o (suc k)
        unfolding count_up_to
        more = omega (arith, put.edges_counted fits, p.pieces.counted o short h room, ap length (read-factors p h))

        more_edges : take (2 * n) after ≡ edges_up_to o (suc k)
        unfolding edges_up_to
        more_edges = put.edges fits ∙ rw (p.pieces.edges o short h room, read-factors p h)

        more-beyond : drop (2 * n) after ≡ drop (2 * n) before
        more-beyond =
            put.beyond ∙ drop-further list before (2 * count) (2 * n) (omega (arith, put.edges_counted fits)) (p.pieces.beyond o short h room)

    pub passed-next : Passed buffer at before after n (k + 1)
    passed-next =
        record {
          passed = omega (arith, p.piece_lt);
          same = p.kept ∙ p.pieces.same;
          none = λ o short h.
              first_step (dented o) k (p.pieces.none o short h) (le-ltb 0 (dent_length (factors o k)) (omega (arith, smooth short h)));
          beyond = λ o short h room. more-beyond short h room;
          counted = λ o short h room. rw add-one (more short h room);
          edges = λ o short h room. rw add-one (more_edges short h room);
        }

  -- It has the first dent
  pub passed-dent : {dent : Dent} {n : ℕ} → Read buffer at before list count k x y after n (Err dent)
      → DentRead buffer at dent.piece dent.at dent.length
  unfolding dent_piece
  passed-dent {dent} p =
      let named = p.found.within.0 in
      record {
        piece_lt = omega (arith, named, p.piece_lt);
        at_le = omega (arith, p.found.within.1);
        size_le = omega (arith, p.found.within.1);
        dent = λ o short h.
            let d : DentIn k (drop 1 (take (y - x) (drop x buffer))) (x + 1) dent = read_word p h short in
            let size : dent.length ≡ dent_length (factors o k) = d.size ∙ ap dent_length (read-factors p h) in
            let place : dent.at ≡ x + 1 + dent_at (factors o k) =
            d.at ∙ ap (λ (fs : List Factor). x + 1 + dent_at fs) (read-factors p h) in
            rw named
            (record {
              piece =
                  sym
                  (first-stop (dented o) 4 k (p.pieces.none o short h)
                  (lt-ltb 0 (dent_length (factors o k)) (omega (arith, p.found.within.2)))
                  p.piece_lt);
              at = omega (arith, p.begins, h.places k (omega (arith, p.piece_lt)));
              size = size;
            });
      }

pub passed-end : {buffer at : List ℕ} {before list : List ℤ} {count k : ℕ} → Passed buffer at before list count k → 4 ≤ k
    → FactorsRead buffer at before list (Ok count)
unfolding dent_piece
passed-end {list = list} {count = count} {k = k} p l o short h =
    let e : k ≡ 4 = omega (arith, p.passed) in
    record {
      no_dent = rw e at (p.none o short h);
      edges_counted = λ room. p.counted o short h room ∙ rw e (count-all o);
      list = λ room.
          sym (take-append-drop (2 * count) list) ∙ rw (p.beyond o short h room, p.edges o short h room, e, edges-all o);
    }
