-- The search keeps that no letter and no piece passed has a back-step, so where it stops is the first one.
use Prim.Native.Nat.{ℕ, suc, ◌+◌, ◌-◌, ◌*◌, ◌≤◌, ◌<◌}
use native.Mathlib.Numerals.{add-one}
use native.Mathlib.Omega.{arith}
use mathlib.Core.Path.{◌≡◌, refl, sym, ap, ◌∙◌}
use mathlib.Core.Bool.{Bool, true, false, not, ◌&&◌, ◌||◌}
use mathlib.Core.List.{List, ◌++◌, append_assoc}
use lib.ListN.{length, get_or, take, drop, length-take, length-drop, length-append, get_or-append}
use lib.Seq.{take_all, get_or-take, get_or-drop, get_or-append-add}
use lib.Dec.{ltb, eqb}
use borrow.Author.Tests.{lt-ltb, le-ltb, eq-eqb, ne_eqb}
use Rattle.std.specs.Prelude.{None}
use Rattle.base.specs.Below.{first}
use Rattle.base.proofs.BelowLaws.{first_step, first-stop}
use Rattle.chart.specs.Outline.{Outline}
use Rattle.convexity.specs.Frame.{Frame, frame_of}
use Rattle.convexity.specs.Pieces.{rounds, piece, is_back_step, back_step_at, back_step_piece}
use Rattle.pieces.specs.declared.Pair.{Pair}
use Rattle.pieces.specs.parts.Pieces.{PairOf, Laid}
use Rattle.back_steps.specs.parts.BackSteps.{part, Within, Found, FoundAt}
use Rattle.pieces.proofs.LaidLaws.{length-rounds, take-rounds, part-of-take, laid-rising, laid-within, laid-piece}

-- ---- the letters read cyclically

-- Read cyclically, a letter is the one a round before
letter-round : (t : List ℕ) (i : ℕ) → length t + i < 4 * length t → get_or (rounds t) (length t + i) 0 ≡ get_or (rounds t) i 0
unfolding rounds
letter-round t i h =
    let u : List ℕ = t ++ (t ++ t) in
    let l : i < length u = simp length-append (omega arith) in
    let e : u ++ t ≡ t ++ u = simp append_assoc in
    get_or-append-add t u i 0 ∙ sym (get_or-append u t 0 i l) ∙ ap (λ (v : List ℕ). get_or v i 0) e

-- A letter of any of the four rounds is one of the letters
module _ (t : List ℕ) (i : ℕ) where
  pub letter-once : i < length t → get_or t i 0 ≡ get_or (rounds t) i 0
  unfolding rounds
  letter-once h = sym (get_or-append t (t ++ (t ++ t)) 0 i h)

  -- One round less
  back : length t ≤ i → i < 4 * length t → get_or (rounds t) (i - length t) 0 ≡ get_or (rounds t) i 0
  back h l =
      let e : length t + (i - length t) ≡ i = omega arith in
      sym (letter-round t (i - length t) (omega arith)) ∙ ap (λ (j : ℕ). get_or (rounds t) j 0) e

pub letter-twice : (t : List ℕ) (i : ℕ) → length t ≤ i → i < 2 * length t → get_or t (i - length t) 0 ≡ get_or (rounds t) i 0
letter-twice t i h l = letter-once t (i - length t) (omega arith) ∙ back t i h (omega arith)

pub letter-thrice : (t : List ℕ) (i : ℕ) → 2 * length t ≤ i → i < 3 * length t → get_or t (i - 2 * length t) 0 ≡ get_or (rounds t) i 0
letter-thrice t i h l =
    let e : i - 2 * length t ≡ i - length t - length t = omega arith in
    ap (λ (j : ℕ). get_or t j 0) e ∙ letter-twice t (i - length t) (omega arith) (omega arith) ∙ back t i (omega arith) (omega arith)

pub letter-fourth : (t : List ℕ) (i : ℕ) → 3 * length t ≤ i → i < 4 * length t → get_or t (i - 3 * length t) 0 ≡ get_or (rounds t) i 0
letter-fourth t i h l =
    let e : i - 3 * length t ≡ i - length t - 2 * length t = omega arith in
    ap (λ (j : ℕ). get_or t j 0) e ∙ letter-thrice t (i - length t) (omega arith) (omega arith) ∙ back t i (omega arith) (omega arith)

-- ---- the letters of one piece

module _ {f : Frame} {r : Pair} (h : PairOf f r) (a : ℕ) where
  pub back-step-other : (a ≡ r.earlier → ⊥) → (a ≡ r.later → ⊥) → is_back_step f a ≡ true
  unfolding is_back_step
  back-step-other x y =
      let p = h.earlier in
      let q = h.later in
      let e : eqb a r.earlier ≡ false = ne_eqb a r.earlier x in
      let l : eqb a r.later ≡ false = ne_eqb a r.later y in
      cc

  pub no-back-step-earlier : a ≡ r.earlier → is_back_step f a ≡ false
  unfolding is_back_step
  no-back-step-earlier x = let p = h.earlier in let e : eqb a r.earlier ≡ true = eq-eqb a r.earlier x in cc

  pub no-back-step-later : (a ≡ r.earlier → ⊥) → a ≡ r.later → is_back_step f a ≡ false
  unfolding is_back_step
  no-back-step-later x y =
      let p = h.earlier in
      let q = h.later in
      let e : eqb a r.earlier ≡ false = ne_eqb a r.earlier x in
      let l : eqb a r.later ≡ true = eq-eqb a r.later y in
      cc

  -- A letter that is neither of the two, as the code tests it
  pub back-step-is : (not (eqb a r.earlier) && not (eqb a r.later)) ≡ is_back_step f a
  unfolding is_back_step
  back-step-is = rw (h.earlier, h.later) (neither (eqb a f.earlier) (eqb a f.later))
    where
      neither : (x y : Bool) → (not x && not y) ≡ not (x || y)
      neither true y = refl
      neither false y = refl

-- The first i letters of a piece have no back-step
pub record Passed (letters : List ℕ) (k i : ℕ) : Type 0 where
  pub within : i ≤ length letters
  pub none : first (λ j. is_back_step (frame_of k) (get_or letters j 0)) i ≡ i

pub passed_start : (letters : List ℕ) (k : ℕ) → Passed letters k 0
unfolding first
passed_start letters k = record { within = omega arith; none = refl }

module _ {letters : List ℕ} {k i : ℕ} (p : Passed letters k i) where
  pub passed-next : i < length letters → is_back_step (frame_of k) (get_or letters i 0) ≡ false → Passed letters k (i + 1)
  passed-next l e = record { within = omega arith; none = first_step (λ j. is_back_step (frame_of k) (get_or letters j 0)) i p.none e }

  pub passed-stop : i < length letters → is_back_step (frame_of k) (get_or letters i 0) ≡ true
      → i ≡ first (λ j. is_back_step (frame_of k) (get_or letters j 0)) (length letters)
  passed-stop l e = sym (first-stop (λ j. is_back_step (frame_of k) (get_or letters j 0)) (length letters) i p.none e l)

  pub passed-end : length letters ≤ i → i ≡ first (λ j. is_back_step (frame_of k) (get_or letters j 0)) (length letters)
  passed-end l =
      let e : i ≡ length letters = omega (arith, p.within) in
      sym p.none ∙ ap (first (λ j. is_back_step (frame_of k) (get_or letters j 0))) e

-- ---- a part of the letters read cyclically

module _ {from to : ℕ} {letters : List ℕ} (h : Within from to letters) where
  pub part_length : length (part from to (rounds letters)) ≡ to - from
  part_length = let n = length-rounds letters in let r = h.round in let m = h.rises in simp (length-take, length-drop) (omega arith)

  pub part-letter : (i : ℕ) → i < to - from → get_or (part from to (rounds letters)) i 0 ≡ get_or (rounds letters) (from + i) 0
  part-letter i l = rw (get_or-take, get_or-drop)

  -- Before the end of the letters it is a part of them
  pub part-once : to ≤ length letters → part from to letters ≡ part from to (rounds letters)
  part-once l =
      let e : take (length letters) (rounds letters) ≡ letters =
      take-rounds letters (length letters) (omega arith) ∙ take_all (length letters) letters (omega arith) in
      ap (part from to) (sym e) ∙ part-of-take from to (length letters) (rounds letters) h.rises l

-- The piece has a back-step
abbrev pub has_back_step : Outline → ℕ → Bool
has_back_step o k = ltb (back_step_at o k) (length (piece o k))

-- No piece before the kth has a back-step
pub record Searched (buffer at : List ℕ) (k : ℕ) : Type 0 where
  pub passed : k ≤ 4
  pub none : (o : Outline) → Laid o at buffer → first (has_back_step o) k ≡ k

pub searched-start : (buffer at : List ℕ) → Searched buffer at 0
unfolding first
searched-start buffer at = record { passed = omega arith; none = λ o h. refl }

-- The search in piece k: it lies in the buffer from x up to y, and i letters stand before its first back-step
pub record InPiece (buffer at : List ℕ) (k x y i : ℕ) : Type 0 where
  pub searched : Searched buffer at k
  pub piece_lt : k < 4
  pub begins : x ≡ get_or at k 0
  pub ends : y ≡ get_or at (k + 1) 0
  pub rises : x ≤ y
  pub within : y ≤ length buffer
  pub stops : i ≡ first (λ j. is_back_step (frame_of k) (get_or (take (y - x) (drop x buffer)) j 0)) (length (take (y - x) (drop x buffer)))

module _ {buffer at : List ℕ} {k x y i : ℕ} (p : InPiece buffer at k x y i) where
  in-piece : {o : Outline} → Laid o at buffer → take (y - x) (drop x buffer) ≡ piece o k
  in-piece h = rw (p.begins, p.ends, add-one) (laid-piece h k p.piece_lt)

  in-back-step : {o : Outline} → Laid o at buffer → i ≡ back_step_at o k
  unfolding back_step_at
  in-back-step {o} h = p.stops ∙ ap (λ (u : List ℕ). first (λ j. is_back_step (frame_of k) (get_or u j 0)) (length u)) (in-piece h)

  pub searched-next : length (take (y - x) (drop x buffer)) ≤ i → Searched buffer at (k + 1)
  searched-next l =
      record {
        passed = omega (arith, p.piece_lt);
        none = λ o h.
            first_step (has_back_step o) k (p.searched.none o h)
            (le-ltb (back_step_at o k) (length (piece o k)) (omega (arith, ap length (in-piece h), in-back-step h)));
      }

  pub searched-found : i < length (take (y - x) (drop x buffer)) → FoundAt buffer at k (x + i)
  unfolding back_step_piece
  searched-found l =
      let m : length (take (y - x) (drop x buffer)) ≤ y - x = simp length-take (omega arith) in
      record {
        piece_lt = p.piece_lt;
        at_le = omega (arith, p.rises, p.within);
        step = λ o h.
            record {
              piece =
                  sym (first-stop (has_back_step o) 4 k (p.searched.none o h)
                  (lt-ltb (back_step_at o k) (length (piece o k)) (omega (arith, ap length (in-piece h), in-back-step h))) p.piece_lt);
              at = omega (arith, p.begins, h.places k (omega arith), in-back-step h);
            };
      }

pub searched-end : {buffer at : List ℕ} {k : ℕ} → Searched buffer at k → 4 ≤ k → Found buffer at None
unfolding back_step_piece
searched-end {k = k} p l o h = let e : k ≡ 4 = omega (arith, p.passed) in rw e at (p.none o h)

-- No border has its pieces in the buffer at these cut places
pub searched-off : (buffer at : List ℕ) (k : ℕ) → k < 4 → (get_or at k 0 ≤ get_or at (k + 1) 0 → get_or at (k + 1) 0 ≤ length buffer → ⊥)
    → Found buffer at None
searched-off buffer at k l off o h = absurd (off (rw add-one (laid-rising h k l)) (rw add-one (laid-within h (suc k) l)))
