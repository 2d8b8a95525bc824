-- Without back-steps the cut places increase: a piece that went beyond the end of the walk
-- would contain a letter next to W that goes back in its frame.
-- So the border is four words, and each starts where the one before it ends, in a frame turned by a quarter.
use Prim.Native.Nat.{ℕ, zero, suc, ◌+◌, ◌-◌, ◌≤◌, ◌<◌}
use native.Mathlib.Nat.{add-zero, add-suc}
use native.Mathlib.Numerals.{one-add}
use native.Mathlib.Decide.{dec_lt}
use native.Mathlib.Omega.{arith}
use mathlib.Core.Path.{◌≡◌, refl, sym, ap, ◌∙◌}
use mathlib.Core.Logic.{◌⊎◌, inl, inr, ⊎_elim}
use mathlib.Core.Bool.{Bool, true, false, ◌||◌}
use mathlib.Core.List.{List, [], ◌∷◌, ◌++◌, map, append-nil}
use lib.ListN.{length, get_or, take, drop, length-append, length-take, length-drop, length-map, take-append-drop, get_or-append}
use lib.ListN.{get_or-map}
use lib.Seq.{take-length, drop-cons, drop-length, drop-drop, get_or-append-add, get_or-append_seam, get_or-take, get_or-drop}
use lib.Dec.{ltb, eqb}
use borrow.Author.Tests.{ltb-false, eqb-true, eq-eqb, not-false}
use Rattle.words.specs.Word.{Word, word_of, earliers, laters}
use Rattle.base.proofs.BelowLaws.{first-le, first-before, below-four}
use Rattle.words.proofs.Counts.{earliers-take-suc, laters-take-suc}
use Rattle.chart.specs.Limits.{side}
use Rattle.chart.specs.declared.Point.{Point}
use Rattle.chart.specs.Outline.{Outline}
use Rattle.lattice.specs.Chart.{corner_at, size, letter_at}
use Rattle.lattice.specs.Walked.{Walked}
use Rattle.lattice.proofs.WalkLaws.{OnChart}
use Rattle.convexity.specs.Frame.{Frame, frame_of, along, next}
use Rattle.convexity.specs.Cut.{cut_corner, cut}
use Rattle.convexity.specs.Pieces.{rounds, piece, is_back_step, back_step_at, back_step_piece, word}
use Rattle.convexity.specs.parts.InFrame.{spell, start_of, start_e, start_l}
use Rattle.convexity.specs.Clockwise.{opposite}
use Rattle.convexity.specs.Shape.{NoBackStep, Shape}
use Rattle.convexity.proofs.Ring.{next-lt, next-suc, round-ring, Apart, apart, Turns, turns, along-next}
use Rattle.convexity.proofs.Levels.{leaves-upwards}
use Rattle.convexity.proofs.Cuts.{ahead-round, cut_step, cut-zero, corner-west, cut_on, cut-round, cuts-rise, cuts_fit, piece-part}
use Rattle.convexity.proofs.Cuts.{piece-length, piece-at, previous-zero, previous-pos, corner-first, corners-differ, coming-west}
use Rattle.convexity.proofs.Cuts.{corner-after}
use Rattle.convexity.proofs.Extreme.{FirstAt, on_chart, Moved, earlier_on, later-on, earlier-back, later-back, Bend, by-later}
use Rattle.convexity.proofs.Extreme.{by-earlier, previous, corner-round, moves, bend}

-- If the search for a piece with a back-step finds none, it returns 4
pub straight-of : (o : Outline) → ltb (back_step_piece o) 4 ≡ false → back_step_piece o ≡ 4
unfolding back_step_piece
straight-of o e =
    omega (arith, first-le (λ k. ltb (back_step_at o k) (length (piece o k))) 4, ltb-false (back_step_piece o) 4 e)

-- ---- the letters of a frame

-- a is one of the frame's letters
abbrev LetterOf : Frame → ℕ → Type 0
LetterOf f a = (a ≡ f.earlier) ⊎ (a ≡ f.later)

no-back-step-letter : (f : Frame) (a : ℕ) → is_back_step f a ≡ false → LetterOf f a
unfolding is_back_step
no-back-step-letter f a e = go (eqb a f.earlier) refl (not-false (eqb a f.earlier || eqb a f.later) e)
  where
    go : (b : Bool) → eqb a f.earlier ≡ b → (b || eqb a f.later) ≡ true → LetterOf f a
    go true p q = inl (eqb-true a f.earlier p)
    go false p q = inr (eqb-true a f.later q)

-- None of the first three frames has both left and up
not-both : (k : ℕ) → k < 3 → LetterOf (frame_of k) 2 → LetterOf (frame_of k) 1 → ⊥
unfolding frame_of
not-both zero h l u = ⊎_elim (λ e. omega arith) (λ e. omega arith) l
not-both (suc zero) h l u = ⊎_elim (λ e. omega arith) (λ e. omega arith) l
not-both (suc (suc zero)) h l u = ⊎_elim (λ e. omega arith) (λ e. omega arith) u
not-both (suc (suc (suc k))) h l u = absurd (omega arith)

-- Between two pieces, the walk arrives by the later letter of the first and leaves by the later letter of the second
junction : (f g : Frame) (a b : ℕ) → Apart f → Turns f g → LetterOf f a → Bend g a b → (a ≡ f.later) × (b ≡ g.later)
junction f g a b h t o (by-later p q) = (omega arith, q)
junction f g a b h t o (by-earlier p q) =
    let e : a ≡ opposite f.earlier = p ∙ ap opposite t.later in absurd (⊎_elim (λ r. omega arith) (λ r. omega arith) o)

-- ---- the letters of the pieces

length-rounds : (t : List ℕ) → length (rounds t) ≡ length t + (length t + (length t + length t))
unfolding rounds
length-rounds t = simp length-append

rounds-before : (t : List ℕ) (i : ℕ) → i < length t → get_or (rounds t) i 0 ≡ get_or t i 0
unfolding rounds
rounds-before t i h = get_or-append t (t ++ (t ++ t)) 0 i h

rounds-after : (t : List ℕ) (i : ℕ) → i < length t → get_or (rounds t) (length t + i) 0 ≡ get_or t i 0
unfolding rounds
rounds-after t i h = get_or-append-add t (t ++ (t ++ t)) i 0 ∙ get_or-append t (t ++ t) 0 i h

-- Without back-steps the letters from cut k to the next cut are those of frame k
of-piece : (o : Outline) → back_step_piece o ≡ 4 → (k : ℕ) → k < 4 → (i : ℕ) → cut o k ≤ i → i < cut o (suc k)
    → i < length (rounds o.letters)
    → LetterOf (frame_of k) (get_or (rounds o.letters) i 0)
unfolding back_step_piece back_step_at piece
of-piece o e k h i a b c =
    let r : List ℕ = rounds o.letters in
    let m : ℕ = i - cut o k in
    let long : m < length (piece o k) = simp (length-take, length-drop) (omega arith) in
    let none : ltb (back_step_at o k) (length (piece o k)) ≡ false =
    first-before (λ k. ltb (back_step_at o k) (length (piece o k))) 4 k (omega arith) in
    let straight : is_back_step (frame_of k) (get_or (piece o k) m 0) ≡ false =
    first-before (λ i. is_back_step (frame_of k) (get_or (piece o k) i 0)) (length (piece o k)) m
    (omega (arith, ltb-false (back_step_at o k) (length (piece o k)) none)) in
    let at : get_or (piece o k) m 0 ≡ get_or r i 0 =
    get_or-take (cut o (suc k) - cut o k) (drop (cut o k) r) m 0 (omega arith) ∙ get_or-drop (cut o k) r m 0
    ∙ ap (λ (j : ℕ). get_or r j 0) (omega arith) in
    no-back-step-letter (frame_of k) (get_or r i 0) (rw at at straight)

-- ---- a list of a frame's letters as a word

-- Spelling the word gives the letters back
spell-word : (f : Frame) → Apart f → (u : List ℕ) → ((i : ℕ) → i < length u → LetterOf f (get_or u i 0)) → spell f (word_of f.later u) ≡ u
unfolding spell word_of
spell-word f h [] o = refl
spell-word f h (a ∷ u) o = go (eqb a f.later) refl (spell-word f h u (λ i l. o (suc i) (omega arith)))
  where
    v : Word
    v = word_of f.later u

    go : (b : Bool) → eqb a f.later ≡ b → spell f v ≡ u → spell f (b ∷ v) ≡ a ∷ u
    go true e r = let p : a ≡ f.later = eqb-true a f.later e in cc
    go false e r =
        ⊎_elim (λ (p : a ≡ f.earlier). cc)
        (λ (p : a ≡ f.later). let z : ◌≡◌ {A = ℕ} 0 1 = cc (eq-eqb a f.later p) in absurd (omega arith)) (o 0 (omega arith))

-- A letter of a frame
unfoldable pub letter_of : Frame → Bool → ℕ
letter_of f false = f.earlier
letter_of f true = f.later

pub length-spell : (f : Frame) (w : Word) → length (spell f w) ≡ length w
unfolding spell
length-spell f [] = refl
length-spell f (false ∷ w) = ap suc (length-spell f w)
length-spell f (true ∷ w) = ap suc (length-spell f w)

pub spell-append : (f : Frame) (u v : Word) → spell f (u ++ v) ≡ spell f u ++ spell f v
unfolding spell
spell-append f [] v = refl
spell-append f (false ∷ u) v = rw (spell-append f u v)
spell-append f (true ∷ u) v = rw (spell-append f u v)

get_d-spell : (f : Frame) (w : Word) (i : ℕ) → i < length w → get_or (spell f w) i 0 ≡ letter_of f (get_or w i false)
unfolding spell letter_of
get_d-spell f [] i h = absurd (omega arith)
get_d-spell f (false ∷ w) zero h = refl
get_d-spell f (true ∷ w) zero h = refl
get_d-spell f (false ∷ w) (suc i) h = get_d-spell f w i (omega arith)
get_d-spell f (true ∷ w) (suc i) h = get_d-spell f w i (omega arith)

-- p is a corner of the chart, at P along the earlier letter of frame k and Q along the later one
pub record CornerIn (k : ℕ) (p : Point) (P Q : ℕ) : Type 0 where
  pub on_chart : OnChart p
  pub across : along (frame_of k).earlier p ≡ P
  pub up : along (frame_of k).later p ≡ Q

-- After one more letter of the frame
corner-on : (k : ℕ) (b : Bool) (p q : Point) (P Q : ℕ) → OnChart q → CornerIn k p P Q → Moved (frame_of k) (letter_of (frame_of k) b) p q
    → CornerIn k q (P + earliers (b ∷ [])) (Q + laters (b ∷ []))
unfolding letter_of earliers laters
corner-on k false p q P Q o c (earlier_on x y z) = record { on_chart = o; across = omega arith; up = omega arith }
corner-on k false p q P Q o c (later-on x y z) = absurd (omega (arith, apart k))
corner-on k false p q P Q o c (earlier-back x y z) = absurd (omega (arith, apart k))
corner-on k false p q P Q o c (later-back x y z) = absurd (omega (arith, apart k))
corner-on k true p q P Q o c (earlier_on x y z) = absurd (omega (arith, apart k))
corner-on k true p q P Q o c (later-on x y z) = record { on_chart = o; across = omega arith; up = omega arith }
corner-on k true p q P Q o c (earlier-back x y z) = absurd (omega (arith, apart k))
corner-on k true p q P Q o c (later-back x y z) = absurd (omega (arith, apart k))

module _ (o : Outline) (c : NoBackStep o) where
  steps : Walked o
  steps = c.walk.walked

  up : letter_at o 0 ≡ 1
  up = leaves-upwards o c.clockwise

  -- ---- the cut places increase

  -- Otherwise the piece would go beyond the end of the walk, and contain the letter that arrives at W and the one that leaves it
  corner-rises : (k : ℕ) → k < 3 → cut o k ≡ cut_corner o k → cut_corner o k < cut_corner o (suc k)
  corner-rises k h e =
      let n : ℕ = size o in
      let a : ℕ = cut_corner o k in
      let b : ℕ = cut_corner o (suc k) in
      elim (dec_lt a b) [
        | yes l ↦ l
        | no l ↦
            let m : b < a = omega (arith, rw (next-suc k h) at (corners-differ o c.walk k (omega arith))) in
            let below : a < n = (corner-first o c.walk k (omega arith)).below in
            let after : 0 < b = corner-after o c.walk up (suc k) (omega arith) (omega arith) in
            let far : cut o (suc k) ≡ b + n = omega (arith, cut_step o k, ahead-round n a b m) in
            let of : (i : ℕ) → a ≤ i → i < b + n → LetterOf (frame_of k) (get_or (rounds o.letters) i 0) =
            λ i x y. of-piece o c.straight k (omega arith) i (omega arith) (omega arith) (omega (arith, length-rounds o.letters)) in
            absurd (not-both k h
            (rw (rounds-before o.letters (n - 1) (omega arith), coming-west o c.walk up) at (of (n - 1) (omega arith) (omega arith)))
            (rw (rounds-after o.letters 0 (omega arith), up) at (of (n + 0) (omega arith) (omega arith))))
      ]

  cut-corner : (k : ℕ) → k < 4 → cut o k ≡ cut_corner o k
  cut-corner zero h = omega (arith, cut-zero o, corner-west o)
  cut-corner (suc k) h =
      let e = cut-corner k (omega arith) in
      let r = corner-rises k (omega arith) e in
      cut_on o k e (omega arith)

  rise : (k : ℕ) → k < 3 → cut_corner o k < cut_corner o (suc k)
  rise k h = corner-rises k h (cut-corner k (omega arith))

  whole-from-w : cut o 4 ≡ size o
  whole-from-w = cut-round o cut-corner rise (corner-first o c.walk 3 (omega arith)).below

  rising : (k : ℕ) → k < 4 → cut o k < cut o (suc k)
  rising = cuts-rise o cut-corner rise (corner-first o c.walk 3 (omega arith)).below

  pub cut-le : (k : ℕ) → k < 4 → cut o (suc k) ≤ size o
  cut-le = cuts_fit o cut-corner rise (corner-first o c.walk 3 (omega arith)).below

  cut-first : (k : ℕ) → k < 4 → FirstAt o k (cut o k)
  cut-first k h = rw (cut-corner k h) (corner-first o c.walk k h)

  -- ---- the pieces are parts of the border

  piece-rest : (k : ℕ) → k < 4 → drop (cut o k) o.letters ≡ piece o k ++ drop (cut o (suc k)) o.letters
  piece-rest k h =
      let a : ℕ = cut o k in
      let b : ℕ = cut o (suc k) in
      let e : a + (b - a) ≡ b = omega (arith, rising k h) in
      let rest : drop (b - a) (drop a o.letters) ≡ drop b o.letters = drop-drop (b - a) a o.letters
      ∙ ap (λ (m : ℕ). drop m o.letters) e in
      rw (piece-part o cut-le k h) (sym (take-append-drop (b - a) (drop a o.letters))
      ∙ ap (λ (v : List ℕ). take (b - a) (drop a o.letters) ++ v) rest)

  pieces_whole : o.letters ≡ piece o 0 ++ (piece o 1 ++ (piece o 2 ++ piece o 3))
  pieces_whole =
      let e0 : o.letters ≡ piece o 0 ++ drop (cut o 1) o.letters = ap (λ (m : ℕ). drop m o.letters) (sym (cut-zero o))
      ∙ piece-rest 0 (omega arith) in
      let e1 = piece-rest 1 (omega arith) in
      let e2 = piece-rest 2 (omega arith) in
      let e3 : drop (cut o 3) o.letters ≡ piece o 3 = piece-rest 3 (omega arith)
      ∙ ap (λ (m : ℕ). piece o 3 ++ drop m o.letters) whole-from-w ∙ ap (λ (v : List ℕ). piece o 3 ++ v) (drop-length o.letters)
      ∙ append-nil (piece o 3) in
      e0 ∙ ap (λ (v : List ℕ). piece o 0 ++ v) (e1 ∙ ap (λ (v : List ℕ). piece o 1 ++ v) (e2 ∙ ap (λ (v : List ℕ). piece o 2 ++ v) e3))

  -- ---- a piece begins and ends with its later letter

  of-frame : (k : ℕ) → k < 4 → (i : ℕ) → cut o k ≤ i → i < cut o (suc k) → LetterOf (frame_of k) (letter_at o i)
  of-frame k h i a b =
      let l : i < size o = omega (arith, cut-le k h) in
      rw (rounds-before o.letters i l) at (of-piece o c.straight k h i a b (omega (arith, length-rounds o.letters)))

  -- The place before the start of the next piece
  place-before : (k : ℕ) → k < 4 → previous (size o) (cut o (next k)) ≡ cut o (suc k) - 1
  place-before =
      round-ring (λ k j. previous (size o) (cut o j) ≡ cut o (suc k) - 1)
      (λ k h. previous-pos (size o) (cut o (suc k)) (omega (arith, rising k (omega arith))))
      (rw cut-zero (previous-zero (size o) ∙ ap (λ (n : ℕ). n - 1) (sym whole-from-w)))

  meeting : (k : ℕ) → k < 4 → (letter_at o (cut o (suc k) - 1) ≡ (frame_of k).later) × (letter_at o (cut o (next k)) ≡ (frame_of (next k)).later)
  meeting k h =
      let r : cut o k < cut o (suc k) = rising k h in
      junction (frame_of k) (frame_of (next k)) _ _ (apart k) (turns k) (of-frame k h (cut o (suc k) - 1) (omega arith) (omega arith))
      (rw (place-before k h) at (bend o steps (next k) (cut o (next k)) (cut-first (next k) (next-lt k))))

  piece-first : (k : ℕ) → k < 4 → letter_at o (cut o k) ≡ (frame_of k).later
  piece-first =
      below-four _ (meeting 3 (omega arith)).1 (meeting 0 (omega arith)).1 (meeting 1 (omega arith)).1 (meeting 2 (omega arith)).1

  -- ---- the four words

  piece-word : (k : ℕ) → k < 4 → piece o k ≡ (frame_of k).later ∷ drop 1 (piece o k)
  piece-word k h =
      let r : cut o k < cut o (suc k) = rising k h in
      let at : get_or (piece o k) 0 0 ≡ (frame_of k).later = piece-at o cut-le k h 0 (omega arith)
      ∙ ap (λ (i : ℕ). letter_at o i) (add-zero (cut o k)) ∙ piece-first k h in
      drop-cons (piece o k) 0 0 (omega (arith, piece-length o cut-le k h)) ∙ ap (λ (a : ℕ). a ∷ drop 1 (piece o k)) at

  rest_at : (k : ℕ) → k < 4 → (i : ℕ) → suc i < cut o (suc k) - cut o k → get_or (drop 1 (piece o k)) i 0 ≡ letter_at o (cut o k + suc i)
  rest_at k h i l = get_or-drop 1 (piece o k) i 0 ∙ ap (λ (j : ℕ). get_or (piece o k) j 0) (one-add i) ∙ piece-at o cut-le k h (suc i) l

  rest-length : (k : ℕ) → k < 4 → length (drop 1 (piece o k)) + 1 ≡ cut o (suc k) - cut o k
  rest-length k h = simp length-drop (omega (arith, piece-length o cut-le k h, rising k h))

  spelled : (k : ℕ) → k < 4 → piece o k ≡ spell (frame_of k) (true ∷ word o k)
  unfolding spell word
  spelled k h =
      piece-word k h ∙ ap (λ (v : List ℕ). (frame_of k).later ∷ v) (sym (spell-word (frame_of k) (apart k) (drop 1 (piece o k)) letters))
    where
      letters : (i : ℕ) → i < length (drop 1 (piece o k)) → LetterOf (frame_of k) (get_or (drop 1 (piece o k)) i 0)
      letters i l =
          let m : suc i < cut o (suc k) - cut o k = omega (arith, rest-length k h) in
          rw (rest_at k h i m) (of-frame k h (cut o k + suc i) (omega arith) (omega arith))

  ends : (k : ℕ) → k < 4 → (x : Word) (b : Bool) → word o k ≡ x ++ (b ∷ []) → b ≡ true
  unfolding word word_of
  ends k h x b e =
      let f : Frame = frame_of k in
      let g : ℕ → Bool = λ a. eqb a f.later in
      let u : List ℕ = drop 1 (piece o k) in
      let n : ℕ = length x in
      let long : length u ≡ n + 1 = sym (length-map u g) ∙ ap length e ∙ length-append x (b ∷ []) in
      let all : n + 1 + 1 ≡ cut o (suc k) - cut o k = omega (arith, rest-length k h) in
      let place : cut o k + suc n ≡ cut o (suc k) - 1 = omega arith in
      let letter : get_or u n 0 ≡ f.later = rest_at k h n (omega arith) ∙ ap (λ (j : ℕ). letter_at o j) place ∙ (meeting k h).0 in
      let last : get_or (map g u) n (g 0) ≡ b = ap (λ (v : Word). get_or v n (g 0)) e ∙ get_or-append_seam x b [] (g 0) in
      sym last ∙ get_or-map g u n 0 ∙ eq-eqb (get_or u n 0) f.later letter

  word-length : (k : ℕ) → k < 4 → length (word o k) + 1 ≡ cut o (suc k) - cut o k
  unfolding word word_of
  word-length k h = simp length-map (rest-length k h)

  -- ---- the letters and the corners of a piece, in its frame

  pub place-lt : (k : ℕ) → k < 4 → (m : ℕ) → m < length (true ∷ word o k) → cut o k + m < size o
  place-lt k h m l = omega (arith, word-length k h, rising k h, cut-le k h)

  pub letter-in-piece : (k : ℕ) → k < 4 → (m : ℕ) → m < length (true ∷ word o k)
      → letter_at o (cut o k + m) ≡ letter_of (frame_of k) (get_or (true ∷ word o k) m false)
  letter-in-piece k h m l =
      sym (piece-at o cut-le k h m (omega (arith, word-length k h))) ∙ ap (λ (u : List ℕ). get_or u m 0) (spelled k h)
      ∙ get_d-spell (frame_of k) (true ∷ word o k) m l

  pub corner-in-piece : (k : ℕ) → k < 4 → (m : ℕ) → m ≤ length (true ∷ word o k)
      → CornerIn k (corner_at o (cut o k + m)) (start_e o k + earliers (take m (true ∷ word o k)))
      (start_l o k + laters (take m (true ∷ word o k)))
  unfolding start_e start_l start_of earliers laters
  corner-in-piece k h zero l =
      let m : cut o k ≤ size o = omega (arith, place-lt k h 0 (omega arith)) in
      rw (add-zero (cut o k)) (record { on_chart = on_chart o steps (cut o k) m; across = omega arith; up = omega arith })
  corner-in-piece k h (suc m) l =
      let v : Word = true ∷ word o k in
      let j : ℕ = cut o k + m in
      let n : j < size o = place-lt k h m l in
      let c =
      corner-on k (get_or v m false) (corner_at o j) (corner_at o (suc j)) _ _ (on_chart o steps (suc j) n)
      (corner-in-piece k h m (omega arith))
      (rw (letter-in-piece k h m l) at (moves o steps k j n)) in
      rw (add-suc (cut o k) m)
      (record { on_chart = c.on_chart; across = omega (arith, earliers-take-suc m v l); up = omega (arith, laters-take-suc m v l) })

  -- Each place is in one of the pieces
  pub record InPiece (i : ℕ) : Type 0 where
    pub piece : ℕ
    pub small : piece < 4
    pub offset : ℕ
    pub within : offset < length (true ∷ word o piece)
    pub place : cut o piece + offset ≡ i

  pub in-piece : (i : ℕ) → i < size o → InPiece i
  in-piece i h = go 4 (omega arith) (omega (arith, whole-from-w))
    where
      go : (n : ℕ) → n ≤ 4 → i < cut o n → InPiece i
      go zero l m = absurd (omega (arith, cut-zero o))
      go (suc n) l m =
          elim (dec_lt i (cut o n)) [
            | yes a ↦ go n (omega arith) a
            | no a ↦ record { piece = n; small = l; offset = i - cut o n; within = omega (arith, word-length n l); place = omega arith }
          ]

  -- ---- the cycle

  -- The end of a piece
  piece-end : (k : ℕ) → k < 4
      → CornerIn k (start_of o (suc k)) (start_e o k + earliers (true ∷ word o k)) (start_l o k + laters (true ∷ word o k))
  unfolding start_of
  piece-end k h =
      let n : ℕ = length (true ∷ word o k) in
      let place : cut o k + n ≡ cut o (suc k) = omega (arith, word-length k h, rising k h) in
      rw (take-length, place) at (corner-in-piece k h n (omega arith))

  -- The next piece starts where this one ends
  start-next : (k : ℕ) → k < 4 → start_of o (suc k) ≡ start_of o (next k)
  unfolding start_of
  start-next =
      round-ring (λ k j. corner_at o (cut o (suc k)) ≡ corner_at o (cut o j)) (λ k h. refl)
      (ap (corner_at o) whole-from-w ∙ corner-round o steps ∙ ap (corner_at o) (sym (cut-zero o)))

  next_later : (k : ℕ) → k < 4 → start_l o (next k) ≡ start_e o k + earliers (word o k)
  unfolding start_l earliers
  next_later k h = rw ((turns k).later, ← start-next k h) (piece-end k h).across

  next_earlier : (k : ℕ) → k < 4 → start_e o (next k) + start_l o k + 1 + laters (word o k) ≡ side
  unfolding start_e start_l laters
  next_earlier k h =
      let e = piece-end k h in
      rw (← start-next k h) (omega (arith, along-next k (start_of o (suc k)) e.on_chart))

-- Without back-steps a border is four words in a cycle
pub shape : (o : Outline) → NoBackStep o → Shape o
shape o c =
    record {
      corners = cut-corner o c;
      round = whole-from-w o c;
      rises = rising o c;
      whole = pieces_whole o c;
      spelled = spelled o c;
      ends = ends o c;
      next_later = next_later o c;
      next_earlier = next_earlier o c;
    }
