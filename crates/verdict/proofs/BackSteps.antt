-- 8 is checked of an outline that passes 1 to 6, and its search goes along the pieces and along the letters of a piece. So it finds the
-- first letter that is neither of its piece's two.
use Rattle.std.specs.Prelude.{Err}
use Prim.Native.Nat.{ℕ, suc, ◌+◌, ◌%◌, ◌≤◌, ◌<◌}
use native.Mathlib.Nat.{mod-lt}
use native.Mathlib.Omega.{arith}
use native.Mathlib.Decide.{dec_lt}
use mathlib.Core.Path.{◌≡◌, refl, sym, ap, ◌∙◌, subst}
use mathlib.Core.Logic.{◌↔◌, inl, inr, ⊎_elim}
use mathlib.Core.Bool.{Bool, true, false, not, ◌||◌, true≢false}
use lib.ListN.{length}
use lib.Dec.{ltb, eqb}
use borrow.Author.Tests.{lt-ltb, le-ltb, ltb-true, ltb-false, eqb-true, eq-eqb}
use Rattle.base.proofs.BelowLaws.{first-le, first_found, first-before, first-none, first-none-at, first-is}
use Rattle.chart.specs.declared.Refusal.TheVariants.{BackStep}
use Rattle.chart.specs.Outline.{Outline}
use Rattle.lattice.specs.Chart.{size}
use Rattle.lattice.specs.Refusals.{Simple}
use Rattle.lattice.proofs.WalkLaws.{walked}
use Rattle.survey.proofs.SurveyLaws.{survey-passed}
use Rattle.convexity.specs.Frame.{frame_of}
use Rattle.convexity.specs.Clockwise.{border, place_sent}
use Rattle.convexity.specs.Pieces.{is_back_step, back_step_at, back_step_piece, Reaches}
use Rattle.convexity.proofs.Places.{place-round, place_read}
use Rattle.verdict.specs.Verdict.{back_step_in, dent_in, verdict_of}
use Rattle.verdict.specs.parts.Chain.{round_verdict, border_verdict, after_survey}
use Rattle.verdict.specs.Dents.{dent_of}
use Rattle.verdict.specs.Rule.{piece_cut, piece_letters, piece_letter, Own, SentAs, FirstBackStep}
use Rattle.verdict.proofs.Chain.{verdict-chain}
use Rattle.verdict.proofs.VerdictLaws.{dented-or-not, verdict-dented, verdict-taken}

-- Every place on the border is one in the list as sent
pub sent-as : (o : Outline) → Simple o → (n : ℕ) → SentAs o n (place_sent o n)
sent-as o h n = subst (λ (i : ℕ). SentAs o n i) (place-round o n) (place_read o h (n % size o) (mod-lt n (omega (arith, (walked o h).long))))

module _ (o : Outline) where
  abbrev t : Outline
  t = border o

  -- Letter n of piece k is a back-step
  abbrev back : ℕ → ℕ → Bool
  back k n = is_back_step (frame_of k) (piece_letter o k n)

  own_of : (k n : ℕ) → back k n ≡ false → Own o k n
  unfolding is_back_step
  own_of k n e = go (eqb (piece_letter o k n) (frame_of k).earlier) (eqb (piece_letter o k n) (frame_of k).later) refl refl
    where
      go : (a b : Bool) → eqb (piece_letter o k n) (frame_of k).earlier ≡ a → eqb (piece_letter o k n) (frame_of k).later ≡ b → Own o k n
      go true b p q = inl (eqb-true _ _ p)
      go false true p q = inr (eqb-true _ _ q)
      go false false p q = absurd (true≢false (rw (p, q) at e))

  not_back : (k n : ℕ) → Own o k n → back k n ≡ false
  unfolding is_back_step
  not_back k n (inl e) = rw (eq-eqb (piece_letter o k n) (frame_of k).earlier e)
  not_back k n (inr e) = go (eqb (piece_letter o k n) (frame_of k).earlier) (eq-eqb (piece_letter o k n) (frame_of k).later e)
    where
      go : (a : Bool) → eqb (piece_letter o k n) (frame_of k).later ≡ true
          → not (a || eqb (piece_letter o k n) (frame_of k).later) ≡ false
      go true q = refl
      go false q = rw q

  is-back : (k n : ℕ) → ¬ Own o k n → back k n ≡ true
  is-back k n h = go (back k n) refl
    where
      go : (b : Bool) → back k n ≡ b → back k n ≡ true
      go true e = e
      go false e = absurd (h (own_of k n e))

  -- Piece k has a back-step
  abbrev back_in : ℕ → Bool
  back_in k = ltb (back_step_at t k) (length (piece_letters o k))

  own-piece : (k : ℕ) → back_in k ≡ false → (n : ℕ) → n < length (piece_letters o k) → Own o k n
  unfolding back_step_at
  own-piece k e n l =
      own_of k n
      (first-none-at (back k) (length (piece_letters o k))
      (omega (arith, ltb-false (back_step_at t k) (length (piece_letters o k)) e, first-le (back k) (length (piece_letters o k)))) n l)

  no-back-in : (k : ℕ) → ((n : ℕ) → n < length (piece_letters o k) → Own o k n) → back_in k ≡ false
  unfolding back_step_at
  no-back-in k h =
      le-ltb (back_step_at t k) (length (piece_letters o k))
      (omega (arith, first-none (back k) (length (piece_letters o k)) (λ n l. not_back k n (h n l))))

  module _ (h : Simple o) where
    -- After 1 to 6 the back-steps decide
    verdict-eight : back_step_piece t < 4 → verdict_of o ≡ Err (back_step_in (place_sent o) t (back_step_piece t))
    unfolding border_verdict round_verdict after_survey
    verdict-eight l = rw (verdict-chain o, ← survey-passed o h, lt-ltb (back_step_piece t) 4 l)

    eight-of-first : (p i : ℕ) → FirstBackStep o p i → verdict_of o ≡ Err (BackStep p i)
    unfolding back_step_piece back_step_in back_step_at
    eight-of-first p i f =
        let k : ℕ = f.k in
        let at : back_step_at t k ≡ f.at =
        first-is (back k) (length (piece_letters o k)) f.at f.within (λ n l. not_back k n (f.before n l))
        (is-back k f.at f.back)
        in
        let first : back_step_piece t ≡ k =
        first-is back_in 4 k f.below (λ j l. no-back-in j (f.earlier j l))
        (lt-ltb (back_step_at t k) (length (piece_letters o k)) (omega (arith, f.within))) in
        let piece : suc k ≡ p = omega (arith, f.piece) in
        let place : place_sent o (piece_cut o k + back_step_at t k) ≡ i =
        ap (λ (n : ℕ). place_sent o (piece_cut o k + n)) at ∙ sym f.place in
        verdict-eight (omega (arith, f.below))
        ∙ ap (λ (j : ℕ). Err (back_step_in (place_sent o) t j)) first
        ∙ ap Err (λ j. BackStep (piece j) (place j))

    first-of-eight : (p i : ℕ) → verdict_of o ≡ Err (BackStep p i) → FirstBackStep o p i
    unfolding back_step_piece back_step_in back_step_at dent_of dent_in
    first-of-eight p i e = elim (dec_lt (back_step_piece t) 4) [ yes l ↦ found l | no l ↦ absurd (straight (omega arith)) ]
      where
        straight : 4 ≤ back_step_piece t → ⊥
        straight l =
            let r : Reaches o = record { simple = h; straight = le-ltb (back_step_piece t) 4 l } in
            ⊎_elim
            (λ d. let v = verdict-dented o (record { reaches = r; dented = d }) in let z : ◌≡◌ {A = ℕ} 0 1 = cc in omega arith)
            (λ u. let v = verdict-taken o r u in let z : ◌≡◌ {A = ℕ} 0 1 = cc in omega arith)
            (dented-or-not t)

        found : back_step_piece t < 4 → FirstBackStep o p i
        found l =
            let k : ℕ = back_step_piece t in
            let said = sym (verdict-eight l) ∙ e in
            let piece : suc k ≡ p = cc in
            let place : place_sent o (piece_cut o k + back_step_at t k) ≡ i = cc in
            let within : back_step_at t k < length (piece_letters o k) = ltb-true _ _ (first_found back_in 4 l) in
            record {
              k = k;
              below = l;
              earlier = λ j m. own-piece j (first-before back_in 4 j m);
              at = back_step_at t k;
              within = within;
              before = λ n m. own_of k n (first-before (back k) (length (piece_letters o k)) n m);
              back = λ own.
                  true≢false (sym (first_found (back k) (length (piece_letters o k)) within) ∙ not_back k (back_step_at t k) own);
              piece = omega (arith, piece);
              place = sym place;
              sent = subst (λ (n : ℕ). SentAs o (piece_cut o k + back_step_at t k) n) place (sent-as o h _);
            }

    -- An outline that passes 1 to 6 is refused by 8 with these fields exactly when they are those of its first back-step
    pub eight-iff-first-back-step : (p i : ℕ) → (verdict_of o ≡ Err (BackStep p i)) ↔ FirstBackStep o p i
    eight-iff-first-back-step p i = (first-of-eight p i, eight-of-first p i)
