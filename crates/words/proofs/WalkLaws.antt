-- A loop over the factors: the remaining factors are the factors of the rest of the word, because decreasing Lyndon words are the
-- factorisation of the word that they spell.
use Prim.Native.Nat.{ℕ, ◌+◌, ◌*◌, ◌≤◌, ◌<◌}
use native.Mathlib.Nat.{mul-le-mul_right}
use native.Mathlib.Decide.{dec_lt}
use native.Mathlib.Omega.{arith}
use mathlib.Core.Path.{◌≡◌, refl, sym, ap, ◌∙◌, subst}
use mathlib.Core.Bool.{Bool}
use mathlib.Core.List.{List, [], ◌∷◌, ◌++◌}
use lib.ListN.{length, take, drop, length-append, length-drop, drop_of_length-le}
use lib.Seq.{take-append_seam, drop_at, drop-drop}
use Rattle.std.specs.Prelude.{Some, None}
use Rattle.words.specs.Word.{Word, word_of, laters}
use Rattle.words.specs.Lyndon.{Factor, copies, written, Proper, Factoring, factors_of}
use Rattle.words.specs.parts.Search.{judge, judged, first_of}
use Rattle.words.specs.Christoffel.{christoffel}
use Rattle.words.specs.declared.Found.{Found}
use Rattle.words.specs.declared.JudgedFactor.{JudgedFactor}
use Rattle.words.proofs.WordOf.{length-word_of, word_of-take, word_of-drop}
use Rattle.words.proofs.Counts.{laters-le-length, length-copies}
use Rattle.words.proofs.Factors.{factors-exist, factors-of, falling-head, falling-tail, written-first}

-- ---- in a word

-- A word that is not empty has a first factor
pub record Head (w : Word) : Type 0 where
  pub first : Factor
  pub others : List Factor
  pub factors : factors_of w ≡ first ∷ others

pub factors-head : (w : Word) → 0 < length w → Head w
unfolding written
factors-head w h = go (factors_of w) refl (factors-exist w).whole
  where
    go : (fs : List Factor) → factors_of w ≡ fs → written fs ≡ w → Head w
    go [] e d = absurd (omega (arith, ap length d))
    go (f ∷ fs) e d = record { first = f; others = fs; factors = e }

module _ (w : Word) (f : Factor) (fs : List Factor) (e : factors_of w ≡ f ∷ fs) where
  factoring : Factoring w (f ∷ fs)
  factoring = rw e at (factors-exist w)

  -- It is a Lyndon word, repeated at least once
  pub first-proper : Proper f
  first-proper = falling-head factoring.falling

  pub first_some : 0 < length f.word
  first_some = first-proper.lyndon.above_zero

  pub first-repeated : 0 < f.times
  first-repeated = first-proper.repeated

  -- Its copies, and the rest
  whole : w ≡ copies f.times f.word ++ written fs
  unfolding written
  whole = sym factoring.whole

  after : drop (f.times * length f.word) w ≡ written fs
  after =
      ap (λ (u : Word). drop (f.times * length f.word) u) whole
      ∙ drop_at (copies f.times f.word) (written fs) (f.times * length f.word) (length-copies f.times f.word)

  pub first_within : f.times * length f.word ≤ length w
  first_within =
      omega (arith, ap length whole, length-append (copies f.times f.word) (written fs), length-copies f.times f.word)

  -- The other factors are those of the rest
  pub factors-rest : fs ≡ factors_of (drop (f.times * length f.word) w)
  factors-rest =
      sym (ap factors_of after ∙ factors-of (written fs) fs (record { falling = falling-tail factoring.falling; whole = refl }))

  -- One copy is a prefix of the word
  pub first_word : f.word ≡ take (length f.word) w
  first_word =
      let t = written-first factoring.falling in
      sym (ap (λ (u : Word). take (length f.word) u) (sym factoring.whole ∙ t.1) ∙ take-append_seam f.word t.0)

  pub first-length : length f.word ≤ length w
  first-length = let t = written-first factoring.falling in
      omega (arith, ap length (sym factoring.whole ∙ t.1), length-append f.word t.0)

-- ---- in a list of letters, from an index on

-- One step of the loop: the factor that is judged, and where the next one starts
pub record Step (l : List ℕ) (at later : ℕ) (r : JudgedFactor) : Type 0 where
  pub first : Factor
  pub read : r ≡ judge first
  pub proper : Proper first
  pub above_zero : 0 < r.length
  pub repeated : 0 < r.times
  pub counted : r.laters ≤ r.length
  pub fits : at + r.length ≤ length l
  pub ahead : at < at + r.times * r.length
  pub within : at + r.times * r.length ≤ length l
  pub copy : first.word ≡ word_of later (take r.length (drop at l))
  pub factors : factors_of (word_of later (drop at l)) ≡ first ∷ factors_of (word_of later (drop (at + r.times * r.length) l))

step_of : (l : List ℕ) (at later : ℕ) (f : Factor) (fs : List Factor) → at < length l → factors_of (word_of later (drop at l)) ≡ f ∷ fs
    → Step l at later (judge f)
step_of l at later f fs h e =
    let w = word_of later (drop at l) in
    let size = f.times * length f.word in
    record {
      first = f;
      read = refl;
      proper = first-proper w f fs e;
      above_zero = first_some w f fs e;
      repeated = first-repeated w f fs e;
      counted = laters-le-length f.word;
      fits = omega (arith, first-length w f fs e, length-word_of later (drop at l), length-drop at l);
      ahead = omega (arith, first_some w f fs e, mul-le-mul_right (length f.word) (first-repeated w f fs e));
      within = omega (arith, first_within w f fs e, length-word_of later (drop at l), length-drop at l);
      copy = first_word w f fs e ∙ sym (word_of-take later (length f.word) (drop at l));
      factors =
          e ∙ ap (λ (gs : List Factor). f ∷ gs) (factors-rest w f fs e
          ∙ ap factors_of (sym (word_of-drop later size (drop at l)) ∙ ap (word_of later) (drop-drop size at l)));
    }

-- There is a factor only before the end of the list
judged-none : (l : List ℕ) (at later : ℕ) → length l ≤ at → None ≡ judged (factors_of (word_of later (drop at l)))
unfolding word_of factors_of judged
judged-none l at later h = rw (drop_of_length-le l h)

pub judged-within : (l : List ℕ) (at later : ℕ) {r : JudgedFactor} → Some r ≡ judged (factors_of (word_of later (drop at l))) → at < length l
judged-within l at later {r} e =
    elim (dec_lt at (length l)) [
      | yes h ↦ h
      | no h ↦ let n : Some r ≡ None = e ∙ sym (judged-none l at later (omega arith)) in cc
    ]

pub judged_end : (l : List ℕ) (at later : ℕ) → None ≡ judged (factors_of (word_of later (drop at l))) → length l ≤ at
unfolding judged
judged_end l at later e =
    elim (dec_lt at (length l)) [
      | yes h ↦
          let d = factors-head (word_of later (drop at l)) (omega (arith, length-word_of later (drop at l), length-drop at l)) in
          let n : None ≡ Some (judge d.first) = e ∙ ap judged d.factors in
          cc
      | no h ↦ omega arith
    ]

pub step-at : (l : List ℕ) (at later : ℕ) {r : JudgedFactor} → Some r ≡ judged (factors_of (word_of later (drop at l))) → Step l at later r
unfolding judged
step-at l at later {r} e =
    let h = judged-within l at later e in
    let d = factors-head (word_of later (drop at l)) (omega (arith, length-word_of later (drop at l), length-drop at l)) in
    let same : Some r ≡ Some (judge d.first) = e ∙ ap judged d.factors in
    let q : r ≡ judge d.first = cc in
    subst (λ (r : JudgedFactor). Step l at later r) (sym q) (step_of l at later d.first d.others h d.factors)

-- The list has no factor, or its first one
pub searched-none : (fs : List Factor) → None ≡ first_of fs → None ≡ judged fs
unfolding first_of judged
searched-none [] e = refl
searched-none (f ∷ fs) e = cc

searched-first : (fs : List Factor) {r : Found} → Some r ≡ first_of fs
    → (f : Factor) × (judged fs ≡ Some (judge f)) × (r ≡ record { length = length f.word; times = f.times; laters = laters f.word })
unfolding first_of judged
searched-first [] e = cc
searched-first (f ∷ fs) e = (f, refl, cc)

module _ (l : List ℕ) (at later : ℕ) {r : Found} (e : Some r ≡ first_of (factors_of (word_of later (drop at l)))) where
  first-found : (f : Factor) × (judged (factors_of (word_of later (drop at l))) ≡ Some (judge f))
      × (r ≡ record { length = length f.word; times = f.times; laters = laters f.word })
  first-found = searched-first (factors_of (word_of later (drop at l))) e

  step : Step l at later (judge first-found.0)
  step = step-at l at later (sym first-found.1)

  pub found-fits : at + r.length ≤ length l
  found-fits = rw first-found.2 step.fits

  -- The count is that of one copy
  pub found-counted : r.laters ≡ laters (word_of later (take r.length (drop at l)))
  found-counted = rw (first-found.2, ← step.copy) (ap (λ (x : JudgedFactor). x.laters) step.read)

  -- The test of one copy completes the judgement
  pub found-judged :
      Some (record {
        length = r.length;
        times = r.times;
        laters = r.laters;
        christoffel = christoffel (word_of later (take r.length (drop at l)));
      })
      ≡ judged (factors_of (word_of later (drop at l)))
  found-judged = rw (first-found.2, first-found.1, ← step.copy)
      (ap (λ (b : Bool). Some (record {
        length = length first-found.0.word;
        times = first-found.0.times;
        laters = laters first-found.0.word;
        christoffel = b;
      })) (sym (ap (λ (x : JudgedFactor). x.christoffel) step.read)))
