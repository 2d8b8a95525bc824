-- The verdict follows the published rule because a word has only one factorisation, so the computed factors are the factors, and the test
-- for Christoffel words passes exactly those; so the first piece and the first factor that fail it are the ones that 9 names.
use Rattle.std.specs.Prelude.{Err}
use Prim.Native.Nat.{ℕ, ◌+◌, ◌<◌}
use native.Mathlib.Numerals.{add-one}
use native.Mathlib.Omega.{arith}
use mathlib.Core.Path.{◌≡◌, refl, sym, ap, ◌∙◌, subst}
use mathlib.Core.Logic.{◌↔◌, ⊎_elim}
use mathlib.Core.Bool.{Bool, true, false, false≢true}
use mathlib.Core.List.{List, [], ◌∷◌, ◌++◌}
use lib.ListN.{length, length-append}
use lib.Dec.{ltb}
use borrow.Author.Tests.{lt-ltb, le-ltb, ltb-true, ltb-false}
use Rattle.base.proofs.BelowLaws.{first_found, first-before, first-none, first-is, first-none-at, not-held}
use Rattle.words.specs.Word.{Word}
use Rattle.words.specs.Lyndon.{Factor, Falling, Factoring, written}
use Rattle.words.specs.Christoffel.{Christoffel, christoffel}
use Rattle.words.proofs.Factors.{falling-head, falling-tail, factors-exist, factors-unique, factors-of}
use Rattle.words.proofs.Counts.{length-copies}
use Rattle.words.proofs.Christoffel.{christoffel-iff}
use Rattle.chart.specs.declared.Point.{Point}
use Rattle.chart.specs.declared.Refusal.TheVariants.{Dent}
use Rattle.chart.specs.Taken.{taken_with}
use Rattle.chart.specs.Outline.{Outline}
use Rattle.lattice.specs.Hull.{LowestMissing}
use Rattle.convexity.specs.Frame.{frame_of}
use Rattle.convexity.specs.Clockwise.{border, block, place_sent}
use Rattle.convexity.specs.Pieces.{Reaches, word, factors, dent_at, dent_length, dent_piece, edges_of, edges, edge_count, IsAnchor}
use Rattle.convexity.proofs.Smooth.{dent-first}
use Rattle.lattice.proofs.HullLaws.{lowest-unique}
use Rattle.convexity.proofs.AsSent.{named-lowest, west-anchor}
use Rattle.verdict.specs.Verdict.{cell_found, dent_in, verdict_of}
use Rattle.verdict.specs.Dents.{dent_of}
use Rattle.verdict.specs.Rule.{piece_word, piece_cut, SentAs, AllChristoffel, no_factors, more, Smooth, FirstDent, FactorsOf, ByTheRule}
use Rattle.verdict.proofs.BackSteps.{sent-as}
use Rattle.verdict.proofs.VerdictLaws.{dented-or-not, TakenFacts, taken-facts, verdict-dented, verdict-taken}

-- ---- dents in a list of factors

no-christoffel : (w : Word) → ¬ Christoffel w → christoffel w ≡ false
no-christoffel w h = not-held (christoffel w) (λ e. h ((christoffel-iff w).0 e))

not-christoffel : (w : Word) → christoffel w ≡ false → ¬ Christoffel w
not-christoffel w e c = false≢true (sym e ∙ (christoffel-iff w).1 c)

-- A list of Christoffel words has no dent, and a list without a dent has only Christoffel words
dent-none : (fs : List Factor) → AllChristoffel fs → dent_length fs ≡ 0
unfolding dent_length
dent-none [] no_factors = refl
dent-none (f ∷ fs) (more c h) = rw (dent_length, (christoffel-iff f.word).1 c) (dent-none fs h)

all-christoffel : (fs : List Factor) → Falling fs → dent_length fs ≡ 0 → AllChristoffel fs
all-christoffel [] d e = no_factors
all-christoffel (f ∷ fs) d e =
    let r = dent-first f fs (falling-head d) e in more r.0 (all-christoffel fs (falling-tail d) r.1)

-- A list of factors, split at its first dent
record Split (fs : List Factor) : Type 0 where
  before : List Factor
  dent : Factor
  after : List Factor
  whole : fs ≡ before ++ dent ∷ after
  smooth : AllChristoffel before
  dented : ¬ Christoffel dent.word

split : (fs : List Factor) → 0 < dent_length fs → Split fs
unfolding dent_length
split [] h = absurd (omega arith)
split (f ∷ fs) h = go (christoffel f.word) refl (split fs)
  where
    go : (b : Bool) → christoffel f.word ≡ b → (0 < dent_length fs → Split fs) → Split (f ∷ fs)
    go true e rest =
        let r = rest (rw (e, dent_length) at h) in
        record {
          before = f ∷ r.before;
          dent = r.dent;
          after = r.after;
          whole = ap (λ (l : List Factor). f ∷ l) r.whole;
          smooth = more ((christoffel-iff f.word).0 e) r.smooth;
          dented = r.dented;
        }
    go false e rest =
        record { before = []; dent = f; after = fs; whole = refl; smooth = no_factors; dented = not-christoffel f.word e }

module _ (f : Factor) (fs : List Factor) (d : ¬ Christoffel f.word) where
  dent-length : (before : List Factor) → AllChristoffel before → dent_length (before ++ f ∷ fs) ≡ length f.word
  unfolding dent_length
  dent-length [] no_factors = rw (dent_length, no-christoffel f.word d)
  dent-length (g ∷ before) (more c h) = rw (dent_length, (christoffel-iff g.word).1 c) (dent-length before h)

  dent-at : (before : List Factor) → AllChristoffel before → dent_at (before ++ f ∷ fs) ≡ length (written before)
  unfolding dent_at written
  dent-at [] no_factors = rw (dent_at, no-christoffel f.word d)
  dent-at (g ∷ before) (more c h) =
      rw (dent_at, (christoffel-iff g.word).1 c, length-append, length-copies, dent-at before h)

-- ---- the pieces of a border

-- Piece k of a border has a dent
abbrev dented_at : Outline → ℕ → Bool
dented_at o k = ltb 0 (dent_length (factors o k))

module _ (o : Outline) where
  abbrev t : Outline
  t = border o

  -- The computed factors are the factors
  factors-are : (k : ℕ) (fs : List Factor) → Factoring (piece_word o k) fs → factors t k ≡ fs
  unfolding factors
  factors-are k fs f = factors-of (word t k) fs f

  factors-factor : (k : ℕ) → Factoring (piece_word o k) (factors t k)
  unfolding factors
  factors-factor k = factors-exist (word t k)

  smooth-undented : (k : ℕ) → Smooth o k → dented_at t k ≡ false
  smooth-undented k h =
      le-ltb 0 (dent_length (factors t k))
      (omega (arith, ap dent_length (factors-are k h.factors h.factoring), dent-none h.factors h.christoffel))

  undented-smooth : (k : ℕ) → dented_at t k ≡ false → Smooth o k
  undented-smooth k e =
      record {
        factors = factors t k;
        factoring = factors-factor k;
        christoffel =
            all-christoffel (factors t k) (factors-factor k).falling (omega (arith, ltb-false 0 (dent_length (factors t k)) e));
      }

  -- ---- taken

  smooth-none : ((k : ℕ) → k < 4 → Smooth o k) → dent_piece t ≡ 4
  unfolding dent_piece
  smooth-none h = first-none (dented_at t) 4 (λ k l. smooth-undented k (h k l))

  none-smooth : dent_piece t ≡ 4 → (k : ℕ) → k < 4 → Smooth o k
  unfolding dent_piece
  none-smooth e k l = undented-smooth k (first-none-at (dented_at t) 4 e k l)

  module _ (r : Reaches o) where
    -- An outline that meets none of 1 to 8 is taken exactly if every factor of every piece is a Christoffel word
    pub taken-iff-christoffel : ((n : ℕ) × (a : Point) × (verdict_of o ≡ taken_with n a)) ↔ ((k : ℕ) → k < 4 → Smooth o k)
    taken-iff-christoffel = (
      λ v. none-smooth (taken-facts o v.0 v.1 v.2).undented,
      λ h. (edge_count t, t.start, verdict-taken o r (smooth-none h)),
    )

    -- ---- refused by 9

    -- The fields of 9 for a dent in piece k
    dent-named : (k : ℕ) → dent_piece t ≡ k
        → dent_of o ≡ Dent (k + 1) (place_sent o (piece_cut o k + 1 + dent_at (factors t k))) (dent_length (factors t k)) (cell_found (border o))
    unfolding dent_of dent_in
    dent-named k e = rw (e, add-one k)

    cell-lowest : dent_piece t < 4 → LowestMissing (block o) (cell_found (border o))
    unfolding cell_found
    cell-lowest d = named-lowest o r d

    nine-of-first-dent : (p i l : ℕ) (x : Point) → FirstDent o p i l x → verdict_of o ≡ Err (Dent p i l x)
    unfolding dent_piece
    nine-of-first-dent p i l x h =
        let k : ℕ = h.k in
        let e : factors t k ≡ h.before ++ h.dent ∷ h.after = factors-are k _ h.factoring in
        let size : dent_length (factors t k) ≡ length h.dent.word =
        ap dent_length e ∙ dent-length h.dent h.after h.dented h.before h.smooth in
        let at : dent_at (factors t k) ≡ length (written h.before) =
        ap dent_at e ∙ dent-at h.dent h.after h.dented h.before h.smooth in
        let some : 0 < length h.dent.word = dent-some h.before h.factoring.falling in
        let first : dent_piece t ≡ k =
        first-is (dented_at t) 4 k h.below (λ j l. smooth-undented j (h.earlier j l)) (lt-ltb 0 (dent_length (factors t k)) (omega arith))
        in
        let d : dent_piece t < 4 = omega (arith, h.below) in
        let piece : k + 1 ≡ p = sym h.piece in
        let place : place_sent o (piece_cut o k + 1 + dent_at (factors t k)) ≡ i =
        ap (λ (n : ℕ). place_sent o (piece_cut o k + 1 + n)) at ∙ sym h.place in
        let copy : dent_length (factors t k) ≡ l = size ∙ sym h.copy in
        let cell : cell_found (border o) ≡ x = lowest-unique (cell-lowest d) h.cell in
        verdict-dented o (record { reaches = r; dented = d })
        ∙ ap Err (dent-named k first ∙ λ j. Dent (piece j) (place j) (copy j) (cell j))
      where
        dent-some : (before : List Factor) → Falling (before ++ h.dent ∷ h.after) → 0 < length h.dent.word
        dent-some [] d = (falling-head d).lyndon.above_zero
        dent-some (g ∷ before) d = dent-some before (falling-tail d)

    first-dent-of-nine : (p i l : ℕ) (x : Point) → verdict_of o ≡ Err (Dent p i l x) → FirstDent o p i l x
    unfolding dent_piece
    first-dent-of-nine p i l x e = ⊎_elim dented undented (dented-or-not t)
      where
        undented : dent_piece t ≡ 4 → FirstDent o p i l x
        undented u = let v = verdict-taken o r u in let z : ◌≡◌ {A = ℕ} 0 1 = cc in absurd (omega arith)

        dented : dent_piece t < 4 → FirstDent o p i l x
        dented d =
            let k : ℕ = dent_piece t in
            let f : Split (factors t k) =
            split (factors t k) (ltb-true 0 (dent_length (factors t k)) (first_found (dented_at t) 4 d)) in
            let said = sym (ap Err (dent-named k refl)) ∙ sym (verdict-dented o (record { reaches = r; dented = d })) ∙ e in
            let place : place_sent o (piece_cut o k + 1 + dent_at (factors t k)) ≡ i = cc in
            let copy : dent_length (factors t k) ≡ l = cc in
            let cell : cell_found (border o) ≡ x = cc in
            let at : place_sent o (piece_cut o k + 1 + length (written f.before)) ≡ i =
            ap (λ (n : ℕ). place_sent o (piece_cut o k + 1 + n)) (sym (ap dent_at f.whole
            ∙ dent-at f.dent f.after f.dented f.before f.smooth))
            ∙ place in
            record {
              k = k;
              below = d;
              earlier = λ j h. undented-smooth j (first-before (dented_at t) 4 j h);
              before = f.before;
              dent = f.dent;
              after = f.after;
              factoring = subst (λ (fs : List Factor). Factoring (piece_word o k) fs) f.whole (factors-factor k);
              smooth = f.smooth;
              dented = f.dented;
              piece = cc;
              place = sym at;
              sent = subst (λ (n : ℕ). SentAs o (piece_cut o k + 1 + length (written f.before)) n) at (sent-as o r.simple _);
              copy = sym copy ∙ ap dent_length f.whole ∙ dent-length f.dent f.after f.dented f.before f.smooth;
              cell = subst (λ (y : Point). LowestMissing (block o) y) cell (cell-lowest d);
            }

    -- An outline that meets none of 1 to 8 is refused by 9 with these fields exactly if they
    -- are those of its first factor that is not a Christoffel word
    pub nine-iff-first-dent : (p i l : ℕ) (x : Point) → (verdict_of o ≡ Err (Dent p i l x)) ↔ FirstDent o p i l x
    nine-iff-first-dent p i l x = (first-dent-of-nine p i l x, nine-of-first-dent p i l x)

  -- ---- the fields and the edges of a taken outline

  pub taken-count : (n : ℕ) (a : Point) → verdict_of o ≡ taken_with n a → (fs : ℕ → List Factor) → FactorsOf o fs
      → n ≡ length (fs 0) + (length (fs 1) + (length (fs 2) + length (fs 3)))
  unfolding edge_count
  taken-count n a e fs h =
      (taken-facts o n a e).count ∙
      rw (
        factors-are 0 (fs 0) (h 0 (omega arith)),
        factors-are 1 (fs 1) (h 1 (omega arith)),
        factors-are 2 (fs 2) (h 2 (omega arith)),
        factors-are 3 (fs 3) (h 3 (omega arith)),
      )

  pub taken-anchor : (n : ℕ) (a : Point) → verdict_of o ≡ taken_with n a → IsAnchor (block o) a
  taken-anchor n a e =
      let f : TakenFacts o n a = taken-facts o n a e in
      subst (λ (b : Point). IsAnchor (block o) b) (sym f.anchor) (west-anchor o f.reaches)

  pub edges-of-factors : (fs : ℕ → List Factor) → FactorsOf o fs
      → edges (border o) ≡
      edges_of (frame_of 0) (fs 0) ++ (edges_of (frame_of 1) (fs 1) ++ (edges_of (frame_of 2) (fs 2) ++ edges_of (frame_of 3) (fs 3)))
  unfolding edges
  edges-of-factors fs h =
      rw (
        factors-are 0 (fs 0) (h 0 (omega arith)),
        factors-are 1 (fs 1) (h 1 (omega arith)),
        factors-are 2 (fs 2) (h 2 (omega arith)),
        factors-are 3 (fs 3) (h 3 (omega arith)),
      )

  -- ---- the whole rule

  pub by-the-rule : Reaches o → ByTheRule o
  by-the-rule r =
      record {
        factored = λ k. (factors t k, factors-factor k);
        one_way = λ k. factors-unique (piece_word o k);
        taken = taken-iff-christoffel r;
        nine = nine-iff-first-dent r;
        edges_counted = taken-count;
        anchor = taken-anchor;
        edges = edges-of-factors;
      }
