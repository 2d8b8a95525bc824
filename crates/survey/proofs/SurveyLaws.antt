-- One law for each of the refusals 1 to 6, and one for an outline that passes them: the definition is a list of tests, and the first that
-- holds decides.
use Prim.Native.Nat.{ℕ, ◌+◌, ◌-◌, ◌*◌, ◌/◌, ◌≤◌, ◌<◌}
use native.Mathlib.Omega.{arith}
use mathlib.Core.Path.{◌≡◌, refl, sym, ap, ◌∙◌}
use mathlib.Core.Bool.{Bool, true, false, cond, not}
use lib.Dec.{ltb, eqb}
use borrow.Author.Tests.{lt-ltb, le-ltb, ltb-true}
use Rattle.lattice.specs.Refusals.{bad_count, bad_start, letter_place, leaving_place, Stays, unclosed, touching_place, Simple}
use Rattle.chart.specs.declared.Refusal.{Refusal}
use Rattle.chart.specs.declared.Refusal.TheVariants.{Length, Start, Letter, OffChart, NotClosed, Touches}
use Rattle.chart.specs.Outline.{Outline}
use Rattle.lattice.specs.Chart.{walk, size}
use Rattle.std.specs.Prelude.{Ok, Err, Some, None}
use Rattle.survey_walk.specs.declared.Corners.{Corners}
use Rattle.survey_walk.specs.parts.Numbers.{col_number}
use Rattle.survey_walk.specs.Corners.{corners_of}
use Rattle.survey.specs.Survey.{survey_of}
use Rattle.survey_walk.specs.parts.Walks.{Begun}
use Rattle.survey_walk.proofs.WalkLaws.{away-unclosed}

-- A place below the bound, and one at it
found : {i p n : ℕ} → i ≡ p → i < n → ltb p n ≡ true
found {i} {p} {n} e h = lt-ltb p n (omega arith)

pub none_found : {i p n : ℕ} → i ≡ p → n ≤ i → ltb p n ≡ false
none_found {i} {p} {n} e h = le-ltb p n (omega arith)

-- The same, for a search that gives the place if it is below the bound
pub placed : {i p n : ℕ} → Some i ≡ cond (ltb p n) (Some p) None → (i ≡ p) × (i < n)
placed {i} {p} {n} e = go (ltb p n) refl e
  where
    go : (b : Bool) → ltb p n ≡ b → Some i ≡ cond b (Some p) None → (i ≡ p) × (i < n)
    go true h e = let same : i ≡ p = cc in (same, omega (arith, ltb-true p n h))
    go false h e = cc

pub not-placed : (p n : ℕ) → None ≡ cond (ltb p n) (Some p) None → ltb p n ≡ false
not-placed p n e = go (ltb p n) e
  where
    go : (b : Bool) → None ≡ cond b (Some p) None → b ≡ false
    go true e = cc
    go false e = refl

module _ (o : Outline) where
  pub survey-count : bad_count o.letters ≡ true → Err Length ≡ survey_of o
  unfolding survey_of
  survey-count a = rw a

  module _ (a : bad_count o.letters ≡ false) where
    pub survey-start : bad_start o.start ≡ true → Err Start ≡ survey_of o
    unfolding survey_of
    survey-start b = rw (a, b)

    module _ (b : bad_start o.start ≡ false) where
      pub survey-letter : ltb (letter_place o.letters) (size o) ≡ true → Err (Letter (letter_place o.letters)) ≡ survey_of o
      unfolding survey_of
      survey-letter c = rw (a, b, c)

      pub survey-letter-at : {i : ℕ} → i ≡ letter_place o.letters → i < size o → Err (Letter i) ≡ survey_of o
      survey-letter-at e h = ap (λ (i : ℕ). Err (Letter i)) e ∙ survey-letter (found e h)

      module _ (c : ltb (letter_place o.letters) (size o) ≡ false) where
        pub survey-leaves : ltb (leaving_place o) (size o) ≡ true → Err (OffChart (leaving_place o)) ≡ survey_of o
        unfolding survey_of
        survey-leaves d = rw (a, b, c, d)

        pub survey-leaves-at : {i : ℕ} → i ≡ leaving_place o → i < size o → Err (OffChart i) ≡ survey_of o
        survey-leaves-at e h = ap (λ (i : ℕ). Err (OffChart i)) e ∙ survey-leaves (found e h)

        module _ (d : Stays o) where
          pub survey-unclosed : unclosed o ≡ true → Err NotClosed ≡ survey_of o
          unfolding survey_of
          survey-unclosed e = rw (a, b, c, d, e)

          pub survey-touches : unclosed o ≡ false → ltb (touching_place o) (size o - 1) ≡ true
              → Err (Touches (touching_place o)) ≡ survey_of o
          unfolding survey_of
          survey-touches e f = rw (a, b, c, d, e, f)

          pub survey-touches-at : unclosed o ≡ false → {i : ℕ} → i ≡ touching_place o → i < size o - 1 → Err (Touches i) ≡ survey_of o
          survey-touches-at c e h = ap (λ (i : ℕ). Err (Touches i)) e ∙ survey-touches c (found e h)

  pub survey-passed : Simple o → Ok (corners_of o) ≡ survey_of o
  unfolding survey_of
  survey-passed h = rw (h.counted, h.started, h.lettered, h.stays, h.closed, h.simple)

  -- A test that would stop the outline fails where it passes
  fails : {f : Refusal} {c : Corners} (b : Bool) → survey_of o ≡ Ok c → (b ≡ true → Err f ≡ survey_of o) → b ≡ false
  fails true p k = let e = k refl in let z : ◌≡◌ {A = ℕ} 0 1 = cc in absurd (omega arith)
  fails false p k = refl

  pub survey-simple : {c : Corners} → survey_of o ≡ Ok c → Simple o
  survey-simple p =
      let a = fails (bad_count o.letters) p survey-count in
      let b = fails (bad_start o.start) p (survey-start a) in
      let c = fails (ltb (letter_place o.letters) (size o)) p (survey-letter a b) in
      let d = fails (ltb (leaving_place o) (size o)) p (survey-leaves a b c) in
      let e = fails (unclosed o) p (survey-unclosed a b c d) in
      let f = fails (ltb (touching_place o) (size o - 1)) p (survey-touches a b c d e) in
      record { counted = a; started = b; lettered = c; stays = d; closed = e; simple = f }

  pub survey-corners : {c : Corners} → survey_of o ≡ Ok c → c ≡ corners_of o
  survey-corners {c} p = let e : Ok c ≡ Ok (corners_of o) = sym p ∙ sym (survey-passed (survey-simple p)) in cc

  -- ---- past 1, 2 and 3

  module _ (b : Begun o) where
    pub walk-leaves : {i : ℕ} → i ≡ leaving_place o → i < size o → Err (OffChart i) ≡ survey_of o
    walk-leaves = survey-leaves-at b.counted b.started b.lettered

    -- The number of the corner at which a walk that stays ends tells whether it is closed
    module _ (t : Stays o) {n : ℕ} (e : n ≡ col_number (walk o.start o.letters) (size o)) where
      abbrev away : Bool
      away = not (eqb (n / 1024) (o.start.col * 1024 + o.start.row))

      pub walk-unclosed : away ≡ true → Err NotClosed ≡ survey_of o
      walk-unclosed h = survey-unclosed b.counted b.started b.lettered t (sym (away-unclosed o b t e) ∙ h)

      pub walk-closed : away ≡ false → unclosed o ≡ false
      walk-closed h = sym (away-unclosed o b t e) ∙ h

    module _ (t : Stays o) (closed : unclosed o ≡ false) where
      pub walk-touches : {i : ℕ} → i ≡ touching_place o → i < size o - 1 → Err (Touches i) ≡ survey_of o
      walk-touches = survey-touches-at b.counted b.started b.lettered t closed

      pub walk-passed : touching_place o ≡ size o - 1 → {c : Corners} → c ≡ corners_of o → Ok c ≡ survey_of o
      walk-passed m f =
          ap (λ (c : Corners). Ok c) f
          ∙ survey-passed
          (record {
            counted = b.counted;
            started = b.started;
            lettered = b.lettered;
            stays = t;
            closed = closed;
            simple = le-ltb (touching_place o) (size o - 1) (omega (arith, m));
          })
