-- The word of a reply is that of the result, so what is known of results holds for replies. A refusal has no word.
use Prim.Native.Nat.{ℕ}
use native.Mathlib.Omega.{arith}
use mathlib.Core.Path.{◌≡◌, refl, sym, ◌∙◌}
use mathlib.Core.Bool.{Bool, true, false, ◌&&◌}
use mathlib.Core.List.{List}
use lib.IntN.{ℤ}
use Rattle.chart.specs.declared.Point.{Point}
use Rattle.chart.specs.declared.Refusal.{Refusal}
use Rattle.chart.specs.Fields.{refusal_fields}
use Rattle.chart.proofs.RefusalLaws.{refusal-number, refusal-wordless}
use Rattle.calls.specs.Replies.{reply_fields}
use Rattle.calls.specs.declared.Reading.{Reading}
use Rattle.std.specs.Prelude.{Result, Ok, Err}
use Rattle.chart.specs.declared.Refusal.TheVariants.{Cell}
use Rattle.readings.specs.declared.Located.{Located}
use Rattle.readings.specs.declared.Located.TheVariants.{Inside, Outside, Undecided}
use Rattle.readings.specs.Located.{Held, bad_reading, exactly_inside, stays_on, located_of}
use Rattle.readings.specs.Replies.{located_reply}
use Rattle.readings.specs.Claims.{Open}
use Rattle.readings.specs.Named.{ReadingNamed}
use Rattle.readings.proofs.Agreement.{refused-iff, inside-exact, outside-exact, undecided-iff, undecided-stays}
use Rattle.readings.proofs.Agreement.{decided-inside, decided-outside}

-- Two numerals that differ
differ : ◌≡◌ {A = ℕ} 0 1 → ⊥
differ z = omega (arith, z)

module _ (a : Point) (es : List ℤ) (x : Reading) (held : Held x) where
  -- A refused reading
  pub refused-named : (f : Refusal) → ReadingNamed a es x (refusal_fields f)
  refused-named f =
      record {
        held = held;
        inside = λ e. absurd (omega (arith, e, refusal-wordless f));
        outside = λ e. absurd (omega (arith, e, refusal-wordless f));
        undecided = (λ e. absurd (omega (arith, e, refusal-wordless f)), λ e. absurd (omega (arith, e.0, refusal-number f)));
        inner = λ e. absurd (omega (arith, e, refusal-wordless f));
        outer = λ e. absurd (omega (arith, e, refusal-wordless f));
      }

  -- Only a refused reading is bad
  good_of : (l : Result Located Refusal) → located_of a es x ≡ l → (l ≡ Err Cell → ⊥) → bad_reading x ≡ false
  good_of l e n = go (bad_reading x) refl
    where
      go : (b : Bool) → bad_reading x ≡ b → b ≡ false
      go true q = absurd (n (sym e ∙ (refused-iff a es x).1 q))
      go false q = refl

  -- A reading that is open is undecided
  open_is : (l : Result Located Refusal) → located_of a es x ≡ l → (l ≡ Err Cell → ⊥) → stays_on a es ≡ true → Open a es x → l ≡ Ok Undecided
  open_is l e n on o = sym e ∙ (undecided-iff a es x held on (good_of l e n)).1 o

  not-inside : located_of a es x ≡ Ok Outside → (stays_on a es && exactly_inside a es x) ≡ false
  not-inside e = go (stays_on a es) refl
    where
      go : (s : Bool) → stays_on a es ≡ s → (s && exactly_inside a es x) ≡ false
      go true on = outside-exact a es x held on e
      go false off = refl

  by_result : (l : Result Located Refusal) → located_of a es x ≡ l → ReadingNamed a es x (reply_fields (located_reply l))
  unfolding located_reply reply_fields
  by_result (Ok Inside) e =
      record {
        held = held;
        inside = λ w. inside-exact a es x held e;
        outside = λ w. absurd (omega (arith, w));
        undecided = (λ w. absurd (omega (arith, w)), λ o. let z : ◌≡◌ {A = Result Located Refusal} (Ok Inside) (Ok Undecided) = open_is (Ok Inside) e (λ r. differ cc) o.1.0 o.1.1 in cc);
        inner = λ w. absurd (omega (arith, w));
        outer = λ w. absurd (omega (arith, w));
      }
  by_result (Ok Outside) e =
      record {
        held = held;
        inside = λ w. absurd (omega (arith, w));
        outside = λ w. not-inside e;
        undecided = (λ w. absurd (omega (arith, w)), λ o. let z : ◌≡◌ {A = Result Located Refusal} (Ok Outside) (Ok Undecided) = open_is (Ok Outside) e (λ r. differ cc) o.1.0 o.1.1 in cc);
        inner = λ w. absurd (omega (arith, w));
        outer = λ w. absurd (omega (arith, w));
      }
  by_result (Ok Undecided) e =
      let good = good_of (Ok Undecided) e (λ r. differ cc) in
      let on = undecided-stays a es x e in
      record {
        held = held;
        inside = λ w. absurd (omega (arith, w));
        outside = λ w. absurd (omega (arith, w));
        undecided = (λ w. (refl, (on, (undecided-iff a es x held on good).0 e)), λ o. refl);
        inner = λ w all. decided-inside a es x held on good all e;
        outer = λ w b m far. decided-outside a es x held on good b m far e;
      }
  by_result (Err why) e = refused-named why

  pub located-named : ReadingNamed a es x (reply_fields (located_reply (located_of a es x)))
  located-named = by_result (located_of a es x) refl
