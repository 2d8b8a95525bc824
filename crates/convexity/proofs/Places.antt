-- Letter i of the border is i places after W's in the clockwise form, modulo the count;
-- if that is read backward, places count from the other end.
use Prim.Native.Nat.{ℕ, ◌+◌, ◌-◌, ◌≤◌, ◌<◌, ◌%◌}
use native.Mathlib.Nat.{mod-eq_of_lt, add-mod_left, add-mod-mod}
use native.Mathlib.Omega.{arith}
use mathlib.Core.Path.{◌≡◌, refl, sym, ap, ◌∙◌}
use mathlib.Core.Logic.{◌⊎◌, inl, inr}
use mathlib.Core.Bool.{Bool, true, false, true≢false}
use Rattle.chart.specs.Outline.{Outline}
use Rattle.lattice.specs.Chart.{corner_at, size, letter_at}
use Rattle.lattice.specs.Refusals.{Simple}
use Rattle.lattice.specs.Walked.{Walked}
use Rattle.lattice.proofs.WalkLaws.{walked, Turned, turned}
use Rattle.convexity.specs.Cut.{from_w, west_place, clockwise, around}
use Rattle.convexity.specs.Clockwise.{opposite, clockwise_form, read_from, sent_from, place_sent, ReadAs}
use Rattle.convexity.proofs.Clockwise.{letter-backward, corner-backward, west-first, form-clockwise, form-backward, simple-form}
use Rattle.convexity.proofs.Clockwise.{length-form}

-- After the end, a place continues from the start
around-place : (n k i j : ℕ) → j < n → (k + i ≡ j) ⊎ (k + i ≡ n + j) → around n k i ≡ j
unfolding around
around-place n k i j l (inl e) = rw e (mod-eq_of_lt l)
around-place n k i j l (inr e) = rw e (add-mod_left n j ∙ mod-eq_of_lt l)

-- One more round leads to the same place
pub place-round : (o : Outline) (i : ℕ) → place_sent o (i % size o) ≡ place_sent o i
unfolding place_sent sent_from around
place-round o i = ap (read_from (clockwise (from_w o)) (size o)) (add-mod-mod (west_place (clockwise_form o)) i (size o))

module _ (o : Outline) (h : Simple o) where
  abbrev v : Outline
  v = clockwise_form o

  d : Walked v
  d = walked v (simple-form o h)

  west-le : west_place v ≤ size v
  west-le = omega (arith, (west-first v d).below)

  -- Letter i of the border is letter j of the clockwise form
  InReading : ℕ → ℕ → Type 0
  InReading i j = Turned v (west_place v) west-le i j

  by_way : (i j : ℕ) → j < size o → InReading i j → (b : Bool) → clockwise (from_w o) ≡ b → ReadAs o i (read_from b (size o) j)
  unfolding from_w read_from InReading
  by_way i j m f true e =
      record {
        below = m;
        forward =
            λ _. (
              f.letter ∙ ap (λ (u : Outline). letter_at u j) (form-clockwise o e),
              f.corner ∙ ap (λ (u : Outline). corner_at u j) (form-clockwise o e),
            );
        back = λ g. absurd (true≢false (sym e ∙ g));
      }
  by_way i j m f false e =
      record {
        below = omega arith;
        forward = λ g. absurd (true≢false (sym g ∙ e));
        back = λ _. (
          f.letter ∙ ap (λ (u : Outline). letter_at u j) (form-backward o e) ∙ letter-backward o.letters j m
              ∙ ap (λ (k : ℕ). opposite (letter_at o k)) (omega arith),
          f.corner ∙ ap (λ (u : Outline). corner_at u j) (form-backward o e) ∙ corner-backward o (walked o h) j (omega arith)
              ∙ ap (corner_at o) (omega arith),
        );
      }

  place_at : (i j : ℕ) → InReading i j → ReadAs o i (place_sent o i)
  unfolding place_sent sent_from InReading
  place_at i j f =
      let m : j < size o = omega (arith, f.below, length-form o) in
      let e : around (size o) (west_place v) i ≡ j = around-place (size o) (west_place v) i j m (rw (length-form o) at f.place) in
      rw e (by_way i j m f (clockwise (from_w o)) refl)

  pub place_read : (i : ℕ) → i < size o → ReadAs o i (place_sent o i)
  unfolding InReading
  place_read i l = let (j, f) = turned v (west_place v) west-le d.closed i (omega (arith, length-form o)) in place_at i j f
