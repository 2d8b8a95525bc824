-- Adding rise modulo run + rise makes the remainder grow exactly if it was below run.
use Prim.Native.Nat.{ℕ, zero, suc, ◌+◌, ◌-◌, ◌*◌, ◌%◌, ◌≤◌, ◌<◌}
use native.Mathlib.Nat.{mod-eq_of_lt, add-mod_right, mod-lt, mod-add-mod}
use native.Mathlib.Omega.{arith}
use mathlib.Core.Path.{◌≡◌, refl, sym, ap, ◌∙◌}
use mathlib.Core.Bool.{Bool, true, false, not}
use mathlib.Core.List.{[], ◌∷◌, ◌++◌}
use borrow.Author.Tests.{lt-ltb, le-ltb}
use Rattle.words.specs.Word.{Word}
use Rattle.words.specs.Counted.{listed, counted_letter}

module _ (rem run rise : ℕ) where
  pub next-below : rem < run → rem + rise ≡ (rem + rise) % (run + rise)
  next-below h = sym (mod-eq_of_lt (omega arith))

  pub next-above : rem < run + rise → run ≤ rem → rem - run ≡ (rem + rise) % (run + rise)
  next-above h l =
      let e : rem + rise ≡ rem - run + (run + rise) = omega arith in
      sym (ap (λ (m : ℕ). m % (run + rise)) e ∙ add-mod_right (rem - run) (run + rise) ∙ mod-eq_of_lt (omega arith))

-- The next multiple of rise
pub multiple-next : (i rise n : ℕ) → (i * rise % n + rise) % n ≡ suc i * rise % n
multiple-next i rise n = mod-add-mod (i * rise) n rise ∙ ap (λ (m : ℕ). m % n) (let e : i * rise + rise ≡ suc i * rise = omega arith in e)

-- Letter i, from the remainder before it
module _ (i run rise : ℕ) (rises : 0 < rise) where
  abbrev here : ℕ
  here = i * rise % (run + rise)

  pub letter-below : here < run → counted_letter rise (run + rise) i ≡ false
  unfolding counted_letter
  letter-below h =
      let e = next-below here run rise h ∙ multiple-next i rise (run + rise) in
      ap not (lt-ltb here (suc i * rise % (run + rise)) (omega arith))

  pub letter-above : run ≤ here → counted_letter rise (run + rise) i ≡ true
  unfolding counted_letter
  letter-above h =
      let small : here < run + rise = mod-lt (i * rise) (omega arith) in
      let e = next-above here run rise small h ∙ multiple-next i rise (run + rise) in
      ap not (le-ltb here (suc i * rise % (run + rise)) (omega arith))

-- A listed word with one more letter
pub listed_next : (f : ℕ → Bool) (n : ℕ) → listed f (suc n) ≡ listed f n ++ (f n ∷ [])
unfolding listed
listed_next f zero = refl
listed_next f (suc n) = ap (λ (w : Word). f zero ∷ w) (listed_next (λ i. f (suc i)) n)

pub ruleset nexts = (next-below, next-above)
