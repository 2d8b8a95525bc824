-- Whether bytes are a call depends only on their count and on the first byte, by the cases of the definition. A reading's numbers are floats.
use Prim.Native.Nat.{ℕ, zero, suc}
use native.Mathlib.Omega.{arith}
use mathlib.Core.Path.{◌≡◌, refl, ap, subst}
use mathlib.Core.Bool.{Bool, true, false, cond}
use mathlib.Core.List.{List}
use lib.ListN.{length}
use lib.Dec.{eqb}
use Rattle.calls.specs.Calls.{by}
use Rattle.calls.specs.declared.Action.{Action}
use Rattle.calls.specs.declared.Action.TheVariants.{Drop, Ask}
use Rattle.calls.specs.declared.Question.TheVariants.{Reading as OfReading}
use Rattle.calls.specs.declared.Reading.{Reading}
use Rattle.readings.specs.Located.{Held, reading_of}
use Rattle.readings.proofs.Agreement.{patterns-held}
use Rattle.wire.specs.Wire.{Decoded}
use Rattle.std.specs.Prelude.{Some, None}
use Rattle.wire.specs.Wire.{call_width, call_of, decoded}

-- A number other than 0 to 8 is not a call
pub call_of-none : (n p k x y : ℕ) → (n ≡ 0 → ⊥) → (n ≡ 1 → ⊥) → (n ≡ 2 → ⊥) → (n ≡ 3 → ⊥) → (n ≡ 4 → ⊥) → (n ≡ 5 → ⊥) → (n ≡ 6 → ⊥)
    → (n ≡ 7 → ⊥) → (n ≡ 8 → ⊥) → None ≡ call_of n p k x y
unfolding call_of
call_of-none zero p k x y h0 h1 h2 h3 h4 h5 h6 h7 h8 = absurd (h0 refl)
call_of-none (suc zero) p k x y h0 h1 h2 h3 h4 h5 h6 h7 h8 = absurd (h1 refl)
call_of-none (suc (suc zero)) p k x y h0 h1 h2 h3 h4 h5 h6 h7 h8 = absurd (h2 refl)
call_of-none (suc (suc (suc zero))) p k x y h0 h1 h2 h3 h4 h5 h6 h7 h8 = absurd (h3 refl)
call_of-none (suc (suc (suc (suc zero)))) p k x y h0 h1 h2 h3 h4 h5 h6 h7 h8 = absurd (h4 refl)
call_of-none (suc (suc (suc (suc (suc zero))))) p k x y h0 h1 h2 h3 h4 h5 h6 h7 h8 = absurd (h5 refl)
call_of-none (suc (suc (suc (suc (suc (suc zero)))))) p k x y h0 h1 h2 h3 h4 h5 h6 h7 h8 = absurd (h6 refl)
call_of-none (suc (suc (suc (suc (suc (suc (suc zero))))))) p k x y h0 h1 h2 h3 h4 h5 h6 h7 h8 = absurd (h7 refl)
call_of-none (suc (suc (suc (suc (suc (suc (suc (suc zero)))))))) p k x y h0 h1 h2 h3 h4 h5 h6 h7 h8 = absurd (h8 refl)
call_of-none (suc (suc (suc (suc (suc (suc (suc (suc (suc n))))))))) p k x y h0 h1 h2 h3 h4 h5 h6 h7 h8 = refl

-- ---- a reading

-- Two numerals that differ
differ : {A : Type 0} → ◌≡◌ {A = ℕ} 0 1 → A
differ z = absurd (omega (arith, z))

-- The action of a call. Bytes that are not a call have that of a drop
action_in : Decoded → Action
action_in (Some c) = c.action
action_in None = Drop

module _ (p k : ℕ) (r : Reading) where
  call-held : (n q j x y : ℕ) → action_in (call_of n q j x y) ≡ Ask k (OfReading r) → Held r
  unfolding call_of action_in
  call-held zero q j x y e = differ cc
  call-held (suc zero) q j x y e = differ cc
  call-held (suc (suc zero)) q j x y e = differ cc
  call-held (suc (suc (suc zero))) q j x y e = differ cc
  call-held (suc (suc (suc (suc zero)))) q j x y e = differ cc
  call-held (suc (suc (suc (suc (suc zero))))) q j x y e = differ cc
  call-held (suc (suc (suc (suc (suc (suc zero)))))) q j x y e = differ cc
  call-held (suc (suc (suc (suc (suc (suc (suc zero))))))) q j x y e =
      let same : reading_of x y ≡ r = cc in
      subst Held same (patterns-held x y)
  call-held (suc (suc (suc (suc (suc (suc (suc (suc zero)))))))) q j x y e = differ cc
  call-held (suc (suc (suc (suc (suc (suc (suc (suc (suc n))))))))) q j x y e = differ cc

  -- Every reading that bytes have consists of 32-bit floats
  pub decoded-held : (s : List ℕ) → decoded s ≡ Some (by p (Ask k (OfReading r))) → Held r
  unfolding decoded action_in
  decoded-held s = go (eqb (length s) call_width) _ (λ e. call-held _ _ _ _ _ (ap action_in e))
    where
      go : (t : Bool) (d : Decoded) → (d ≡ Some (by p (Ask k (OfReading r))) → Held r)
          → cond t d None ≡ Some (by p (Ask k (OfReading r))) → Held r
      go true d h e = h e
      go false d h e = let z : Drop ≡ Ask k (OfReading r) = ap action_in e in differ cc
