-- If the sides of one kind along a row are counted once, from column m on, the side that
-- the code keeps is at m, since a second one would be counted.
-- If none is counted, none is kept.
use Prim.Native.Nat.{ℕ, ◌+◌, ◌≤◌}
use native.Mathlib.Omega.{arith}
use mathlib.Core.Path.{◌≡◌, refl, sym, ap, ◌∙◌}
use mathlib.Core.Bool.{Bool, true, false, cond, ◌&&◌}
use mathlib.Core.List.{List, [], ◌∷◌}
use lib.Dec.{leb}
use borrow.Author.Tests.{le-leb, leb-true}
use Rattle.chart.specs.declared.Point.{Point}
use Rattle.lattice.specs.Chart.{step}
use Rattle.lattice.specs.Enclosed.{one_if}
use Rattle.lattice.proofs.Jumps.{tally}

count_held : (m c : ℕ) → m ≤ c → one_if (leb m c) ≡ 1
unfolding one_if
count_held m c h = rw (le-leb m c h)

count-le : (b : Bool) → one_if b ≤ 1
unfolding one_if
count-le true = omega arith
count-le false = omega arith

held-count : (m c : ℕ) → 1 ≤ one_if (leb m c) → m ≤ c
unfolding one_if
held-count m c h = go (leb m c) refl h
  where
    go : (b : Bool) → leb m c ≡ b → 1 ≤ one_if b → m ≤ c
    go true e k = leb-true m c e
    go false e k = absurd (omega arith)

count-rise : (x : Bool) (a c d : ℕ) → c ≤ d → one_if (x && leb a c) ≤ one_if (x && leb a d)
unfolding one_if
count-rise false a c d h = omega arith
count-rise true a c d h = go (leb a c) refl
  where
    go : (y : Bool) → leb a c ≡ y → one_if y ≤ one_if (leb a d)
    go true e = omega (arith, count_held a d (omega (arith, leb-true a c e)))
    go false e = omega arith

module _ (along : Point → ℕ → ℕ → Bool) (r : ℕ) where
  -- The sides along row r in corner columns 0 to c
  abbrev sides : ℕ → Point → List ℕ → ℕ
  sides c = tally (λ q a. along q a r && leb q.col c)

  sides-rise : (c d : ℕ) → c ≤ d → (w : List ℕ) (p : Point) → sides c p w ≤ sides d p w
  unfolding tally
  sides-rise c d h [] p = omega arith
  sides-rise c d h (a ∷ w) p = omega (arith, sides-rise c d h w (step p a), count-rise (along p a r) p.col c d h)

  module _ (column : Point → List ℕ → ℕ → ℕ → ℕ) (none : (p : Point) (d : ℕ) → column p [] r d ≡ d)
      (more : (p : Point) (a : ℕ) (v : List ℕ) (d : ℕ) → column p (a ∷ v) r d ≡ column (step p a) v r (cond (along p a r) p.col d)) where
    pub column-none : (w : List ℕ) (p : Point) (d b : ℕ) → ((c : ℕ) → b ≤ c → sides c p w ≡ 0) → column p w r d ≡ d
    unfolding tally one_if
    column-none [] p d b h = none p d
    column-none (a ∷ w) p d b h = more p a w d ∙ go (along p a r) refl (λ e. column-none w (step p a) e b)
      where
        go : (x : Bool) → along p a r ≡ x → ((e : ℕ) → ((c : ℕ) → b ≤ c → sides c (step p a) w ≡ 0) → column (step p a) w r e ≡ e)
            → column (step p a) w r (cond x p.col d) ≡ d
        go false e rest = rest d (λ c l. omega (arith, h c l))
        go true e rest =
            let top : ℕ = b + p.col in
            absurd (omega (
              arith,
              h top (omega arith),
              ap (λ (x : Bool). one_if (x && leb p.col top)) e,
              count_held p.col top (omega arith),
            ))

    pub column-once : (w : List ℕ) (p : Point) (d m : ℕ) → ((c : ℕ) → sides c p w ≡ one_if (leb m c)) → column p w r d ≡ m
    unfolding tally one_if
    column-once [] p d m h = absurd (omega (arith, h m, count_held m m (omega arith)))
    column-once (a ∷ w) p d m h = more p a w d ∙ go (along p a r) refl (λ e. column-once w (step p a) e m)
      where
        go : (x : Bool) → along p a r ≡ x → ((e : ℕ) → ((c : ℕ) → sides c (step p a) w ≡ one_if (leb m c)) → column (step p a) w r e ≡ m)
            → column (step p a) w r (cond x p.col d) ≡ m
        go false e rest = rest d (λ c. omega (arith, h c, ap (λ (x : Bool). one_if (x && leb p.col c)) e))
        go true e rest =
            let at : (c : ℕ) → one_if (leb p.col c) + sides c (step p a) w ≡ one_if (leb m c) =
            λ c. ap (λ (x : Bool). one_if (x && leb p.col c) + sides c (step p a) w) (sym e) ∙ h c in
            let rest-none : (c : ℕ) → p.col ≤ c
            → sides c (step p a) w ≡ 0 = λ c l. omega (arith, at c, count_held p.col c l, count-le (leb m c)) in
            let le : m ≤ p.col = held-count m p.col (omega (arith, at p.col, count_held p.col p.col (omega arith))) in
            let ge : p.col ≤ m =
            held-count p.col m
            (omega (arith, at m, count_held m m (omega arith), sides-rise m p.col le w (step p a), rest-none p.col (omega arith)))
            in
            column-none w (step p a) p.col p.col rest-none ∙ omega arith
