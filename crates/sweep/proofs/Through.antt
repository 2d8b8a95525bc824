-- Along a closed walk, a test of rows that fails at one corner cell and holds at another
-- changes from false to true along some edge, since the walk returns.
use mathlib.Core.Path.{◌≡◌, refl, sym, ◌∙◌}
use mathlib.Core.Bool.{Bool, true, false, true≢false}
use mathlib.Core.List.{List, ◌∷◌}
use lib.IntN.{ℤ, ◌+ℤ◌}
use Rattle.convexity.specs.Edges.{Edge}
use Rattle.directions.specs.CornerHull.{Met, start, after}
use Rattle.directions.proofs.Corners.{Ends, Leaves, first, later}

-- An edge along which the test becomes true
pub record Turns (P : ℤ → Bool) (es : List Edge) (x y : ℤ) : Type 0 where
  pub ex : ℤ
  pub ey : ℤ
  pub p : ℤ
  pub q : ℤ
  pub fs : List Edge
  pub leaves : Leaves es x y ex ey p q fs
  pub before : P q ≡ false
  pub after : P (q +ℤ ey) ≡ true

module _ (P : ℤ → Bool) where
  turns-later : {es : List Edge} {dx dy x y : ℤ} → Turns P es (x +ℤ dx) (y +ℤ dy) → Turns P ((dx, dy) ∷ es) x y
  turns-later t =
      record { ex = t.ex; ey = t.ey; p = t.p; q = t.q; fs = t.fs; leaves = later t.leaves; before = t.before; after = t.after }

  -- Along the first edge, or later
  turns_next : {es : List Edge} {dx dy x y : ℤ} → P y ≡ false → (P (y +ℤ dy) ≡ false → Turns P es (x +ℤ dx) (y +ℤ dy))
      → Turns P ((dx, dy) ∷ es) x y
  turns_next {es} {dx} {dy} {x} {y} f more = go (P (y +ℤ dy)) refl
    where
      go : (s : Bool) → P (y +ℤ dy) ≡ s → Turns P ((dx, dy) ∷ es) x y
      go true e = record { ex = dx; ey = dy; p = x; q = y; fs = es; leaves = first; before = f; after = e }
      go false e = turns-later (more e)

  -- From the start to a corner cell where it holds
  turns-to : {es : List Edge} {x y u v : ℤ} → P y ≡ false → Met es x y u v → P v ≡ true → Turns P es x y
  turns-to f start t = absurd (true≢false (sym t ∙ f))
  turns-to f (after m) t = turns_next f (λ e. turns-to e m t)

  -- From the start, or from any corner cell where it fails, to the end
  turns-end : {es : List Edge} {x y s t : ℤ} → P y ≡ false → Ends es x y s t → P t ≡ true → Turns P es x y
  turns-end f Ends.none t = absurd (true≢false (sym t ∙ f))
  turns-end f (Ends.next w) t = turns_next f (λ e. turns-end e w t)

  turns-from : {es : List Edge} {x y u v s t : ℤ} → Met es x y u v → P v ≡ false → Ends es x y s t → P t ≡ true → Turns P es x y
  turns-from start f w t = turns-end f w t
  turns-from (after m) f (Ends.next w) t = turns-later (turns-from m f w t)

  -- The theorem
  pub turns : {es : List Edge} {x y u v s t : ℤ} → Ends es x y x y → Met es x y u v → P v ≡ false → Met es x y s t → P t ≡ true
      → Turns P es x y
  turns {es} {x} {y} w l f h t = go (P y) refl
    where
      go : (b : Bool) → P y ≡ b → Turns P es x y
      go true e = turns-from l f w e
      go false e = turns-to e h t
