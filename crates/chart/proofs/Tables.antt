-- The test of two replies passes only if they are equal, since it compares every field.
use Prim.Native.Nat.{ℕ}
use mathlib.Core.Path.{◌≡◌}
use mathlib.Core.Bool.{Bool, true, ◌&&◌, and-eq-true_iff}
use lib.Dec.{eqb}
use borrow.Author.Tests.{eqb-true}
use Rattle.chart.specs.declared.Fields.{Fields}
use Rattle.chart.specs.Same.{same_fields}

equal-and : {t : Bool} (a b : ℕ) → (eqb a b && t) ≡ true → (a ≡ b) × (t ≡ true)
equal-and {t} a b e = let both = (and-eq-true_iff (eqb a b) t).0 e in (eqb-true a b both.0, both.1)

pub same-fields : (f g : Fields) → same_fields f g ≡ true → f ≡ g
unfolding same_fields
same-fields f g e =
    let h1 = equal-and f.number g.number e in
    let h2 = equal-and f.word g.word h1.1 in
    let h3 = equal-and f.place g.place h2.1 in
    let h4 = equal-and f.piece g.piece h3.1 in
    let h5 = equal-and f.length g.length h4.1 in
    let h6 = equal-and f.col g.col h5.1 in
    let h7 = eqb-true f.row g.row h6.1 in
    λ i. record { number = h1.0 i; word = h2.0 i; place = h3.0 i; piece = h4.0 i; length = h5.0 i; col = h6.0 i; row = h7 i }
