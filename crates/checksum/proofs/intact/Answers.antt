-- Fewer than four bytes are no list with its checksum, and the residue tells the others.
use Prim.Native.Nat.{ℕ}
use mathlib.Core.Path.{◌≡◌, sym, ◌∙◌}
use native.Mathlib.Omega.{arith}
use borrow.Author.Tests.{eq-eqb, eqb-true}
use Rattle.checksum.proofs.Residue.{residue, residue-stored, stored-long, stored-passes}
use Rattle.checksum.proofs.intact.Goals as goal

pub returns-then-bytes-lt4 : goal.returns-then-bytes-lt4
returns-then-bytes-lt4 c =
    (λ e. absurd (let z : ◌≡◌ {A = ℕ} 0 1 = cc in omega arith), λ s. absurd (omega (arith, stored-long _ s)))

pub returns : goal.returns
returns c = (
  λ e. residue-stored _ (λ i l. omega (arith, c.type_inv.bytes i)) (omega arith)
      (sym c.of.ensures ∙ eqb-true c.of.result residue e),
  λ s. eq-eqb c.of.result residue (c.of.ensures ∙ stored-passes _ s),
)
