-- Eight zero bits follow the byte.
use Prim.Native.Nat.{ℕ}
use mathlib.Core.Path.{ap, ◌∙◌}
use mathlib.Core.List.{[], ◌∷◌}
use borrow.Author.Rules.{rules}
use Rattle.checksum.specs.Checksum.{register}
use Rattle.checksum.proofs.Nibbles.{byte}
use Rattle.checksum.proofs.next.Goals as goal

pub returns : goal.returns
returns c =
    let both = c.four_zeros-2.ensures ∙ ap (λ (s : ℕ). register s (0 ∷ 0 ∷ 0 ∷ 0 ∷ [])) c.four_zeros.ensures in
    rw c.from.ensures at both ∙ byte c.args.state c.args.byte (search rules)
