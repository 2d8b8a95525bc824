-- The rule of the table.
use Prim.Native.Nat.{ℕ, ◌/◌}
use mathlib.Core.Path.{ap, ◌∙◌}
use lib.Bits.{bit_xor}
use Rattle.checksum.proofs.Nibbles.{nibble}
use Rattle.checksum.proofs.four_zeros.Goals as goal

pub returns : goal.returns
returns c = ap (λ (x : ℕ). bit_xor x (c.args.state / 16)) c.entry.ensures ∙ nibble c.args.state
