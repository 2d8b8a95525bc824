-- The bytes are read one by one, as the definition reads them.
use mathlib.Core.Path.{◌∙◌}
use borrow.Author.Tests.{eq-eqb, ne_eqb}
use Rattle.wire.specs.Wire.{decoded}
use Rattle.wire.proofs.decode.Goals as goal

pub returns-then-call-ne-BYTES : goal.returns-then-call-ne-BYTES
unfolding decoded
returns-then-call-ne-BYTES c = rw (ne_eqb _ _ c.if-call-ne-BYTES.true)

pub returns : goal.returns
unfolding decoded
returns c =
    rw (eq-eqb _ _ c.if-call-ne-BYTES.false) (c.call_of.ensures ∙ rw (c.long-x.ensures, c.long-y.ensures))
