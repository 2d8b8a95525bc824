-- Each test that fails shows that the bytes are no frame; if all pass they are one.
use native.Mathlib.Omega.{arith}
use Rattle.frames.proofs.Frames.{fits-false, fits_by}
use Rattle.frames.proofs.is_frame.Goals as goal

pub returns-then-m-lt-FRAME : goal.returns-then-m-lt-FRAME
returns-then-m-lt-FRAME c = fits-false _ (λ h. omega (arith, h.long, c.if-m-lt-FRAME.true))

pub returns-then-m : goal.returns-then-m
returns-then-m c = fits-false _ (λ h. omega (arith, h.short, c.if-m.true))

pub returns-then-frame-ne-FIRST : goal.returns-then-frame-ne-FIRST
returns-then-frame-ne-FIRST c = fits-false _ (λ h. c.if-frame-ne-FIRST.true h.first)

pub returns : goal.returns
returns c =
    fits_by _ c.intact.result c.intact.ensures (omega (arith, c.type_inv.frame 2)) (omega arith) (omega arith) (omega arith) (omega arith)
    (omega (arith, c.from-n.ensures, c.from_le_bytes.ensures))
