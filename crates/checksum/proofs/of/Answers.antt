-- Each byte takes the state on, and after the last one the state is the register.
use Prim.Native.Nat.{ℕ, ◌+◌}
use native.Mathlib.Omega.{arith}
use mathlib.Core.Path.{refl, sym, ap, ◌∙◌}
use lib.ListN.{drop}
use Rattle.checksum.specs.Checksum.{register, message}
use Rattle.checksum.proofs.Loop.{one_byte, all-bytes}
use Rattle.checksum.proofs.of.Goals as goal

pub loop-byte-init : goal.loop-byte-init
loop-byte-init c = refl

pub loop-byte-preserved : goal.loop-byte-preserved
loop-byte-preserved c =
    let bytes = c.args.bytes.now in
    let i = c.loop-byte.byte-index in
    c.loop-byte.invariant ∙ one_byte c.loop-byte.state i bytes (omega arith)
    ∙ ap (λ (s : ℕ). register s (message (drop (i + 1) bytes))) (sym c.next-state.ensures)

pub returns : goal.returns
returns c = all-bytes c.loop-byte.state c.loop-byte.byte-index c.args.bytes.now (omega arith) c.loop-byte.invariant
