-- The register after all bytes is the state after those that are left.
use mathlib.Core.Path.{◌≡◌}
use lib.ListN.{drop}
use Rattle.checksum.specs.Checksum.{ones, register, message}
use Rattle.checksum.proofs.of.Given as goal

abbrev pub invariant-loop-byte : goal.invariant-loop-byte
invariant-loop-byte l = register ones (message l.bytes) ≡ register l.state (message (drop l.byte-index l.bytes))
