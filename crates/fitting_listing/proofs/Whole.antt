-- A buffer with room for the listing of any file has the whole text at its front, and the length of the text is returned.
use Prim.Native.Nat.{ℕ, ◌≤◌}
use native.Mathlib.Omega.{arith}
use mathlib.Core.Path.{◌≡◌}
use mathlib.Core.List.{List}
use lib.ListN.{length, take}
use lib.Seq.{take-append_seam}
use Rattle.text_lines.specs.declared.Line.{Line}
use Rattle.text_lines.specs.Text.{text_of}
use Rattle.text_lines.proofs.WrittenLaws.{over-room}
use Rattle.fitting_listing.specs.Listed.{room, Listed}

pub whole-text : {ls : List Line} {before after : List ℕ} {r : ℕ} → Listed ls before after r → room ≤ length before
    → (r ≡ length (text_of ls)) × (take r after ≡ text_of ls)
whole-text {ls} {before} {after} {r} p h =
    let end = p.end in
    let short = p.short in
    let all : r ≡ length (text_of ls) = omega arith in
    (all, rw (all, p.text, over-room (text_of ls) before (omega arith)) (take-append_seam (text_of ls) _))
