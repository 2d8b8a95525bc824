-- A step reads no more bytes than are left.
use native.Mathlib.Omega.{arith}
use mathlib.Core.Path.{◌≡◌, refl, ap, ◌∙◌}
use lib.ListN.{drop, length-drop}
use Rattle.fitting_records.specs.Found.{width, found_at}
use Rattle.fitting_records.proofs.RecordLaws.{found_within}
use Rattle.fitting_records.proofs.Reader.next.Goals as goal

pub width-requires : goal.width-requires
width-requires c =
    let short = found_within (drop c.args.self.at c.args.self.file.now) in
    rw c.found-found.ensures (omega (arith, short, length-drop c.args.self.at c.args.self.file.now))

pub overflow_add-result : goal.overflow_add-result
overflow_add-result c =
    let short = found_within (drop c.args.self.at c.args.self.file.now) in
    let read : c.width.result ≡ width (found_at c.args.self.file.now c.args.self.at) = c.width.ensures ∙ ap width c.found-found.ensures in
    omega (arith, short, read, length-drop c.args.self.at c.args.self.file.now)

pub returns : goal.returns
returns c = rw (c.width.ensures, c.found-found.ensures) refl
