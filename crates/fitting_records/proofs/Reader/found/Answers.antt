-- Past the end of a file nothing is left.
use mathlib.Core.Path.{sym}
use Rattle.fitting_records.proofs.FoundLaws.{found-end}
use Rattle.fitting_records.proofs.Reader.found.Goals as goal

pub returns-then-self : goal.returns-then-self
returns-then-self c = sym (found-end c.args.self.file.now c.args.self.at c.if-self.true)
