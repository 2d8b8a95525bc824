-- The line is three fields, one after another.
use Rattle.text_lines.specs.Text.{line_text}
use Rattle.text_lines.proofs.WrittenLaws.{wrote-behind}
use Rattle.text_lines.proofs.put_line.Goals as goal

pub returns : goal.returns
unfolding line_text
returns c = wrote-behind c.put_field-at.ensures (wrote-behind c.put_field-at-2.ensures c.put_field.ensures)
