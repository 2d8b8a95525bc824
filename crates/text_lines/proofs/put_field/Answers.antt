-- The field is a number and the byte after it.
use Rattle.text_lines.specs.Text.{field_text}
use Rattle.text_lines.proofs.WrittenLaws.{wrote-behind}
use Rattle.text_lines.proofs.put_field.Goals as goal

pub returns : goal.returns
unfolding field_text
returns c = wrote-behind c.put_number-end.ensures c.put.ensures
