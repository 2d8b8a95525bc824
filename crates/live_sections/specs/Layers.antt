-- The layers of a pile in one list of bytes, slot by slot, whatever it holds.
use Rattle.std.specs.Prelude.{ℕ, List}
use Rattle.spans.specs.declared.Spans.{Spans}
use Rattle.sections.specs.Sections.{layers}
use Rattle.windows.specs.Windows.{slots_from}
use Rattle.span_list.specs.SpanList.{spans_at}

-- How many bytes the layers have, slot_bytes each
abbrev pub layer_bytes : ℕ
layer_bytes = 8160

unfoldable pub layers_of : List ℕ → List Spans
layers_of rows = slots_from (spans_at rows) 0 layers
