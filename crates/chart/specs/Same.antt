-- Equality of two replies as a test, for tables that the checker computes.
use Rattle.std.specs.Prelude.{Bool, ◌&&◌, eqb}
use Rattle.chart.specs.declared.Fields.{Fields}

unfoldable pub same_fields : Fields → Fields → Bool
same_fields f g =
    eqb f.number g.number &&
    (eqb f.word g.word &&
    (eqb f.place g.place &&
    (eqb f.piece g.piece && (eqb f.length g.length && (eqb f.col g.col && eqb f.row g.row)))))
