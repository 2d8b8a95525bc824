-- The reply's fields are written. A reading's numbers are floats by their type.
use borrow.Author.Rules.{rules}
use Rattle.holder_written.proofs.Written.{done-by, reading-told}
use Rattle.holder_written.proofs.reading.Goals as goal

pub returns : goal.returns
returns c =
    record {
      call = λ l r. done-by _ _ _ _ (c.reading.ensures l r) _ c.put_word.ensures;
      meaning = λ l r.
          reading-told _ _ _ _ _ (record { angle = search rules; load = search rules }) _
          (done-by _ _ _ _ (c.reading.ensures l r) _ c.put_word.ensures);
    }
