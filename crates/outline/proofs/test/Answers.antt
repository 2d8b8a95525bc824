-- The judgement has written the edges and returned the verdict; what is left to check is the room.
use Rattle.outline.proofs.TestLaws.{tested, tested-fields, tested-cell}
use Rattle.outline.proofs.test.Goals as goal

pub returns : goal.returns
returns c =
    let said = c.judge-verdict.ensures.value in
    let asked = c.with_room.ensures in
    record {
      verdict = tested _ _ said asked;
      reply = tested-fields _ _ said asked;
      edges = c.judge-verdict.ensures.buffer_after;
      cell = tested-cell _ _ said asked;
    }
