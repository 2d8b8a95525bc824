-- The buffer is all zeros and has room for the edges of every outline, so the edges are always written.
use Rattle.judge.proofs.JudgedLaws.{judged-of}
use Rattle.judge.proofs.judgement.Goals as goal

pub returns : goal.returns
returns c = judged-of _ c.judge-verdict.ensures.value c.judge-verdict.ensures.buffer_after
