-- By the verdict: each return is a case of the definition.
use native.Mathlib.Omega.{arith}
use Rattle.judge.proofs.JudgedLaws.{judged-of}
use Rattle.holder_memory.specs.Layout.{arrays}
use Rattle.holder_answers.proofs.Cases.{outline-refused, outline-taken}
use Rattle.holder_memory.proofs.Free.{tag_below}
use Rattle.holder_closes.proofs.prepare_outline.Goals as goal

-- The party is 0 or 1, and the tag is below five
pub overflow_add-slot : goal.overflow_add-slot
overflow_add-slot c = omega (arith, c.free_tag-tag.ensures, tag_below c.args.heads.now c.args.p, c.requires.0)

pub fill-requires : goal.fill-requires
fill-requires c = omega (arith, c.free_tag-tag.ensures, tag_below c.args.heads.now c.args.p, c.requires.0)

pub returns-in-Err : goal.returns-in-Err
returns-in-Err c = λ own.
    rw c.refused.ensures
    (outline-refused (arrays own c.args.rows.now c.args.numbers.now c.args.heads.now) _ _ _ _
    (judged-of _ c.judge-verdict.ensures.value c.judge-verdict.ensures.buffer_after) _ c.in-Err.is)

pub returns-in-Ok : goal.returns-in-Ok
returns-in-Ok c = λ own.
    outline-taken (arrays own c.args.rows.now c.args.numbers.now c.args.heads.now) _ _ _ _
    (judged-of _ c.judge-verdict.ensures.value c.judge-verdict.ensures.buffer_after) _ _ c.in-Ok.is _
    c.slot_of-own.ensures _ (c.has-same.ensures c.args.rows.now) _ c.taken_reply-reply.ensures _ c.free_tag-tag.ensures _
    c.word_of-word.ensures _ (c.fill.ensures own)
