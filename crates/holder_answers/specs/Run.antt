-- Lists of calls on a holder, each made on the holder that the one before it returned (contract 7.2).
use Rattle.std.specs.Prelude.{List, [], ◌∷◌, replicate, pos}
use Rattle.chart.specs.Refusals as refusals
use Rattle.calls.specs.declared.Call.{Call}
use Rattle.calls.specs.Replies.{Reply}
use Rattle.holder_memory.specs.Layout.{letter_bytes, Holder, arrays, row_bytes, edge_numbers, head_numbers}
use Rattle.holder_answers.specs.Arrays.{answer_of}

unfoldable pub fresh_holder : Holder
fresh_holder = arrays (replicate letter_bytes 0) (replicate row_bytes 0) (replicate edge_numbers (pos 0)) (replicate head_numbers 0)

unfoldable pub handled_from : Holder → List Call → List Reply
handled_from h [] = []
handled_from h (c ∷ cs) = (answer_of h c).reply ∷ handled_from (answer_of h c).holder cs

unfoldable pub handled : List Call → List Reply
handled cs = handled_from fresh_holder cs

unfoldable pub holder_after : Holder → List Call → Holder
holder_after h [] = h
holder_after h (c ∷ cs) = holder_after (answer_of h c).holder cs

-- The reply of a call that comes after a list of calls on a fresh holder
unfoldable pub reply_after : List Call → Call → Reply
reply_after cs c = (answer_of (holder_after fresh_holder cs) c).reply
