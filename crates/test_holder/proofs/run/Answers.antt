-- The calls read are whole in the script, their replies have room, and a replay keeps the length of its buffer.
use Rattle.std.proofs.Common.{◌*◌, ◌≤◌, length, sym, arith}
use lib.Seq.{length-take-le}
use Rattle.replay.proofs.ReplayLaws.{calls_read-room, calls_read-bytes}
use Rattle.test_holder.proofs.run.Goals as goal

pub overflow_mul-written : goal.overflow_mul-written
overflow_mul-written g c =
    omega (arith, c.replay-count.ensures.count, calls_read-room c.args.script.now (length c.args.replies.now))

pub slice_bounds-written-end : goal.slice_bounds-written-end
slice_bounds-written-end g c =
    omega (arith, c.replay-count.ensures.count, calls_read-room c.args.script.now (length c.args.replies.now))

pub slice_bounds-written-end-2 : goal.slice_bounds-written-end-2
slice_bounds-written-end-2 g c =
    let room : 7 * c.replay-count.result ≤ length c.replay-count.new.replies =
    omega (arith, c.replay-count.ensures.count, calls_read-room c.args.script.now (length c.args.replies.now)) in
    sym (length-take-le _ _ room)

pub differing-others-requires : goal.differing-others-requires
differing-others-requires g c =
    let room : 7 * c.replay-count.result ≤ length c.replay-count.new.replies =
    omega (arith, c.replay-count.ensures.count, calls_read-room c.args.script.now (length c.args.replies.now)) in
    let bytes = calls_read-bytes c.args.script.now (length c.args.replies.now) in
    let kept = length-take-le (7 * c.replay-count.result) c.replay-count.new.replies room in
    omega (arith, c.replay-count.ensures.count, bytes, kept)
