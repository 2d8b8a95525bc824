-- Each call is answered in turn, until bytes are not a call or none are left.
use Rattle.std.proofs.Common.{◌≡◌, ◌<◌, ◌≤◌, ◌/◌, length, refl, sym, ◌∙◌, arith, rules}
use lib.ListN.{length-take}
use Rattle.std.proofs.lemmas.Slice.{overwrites}
use Rattle.wire.specs.Wire.{call_width}
use Rattle.holder_answers.specs.Run.{fresh_holder}
use Rattle.replay.proofs.ReplayLaws.{call_at, underway-first, underway-responded, stops-at-none, stops-at-end}
use Rattle.replay.proofs.ReplayLaws.{underway-count, underway-list}
use Rattle.replay.proofs.replay.Goals as goal

pub loop-done-init : goal.loop-done-init
unfolding fresh_holder
loop-done-init c = underway-first _ _ _ _ (rw c.as_chunks.ensures.front_len at c.min-end.ensures) refl

pub returns-then-not-made : goal.returns-then-not-made
returns-then-not-made c =
    let loop = c.loop-done in
    let cs = c.as_chunks.result.0.now in
    let few : c.min-end.result ≤ length c.args.script.now / call_width = omega (arith, c.min-end.ensures, c.as_chunks.ensures.front_len) in
    let more : loop.done < c.min-end.result = omega (arith, c.loop-done-test.true, length-take c.min-end.result cs) in
    let said = rw (call_at _ loop.done c.as_chunks.ensures.front few more) at c.respond-made.ensures.call in
    let none = stops-at-none _ _ _ _ _ _ loop.invariant more _ _ _ _ said (rw c.if-not-made.true) in
    record {
      count = underway-count _ _ _ _ _ _ loop.invariant none;
      replies = underway-list _ _ _ _ _ _ loop.invariant none;
    }

pub loop-done-preserved : goal.loop-done-preserved
loop-done-preserved c =
    let loop = c.loop-done in
    let cs = c.as_chunks.result.0.now in
    let few : c.min-end.result ≤ length c.args.script.now / call_width = omega (arith, c.min-end.ensures, c.as_chunks.ensures.front_len) in
    let more : loop.done < c.min-end.result = omega (arith, c.loop-done-test.true, length-take c.min-end.result cs) in
    let said = rw (call_at _ loop.done c.as_chunks.ensures.front few more) at c.respond-made.ensures.call in
    underway-responded _ _ _ _ _ _ loop.invariant more _ _ _ _ said (rw c.if-not-made.false) _ (search (rules, overwrites))

pub returns : goal.returns
returns c =
    let loop = c.loop-done in
    let cs = c.as_chunks.result.0.now in
    let few : c.min-end.result ≤ length cs = omega (arith, c.min-end.ensures) in
    let all : c.min-end.result ≤ loop.done = omega (arith, c.loop-done-test.false, length-take c.min-end.result cs, few) in
    let none = stops-at-end _ _ _ _ _ _ loop.invariant all in
    let whole : loop.done ≡ c.min-end.result = omega (arith, all, loop.invariant.begun) in
    record {
      count = sym whole ∙ underway-count _ _ _ _ _ _ loop.invariant none;
      replies = underway-list _ _ _ _ _ _ loop.invariant none;
    }
