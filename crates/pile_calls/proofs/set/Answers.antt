-- Each return is a case of the definition: 22, a refusal by the verdict, or the outline becomes the layer.
use Rattle.std.proofs.lemmas.Result.{err_from_is_err_and}
use Rattle.chart.specs.Outline.{outline}
use Rattle.pile_calls.specs.Arrays.{arrays}
use Rattle.pile_calls.proofs.Cases.{set-high, set-refused, set-taken}
use Rattle.pile_calls.proofs.set.Goals as goal

pub returns-in_err-layer : goal.returns-in_err-layer
returns-in_err-layer c =
    let x = set-high (arrays c.args.rows.now c.args.state.now) c.args.layer (outline c.args.start c.args.letters.now)
    c.in_err-layer.ensures.1 in
    let p = err_from_is_err_and c.from_residual.result c.from_residual.ensures.1 in
    rw (p.1, p.2, c.in_err-layer.ensures.0) (record { answer = x.0; cell = x.1 })

pub returns-in_err-taken : goal.returns-in_err-taken
returns-in_err-taken c =
    let x = set-refused (arrays c.args.rows.now c.args.state.now) c.args.layer (outline c.args.start c.args.letters.now)
    c.in_ok-layer.ensures.1 c.verdict_of.ensures _ c.in_err-taken.was in
    let p = err_from_is_err_and c.from_residual-in_err-taken.result c.from_residual-in_err-taken.ensures.1 in
    rw (p.1, p.2) (record { answer = x.0; cell = x.1 })

pub returns : goal.returns
returns c =
    let rows = rw c.in_ok-layer.ensures.0 at c.write_outline.ensures in
    let x = set-taken (arrays c.args.rows.now c.args.state.now) c.args.layer (outline c.args.start c.args.letters.now)
    c.in_ok-layer.ensures.1 c.verdict_of.ensures c.in_ok-taken.taken c.in_ok-taken.was
    c.write_outline.new.rows rows c.unpass.new.state c.unpass.ensures.0 in
    record { answer = x.0; cell = x.1 }
