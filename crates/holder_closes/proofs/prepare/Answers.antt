-- Each return is a case of the definition.
use Rattle.holder_memory.specs.Layout.{arrays}
use Rattle.holder_answers.proofs.Cases.{prepare-no-party, prepare-no-place, prepare-none, prepare-draft, draft-sent}
use Rattle.holder_closes.proofs.prepare.Goals as goal

pub returns-then-p-ge-PARTIES : goal.returns-then-p-ge-PARTIES
returns-then-p-ge-PARTIES c = rw c.refused.ensures (prepare-no-party _ _ _ (rw c.from-p.ensures at c.if-p-ge-PARTIES.true))

pub returns-then-k-ge-PLACES : goal.returns-then-k-ge-PLACES
returns-then-k-ge-PLACES c =
    rw (c.refused-then-k-ge-PLACES.ensures, c.from-p.ensures)
    (prepare-no-place _ _ (rw c.from-p.ensures at c.if-p-ge-PARTIES.false) _ (rw c.from-k.ensures at c.if-k-ge-PLACES.true))

pub returns-then-heads-at-eq0 : goal.returns-then-heads-at-eq0
returns-then-heads-at-eq0 c =
    rw c.refused-then-heads-at-eq0.ensures
    (prepare-none _ _ (rw c.from-p.ensures at c.if-p-ge-PARTIES.false) _ (rw c.from-k.ensures at c.if-k-ge-PLACES.false)
    (rw c.from-p.ensures at c.if-heads-at-eq0.true))

pub returns : goal.returns
returns c =
    let h = arrays c.args.letters.now c.args.rows.now c.args.numbers.now c.args.heads.now in
    rw c.from-p.ensures
    (prepare-draft h c.args.party (rw c.from-p.ensures at c.if-p-ge-PARTIES.false) c.args.place
    (rw c.from-k.ensures at c.if-k-ge-PLACES.false) (rw c.from-p.ensures at c.if-heads-at-eq0.false) _
    (draft-sent h c.args.party _ _ (rw c.from-p.ensures at c.from-count.ensures) (rw c.from-p.ensures at c.sent-outline.ensures)) _ _ _
    (rw (c.from-p.ensures, c.from-k.ensures) at c.prepare_outline-prepared.ensures c.args.letters.now))
