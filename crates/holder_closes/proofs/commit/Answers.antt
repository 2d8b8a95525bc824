-- The tests are those of the definition, in its order.
use Rattle.holder_answers.proofs.Cases.{commit-no-party, commit-no-place, commit-none, commit-done}
use Rattle.holder_closes.proofs.commit.Goals as goal

pub returns-then-p-ge-PARTIES : goal.returns-then-p-ge-PARTIES
returns-then-p-ge-PARTIES c = commit-no-party _ _ _ _ (rw c.from-p.ensures at c.if-p-ge-PARTIES.true)

pub returns-then-k-ge-PLACES : goal.returns-then-k-ge-PLACES
returns-then-k-ge-PLACES c =
    commit-no-place _ _ _ _ (rw c.from-p.ensures at c.if-p-ge-PARTIES.false) (rw c.from-k.ensures at c.if-k-ge-PLACES.true)

pub returns-then-word-eq0 : goal.returns-then-word-eq0
returns-then-word-eq0 c =
    commit-none _ _ _ _ (rw c.from-p.ensures at c.if-p-ge-PARTIES.false) (rw c.from-k.ensures at c.if-k-ge-PLACES.false)
    c.if-word-eq0.true

pub returns : goal.returns
returns c =
    rw (c.from-p.ensures, c.from-k.ensures)
    (commit-done _ _ _ _ (rw c.from-p.ensures at c.if-p-ge-PARTIES.false) (rw c.from-k.ensures at c.if-k-ge-PLACES.false)
    c.if-word-eq0.false)
