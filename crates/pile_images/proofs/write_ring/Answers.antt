-- The letters are counted, and written if they are few enough.
use Rattle.pile_images.proofs.FindLaws.{ring-counted, ring-written}
use Rattle.pile_images.proofs.write_ring.Goals as goal

pub returns-then-count-le-LONGEST : goal.returns-then-count-le-LONGEST
returns-then-count-le-LONGEST c =
    ring-written c.args.layer.now.first.now c.args.layer.now.past.now c.widened-lo.result c.widened-hi.result c.widened-lo.ensures c.widened-hi.ensures
    c.args.b c.args.t c.lowest-m.result c.count-count.result c.lowest-m.ensures c.count-count.ensures c.if-count-le-LONGEST.true
    c.args.letters.now _ c.requires.2 c.round.ensures

pub returns-else-count-le-LONGEST : goal.returns-else-count-le-LONGEST
returns-else-count-le-LONGEST c =
    ring-counted c.args.layer.now.first.now c.args.layer.now.past.now c.widened-lo.result c.widened-hi.result c.widened-lo.ensures c.widened-hi.ensures
    c.args.b c.args.t c.lowest-m.result c.count-count.result c.lowest-m.ensures c.count-count.ensures c.if-count-le-LONGEST.false
    c.args.letters.now c.requires.2
