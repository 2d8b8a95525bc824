-- Below 65,536 the shift keeps the one in its word, so what is stored is the definition's; above it nothing is read or stored.
use Rattle.std.proofs.Common.{arith}
use Rattle.flags.proofs.FlagLaws.{above-not-set, with-above, is-set-below, with_shift}
use Rattle.flags.proofs.Flags.mark.Goals as goal

pub returns-then-n-gt-LAST_NUMBER : goal.returns-then-n-gt-LAST_NUMBER
returns-then-n-gt-LAST_NUMBER c =
    record { before = above-not-set _ c.args.n (omega arith); after = with-above _ c.args.n (omega arith) }

pub returns : goal.returns
returns c = record { before = is-set-below _ c.args.n (omega arith); after = with_shift _ c.args.n (omega arith) }
