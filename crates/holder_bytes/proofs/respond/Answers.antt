-- Bytes of another length are not a call. Eleven bytes are the call of their first number, and its reply says what the call's does.
use Rattle.holder_bytes.proofs.ByteLaws.{responded-none, responded-as, responded-told, decoded-other, decoded-call}
use Rattle.holder_bytes.proofs.respond.Goals as goal

pub returns-then-bytes-ne-BYTES : goal.returns-then-bytes-ne-BYTES
returns-then-bytes-ne-BYTES c =
    let call = responded-none _ _ (decoded-other _ c.if-bytes-ne-BYTES.true) _ in
    record { call = call; meaning = responded-told _ _ _ _ _ _ call }

pub returns : goal.returns
returns c =
    let call = responded-as _ _ _ _ (decoded-call _ c.if-bytes-ne-BYTES.false _ _ c.long-x.ensures c.long-y.ensures) _ _ _
    c.act.ensures in
    record { call = call; meaning = responded-told _ _ _ _ _ _ call }
