-- One party's events in a session, and the same without what they gave back (contract 8.6 and 13.7).
use Rattle.std.specs.Prelude.{ℕ, Bool, true, false, cond, List, [], ◌∷◌, eqb}
use Rattle.wire.specs.Wire.{Decoded}
use Rattle.std.specs.Prelude.{Some, None}
use Rattle.wire.specs.Wire.{decoded}
use Rattle.holder_session.specs.Session.{Event, Fresh, Called, Drew, Sent, Drafted, Began, RestoreBegan, Ended, Cut}

-- The event is party p's. A fresh is every party's; bytes that are not a call are nobody's
unfoldable pub is_of : ℕ → Decoded → Bool
is_of p None = false
is_of p (Some c) = eqb p c.party

unfoldable pub is_own : ℕ → Event → Bool
is_own p Fresh = true
is_own p (Called c reply) = eqb p c.party
is_own p (Drew q k i point point' reply) = eqb p q
is_own p (Sent bytes reply reply' r) = is_of p (decoded bytes)
is_own p (Drafted q reply) = eqb p q
is_own p (Began q k reply) = eqb p q
is_own p (RestoreBegan q k bytes reply) = eqb p q
is_own p (Ended q k) = eqb p q
is_own p (Cut q k) = eqb p q

unfoldable pub own_of : ℕ → List Event → List Event
own_of p [] = []
own_of p (x ∷ es) = cond (is_own p x) (x ∷ own_of p es) (own_of p es)

-- What was asked, without what came back: replies, points and what was returned
unfoldable pub request : Event → Event
request Fresh = Fresh
request (Called c reply) = Called c []
request (Drew p k i point point' reply) = Drew p k i point [] []
request (Sent bytes reply reply' r) = Sent bytes reply [] false
request (Drafted p reply) = Drafted p []
request (Began p k reply) = Began p k []
request (RestoreBegan p k bytes reply) = RestoreBegan p k bytes []
request (Ended p k) = Ended p k
request (Cut p k) = Cut p k
