-- The calls of one party in a list of calls, and the replies to them; its calls and restores (contract 8.6 and 13.7).
use Rattle.std.specs.Prelude.{ℕ, cond, List, [], ◌∷◌, eqb}
use Rattle.calls.specs.declared.Call.{Call}
use Rattle.calls.specs.declared.Action.{Action}
use Rattle.calls.specs.Replies.{Reply}
use Rattle.holder_model.specs.Book.{PartyModel, Entry, party_of, acts}

-- The calls of party p, in their order
unfoldable pub calls_of : ℕ → List Call → List Call
calls_of p [] = []
calls_of p (c ∷ cs) = cond (eqb p c.party) (c ∷ calls_of p cs) (calls_of p cs)

-- Its calls and restores
unfoldable pub entries_of : ℕ → List Entry → List Entry
entries_of p [] = []
entries_of p (x ∷ xs) = cond (eqb p (party_of x)) (x ∷ entries_of p xs) (entries_of p xs)

-- Among the replies to a list of calls, those to party p
unfoldable pub replies_to : ℕ → List Call → List Reply → List Reply
replies_to p [] rs = []
replies_to p (c ∷ cs) [] = []
replies_to p (c ∷ cs) (r ∷ rs) = cond (eqb p c.party) (r ∷ replies_to p cs rs) (replies_to p cs rs)

-- The replies to a list of one party's actions, each made on the state that the one before it left
unfoldable pub acts_from : PartyModel → List Action → List Reply
acts_from g [] = []
acts_from g (a ∷ rest) = (acts g a).reply ∷ acts_from (acts g a).page rest
