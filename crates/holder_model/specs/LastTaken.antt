-- The outline last taken at a party's place (contract 8.3 and 13.7), defined from the calls and restores, their replies and the drafts.
use Rattle.std.specs.Prelude.{ℕ, cond, ◌&&◌, List, [], ◌∷◌, ◌++◌, eqb}
use Rattle.std.proofs.Math.Option.{Option, none, some}
use Rattle.chart.specs.Outline.{Outline}
use Rattle.images.specs.Image.{held_in}
use Rattle.holder_model.specs.Book.{Book, Entry, Entered, Restored, party_of, drafted, fresh, entered}
use Rattle.calls.specs.Replies.{reply_fields}
use Rattle.calls.specs.declared.Action.{Action}
use Rattle.calls.specs.declared.Action.TheVariants.{Begin, Add, Drop, Clear, Close, Ask}

-- What an action puts at place k if it is not refused: a clear puts none, a close puts the draft d, and no other action puts anything
unfoldable pub left : ℕ → Option Outline → Action → List (Option Outline)
left k d (Clear j) = cond (eqb k j) (none ∷ []) []
left k d (Close j) = cond (eqb k j) (d ∷ []) []
left k d (Begin s) = []
left k d (Add a) = []
left k d Drop = []
left k d (Ask j q) = []

-- A restore puts the outline whose image the bytes are, or none if that has no letters
unfoldable pub put_back : Outline → List ℕ → Option Outline
put_back o [] = none
put_back o (a ∷ l) = some o

unfoldable pub left_by : ℕ → Option Outline → Entry → List (Option Outline)
left_by k d (Entered c) = left k d c.action
left_by k d (Restored p j bytes) = cond (eqb k j) (put_back (held_in bytes) (held_in bytes).letters ∷ []) []

-- What a call or a restore puts at place k of party p. It must be that party's, and its number 0
unfoldable pub mark : ℕ → ℕ → Book → Entry → List (Option Outline)
mark p k b x = cond (eqb p (party_of x) && eqb (reply_fields (entered b x).reply).number 0) (left_by k (drafted b p) x) []

-- What a list of them puts there, in their order
unfoldable pub marks : ℕ → ℕ → Book → List Entry → List (Option Outline)
marks p k b [] = []
marks p k b (x ∷ xs) = mark p k b x ++ marks p k (entered b x).next xs

unfoldable pub last_or : Option Outline → List (Option Outline) → Option Outline
last_or was [] = was
last_or was (m ∷ ms) = last_or m ms

-- The last of these, or none
unfoldable pub last_taken : ℕ → ℕ → List Entry → Option Outline
last_taken p k xs = last_or none (marks p k fresh xs)
