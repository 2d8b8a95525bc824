-- What the plain book has for the same events: every reply is its reply after the calls and restores before (contract 8.2 and 13.7).
use Rattle.std.specs.Prelude.{ℕ, Bool, true, false, cond, ◌&&◌, List, [], ◌∷◌, ◌++◌, Err}
use Rattle.chart.specs.Fields.{numbers_of}
use Rattle.chart.specs.declared.Refusal.TheVariants.{Party}
use Rattle.calls.specs.Calls.{bad_party, by}
use Rattle.calls.specs.Replies.{reply_fields, piece_in}
use Rattle.calls.specs.declared.Call.{Call}
use Rattle.calls.specs.declared.Action.TheVariants.{Drop, Close}
use Rattle.drawing.specs.Points.{point_after}
use Rattle.images.specs.Image.{is_image, held_in}
use Rattle.holder_model.specs.Book.{Book, Entry, Entered, Restored, fresh, restored, book_after}
use Rattle.book_replies.specs.After.{reply_to}
use Rattle.wire.specs.Wire.{Decoded}
use Rattle.std.specs.Prelude.{Some, None}
use Rattle.wire.specs.Wire.{decoded}
use Rattle.holder_refinement.specs.Told.{told}
use Rattle.holder_answers.specs.Arrays.{Drafting}
use Rattle.holder_written.specs.Written.{draft_fields}
use Rattle.holder_bytes.specs.Responded.{is_call}
use Rattle.holder_session.specs.Session.{Event, Fresh, Called, Drew, Sent, Drafted, Began, RestoreBegan, Ended, Cut}
use Rattle.holder_session.specs.Session.{piece_call}

-- The calls and restores that the book has seen since the last fresh. Between the halves of a close or a restore: its party; what the book
-- will see with the second half; and what it will see in place of that if the second half never comes
pub data State : Type 0 where
  After : List Entry → State
  Between : List Entry → ℕ → List Entry → List Entry → State

unfoldable pub seen : State → List Entry
seen (After xs) = xs
seen (Between xs p done cut) = xs

unfoldable pub more : State → List Entry → State
more (After xs) ys = After (xs ++ ys)
more (Between xs p done cut) ys = Between (xs ++ ys) p done cut

-- ---- what is drafted

unfoldable pub told_by : Book → ℕ → Drafting
told_by b p = cond (bad_party p) (Err Party) (told (b p).draft)

-- The first half of a close has ended its draft, as a drop does
unfoldable pub drafting : State → ℕ → Drafting
drafting (After xs) q = told_by (book_after fresh xs) q
drafting (Between xs p done cut) q = told_by (book_after fresh (xs ++ cut)) q

-- ---- an event in the book

abbrev pub numbers_to : List Entry → Call → List ℕ
numbers_to xs c = numbers_of (reply_fields (reply_to xs c))

unfoldable pub numbers_for : List Entry → Decoded → List ℕ → List ℕ
numbers_for xs None reply = reply
numbers_for xs (Some c) reply = numbers_to xs c

unfoldable pub calls_in : Decoded → List Entry
calls_in None = []
calls_in (Some c) = Entered c ∷ []

-- The reply of a restore
abbrev pub restored_to : List Entry → ℕ → ℕ → List ℕ → List ℕ
restored_to xs p k bytes = numbers_of (reply_fields (restored (book_after fresh xs) p k bytes).reply)

-- The image of an empty place is restored by the first half alone
unfoldable pub bare : List ℕ → Bool
bare [] = true
bare (a ∷ l) = false

unfoldable pub clears : List ℕ → Bool
clears bytes = is_image bytes && bare (held_in bytes).letters

-- The same event with the book's replies
unfoldable pub booked : State → Event → Event
booked s Fresh = Fresh
booked s (Called c reply) = Called c (numbers_to (seen s) c)
booked s (Drew p k i point point' reply) =
    Drew p k i point (point_after (piece_in (reply_to (seen s) (piece_call p k i))) point) (numbers_to (seen s) (piece_call p k i))
booked s (Sent bytes reply reply' r) = Sent bytes reply (numbers_for (seen s) (decoded bytes) reply) (is_call (decoded bytes))
booked s (Drafted p reply) = Drafted p (numbers_of (draft_fields (drafting s p)))
booked s (Began p k reply) = Began p k (numbers_to (seen s) (by p (Close k)))
booked s (RestoreBegan p k bytes reply) = RestoreBegan p k bytes (restored_to (seen s) p k bytes)
booked s (Ended p k) = Ended p k
booked s (Cut p k) = Cut p k

-- A close takes effect with its second half; if that never comes, it has dropped its draft, and nothing else. So does a restore, and if its
-- second half never comes, nothing has happened
unfoldable pub ended : State → State
ended (After xs) = After xs
ended (Between xs p done cut) = After (xs ++ done)

unfoldable pub reset : State → State
reset (After xs) = After xs
reset (Between xs p done cut) = After (xs ++ cut)

unfoldable pub next : State → Event → State
next s Fresh = After []
next s (Called c reply) = more s (Entered c ∷ [])
next s (Drew p k i point point' reply) = more s (Entered (piece_call p k i) ∷ [])
next s (Sent bytes reply reply' r) = more s (calls_in (decoded bytes))
next s (Drafted p reply) = s
next s (Began p k reply) = Between (seen s) p (Entered (by p (Close k)) ∷ []) (Entered (by p Drop) ∷ [])
next s (RestoreBegan p k bytes reply) =
    cond (clears bytes) (Between (seen s ++ (Restored p k bytes ∷ [])) p [] []) (Between (seen s) p (Restored p k bytes ∷ []) [])
next s (Ended p k) = ended s
next s (Cut p k) = reset s

unfoldable pub booked_from : State → List Event → List Event
booked_from s [] = []
booked_from s (x ∷ es) = booked s x ∷ booked_from (next s x) es

unfoldable pub after_all : State → List Event → State
after_all s [] = s
after_all s (x ∷ es) = after_all (next s x) es
