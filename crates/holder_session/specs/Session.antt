-- Exported calls on one memory, in any mixture, each with exactly the promise of its function (contract 7, 10.4 and 13).
use Rattle.std.specs.Prelude.{ℕ, ◌≡◌, Bool, true, false, List, [], ◌∷◌, Float}
use Rattle.chart.specs.Fields.{numbers_of}
use Rattle.calls.specs.Calls.{by}
use Rattle.calls.specs.Replies.{piece_in}
use Rattle.calls.specs.declared.Call.{Call}
use Rattle.calls.specs.declared.Action.{Action}
use Rattle.calls.specs.declared.Action.TheVariants.{Begin, Add, Drop, Clear, Close, Ask}
use Rattle.calls.specs.declared.Question.TheVariants.{Piece as OfPiece}
use Rattle.drawing.specs.Points.{point_after}
use Rattle.wire.specs.Wire.{Decoded}
use Rattle.std.specs.Prelude.{Some, None}
use Rattle.wire.specs.Wire.{decoded}
use Rattle.holder_memory.specs.Layout.{Holder}
use Rattle.holder_answers.specs.Arrays.{with_heads, answer_of, commit_of, draft_of}
use Rattle.holder_answers.specs.Run.{fresh_holder}
use Rattle.holder_written.specs.Written.{Done, Prepared, draft_fields}
use Rattle.holder_image_calls.specs.Written.{ImagePrepared}
use Rattle.holder_bytes.specs.Responded.{Responded}

-- What was called, with what it was given and what it gave back. A reply is seven numbers
pub data Event : Type 0 where
  -- rq_fresh
  Fresh : Event
  -- A call by its arguments, and its reply
  Called : Call → List ℕ → Event
  -- rq_piece: party, place and position; the point before and after; the reply
  Drew : ℕ → ℕ → ℕ → List Float → List Float → List ℕ → Event
  -- rq_call: the bytes; the reply before and after; what was returned
  Sent : List ℕ → List ℕ → List ℕ → Bool → Event
  -- rq_draft: the party and the reply
  Drafted : ℕ → List ℕ → Event
  -- rq_prepare, the first half of a close: party, place and reply
  Began : ℕ → ℕ → List ℕ → Event
  -- rq_prepare_image, the first half of a restore: party, place, bytes and reply
  RestoreBegan : ℕ → ℕ → List ℕ → List ℕ → Event
  -- rq_commit, the second half of either: party and place
  Ended : ℕ → ℕ → Event
  -- No call: the second half never comes, because the machine was reset. Party and place of the first half
  Cut : ℕ → ℕ → Event

abbrev pub piece_call : ℕ → ℕ → ℕ → Call
piece_call p k i = by p (Ask k (OfPiece i))

-- From arrays h to arrays n by one exported call. `Done` of a close is both halves in one, as a call of bytes makes them
pub data Made : Holder → Event → Holder → Type 0 where
  fresh : {h n : Holder} → n ≡ fresh_holder → Made h Fresh n
  called : {h n : Holder} {c : Call} {reply : List ℕ} → Done h n c reply → Made h (Called c reply) n
  drew : {h n : Holder} {p k i : ℕ} {point point' : List Float} {reply : List ℕ} → Done h n (piece_call p k i) reply
      → point' ≡ point_after (piece_in (answer_of h (piece_call p k i)).reply) point → Made h (Drew p k i point point' reply) n
  sent : {h n : Holder} {bytes reply reply' : List ℕ} {r : Bool} → Responded h n (decoded bytes) reply reply' r
      → Made h (Sent bytes reply reply' r) n
  drafted : {h : Holder} {p : ℕ} {reply : List ℕ} → reply ≡ numbers_of (draft_fields (draft_of h p)) → Made h (Drafted p reply) h

-- ---- the two halves of a close, and of a restore

-- Between them an interrupt may ask: about an outline at work, by arguments or by bytes, or about a draft. Bytes that are not a call
-- change nothing
unfoldable pub is_question : Action → Bool
is_question (Ask k q) = true
is_question (Begin s) = false
is_question (Add a) = false
is_question Drop = false
is_question (Clear k) = false
is_question (Close k) = false

unfoldable pub asks_only : Decoded → Bool
asks_only None = true
asks_only (Some c) = is_question c.action

unfoldable pub asking : Event → Bool
asking (Called c reply) = is_question c.action
asking (Drew p k i point point' reply) = true
asking (Sent bytes reply reply' r) = asks_only (decoded bytes)
asking (Drafted p reply) = true
asking Fresh = false
asking (Began p k reply) = false
asking (RestoreBegan p k bytes reply) = false
asking (Ended p k) = false
asking (Cut p k) = false

-- Neither is under way, or a first half was made: its party, its place, and the word that it returned
pub data Stage : Type 0 where
  Idle : Stage
  Closing : ℕ → ℕ → ℕ → Stage

unfoldable pub allowed : Stage → Event → Bool
allowed Idle e = true
allowed (Closing p k w) e = asking e

-- ---- a session

-- From arrays h to arrays n, each call made on the arrays that the one before it left. The second half gets the word of the first
pub data Session : Stage → Holder → List Event → Holder → Type 0 where
  end : {s : Stage} {h : Holder} → Session s h [] h
  one : {s : Stage} {h m n : Holder} {x : Event} {es : List Event} → allowed s x ≡ true → Made h x m → Session s m es n
      → Session s h (x ∷ es) n
  begin : {h m n : Holder} {p k w : ℕ} {reply : List ℕ} {es : List Event} → Prepared h m p k w reply → Session (Closing p k w) m es n
      → Session Idle h (Began p k reply ∷ es) n
  bring : {h m n : Holder} {p k w : ℕ} {bytes reply : List ℕ} {es : List Event} → ImagePrepared h m p k bytes w reply
      → Session (Closing p k w) m es n → Session Idle h (RestoreBegan p k bytes reply ∷ es) n
  commit : {h n : Holder} {p k w : ℕ} {heads : List ℕ} {es : List Event} → heads ≡ commit_of h.heads p k w
      → Session Idle (with_heads h heads) es n → Session (Closing p k w) h (Ended p k ∷ es) n
  reset : {h n : Holder} {p k w : ℕ} {es : List Event} → Session Idle h es n → Session (Closing p k w) h (Cut p k ∷ es) n
