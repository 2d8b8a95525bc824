-- One reply among many, and one point: after the calls and restores that the plain book has seen since the memory was made fresh
-- (contract 8.2 and 13.7).
use Rattle.std.specs.Prelude.{ℕ, ◌≡◌, Bool, List, [], ◌∷◌, ◌++◌, Float}
use Rattle.chart.specs.Fields.{fields_of}
use Rattle.chart.specs.declared.Fields.{Fields}
use Rattle.calls.specs.Calls.{by}
use Rattle.calls.specs.declared.Call.{Call}
use Rattle.calls.specs.declared.Action.TheVariants.{Close}
use Rattle.std.specs.Prelude.{Some}
use Rattle.wire.specs.Wire.{decoded}
use Rattle.holder_memory.specs.Layout.{Holder}
use Rattle.holder_model.specs.Book.{Entry}
use Rattle.holder_session.specs.Session.{Event, Fresh, Called, Drew, Sent, Began, piece_call, Idle, Session}
use Rattle.holder_session.specs.Booked.{After, seen, after_all}

-- The event makes call c and gets these numbers: by its arguments, as a piece, as bytes, or as a close, whose first half replies
pub data Gets : Event → Call → List ℕ → Type 0 where
  by_arguments : {c : Call} {reply : List ℕ} → Gets (Called c reply) c reply
  by_piece : {p k i : ℕ} {point point' : List Float} {reply : List ℕ} → Gets (Drew p k i point point' reply) (piece_call p k i) reply
  by_bytes : {c : Call} {bytes reply reply' : List ℕ} {r : Bool} → decoded bytes ≡ Some c → Gets (Sent bytes reply reply' r) c reply'
  by_halves : {p k : ℕ} {reply : List ℕ} → Gets (Began p k reply) (by p (Close k)) reply

-- In a session on memory of any content, which is made fresh first, this event comes after the calls and restores cs
pub record Happened (cs : List Entry) (x : Event) : Type 0 where
  pub memory : Holder
  pub left : Holder
  pub earlier : List Event
  pub later : List Event
  pub session : Session Idle memory (Fresh ∷ (earlier ++ (x ∷ later))) left
  pub calls : seen (after_all (After []) earlier) ≡ cs

-- After the calls and restores cs, call c got the reply with the fields g
pub record Replied (cs : List Entry) (c : Call) (g : Fields) : Type 0 where
  pub event : Event
  pub happened : Happened cs event
  pub numbers : List ℕ
  pub got : Gets event c numbers
  pub fields : fields_of numbers ≡ g
