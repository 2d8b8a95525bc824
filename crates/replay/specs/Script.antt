-- Scripts: calls as bytes one after another, and what a replay writes: the model's replies (contract 10.3).
use Rattle.std.specs.Prelude.{ℕ, zero, suc, ◌*◌, ◌/◌, min, List, [], ◌∷◌, ◌++◌, length, take, drop}
use Rattle.chart.specs.Fields.{numbers_of}
use Rattle.calls.specs.declared.Call.{Call}
use Rattle.calls.specs.Replies.{Reply, reply_fields}
use Rattle.holder_model.specs.Book.{replies}
use Rattle.wire.specs.Wire.{Decoded}
use Rattle.std.specs.Prelude.{Some, None}
use Rattle.wire.specs.Wire.{call_width, reply_width, decoded}

-- A call and the calls after it. If there is no call, none come after
unfoldable pub followed : Decoded → List Call → List Call
followed (Some x) cs = x ∷ cs
followed None cs = []

-- The first n calls of a script, up to the first bytes that are not a call
unfoldable pub calls_from : ℕ → List ℕ → List Call
calls_from zero s = []
calls_from (suc n) s = followed (decoded (take call_width s)) (calls_from n (drop call_width s))

unfoldable pub written : List Reply → List ℕ
written [] = []
written (r ∷ rs) = numbers_of (reply_fields r) ++ written rs

-- The whole calls of a script whose replies fit into a buffer of m numbers
unfoldable pub calls_read : List ℕ → ℕ → List Call
calls_read script m = calls_from (min (length script / call_width) (m / reply_width)) script

-- The buffer after a replay: the model's replies to these calls stand first, and the rest is unchanged
unfoldable pub replies_after : List ℕ → List ℕ → List ℕ
replies_after script buffer =
    written (replies (calls_read script (length buffer))) ++ drop (reply_width * length (calls_read script (length buffer))) buffer
