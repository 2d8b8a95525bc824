-- A call as eleven bytes (contract 10.3).
use Rattle.std.specs.Prelude.{ℕ, zero, suc, ◌+◌, ◌*◌, ◌%◌, cond, List, length, get_or, leb, eqb, Option, Some, None}
use Rattle.chart.specs.declared.Point.{Point}
pub use Rattle.chart.specs.Fields.{reply_width}
use Rattle.calls.specs.Calls.{by}
use Rattle.calls.specs.declared.Action.TheVariants.{Begin, Add, Drop, Clear, Close, Ask}
use Rattle.calls.specs.declared.Question.TheVariants.{Cell as OfCell, Row as OfRow, Reading as OfReading, Piece as OfPiece}
use Rattle.readings.specs.Located.{reading_of}
use Rattle.calls.specs.declared.Call.{Call}

-- How many bytes a call has
abbrev pub call_width : ℕ
call_width = 11

-- A 32-bit number, low byte first; its first two bytes; its first byte
abbrev pub long : ℕ → ℕ → ℕ → ℕ → ℕ
long a b c d = a + 256 * b + 65536 * c + 16777216 * d

abbrev pub short_of : ℕ → ℕ
short_of x = x % 65536

abbrev pub letter_of : ℕ → ℕ
letter_of x = x % 256

abbrev pub point_of : ℕ → ℕ → Point
point_of x y = record { col = short_of x; row = short_of y }

-- A call, or none
abbrev pub Decoded : Type 0
Decoded = Option Call

-- The call with a number, a party, a place and two 32-bit arguments: 0 begin, 1 add, 2 drop, 3 clear, 4 close, 5 query, 6 row, 7 reading,
-- 8 piece. A number above 8 is not a call
unfoldable pub call_of : ℕ → ℕ → ℕ → ℕ → ℕ → Decoded
call_of zero p k x y = Some (by p (Begin (point_of x y)))
call_of (suc zero) p k x y = Some (by p (Add (letter_of x)))
call_of (suc (suc zero)) p k x y = Some (by p Drop)
call_of (suc (suc (suc zero))) p k x y = Some (by p (Clear k))
call_of (suc (suc (suc (suc zero)))) p k x y = Some (by p (Close k))
call_of (suc (suc (suc (suc (suc zero))))) p k x y = Some (by p (Ask k (OfCell (point_of x y))))
call_of (suc (suc (suc (suc (suc (suc zero)))))) p k x y = Some (by p (Ask k (OfRow (short_of x))))
call_of (suc (suc (suc (suc (suc (suc (suc zero))))))) p k x y = Some (by p (Ask k (OfReading (reading_of x y))))
call_of (suc (suc (suc (suc (suc (suc (suc (suc zero)))))))) p k x y = Some (by p (Ask k (OfPiece (short_of x))))
call_of (suc (suc (suc (suc (suc (suc (suc (suc (suc n))))))))) p k x y = None

-- The call of these bytes. None unless there are eleven
unfoldable pub decoded : List ℕ → Decoded
decoded s =
    cond (eqb (length s) call_width)
    (call_of (get_or s 0 0) (get_or s 1 0) (get_or s 2 0) (long (get_or s 3 0) (get_or s 4 0) (get_or s 5 0) (get_or s 6 0))
    (long (get_or s 7 0) (get_or s 8 0) (get_or s 9 0) (get_or s 10 0)))
    None

-- The call that is answered. None if the reply does not fit into so many numbers
unfoldable pub received : List ℕ → ℕ → Decoded
received call room = cond (leb reply_width room) (decoded call) None
