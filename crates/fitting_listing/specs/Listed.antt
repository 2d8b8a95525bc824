-- What a listing leaves in a buffer: the text of the lines as far as there is room. `room` bytes are enough for any file (contract 11.4).
use Rattle.std.specs.Prelude.{ℕ, ◌≤◌, ◌<◌, min, ◌≡◌, List, length}
use Rattle.text_lines.specs.declared.Line.{Line}
use Rattle.text_lines.specs.Text.{text_of}
use Rattle.text_lines.specs.Written.{over}

-- Eighteen bytes, for three numbers of five digits, in each of 10,923 lines: 10,922 records of six bytes, and a fault
abbrev pub room : ℕ
room = 196614

-- The test's number and place have 16 bits
pub record Small (l : Line) : Type 0 where
  pub answer : l.answer < 65536
  pub place : l.place < 65536

pub record Listed (ls : List Line) (before after : List ℕ) (r : ℕ) : Type 0 where
  pub text : after ≡ over (text_of ls) before
  pub end : r ≡ min (length (text_of ls)) (length before)
  pub short : length (text_of ls) ≤ room
