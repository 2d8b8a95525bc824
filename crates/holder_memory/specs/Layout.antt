-- Where everything stands in the four arrays of a holder: drafts, the words of the places, and ten slots (contract 10.4).
use Rattle.std.specs.Prelude.{ℕ, ◌+◌, ◌*◌, ◌≡◌, List, length, get_or, set, ℤ, ltb}
use Rattle.std.proofs.Math.Seq.{paste}
use Rattle.chart.specs.Limits.{most_numbers}
use Rattle.chart.specs.Outline.{at}
use Rattle.chart.specs.declared.Point.{Point}
use Rattle.calls.specs.Calls.{places}
use Rattle.windows.specs.Windows.{window}
use Rattle.span_list.specs.SpanList.{spans_at}
use Rattle.holder_records.specs.Work.{Work}

-- ---- the arrays

-- The letters of the drafts; the rows and the edges of the slots; the heads
pub record Holder : Type 0 where
  pub letters : List ℕ
  pub rows : List ℕ
  pub numbers : List ℤ
  pub heads : List ℕ

abbrev pub arrays : List ℕ → List ℕ → List ℤ → List ℕ → Holder
arrays l r n h = record { letters = l; rows = r; numbers = n; heads = h }

-- The slots of a party, one more than its places; and of both
abbrev pub own : ℕ
own = 5

abbrev pub slots : ℕ
slots = 10

-- ---- the lengths

abbrev pub letter_bytes : ℕ
letter_bytes = 1224

abbrev pub row_bytes : ℕ
row_bytes = 5100

abbrev pub edge_numbers : ℕ
edge_numbers = 2000

abbrev pub head_numbers : ℕ
head_numbers = 46

pub record Fits (h : Holder) : Type 0 where
  pub letters : length h.letters ≡ letter_bytes
  pub rows : length h.rows ≡ row_bytes
  pub numbers : length h.numbers ≡ edge_numbers
  pub heads : length h.heads ≡ head_numbers

-- ---- the heads

-- Four numbers for each draft: a flag, a column, a row and a count. Those of party p begin here
abbrev pub draft_numbers : ℕ
draft_numbers = 4

abbrev pub draft_head : ℕ → ℕ
draft_head p = draft_numbers * p

-- Then a word for each place
abbrev pub place_words : ℕ
place_words = 8

-- Place k of party p, among the eight of both parties
abbrev pub spot : ℕ → ℕ → ℕ
spot p k = places * p + k

abbrev pub place_word : ℕ → ℕ
place_word s = place_words + s

-- Then three numbers for each slot: the anchor's column and row, and the count of edges
abbrev pub slot_heads : ℕ
slot_heads = 16

abbrev pub slot_numbers : ℕ
slot_numbers = 3

-- Slot t of party p, among the ten
abbrev pub slot_own : ℕ → ℕ → ℕ
slot_own p t = own * p + t

abbrev pub slot_head : ℕ → ℕ
slot_head t = slot_heads + slot_numbers * t

-- ---- what is read

-- The work in slot t. Slot 10 is none
unfoldable pub work_at : List ℕ → List ℤ → List ℕ → ℕ → Work
work_at rows numbers heads t =
    record {
      taken = ltb t slots;
      anchor = at (get_or heads (slot_head t) 0) (get_or heads (slot_head t + 1) 0);
      numbers = window (most_numbers * t) most_numbers numbers;
      edges = get_or heads (slot_head t + 2) 0;
      spans = spans_at rows t;
    }

-- ---- what is written

-- The start and a count of 0 in the head at a, and then its flag
abbrev pub start_put : List ℕ → ℕ → Point → List ℕ
start_put heads a s = set (set (set heads (a + 1) s.col) (a + 2) s.row) (a + 3) 0

abbrev pub open_put : List ℕ → ℕ → Point → List ℕ
open_put heads a s = set (start_put heads a s) a 1

-- The rows, the edges and the head of slot t
abbrev pub numbers_put : List ℤ → ℕ → List ℤ → List ℤ
numbers_put numbers t es = paste numbers (most_numbers * t) es most_numbers

abbrev pub slot_head_put : List ℕ → ℕ → Point → ℕ → List ℕ
slot_head_put heads t a n = set (set (set heads (slot_head t) a.col) (slot_head t + 1) a.row) (slot_head t + 2) n
