-- Replies in seven fields: number, word and the rest, for every answer of a test, a loose query and a comparison (contract 4 and 5).
use Rattle.std.specs.Prelude.{ℕ, cond, List, [], ◌∷◌, ◌++◌, length, drop, get_or, leb, Result, Ok, Err}
use Rattle.chart.specs.Refusals as refusals
use Rattle.chart.specs.declared.Point.{Point}
use Rattle.chart.specs.declared.Fields.{Fields}
use Rattle.chart.specs.declared.Refusal.{Refusal}
use Rattle.chart.specs.declared.Refusal.TheVariants.{Length, Start, Letter, OffChart, NotClosed, Touches, BackStep, Dent, EdgeList}
use Rattle.chart.specs.declared.Refusal.TheVariants.{Cell, NothingAtWork, NoDraft, DraftOpen, DraftFull, Directions, NoOutline}
use Rattle.chart.specs.declared.Refusal.TheVariants.{LetterBuffer, Party, Place, Section, Layer, Image, Damaged, Frame}
use Rattle.chart.specs.declared.SectionKind.{SectionKind}
use Rattle.chart.specs.declared.SectionKind.TheVariants.{Column, Row}
use Rattle.chart.specs.declared.Taken.{Taken}
use Rattle.chart.specs.declared.Position.{Position}
use Rattle.chart.specs.declared.Position.TheVariants.{Inside, Outside}
use Rattle.chart.specs.declared.Nesting.{Nesting}
use Rattle.chart.specs.declared.Nesting.TheVariants.{Equal, FirstWithin, SecondWithin, Apart, Crossing}
use Rattle.chart.specs.declared.RefusedList.{RefusedList}

-- The words of a reply (contract 4.3): of a test, a query and a comparison, and of a holder's and a pile's calls
abbrev pub no_word : ℕ
no_word = 0

abbrev pub inside : ℕ
inside = 1

abbrev pub outside : ℕ
outside = 2

abbrev pub taken : ℕ
taken = 3

abbrev pub same : ℕ
same = 4

abbrev pub none_word : ℕ
none_word = 5

abbrev pub columns : ℕ
columns = 6

abbrev pub undecided : ℕ
undecided = 7

abbrev pub move : ℕ
move = 8

abbrev pub line : ℕ
line = 9

abbrev pub close : ℕ
close = 10

abbrev pub equal : ℕ
equal = 11

abbrev pub first_within : ℕ
first_within = 12

abbrev pub second_within : ℕ
second_within = 13

abbrev pub no_common : ℕ
no_common = 14

abbrev pub crossing : ℕ
crossing = 15

abbrev pub more : ℕ
more = 16

-- A reply with a number only; with a number and a place; with a number, a piece and a place
abbrev pub numbered : ℕ → Fields
numbered n = record { number = n; word = no_word; place = 0; piece = 0; length = 0; col = 0; row = 0 }

abbrev pub placed : ℕ → ℕ → Fields
placed n p = record { number = n; word = no_word; place = p; piece = 0; length = 0; col = 0; row = 0 }

abbrev pub pieced : ℕ → ℕ → ℕ → Fields
pieced n k p = record { number = n; word = no_word; place = p; piece = k; length = 0; col = 0; row = 0 }

-- A reply with a word only; a taken outline with a word, the count of edges and the anchor
abbrev pub worded : ℕ → Fields
worded v = record { number = 0; word = v; place = 0; piece = 0; length = 0; col = 0; row = 0 }

abbrev pub accepted : ℕ → ℕ → Point → Fields
accepted v edges a = record { number = 0; word = v; place = edges; piece = 0; length = 0; col = a.col; row = a.row }

-- The kind of a dented section: 0 is a column, and 1 a row (contract 5.2)
abbrev pub kind_number : SectionKind → ℕ
kind_number Column = 0
kind_number Row = 1

-- The table of the refusals: the number and the fields of each (contract 5.2)
abbrev pub refusal_fields : Refusal → Fields
refusal_fields Length = numbered refusals.list_length
refusal_fields Start = numbered refusals.start
refusal_fields (Letter p) = placed refusals.letter p
refusal_fields (OffChart p) = placed refusals.off_chart p
refusal_fields NotClosed = numbered refusals.not_closed
refusal_fields (Touches p) = placed refusals.touches p
refusal_fields (BackStep k p) = pieced refusals.back_step k p
refusal_fields (Dent k p l x) =
    record { number = refusals.dent; word = no_word; place = p; piece = k; length = l; col = x.col; row = x.row }
refusal_fields (EdgeList e) = placed refusals.edge_list e
refusal_fields Cell = numbered refusals.cell
refusal_fields NothingAtWork = numbered refusals.nothing_at_work
refusal_fields NoDraft = numbered refusals.no_draft
refusal_fields DraftOpen = numbered refusals.draft_open
refusal_fields DraftFull = numbered refusals.draft_full
refusal_fields Directions = numbered refusals.directions
refusal_fields NoOutline = numbered refusals.no_outline
refusal_fields LetterBuffer = numbered refusals.letter_buffer
refusal_fields Party = numbered refusals.party
refusal_fields Place = numbered refusals.place
refusal_fields (Section k p) = pieced refusals.section (kind_number k) p
refusal_fields Layer = numbered refusals.layer
refusal_fields Image = numbered refusals.image
refusal_fields Damaged = numbered refusals.damaged
refusal_fields Frame = numbered refusals.frame

abbrev pub verdict_fields : Result Taken Refusal → Fields
verdict_fields (Ok t) = accepted no_word t.edges t.anchor
verdict_fields (Err f) = refusal_fields f

abbrev pub position_fields : Result Position Refusal → Fields
position_fields (Ok Inside) = worded inside
position_fields (Ok Outside) = worded outside
position_fields (Err f) = refusal_fields f

-- A word, and which list a comparison returns: 1, 2, or 0 for neither (contract 6.4)
abbrev pub handing : ℕ → ℕ → Fields
handing v whose = record { number = 0; word = v; place = 0; piece = whose; length = 0; col = 0; row = 0 }

abbrev pub nesting_fields : Nesting → Fields
nesting_fields Equal = handing equal 1
nesting_fields FirstWithin = handing first_within 1
nesting_fields SecondWithin = handing second_within 2
nesting_fields Apart = handing no_common 0
nesting_fields Crossing = handing crossing 0

abbrev pub comparison_fields : Result Nesting RefusedList → Fields
comparison_fields (Ok v) = nesting_fields v
comparison_fields (Err r) = placed (refusal_fields r.refusal).number r.list

-- How many numbers a reply has, and the reply as these numbers
abbrev pub reply_width : ℕ
reply_width = 7

unfoldable pub numbers_of : Fields → List ℕ
numbers_of f = f.number ∷ f.word ∷ f.place ∷ f.piece ∷ f.length ∷ f.col ∷ f.row ∷ []

-- The reply in the first seven numbers of a list
unfoldable pub fields_of : List ℕ → Fields
fields_of l =
    record {
      number = get_or l 0 0;
      word = get_or l 1 0;
      place = get_or l 2 0;
      piece = get_or l 3 0;
      length = get_or l 4 0;
      col = get_or l 5 0;
      row = get_or l 6 0;
    }

-- A buffer after a reply is written to it: the seven numbers, then the old content. A buffer with room for fewer than seven is unchanged
unfoldable pub reply_after : Fields → List ℕ → List ℕ
reply_after f buffer = cond (leb reply_width (length buffer)) (numbers_of f ++ drop reply_width buffer) buffer
