-- A reply is an answer or a refusal. The fields of each: the number, the word and the rest (contract 4, 5 and 12).
use Rattle.std.specs.Prelude.{Result, Ok, Err}
use Rattle.chart.specs.declared.Fields.{Fields}
use Rattle.chart.specs.declared.Refusal.{Refusal}
use Rattle.chart.specs.declared.Taken.{Taken}
use Rattle.chart.specs.Fields.{worded, accepted, refusal_fields, no_word, inside, outside}
use Rattle.pile_replies.specs.declared.PileAnswer.{PileAnswer}
use Rattle.pile_replies.specs.declared.PileAnswer.TheVariants.{Done, Inside, Outside, Taken as WasTaken}

abbrev pub PileReply : Type 0
PileReply = Result PileAnswer Refusal

unfoldable pub pile_fields : PileReply → Fields
pile_fields (Ok Done) = worded no_word
pile_fields (Ok Inside) = worded inside
pile_fields (Ok Outside) = worded outside
pile_fields (Ok (WasTaken t)) = accepted no_word t.edges t.anchor
pile_fields (Err f) = refusal_fields f

-- The reply of a set, by the verdict on its outline (contract 12.2)
unfoldable pub set_reply : Result Taken Refusal → PileReply
set_reply (Ok t) = Ok (WasTaken t)
set_reply (Err f) = Err f
