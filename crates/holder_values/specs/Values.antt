-- A holder by value is its four arrays, and a method returns what `answer_of` says of them (contract 7.2).
use Rattle.holder_memory.specs.Layout.{Holder as Arrays, arrays}
use Rattle.holder_answers.specs.Arrays.{Answered as Reached, reply}
use Rattle.holder_values.specs.declared.Holder.{Holder}
use Rattle.holder_values.specs.declared.Answered.{Answered}

abbrev pub kept : Holder → Arrays
kept h = arrays h.letters h.rows h.numbers h.heads

abbrev pub reached : Answered → Reached
reached a = reply a.reply (kept a.holder)
