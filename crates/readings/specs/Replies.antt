-- The reply to a reading (contract 7.10).
use Rattle.std.specs.Prelude.{Result, Ok, Err}
use Rattle.chart.specs.declared.Refusal.{Refusal}
use Rattle.calls.specs.Replies.{Reply}
use Rattle.calls.specs.declared.Answer.TheVariants.{Inside as IsInside, Outside as IsOutside, Undecided as IsUndecided}
use Rattle.readings.specs.declared.Located.{Located}
use Rattle.readings.specs.declared.Located.TheVariants.{Inside, Outside, Undecided}

unfoldable pub located_reply : Result Located Refusal → Reply
located_reply (Ok Inside) = Ok IsInside
located_reply (Ok Outside) = Ok IsOutside
located_reply (Ok Undecided) = Ok IsUndecided
located_reply (Err why) = Err why
