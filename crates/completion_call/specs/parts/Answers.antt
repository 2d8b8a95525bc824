-- All that a completion promises, in one record.
use Rattle.std.specs.Prelude.{ℕ, ◌≡◌, List, length, Result}
use Rattle.chart.specs.Outline.{Outline}
use Rattle.chart.specs.declared.Refusal.{Refusal}
use Rattle.completion_call.specs.declared.Completed.{Completed}
use Rattle.completion_call.specs.Completion.{completed_of, completed_fields, completion_after}
use Rattle.completion_call.specs.Named.{CompletionNamed}

-- All that a completion promises of its result c and of the buffer
pub record Answers (o : Outline) (before after : List ℕ) (c : Result Completed Refusal) : Type 0 where
  pub answer : c ≡ completed_of o (length before)
  pub letters : after ≡ completion_after o before
  pub named : CompletionNamed o (completed_fields c) before after
