-- A party's replies depend only on its own calls, because the model's do.
use Prim.Native.Nat.{ℕ}
use mathlib.Core.Path.{◌≡◌, sym, ap, ◌∙◌}
use mathlib.Core.List.{List}
use Rattle.calls.specs.declared.Call.{Call}
use Rattle.holder_model.specs.Parties.{calls_of, replies_to}
use Rattle.holder_model.proofs.Parties.{replies-to}
use Rattle.holder_answers.specs.Run.{handled}
use Rattle.holder_refinement.proofs.ListTheorem.{list-theorem}

-- The replies to a party's calls are those that its calls alone would get
pub replies-alone : (p : ℕ) (cs : List Call) → replies_to p cs (handled cs) ≡ handled (calls_of p cs)
replies-alone p cs = ap (replies_to p cs) (list-theorem cs) ∙ replies-to p cs ∙ sym (list-theorem (calls_of p cs))

-- Two lists with the same calls of a party in the same order give it the same replies, whatever other calls are between (contract 8.6)
pub independent : (p : ℕ) (cs ds : List Call) → calls_of p cs ≡ calls_of p ds → replies_to p cs (handled cs) ≡ replies_to p ds (handled ds)
independent p cs ds same = replies-alone p cs ∙ ap handled same ∙ sym (replies-alone p ds)
