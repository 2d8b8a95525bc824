-- The first place that has the word of the slot, or none.
use Rattle.std.proofs.Common.{refl, sym, ◌∙◌, arith}
use Rattle.base.specs.Below.{first}
use Rattle.holder_memory.proofs.Free.{named_here, named-next, named_none}
use Rattle.holder_memory.proofs.Distance.{word-tag, other-tag}
use Rattle.holder_memory.proofs.naming.named.Goals as goal

pub loop-k-init : goal.loop-k-init
unfolding first
loop-k-init c = refl

pub returns-then-heads-party : goal.returns-then-heads-party
returns-then-heads-party c =
    named_here _ _ _ _ _ (omega arith) refl (word-tag _ _ (omega arith) (c.if-heads-party.true ∙ c.word_of.ensures))

pub loop-k-preserved : goal.loop-k-preserved
loop-k-preserved c =
    named-next _ _ _ _ _ c.loop-k.invariant refl
    (other-tag _ _ (omega arith) (λ e. c.if-heads-party.false (e ∙ sym c.word_of.ensures)))

pub returns : goal.returns
returns c = named_none _ _ _ _ c.loop-k.invariant (omega arith)
