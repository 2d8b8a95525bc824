-- Both lists of columns are compared.
use mathlib.Core.Path.{sym, ap, ap₂, ◌∙◌}
use mathlib.Core.Bool.{true≢false}
use mathlib.Core.List.{List}
use Prim.Native.Nat.{ℕ}
use Rattle.spans.specs.declared.Spans.{Spans}
use Rattle.span_list.specs.SpanList.{spans_at}
use Rattle.holder_images.proofs.same_rows.Goals as goal

pub returns-then-not-stands : goal.returns-then-not-stands
unfolding spans_at
returns-then-not-stands c =
    let made = sym c.spans_of-own.ensures in (
      λ e. absurd (true≢false (sym e)),
      λ h.
          let yes = c.stands.ensures.1 (ap (λ (x : Spans). x.first) (h ∙ made)) in
          absurd (true≢false (sym yes ∙ c.if-not-stands.true)),
    )

pub returns : goal.returns
unfolding spans_at
returns c = (
  λ e. ap₂ (λ (a b : List ℕ). record { first = a; past = b }) (c.stands.ensures.0 c.if-not-stands.false)
      (c.stands-2.ensures.0 e) ∙ c.spans_of-own.ensures,
  λ h. c.stands-2.ensures.1 (ap (λ (x : Spans). x.past) (h ∙ sym c.spans_of-own.ensures)),
)
