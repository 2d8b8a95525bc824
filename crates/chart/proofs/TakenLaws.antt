-- Two verdicts that take an outline are the same only with the same count of edges and the same anchor.
use Rattle.std.proofs.Common.{◌≡◌, ℕ, ap, Result, Ok, Err}
use Rattle.chart.specs.declared.Point.{Point}
use Rattle.chart.specs.declared.Refusal.{Refusal}
use Rattle.chart.specs.declared.Taken.{Taken}
use Rattle.chart.specs.Taken.{taken_with}
use Rattle.chart.specs.Fields.{verdict_fields}

-- The number in the reply of a verdict: 0 if it takes the outline
abbrev pub verdict_number : Result Taken Refusal → ℕ
verdict_number v = (verdict_fields v).number

-- What a verdict tells, or the given if it is a refusal
abbrev told : Taken → Result Taken Refusal → Taken
told s (Ok t) = t
told s (Err f) = s

pub same-edges : {n m : ℕ} {a b : Point} → taken_with n a ≡ taken_with m b → n ≡ m
same-edges {n} {m} {a} e = ap (λ (v : Result Taken Refusal). (told (record { edges = n; anchor = a }) v).edges) e

pub same-anchor : {n m : ℕ} {a b : Point} → taken_with n a ≡ taken_with m b → a ≡ b
same-anchor {n} {m} {a} e = ap (λ (v : Result Taken Refusal). (told (record { edges = n; anchor = a }) v).anchor) e
