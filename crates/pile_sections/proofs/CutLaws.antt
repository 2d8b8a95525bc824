-- Sections with equal lists are equal.
use mathlib.Core.Path.{◌≡◌}
use mathlib.Core.List.{List}
use Prim.Native.Nat.{ℕ}
use Rattle.sections.specs.declared.Section.{Section}

pub section-eq : {a b c d : List ℕ} → a ≡ c → b ≡ d → ◌≡◌ {A = Section} (record { lo = a; past = b }) (record { lo = c; past = d })
section-eq e g i = record { lo = e i; past = g i }
