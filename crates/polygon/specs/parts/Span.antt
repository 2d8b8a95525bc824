-- The lowest and the highest of some numbers.
use Rattle.std.specs.Prelude.{Bool, ◌&&◌, ℤ}
use Rattle.std.specs.Int.Signed.{le_z}
use Rattle.convexity.specs.Inside.{minℤ, maxℤ}
use Rattle.polygon.specs.declared.Span.{Span}

unfoldable pub begun : ℤ → Span
begun x = record { low = x; high = x }

unfoldable pub met : Span → ℤ → Span
met s x = record { low = minℤ s.low x; high = maxℤ s.high x }

unfoldable pub spans : Span → ℤ → Bool
spans s c = le_z s.low c && le_z c s.high
