-- An edge and the one before it, as the loop of refusal 16 checks them.
use Rattle.std.specs.Prelude.{Bool, true, not, ◌&&◌, ℤ, Option, None, Some}
use Rattle.convexity.specs.Edges.{Edge}
use Rattle.directions.specs.Round.{is_nil, precedes}

-- The direction comes after that of the edge before it, if there is one
unfoldable pub comes_after : Option Edge → ℤ → ℤ → Bool
comes_after None dx dy = true
comes_after (Some e) dx dy = precedes e.0 e.1 dx dy

-- The edge is not zero, and comes after the one before it
unfoldable pub turns_on : Option Edge → ℤ → ℤ → Bool
turns_on last dx dy = not (is_nil dx && is_nil dy) && comes_after last dx dy
