-- The border read cyclically, and where its pieces lead (contract 3.3).
use Rattle.std.specs.Prelude.{ℕ, suc, ◌+◌, ◌≤◌, ◌<◌, ◌≡◌, length, take}
use Rattle.chart.specs.declared.Point.{Point}
use Rattle.chart.specs.Outline.{Outline}
use Rattle.lattice.specs.Chart.{walk}
use Rattle.convexity.specs.Cut.{cut}
use Rattle.convexity.specs.Clockwise.{border}
use Rattle.convexity.specs.Pieces.{rounds, piece}
use Rattle.convexity.specs.Corners.{IsWest, IsNorth, IsEast, IsSouth}

-- The corner after i letters from W, read cyclically
unfoldable pub corner_round : Outline → ℕ → Point
corner_round o i = walk o.start (take i (rounds o.letters))

-- Piece k of a border o, counted from 0, leads from the corner p to the corner q
pub record Leads (o : Outline) (k : ℕ) (p q : Point) : Type 0 where
  -- it has one or more letters, those between two cut places
  pub nonempty : cut o k < cut o (suc k)
  pub letter_count : cut o k + length (piece o k) ≡ cut o (suc k)
  -- they lead from p to q
  pub from : corner_round o (cut o k) ≡ p
  pub to : walk p (piece o k) ≡ q
  -- q is met at their end and not before
  pub met : corner_round o (cut o (suc k)) ≡ q
  pub first : (i : ℕ) → cut o k ≤ i → i < cut o (suc k) → corner_round o i ≡ q → ⊥

-- W, N, E and S of an outline; each piece of its border leads from one to the next
pub record PiecesLead (o : Outline) : Type 0 where
  pub w : Point
  pub n : Point
  pub e : Point
  pub s : Point
  pub is_west : IsWest o w
  pub is_north : IsNorth o n
  pub is_east : IsEast o e
  pub is_south : IsSouth o s
  pub begins : cut (border o) 0 ≡ 0
  pub to_north : Leads (border o) 0 w n
  pub to_east : Leads (border o) 1 n e
  pub to_south : Leads (border o) 2 e s
  pub to_west : Leads (border o) 3 s w
