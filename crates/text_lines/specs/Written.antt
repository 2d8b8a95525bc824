-- What writing a text leaves in a buffer: the text as far as there is room, and the old bytes after it (contract 11.4).
use Rattle.std.specs.Prelude.{ℕ, zero, suc, ◌+◌, ◌-◌, min, ◌≡◌, List, [], ◌∷◌, length}

-- A buffer with a text at its front
unfoldable pub over : List ℕ → List ℕ → List ℕ
over [] buffer = buffer
over (b ∷ t) [] = []
over (b ∷ t) (x ∷ buffer) = b ∷ over t buffer

-- A buffer with a text in it from a place on
unfoldable pub written_at : ℕ → List ℕ → List ℕ → List ℕ
written_at zero t buffer = over t buffer
written_at (suc at) t [] = []
written_at (suc at) t (x ∷ buffer) = x ∷ written_at at t buffer

-- Where n bytes from a place on end in a buffer of m. Bytes without room are not counted
abbrev pub end_at : ℕ → ℕ → ℕ → ℕ
end_at at n m = at + min n (m - at)

-- A text was written from a place on. r is where the next one goes
pub record Wrote (t : List ℕ) (at : ℕ) (before after : List ℕ) (r : ℕ) : Type 0 where
  pub text : after ≡ written_at at t before
  pub end : r ≡ end_at at (length t) (length before)
