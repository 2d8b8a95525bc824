-- Letters written into a list from a place on. The letters before that place are unchanged.
use Rattle.std.specs.Prelude.{ℕ, ◌+◌, ◌≡◌, List, ◌++◌, length, take}

pub record Wrote (before : List ℕ) (at : ℕ) (w after : List ℕ) : Type 0 where
  pub sized : length after ≡ length before
  pub written : take (at + length w) after ≡ take at before ++ w
