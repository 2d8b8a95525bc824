-- Letters written into a list from a place on. The letters before and behind them are unchanged.
use Rattle.std.specs.Prelude.{ℕ, ◌+◌, ◌≡◌, List, ◌++◌, length, take, drop}

pub record Wrote (before : List ℕ) (at : ℕ) (w after : List ℕ) : Type 0 where
  pub sized : length after ≡ length before
  pub written : take (at + length w) after ≡ take at before ++ w
  pub kept : drop (at + length w) after ≡ drop (at + length w) before
