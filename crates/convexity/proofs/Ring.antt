-- The four frames form a cycle, each the one before it turned by a quarter, so one law about a piece and the next covers all four.
-- The later letter of a frame is the earlier letter of the frame before, and its
-- earlier letter is the opposite of that frame's later letter.
use Prim.Native.Nat.{ℕ, zero, suc, ◌+◌, ◌-◌, ◌<◌}
use native.Mathlib.Omega.{arith}
use mathlib.Core.Path.{◌≡◌, refl, sym, ap, ◌∙◌}
use mathlib.Core.Logic.{◌≢◌}
use Rattle.chart.specs.Limits.{side}
use Rattle.chart.specs.declared.Point.{Point}
use Rattle.base.proofs.BelowLaws.{below-four}
use Rattle.lattice.proofs.WalkLaws.{OnChart}
use Rattle.convexity.specs.Frame.{Frame, frame_of, next, along}
use Rattle.convexity.specs.parts.InFrame.{cell_along, cell_e, cell_l}
use Rattle.convexity.specs.Clockwise.{opposite}

pub next-lt : (k : ℕ) → next k < 4
next-lt zero = omega arith
next-lt (suc zero) = omega arith
next-lt (suc (suc zero)) = omega arith
next-lt (suc (suc (suc k))) = omega arith

pub next-suc : (k : ℕ) → k < 3 → next k ≡ suc k
next-suc zero h = refl
next-suc (suc zero) h = refl
next-suc (suc (suc zero)) h = refl
next-suc (suc (suc (suc k))) h = absurd (omega arith)

pub next-round : (k : ℕ) → k < 4 → next (next (next (next k))) ≡ k
next-round zero h = refl
next-round (suc zero) h = refl
next-round (suc (suc zero)) h = refl
next-round (suc (suc (suc k))) h = omega arith

-- What holds from each piece to the next, and from the last to the first, holds around the cycle
pub round-ring : (P : ℕ → ℕ → Type 0) → ((k : ℕ) → k < 3 → P k (suc k)) → P 3 0 → (k : ℕ) → k < 4 → P k (next k)
round-ring P on last = below-four (λ k. P k (next k)) (on 0 (omega arith)) (on 1 (omega arith)) (on 2 (omega arith)) last

-- What holds for a piece and for the three after it, cyclically, holds for all four
pub all-round : (P : ℕ → Type 0) (j : ℕ) → j < 4 → P j → P (next j) → P (next (next j)) → P (next (next (next j))) → (k : ℕ) → k < 4 → P k
all-round P zero h a b c d = below-four P a b c d
all-round P (suc zero) h a b c d = below-four P d a b c
all-round P (suc (suc zero)) h a b c d = below-four P c d a b
all-round P (suc (suc (suc zero))) h a b c d = below-four P b c d a
all-round P (suc (suc (suc (suc j)))) h a b c d = absurd (omega arith)

-- The two letters of a frame and their opposites are four different letters
pub record Apart (f : Frame) : Type 0 where
  pub letters : f.earlier ≢ f.later
  pub earlier-earlier : opposite f.earlier ≢ f.earlier
  pub earlier-later : opposite f.earlier ≢ f.later
  pub later-earlier : opposite f.later ≢ f.earlier
  pub later-later : opposite f.later ≢ f.later
  pub backs : opposite f.later ≢ opposite f.earlier

pub apart : (k : ℕ) → Apart (frame_of k)
unfolding frame_of opposite
apart zero = omega arith
apart (suc zero) = omega arith
apart (suc (suc zero)) = omega arith
apart (suc (suc (suc k))) = omega arith

-- g is f turned by a quarter
pub record Turns (f g : Frame) : Type 0 where
  pub earlier : g.earlier ≡ opposite f.later
  pub later : g.later ≡ f.earlier
  pub back : opposite g.earlier ≡ f.later

pub turns : (k : ℕ) → Turns (frame_of k) (frame_of (next k))
unfolding frame_of opposite
turns zero = omega arith
turns (suc zero) = omega arith
turns (suc (suc zero)) = omega arith
turns (suc (suc (suc k))) = omega arith

-- Each letter is the earlier one of exactly one piece, and the later one of exactly one
abbrev piece_of : ℕ → ℕ
piece_of zero = 0
piece_of (suc zero) = 3
piece_of (suc (suc zero)) = 2
piece_of (suc (suc (suc a))) = 1

piece-earlier : (k : ℕ) → k < 4 → piece_of (frame_of k).earlier ≡ k
unfolding frame_of
piece-earlier = below-four (λ k. piece_of (frame_of k).earlier ≡ k) refl refl refl refl

piece-later : (k : ℕ) → k < 4 → next (piece_of (frame_of k).later) ≡ k
unfolding frame_of
piece-later = below-four (λ k. next (piece_of (frame_of k).later) ≡ k) refl refl refl refl

pub earlier-injective : (j k : ℕ) → j < 4 → k < 4 → (frame_of j).earlier ≡ (frame_of k).earlier → j ≡ k
earlier-injective j k h l e = sym (piece-earlier j h) ∙ ap piece_of e ∙ piece-earlier k l

pub later-injective : (j k : ℕ) → j < 4 → k < 4 → (frame_of j).later ≡ (frame_of k).later → j ≡ k
later-injective j k h l e = sym (piece-later j h) ∙ ap (λ (a : ℕ). next (piece_of a)) e ∙ piece-later k l

-- The coordinates of a corner of the chart in a frame and in the next
pub along-next : (k : ℕ) (p : Point) → OnChart p → along (frame_of (next k)).earlier p + along (frame_of k).later p ≡ side
unfolding frame_of along
along-next zero p h = omega arith
along-next (suc zero) p h = omega arith
along-next (suc (suc zero)) p h = omega arith
along-next (suc (suc (suc k))) p h = omega arith

-- The coordinates of a cell of the chart in a frame and in the next
pub cell-turned : (k : ℕ) (x : Point) → cell_l (next k) x ≡ cell_e k x
unfolding cell_e cell_l cell_along frame_of
cell-turned zero x = refl
cell-turned (suc zero) x = refl
cell-turned (suc (suc zero)) x = refl
cell-turned (suc (suc (suc k))) x = refl

pub cell-next : (k : ℕ) (x : Point) → x.col < side → x.row < side → cell_e (next k) x + cell_l k x ≡ side - 1
unfolding cell_e cell_l cell_along frame_of
cell-next zero x c r = omega arith
cell-next (suc zero) x c r = omega arith
cell-next (suc (suc zero)) x c r = omega arith
cell-next (suc (suc (suc k))) x c r = omega arith
