-- The model determines its replies: the first dented section is one, and every other reply is an equation.
use Rattle.std.specs.Prelude.{Err}
use Prim.Native.Nat.{ℕ, ◌<◌}
use native.Mathlib.Decide.{dec_lt}
use native.Mathlib.Omega.{arith}
use mathlib.Core.Path.{◌≡◌, refl, sym, ap, ◌∙◌}
use mathlib.Core.Bool.{Bool}
use mathlib.Core.List.{List, [], ◌∷◌}
use Rattle.chart.specs.declared.Refusal.TheVariants.{Section}
use Rattle.chart.specs.declared.SectionKind.TheVariants.{Column, Row}
use Rattle.lattice.specs.Hull.{Convex}
use Rattle.pile_replies.specs.Replies.{PileReply}
use Rattle.pile_sections.specs.Runs.{HasDent}
use Rattle.pile_sections.specs.Meaning.{passes, column, row}
use Rattle.pile_model.specs.Calls.{PileCall, Set, SetEmpty, Check, Query, Restore}
use Rattle.pile_model.specs.Book.{Layers, PileBook, column_marks, row_marks, Checked, Answers, next, AllAnswer}

-- Two first numbers with a property are equal
least : (D F : ℕ → Type 0) → ((k : ℕ) → F k → D k → ⊥) → (a b : ℕ) → D a → ((k : ℕ) → k < a → F k) → D b → ((k : ℕ) → k < b → F k) → a ≡ b
least D F never a b d f e g =
    elim (dec_lt a b) [
      | yes h ↦ absurd (never a (g a h) d)
      | no h ↦ elim (dec_lt b a) [ yes k ↦ absurd (never b (f b k) e) | no k ↦ omega arith ]
    ]

no_dent : {marked : ℕ → ℕ → Bool} → Convex marked → HasDent marked → ⊥
no_dent full (x, m) = full x m

module _ (ls : Layers) where
  checked-once : (r s : PileReply) → Checked ls r → Checked ls s → r ≡ s
  checked-once r s (passes cs rs) (passes cs' rs') = refl
  checked-once r s (passes cs rs) (column c h d f) = absurd (no_dent (cs c h) d)
  checked-once r s (passes cs rs) (row i h cs' d f) = absurd (no_dent (rs i h) d)
  checked-once r s (column c h d f) (passes cs rs) = absurd (no_dent (cs c h) d)
  checked-once r s (column c h d f) (column c' h' d' f') =
      ap (λ (k : ℕ). Err (Section Column k))
      (least (λ k. HasDent (column_marks ls k)) (λ k. Convex (column_marks ls k)) (λ k. no_dent) c c' d f d' f')
  checked-once r s (column c h d f) (row i h' cs d' f') = absurd (no_dent (cs c h) d)
  checked-once r s (row i h cs d f) (passes cs' rs) = absurd (no_dent (rs i h) d)
  checked-once r s (row i h cs d f) (column c h' d' f') = absurd (no_dent (cs c h') d')
  checked-once r s (row i h cs d f) (row i' h' cs' d' f') =
      ap (λ (k : ℕ). Err (Section Row k))
      (least (λ k. HasDent (row_marks ls k)) (λ k. Convex (row_marks ls k)) (λ k. no_dent) i i' d f d' f')

pub answer-once : (b : PileBook) (c : PileCall) (r s : PileReply) → Answers b c r → Answers b c s → r ≡ s
unfolding Answers
answer-once b (Set l o) r s e f = e ∙ sym f
answer-once b (SetEmpty l) r s e f = e ∙ sym f
answer-once b Check r s e f = checked-once b.layers r s e f
answer-once b (Query l x) r s e f = e ∙ sym f
answer-once b (Restore l bytes) r s e f = e ∙ sym f

-- Two lists of replies that are the model's are equal
pub replies-once : (cs : List PileCall) (b : PileBook) (rs ss : List PileReply) → AllAnswer b cs rs → AllAnswer b cs ss → rs ≡ ss
unfolding AllAnswer
replies-once [] b [] [] a a' = refl
replies-once [] b [] (s ∷ ss) a a' = absurd a'
replies-once [] b (r ∷ rs) ss a a' = absurd a
replies-once (c ∷ cs) b [] ss a a' = absurd a
replies-once (c ∷ cs) b (r ∷ rs) [] a a' = absurd a'
replies-once (c ∷ cs) b (r ∷ rs) (s ∷ ss) (a, u) (a', u') =
    let e : r ≡ s = answer-once b c r s a a' in
    let v : rs ≡ ss = replies-once cs (next b c r) rs ss u (rw (sym e) at u') in
    λ i. e i ∷ v i
