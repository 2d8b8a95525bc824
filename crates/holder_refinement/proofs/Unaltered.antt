-- A refused call leaves every number of the arrays, whatever they held; a refused close may end its draft.
use Rattle.std.specs.Prelude.{Result, Ok, Err}
use Prim.Native.Nat.{ℕ}
use mathlib.Core.Path.{◌≡◌, refl}
use mathlib.Core.Bool.{Bool, true, false, cond, true≢false}
use mathlib.Core.Logic.{◌⊎◌, inl, inr}
use lib.ListN.{set}
use lib.Dec.{leb, ltb}
use Rattle.chart.specs.Limits.{longest}
use Rattle.chart.specs.Outline.{Outline}
use Rattle.chart.specs.declared.Point.{Point}
use Rattle.chart.specs.declared.Refusal.{Refusal}
use Rattle.chart.specs.declared.Taken.{Taken}
use Rattle.lattice.specs.Refusals.{bad_start}
use Rattle.judge.specs.declared.Judged.{Judged}
use Rattle.calls.specs.Calls.{bad_party, bad_place, by}
use Rattle.calls.specs.Replies.{reply_fields}
use Rattle.calls.specs.declared.Action.{Action}
use Rattle.calls.specs.declared.Action.TheVariants.{Begin, Add, Drop, Clear, Close, Ask}
use Rattle.calls.specs.declared.Answer.TheVariants.{Taken as WasTaken, Same}
use Rattle.holder_records.specs.Work.{listed, has_edges}
use Rattle.holder_memory.specs.Layout.{Holder, draft_head}
use Rattle.holder_answers.specs.Arrays.{Answered, begun, draft_count, work_in, ended, begin_of, add_of, drop_of, clear_of, Preparation, draft_ended}
use Rattle.holder_answers.specs.Arrays.{outline_prepared_by, prepared_of, prepare_of, committed, close_of, act_of, answer_of}
use Rattle.holder_refinement.proofs.Turns.{commit-zero}

-- If the reply has a number other than 0, P holds of what is left
abbrev IfRefused : (Holder → Type 0) → Answered → Type 0
IfRefused P x = ((reply_fields x.reply).number ≡ 0 → ⊥) → P x.holder

either : (P : Holder → Type 0) (t : Bool) (x y : Answered) → IfRefused P x → IfRefused P y → IfRefused P (cond t x y)
either P true x y f g = f
either P false x y f g = g

module _ (h : Holder) (p : ℕ) where
  abbrev Same' : Holder → Type 0
  Same' n = n ≡ h

  begin-same : (s : Point) → IfRefused Same' (begin_of h p s)
  unfolding begin_of reply_fields
  begin-same s = either Same' (begun h p) _ _ (λ r. refl) (either Same' (bad_start s) _ _ (λ r. refl) (λ r. absurd (r refl)))

  add_same : (a : ℕ) → IfRefused Same' (add_of h p a)
  unfolding add_of reply_fields
  add_same a =
      either Same' (begun h p) _ _
      (either Same' (leb longest (draft_count h p)) _ _ (λ r. refl) (either Same' (ltb 3 a) _ _ (λ r. refl) (λ r. absurd (r refl))))
      (λ r. refl)

  drop-same : IfRefused Same' (drop_of h p)
  unfolding drop_of reply_fields
  drop-same = either Same' (begun h p) _ _ (λ r. absurd (r refl)) (λ r. refl)

  clear-same : (k : ℕ) → IfRefused Same' (clear_of h p k)
  unfolding clear_of reply_fields
  clear-same k = either Same' (bad_place k) _ _ (λ r. refl) (λ r. absurd (r refl))

  -- ---- close

  abbrev Ended : Holder → Type 0
  Ended n = (n ≡ h) ⊎ (n ≡ ended h p)

  accepted : (t : Bool) (n : ℕ) (a : Point) → (reply_fields (cond t (Ok (Same n a)) (Ok (WasTaken n a)))).number ≡ 0
  unfolding reply_fields
  accepted true n a = refl
  accepted false n a = refl

  abbrev Refuses : ℕ → Preparation → Type 0
  Refuses k q = IfRefused Ended (committed p k q)

  each : (k : ℕ) (t : Bool) (x y : Preparation) → Refuses k x → Refuses k y → Refuses k (cond t x y)
  each k true x y f g = f
  each k false x y f g = g

  closed_same : (k : ℕ) (o : Outline) (j : Judged) (v : Result Taken Refusal) → Refuses k (draft_ended p (outline_prepared_by h p k o j v))
  unfolding outline_prepared_by
  closed_same k o j (Err f) r = inr (rw (commit-zero (set h.heads (draft_head p) 0) p k))
  closed_same k o j (Ok t) r = absurd (r (accepted (has_edges (work_in h p k) t.anchor (listed j.numbers t.edges)) t.edges t.anchor))

  close-same : (k : ℕ) → IfRefused Ended (close_of h p k)
  unfolding close_of prepared_of
  close-same k =
      each k (bad_place k) _ _ (λ r. inr (rw (commit-zero (set h.heads (draft_head p) 0) p k)))
      (each k (begun h p) _ _ (closed_same k _ _ _) (λ r. inl (rw (commit-zero h.heads p k))))

  -- ---- prepare

  abbrev pub PrepareRefuses : Preparation → Type 0
  PrepareRefuses q = ((reply_fields q.reply).number ≡ 0 → ⊥) → (q.word ≡ 0) × ((q.holder ≡ h) ⊎ (q.holder ≡ ended h p))

  every : (t : Bool) (x y : Preparation) → PrepareRefuses x → PrepareRefuses y → PrepareRefuses (cond t x y)
  every true x y f g = f
  every false x y f g = g

  judged-same : (k : ℕ) (o : Outline) (j : Judged) (v : Result Taken Refusal)
      → PrepareRefuses (draft_ended p (outline_prepared_by h p k o j v))
  unfolding outline_prepared_by
  judged-same k o j (Err f) r = (refl, inr refl)
  judged-same k o j (Ok t) r = absurd (r (accepted (has_edges (work_in h p k) t.anchor (listed j.numbers t.edges)) t.edges t.anchor))

  -- A refused prepare leaves the arrays, or ends its draft and leaves every other number; its word is 0, so that a commit writes nothing
  pub refused-prepare : (k : ℕ) → PrepareRefuses (prepare_of h p k)
  unfolding prepare_of prepared_of
  refused-prepare k =
      every (bad_party p) _ _ (λ r. (refl, inl refl))
      (every (bad_place k) _ _ (λ r. (refl, inr refl)) (every (begun h p) _ _ (judged-same k _ _ _) (λ r. (refl, inl refl))))

-- Any call but a close
unfoldable pub closes : Action → Bool
closes (Close k) = true
closes (Begin s) = false
closes (Add a) = false
closes Drop = false
closes (Clear k) = false
closes (Ask k q) = false

pub refused-unaltered : (h : Holder) (p : ℕ) (a : Action) → closes a ≡ false → ((reply_fields (answer_of h (by p a)).reply).number ≡ 0 → ⊥)
    → (answer_of h (by p a)).holder ≡ h
unfolding answer_of act_of closes
refused-unaltered h p a e = either (λ n. n ≡ h) (bad_party p) _ _ (λ r. refl) (go a e)
  where
    go : (a : Action) → closes a ≡ false → IfRefused (λ n. n ≡ h) (act_of h p a)
    go (Begin s) e = begin-same h p s
    go (Add a) e = add_same h p a
    go Drop e = drop-same h p
    go (Clear k) e = clear-same h p k
    go (Close k) e = absurd (true≢false e)
    go (Ask k q) e = λ r. refl

-- A refused close leaves the arrays, or ends its draft and leaves every other number
pub refused-close : (h : Holder) (p k : ℕ) → ((reply_fields (answer_of h (by p (Close k))).reply).number ≡ 0 → ⊥)
    → ((answer_of h (by p (Close k))).holder ≡ h) ⊎ ((answer_of h (by p (Close k))).holder ≡ ended h p)
unfolding answer_of act_of
refused-close h p k = either (λ n. (n ≡ h) ⊎ (n ≡ ended h p)) (bad_party p) _ _ (λ r. inl refl) (close-same h p k)
