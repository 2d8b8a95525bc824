-- Where a call looks: at a draft, at the word of a place, or at the slot that it names.
use Rattle.std.specs.Prelude.{ℕ, ◌≡◌, ◌≢◌, ◌<◌, ◌≤◌, ◌⊎◌, cond, List, get_or, Result, Ok, Err}
use Rattle.chart.specs.declared.Refusal.{Refusal}
use Rattle.chart.specs.declared.Refusal.TheVariants.{NoDraft, Party, Place}
use Rattle.calls.specs.Calls.{parties, places, bad_party, bad_place}
use Rattle.calls.specs.Replies.{Reply}
use Rattle.holder_memory.specs.Layout.{draft_head, spot, place_word}
use Rattle.holder_memory.specs.Words.{slot_of}

-- The flag of a party's draft is set
abbrev pub Drafts : List ℕ → ℕ → Type 0
Drafts heads p = get_or heads (draft_head p) 0 ≢ 0

-- No draft: 19, or 13
abbrev pub Undrafted : List ℕ → ℕ → Refusal → Type 0
Undrafted heads p why = ((why ≡ Party) × (parties ≤ p)) ⊎ ((why ≡ NoDraft) × (p < parties) × (get_or heads (draft_head p) 0 ≡ 0))

-- No place: 19, or 20
abbrev pub Nowhere : ℕ → ℕ → Refusal → Type 0
Nowhere p k why = ((why ≡ Party) × (parties ≤ p)) ⊎ ((why ≡ Place) × (p < parties) × (places ≤ k))

-- Where a question looks: 19, 20, or the slot that the place names
unfoldable pub asked_at : List ℕ → ℕ → ℕ → Result ℕ Refusal
asked_at heads p k =
    cond (bad_party p) (Err Party) (cond (bad_place k) (Err Place) (Ok (slot_of p (get_or heads (place_word (spot p k)) 0))))

-- The reply, given the answer from each slot
unfoldable pub asked_reply : Result ℕ Refusal → (ℕ → Reply) → Reply
asked_reply (Err why) f = Err why
asked_reply (Ok t) f = f t
