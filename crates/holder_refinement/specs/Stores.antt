-- Stores into a holder's arrays, one number each, and what of a holder they leave as it was (contract 10.7).
use Rattle.std.specs.Prelude.{ℕ, ◌+◌, ◌*◌, ◌≤◌, ◌<◌, ◌≡◌, ◌⊎◌, List, [], ◌∷◌, set, ℤ}
use Rattle.chart.specs.Limits.{most_numbers}
use Rattle.calls.specs.Calls.{parties, places}
use Rattle.span_list.specs.SpanList.{slot_bytes}
use Rattle.holder_memory.specs.Layout.{Holder, arrays, place_words, slot_head, slot_numbers}
use Rattle.holder_answers.specs.Arrays.{work_in}

-- A number into one of the four arrays
pub data Store : Type 0 where
  letter : ℕ → ℕ → Store
  row : ℕ → ℕ → Store
  number : ℕ → ℤ → Store
  head : ℕ → ℕ → Store

unfoldable pub stored : Holder → Store → Holder
stored h (letter i v) = arrays (set h.letters i v) h.rows h.numbers h.heads
stored h (row i v) = arrays h.letters (set h.rows i v) h.numbers h.heads
stored h (number i v) = arrays h.letters h.rows (set h.numbers i v) h.heads
stored h (head i v) = arrays h.letters h.rows h.numbers (set h.heads i v)

unfoldable pub stored_all : Holder → List Store → Holder
stored_all h [] = h
stored_all h (x ∷ xs) = stored_all (stored h x) xs

-- The store goes into a draft or into slot t
unfoldable pub Within : ℕ → Store → Type 0
Within t (letter i v) = Unit {0}
Within t (row i v) = (slot_bytes * t ≤ i) × (i < slot_bytes * t + slot_bytes)
Within t (number i v) = (most_numbers * t ≤ i) × (i < most_numbers * t + most_numbers)
Within t (head i v) = (i < place_words) ⊎ ((slot_head t ≤ i) × (i < slot_head t + slot_numbers))

unfoldable pub AllWithin : ℕ → List Store → Type 0
AllWithin t [] = Unit {0}
AllWithin t (x ∷ xs) = Within t x × AllWithin t xs

-- Every place of both parties has the same outline at work
abbrev pub SameWorks : Holder → Holder → Type 0
SameWorks h h' = (q j : ℕ) → q < parties → j < places → work_in h' q j ≡ work_in h q j
