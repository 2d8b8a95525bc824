-- The words that a place may hold: which slot each names, which slot is free, and how far the words lie apart (contract 10.4).
use Rattle.std.specs.Prelude.{ℕ, zero, suc, ◌+◌, ◌/◌, ◌%◌, Bool, cond, not, ◌||◌, List, get_or, leb, ltb, eqb}
use Rattle.base.specs.Below.{first, some_below, every}
use Rattle.calls.specs.Calls.{places}
use Rattle.holder_memory.specs.Layout.{own, slots, spot, place_word, slot_own}

-- ---- the words

-- Hexadecimal 5555, 3333, 6666, 0F0F, 5A5A
abbrev pub word0 : ℕ
word0 = 21845

abbrev pub word1 : ℕ
word1 = 13107

abbrev pub word2 : ℕ
word2 = 26214

abbrev pub word3 : ℕ
word3 = 3855

abbrev pub word4 : ℕ
word4 = 23130

-- The word of a party's slot t
unfoldable pub word_of : ℕ → ℕ
word_of t = cond (eqb t 0) word0 (cond (eqb t 1) word1 (cond (eqb t 2) word2 (cond (eqb t 3) word3 word4)))

-- Which of a party's slots a number names, or 5 for none: every number but the five words
unfoldable pub tag_of : ℕ → ℕ
tag_of w = cond (eqb w word0) 0 (cond (eqb w word1) 1 (cond (eqb w word2) 2 (cond (eqb w word3) 3 (cond (eqb w word4) 4 own))))

-- The slot that a number at a place of party p names: one of its own, or 10 for none
unfoldable pub slot_of : ℕ → ℕ → ℕ
slot_of p w = cond (ltb (tag_of w) own) (slot_own p (tag_of w)) slots

-- ---- the slot that no place names

-- Some place of party p names its slot t
unfoldable pub named : List ℕ → ℕ → ℕ → Bool
named heads p t = some_below (λ k. eqb (tag_of (get_or heads (place_word (spot p k)) 0)) t) places

-- The first slot of party p that no place of it names, or 5 if there were none
unfoldable pub free_tag : List ℕ → ℕ → ℕ
free_tag heads p = first (λ t. not (named heads p t)) own

abbrev pub free_slot : List ℕ → ℕ → ℕ
free_slot heads p = slot_own p (free_tag heads p)

-- ---- distance

-- In how many of the lowest n bits two numbers differ
unfoldable pub distance : ℕ → ℕ → ℕ → ℕ
distance zero a b = 0
distance (suc n) a b = cond (eqb (a % 2) (b % 2)) 0 1 + distance n (a / 2) (b / 2)

-- In how many of 16 bits
abbrev pub apart : ℕ → ℕ → ℕ
apart a b = distance 16 a b

-- Two different words differ in eight bits or more, and so does each from 0 and from 65535
unfoldable pub far_apart : Bool
far_apart = every (λ t. every (λ u. eqb t u || leb 8 (apart (word_of t) (word_of u))) own) own

unfoldable pub far_from : ℕ → Bool
far_from w = every (λ t. leb 8 (apart (word_of t) w)) own
