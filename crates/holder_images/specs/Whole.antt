-- Whether what is at work is what a taking leaves (contract 13.4).
use Rattle.std.specs.Prelude.{ℕ, ◌≡◌, ◌⊎◌, Bool, true, cond, ◌&&◌, ◌||◌, [], get_or, eqb}
use Rattle.chart.specs.Outline.{Outline, at, outline}
use Rattle.convexity.specs.FromEdges.{letters_from}
use Rattle.spans.specs.declared.Spans.{Spans}
use Rattle.spans.specs.Spans.{spans_of}
use Rattle.images.specs.Image.{same_bytes}
use Rattle.border_model.specs.Outlined.{TakenAs, outlined}
use Rattle.holder_records.specs.Work.{Work, work_edges}
use Rattle.holder_memory.specs.Layout.{Holder, place_word, spot}
use Rattle.holder_answers.specs.Arrays.{work_in}

-- The same rows
unfoldable pub same_spans : Spans → Spans → Bool
same_spans x y = same_bytes x.first y.first && same_bytes x.past y.past

-- ---- a work

-- The test takes the outline with this anchor and these edges, as many as are counted, and its rows are these
pub record WorkOf (w : Work) (o : Outline) : Type 0 where
  pub taken : TakenAs o w.anchor (work_edges w)
  pub rows : w.spans ≡ spans_of o

-- The border that the edges at work give, from the anchor's corner
unfoldable pub own_border : Work → Outline
own_border w = outline w.anchor (letters_from (work_edges w))

-- Tests whether an outline is at work, and some taking leaves it. It is enough to test the border that its edges give
-- (proofs/WholeLaws: `whole-iff`)
unfoldable pub whole : Work → Bool
whole w = w.taken && (outlined w.anchor (work_edges w) && same_spans w.spans (spans_of (own_border w)))

-- ---- a place

-- The word of place k of party p
abbrev pub word_in : Holder → ℕ → ℕ → ℕ
word_in h p k = get_or h.heads (place_word (spot p k)) 0

-- The place's word is 0, or it names a slot that holds what a taking leaves
unfoldable pub whole_at : Holder → ℕ → ℕ → Bool
whole_at h p k = eqb (word_in h p k) 0 || whole (work_in h p k)

-- An outline without letters stands for an empty place
abbrev pub empty_outline : Outline
empty_outline = outline (at 0 0) []

-- The border, from W, of the outline at work at a whole place
unfoldable pub border_in : Holder → ℕ → ℕ → Outline
border_in h p k = cond (eqb (word_in h p k) 0) empty_outline (own_border (work_in h p k))

-- What a check says yes to, in plain words: the place's word is 0, or the slot that it names holds what the taking of some outline leaves
-- (proofs/Meaning: `check_sound`, `check-else`)
abbrev pub Sound : Holder → ℕ → ℕ → Type 0
Sound h p k = (word_in h p k ≡ 0) ⊎ (((work_in h p k).taken ≡ true) × ((o : Outline) × WorkOf (work_in h p k) o))
