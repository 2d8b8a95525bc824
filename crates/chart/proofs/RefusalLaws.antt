-- Every refusal has a number and no word, by the table.
use Prim.Native.Nat.{◌<◌}
use native.Mathlib.Omega.{arith}
use mathlib.Core.Path.{◌≡◌, refl}
use Rattle.chart.specs.declared.Refusal.{Refusal}
use Rattle.chart.specs.declared.Refusal.TheVariants.{Length, Start, Letter, OffChart, NotClosed, Touches, BackStep, Dent, EdgeList}
use Rattle.chart.specs.declared.Refusal.TheVariants.{Cell, NothingAtWork, NoDraft, DraftOpen, DraftFull, Directions, NoOutline}
use Rattle.chart.specs.declared.Refusal.TheVariants.{LetterBuffer, Party, Place, Section, Layer, Image, Damaged, Frame}
use Rattle.chart.specs.Fields.{no_word, refusal_fields}

pub refusal-number : (f : Refusal) → 0 < (refusal_fields f).number
refusal-number Length = omega arith
refusal-number Start = omega arith
refusal-number (Letter p) = omega arith
refusal-number (OffChart p) = omega arith
refusal-number NotClosed = omega arith
refusal-number (Touches p) = omega arith
refusal-number (BackStep k p) = omega arith
refusal-number (Dent k p l x) = omega arith
refusal-number (EdgeList e) = omega arith
refusal-number Cell = omega arith
refusal-number NothingAtWork = omega arith
refusal-number NoDraft = omega arith
refusal-number DraftOpen = omega arith
refusal-number DraftFull = omega arith
refusal-number Directions = omega arith
refusal-number NoOutline = omega arith
refusal-number LetterBuffer = omega arith
refusal-number Party = omega arith
refusal-number Place = omega arith
refusal-number (Section k p) = omega arith
refusal-number Layer = omega arith
refusal-number Image = omega arith
refusal-number Damaged = omega arith
refusal-number Frame = omega arith

pub refusal-wordless : (f : Refusal) → (refusal_fields f).word ≡ no_word
refusal-wordless Length = refl
refusal-wordless Start = refl
refusal-wordless (Letter p) = refl
refusal-wordless (OffChart p) = refl
refusal-wordless NotClosed = refl
refusal-wordless (Touches p) = refl
refusal-wordless (BackStep k p) = refl
refusal-wordless (Dent k p l x) = refl
refusal-wordless (EdgeList e) = refl
refusal-wordless Cell = refl
refusal-wordless NothingAtWork = refl
refusal-wordless NoDraft = refl
refusal-wordless DraftOpen = refl
refusal-wordless DraftFull = refl
refusal-wordless Directions = refl
refusal-wordless NoOutline = refl
refusal-wordless LetterBuffer = refl
refusal-wordless Party = refl
refusal-wordless Place = refl
refusal-wordless (Section k p) = refl
refusal-wordless Layer = refl
refusal-wordless Image = refl
refusal-wordless Damaged = refl
refusal-wordless Frame = refl
