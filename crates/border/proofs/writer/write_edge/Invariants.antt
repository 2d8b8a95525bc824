-- The loop keeps the remainder after the letters written.
use Rattle.std.proofs.Common.{◌≡◌, ◌+◌, ◌*◌, ◌%◌, take}
use Rattle.words.specs.Counted.{listed, counted_letter}
use Rattle.convexity.specs.Frame.{frame_of}
use Rattle.convexity.specs.parts.InFrame.{spell}
use Rattle.border.proofs.writer.write_edge.Given as goal

abbrev pub invariant-loop-letter : goal.invariant-loop-letter
invariant-loop-letter l =
    (l.rem ≡ l.letter-index * l.rise % (l.run + l.rise))
    × (take l.letter-index l.letter-items
    ≡ spell (frame_of l.k) (listed (counted_letter l.rise (l.run + l.rise)) l.letter-index))
