-- Writing a number ends because a tenth of it is smaller.
use Rattle.text_lines.proofs.+put_number.Given as goal

abbrev pub decreases-put_number : goal.decreases-put_number
decreases-put_number l = l.n
