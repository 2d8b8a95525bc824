-- Lines as text: three numbers in decimal, separated by single spaces, and a line feed (contract 11.4).
use Rattle.std.specs.Prelude.{ℕ, zero, suc, ◌+◌, ◌/◌, ◌%◌, cond, List, [], ◌∷◌, ◌++◌, ltb}
use Rattle.text_lines.specs.declared.Line.{Line}

-- A space, a line feed, and a digit
abbrev pub space : ℕ
space = 32

abbrev pub line_feed : ℕ
line_feed = 10

abbrev pub digit : ℕ → ℕ
digit d = 48 + d

-- The digits of a number, at most k: those of a tenth of it, unless that is 0, and the last one
unfoldable pub digits : ℕ → ℕ → List ℕ
digits zero n = []
digits (suc k) n = cond (ltb n 10) [] (digits k (n / 10)) ++ (digit (n % 10) ∷ [])

-- A number in decimal. n has at most n + 1 digits
unfoldable pub decimal : ℕ → List ℕ
decimal n = digits (suc n) n

-- A number and the byte after it
unfoldable pub field_text : ℕ → ℕ → List ℕ
field_text n b = decimal n ++ (b ∷ [])

unfoldable pub line_text : Line → List ℕ
line_text l = field_text l.number space ++ (field_text l.answer space ++ field_text l.place line_feed)

unfoldable pub text_of : List Line → List ℕ
text_of [] = []
text_of (l ∷ ls) = line_text l ++ text_of ls
