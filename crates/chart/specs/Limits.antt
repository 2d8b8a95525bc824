-- The sizes fixed by the contract (contract 1.1 and 1.4).
use Rattle.std.specs.Prelude.{ℕ}

-- Columns and rows of cells are numbered below this; those of corners go up to it
abbrev pub side : ℕ
side = 255

-- How many columns and rows of corners there are
abbrev pub corners : ℕ
corners = 256

-- The least and the largest number of letters of an outline
abbrev pub shortest : ℕ
shortest = 4

abbrev pub longest : ℕ
longest = 612

-- Room for the edges of every taken outline: two numbers for each of 100 edges (contract 3.12)
abbrev pub most_numbers : ℕ
most_numbers = 200

-- The longest list of edges that a loose query accepts, in numbers
abbrev pub longest_list : ℕ
longest_list = 2032
