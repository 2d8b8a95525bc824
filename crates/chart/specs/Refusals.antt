-- The numbers of the refusals (contract 5). There is no 7, and 23 to 25 are faults of a file. The names are those of the C header.
use Rattle.std.specs.Prelude.{ℕ}

abbrev pub list_length : ℕ
list_length = 1

abbrev pub start : ℕ
start = 2

abbrev pub letter : ℕ
letter = 3

abbrev pub off_chart : ℕ
off_chart = 4

abbrev pub not_closed : ℕ
not_closed = 5

abbrev pub touches : ℕ
touches = 6

abbrev pub back_step : ℕ
back_step = 8

abbrev pub dent : ℕ
dent = 9

abbrev pub edge_list : ℕ
edge_list = 10

abbrev pub cell : ℕ
cell = 11

abbrev pub nothing_at_work : ℕ
nothing_at_work = 12

abbrev pub no_draft : ℕ
no_draft = 13

abbrev pub draft_open : ℕ
draft_open = 14

abbrev pub draft_full : ℕ
draft_full = 15

abbrev pub directions : ℕ
directions = 16

abbrev pub no_outline : ℕ
no_outline = 17

abbrev pub letter_buffer : ℕ
letter_buffer = 18

abbrev pub party : ℕ
party = 19

abbrev pub place : ℕ
place = 20

abbrev pub section : ℕ
section = 21

abbrev pub layer : ℕ
layer = 22

abbrev pub image : ℕ
image = 26

abbrev pub damaged : ℕ
damaged = 27

abbrev pub frame : ℕ
frame = 28
