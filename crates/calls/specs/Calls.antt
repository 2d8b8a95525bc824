-- Parties and places, and the calls of a party (contract 7.1 and 7.2).
use Rattle.std.specs.Prelude.{ℕ, Bool, leb}
use Rattle.calls.specs.declared.Call.{Call}
use Rattle.calls.specs.declared.Action.{Action}

-- The number of parties, and of places for each party
abbrev pub parties : ℕ
parties = 2

abbrev pub places : ℕ
places = 4

-- Refusals 19 and 20 (contract 5)
abbrev pub bad_party : ℕ → Bool
bad_party p = leb parties p

abbrev pub bad_place : ℕ → Bool
bad_place k = leb places k

-- Party p's call with action a
abbrev pub by : ℕ → Action → Call
by p a = record { party = p; action = a }
