-- Document 01's table 'Numbers and their words', and document 02's new numbers. What each stands for is said by the refusals of each call.
use Rattle.std.specs.Prelude.{ℕ}

-- length
abbrev pub wrong_length : ℕ
wrong_length = 1

abbrev pub damaged : ℕ
damaged = 2

abbrev pub garbled : ℕ
garbled = 3

abbrev pub stranger : ℕ
stranger = 4

abbrev pub out_of_turn : ℕ
out_of_turn = 5

-- no such tally
abbrev pub no_such_object : ℕ
no_such_object = 6

abbrev pub eight_open : ℕ
eight_open = 7

abbrev pub no_quorum : ℕ
no_quorum = 8

-- number used up
abbrev pub used_up : ℕ
used_up = 9

abbrev pub busy : ℕ
busy = 10

abbrev pub not_ready : ℕ
not_ready = 11

abbrev pub pool_full : ℕ
pool_full = 12

-- closed (document 02, 2.1)
abbrev pub outside_hours : ℕ
outside_hours = 13

-- bounds, and then tally twice (document 02, 2.2)
abbrev pub bad_bounds : ℕ
bad_bounds = 14

abbrev pub tally_twice : ℕ
tally_twice = 15
