-- What a call comes to: what it answers, or why it is refused. Each refusal has its number; 0 is the number of none.
use Rattle.std.specs.Prelude.{ℕ, Result, Ok, Err}
use Rattle.numbers.specs.declared.refusals.Refusal.{Refusal}
use Rattle.numbers.specs.declared.refusals.Refusal.TheVariants.{Length, Damaged, Garbled, Stranger, OutOfTurn, NoSuchObject, EightOpen, NoQuorum, UsedUp, Busy}
use Rattle.numbers.specs.declared.refusals.Refusal.TheVariants.{NotReady, PoolFull, Closed, Bounds, TallyTwice}
use Rattle.numbers.specs.Numbers.{wrong_length, damaged, garbled, stranger, out_of_turn, no_such_object, eight_open, no_quorum, used_up, busy, not_ready}
use Rattle.numbers.specs.Numbers.{pool_full, outside_hours, bad_bounds, tally_twice}

-- the number of a refusal
abbrev pub code_of : Refusal → ℕ
code_of Length = wrong_length
code_of Damaged = damaged
code_of Garbled = garbled
code_of Stranger = stranger
code_of OutOfTurn = out_of_turn
code_of NoSuchObject = no_such_object
code_of EightOpen = eight_open
code_of NoQuorum = no_quorum
code_of UsedUp = used_up
code_of Busy = busy
code_of NotReady = not_ready
code_of PoolFull = pool_full
code_of Closed = outside_hours
code_of Bounds = bad_bounds
code_of TallyTwice = tally_twice

-- the number that a call answers
abbrev pub number_of : {A : Type 0} → Result A Refusal → ℕ
number_of (Ok x) = 0
number_of (Err r) = code_of r
