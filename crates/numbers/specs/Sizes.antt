-- How many there are of everything, and the highest numbers: each said here and nowhere else.
use Rattle.std.specs.Prelude.{ℕ}

-- "Controllers are 0 to 12": how many nodes there are, and all of them as a mask
abbrev pub nodes : ℕ
nodes = 13

abbrev pub every_node : ℕ
every_node = 8191

-- stands where a node could stand and there is none ("255 for none")
abbrev pub nobody : ℕ
nobody = 255

-- an author whom an older image did not keep
abbrev pub unknown : ℕ
unknown = 254

-- tallies are "numbered 0 to 127"
abbrev pub objects : ℕ
objects = 128

-- how many objects one transaction may open: a ninth is refused
abbrev pub most_open : ℕ
most_open = 8

-- the highest serial, timestamp and version, of 32 bits
abbrev pub highest : ℕ
highest = 4294967295

-- "The longest message has 128 bytes, the shortest 15"
abbrev pub shortest_message : ℕ
shortest_message = 15

abbrev pub longest_message : ℕ
longest_message = 128

-- "The pool lists up to 128 messages"
abbrev pub most_waiting : ℕ
most_waiting = 128
