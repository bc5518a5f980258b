-- A set of nodes is a 16-bit mask, bit i for node i (document 01: controllers).
use Rattle.std.specs.Prelude.{Bool, cond, ℕ, ◌/◌, ◌%◌, ◌^◌, eqb, ltb}
use Rattle.std.specs.Int.Bits.{bit_and, bit_or, bit_xor}

-- bit i of m
abbrev pub bit : ℕ → ℕ → ℕ
bit m i = m / 2 ^ i % 2

-- node i is in m
abbrev pub contains : ℕ → ℕ → Bool
contains m i = eqb (bit m i) 1

-- the set of node i; a mask has no place for a node above 15
abbrev pub only : ℕ → ℕ
only i = cond (ltb i 16) (2 ^ i) 0

-- the nodes of either
abbrev pub joined : ℕ → ℕ → ℕ
joined a b = bit_or a b

-- the nodes of a that are not in b
abbrev pub minus : ℕ → ℕ → ℕ
minus a b = bit_xor a (bit_and a b)

-- every node of a is in b
abbrev pub within : ℕ → ℕ → Bool
within a b = eqb (bit_and a b) a
