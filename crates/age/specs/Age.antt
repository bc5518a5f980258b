-- The age of a transaction (document 01: booking) is its timestamp (stamp) and its owner.
use Rattle.std.specs.Prelude.{Bool, cond, ◌&&◌, ◌||◌, ℕ, eqb, ltb, leb}

-- a smaller timestamp is older; of equal timestamps, the lower owner is older
abbrev pub older : ℕ → ℕ → ℕ → ℕ → Bool
older timestamp owner other otherOwner = ltb timestamp other || eqb timestamp other && ltb owner otherOwner

-- Of a node's own transactions: a timestamp comes too early below the last one and, unless the last one was sent back (aborted), at it. "Whoever was sent
-- back keeps his place": "after an abort, begin takes the last stamp or any above it", "after a commit the stamp must still rise" (document 02, 2.7).
abbrev pub too_early : Bool → ℕ → ℕ → Bool
too_early sentBack last timestamp = cond sentBack (ltb timestamp last) (leb timestamp last)
