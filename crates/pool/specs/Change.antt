-- What is left of a pool when a message is added or removed. A refusal leaves every byte as it was.
use Rattle.std.specs.Prelude.{cond, not, List, [], ◌∷◌, ℕ, ◌+◌, ◌-◌, ◌*◌, eqb, ltb, leb, length, set, drop, replicate}
use Rattle.std.proofs.Math.Seq.{paste}
use Rattle.numbers.specs.Numbers.{wrong_length, damaged, out_of_turn, pool_full}
use Rattle.numbers.specs.Sizes.{longest_message, most_waiting}
use Rattle.numbers.specs.Refusal.{Refusal, refuse, first_of}
use Rattle.pool.specs.Pool.{slot_size, pool_size, slot_place, count, check}

-- ---- a message at the pool's end
-- its length and its bytes in the slot that starts at `at`; the rest of the slot is untouched
unfoldable pub stored : List ℕ → ℕ → List ℕ → List ℕ
stored l at m = paste (set l at (length m)) (at + 1) m (length m)

-- at the slot behind the last, and the count one higher
unfoldable pub added : List ℕ → List ℕ → List ℕ
added l m = set (stored l (slot_place (count l)) m) 0 (count l + 1)

-- 1 for a pool of another length or a message above 128 bytes, 2 damaged, 12 for a pool with 128 messages
unfoldable pub add_refusals : List ℕ → ℕ → List Refusal
add_refusals l size =
    refuse wrong_length (eqb (check l) wrong_length) ∷ refuse wrong_length (ltb longest_message size)
    ∷ refuse damaged (eqb (check l) damaged) ∷ refuse pool_full (leb most_waiting (count l)) ∷ []

unfoldable pub add_number : List ℕ → ℕ → ℕ
add_number l size = first_of (add_refusals l size)

unfoldable pub add_after : List ℕ → List ℕ → List ℕ
add_after l m = cond (eqb (add_number l (length m)) 0) (added l m) l

-- ---- the k-th message gone
-- n bytes from `at` on are those that stood one slot further
unfoldable pub moved : List ℕ → ℕ → ℕ → List ℕ
moved l at n = paste l at (drop (at + slot_size) l) n

-- the slots behind k one place down, the last slot's bytes as they were, and the count one lower
unfoldable pub removed : List ℕ → ℕ → List ℕ
removed l k = set (moved l (slot_place k) (slot_size * (count l - 1 - k))) 0 (count l - 1)

-- 1 another length, 2 damaged, 5 no such message waits
unfoldable pub remove_refusals : List ℕ → ℕ → List Refusal
remove_refusals l k = refuse (check l) (not (eqb (check l) 0)) ∷ refuse out_of_turn (leb (count l) k) ∷ []

unfoldable pub remove_number : List ℕ → ℕ → ℕ
remove_number l k = first_of (remove_refusals l k)

unfoldable pub remove_after : List ℕ → ℕ → List ℕ
remove_after l k = cond (eqb (remove_number l k) 0) (removed l k) l

-- ---- nothing waits: all zeros; 1 for another length
unfoldable pub blank : List ℕ
blank = replicate pool_size 0

unfoldable pub blank_number : List ℕ → ℕ
blank_number l = cond (eqb (length l) pool_size) 0 wrong_length

unfoldable pub blank_after : List ℕ → List ℕ
blank_after l = cond (eqb (length l) pool_size) blank l
