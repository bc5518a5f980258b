-- The nearness rule: of the sets of a list that are inside live, the one with the least sum of distances; of equal sums one with the asker first, and then
-- the lowest mask. An asker above node 12 is in no set.
use Rattle.std.specs.Prelude.{Bool, cond, ◌&&◌, ◌||◌, List, [], ◌∷◌, ℕ, ◌+◌, ◌*◌, ◌/◌, ◌%◌, eqb, ltb, leb, Some, None}
use Rattle.numbers.specs.Numbers.{no_quorum}
use Rattle.mask.specs.Mask.{bit, within}
use Rattle.quorum.specs.Choice.{Choice, quorum_with}

-- the sum of the distances of a set's nodes: node 0's distance if its bit is set, then the same of the nodes above it
abbrev pub distance : List ℕ → ℕ → ℕ
distance [] q = 0
distance (x ∷ d) q = q % 2 * x + distance d (q / 2)

-- of sets with equal sums m goes before n: it has the asker and n has not, or both or neither have and its mask is not the higher
abbrev pub ahead : ℕ → ℕ → ℕ → Bool
ahead asker m n = ltb (bit n asker) (bit m asker) || eqb (bit m asker) (bit n asker) && leb m n

-- the set m with sum s comes before the set n with sum t
abbrev pub nearer : ℕ → ℕ → ℕ → ℕ → ℕ → Bool
nearer asker m s n t = ltb s t || eqb s t && ahead asker m n

-- of two choices the nearer
abbrev pub better_of : ℕ → Choice → Choice → Choice
better_of asker None b = b
better_of asker (Some p) None = Some p
better_of asker (Some p) (Some q) = cond (nearer asker p.mask p.sum q.mask q.sum) (Some p) (Some q)

-- a set with its sum, if it is inside live
abbrev pub one_of : ℕ → List ℕ → ℕ → Choice
one_of live d q = cond (within q live) (quorum_with q (distance d q)) None

-- the nearest of a list of sets; nothing exactly when none is inside live
abbrev pub nearest_of : ℕ → ℕ → List ℕ → List ℕ → Choice
nearest_of asker live d [] = None
nearest_of asker live d (q ∷ qs) = better_of asker (one_of live d q) (nearest_of asker live d qs)

-- document 01's number and values of a choice
abbrev pub number_of : Choice → ℕ
number_of None = no_quorum
number_of (Some q) = 0

abbrev pub mask_of : Choice → ℕ
mask_of None = 0
mask_of (Some q) = q.mask

abbrev pub sum_of : Choice → ℕ
sum_of None = 0
sum_of (Some q) = q.sum
