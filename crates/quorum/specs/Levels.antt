-- The choice made level by level: a subtree's best set comes from its children's best pairs, and a pair's from the subtrees one level down. The choices
-- here are weighed: beside its mask a set has one number, its weight, which puts the sum of its distances first and then whether the asker is in it.
-- Weights of sets that share no node add.
use Rattle.std.specs.Prelude.{Bool, cond, ◌&&◌, ◌||◌, List, ℕ, zero, suc, ◌+◌, ◌-◌, ◌*◌, ◌^◌, eqb, ltb, leb, get_or, Some, None}
use Rattle.mask.specs.Mask.{contains}
use Rattle.quorum.specs.Choice.{Choice, quorum_with}
use Rattle.quorum.specs.declared.Kind.{Kind}
use Rattle.quorum.specs.declared.Kind.TheVariants.{Read, Write}
use Rattle.quorum.specs.Tree.{child}

-- the turns of node i as a member of a subtree whose top it is: twice as many with each level, so that all sets which are compared have equally many, but
-- for the asker, who has one less
abbrev pub turns_of : ℕ → ℕ → ℕ → ℕ
turns_of asker h i = 2 ^ h - cond (eqb i asker) 1 0

-- one node by itself, if it is live
abbrev pub alone_of : ℕ → ℕ → List ℕ → ℕ → ℕ → Choice
alone_of asker live d h i = cond (contains live i) (quorum_with (2 ^ i) (256 * get_or d i 0 + turns_of asker h i)) None

-- the set m of weight v goes before the set n of weight w
abbrev pub lighter : ℕ → ℕ → ℕ → ℕ → Bool
lighter m v n w = ltb v w || eqb v w && leb m n

-- of two choices the lighter
abbrev pub lighter_of : Choice → Choice → Choice
lighter_of None b = b
lighter_of (Some x) None = Some x
lighter_of (Some x) (Some y) = cond (lighter x.mask x.sum y.mask y.sum) (Some x) (Some y)

-- two choices of sets that share no node, joined, so that masks and weights add: nothing unless both are there
abbrev pub both_of : Choice → Choice → Choice
both_of None b = None
both_of (Some x) None = None
both_of (Some x) (Some y) = quorum_with (x.mask + y.mask) (x.sum + y.sum)

-- the lightest join of two of three
abbrev pub choose_pair : Choice → Choice → Choice → Choice
choose_pair a b c = lighter_of (both_of a b) (lighter_of (both_of a c) (both_of b c))

-- the root or a pair, the root with a pair
abbrev pub with_root : Kind → Choice → Choice → Choice
with_root Read own pair = lighter_of own pair
with_root Write own pair = both_of own pair

-- the best set of the subtree of height h at node i
unfoldable pub best_of : Kind → ℕ → ℕ → List ℕ → ℕ → ℕ → Choice
best_of k asker live d zero i = alone_of asker live d 0 i
best_of k asker live d (suc h) i =
    with_root k (alone_of asker live d (suc h) i)
    (choose_pair (best_of k asker live d h (child i 1)) (best_of k asker live d h (child i 2)) (best_of k asker live d h (child i 3)))
