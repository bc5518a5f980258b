-- A weighed choice as one number, as the private functions carry it: the weight times 2 ^ 24, and the mask. What is proved of them is in proofs/Keys.antt.
use Rattle.std.specs.Prelude.{◌≡◌, cond, List, ℕ, zero, suc, ◌+◌, ◌*◌, ◌≤◌, ◌<◌, eqb, ltb, leb, get_or, Some, None}
use Rattle.numbers.specs.Sizes.{nodes}
use Rattle.quorum.specs.Choice.{Choice}
use Rattle.quorum.specs.declared.Kind.{Kind}
use Rattle.quorum.specs.declared.Kind.TheVariants.{Read, Write}
use Rattle.quorum.specs.Tree.{child}
use Rattle.quorum.specs.Levels.{alone_of}

-- the key of nothing, and of what is joined with nothing, is 2 ^ 56 or above
abbrev pub absent : ℕ
absent = 72057594037927936

abbrev pub key_of : ℕ → ℕ → ℕ
key_of m w = 16777216 * w + m

-- the key k means the choice, whose mask is at most b, and whose weight is at most what a sum of b weighs
abbrev pub Means : ℕ → ℕ → Choice → Type 0
Means b k None = absent ≤ k
Means b k (Some x) = (k ≡ key_of x.mask x.sum) × (x.mask ≤ b) × (x.sum ≤ 257 * b)

abbrev pub lesser_of : ℕ → ℕ → ℕ
lesser_of a b = cond (leb a b) a b

abbrev pub pair_key : ℕ → ℕ → ℕ → ℕ
pair_key a b c = lesser_of (a + b) (lesser_of (a + c) (b + c))

abbrev pub root_key : Kind → ℕ → ℕ → ℕ
root_key Read own pair = lesser_of own pair
root_key Write own pair = own + pair

-- the height of node i
abbrev pub height_of : ℕ → ℕ
height_of i = cond (eqb i 0) 2 (cond (ltb i 4) 1 0)

-- a list of keys means each node by itself, and none is above that of nothing
abbrev pub AllSmall : List ℕ → Type 0
AllSmall ks = (i : ℕ) → i < nodes → get_or ks i 0 ≤ absent

abbrev pub AllMean : ℕ → ℕ → List ℕ → List ℕ → Type 0
AllMean asker live d ks = (i : ℕ) → i < nodes → Means 65535 (get_or ks i 0) (alone_of asker live d (height_of i) i) × (get_or ks i 0 ≤ absent)

-- the key of the best set of the subtree of height h at node i, and of the best pair of its child subtrees, which have height h
unfoldable pub best_key : Kind → List ℕ → ℕ → ℕ → ℕ
best_key k ks zero i = get_or ks i 0
best_key k ks (suc h) i =
    root_key k (get_or ks i 0) (pair_key (best_key k ks h (child i 1)) (best_key k ks h (child i 2)) (best_key k ks h (child i 3)))

unfoldable pub best_pair_key : Kind → List ℕ → ℕ → ℕ → ℕ
best_pair_key k ks h i = pair_key (best_key k ks h (child i 1)) (best_key k ks h (child i 2)) (best_key k ks h (child i 3))
