-- When a set of nodes is a quorum. A set is its membership test, so a larger set that contains a quorum counts as one too.
use Rattle.std.specs.Prelude.{Bool, true, false, ◌&&◌, ◌||◌, ℕ, zero, suc}
use Rattle.mask.specs.Mask.{contains}
use Rattle.quorum.specs.declared.Kind.{Kind}
use Rattle.quorum.specs.declared.Kind.TheVariants.{Read, Write}
use Rattle.quorum.specs.Tree.{child, root, height}

-- two of the three
abbrev pub two_of : Bool → Bool → Bool → Bool
two_of true b c = b || c
two_of false b c = b && c

-- a read quorum is the root, or read quorums of two children; a write quorum is the root together with write quorums of two
abbrev pub rooted_by : Kind → Bool → Bool → Bool
rooted_by Read own pair = own || pair
rooted_by Write own pair = own && pair

-- a quorum of the subtree of height h at node i; for a leaf both kinds are the leaf
abbrev pub in_subtree : Kind → (ℕ → Bool) → ℕ → ℕ → Bool
in_subtree k has zero i = has i
in_subtree k has (suc h) i = rooted_by k (has i) (two_of (in_subtree k has h (child i 1)) (in_subtree k has h (child i 2)) (in_subtree k has h (child i 3)))

-- a quorum of the whole tree
unfoldable pub is_quorum : Kind → ℕ → Bool
is_quorum k m = in_subtree k (contains m) height root
