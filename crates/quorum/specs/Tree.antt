-- The ternary tree of nodes 0 to 12 (document 01: controllers).
use Rattle.std.specs.Prelude.{List, [], ◌∷◌, ◌++◌, ℕ, zero, suc, ◌+◌, ◌*◌}

-- the j-th child of node i, for j from 1 to 3
abbrev pub child : ℕ → ℕ → ℕ
child i j = 3 * i + j

-- the root of the whole tree, and its height: the root has height 2, its children 1, the leaves 0
abbrev pub root : ℕ
root = 0

abbrev pub height : ℕ
height = 2

-- the leaves of the subtree of this height at this node
abbrev pub leaves : ℕ → ℕ → List ℕ
leaves zero i = i ∷ []
leaves (suc h) i = leaves h (child i 1) ++ leaves h (child i 2) ++ leaves h (child i 3)

-- the highest node of that subtree
abbrev pub last : ℕ → ℕ → ℕ
last zero i = i
last (suc h) i = last h (child i 3)
