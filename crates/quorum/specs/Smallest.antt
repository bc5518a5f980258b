-- The smallest quorums, as a list of masks.
use Rattle.std.specs.Prelude.{List, [], ◌∷◌, ◌++◌, map, ℕ, zero, suc, ◌^◌}
use Rattle.mask.specs.Mask.{joined}
use Rattle.quorum.specs.declared.Kind.{Kind}
use Rattle.quorum.specs.declared.Kind.TheVariants.{Read, Write}
use Rattle.quorum.specs.Tree.{child, root, height}

-- every join of a set of the first list with one of the second
abbrev pub each : List ℕ → List ℕ → List ℕ
each [] bs = []
each (a ∷ rest) bs = map (λ (b : ℕ). joined a b) bs ++ each rest bs

-- quorums of two of three subtrees, from the lists of their quorums
abbrev pub pairs : List ℕ → List ℕ → List ℕ → List ℕ
pairs a b c = each a b ++ (each a c ++ each b c)

-- the root q alone or a pair; the root together with a pair
abbrev pub with_root_set : Kind → ℕ → List ℕ → List ℕ
with_root_set Read q ps = q ∷ ps
with_root_set Write q ps = map (λ (p : ℕ). joined q p) ps

-- the smallest quorums of the subtree of height h at node i
abbrev pub smallest_of : Kind → ℕ → ℕ → List ℕ
smallest_of k zero i = 2 ^ i ∷ []
smallest_of k (suc h) i = with_root_set k (2 ^ i) (pairs (smallest_of k h (child i 1)) (smallest_of k h (child i 2)) (smallest_of k h (child i 3)))

-- those of the whole tree: 49 to read, 27 to write
unfoldable pub smallest : Kind → List ℕ
smallest k = smallest_of k height root
