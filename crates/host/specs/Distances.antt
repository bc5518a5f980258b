-- Thirteen distances as 26 bytes, two little-endian bytes each, node 0 first.
use Rattle.std.specs.Prelude.{List, [], ◌∷◌, ℕ, zero, suc, ◌+◌}
use Rattle.numbers.specs.Sizes.{nodes}
use Rattle.octets.specs.Octets.{get}

-- n numbers of two bytes from i on
unfoldable pub pairs_of : ℕ → List ℕ → ℕ → List ℕ
pairs_of zero l i = []
pairs_of (suc n) l i = get 2 l i ∷ pairs_of n l (i + 2)

unfoldable pub distances_of : List ℕ → List ℕ
distances_of l = pairs_of nodes l 0
