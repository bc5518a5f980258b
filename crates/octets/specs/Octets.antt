-- Little-endian numbers of k bytes in a list of bytes. A byte past the end reads as 0, and writing it does nothing.
use Rattle.std.specs.Prelude.{ℕ, zero, suc, ◌+◌, ◌*◌, ◌/◌, ◌%◌, List, [], ◌∷◌, get_or, set}

-- the number that the k bytes from i make
unfoldable pub get : ℕ → List ℕ → ℕ → ℕ
get zero l i = 0
get (suc k) l i = get_or l i 0 + 256 * get k l (i + 1)

-- l with the k low bytes of v from i on
unfoldable pub put : ℕ → List ℕ → ℕ → ℕ → List ℕ
put zero l i v = l
put (suc k) l i v = put k (set l i (v % 256)) (i + 1) (v / 256)

-- the k low bytes of v
unfoldable pub le : ℕ → ℕ → List ℕ
le zero v = []
le (suc k) v = v % 256 ∷ le k (v / 256)
