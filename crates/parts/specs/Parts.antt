-- A part of a list of bytes, the list with that part replaced, and a list laid into so many bytes.
use Rattle.std.specs.Prelude.{List, [], ◌∷◌, ◌++◌, ℕ, zero, suc, ◌+◌, take, drop}

-- the n bytes from a on
unfoldable pub part : ℕ → ℕ → List ℕ → List ℕ
part n a l = take n (drop a l)

-- l with m in the place of the n bytes from a on
unfoldable pub splice : ℕ → ℕ → List ℕ → List ℕ → List ℕ
splice n a m l = take a l ++ (m ++ drop n (drop a l))

-- the first n of a list, zeros where it has fewer
unfoldable pub padded : ℕ → List ℕ → List ℕ
padded zero l = []
padded (suc n) [] = 0 ∷ padded n []
padded (suc n) (x ∷ l) = x ∷ padded n l
