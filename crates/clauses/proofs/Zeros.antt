-- Every number of a list is 0: the test `zeros` as a fact, a list of zeros.
use mathlib.Core.Path.{◌≡◌, refl}
use mathlib.Core.List.{List, [], ◌∷◌}
use Prim.Native.Nat.{ℕ, zero, suc}
use lib.Dec.{T, eqb, eqb→eq}
use lib.ListN.{length, replicate}
use Rattle.mask.proofs.Tests.{and_left, and_right}
use Rattle.clauses.specs.Clauses.{zeros}

pub zeros_are : (l : List ℕ) → T (zeros l) → l ≡ replicate (length l) 0
unfolding zeros
zeros_are [] t = refl
zeros_are (x ∷ l) t =
    let a : x ≡ 0 = eqb→eq x 0 (and_left (eqb x 0) (zeros l) t) in
    let b = zeros_are l (and_right (eqb x 0) (zeros l) t) in
    cc

pub are_zeros : (n : ℕ) → T (zeros (replicate n 0))
unfolding zeros
are_zeros zero = tt
are_zeros (suc n) = are_zeros n
