-- What `all` says of the numbers below n is what `each` says.
use mathlib.Core.Path.{◌≡◌, sym, ap, ◌∙◌}
use mathlib.Core.Bool.{Bool, ◌&&◌, and-true}
use Prim.Native.Nat.{ℕ, zero, suc, ◌+◌}
use native.Mathlib.Omega.{arith}
use Rattle.std.specs.List.{list_all, range_with_len}
use Rattle.std.proofs.Math.Bool.{and_assoc}
use Rattle.image.specs.Valid.{each}
use Rattle.image.proofs.Each.{each_more}

-- n more numbers, from a on
each_from : (p : ℕ → Bool) (a n : ℕ) → each (a + n) p ≡ (each a p && list_all p (range_with_len a n))
each_from p a zero = let e : a + 0 ≡ a = omega arith in ap (λ (k : ℕ). each k p) e ∙ sym (and-true (each a p))
each_from p a (suc n) =
    let e : a + suc n ≡ a + 1 + n = omega arith in
    let rest = list_all p (range_with_len (a + 1) n) in
    ap (λ (k : ℕ). each k p) e ∙ each_from p (a + 1) n ∙ ap (λ (b : Bool). b && rest) (each_more p a) ∙ and_assoc (each a p) (p a) rest

pub each_range : (p : ℕ → Bool) (n : ℕ) → list_all p (range_with_len 0 n) ≡ each n p
unfolding each
each_range p n = let e : 0 + n ≡ n = omega arith in sym (each_from p 0 n) ∙ ap (λ (k : ℕ). each k p) e
