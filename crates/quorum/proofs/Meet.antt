-- Every read quorum meets every write quorum, by induction on the height: both have the root, or two of three children in each share one.
use mathlib.Core.Bool.{Bool, true, false, ◌||◌}
use Prim.Native.Nat.{ℕ, zero, suc}
use lib.Dec.{T}
use Rattle.mask.proofs.Tests.{and_left, and_right, and_both, or_left, or_right, or_cases}
use Rattle.quorum.specs.declared.Kind.{Kind}
use Rattle.quorum.specs.declared.Kind.TheVariants.{Read, Write}
use Rattle.quorum.specs.Tree.{child}
use Rattle.quorum.specs.Quorum.{two_of, rooted_by, in_subtree}

-- two of three and two of three share one
share : (P : Type 0) (a b c x y z : Bool) → (T a → T x → P) → (T b → T y → P) → (T c → T z → P) → T (two_of a b c) → T (two_of x y z) → P
share P true true c true y z f g h s t = f tt tt
share P true true c false true z f g h s t = g tt tt
share P true true c false false z f g h s t = absurd t
share P true false true true y z f g h s t = f tt tt
share P true false true false true true f g h s t = h tt tt
share P true false true false true false f g h s t = absurd t
share P true false true false false z f g h s t = absurd t
share P true false false x y z f g h s t = absurd s
share P false true true true true z f g h s t = g tt tt
share P false true true true false true f g h s t = h tt tt
share P false true true true false false f g h s t = absurd t
share P false true true false true z f g h s t = g tt tt
share P false true true false false z f g h s t = absurd t
share P false true false x y z f g h s t = absurd s
share P false false c x y z f g h s t = absurd s

-- a node that two sets share
abbrev pub Shared : (ℕ → Bool) → (ℕ → Bool) → Type 0
Shared p q = (i : ℕ) × T (p i) × T (q i)

pub meet : (p q : ℕ → Bool) (h r : ℕ) → T (in_subtree Read p h r) → T (in_subtree Write q h r) → Shared p q
meet p q zero r s t = (r, s, t)
meet p q (suc h) r s t =
    or_cases (Shared p q) (p r) _ (λ u. (r, u, and_left (q r) _ t))
    (λ u. share (Shared p q) (in_subtree Read p h (child r 1)) (in_subtree Read p h (child r 2)) (in_subtree Read p h (child r 3))
    (in_subtree Write q h (child r 1)) (in_subtree Write q h (child r 2)) (in_subtree Write q h (child r 3))
    (meet p q h (child r 1)) (meet p q h (child r 2)) (meet p q h (child r 3)) u (and_right (q r) _ t))
    s

-- a write quorum has its root
pub write_root : (q : ℕ → Bool) (h r : ℕ) → T (in_subtree Write q h r) → T (q r)
write_root q zero r t = t
write_root q (suc h) r t = and_left (q r) _ t

-- ---- a larger set counts as a quorum too
two_larger : (a b c x y z : Bool) → (T a → T x) → (T b → T y) → (T c → T z) → T (two_of a b c) → T (two_of x y z)
two_larger true b c true y z f g h t = or_cases (T (y || z)) b c (λ s. or_left y z (g s)) (λ s. or_right y z (h s)) t
two_larger true b c false y z f g h t = absurd (f tt)
two_larger false b c true y z f g h t = or_left y z (g (and_left b c t))
two_larger false b c false y z f g h t = and_both y z (g (and_left b c t)) (h (and_right b c t))

root_larger : (k : Kind) (a b x y : Bool) → (T a → T x) → (T b → T y) → T (rooted_by k a b) → T (rooted_by k x y)
root_larger Read a b x y f g t = or_cases (T (x || y)) a b (λ s. or_left x y (f s)) (λ s. or_right x y (g s)) t
root_larger Write a b x y f g t = and_both x y (f (and_left a b t)) (g (and_right a b t))

pub larger : (k : Kind) (p q : ℕ → Bool) → ((i : ℕ) → T (p i) → T (q i)) → (h r : ℕ) → T (in_subtree k p h r) → T (in_subtree k q h r)
larger k p q f zero r t = f r t
larger k p q f (suc h) r t =
    root_larger k (p r) _ (q r) _ (f r)
    (two_larger (in_subtree k p h (child r 1)) (in_subtree k p h (child r 2)) (in_subtree k p h (child r 3))
    (in_subtree k q h (child r 1)) (in_subtree k q h (child r 2)) (in_subtree k q h (child r 3))
    (larger k p q f h (child r 1)) (larger k p q f h (child r 2)) (larger k p q f h (child r 3)))
    t
