-- The lesser of two keys means the lighter of two choices, and the sum of two keys means their join.
use mathlib.Core.Path.{◌≡◌, refl, sym, ap₂, subst}
use mathlib.Core.Bool.{Bool, true, false, cond}
use Prim.Native.Nat.{ℕ, ◌+◌, ◌-◌, ◌*◌, ◌/◌, ◌%◌, ◌≤◌, ◌<◌}
use native.Mathlib.Omega.{arith}
use lib.Dec.{T, ltb, leb, ltb→lt}
use borrow.Author.Tests.{leb-true, leb-false}
use mathlib.Core.List.{List}
use lib.ListN.{get_or}
use Rattle.std.specs.Prelude.{Some, None}
use Rattle.numbers.specs.Sizes.{nodes}
use Rattle.mask.specs.Mask.{bit}
use Rattle.quorum.specs.Choice.{Choice, quorum_with}
use Rattle.quorum.specs.declared.Kind.{Kind}
use Rattle.quorum.specs.declared.Kind.TheVariants.{Read, Write}
use Rattle.quorum.specs.Tree.{child}
use Rattle.quorum.specs.Levels.{lighter_of, both_of, alone_of, choose_pair, with_root, best_of}
use Rattle.quorum.specs.Key.{absent, Means, height_of, AllMean, lesser_of, pair_key, root_key, best_key}
use Rattle.quorum.proofs.Order.{by_key, not_by_key}
use Rattle.quorum.proofs.Near.{weighed}
use Rattle.quorum.proofs.Optimal.{passes}

-- ---- the lesser of two keys
lesser_cases : (P : ℕ → Type 0) (a b : ℕ) → (a ≤ b → P a) → (b < a → P b) → P (lesser_of a b)
lesser_cases P a b f g = by (leb a b) (leb-true a b) (leb-false a b)
  where
    by : (t : Bool) → (t ≡ true → a ≤ b) → (t ≡ false → b < a) → P (cond t a b)
    by true p q = f (p refl)
    by false p q = g (q refl)

pub lesser_most : (a b n : ℕ) → a ≤ n → b ≤ n → lesser_of a b ≤ n
lesser_most a b n p q = lesser_cases (λ (k : ℕ). k ≤ n) a b (λ h. p) (λ h. q)

-- bounds up to which a key stays below that of nothing
abbrev Small : ℕ → Type 0
Small b = b ≤ 8388608

wider : (b c k : ℕ) (x : Choice) → b ≤ c → Means b k x → Means c k x
wider b c k None h p = p
wider b c k (Some x) h p = (p.0, omega arith, omega arith)

means_lesser : (b c k j : ℕ) (x y : Choice) → Small b → Small c → Means b k x → Means c j y → Means (b + c) (lesser_of k j) (lighter_of x y)
means_lesser b c k j None None u v p q = lesser_cases (λ (i : ℕ). absent ≤ i) k j (λ h. p) (λ h. q)
means_lesser b c k j None (Some x) u v p q =
    lesser_cases (λ (i : ℕ). Means (b + c) i (Some x)) k j (λ h. absurd (omega arith)) (λ h. (q.0, omega arith, omega arith))
means_lesser b c k j (Some x) None u v p q =
    lesser_cases (λ (i : ℕ). Means (b + c) i (Some x)) k j (λ h. (p.0, omega arith, omega arith)) (λ h. absurd (omega arith))
means_lesser b c k j (Some x) (Some y) u v p q =
    lesser_cases (λ (i : ℕ). Means (b + c) i (lighter_of (Some x) (Some y))) k j
    (λ h. subst (Means (b + c) k) (sym (by_key x.mask x.sum y.mask y.sum (omega arith) (omega arith) (omega arith))) (p.0, omega arith, omega arith))
    (λ h. subst (Means (b + c) j) (sym (not_by_key x.mask x.sum y.mask y.sum (omega arith) (omega arith) (omega arith))) (q.0, omega arith, omega arith))

means_both : (b c k j : ℕ) (x y : Choice) → Means b k x → Means c j y → Means (b + c) (k + j) (both_of x y)
means_both b c k j None y p q = omega arith
means_both b c k j (Some x) None p q = omega arith
means_both b c k j (Some x) (Some y) p q = (omega arith, omega arith, omega arith)

-- ---- a pair, and a root with a pair
pub means_pair : (b i j k : ℕ) (x y z : Choice) → b ≤ 458745 → Means b i x → Means b j y → Means b k z
    → Means (6 * b) (pair_key i j k) (choose_pair x y z)
means_pair b i j k x y z h p q r =
    wider (b + b + (b + b + (b + b))) (6 * b) (pair_key i j k) (choose_pair x y z) (omega arith)
    (means_lesser (b + b) (b + b + (b + b)) (i + j) (lesser_of (i + k) (j + k)) (both_of x y) (lighter_of (both_of x z) (both_of y z)) (omega arith)
    (omega arith)
    (means_both b b i j x y p q)
    (means_lesser (b + b) (b + b) (i + k) (j + k) (both_of x z) (both_of y z) (omega arith) (omega arith)
    (means_both b b i k x z p r) (means_both b b j k y z q r)))

pub means_root : (t : Kind) (b c i j : ℕ) (x y : Choice) → b ≤ 65535 → c ≤ 2752470 → Means b i x → Means c j y
    → Means (b + c) (root_key t i j) (with_root t x y)
means_root Read b c i j x y u v p q = means_lesser b c i j x y (omega arith) (omega arith) p q
means_root Write b c i j x y u v p q = means_both b c i j x y p q

-- ---- how large they are
pub pair_most : (a b c n : ℕ) → a ≤ n → b ≤ n → c ≤ n → pair_key a b c ≤ 2 * n
pair_most a b c n p q r =
    lesser_most (a + b) (lesser_of (a + c) (b + c)) (2 * n) (omega arith) (lesser_most (a + c) (b + c) (2 * n) (omega arith) (omega arith))

pub root_most : (t : Kind) (a b x y : ℕ) → a ≤ x → b ≤ y → root_key t a b ≤ x + y
root_most Read a b x y p q = lesser_most a b (x + y) (omega arith) (omega arith)
root_most Write a b x y p q = omega arith

-- ---- the best set's key means the best set
module _ (k : Kind) (asker live : ℕ) (d ks : List ℕ) (f : AllMean asker live d ks) where
  at_height : (h i : ℕ) → i < nodes → height_of i ≡ h → Means 65535 (get_or ks i 0) (alone_of asker live d h i)
  at_height h i b e = subst (λ (j : ℕ). Means 65535 (get_or ks i 0) (alone_of asker live d j i)) e (f i b).0

  leaf : (i : ℕ) → i < nodes → height_of i ≡ 0 → Means 65535 (best_key k ks 0 i) (best_of k asker live d 0 i)
  unfolding best_key best_of
  leaf i b e = at_height 0 i b e

  abbrev key : ℕ → ℕ → ℕ → ℕ
  key h r i = best_key k ks h (child r i)

  abbrev set : ℕ → ℕ → ℕ → Choice
  set h r i = best_of k asker live d h (child r i)

  hall : (r : ℕ) → child r 3 < nodes → height_of r ≡ 1 → height_of (child r 1) ≡ 0 → height_of (child r 2) ≡ 0 → height_of (child r 3) ≡ 0
      → Means 458745 (best_key k ks 1 r) (best_of k asker live d 1 r)
  unfolding best_key best_of
  hall r b e a1 a2 a3 =
      means_root k 65535 393210 (get_or ks r 0) _ _ _ (omega arith) (omega arith) (at_height 1 r (omega arith) e)
      (means_pair 65535 (key 0 r 1) (key 0 r 2) (key 0 r 3) (set 0 r 1) (set 0 r 2) (set 0 r 3) (omega arith) (leaf (child r 1) (omega arith) a1)
      (leaf (child r 2) (omega arith) a2) (leaf (child r 3) b a3))

  pub means_best : Means 2818005 (best_key k ks 2 0) (best_of k asker live d 2 0)
  unfolding best_key best_of
  means_best =
      means_root k 65535 2752470 (get_or ks 0 0) _ _ _ (omega arith) (omega arith) (at_height 2 0 (omega arith) refl)
      (means_pair 458745 (key 1 0 1) (key 1 0 2) (key 1 0 3) (set 1 0 1) (set 1 0 2) (set 1 0 3) (omega arith) (hall 1 (omega arith) refl refl refl refl)
      (hall 2 (omega arith) refl refl refl refl) (hall 3 (omega arith) refl refl refl refl))

-- ---- the choice that a key means
pub meant : (asker z b k : ℕ) (x : Choice) → b ≤ 8388608 → z ≤ 255 → Means b k (weighed asker z x) → T (passes (λ (m : ℕ). ltb m 65536) x) → k < absent
    → (k % 65536 < 65536) × (k / 4294967296 < 4294967296) × (quorum_with (k % 65536) (k / 4294967296) ≡ x)
meant asker z b k None h g p t l = absurd (omega arith)
meant asker z b k (Some x) h g p t l =
    let y : x.mask < 65536 = ltb→lt x.mask 65536 t in
    let e : k ≡ 16777216 * (256 * x.sum + (z - bit x.mask asker)) + x.mask = p.0 in
    let u : k % 65536 ≡ x.mask = omega (arith, e) in
    let v : k / 4294967296 ≡ x.sum = omega (arith, e) in
    (omega arith, omega arith, ap₂ quorum_with u v)

pub meant_nothing : (asker z b k : ℕ) (x : Choice) → b ≤ 8388608 → Means b k (weighed asker z x) → absent ≤ k → None ≡ x
meant_nothing asker z b k None h p l = refl
meant_nothing asker z b k (Some x) h p l = absurd (omega arith)
