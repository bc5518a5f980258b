-- The leaves of the halls, three by three: one of each three picked by a mask, their counts by addition, and that two of three are there where bit 1 of the
-- count is set.
use mathlib.Core.Path.{◌≡◌, refl, ap, ap₂, ◌∙◌}
use mathlib.Core.Bool.{Bool, true, false, cond}
use Prim.Native.Nat.{ℕ, zero, suc, ◌+◌, ◌*◌, ◌-◌, ◌/◌, ◌%◌, ◌^◌, ◌≤◌, ◌<◌, min}
use native.Mathlib.Nat.{mod-lt, zero-lt-suc}
use native.Mathlib.Omega.{arith}
use lib.Dec.{eqb}
use lib.Bits.{bit_and, and_step, and_zero_r}
use lib.Pow.{shr-shr}
use Rattle.mask.specs.Mask.{bit, contains}
use Rattle.mask.proofs.Laws.{bit_lt, bit_counted}
use Rattle.quorum.specs.Quorum.{two_of}
use Rattle.quorum.specs.Counts.{count_after, leaf_counts}

-- ---- one of each three
min_one : (x : ℕ) → x < 2 → min x 1 ≡ x
min_one zero h = refl
min_one (suc zero) h = refl
min_one (suc (suc x)) h = absurd (omega arith)

min_none : (x : ℕ) → x < 2 → min x 0 ≡ 0
min_none zero h = refl
min_none (suc zero) h = refl
min_none (suc (suc x)) h = absurd (omega arith)

and_one : (y n k : ℕ) → n % 2 ≡ 1 → n / 2 ≡ k → bit_and y n ≡ bit_and (y / 2) k * 2 + y % 2
and_one y n k e f =
    and_step y n ∙ ap₂ (λ (u v : ℕ). bit_and (y / 2) u * 2 + min (y % 2) v) f e
    ∙ ap (λ (x : ℕ). bit_and (y / 2) k * 2 + x) (min_one (y % 2) (mod-lt y (zero-lt-suc 1)))

and_none : (y n k : ℕ) → n % 2 ≡ 0 → n / 2 ≡ k → bit_and y n ≡ bit_and (y / 2) k * 2
and_none y n k e f =
    and_step y n ∙ ap₂ (λ (u v : ℕ). bit_and (y / 2) u * 2 + min (y % 2) v) f e
    ∙ ap (λ (x : ℕ). bit_and (y / 2) k * 2 + x) (min_none (y % 2) (mod-lt y (zero-lt-suc 1))) ∙ omega arith

thirds : (y : ℕ) → bit_and y 73 ≡ y % 2 + 8 * (y / 8 % 2) + 64 * (y / 64 % 2)
thirds y =
    let a : ℕ = y / 2 / 2 / 2 in
    let b : ℕ = a / 2 / 2 / 2 in
    let e : a ≡ y / 8 = omega arith in
    let f : b ≡ y / 64 = omega (arith, e) in
    let s : bit_and y 73 ≡ bit_and a 9 * 8 + y % 2 =
    omega (arith, and_one y 73 36 refl refl, and_none (y / 2) 36 18 refl refl, and_none (y / 2 / 2) 18 9 refl refl) in
    let t : bit_and a 9 ≡ bit_and b 1 * 8 + a % 2 =
    omega (arith, and_one a 9 4 refl refl, and_none (a / 2) 4 2 refl refl, and_none (a / 2 / 2) 2 1 refl refl) in
    let u : bit_and b 1 ≡ b % 2 = omega (arith, and_one b 1 0 refl refl, and_zero_r (b / 2)) in
    s ∙ omega (arith, t, u) ∙ ap₂ (λ (p q : ℕ). y % 2 + 8 * (p % 2) + 64 * (q % 2)) e f

pub thirds_of : (m j : ℕ) → bit_and (m / 2 ^ j) 73 ≡ bit m j + 8 * bit m (j + 3) + 64 * bit m (j + 6)
thirds_of m j = thirds (m / 2 ^ j) ∙ ap₂ (λ (p q : ℕ). m / 2 ^ j % 2 + 8 * (p % 2) + 64 * (q % 2)) (shr-shr m j 3) (shr-shr m j 6)

pub thirds_small : (m j : ℕ) → bit_and (m / 2 ^ j) 73 ≤ 73
thirds_small m j = omega (arith, thirds_of m j, bit_lt m j, bit_lt m (j + 3), bit_lt m (j + 6))

-- ---- their counts
pub counted : (m : ℕ) → bit_and (m / 16) 73 + bit_and (m / 16 / 2) 73 + bit_and (m / 16 / 4) 73 ≡ leaf_counts m
counted m =
    ap₂ (λ (u v : ℕ). bit_and (m / 16) 73 + bit_and u 73 + bit_and v 73) (shr-shr m 4 1) (shr-shr m 4 2)
    ∙ omega (arith, thirds_of m 4, thirds_of m 5, thirds_of m 6)

-- ---- two of three
two_counted : (a b c : Bool) → eqb ((cond a 1 0 + cond b 1 0 + cond c 1 0) / 2) 1 ≡ two_of a b c
two_counted true true true = refl
two_counted true true false = refl
two_counted true false true = refl
two_counted true false false = refl
two_counted false true true = refl
two_counted false true false = refl
two_counted false false true = refl
two_counted false false false = refl

two_after : (m i : ℕ) → eqb (count_after m i / 2) 1 ≡ two_of (contains m (i + 1)) (contains m (i + 2)) (contains m (i + 3))
two_after m i =
    ap (λ (x : ℕ). eqb ((x + bit m (i + 2) + bit m (i + 3)) / 2) 1) (bit_counted m (i + 1))
    ∙ ap (λ (x : ℕ). eqb ((cond (contains m (i + 1)) 1 0 + x + bit m (i + 3)) / 2) 1) (bit_counted m (i + 2))
    ∙ ap (λ (x : ℕ). eqb ((cond (contains m (i + 1)) 1 0 + cond (contains m (i + 2)) 1 0 + x) / 2) 1) (bit_counted m (i + 3))
    ∙ two_counted (contains m (i + 1)) (contains m (i + 2)) (contains m (i + 3))

few : (m i : ℕ) → count_after m i ≤ 3
few m i = omega (arith, bit_lt m (i + 1), bit_lt m (i + 2), bit_lt m (i + 3))

first_count : (a b c : ℕ) → a ≤ 3 → (a + 8 * b + 64 * c) / 2 % 2 ≡ a / 2
first_count a b c h = omega arith

second_count : (a b c : ℕ) → a ≤ 3 → b ≤ 3 → (a + 8 * b + 64 * c) / 16 % 2 ≡ b / 2
second_count a b c h g = omega arith

third_count : (a b c : ℕ) → a ≤ 3 → b ≤ 3 → c ≤ 3 → (a + 8 * b + 64 * c) / 128 % 2 ≡ c / 2
third_count a b c h g f = omega arith

pub two_in_hall : (m h : ℕ) → 1 ≤ h → h ≤ 3
    → contains (leaf_counts m) (3 * h - 2) ≡ two_of (contains m (3 * h + 1)) (contains m (3 * h + 2)) (contains m (3 * h + 3))
two_in_hall m zero l u = absurd (omega arith)
two_in_hall m (suc zero) l u =
    ap (λ (x : ℕ). eqb x 1) (first_count (count_after m 3) (count_after m 6) (count_after m 9) (few m 3)) ∙ two_after m 3
two_in_hall m (suc (suc zero)) l u =
    ap (λ (x : ℕ). eqb x 1) (second_count (count_after m 3) (count_after m 6) (count_after m 9) (few m 3) (few m 6)) ∙ two_after m 6
two_in_hall m (suc (suc (suc zero))) l u =
    ap (λ (x : ℕ). eqb x 1) (third_count (count_after m 3) (count_after m 6) (count_after m 9) (few m 3) (few m 6) (few m 9)) ∙ two_after m 9
two_in_hall m (suc (suc (suc (suc h)))) l u = absurd (omega arith)
