-- The laws of masks: what each operation says of each node, and that a mask is its nodes. By the bits of a number, digit by digit.
use mathlib.Core.Path.{◌≡◌, refl, sym, ap, ◌∙◌, subst}
use mathlib.Core.Bool.{Bool, true, false, not, cond, ◌&&◌, ◌||◌}
use Prim.Native.Nat.{ℕ, zero, suc, ◌+◌, ◌-◌, ◌/◌, ◌%◌, ◌^◌, ◌≤◌, ◌<◌, min, max}
use native.Mathlib.Nat.{mod-lt, lt_of_le_of_lt, min-le_left, zero-lt-suc, pow-suc, zero-div, div-add-mod', div-one, div_self, div-eq_of_lt}
use native.Mathlib.Omega.{arith}
use lib.Arith.{digits_mod, bin_ind}
use lib.Bits.{bit_and, bit_or, bit_xor, and_step, or_step, xor_step, and_shr, or_shr, xor_shr, differ}
use lib.Pow.{shr-shr, pow-add, pow_pos, pow-lt, pow_mono, shl-shr}
use lib.Dec.{T, eqb, eqb→eq, eqb_refl}
use borrow.Author.Tests.{lt-ltb}
use Rattle.mask.specs.Mask.{bit, contains, only, within, minus}
use Rattle.mask.proofs.Tests.{same_test, and_both, and_left, and_right, or_left, or_right, or_cases, compared}

pub bit_lt : (m i : ℕ) → bit m i < 2
bit_lt m i = mod-lt (m / 2 ^ i) (zero-lt-suc 1)

-- a node that is in a mask counts 1
pub bit_counted : (m i : ℕ) → bit m i ≡ cond (contains m i) 1 0
bit_counted m i = by (bit m i) (bit_lt m i)
  where
    by : (x : ℕ) → x < 2 → x ≡ cond (eqb x 1) 1 0
    by zero h = refl
    by (suc zero) h = refl
    by (suc (suc x)) h = absurd (omega arith)

-- a statement about two bits is a table of four rows
pub by_bits : (P : ℕ → ℕ → Type 0) → P 0 0 → P 0 1 → P 1 0 → P 1 1 → (x y : ℕ) → x < 2 → y < 2 → P x y
by_bits P a b c d zero zero hx hy = a
by_bits P a b c d zero (suc zero) hx hy = b
by_bits P a b c d (suc zero) zero hx hy = c
by_bits P a b c d (suc zero) (suc zero) hx hy = d
by_bits P a b c d zero (suc (suc y)) hx hy = absurd (omega arith)
by_bits P a b c d (suc zero) (suc (suc y)) hx hy = absurd (omega arith)
by_bits P a b c d (suc (suc x)) y hx hy = absurd (omega arith)

-- ---- each operation, bit by bit
pub bit_met : (a b i : ℕ) → bit (bit_and a b) i ≡ min (bit a i) (bit b i)
bit_met a b i =
    ap (λ (x : ℕ). x % 2) (and_shr a b i ∙ and_step (a / 2 ^ i) (b / 2 ^ i))
    ∙ digits_mod (bit_and (a / 2 ^ i / 2) (b / 2 ^ i / 2)) (lt_of_le_of_lt (min-le_left (bit a i) (bit b i)) (bit_lt a i))

pub bit_joined : (a b i : ℕ) → bit (bit_or a b) i ≡ max (bit a i) (bit b i)
bit_joined a b i =
    ap (λ (x : ℕ). x % 2) (or_shr a b i ∙ or_step (a / 2 ^ i) (b / 2 ^ i))
    ∙ digits_mod (bit_or (a / 2 ^ i / 2) (b / 2 ^ i / 2)) (omega (arith, bit_lt a i, bit_lt b i))

bit_differ : (a b i : ℕ) → bit (bit_xor a b) i ≡ differ (bit a i) (bit b i)
bit_differ a b i =
    ap (λ (x : ℕ). x % 2) (xor_shr a b i ∙ xor_step (a / 2 ^ i) (b / 2 ^ i))
    ∙ digits_mod (bit_xor (a / 2 ^ i / 2) (b / 2 ^ i / 2))
    (by_bits (λ (x y : ℕ). differ x y < 2) (omega arith) (omega arith) (omega arith) (omega arith) (bit a i) (bit b i) (bit_lt a i) (bit_lt b i))

-- ---- each operation, node by node
pub contains_met : (a b i : ℕ) → contains (bit_and a b) i ≡ (contains a i && contains b i)
contains_met a b i =
    ap (λ (x : ℕ). eqb x 1) (bit_met a b i)
    ∙ by_bits (λ (x y : ℕ). eqb (min x y) 1 ≡ (eqb x 1 && eqb y 1)) refl refl refl refl (bit a i) (bit b i) (bit_lt a i) (bit_lt b i)

pub contains_joined : (a b i : ℕ) → contains (bit_or a b) i ≡ (contains a i || contains b i)
contains_joined a b i =
    ap (λ (x : ℕ). eqb x 1) (bit_joined a b i)
    ∙ by_bits (λ (x y : ℕ). eqb (max x y) 1 ≡ (eqb x 1 || eqb y 1)) refl refl refl refl (bit a i) (bit b i) (bit_lt a i) (bit_lt b i)

pub contains_minus : (a b i : ℕ) → contains (minus a b) i ≡ (contains a i && not (contains b i))
contains_minus a b i =
    ap (λ (x : ℕ). eqb x 1) (bit_differ a (bit_and a b) i ∙ ap (differ (bit a i)) (bit_met a b i))
    ∙ by_bits (λ (x y : ℕ). eqb (differ x (min x y)) 1 ≡ (eqb x 1 && not (eqb y 1))) refl refl refl refl (bit a i) (bit b i) (bit_lt a i) (bit_lt b i)

-- ---- one node
pub bit_high : (m i : ℕ) → m < 2 ^ i → bit m i ≡ 0
bit_high m i h = ap (λ (x : ℕ). x % 2) (div-eq_of_lt h)

-- a node above 15 is in no mask
pub contains_high : (m i : ℕ) → m < 2 ^ 16 → 16 ≤ i → contains m i ≡ false
contains_high m i h k = ap (λ (x : ℕ). eqb x 1) (bit_high m i (omega (arith, pow_mono {i = 16} {j = i} k)))

pub only_small : (i : ℕ) → i < 16 → only i ≡ 2 ^ i
only_small i h = ap (λ (b : Bool). cond b (2 ^ i) 0) (lt-ltb i 16 h)

power_above : (j k : ℕ) → bit (2 ^ (suc k + j)) j ≡ 0
power_above j k = ap (λ (x : ℕ). x / 2 ^ j % 2) (pow-add 2 (suc k) j) ∙ ap (λ (x : ℕ). x % 2) (shl-shr (2 ^ suc k) j) ∙ omega (arith, pow-suc 2 k)

power_other : (i j : ℕ) → (i ≡ j → ⊥) → bit (2 ^ i) j ≡ 0
power_other i j f =
    compared (bit (2 ^ i) j ≡ 0) i j (λ h. bit_high (2 ^ i) j (pow-lt h)) (λ e. absurd (f e))
    (λ h. subst (λ (n : ℕ). bit (2 ^ n) j ≡ 0) (omega arith) (power_above j (i - j - 1)))

-- {i} has node i and no other
pub contains_power : (i j : ℕ) → contains (2 ^ i) j ≡ eqb i j
contains_power i j =
    same_test (contains (2 ^ i) j) (eqb i j)
    (λ t. by (eqb i j) refl t)
    (λ t. subst (λ (k : ℕ). T (contains (2 ^ i) k)) (eqb→eq i j t) (subst (λ (x : ℕ). T (eqb x 1)) (sym (ap (λ (x : ℕ). x % 2) (div_self (pow_pos i)))) tt))
  where
    by : (b : Bool) → eqb i j ≡ b → T (contains (2 ^ i) j) → T b
    by true e t = tt
    by false e t =
        subst (λ (x : ℕ). T (eqb x 1)) (power_other i j (λ p. subst T (e) (subst (λ (k : ℕ). T (eqb i k)) p (eqb_refl i)))) t

-- ---- a mask is its nodes
bit_half : (m i : ℕ) → bit (m / 2) i ≡ bit m (suc i)
bit_half m i = ap (λ (x : ℕ). x % 2) (shr-shr m 1 i ∙ ap (λ (k : ℕ). m / 2 ^ k) (omega arith))

bit_zero : (m : ℕ) → bit m 0 ≡ m % 2
bit_zero m = ap (λ (x : ℕ). x % 2) (div-one m)

pub ext : (a b : ℕ) → ((i : ℕ) → bit a i ≡ bit b i) → a ≡ b
ext a = bin_ind (λ (n : ℕ). (b : ℕ) → ((i : ℕ) → bit n i ≡ bit b i) → n ≡ b) none some a
  where
    none : (b : ℕ) → ((i : ℕ) → bit 0 i ≡ bit b i) → 0 ≡ b
    none = bin_ind (λ (n : ℕ). ((i : ℕ) → bit 0 i ≡ bit n i) → 0 ≡ n) (λ h. refl)
        (λ n ih h. omega (
          arith,
          ih (λ i. ap (λ (x : ℕ). x % 2) (zero-div (2 ^ i)) ∙ sym (ap (λ (x : ℕ). x % 2) (zero-div (2 ^ suc i))) ∙ h (suc i)
              ∙ sym (bit_half n i)),
          sym (bit_zero n),
          h 0,
          div-add-mod' n 2,
        ))

    some : (n : ℕ) → ((b : ℕ) → ((i : ℕ) → bit (n / 2) i ≡ bit b i) → n / 2 ≡ b) → (b : ℕ) → ((i : ℕ) → bit n i ≡ bit b i) → n ≡ b
    some n ih b h =
        let e : n / 2 ≡ b / 2 = ih (b / 2) (λ i. bit_half n i ∙ h (suc i) ∙ sym (bit_half b i)) in
        let f : n % 2 ≡ b % 2 = sym (bit_zero n) ∙ h 0 ∙ bit_zero b in
        omega arith

-- ---- subsets
-- every node of a subset is in the larger set, and back
pub within_contains : (a b : ℕ) → T (within a b) → (i : ℕ) → T (contains a i) → T (contains b i)
within_contains a b t i =
    by_bits (λ (x y : ℕ). min x y ≡ x → T (eqb x 1) → T (eqb y 1)) (λ e s. absurd s) (λ e s. absurd s) (λ e s. absurd (omega arith)) (λ e s. tt)
    (bit a i) (bit b i) (bit_lt a i) (bit_lt b i) (sym (bit_met a b i) ∙ ap (λ (m : ℕ). bit m i) (eqb→eq (bit_and a b) a t))

pub contains_within : (a b : ℕ) → ((i : ℕ) → T (contains a i) → T (contains b i)) → T (within a b)
contains_within a b f = subst (λ (x : ℕ). T (eqb x a)) (sym (ext (bit_and a b) a same)) (eqb_refl a)
  where
    same : (i : ℕ) → bit (bit_and a b) i ≡ bit a i
    same i =
        bit_met a b i
        ∙ by_bits (λ (x y : ℕ). (T (eqb x 1) → T (eqb y 1)) → min x y ≡ x) (λ g. refl) (λ g. refl) (λ g. absurd (g tt)) (λ g. refl)
        (bit a i) (bit b i) (bit_lt a i) (bit_lt b i) (f i)

pub within_self : (a : ℕ) → T (within a a)
within_self a = contains_within a a (λ i t. t)

pub within_trans : (a b c : ℕ) → T (within a b) → T (within b c) → T (within a c)
within_trans a b c s t = contains_within a c (λ i u. within_contains b c t i (within_contains a b s i u))

-- a join is in m exactly when both parts are
pub within_joined : (a b m : ℕ) → within (bit_or a b) m ≡ (within a m && within b m)
within_joined a b m =
    same_test (within (bit_or a b) m) (within a m && within b m)
    (λ t. and_both (within a m) (within b m)
    (contains_within a m (λ i s. within_contains (bit_or a b) m t i (subst T (sym (contains_joined a b i)) (or_left (contains a i) (contains b i) s))))
    (contains_within b m (λ i s. within_contains (bit_or a b) m t i (subst T (sym (contains_joined a b i)) (or_right (contains a i) (contains b i) s)))))
    (λ t. contains_within (bit_or a b) m (λ i s. or_cases (T (contains m i)) (contains a i) (contains b i)
    (within_contains a m (and_left (within a m) (within b m) t) i)
    (within_contains b m (and_right (within a m) (within b m) t) i)
    (subst T (contains_joined a b i) s)))

-- {r} is in m exactly when node r is
pub within_power : (r m : ℕ) → within (2 ^ r) m ≡ contains m r
within_power r m =
    same_test (within (2 ^ r) m) (contains m r)
    (λ t. within_contains (2 ^ r) m t r (subst T (sym (contains_power r r)) (eqb_refl r)))
    (λ t. contains_within (2 ^ r) m (λ i s. subst (λ (k : ℕ). T (contains m k)) (eqb→eq r i (subst T (contains_power r i) s)) t))
