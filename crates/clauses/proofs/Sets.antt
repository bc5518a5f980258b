-- Sets of nodes in a record: subsets and joins as facts, and that a set of nodes stays one.
use mathlib.Core.Path.{◌≡◌, sym, ◌∙◌, subst}
use Prim.Native.Nat.{ℕ, ◌^◌, ◌<◌, ◌≤◌}
use native.Mathlib.Omega.{arith}
use lib.Bits.{bit_and, bit_or, and_le_r, and_zero_r, and_zero_l, or_lt}
use lib.Dec.{T, eqb, eqb→eq, ltb}
use lib.Pow.{pow_mono, pow_pos}
use borrow.Author.Tests.{ltb-true, ltb-false}
use Rattle.numbers.specs.Sizes.{nodes, every_node}
use Rattle.mask.specs.Mask.{contains, only, joined, within}
use Rattle.mask.proofs.Laws.{bit_high, only_small, contains_joined, contains_within, within_joined, within_power}
use Rattle.mask.proofs.Tests.{and_both, or_left, or_right}
use Rattle.clauses.proofs.Parts.{eq-T, by_test}

-- ---- the empty set
pub none_within : (b : ℕ) → T (within 0 b)
none_within b = eq-T (bit_and 0 b) 0 (and_zero_l b)

pub within_none : (a : ℕ) → T (within a 0) → a ≡ 0
within_none a t = sym (eqb→eq (bit_and a 0) a t) ∙ and_zero_r a

-- ---- joins
pub within_left : (a b : ℕ) → T (within a (joined a b))
within_left a b = contains_within a (joined a b) (λ i t. subst T (sym (contains_joined a b i)) (or_left (contains a i) (contains b i) t))

pub within_right : (a b : ℕ) → T (within b (joined a b))
within_right a b = contains_within b (joined a b) (λ i t. subst T (sym (contains_joined a b i)) (or_right (contains a i) (contains b i) t))

pub joined_within : (a b m : ℕ) → T (within a m) → T (within b m) → T (within (joined a b) m)
joined_within a b m s t = subst T (sym (within_joined a b m)) (and_both (within a m) (within b m) s t)

pub joined_known : (a b : ℕ) → a ≤ every_node → b ≤ every_node → joined a b ≤ every_node
joined_known a b h k = let z : bit_or a b < 2 ^ nodes = or_lt nodes a b (omega arith) (omega arith) in omega arith

-- a subset of known nodes is one of known nodes
pub within_known : (a b : ℕ) → T (within a b) → b ≤ every_node → a ≤ every_node
within_known a b t h = let e : bit_and a b ≡ a = eqb→eq (bit_and a b) a t in omega (arith, and_le_r a b)

-- ---- one node
pub node_known : (m i : ℕ) → m ≤ every_node → T (contains m i) → i < nodes
node_known m i h t =
    by_test (i < nodes) (ltb i nodes) (ltb-true i nodes)
    (λ e. let k : nodes ≤ i = ltb-false i nodes e in
    let z : m < 2 ^ i = omega (arith, pow_mono {i = nodes} {j = i} k) in
    absurd (subst (λ (x : ℕ). T (eqb x 1)) (bit_high m i z) t))

module _ (m i : ℕ) (h : m ≤ every_node) (t : T (contains m i)) where
  power : only i ≡ 2 ^ i
  power = only_small i (let k = node_known m i h t in omega arith)

  pub only_within : T (within (only i) m)
  only_within = subst (λ (n : ℕ). T (within n m)) (sym power) (subst T (sym (within_power i m)) t)

  pub joined_some : (a : ℕ) → joined a (only i) ≡ 0 → ⊥
  joined_some a e =
      let z : only i ≡ 0 = within_none (only i) (subst (λ (n : ℕ). T (within (only i) n)) e (within_right a (only i))) in
      omega (arith, pow_pos i, power)
