-- The newest copy over the first k nodes: no node has a newer one, some node has it (or nothing was ever written), and its nodes are those that have it.
use mathlib.Core.Path.{◌≡◌, refl, sym, ap, subst, ◌∙◌}
use mathlib.Core.Logic.{◌⊎◌, inl, inr, ⊎_elim}
use mathlib.Core.Bool.{Bool, true, false}
use mathlib.Core.List.{List}
use Prim.Native.Nat.{ℕ, zero, suc, ◌<◌, ◌≤◌}
use native.Mathlib.Omega.{arith}
use lib.Dec.{T, eqb, ltb, eqb→eq}
use borrow.Author.Tests.{ltb-true, ltb-false, eqb-true, eqb-false}
use Rattle.numbers.specs.Sizes.{nodes}
use Rattle.mask.specs.Mask.{contains, only, joined}
use Rattle.mask.proofs.Laws.{only_small, contains_power, contains_joined}
use Rattle.mask.proofs.Tests.{or_left, or_right, or_cases}
use Rattle.clauses.proofs.Parts.{eq-T}
use Rattle.image.specs.Layout.{version, value}
use Rattle.image.proofs.Each.{lt_or_le}
use Rattle.image.proofs.Marks.{contains_none}
use Rattle.buffers.specs.Buffers.{image_at}
use Rattle.closing.specs.declared.Best.{Best}
use Rattle.closing.specs.Copies.{copy_at, with_nodes, newer_of, newest_of}

-- of two copies: the second is newer, or both are as new, or the first is newer
pub data Newer (a b : Best) : Type 0 where
  second : a.version < b.version → newer_of a b ≡ b → Newer a b
  both : b.version ≡ a.version → newer_of a b ≡ with_nodes a (joined a.nodes b.nodes) → Newer a b
  first : b.version < a.version → newer_of a b ≡ a → Newer a b

pub newer : (a b : Best) → Newer a b
unfolding newer_of
newer a b = by (ltb a.version b.version) (eqb b.version a.version) refl refl
  where
    by : (s t : Bool) → ltb a.version b.version ≡ s → eqb b.version a.version ≡ t → Newer a b
    by true t p q = second (ltb-true _ _ p) (simp p)
    by false true p q = both (eqb-true _ _ q) (simp (p, q))
    by false false p q = first (strict (lt_or_le b.version a.version)) (simp (p, q))
      where
        strict : (b.version < a.version) ⊎ (a.version ≤ b.version) → b.version < a.version
        strict (inl h) = h
        strict (inr h) =
            let k : b.version ≤ a.version = ltb-false a.version b.version p in
            let e : b.version ≡ a.version = omega arith in
            absurd (eqb-false b.version a.version q e)

module _ (l : List ℕ) (t : ℕ) where
  abbrev version_at : ℕ → ℕ
  version_at n = version (image_at l n) t

  abbrev best : ℕ → Best
  best k = newest_of l t k

  -- no node has a newer copy
  pub none_newer : (k n : ℕ) → n < k → version_at n ≤ (best k).version
  unfolding newest_of copy_at
  none_newer zero n h = absurd (let z : ⊥ = omega arith in z)
  none_newer (suc k) n h = by (newer (best k) (copy_at l t k)) (none_newer k n)
    where
      earlier : (n < k) ⊎ (k ≤ n) → (n < k → version_at n ≤ (best k).version) → (version_at n ≤ (best k).version) ⊎ (n ≡ k)
      earlier (inl p) f = inl (f p)
      earlier (inr p) f = inr (omega arith)

      by : Newer (best k) (copy_at l t k) → (n < k → version_at n ≤ (best k).version) → version_at n ≤ (newer_of (best k) (copy_at l t k)).version
      by (second p e) f = subst (λ (x : Best). version_at n ≤ x.version) (sym e)
          (⊎_elim (λ (q : version_at n ≤ (best k).version). omega arith) (λ q. subst (λ (m : ℕ). version_at n ≤ version_at m) q (omega arith))
          (earlier (lt_or_le n k) f))
      by (both p e) f = subst (λ (x : Best). version_at n ≤ x.version) (sym e)
          (⊎_elim (λ (q : version_at n ≤ (best k).version). q) (λ q. let z = ap version_at q in omega arith) (earlier (lt_or_le n k) f))
      by (first p e) f = subst (λ (x : Best). version_at n ≤ x.version) (sym e)
          (⊎_elim (λ (q : version_at n ≤ (best k).version). q) (λ q. let z = ap version_at q in omega arith) (earlier (lt_or_le n k) f))

  -- nothing was written, or a node has it
  pub record At (k : ℕ) (b : Best) : Type 0 where
    pub node : ℕ
    pub below : node < k
    pub its_version : version_at node ≡ b.version
    pub its_value : value (image_at l node) t ≡ b.value

  abbrev pub Stands : ℕ → Best → Type 0
  Stands k b = ((b.version ≡ 0) × (b.value ≡ 0)) ⊎ At k b

  pub some_has : (k : ℕ) → Stands k (best k)
  unfolding newest_of copy_at
  some_has zero = inl (refl, refl)
  some_has (suc k) = by (newer (best k) (copy_at l t k)) (some_has k)
    where
      up : (b : Best) → b.version ≡ (best k).version → b.value ≡ (best k).value → Stands k (best k) → Stands (suc k) b
      up b p q (inl z) = inl (p ∙ z.0, q ∙ z.1)
      up b p q (inr z) = inr (record {
        node = z.node;
        below = let h = z.below in omega arith;
        its_version = z.its_version ∙ sym p;
        its_value = z.its_value ∙ sym q;
      })

      by : Newer (best k) (copy_at l t k) → Stands k (best k) → Stands (suc k) (newer_of (best k) (copy_at l t k))
      by (second p e) f = inr (record {
        node = k;
        below = omega arith;
        its_version = sym (ap (λ (x : Best). x.version) e);
        its_value = sym (ap (λ (x : Best). x.value) e);
      })
      by (both p e) f = up _ (ap (λ (x : Best). x.version) e) (ap (λ (x : Best). x.value) e) f
      by (first p e) f = up _ (ap (λ (x : Best). x.version) e) (ap (λ (x : Best). x.value) e) f

  -- ---- its nodes are those that have it
  -- one node
  pub is_one : (k n : ℕ) → k < nodes → contains (only k) n ≡ eqb k n
  is_one k n h = ap (λ (m : ℕ). contains m n) (only_small k (omega arith)) ∙ contains_power k n

  -- the nodes before the k-th that have a version
  abbrev pub Has : ℕ → ℕ → ℕ → Type 0
  Has k v n = (n < k) × (version_at n ≡ v)

  pub nodes_have : (k n : ℕ) → k ≤ nodes → T (contains (best k).nodes n) → Has k (best k).version n
  unfolding newest_of copy_at
  nodes_have zero n h i = absurd (subst T (contains_none n) i)
  nodes_have (suc k) n h i = by (newer (best k) (copy_at l t k)) (nodes_have k n (omega arith)) i
    where
      -- the k-th itself
      own : T (contains (only k) n) → n ≡ k
      own q = sym (eqb→eq k n (subst T (is_one k n (omega arith)) q))

      by : Newer (best k) (copy_at l t k) → (T (contains (best k).nodes n) → Has k (best k).version n)
          → T (contains (newer_of (best k) (copy_at l t k)).nodes n) → Has (suc k) (newer_of (best k) (copy_at l t k)).version n
      by (second p e) f j =
          let q = own (subst (λ (x : Best). T (contains x.nodes n)) e j) in
          (omega arith, ap version_at q ∙ sym (ap (λ (x : Best). x.version) e))
      by (both p e) f j =
          let q = subst T (contains_joined (best k).nodes (only k) n) (subst (λ (x : Best). T (contains x.nodes n)) e j) in
          or_cases (Has (suc k) (newer_of (best k) (copy_at l t k)).version n) (contains (best k).nodes n) (contains (only k) n)
          (λ a. let z = f a in (let y = z.0 in omega arith, z.1 ∙ sym (ap (λ (x : Best). x.version) e)))
          (λ a. let z = own a in (omega arith, ap version_at z ∙ p ∙ sym (ap (λ (x : Best). x.version) e))) q
      by (first p e) f j =
          let z = f (subst (λ (x : Best). T (contains x.nodes n)) e j) in
          (let y = z.0 in omega arith, z.1 ∙ sym (ap (λ (x : Best). x.version) e))

  pub have_nodes : (k n : ℕ) → k ≤ nodes → Has k (best k).version n → T (contains (best k).nodes n)
  unfolding newest_of copy_at
  have_nodes zero n h i = absurd (let y = i.0 in let z : ⊥ = omega arith in z)
  have_nodes (suc k) n h i = by (newer (best k) (copy_at l t k)) (have_nodes k n (omega arith)) (none_newer k n) (lt_or_le n k) i
    where
      own : k ≤ n → n < suc k → T (contains (only k) n)
      own a b = let e : k ≡ n = omega arith in subst T (sym (is_one k n (omega arith))) (eq-T k n e)

      by : Newer (best k) (copy_at l t k) → (Has k (best k).version n → T (contains (best k).nodes n)) → (n < k → version_at n ≤ (best k).version)
          → (n < k) ⊎ (k ≤ n) → Has (suc k) (newer_of (best k) (copy_at l t k)).version n → T (contains (newer_of (best k) (copy_at l t k)).nodes n)
      by (second p e) f g (inl s) j =
          let q : version_at n ≡ version_at k = j.1 ∙ ap (λ (x : Best). x.version) e in
          let r = g s in
          absurd (let z : ⊥ = omega arith in z)
      by (second p e) f g (inr s) j = subst (λ (x : Best). T (contains x.nodes n)) (sym e) (own s j.0)
      by (both p e) f g (inl s) j = subst (λ (x : Best). T (contains x.nodes n)) (sym e)
          (subst T (sym (contains_joined (best k).nodes (only k) n))
          (or_left (contains (best k).nodes n) (contains (only k) n) (f (s, j.1 ∙ ap (λ (x : Best). x.version) e))))
      by (both p e) f g (inr s) j = subst (λ (x : Best). T (contains x.nodes n)) (sym e)
          (subst T (sym (contains_joined (best k).nodes (only k) n)) (or_right (contains (best k).nodes n) (contains (only k) n) (own s j.0)))
      by (first p e) f g (inl s) j = subst (λ (x : Best). T (contains x.nodes n)) (sym e) (f (s, j.1 ∙ ap (λ (x : Best). x.version) e))
      by (first p e) f g (inr s) j =
          let y = j.0 in
          let a : k ≡ n = omega arith in
          let q : version_at k ≡ (best k).version = ap version_at a ∙ j.1 ∙ ap (λ (x : Best). x.version) e in
          absurd (let z : ⊥ = omega arith in z)
