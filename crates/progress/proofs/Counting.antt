-- How many asks, votes, outcomes and dones of a transaction a list has: the sum over the nodes of how many of each kind it has with each. Why: a message
-- of these kinds is with one node, so one more message adds 1 at that node. Hence 2 × p and 4 × p where each participant's came once.
use mathlib.Core.Path.{◌≡◌, refl, sym, ◌∙◌, ap}
use mathlib.Core.Logic.{inl, inr, by_cases}
use mathlib.Core.Bool.{Bool, true, false, cond, ◌&&◌}
use mathlib.Core.List.{List, [], ◌∷◌}
use Prim.Native.Nat.{ℕ, zero, suc, ◌+◌, ◌*◌, ◌<◌, ◌≤◌}
use native.Mathlib.Nat.{mul-add}
use native.Mathlib.Decide.{ℕ_discrete}
use native.Mathlib.Omega.{arith}
use lib.Dec.{eqb, leb, ltb}
use borrow.Author.Tests.{eq-eqb, ne_eqb, lt-leb, ltb-true}
use Rattle.numbers.specs.Sizes.{nodes}
use Rattle.mask.specs.Mask.{bit}
use Rattle.wire.specs.Message.{ask, vote, outcome, done}
use Rattle.wire.specs.Formed.{counts_ok, well_formed}
use Rattle.wire.specs.Decode.{kind_of, from_of, to_of, decode, check_of}
use Rattle.arrivals.specs.Receive.{for_replica}
use Rattle.replica.proofs.Delivered.{either_way}
use Rattle.protocol.specs.Table.{In}
use Rattle.protocol.specs.State.{Tx}
use Rattle.history.proofs.Tests.{and-true}
use Rattle.history.proofs.Words.{formed_of}
use Rattle.history.proofs.Going.{nodes_named}
use Rattle.progress.specs.Deliveries.{members_below, members, is_of, member_of, is_with, is_turn, count, Once, Never}

-- ---- sums over the numbers below one
unfoldable pub sum_below : ℕ → (ℕ → ℕ) → ℕ
sum_below zero f = 0
sum_below (suc n) f = sum_below n f + f n

sum_ext : (k : ℕ) (f g : ℕ → ℕ) → ((n : ℕ) → n < k → f n ≡ g n) → sum_below k f ≡ sum_below k g
unfolding sum_below
sum_ext zero f g h = refl
sum_ext (suc k) f g h = let a = sum_ext k f g (λ n q. h n (omega (arith, q))) in let b = h k (omega arith) in omega (arith, a, b)

sum_plus : (k : ℕ) (f g : ℕ → ℕ) → sum_below k (λ n. f n + g n) ≡ sum_below k f + sum_below k g
unfolding sum_below
sum_plus zero f g = refl
sum_plus (suc k) f g = let a = sum_plus k f g in omega (arith, a)

sum_zero : (k : ℕ) (f : ℕ → ℕ) → ((n : ℕ) → n < k → f n ≡ 0) → sum_below k f ≡ 0
unfolding sum_below
sum_zero zero f h = refl
sum_zero (suc k) f h = let a = sum_zero k f (λ n q. h n (omega (arith, q))) in let b = h k (omega arith) in omega (arith, a, b)

-- v at one number, else 0
abbrev at : ℕ → ℕ → ℕ → ℕ
at m v n = cond (eqb m n) v 0

at_other : (m v n : ℕ) → (m ≡ n → ⊥) → at m v n ≡ 0
at_other m v n e = ap (λ (b : Bool). cond b v 0) (ne_eqb m n e)

sum_at : (k m v : ℕ) → m < k → sum_below k (at m v) ≡ v
unfolding sum_below
sum_at zero m v h = absurd (let z : ⊥ = omega (arith, h) in z)
sum_at (suc k) m v h = by_cases (ℕ_discrete m k)
    (λ e.
    let a = sum_zero k (at m v) (λ n q. at_other m v n (λ z. let y : ⊥ = omega (arith, e, q, z) in y)) in
    let b : at m v k ≡ v = ap (λ (b : Bool). cond b v 0) (eq-eqb m k e) in
    omega (arith, a, b))
    (λ e. let a = sum_at k m v (omega (arith, h, e)) in let b = at_other m v k e in omega (arith, a, b))

-- a times the members of a mask
sum_members : (a k m : ℕ) → sum_below k (λ n. a * bit m n) ≡ a * members_below k m
unfolding sum_below members_below
sum_members a zero m = let z : a * 0 ≡ 0 = omega arith in sym z
sum_members a (suc k) m = ap (λ (s : ℕ). s + a * bit m k) (sum_members a k m) ∙ sym (mul-add a (members_below k m) (bit m k))

-- ---- one message
abbrev pub one : Bool → ℕ
one b = cond b 1 0

one_and : (a : Bool) → one (a && true) ≡ one a
one_and true = refl
one_and false = refl

none_and : (a : Bool) → one (a && false) ≡ 0
none_and true = refl
none_and false = refl

-- its kind is one of the four
one_kind : (k : ℕ) → one (eqb k ask) + one (eqb k vote) + one (eqb k outcome) + one (eqb k done) ≡ one (leb ask k && leb k done)
one_kind zero = refl
one_kind (suc zero) = refl
one_kind (suc (suc zero)) = refl
one_kind (suc (suc (suc zero))) = refl
one_kind (suc (suc (suc (suc zero)))) = refl
one_kind (suc (suc (suc (suc (suc zero))))) = refl
one_kind (suc (suc (suc (suc (suc (suc zero)))))) = refl
one_kind (suc (suc (suc (suc (suc (suc (suc k))))))) =
    let j = suc (suc (suc (suc (suc (suc (suc k)))))) in
    let no : (i : ℕ) → i ≤ 6 → one (eqb j i) ≡ 0 = λ i h. ap one (ne_eqb j i (λ e. let y : ⊥ = omega (arith, e, h) in y)) in
    let a = no 3 (omega arith) in
    let b = no 4 (omega arith) in
    let c = no 5 (omega arith) in
    let d = no 6 (omega arith) in
    let z : one (leb ask j && leb j done) ≡ 0 = ap (λ (t : Bool). one (leb ask j && t)) (lt-leb j done (omega arith)) ∙ none_and (leb ask j) in
    omega (arith, a, b, c, d, z)

one_with : (is e : Bool) (k : ℕ)
    → one (is && (eqb k ask && e)) + one (is && (eqb k vote && e)) + one (is && (eqb k outcome && e)) + one (is && (eqb k done && e))
    ≡ cond e (one (is && (leb ask k && leb k done))) 0
one_with false true k = refl
one_with false false k = refl
one_with true true k =
    let a = one_and (eqb k ask) in
    let b = one_and (eqb k vote) in
    let c = one_and (eqb k outcome) in
    let d = one_and (eqb k done) in
    let z = one_kind k in
    omega (arith, a, b, c, d, z)
one_with true false k =
    let a = none_and (eqb k ask) in
    let b = none_and (eqb k vote) in
    let c = none_and (eqb k outcome) in
    let d = none_and (eqb k done) in
    omega (arith, a, b, c, d)

-- it comes from a node, and goes to one
from_named : (b : List ℕ) → check_of b ≡ 0 → from_of b < nodes
unfolding well_formed decode
from_named b ok = ltb-true (from_of b) nodes
    (and-true (ltb (from_of b) nodes) _ (and-true _ _ (and-true (counts_ok (decode b).kind _ _ _ _) _ (formed_of b ok)).1).0).0

member_named : (b : List ℕ) → check_of b ≡ 0 → member_of b < nodes
member_named b ok = either_way (λ (n : ℕ). n < nodes) (for_replica (kind_of b)) (to_of b) (from_of b) (nodes_named b ok).0 (from_named b ok)

-- ---- a list
pub count_one : (p : List ℕ → Bool) (b : List ℕ) (l : List (List ℕ)) → count p (b ∷ l) ≡ one (p b) + count p l
unfolding count
count_one p b l = by (p b)
  where
    by : (t : Bool) → cond t (suc (count p l)) (count p l) ≡ one t + count p l
    by true = omega arith
    by false = omega arith

module _ (x : Tx) where
  -- how many of the four kinds a list has with node n
  abbrev with_node : List (List ℕ) → ℕ → ℕ
  with_node l n = count (is_with x ask n) l + count (is_with x vote n) l + count (is_with x outcome n) l + count (is_with x done n) l

  turns_summed : (l : List (List ℕ)) → ((b : List ℕ) → In b l → check_of b ≡ 0) → count (is_turn x) l ≡ sum_below nodes (with_node l)
  unfolding count
  turns_summed [] ok = sym (sum_zero nodes (with_node []) (λ n h. refl))
  turns_summed (b ∷ l) ok =
      let turn = one (is_turn x b) in
      let before = turns_summed l (λ y i. ok y (inr i)) in
      let here = sum_at nodes (member_of b) turn (member_named b (ok b (inl refl))) in
      let each : (n : ℕ) → n < nodes → with_node (b ∷ l) n ≡ at (member_of b) turn n + with_node l n =
      λ n h.
      let p = count_one (is_with x ask n) b l in
      let q = count_one (is_with x vote n) b l in
      let r = count_one (is_with x outcome n) b l in
      let s = count_one (is_with x done n) b l in
      let z = one_with (is_of x b) (eqb (member_of b) n) (kind_of b) in
      omega (arith, p, q, r, s, z) in
      let more = sum_ext nodes (with_node (b ∷ l)) (λ n. at (member_of b) turn n + with_node l n) each in
      let apart = sum_plus nodes (at (member_of b) turn) (with_node l) in
      let now = count_one (is_turn x) b l in
      omega (arith, before, here, more, apart, now)

  module _ (l : List (List ℕ)) (ok : (b : List ℕ) → In b l → check_of b ≡ 0) where
    pub turns_counted : (p q r s : ℕ → ℕ) → ((n : ℕ) → n < nodes → count (is_with x ask n) l ≡ p n) → ((n : ℕ) → n < nodes → count (is_with x vote n) l ≡ q n)
        → ((n : ℕ) → n < nodes → count (is_with x outcome n) l ≡ r n) → ((n : ℕ) → n < nodes → count (is_with x done n) l ≡ s n)
        → count (is_turn x) l ≡ sum_below nodes (λ n. p n + q n + r n + s n)
    turns_counted p q r s asks votes outcomes dones = turns_summed l ok ∙ sum_ext nodes (with_node l) (λ n. p n + q n + r n + s n)
        (λ n h. let a = asks n h in let b = votes n h in let c = outcomes n h in let d = dones n h in omega (arith, a, b, c, d))

    -- a times where each participant's came a times
    times_counted : (a party : ℕ) (p q r s : ℕ → ℕ) → ((n : ℕ) → p n + q n + r n + s n ≡ a * bit party n)
        → count (is_turn x) l ≡ sum_below nodes (λ n. p n + q n + r n + s n) → count (is_turn x) l ≡ a * members party
    times_counted a party p q r s each e =
        e ∙ sum_ext nodes (λ n. p n + q n + r n + s n) (λ n. a * bit party n) (λ n h. each n) ∙ sum_members a nodes party

    pub twice_counted : (party : ℕ) → Once x party ask l → Once x party vote l → Never x outcome l → Never x done l → count (is_turn x) l ≡ 2 * members party
    twice_counted party asks votes outcomes dones = times_counted 2 party (bit party) (bit party) (λ n. 0) (λ n. 0) (λ n. omega arith)
        (turns_counted (bit party) (bit party) (λ n. 0) (λ n. 0) asks votes outcomes dones)

    pub four_times_counted : (party : ℕ) → Once x party ask l → Once x party vote l → Once x party outcome l → Once x party done l
        → count (is_turn x) l ≡ 4 * members party
    four_times_counted party asks votes outcomes dones =
        times_counted 4 party (bit party) (bit party) (bit party) (bit party) (λ n. omega arith)
        (turns_counted (bit party) (bit party) (bit party) (bit party) asks votes outcomes dones)
