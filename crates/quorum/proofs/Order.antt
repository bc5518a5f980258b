-- The order of weighed choices: the lesser weight, then the lower mask. It is total and transitive, so taking the lighter one is associative; and adding
-- a set that shares nothing with either does not change which of two is lighter.
use mathlib.Core.Path.{◌≡◌, refl, sym, ap, ap₂, ◌∙◌, subst}
use mathlib.Core.Bool.{Bool, true, false, not, cond, ◌&&◌}
use Prim.Native.Nat.{ℕ, ◌+◌, ◌*◌, ◌≤◌, ◌<◌}
use native.Mathlib.Nat.{add_comm}
use native.Mathlib.Omega.{arith}
use lib.Dec.{T, ltb, leb, eqb, ltb→lt, lt→ltb, leb→le, le→leb, eqb→eq, eqb_refl, T_not, not_T}
use Rattle.std.specs.Prelude.{Some, None}
use Rattle.mask.proofs.Tests.{and_both, and_left, and_right, or_left, or_right, or_cases, same_test, compared}
use Rattle.quorum.specs.Choice.{Choice, quorum_with}
use Rattle.quorum.specs.Levels.{lighter, lighter_of, both_of}

-- ---- the order on sets with their weights
pub by_weight : (m s n t : ℕ) → s < t → T (lighter m s n t)
by_weight m s n t h = or_left (ltb s t) _ (lt→ltb s t h)

pub by_mask : (m s n t : ℕ) → s ≡ t → m ≤ n → T (lighter m s n t)
by_mask m s n t e h = or_right (ltb s t) _ (and_both (eqb s t) (leb m n) (subst (λ (x : ℕ). T (eqb s x)) e (eqb_refl s)) (le→leb m n h))

pub lighter_cases : (P : Type 0) (m s n t : ℕ) → (s < t → P) → (s ≡ t → m ≤ n → P) → T (lighter m s n t) → P
lighter_cases P m s n t f g =
    or_cases P (ltb s t) (eqb s t && leb m n) (λ u. f (ltb→lt s t u))
    (λ u. g (eqb→eq s t (and_left (eqb s t) (leb m n) u)) (leb→le m n (and_right (eqb s t) (leb m n) u)))

pub light_self : (m s : ℕ) → T (lighter m s m s)
light_self m s = by_mask m s m s refl (omega arith)

pub light_total : (m s n t : ℕ) → T (not (lighter m s n t)) → T (lighter n t m s)
light_total m s n t k =
    compared (T (lighter n t m s)) s t (λ e. absurd (T_not (lighter m s n t) k (by_weight m s n t e)))
    (λ e. compared (T (lighter n t m s)) m n (λ u. absurd (T_not (lighter m s n t) k (by_mask m s n t e (omega arith))))
    (λ u. by_mask n t m s (sym e) (omega arith)) (λ u. by_mask n t m s (sym e) (omega arith)))
    (by_weight n t m s)

pub light_trans : (m s n t k u : ℕ) → T (lighter m s n t) → T (lighter n t k u) → T (lighter m s k u)
light_trans m s n t k u p q =
    lighter_cases (T (lighter m s k u)) m s n t
    (λ a. lighter_cases (T (lighter m s k u)) n t k u (λ b. by_weight m s k u (omega arith)) (λ b c. by_weight m s k u (omega arith)) q)
    (λ a a'. lighter_cases (T (lighter m s k u)) n t k u (λ b. by_weight m s k u (omega arith)) (λ b c. by_mask m s k u (omega arith) (omega arith)) q)
    p

-- ---- the lighter of two
assoc_by : (f : Choice → Choice → Choice) (x y z : Choice) (a b c : Bool) → f x y ≡ cond a x y → f y z ≡ cond b y z → f x z ≡ cond c x z
    → (T a → T b → T c) → (T (not a) → T (not b) → T (not c)) → f (f x y) z ≡ f x (f y z)
assoc_by f x y z true true true p q r h k = cc
assoc_by f x y z true true false p q r h k = absurd (h tt tt)
assoc_by f x y z true false c p q r h k = cc
assoc_by f x y z false true c p q r h k = cc
assoc_by f x y z false false true p q r h k = absurd (k tt tt)
assoc_by f x y z false false false p q r h k = cc

pub lighter_nothing : (x : Choice) → lighter_of x None ≡ x
lighter_nothing None = refl
lighter_nothing (Some x) = refl

pub lighter_assoc : (x y z : Choice) → lighter_of (lighter_of x y) z ≡ lighter_of x (lighter_of y z)
lighter_assoc None y z = refl
lighter_assoc (Some x) None z = refl
lighter_assoc (Some x) (Some y) None = lighter_nothing _
lighter_assoc (Some x) (Some y) (Some z) =
    assoc_by lighter_of (Some x) (Some y) (Some z) (lighter x.mask x.sum y.mask y.sum) (lighter y.mask y.sum z.mask z.sum) (lighter x.mask x.sum
    z.mask z.sum) refl refl refl
    (light_trans x.mask x.sum y.mask y.sum z.mask z.sum)
    (λ a b. not_T (lighter x.mask x.sum z.mask z.sum) (λ w. T_not (lighter x.mask x.sum y.mask y.sum) a (light_trans x.mask x.sum z.mask z.sum y.mask
    y.sum w (light_total y.mask y.sum z.mask z.sum b))))

-- ---- the join of two sets that share nothing: masks and weights add
pub both_nothing : (x : Choice) → both_of x None ≡ None
both_nothing None = refl
both_nothing (Some x) = refl

both_comm : (x y : Choice) → both_of x y ≡ both_of y x
both_comm None None = refl
both_comm None (Some x) = refl
both_comm (Some x) None = refl
both_comm (Some x) (Some y) = ap₂ quorum_with (add_comm x.mask y.mask) (add_comm x.sum y.sum)

lighter_shift : (m s n t k u : ℕ) → lighter (m + n) (s + t) (m + k) (s + u) ≡ lighter n t k u
lighter_shift m s n t k u =
    same_test _ _
    (lighter_cases (T (lighter n t k u)) (m + n) (s + t) (m + k) (s + u) (λ a. by_weight n t k u (omega arith))
    (λ a b. by_mask n t k u (omega arith) (omega arith)))
    (lighter_cases (T (lighter (m + n) (s + t) (m + k) (s + u))) n t k u (λ a. by_weight (m + n) (s + t) (m + k) (s + u) (omega arith))
    (λ a b. by_mask (m + n) (s + t) (m + k) (s + u) (omega arith) (omega arith)))

cond_ap : (f : Choice → Choice) (b : Bool) (x y : Choice) → f (cond b x y) ≡ cond b (f x) (f y)
cond_ap f true x y = refl
cond_ap f false x y = refl

pub both_lighter : (x y z : Choice) → both_of x (lighter_of y z) ≡ lighter_of (both_of x y) (both_of x z)
both_lighter None y z = refl
both_lighter (Some x) None z = refl
both_lighter (Some x) (Some y) None = refl
both_lighter (Some x) (Some y) (Some z) =
    cond_ap (both_of (Some x)) (lighter y.mask y.sum z.mask z.sum) (Some y) (Some z)
    ∙ ap (λ (b : Bool). cond b (quorum_with (x.mask + y.mask) (x.sum + y.sum)) (quorum_with (x.mask + z.mask) (x.sum + z.sum))) (sym (lighter_shift
    x.mask x.sum y.mask y.sum z.mask z.sum))

pub lighter_both : (x y z : Choice) → both_of (lighter_of x y) z ≡ lighter_of (both_of x z) (both_of y z)
lighter_both x y z = both_comm (lighter_of x y) z ∙ both_lighter z x y ∙ ap₂ lighter_of (both_comm z x) (both_comm z y)

-- ---- the two answers of a comparison
lighter_left : (m s n t : ℕ) → T (lighter m s n t) → lighter_of (quorum_with m s) (quorum_with n t) ≡ quorum_with m s
lighter_left m s n t h = by (lighter m s n t) h
  where
    by : (b : Bool) → T b → cond b (quorum_with m s) (quorum_with n t) ≡ quorum_with m s
    by true h = refl
    by false h = absurd h

lighter_right : (m s n t : ℕ) → (T (lighter m s n t) → ⊥) → lighter_of (quorum_with m s) (quorum_with n t) ≡ quorum_with n t
lighter_right m s n t h = by (lighter m s n t) h
  where
    by : (b : Bool) → (T b → ⊥) → cond b (quorum_with m s) (quorum_with n t) ≡ quorum_with n t
    by true h = absurd (h tt)
    by false h = refl

-- the same of keys: a weight times 2 ^ 24, and a mask below that
pub by_key : (m s n t : ℕ) → m < 16777216 → n < 16777216 → 16777216 * s + m ≤ 16777216 * t + n → lighter_of (quorum_with m s) (quorum_with n t) ≡
    quorum_with m s
by_key m s n t u v h =
    compared (lighter_of (quorum_with m s) (quorum_with n t) ≡ quorum_with m s) s t (λ e. lighter_left m s n t (by_weight m s n t e))
    (λ e. lighter_left m s n t (by_mask m s n t e (omega arith))) (λ e. absurd (omega arith))

pub not_by_key : (m s n t : ℕ) → m < 16777216 → n < 16777216 → 16777216 * t + n < 16777216 * s + m → lighter_of (quorum_with m s) (quorum_with n t) ≡
    quorum_with n t
not_by_key m s n t u v h = lighter_right m s n t (lighter_cases ⊥ m s n t (λ a. omega arith) (λ a b. omega arith))
