-- The nearness rule as an order of weights: a sum counts 256, and a set without the asker weighs one more than it would with him. So it is total and
-- transitive, and what the better of two choices is as near as, holds of either.
use mathlib.Core.Path.{◌≡◌, refl, sym, ap, ◌∙◌, subst}
use mathlib.Core.Bool.{Bool, true, false, not, cond, ◌&&◌, ◌||◌}
use Prim.Native.Nat.{ℕ, ◌+◌, ◌-◌, ◌*◌, ◌≤◌, ◌<◌}
use native.Mathlib.Omega.{arith}
use lib.Dec.{T, ltb, leb, eqb, ltb→lt, lt→ltb, leb→le, le→leb, eqb→eq, eqb_refl, T_not, not_T}
use Rattle.std.specs.Prelude.{Some, None}
use Rattle.mask.specs.Mask.{bit, within}
use Rattle.mask.proofs.Tests.{and_both, and_left, and_right, or_left, or_right, or_cases, same_test, compared}
use Rattle.mask.proofs.Laws.{bit_lt}
use Rattle.quorum.specs.Choice.{Choice, quorum_with}
use Rattle.quorum.specs.Nearest.{distance, nearer, better_of, one_of, nearest_of}
use Rattle.quorum.specs.Levels.{lighter, lighter_of}
use Rattle.quorum.proofs.Order.{by_weight, by_mask, lighter_cases, light_self, light_total, light_trans}

-- ---- the rule's order with the counts of the asker apart from the masks
abbrev by_count : ℕ → ℕ → ℕ → ℕ → ℕ → ℕ → Bool
by_count m s a n t b = ltb s t || eqb s t && (ltb b a || eqb a b && leb m n)

same : (x y : ℕ) → x ≡ y → T (eqb x y)
same x y e = subst (λ (z : ℕ). T (eqb x z)) e (eqb_refl x)

by_sum : (m s a n t b : ℕ) → s < t → T (by_count m s a n t b)
by_sum m s a n t b h = or_left (ltb s t) _ (lt→ltb s t h)

by_asker : (m s a n t b : ℕ) → s ≡ t → b < a → T (by_count m s a n t b)
by_asker m s a n t b e h = or_right (ltb s t) _ (and_both (eqb s t) _ (same s t e) (or_left (ltb b a) _ (lt→ltb b a h)))

by_lowest : (m s a n t b : ℕ) → s ≡ t → a ≡ b → m ≤ n → T (by_count m s a n t b)
by_lowest m s a n t b e f h =
    or_right (ltb s t) _ (and_both (eqb s t) _ (same s t e) (or_right (ltb b a) _ (and_both (eqb a b) (leb m n) (same a b f) (le→leb m n h))))

count_cases : (P : Type 0) (m s a n t b : ℕ) → (s < t → P) → (s ≡ t → b < a → P) → (s ≡ t → a ≡ b → m ≤ n → P) → T (by_count m s a n t b) → P
count_cases P m s a n t b f g h =
    or_cases P (ltb s t) (eqb s t && (ltb b a || eqb a b && leb m n)) (λ u. f (ltb→lt s t u))
    (λ u. let e = eqb→eq s t (and_left (eqb s t) _ u) in
    or_cases P (ltb b a) (eqb a b && leb m n) (λ v. g e (ltb→lt b a v))
    (λ v. h e (eqb→eq a b (and_left (eqb a b) (leb m n) v)) (leb→le m n (and_right (eqb a b) (leb m n) v))) (and_right (eqb s t) _ u))

-- what a set of sum s weighs that has the asker a times, with z turns
abbrev pub weight_of : ℕ → ℕ → ℕ → ℕ
weight_of z s a = 256 * s + (z - a)

counts_weigh : (z m s a n t b : ℕ) → 1 ≤ z → z ≤ 255 → a < 2 → b < 2 → by_count m s a n t b ≡ lighter m (weight_of z s a) n (weight_of z t b)
counts_weigh z m s a n t b l h p q =
    same_test _ _
    (count_cases (T (lighter m (weight_of z s a) n (weight_of z t b))) m s a n t b
    (λ x. by_weight m (weight_of z s a) n (weight_of z t b) (omega arith))
    (λ x y. by_weight m (weight_of z s a) n (weight_of z t b) (omega arith))
    (λ x y w. by_mask m (weight_of z s a) n (weight_of z t b) (omega arith) w))
    (lighter_cases (T (by_count m s a n t b)) m (weight_of z s a) n (weight_of z t b)
    (λ x. compared (T (by_count m s a n t b)) s t (by_sum m s a n t b) (λ e. by_asker m s a n t b e (omega arith)) (λ e. absurd (omega arith)))
    (λ x y. by_lowest m s a n t b (omega arith) (omega arith) y))

pub rule_weighs : (asker z m s n t : ℕ) → 1 ≤ z → z ≤ 255
    → nearer asker m s n t ≡ lighter m (weight_of z s (bit m asker)) n (weight_of z t (bit n asker))
rule_weighs asker z m s n t l h = counts_weigh z m s (bit m asker) n t (bit n asker) l h (bit_lt m asker) (bit_lt n asker)

-- ---- choices weighed
abbrev pub weighed : ℕ → ℕ → Choice → Choice
weighed asker z None = None
weighed asker z (Some x) = quorum_with x.mask (weight_of z x.sum (bit x.mask asker))

weighed_cond : (asker z : ℕ) (b : Bool) (x y : Choice) → weighed asker z (cond b x y) ≡ cond b (weighed asker z x) (weighed asker z y)
weighed_cond asker z true x y = refl
weighed_cond asker z false x y = refl

pub weighed_better : (asker z : ℕ) (x y : Choice) → 1 ≤ z → z ≤ 255
    → weighed asker z (better_of asker x y) ≡ lighter_of (weighed asker z x) (weighed asker z y)
weighed_better asker z None y l h = refl
weighed_better asker z (Some x) None l h = refl
weighed_better asker z (Some x) (Some y) l h =
    weighed_cond asker z (nearer asker x.mask x.sum y.mask y.sum) (Some x) (Some y)
    ∙ ap (λ (b : Bool). cond b (weighed asker z (Some x)) (weighed asker z (Some y))) (rule_weighs asker z x.mask x.sum y.mask y.sum l h)

-- ---- the rule's order
module _ (asker : ℕ) where
  near_self : (m s : ℕ) → T (nearer asker m s m s)
  near_self m s = subst T (sym (rule_weighs asker 1 m s m s (omega arith) (omega arith))) (light_self m (weight_of 1 s (bit m asker)))

  near_total : (m s n t : ℕ) → T (not (nearer asker m s n t)) → T (nearer asker n t m s)
  near_total m s n t k =
      subst T (sym (rule_weighs asker 1 n t m s (omega arith) (omega arith)))
      (light_total m (weight_of 1 s (bit m asker)) n (weight_of 1 t (bit n asker))
      (subst (λ (b : Bool). T (not b)) (rule_weighs asker 1 m s n t (omega arith) (omega arith)) k))

  near_trans : (m s n t k u : ℕ) → T (nearer asker m s n t) → T (nearer asker n t k u) → T (nearer asker m s k u)
  near_trans m s n t k u p q =
      subst T (sym (rule_weighs asker 1 m s k u (omega arith) (omega arith)))
      (light_trans m (weight_of 1 s (bit m asker)) n (weight_of 1 t (bit n asker)) k (weight_of 1 u (bit k asker))
      (subst T (rule_weighs asker 1 m s n t (omega arith) (omega arith)) p)
      (subst T (rule_weighs asker 1 n t k u (omega arith) (omega arith)) q))

  -- as near as: what the better of two is as near as
  abbrev pub as_near : Choice → ℕ → ℕ → Bool
  as_near None m s = false
  as_near (Some x) m s = nearer asker x.mask x.sum m s

  pub as_near_self : (m s : ℕ) → T (as_near (quorum_with m s) m s)
  as_near_self = near_self

  pub as_near_left : (x y : Choice) (m s : ℕ) → T (as_near x m s) → T (as_near (better_of asker x y) m s)
  as_near_left None y m s h = absurd h
  as_near_left (Some x) None m s h = h
  as_near_left (Some x) (Some y) m s h = by (nearer asker x.mask x.sum y.mask y.sum) (λ e. e)
    where
      by : (b : Bool) → (T (not b) → T (not (nearer asker x.mask x.sum y.mask y.sum))) → T (as_near (cond b (Some x) (Some y)) m s)
      by true f = h
      by false f = near_trans y.mask y.sum x.mask x.sum m s (near_total x.mask x.sum y.mask y.sum (f tt)) h

  pub as_near_right : (x y : Choice) (m s : ℕ) → T (as_near y m s) → T (as_near (better_of asker x y) m s)
  as_near_right None y m s h = h
  as_near_right (Some x) None m s h = absurd h
  as_near_right (Some x) (Some y) m s h = by (nearer asker x.mask x.sum y.mask y.sum) (λ e. e)
    where
      by : (b : Bool) → (T b → T (nearer asker x.mask x.sum y.mask y.sum)) → T (as_near (cond b (Some x) (Some y)) m s)
      by true f = near_trans x.mask x.sum y.mask y.sum m s (f tt) h
      by false f = h
