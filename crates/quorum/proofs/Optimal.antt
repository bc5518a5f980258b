-- The choice made level by level is the nearest of all the smallest quorums inside live, weighed. The sets that a level joins share no node (a
-- computed test at each inner node), so masks and weights add, and adding keeps the order: the best pair is a pair of bests.
use mathlib.Core.Path.{◌≡◌, refl, sym, ap, ap₂, ◌∙◌, subst}
use mathlib.Core.Bool.{Bool, true, false, cond, ◌&&◌}
use mathlib.Core.List.{List, [], ◌∷◌, ◌++◌, map}
use Prim.Native.Nat.{ℕ, zero, suc, ◌+◌, ◌*◌, ◌/◌, ◌%◌, ◌^◌, ◌≤◌, ◌<◌, min, max}
use native.Mathlib.Nat.{pow-suc, add-mul}
use native.Mathlib.Omega.{arith}
use lib.Dec.{T, eqb, ltb, eqb→eq}
use lib.Bits.{bit_and, bit_or, and_step, or_step, or_disjoint}
use lib.Pow.{pow_pos}
use lib.ListN.{get_or}
use Rattle.std.specs.Prelude.{Some, None}
use Rattle.mask.specs.Mask.{bit, contains, within}
use Rattle.mask.proofs.Tests.{and_left, and_right}
use Rattle.mask.proofs.Laws.{bit_lt, bit_counted, by_bits, bit_met, bit_joined, bit_high, contains_power, within_joined, within_power}
use Rattle.quorum.specs.Choice.{Choice, quorum_with}
use Rattle.quorum.specs.declared.Kind.{Kind}
use Rattle.quorum.specs.declared.Kind.TheVariants.{Read, Write}
use Rattle.quorum.specs.Tree.{child}
use Rattle.quorum.specs.Smallest.{each, pairs, with_root_set, smallest_of, smallest}
use Rattle.quorum.specs.Nearest.{distance, one_of, nearest_of}
use Rattle.quorum.specs.Levels.{lighter, lighter_of, both_of, alone_of, with_root, best_of, choose_pair}
use Rattle.quorum.proofs.Order.{lighter_nothing, lighter_assoc, both_nothing, both_lighter, lighter_both}
use Rattle.quorum.proofs.Near.{weight_of, weighed, weighed_better}

-- ---- sums of distances
distance_zero : (d : List ℕ) → distance d 0 ≡ 0
distance_zero [] = refl
distance_zero (x ∷ d) = omega (arith, distance_zero d)

distance_power : (d : List ℕ) (r : ℕ) → distance d (2 ^ r) ≡ get_or d r 0
distance_power [] zero = refl
distance_power [] (suc r) = refl
distance_power (x ∷ d) zero = omega (arith, distance_zero d)
distance_power (x ∷ d) (suc r) =
    let lo : 2 ^ suc r % 2 ≡ 0 = omega (arith, pow-suc 2 r) in
    let hi : 2 ^ suc r / 2 ≡ 2 ^ r = omega (arith, pow-suc 2 r) in
    ap₂ (λ (u v : ℕ). u * x + distance d v) lo hi ∙ omega (arith, distance_power d r)

distance_joined : (d : List ℕ) (a b : ℕ) → bit_and a b ≡ 0 → distance d (bit_or a b) ≡ distance d a + distance d b
distance_joined [] a b e = refl
distance_joined (x ∷ d) a b e =
    let lo : bit_or a b % 2 ≡ a % 2 + b % 2 = omega (arith, and_step a b, or_step a b) in
    let hi : bit_or a b / 2 ≡ bit_or (a / 2) (b / 2) = omega (arith, and_step a b, or_step a b) in
    let e' : bit_and (a / 2) (b / 2) ≡ 0 = omega (arith, and_step a b) in
    ap₂ (λ (u v : ℕ). u * x + distance d v) lo hi ∙ omega (arith, add-mul (a % 2) (b % 2) x, distance_joined d (a / 2) (b / 2) e')

-- ---- how often a node is in a set
max_apart : (x y : ℕ) → x < 2 → y < 2 → min x y ≡ 0 → max x y ≡ x + y
max_apart = by_bits (λ (x y : ℕ). min x y ≡ 0 → max x y ≡ x + y) (λ e. refl) (λ e. refl) (λ e. refl) (λ e. absurd (omega arith))

bit_apart : (a b i : ℕ) → bit_and a b ≡ 0 → bit (bit_or a b) i ≡ bit a i + bit b i
bit_apart a b i e =
    bit_joined a b i
    ∙ max_apart (bit a i) (bit b i) (bit_lt a i) (bit_lt b i) (sym (bit_met a b i) ∙ ap (λ (m : ℕ). bit m i) e ∙ bit_high 0 i (pow_pos i))

bit_power : (r i : ℕ) → bit (2 ^ r) i ≡ cond (eqb r i) 1 0
bit_power r i = bit_counted (2 ^ r) i ∙ ap (λ (b : Bool). cond b 1 0) (contains_power r i)

-- ---- sets that share nothing
abbrev pub every : (ℕ → Bool) → List ℕ → Bool
every f [] = true
every f (x ∷ xs) = f x && every f xs

abbrev apart : ℕ → ℕ → Bool
apart a b = eqb (bit_and a b) 0

abbrev all_apart : List ℕ → List ℕ → Bool
all_apart xs ys = every (λ (x : ℕ). every (apart x) ys) xs

-- a choice's mask passes a test
abbrev pub passes : (ℕ → Bool) → Choice → Bool
passes f None = true
passes f (Some x) = f x.mask

pub passes_cond : (f : ℕ → Bool) (b : Bool) (x y : Choice) → T (passes f x) → T (passes f y) → T (passes f (cond b x y))
passes_cond f true x y p q = p
passes_cond f false x y p q = q

pub passes_lighter : (f : ℕ → Bool) (x y : Choice) → T (passes f x) → T (passes f y) → T (passes f (lighter_of x y))
passes_lighter f None y p q = q
passes_lighter f (Some x) None p q = p
passes_lighter f (Some x) (Some y) p q = passes_cond f (lighter x.mask x.sum y.mask y.sum) (Some x) (Some y) p q

cond_and : (p q : Bool) (m s n t : ℕ)
    → cond (p && q) (quorum_with (m + n) (s + t)) None ≡ both_of (cond p (quorum_with m s) None) (cond q (quorum_with n t) None)
cond_and true true m s n t = refl
cond_and true false m s n t = refl
cond_and false q m s n t = refl

choose_eq : {a b c x y z : Choice} → a ≡ x → b ≡ y → c ≡ z → choose_pair a b c ≡ choose_pair x y z
choose_eq p q r = ap₂ (λ (u v : Choice × Choice). choose_pair u.0 u.1 v.0) (ap₂ (λ (m n : Choice). (m, n)) p q) (ap (λ (m : Choice). (m, m)) r)

-- what the turns of a root and of a pair come to: sets that are compared have equally many
abbrev Turns : Kind → ℕ → ℕ → ℕ → Type 0
Turns Read own pair z = (own ≡ z) × (pair ≡ z)
Turns Write own pair z = own + pair ≡ z

-- the turns of a quorum of the whole tree
abbrev pub turns : Kind → ℕ
turns Read = 4
turns Write = 12

pub few_turns : (k : Kind) → turns k ≤ 255
few_turns Read = omega arith
few_turns Write = omega arith

module _ (asker live : ℕ) (d : List ℕ) where
  -- what a set weighs, with z turns; a set if it is inside live; the lightest of a list
  abbrev weight : ℕ → ℕ → ℕ
  weight z q = weight_of z (distance d q) (bit q asker)

  abbrev weigh : ℕ → ℕ → Choice
  weigh z q = cond (within q live) (quorum_with q (weight z q)) None

  abbrev lightest_of : ℕ → List ℕ → Choice
  lightest_of z [] = None
  lightest_of z (q ∷ qs) = lighter_of (weigh z q) (lightest_of z qs)

  passes_lightest : (f : ℕ → Bool) (z : ℕ) (xs : List ℕ) → T (every f xs) → T (passes f (lightest_of z xs))
  passes_lightest f z [] t = tt
  passes_lightest f z (x ∷ xs) t =
      passes_lighter f (weigh z x) (lightest_of z xs)
      (passes_cond f (within x live) (quorum_with x (weight z x)) None (and_left (f x) (every f xs) t) tt)
      (passes_lightest f z xs (and_right (f x) (every f xs) t))

  weights_add : (y z a b : ℕ) → 1 ≤ y → 1 ≤ z → bit_and a b ≡ 0 → weight (y + z) (bit_or a b) ≡ weight y a + weight z b
  weights_add y z a b g h e =
      ap₂ (λ (s c : ℕ). weight_of (y + z) s c) (distance_joined d a b e) (bit_apart a b asker e)
      ∙ omega (arith, bit_lt a asker, bit_lt b asker)

  weigh_joined : (y z a b : ℕ) → 1 ≤ y → 1 ≤ z → T (apart a b) → weigh (y + z) (bit_or a b) ≡ both_of (weigh y a) (weigh z b)
  weigh_joined y z a b g h t =
      let e : bit_and a b ≡ 0 = eqb→eq (bit_and a b) 0 t in
      let k : quorum_with (bit_or a b) (weight (y + z) (bit_or a b)) ≡ quorum_with (a + b) (weight y a + weight z b) =
      ap₂ quorum_with (or_disjoint a b e) (weights_add y z a b g h e) in
      ap₂ (λ (p : Bool) (c : Choice). cond p c None) (within_joined a b live) k
      ∙ cond_and (within a live) (within b live) a (weight y a) b (weight z b)

  lightest_append : (z : ℕ) (xs ys : List ℕ) → lightest_of z (xs ++ ys) ≡ lighter_of (lightest_of z xs) (lightest_of z ys)
  lightest_append z [] ys = refl
  lightest_append z (x ∷ xs) ys =
      ap (lighter_of (weigh z x)) (lightest_append z xs ys) ∙ sym (lighter_assoc (weigh z x) (lightest_of z xs) (lightest_of z ys))

  lightest_map : (y z a : ℕ) (bs : List ℕ) → 1 ≤ y → 1 ≤ z → T (every (apart a) bs)
      → lightest_of (y + z) (map (λ (b : ℕ). bit_or a b) bs) ≡ both_of (weigh y a) (lightest_of z bs)
  lightest_map y z a [] g h t = sym (both_nothing (weigh y a))
  lightest_map y z a (b ∷ bs) g h t =
      ap₂ lighter_of (weigh_joined y z a b g h (and_left (apart a b) (every (apart a) bs) t))
      (lightest_map y z a bs g h (and_right (apart a b) (every (apart a) bs) t))
      ∙ sym (both_lighter (weigh y a) (weigh z b) (lightest_of z bs))

  lightest_each : (z : ℕ) (xs ys : List ℕ) → 1 ≤ z → T (all_apart xs ys) → lightest_of (z + z) (each xs ys) ≡ both_of (lightest_of z xs) (lightest_of z ys)
  lightest_each z [] ys h t = refl
  lightest_each z (x ∷ xs) ys h t =
      lightest_append (z + z) (map (λ (b : ℕ). bit_or x b) ys) (each xs ys)
      ∙ ap₂ lighter_of (lightest_map z z x ys h h (and_left (every (apart x) ys) (all_apart xs ys) t))
      (lightest_each z xs ys h (and_right (every (apart x) ys) (all_apart xs ys) t))
      ∙ sym (lighter_both (weigh z x) (lightest_of z xs) (lightest_of z ys))

  lightest_pairs : (z : ℕ) (a b c : List ℕ) → 1 ≤ z → T (all_apart a b) → T (all_apart a c) → T (all_apart b c)
      → lightest_of (z + z) (pairs a b c) ≡ choose_pair (lightest_of z a) (lightest_of z b) (lightest_of z c)
  lightest_pairs z a b c h p q r =
      lightest_append (z + z) (each a b) (each a c ++ each b c)
      ∙ ap₂ lighter_of (lightest_each z a b h p)
      (lightest_append (z + z) (each a c) (each b c) ∙ ap₂ lighter_of (lightest_each z a c h q) (lightest_each z b c h r))

  weigh_power : (h r : ℕ) → weigh (2 ^ h) (2 ^ r) ≡ alone_of asker live d h r
  weigh_power h r =
      ap₂ (λ (b : Bool) (w : ℕ). cond b (quorum_with (2 ^ r) w) None) (within_power r live)
      (ap₂ (λ (s c : ℕ). weight_of (2 ^ h) s c) (distance_power d r) (bit_power r asker))

  root_set : (k : Kind) (y x z q : ℕ) (ps : List ℕ) → 1 ≤ y → 1 ≤ x → Turns k y x z → T (every (apart q) ps)
      → with_root k (weigh y q) (lightest_of x ps) ≡ lightest_of z (with_root_set k q ps)
  root_set Read y x z q ps g h e a = ap₂ (λ (u v : ℕ). lighter_of (weigh u q) (lightest_of v ps)) e.0 e.1
  root_set Write y x z q ps g h e a = sym (lightest_map y x q ps g h a) ∙ ap (λ (v : ℕ). lightest_of v (with_root_set Write q ps)) e

  -- what is to be shown of a subtree, whose sets have z turns
  abbrev Best : Kind → ℕ → ℕ → ℕ → Type 0
  Best k z h r = best_of k asker live d h r ≡ lightest_of z (smallest_of k h r)

  leaf : (k : Kind) (r : ℕ) → Best k 1 0 r
  unfolding best_of
  leaf k r = sym (lighter_nothing (weigh 1 (2 ^ r)) ∙ weigh_power 0 r)

  step_by : (k : Kind) (y z h r : ℕ) (a b c : List ℕ) → 1 ≤ y → Turns k (2 ^ suc h) (y + y) z
      → T (every (apart (2 ^ r)) (pairs a b c)) → T (all_apart a b) → T (all_apart a c) → T (all_apart b c)
      → best_of k asker live d h (child r 1) ≡ lightest_of y a → best_of k asker live d h (child r 2) ≡ lightest_of y b
      → best_of k asker live d h (child r 3) ≡ lightest_of y c
      → best_of k asker live d (suc h) r ≡ lightest_of z (with_root_set k (2 ^ r) (pairs a b c))
  unfolding best_of
  step_by k y z h r a b c m n t p q s e f g =
      ap₂ (with_root k) (sym (weigh_power (suc h) r)) (choose_eq e f g ∙ sym (lightest_pairs y a b c m p q s))
      ∙ root_set k (2 ^ suc h) (y + y) z (2 ^ r) (pairs a b c) (pow_pos (suc h)) (omega arith) n t

  -- that the sets which node r joins share no node
  abbrev Apart : Kind → ℕ → ℕ → Type 0
  Apart k h r =
      T (every (apart (2 ^ r)) (pairs (smallest_of k h (child r 1)) (smallest_of k h (child r 2)) (smallest_of k h (child r 3)))
      && (all_apart (smallest_of k h (child r 1)) (smallest_of k h (child r 2))
      && (all_apart (smallest_of k h (child r 1)) (smallest_of k h (child r 3)) && all_apart (smallest_of k h (child r 2)) (smallest_of k h (child r 3)))))

  step : (k : Kind) (y z h r : ℕ) → 1 ≤ y → Turns k (2 ^ suc h) (y + y) z → Apart k h r
      → Best k y h (child r 1) → Best k y h (child r 2) → Best k y h (child r 3) → Best k z (suc h) r
  step k y z h r m n t =
      let a = smallest_of k h (child r 1) in
      let b = smallest_of k h (child r 2) in
      let c = smallest_of k h (child r 3) in
      let t1 = and_right (every (apart (2 ^ r)) (pairs a b c)) _ t in
      let t2 = and_right (all_apart a b) _ t1 in
      step_by k y z h r a b c m n (and_left (every (apart (2 ^ r)) (pairs a b c)) _ t) (and_left (all_apart a b) _ t1)
      (and_left (all_apart a c) _ t2) (and_right (all_apart a c) _ t2)

  hall : (k : Kind) (z r : ℕ) → Turns k 2 2 z → Apart k 0 r → Best k z 1 r
  hall k z r n t = step k 1 z 0 r (omega arith) n t (leaf k (child r 1)) (leaf k (child r 2)) (leaf k (child r 3))

  lightest : (k : Kind) → best_of k asker live d 2 0 ≡ lightest_of (turns k) (smallest k)
  unfolding smallest
  lightest Read =
      step Read 2 4 1 0 (omega arith) (refl, refl) tt (hall Read 2 1 (refl, refl) tt) (hall Read 2 2 (refl, refl) tt) (hall Read 2 3 (refl, refl) tt)
  lightest Write = step Write 4 12 1 0 (omega arith) refl tt (hall Write 4 1 refl tt) (hall Write 4 2 refl tt) (hall Write 4 3 refl tt)

  -- the lightest of a list is the nearest of it
  weigh_one : (z q : ℕ) → weigh z q ≡ weighed asker z (one_of live d q)
  weigh_one z q = by (within q live)
    where
      by : (b : Bool) → cond b (quorum_with q (weight z q)) None ≡ weighed asker z (cond b (quorum_with q (distance d q)) None)
      by true = refl
      by false = refl

  lightest_nearest : (z : ℕ) (qs : List ℕ) → 1 ≤ z → z ≤ 255 → lightest_of z qs ≡ weighed asker z (nearest_of asker live d qs)
  lightest_nearest z [] g h = refl
  lightest_nearest z (q ∷ qs) g h =
      ap₂ lighter_of (weigh_one z q) (lightest_nearest z qs g h) ∙ sym (weighed_better asker z (one_of live d q) (nearest_of asker live d qs) g h)

  pub optimal : (k : Kind) → best_of k asker live d 2 0 ≡ weighed asker (turns k) (nearest_of asker live d (smallest k))
  optimal Read = lightest Read ∙ lightest_nearest 4 (smallest Read) (omega arith) (omega arith)
  optimal Write = lightest Write ∙ lightest_nearest 12 (smallest Write) (omega arith) (omega arith)

  -- the masks of the smallest quorums are small
  mask_weighed : (f : ℕ → Bool) (z : ℕ) (x : Choice) → T (passes f (weighed asker z x)) → T (passes f x)
  mask_weighed f z None t = tt
  mask_weighed f z (Some x) t = t

  pub mask_small : (k : Kind) → T (passes (λ (m : ℕ). ltb m 65536) (nearest_of asker live d (smallest k)))
  unfolding smallest
  mask_small k = let f : ℕ → Bool = λ m. ltb m 65536 in
      mask_weighed f 1 (nearest_of asker live d (smallest k))
      (subst (λ (x : Choice). T (passes f x)) (lightest_nearest 1 (smallest k) (omega arith) (omega arith)) (passes_lightest f 1 (smallest k) (small k)))
    where
      small : (k : Kind) → T (every (λ (m : ℕ). ltb m 65536) (smallest k))
      small Read = tt
      small Write = tt
