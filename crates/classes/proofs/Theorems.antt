-- A weight on a bound is in the upper class and every weight has a tally; ten times the grams with the tenths left over is the sum of the weights, class by
-- class; what is kept of a table is the table.
use mathlib.Core.Path.{◌≡◌, refl, ap, ap₂, ◌∙◌}
use mathlib.Core.Bool.{Bool, true, false, cond, not, ◌&&◌, ◌||◌, or-true}
use mathlib.Core.List.{List, [], ◌∷◌}
use Prim.Native.Nat.{ℕ, zero, suc, ◌+◌, ◌*◌, ◌^◌, ◌≤◌, ◌<◌}
use native.Mathlib.Omega.{arith}
use lib.Dec.{eqb, ltb, leb}
use lib.ListN.{length, get_or, replicate}
use borrow.Author.Tests.{ltb-true, ltb-false, le-leb, lt-leb, not-false}
use Rattle.numbers.specs.Sizes.{objects}
use Rattle.numbers.specs.Numbers.{no_such_object, busy, bad_bounds, tally_twice}
use Rattle.octets.specs.Octets.{get}
use Rattle.octets.proofs.Laws.{get_ext}
use Rattle.parts.specs.Parts.{padded}
use Rattle.parts.proofs.Laws.{padded_same}
use Rattle.wire.specs.Formed.{every}
use Rattle.wire.specs.Decode.{items_from}
use Rattle.wire.proofs.Accepted.{length_items}
use Rattle.classes.specs.Classes.{most_bounds, most_classes, too_heavy, bound_count, tally_place, tally_count, bounds, tally_at}
use Rattle.classes.specs.Classes.{tallies, strange, rising, unbounded, has, repeated, twice, length_number, table_number}
use Rattle.classes.specs.Classes.{kept_size, no_table, sound, class_of}
use Rattle.classes.specs.Weights.{most_weights, weight_count, weights, overweight, weighed, together, grams_in, left_in, count_up, tallies_of, grams_of}
use Rattle.classes.specs.Weights.{left_of}
use Rattle.classes.proofs.Laws.{length_up, up_at}
use Rattle.classes.proofs.Table.{accepted_bounded, some_table, table_fits, neither, both_of}

-- ---- THE THEOREMS of classes: "a weight on a bound is in the upper class"
pub on_a_bound : (b : ℕ) → class_of (b ∷ []) b ≡ 1
unfolding class_of
on_a_bound b = ap (λ (t : Bool). cond t 1 0 + 0) (le-leb b b (omega arith))

-- bounds above a weight do not count
class_none : (low : ℕ) (bs : List ℕ) (w : ℕ) → rising low bs ≡ true → w ≤ low → class_of bs w ≡ 0
unfolding rising class_of
class_none low [] w r h = refl
class_none low (b ∷ bs) w r h =
    let a = both_of (ltb low b && ltb b too_heavy) (rising b bs) r in
    let t = ltb-true low b (both_of (ltb low b) (ltb b too_heavy) a.0).0 in
    ap₂ (λ (x : Bool) (n : ℕ). cond x 1 0 + n) (lt-leb b w (omega (arith, t, h))) (class_none b bs w a.1 (omega (arith, t, h)))

above_low : (low : ℕ) (bs : List ℕ) (i : ℕ) → rising low bs ≡ true → i < length bs → low < get_or bs i 0
unfolding rising
above_low low [] i r h = absurd (let z : ⊥ = omega (arith, h) in z)
above_low low (b ∷ bs) zero r h = ltb-true low b (both_of (ltb low b) (ltb b too_heavy) (both_of (ltb low b && ltb b too_heavy) (rising b bs) r).0).0
above_low low (b ∷ bs) (suc i) r h =
    let a = both_of (ltb low b && ltb b too_heavy) (rising b bs) r in
    let t = ltb-true low b (both_of (ltb low b) (ltb b too_heavy) a.0).0 in
    let n = above_low b bs i a.1 (omega (arith, h)) in
    omega (arith, t, n)

pub class_of_bound : (low : ℕ) (bs : List ℕ) (i : ℕ) → rising low bs ≡ true → i < length bs → class_of bs (get_or bs i 0) ≡ i + 1
unfolding rising class_of
class_of_bound low [] i r h = absurd (let z : ⊥ = omega (arith, h) in z)
class_of_bound low (b ∷ bs) zero r h =
    let a = both_of (ltb low b && ltb b too_heavy) (rising b bs) r in
    ap₂ (λ (x : Bool) (n : ℕ). cond x 1 0 + n) (le-leb b b (omega arith)) (class_none b bs b a.1 (omega arith))
class_of_bound low (b ∷ bs) (suc i) r h =
    let a = both_of (ltb low b && ltb b too_heavy) (rising b bs) r in
    let m = above_low b bs i a.1 (omega (arith, h)) in
    ap₂ (λ (x : Bool) (n : ℕ). cond x 1 0 + n) (le-leb b (get_or bs i 0) (omega (arith, m))) (class_of_bound b bs i a.1 (omega (arith, h)))
    ∙ (let z : 1 + (i + 1) ≡ suc i + 1 = omega arith in z)

-- every weight has a tally
class_most : (bs : List ℕ) (w : ℕ) → class_of bs w ≤ length bs
unfolding class_of
class_most [] w = omega arith
class_most (b ∷ bs) w = let m = class_most bs w in let n = at_most (leb b w) in omega (arith, m, n)
  where
    at_most : (t : Bool) → cond t 1 0 ≤ 1
    at_most true = omega arith
    at_most false = omega arith

pub class_below : (k : List ℕ) (w : ℕ) → table_number false k ≡ 0 → class_of (bounds k) w < tally_count k
unfolding bounds
class_below k w e =
    let b = accepted_bounded false k e in
    let n = length_items (get 2) 2 k (bound_count k) 1 in
    let m = class_most (bounds k) w in
    omega (arith, n, m, b.tallied)

-- ---- THE THEOREMS of a batch
module _ (k t l : List ℕ) (i : ℕ) where
  pub tenths_kept : 10 * grams_in k t l i + left_in k t l i ≡ get_or t i 0 + weighed (bounds k) i (weights l)
  unfolding together
  tenths_kept = omega arith

  pub left_below : left_in k t l i < 10
  left_below = omega arith

-- so many weights that are some weigh less than this
weighed_most : (bs : List ℕ) (i : ℕ) (ws : List ℕ) → every (λ (w : ℕ). ltb w too_heavy) ws ≡ true → weighed bs i ws ≤ 1999 * length ws
unfolding weighed
weighed_most bs i [] e = omega arith
weighed_most bs i (w ∷ ws) e =
    let a = both_of (ltb w too_heavy) (every (λ (u : ℕ). ltb u too_heavy) ws) e in
    let h = ltb-true w too_heavy a.0 in
    let m = weighed_most bs i ws a.1 in
    let n = at_most (eqb (class_of bs w) i) in
    omega (arith, h, m, n)
  where
    at_most : (t : Bool) → cond t w 0 ≤ w
    at_most true = omega arith
    at_most false = omega arith

pub grams_small : (k t l : List ℕ) (i : ℕ) → overweight l ≡ false → get_or t i 0 ≤ 255 → grams_in k t l i < 2 ^ 24
unfolding overweight weights together
grams_small k t l i e h =
    let n = neither (ltb most_weights (weight_count l)) (not (every (λ (w : ℕ). ltb w too_heavy) (weights l))) e in
    let c = ltb-false most_weights (weight_count l) n.0 in
    let m = weighed_most (bounds k) i (weights l) (not-false (every (λ (w : ℕ). ltb w too_heavy) (weights l)) n.1) in
    let s = length_items (get 2) 2 l (weight_count l) 2 in
    omega (arith, c, m, s, h)

-- ---- the rows of eight
pub length_tallies : (k : List ℕ) → length (tallies_of k) ≡ most_classes
unfolding tallies_of
length_tallies k = length_up (λ (i : ℕ). get_or (tallies k) i 0) most_classes 0

pub tally_at_lem : (k : List ℕ) (i : ℕ) → i < most_classes → get_or (tallies_of k) i 0 ≡ get_or (tallies k) i 0
unfolding tallies_of
tally_at_lem k i h = up_at (λ (j : ℕ). get_or (tallies k) j 0) most_classes 0 i h
    ∙ ap (λ (j : ℕ). get_or (tallies k) j 0) (let z : 0 + i ≡ i = omega arith in z)

module _ (k t l : List ℕ) where
  pub length_grams : length (grams_of k t l) ≡ most_classes
  unfolding grams_of
  length_grams = length_up (grams_in k t l) most_classes 0

  pub length_left : length (left_of k t l) ≡ most_classes
  unfolding left_of
  length_left = length_up (left_in k t l) most_classes 0

  pub grams_at : (i : ℕ) → i < most_classes → get_or (grams_of k t l) i 0 ≡ grams_in k t l i
  unfolding grams_of
  grams_at i h = up_at (grams_in k t l) most_classes 0 i h ∙ ap (grams_in k t l) (let z : 0 + i ≡ i = omega arith in z)

  pub left_at : (i : ℕ) → i < most_classes → get_or (left_of k t l) i 0 ≡ left_in k t l i
  unfolding left_of
  left_at i h = up_at (left_in k t l) most_classes 0 i h ∙ ap (left_in k t l) (let z : 0 + i ≡ i = omega arith in z)

  -- "0 to 9 a class"
  every_up : (n i : ℕ) → every (λ (x : ℕ). leb x 9) (count_up (left_in k t l) n i) ≡ true
  unfolding count_up
  every_up zero i = refl
  every_up (suc n) i =
      let h = left_below k t l i in
      ap₂ ◌&&◌ (le-leb (left_in k t l i) 9 (omega (arith, h))) (every_up n (i + 1))

  pub every_left : every (λ (x : ℕ). leb x 9) (left_of k t l) ≡ true
  unfolding left_of
  every_left = every_up most_classes 0

-- ---- lists that read the same at every place are the same table
module _ (a b : List ℕ) (same : (i : ℕ) → get_or a i 0 ≡ get_or b i 0) where
  same_items : (at : List ℕ → ℕ → ℕ) (size : ℕ) → ((i : ℕ) → at a i ≡ at b i) → (n i : ℕ) → items_from at size n a i ≡ items_from at size n b i
  unfolding items_from
  same_items at size e zero i = refl
  same_items at size e (suc n) i = ap₂ ◌∷◌ (e i) (same_items at size e n (i + size))

  pub same_bounds : bounds a ≡ bounds b
  unfolding bounds
  same_bounds = same_items (get 2) 2 (λ i. get_ext 2 a b i (λ j p q. same j)) (bound_count a) 1 ∙ ap (λ (n : ℕ). items_from (get 2) 2 n b 1) (same 0)

  same_place : tally_place a ≡ tally_place b
  same_place = ap (λ (n : ℕ). 1 + 2 * n) (same 0)

  pub same_count : tally_count a ≡ tally_count b
  same_count = same (tally_place a) ∙ ap (λ (i : ℕ). get_or b i 0) same_place

  pub same_tallies : tallies a ≡ tallies b
  unfolding tallies
  same_tallies = same_items tally_at 1 same (tally_count a) (tally_place a + 1) ∙ ap₂ (λ (n i : ℕ). items_from tally_at 1 n b (i + 1)) same_count same_place

  pub same_none : no_table a ≡ no_table b
  unfolding no_table
  same_none = ap₂ (λ (m n : ℕ). eqb m 0 && eqb n 0) (same 0) same_count

  same_strange : strange a ≡ strange b
  unfolding strange
  same_strange = ap (λ (ts : List ℕ). not (every (λ (t : ℕ). ltb t objects) ts)) same_tallies

  same_unbounded : unbounded a ≡ unbounded b
  unfolding unbounded
  same_unbounded = ap₂ (λ (n : ℕ) (r : Bool). ltb most_bounds n || r) (same 0)
      (ap₂ ◌||◌ (ap₂ (λ (m n : ℕ). not (eqb m (n + 1))) same_count (same 0)) (ap (λ (bs : List ℕ). not (rising 0 bs)) same_bounds))

  same_twice : twice a ≡ twice b
  unfolding twice
  same_twice = ap repeated same_tallies

  pub same_number : (working : Bool) → table_number working a ≡ table_number working b
  unfolding table_number
  same_number working =
      ap₂ (λ (s : Bool) (rest : ℕ). cond s no_such_object (cond working busy rest)) same_strange
      (ap₂ (λ (u t : Bool). cond u bad_bounds (cond t tally_twice 0)) same_unbounded same_twice)

-- ---- THE THEOREMS of what is kept: what loading accepts is kept whole, and it is sound
module _ (l : List ℕ) (long : length_number l ≡ 0) (fine : table_number false l ≡ 0) where
  reads : (i : ℕ) → get_or (padded kept_size l) i 0 ≡ get_or l i 0
  reads = padded_same kept_size l (table_fits l long (accepted_bounded false l fine))

  pub stored_bounds : bounds (padded kept_size l) ≡ bounds l
  stored_bounds = same_bounds (padded kept_size l) l reads

  pub stored_tallies : tallies (padded kept_size l) ≡ tallies l
  stored_tallies = same_tallies (padded kept_size l) l reads

  pub stored_table : no_table (padded kept_size l) ≡ false
  stored_table = same_none (padded kept_size l) l reads ∙ some_table l (accepted_bounded false l fine)

  pub stored_sound : sound (padded kept_size l) ≡ true
  unfolding sound
  stored_sound =
      ap (λ (n : ℕ). no_table (padded kept_size l) || eqb n 0) (same_number (padded kept_size l) l reads false ∙ fine)
      ∙ or-true (no_table (padded kept_size l))

-- nothing kept is sound, and no table
pub blank_sound : sound (replicate kept_size 0) ≡ true
unfolding sound no_table
blank_sound = refl

pub blank_none : no_table (replicate kept_size 0) ≡ true
unfolding no_table
blank_none = refl

-- ---- samples: bounds 500 and 600, tallies 1, 2 and 3
abbrev pub sample : List ℕ
sample = 2 ∷ 244 ∷ 1 ∷ 88 ∷ 2 ∷ 3 ∷ 1 ∷ 2 ∷ 3 ∷ []

pub sample_accepted : (length_number sample ≡ 0) × (table_number false sample ≡ 0)
unfolding length_number table_number strange unbounded twice repeated has rising bounds tallies items_from get
sample_accepted = (refl, refl)

pub sample_classes : (class_of (bounds sample) 499 ≡ 0) × (class_of (bounds sample) 500 ≡ 1)
    × (class_of (bounds sample) 599 ≡ 1) × (class_of (bounds sample) 600 ≡ 2)
unfolding class_of bounds items_from get
sample_classes = (refl, refl, refl, refl)

-- a batch of 499, 500 and 1,999, with 3 tenths waiting in each class
pub sample_batch : (grams_of sample (replicate 8 3) (3 ∷ 0 ∷ 243 ∷ 1 ∷ 244 ∷ 1 ∷ 207 ∷ 7 ∷ []) ≡ 50 ∷ 50 ∷ 200 ∷ 0 ∷ 0 ∷ 0 ∷ 0 ∷ 0 ∷ [])
    × (left_of sample (replicate 8 3) (3 ∷ 0 ∷ 243 ∷ 1 ∷ 244 ∷ 1 ∷ 207 ∷ 7 ∷ []) ≡ 2 ∷ 3 ∷ 2 ∷ 3 ∷ 3 ∷ 3 ∷ 3 ∷ 3 ∷ [])
unfolding grams_of left_of count_up together weighed weights class_of bounds items_from get
sample_batch = (refl, refl)
