-- A test of each place where an item stands is that of the items. A row of places is filled one by one.
use denote.Param.Members.{Mut}
use mathlib.Core.Path.{◌≡◌, refl, sym, ap, ap₂, subst, ◌∙◌}
use mathlib.Core.Bool.{Bool, true, false, cond, ◌&&◌, ◌||◌}
use mathlib.Core.List.{List, [], ◌∷◌, ◌++◌}
use Prim.Native.Nat.{ℕ, zero, suc, ◌+◌, ◌-◌, ◌*◌, ◌≤◌, ◌<◌}
use native.Mathlib.Nat.{mul-suc}
use native.Mathlib.Numerals.{add-one}
use native.Mathlib.Omega.{arith}
use borrow.Author.Count.{below_more}
use borrow.Author.Tests.{lt-leb, lt-ltb, le-ltb, ltb-true, ltb-false, eqb-true, eqb-false}
use lib.Dec.{eqb, ltb, leb}
use lib.ListN.{length, get_or, set, take, drop, replicate, drop_of_length-le, get_or-eq_default}
use lib.Seq.{ext_get_or, get_or-set_same, get_or-set_other, paste, take_all, drop-cons}
use Rattle.octets.specs.Octets.{get}
use Rattle.std.specs.Array.{IsFromFnResult, IsFromFnResultFrom}
use Rattle.std.specs.Fn.{Called}
use Rattle.std.specs.List.{list_all, list_any, range_with_len}
use Rattle.wire.specs.Formed.{every}
use Rattle.wire.specs.Decode.{items_from}
use Rattle.wire.proofs.Accepted.{length_items}
use Rattle.classes.specs.Classes.{too_heavy, bound_count, tally_at, bounds, rising, has, repeated, class_of}
use Rattle.classes.specs.Weights.{count_up, weighed}

-- ---- a test of every item, or of some item, asked of each place where an item stands; g is the place of each
module _ (at : List ℕ → ℕ → ℕ) (size : ℕ) (l : List ℕ) (g : ℕ → ℕ) (step : (j : ℕ) → g (j + 1) ≡ g j + size) where
  module _ (f : ℕ → Bool) where
    all_from : (n j : ℕ) → list_all (λ k. f (at l (g k))) (range_with_len j n) ≡ every f (items_from at size n l (g j))
    unfolding items_from
    all_from zero j = refl
    all_from (suc n) j =
        ap (λ (b : Bool). f (at l (g j)) && b) (all_from n (j + 1) ∙ ap (λ (p : ℕ). every f (items_from at size n l p)) (step j))

    pub all_items : (n m i : ℕ) → n ≡ m → g 0 ≡ i → list_all (λ k. f (at l (g k))) (range_with_len 0 n) ≡ every f (items_from at size m l i)
    all_items n m i e p = all_from n 0 ∙ ap₂ (λ (c q : ℕ). every f (items_from at size c l q)) e p

  has_from : (t n j : ℕ) → list_any (λ k. eqb (at l (g k)) t) (range_with_len j n) ≡ has t (items_from at size n l (g j))
  unfolding items_from has
  has_from t zero j = refl
  has_from t (suc n) j =
      ap (λ (b : Bool). eqb (at l (g j)) t || b) (has_from t n (j + 1) ∙ ap (λ (p : ℕ). has t (items_from at size n l p)) (step j))

  pub has_items : (t n i : ℕ) → g 0 ≡ i → list_any (λ k. eqb (at l (g k)) t) (range_with_len 0 n) ≡ has t (items_from at size n l i)
  has_items t n i p = has_from t n 0 ∙ ap (λ (q : ℕ). has t (items_from at size n l q)) p

-- whether a tally of n stands again behind its place
module _ (l : List ℕ) (i n : ℕ) where
  again_from : (m j : ℕ) → j + m ≡ n
      → list_any (λ k. has (tally_at l (i + k)) (items_from tally_at 1 (n - k - 1) l (i + k + 1))) (range_with_len j m)
      ≡ repeated (items_from tally_at 1 m l (i + j))
  unfolding items_from repeated
  again_from zero j e = refl
  again_from (suc m) j e =
      ap₂ (λ (c : ℕ) (b : Bool). has (tally_at l (i + j)) (items_from tally_at 1 c l (i + j + 1)) || b) (omega arith)
      (again_from m (j + 1) (omega arith) ∙ ap (λ (q : ℕ). repeated (items_from tally_at 1 m l q)) (let z : i + (j + 1) ≡ i + j + 1 = omega arith in z))

  pub again_items : (m p : ℕ) → n ≡ m → i ≡ p
      → list_any (λ k. has (tally_at l (i + k)) (items_from tally_at 1 (n - k - 1) l (i + k + 1))) (range_with_len 0 n)
      ≡ repeated (items_from tally_at 1 m l p)
  again_items m p e q = again_from n 0 (omega arith) ∙ ap₂ (λ (c r : ℕ). repeated (items_from tally_at 1 c l r)) e (let z : i + 0 ≡ p = omega arith in z)

-- one turn of the loop over the bounds
module _ (low b : ℕ) (xs rest : List ℕ) (whole : Bool) (e : xs ≡ b ∷ rest) where
  rise_by : (fits : Bool) → (ltb low b && ltb b too_heavy) ≡ fits → rising low xs ≡ whole → (fits && rising b rest) ≡ whole
  unfolding rising
  rise_by fits is w = ap (λ (x : Bool). x && rising b rest) (sym is) ∙ ap (rising low) (sym e) ∙ w

  pub rise_again : low < b → b < too_heavy → rising low xs ≡ whole → rising b rest ≡ whole
  rise_again h k w = rise_by true (ap₂ ◌&&◌ (lt-ltb low b h) (lt-ltb b too_heavy k)) w

  pub rise_stop : (b < too_heavy → b ≤ low) → rising low xs ≡ whole → false ≡ whole
  rise_stop h w = by (ltb b too_heavy) refl
    where
      by : (t : Bool) → ltb b too_heavy ≡ t → false ≡ whole
      by true k = rise_by false (ap₂ ◌&&◌ (le-ltb low b (h (ltb-true b too_heavy k))) k) w
      by false k = rise_by false (ap (λ (x : Bool). ltb low b && x) k ∙ none (ltb low b)) w
        where
          none : (x : Bool) → (x && false) ≡ false
          none true = refl
          none false = refl

-- ---- the items one by one
module _ (at : List ℕ → ℕ → ℕ) (size : ℕ) (l : List ℕ) where
  pub item_at : (n i j : ℕ) → j < n → get_or (items_from at size n l i) j 0 ≡ at l (i + size * j)
  unfolding items_from
  item_at zero i j h = absurd (let z : ⊥ = omega arith in z)
  item_at (suc n) i zero h = let e : i ≡ i + size * 0 = omega arith in ap (at l) e
  item_at (suc n) i (suc j) h =
      let e : i + size + size * j ≡ i + size * suc j = omega (arith, mul-suc size j) in
      item_at n (i + size) j (omega arith) ∙ ap (at l) e

  pub item_past : (n i j : ℕ) → n ≤ j → get_or (items_from at size n l i) j 0 ≡ 0
  item_past n i j h = let m = length_items at size l n i in get_or-eq_default (items_from at size n l i) 0 {n = j} (omega (arith, m, h))

-- ---- a row counted up
module _ (f : ℕ → ℕ) where
  pub length_up : (n i : ℕ) → length (count_up f n i) ≡ n
  unfolding count_up
  length_up zero i = refl
  length_up (suc n) i = ap suc (length_up n (i + 1))

  pub up_at : (n i j : ℕ) → j < n → get_or (count_up f n i) j 0 ≡ f (i + j)
  unfolding count_up
  up_at zero i j h = absurd (let z : ⊥ = omega arith in z)
  up_at (suc n) i zero h = let e : i ≡ i + 0 = omega arith in ap f e
  up_at (suc n) i (suc j) h = let e : i + 1 + j ≡ i + suc j = omega arith in up_at n (i + 1) j (omega arith) ∙ ap f e

  -- a row that is filled
  pub up_all : (n : ℕ) (a : List ℕ) → length a ≡ n → ((j : ℕ) → j < n → get_or a j 0 ≡ f j) → a ≡ count_up f n 0
  up_all n a e g =
      let m = length_up n 0 in
      ext_get_or 0 a (count_up f n 0) (e ∙ sym m) (λ j h. g j (omega arith) ∙ sym (up_at n 0 j (omega arith) ∙ ap f (let z : 0 + j ≡ j = omega arith in z)))

-- a row made by a call at each place
module _ {F : Type 0} {g : Mut F (ℕ × Unit {0}) ℕ} (h : ℕ → ℕ) {f : F} (ys : List ℕ)
    (is : (x y : ℕ) (q : F) → Called g f (x, tt) y q → (q ≡ f) × (y ≡ h x)) where
  made_from : (n i : ℕ) → length ys ≡ i + n → IsFromFnResultFrom g f ys i n → drop i ys ≡ count_up h n i
  unfolding count_up
  made_from zero i long w = drop_of_length-le ys {i = i} (omega arith)
  made_from (suc n) i long w =
      let here = is i w.1 w.0 w.3 in
      let rest = subst (λ (q : F). IsFromFnResultFrom g q ys (i + 1) n) here.0 w.4 in
      let behind = made_from n (i + 1) (omega arith) rest in
      drop-cons ys i 0 (omega arith) ∙ ap₂ ◌∷◌ (w.2.1 0 ∙ here.1) (ap (λ (k : ℕ). drop k ys) (sym (add-one i)) ∙ behind)

  pub made_all : (n : ℕ) → IsFromFnResult g f ys n → ys ≡ count_up h n 0
  made_all n w = made_from n 0 (omega (arith, w.long)) w.each

-- two rows with the same places
pub up_same : (f g : ℕ → ℕ) (n i : ℕ) → ((j : ℕ) → i ≤ j → j < i + n → f j ≡ g j) → count_up f n i ≡ count_up g n i
unfolding count_up
up_same f g zero i h = refl
up_same f g (suc n) i h = ap₂ ◌∷◌ (h i (omega arith) (omega arith)) (up_same f g n (i + 1) (λ j p q. h j (omega arith) (omega arith)))

-- ---- classes
pub class_append : (a b : List ℕ) (w : ℕ) → class_of (a ++ b) w ≡ class_of a w + class_of b w
unfolding class_of
class_append [] b w = omega arith
class_append (x ∷ a) b w = let e = class_append a b w in omega (arith, e)

-- the class by seven bounds, one by one
abbrev pub reached_at : List ℕ → ℕ → ℕ → ℕ
reached_at l w j = cond (leb (get_or l j 0) w) 1 0

class_next : (l : List ℕ) (w j : ℕ) → j < length l → class_of (drop j l) w ≡ reached_at l w j + class_of (drop (suc j) l) w
unfolding class_of
class_next l w j h = ap (λ (r : List ℕ). class_of r w) (drop-cons l j 0 h)

pub class_seven : (l : List ℕ) (w : ℕ) → length l ≡ 7
    → class_of l w ≡ reached_at l w 0
    + (reached_at l w 1 + (reached_at l w 2 + (reached_at l w 3 + (reached_at l w 4 + (reached_at l w 5 + reached_at l w 6)))))
unfolding class_of
class_seven l w e =
    let d : class_of (drop 7 l) w ≡ 0 = ap (λ (r : List ℕ). class_of r w) (drop_of_length-le l {i = 7} (omega (arith, e))) in
    let n : (j : ℕ) → j < 7 → class_of (drop j l) w ≡ reached_at l w j + class_of (drop (suc j) l) w = λ j h. class_next l w j (omega (arith, e, h)) in
    n 0 (omega arith) ∙ ap (λ (m : ℕ). reached_at l w 0 + m) (n 1 (omega arith) ∙ ap (λ (m : ℕ). reached_at l w 1 + m) (n 2 (omega arith)
    ∙ ap (λ (m : ℕ). reached_at l w 2 + m) (n 3 (omega arith) ∙ ap (λ (m : ℕ). reached_at l w 3 + m) (n 4 (omega arith)
    ∙ ap (λ (m : ℕ). reached_at l w 4 + m) (n 5 (omega arith) ∙ ap (λ (m : ℕ). reached_at l w 5 + m) (n 6 (omega arith)
    ∙ ap (λ (m : ℕ). reached_at l w 6 + m) d ∙ (let z : reached_at l w 6 + 0 ≡ reached_at l w 6 = omega arith in z)))))))

-- bounds that no weight reaches
pub no_class : (n m b w : ℕ) → w < b → class_of (drop n (replicate m b)) w ≡ 0
unfolding class_of
no_class zero zero b w h = refl
no_class zero (suc m) b w h = ap₂ (λ (t : Bool) (c : ℕ). cond t 1 0 + c) (lt-leb b w h) (no_class zero m b w h)
no_class (suc n) zero b w h = refl
no_class (suc n) (suc m) b w h = no_class n m b w h

-- the bounds in a row of seven
pub same_class : (k row : List ℕ) (i w : ℕ) → row ≡ paste (replicate 7 65536) 0 (bounds k) i → bound_count k ≤ i → w < 65536
    → class_of row w ≡ class_of (bounds k) w
unfolding bounds
same_class k row i w e n h =
    let m = length_items (get 2) 2 k (bound_count k) 1 in
    let c = no_class (0 + i) 7 65536 w h in
    let t = take_all i (bounds k) (omega (arith, m, n)) in
    ap (λ (r : List ℕ). class_of r w) e ∙ class_append (take i (bounds k)) (drop (0 + i) (replicate 7 65536)) w
    ∙ ap₂ (λ (r : List ℕ) (z : ℕ). class_of r w + z) t c ∙ (let z : class_of (bounds k) w + 0 ≡ class_of (bounds k) w = omega arith in z)

-- ---- one turn of the sums: a weight is added to that of its class
module _ (bs s : List ℕ) (c w : ℕ) where
  poured : (i : ℕ) → i < length s → get_or (set s c (get_or s c 0 + w)) i 0 ≡ get_or s i 0 + cond (eqb c i) w 0
  poured i h = by (eqb c i) refl
    where
      by : (b : Bool) → eqb c i ≡ b → get_or (set s c (get_or s c 0 + w)) i 0 ≡ get_or s i 0 + cond b w 0
      by true e =
          let q = eqb-true c i e in
          ap (λ (j : ℕ). get_or (set s j (get_or s j 0 + w)) i 0) q ∙ get_or-set_same s i (get_or s i 0 + w) 0 h
      by false e = get_or-set_other s c i (get_or s c 0 + w) 0 (λ q. eqb-false c i e (sym q)) ∙ (let z : get_or s i 0 ≡ get_or s i 0 + 0 = omega arith in z)

  pub sum_turn : (i : ℕ) (xs rest : List ℕ) (whole : ℕ) → i < length s → c ≡ class_of bs w → xs ≡ w ∷ rest → get_or s i 0 + weighed bs i xs ≡ whole
      → get_or (set s c (get_or s c 0 + w)) i 0 + weighed bs i rest ≡ whole
  unfolding weighed
  sum_turn i xs rest whole h is e all =
      let p = poured i h in
      let q : weighed bs i xs ≡ cond (eqb (class_of bs w) i) w 0 + weighed bs i rest = ap (weighed bs i) e in
      let r : cond (eqb c i) w 0 ≡ cond (eqb (class_of bs w) i) w 0 = ap (λ (m : ℕ). cond (eqb m i) w 0) is in
      omega (arith, p, q, r, all)

  pub sum_room : (i n : ℕ) → i < length s → w ≤ 65535 → get_or s i 0 ≤ 65535 * n → get_or (set s c (get_or s c 0 + w)) i 0 ≤ 65535 * (n + 1)
  sum_room i n h small room = let p = poured i h in let q = at_most (eqb c i) in omega (arith, p, q, small, room)
    where
      at_most : (b : Bool) → cond b w 0 ≤ w
      at_most true = omega arith
      at_most false = omega arith
