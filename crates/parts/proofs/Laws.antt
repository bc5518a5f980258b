-- The laws of parts: a part depends on its own bytes alone, a replaced part is what was put there, and every other part is as it was. Laid bytes read as
-- the list does.
use mathlib.Core.Path.{◌≡◌, refl, sym, ap, ◌∙◌}
use mathlib.Core.Logic.{◌⊎◌, inl, inr, ⊎_elim}
use mathlib.Core.List.{List, [], ◌∷◌, ◌++◌}
use Prim.Native.Nat.{ℕ, zero, suc, ◌+◌, ◌-◌, ◌<◌, ◌≤◌, min}
use native.Mathlib.Omega.{arith}
use lib.ListN.{length, get_or, take, drop, replicate, length-append, length-drop, get_or-append, get_or-eq_default}
use lib.Seq.{take_at, drop_at, length-take-le, ext_get_or, get_or-drop, get_or-take, get_or-append-add, paste, length_paste_head}
use Rattle.octets.proofs.Laws.{lt_or_le}
use Rattle.parts.specs.Parts.{part, splice, padded}

-- what a lender has of a part that it lent, `&mut l[a..a + n]`, to a function that leaves f of what it was lent
pub lent : (f : List ℕ → List ℕ) (n a k : ℕ) (l last : List ℕ) → k ≡ n → last ≡ f (take k (drop a l))
    → take a l ++ (last ++ drop k (drop a l)) ≡ splice n a (f (part n a l)) l
unfolding part splice
lent f n a k l last e p = rw (p, e)

pub length_part : (n a : ℕ) (l : List ℕ) → a + n ≤ length l → length (part n a l) ≡ n
unfolding part
length_part n a l h = let d = length-drop a l in length-take-le n (drop a l) (omega arith)

pub get_d_part : (n a : ℕ) (l : List ℕ) (j : ℕ) → j < n → get_or (part n a l) j 0 ≡ get_or l (a + j) 0
unfolding part
get_d_part n a l j h = get_or-take n (drop a l) j 0 h ∙ get_or-drop a l j 0

-- two parts are the same where their bytes are
pub part_ext : (n a b : ℕ) (l m : List ℕ) → a + n ≤ length l → b + n ≤ length m → ((j : ℕ) → j < n → get_or l (a + j) 0 ≡ get_or m (b + j) 0)
    → part n a l ≡ part n b m
part_ext n a b l m u v h =
    let p = length_part n a l u in
    let q = length_part n b m v in
    ext_get_or 0 (part n a l) (part n b m) (p ∙ sym q)
    (λ j i. let k : j < n = omega arith in get_d_part n a l j k ∙ h j k ∙ sym (get_d_part n b m j k))

module _ (n a : ℕ) (m l : List ℕ) (e : length m ≡ n) (h : a + n ≤ length l) where
  front : length (take a l) ≡ a
  front = length-take-le a l (omega arith)

  pub length_splice : length (splice n a m l) ≡ length l
  unfolding splice
  length_splice = simp (length-append, length-drop, front) (omega arith)

  -- outside the part nothing changes
  pub get_d_splice : (j : ℕ) → (j < a) ⊎ (a + n ≤ j) → get_or (splice n a m l) j 0 ≡ get_or l j 0
  unfolding splice
  get_d_splice j o =
      let t = front in
      ⊎_elim
      (λ p. get_or-append (take a l) (m ++ drop n (drop a l)) 0 j (omega arith) ∙ get_or-take a l j 0 p)
      (λ p. let i = j - (a + n) in
      let d : j ≡ length (take a l) + (length m + i) = omega arith in
      let f : a + (n + i) ≡ j = omega arith in
      ap (λ (k : ℕ). get_or (take a l ++ (m ++ drop n (drop a l))) k 0) d
      ∙ get_or-append-add (take a l) (m ++ drop n (drop a l)) (length m + i) 0
      ∙ get_or-append-add m (drop n (drop a l)) i 0
      ∙ get_or-drop n (drop a l) i 0
      ∙ get_or-drop a l (n + i) 0
      ∙ ap (λ (k : ℕ). get_or l k 0) f)
      o

  -- the part is what was put there
  pub part_splice : part n a (splice n a m l) ≡ m
  unfolding part splice
  part_splice = ap (take n) (drop_at (take a l) (m ++ drop n (drop a l)) a front) ∙ take_at m (drop n (drop a l)) n e

  -- another part is as it was
  pub part_other : (b : ℕ) → b + n ≤ length l → (b + n ≤ a) ⊎ (a + n ≤ b) → part n b (splice n a m l) ≡ part n b l
  part_other b u o =
      let s = length_splice in
      part_ext n b b (splice n a m l) l (omega arith) u
      (λ j p. get_d_splice (b + j) (⊎_elim (λ s. inl (omega arith)) (λ s. inr (omega arith)) o))

-- ---- a copy: d with the n bytes from `at` on replaced by the first n of s
module _ (d : List ℕ) (at : ℕ) (s : List ℕ) (n : ℕ) (h : at + n ≤ length d) (k : n ≤ length s) where
  head : length (take at d ++ take n s) ≡ at + n
  head = length_paste_head d at s n (omega arith) k

  pub get_d_paste_in : (j : ℕ) → j < n → get_or (paste d at s n) (at + j) 0 ≡ get_or s j 0
  get_d_paste_in j p =
      let t : length (take at d) ≡ at = length-take-le at d (omega arith) in
      let z = head in
      get_or-append (take at d ++ take n s) (drop (at + n) d) 0 (at + j) (omega arith)
      ∙ ap (λ (i : ℕ). get_or (take at d ++ take n s) (i + j) 0) (sym t)
      ∙ get_or-append-add (take at d) (take n s) j 0
      ∙ get_or-take n s j 0 p

  pub get_d_paste_out : (j : ℕ) → (j < at) ⊎ (at + n ≤ j) → get_or (paste d at s n) j 0 ≡ get_or d j 0
  get_d_paste_out j o =
      let t : length (take at d) ≡ at = length-take-le at d (omega arith) in
      let z = head in
      ⊎_elim
      (λ p. get_or-append (take at d ++ take n s) (drop (at + n) d) 0 j (omega arith)
      ∙ get_or-append (take at d) (take n s) 0 j (omega arith)
      ∙ get_or-take at d j 0 p)
      (λ p. let i = j - (at + n) in
      let e : j ≡ length (take at d ++ take n s) + i = omega arith in
      let f : at + n + i ≡ j = omega arith in
      ap (λ (k : ℕ). get_or ((take at d ++ take n s) ++ drop (at + n) d) k 0) e
      ∙ get_or-append-add (take at d ++ take n s) (drop (at + n) d) i 0
      ∙ get_or-drop (at + n) d i 0
      ∙ ap (λ (k : ℕ). get_or d k 0) f)
      o

-- ---- a list with zeros behind it
pub length_padded : (n : ℕ) (l : List ℕ) → length (padded n l) ≡ n
unfolding padded
length_padded zero l = refl
length_padded (suc n) [] = ap suc (length_padded n [])
length_padded (suc n) (x ∷ l) = ap suc (length_padded n l)

-- the front of the list, and the zeros
pub padded_parts : (n k m : ℕ) (l : List ℕ) → k ≡ min n (length l) → k + m ≡ n → take k l ++ replicate m 0 ≡ padded n l
unfolding padded
padded_parts zero zero zero l e f = refl
padded_parts zero zero (suc m) l e f = absurd (let z : ⊥ = omega arith in z)
padded_parts zero (suc k) m l e f = absurd (let z : ⊥ = omega arith in z)
padded_parts (suc n) zero zero l e f = absurd (let z : ⊥ = omega arith in z)
padded_parts (suc n) zero (suc m) [] e f = ap (λ (r : List ℕ). 0 ∷ r) (padded_parts n zero m [] (omega arith) (omega arith))
padded_parts (suc n) zero (suc m) (x ∷ l) e f = absurd (let z : ⊥ = omega arith in z)
padded_parts (suc n) (suc k) m [] e f = absurd (let z : ⊥ = omega arith in z)
padded_parts (suc n) (suc k) m (x ∷ l) e f = ap (λ (r : List ℕ). x ∷ r) (padded_parts n k m l (omega arith) (omega arith))

pub padded_at : (n : ℕ) (l : List ℕ) (i : ℕ) → i < n → get_or (padded n l) i 0 ≡ get_or l i 0
unfolding padded
padded_at zero l i h = absurd (let z : ⊥ = omega arith in z)
padded_at (suc n) [] zero h = refl
padded_at (suc n) [] (suc i) h = padded_at n [] i (omega arith)
padded_at (suc n) (x ∷ l) zero h = refl
padded_at (suc n) (x ∷ l) (suc i) h = padded_at n l i (omega arith)

-- a list that has room reads the same at every place
pub padded_same : (n : ℕ) (l : List ℕ) → length l ≤ n → (i : ℕ) → get_or (padded n l) i 0 ≡ get_or l i 0
padded_same n l h i =
    ⊎_elim
    (padded_at n l i)
    (λ k. let m = length_padded n l in
    get_or-eq_default (padded n l) 0 {n = i} (omega (arith, m, k)) ∙ sym (get_or-eq_default l 0 {n = i} (omega (arith, h, k))))
    (lt_or_le i n)
