-- The laws of numbers in bytes: a lens at each place, which leaves every other place alone. By induction on the width.
use Prim.Native.Nat.{ℕ, zero, suc, ◌+◌, ◌-◌, ◌*◌, ◌/◌, ◌%◌, ◌^◌, ◌<◌, ◌≤◌, min}
use native.Mathlib.Omega.{arith}
use native.Mathlib.Nat.{pow-suc}
use native.Mathlib.Numerals.{add-one}
use mathlib.Core.Path.{◌≡◌, refl, sym, ap, ◌∙◌}
use mathlib.Core.Logic.{◌⊎◌, inl, inr, ⊎_elim}
use mathlib.Core.List.{List, [], ◌∷◌, ◌++◌}
use mathlib.Core.Bool.{Bool, true, false}
use lib.Dec.{ltb}
use borrow.Author.Tests.{ltb-true, ltb-false}
use lib.ListN.{length, get_or, set, take, drop, length-set, get_or-eq_default}
use lib.Seq.{get_or-set_same, get_or-set_other, set-set, set_comm, set-get_or, set_out, get_or-append-add, get_or-drop, sets, drop-cons}
use Rattle.octets.specs.Octets.{get, put, le}

pub length_put : (k : ℕ) (l : List ℕ) (i v : ℕ) → length (put k l i v) ≡ length l
unfolding put
length_put zero l i v = refl
length_put (suc k) l i v = length_put k (set l i (v % 256)) (i + 1) (v / 256) ∙ length-set l i (v % 256)

-- outside i .. i + k nothing changes
pub get_d_put : (k : ℕ) (l : List ℕ) (i v j : ℕ) → (j < i) ⊎ (i + k ≤ j) → get_or (put k l i v) j 0 ≡ get_or l j 0
unfolding put
get_d_put zero l i v j h = refl
get_d_put (suc k) l i v j h =
    get_d_put k (set l i (v % 256)) (i + 1) (v / 256) j (⊎_elim (λ p. inl (omega arith)) (λ p. inr (omega arith)) h)
    ∙ get_or-set_other l i j (v % 256) 0 (λ e. ⊎_elim (λ p. omega arith) (λ p. omega arith) h)

-- a number depends on its own bytes alone
pub get_ext : (k : ℕ) (l m : List ℕ) (i : ℕ) → ((j : ℕ) → i ≤ j → j < i + k → get_or l j 0 ≡ get_or m j 0) → get k l i ≡ get k m i
unfolding get
get_ext zero l m i h = refl
get_ext (suc k) l m i h =
    let a : get_or l i 0 ≡ get_or m i 0 = h i (omega arith) (omega arith) in
    let b : get k l (i + 1) ≡ get k m (i + 1) = get_ext k l m (i + 1) (λ j p q. h j (omega arith) (omega arith)) in
    cc

-- read elsewhere
pub get_put_other : (n k : ℕ) (l : List ℕ) (i v j : ℕ) → (j + n ≤ i) ⊎ (i + k ≤ j) → get n (put k l i v) j ≡ get n l j
get_put_other n k l i v j h =
    get_ext n (put k l i v) l j (λ m p q. get_d_put k l i v m (⊎_elim (λ a. inl (omega arith)) (λ a. inr (omega arith)) h))

-- read after write
pub get_put : (k : ℕ) (l : List ℕ) (i v : ℕ) → i + k ≤ length l → v < 256 ^ k → get k (put k l i v) i ≡ v
unfolding get put
get_put zero l i v h f = omega arith
get_put (suc k) l i v h f =
    let m = set l i (v % 256) in
    let e : length m ≡ length l = length-set l i (v % 256) in
    let p : 256 ^ suc k ≡ 256 ^ k * 256 = pow-suc 256 k in
    let a : get_or (put k m (i + 1) (v / 256)) i 0 ≡ v % 256 =
    get_d_put k m (i + 1) (v / 256) i (inl (omega arith)) ∙ get_or-set_same l i (v % 256) 0 (omega arith) in
    let b : get k (put k m (i + 1) (v / 256)) (i + 1) ≡ v / 256 = get_put k m (i + 1) (v / 256) (omega arith) (omega arith) in
    omega arith

-- every element is a byte
abbrev pub Bytes : List ℕ → Type 0
Bytes l = (j : ℕ) → get_or l j 0 < 256

-- bytes make a number of k bytes
pub get_small : (k : ℕ) (l : List ℕ) (i : ℕ) → Bytes l → get k l i < 256 ^ k
unfolding get
get_small zero l i h = omega arith
get_small (suc k) l i h =
    let p : 256 ^ suc k ≡ 256 ^ k * 256 = pow-suc 256 k in
    let b : get k l (i + 1) < 256 ^ k = get_small k l (i + 1) h in
    omega (arith, h i)

-- writing what stands there changes nothing
pub put_get : (k : ℕ) (l : List ℕ) (i : ℕ) → Bytes l → put k l i (get k l i) ≡ l
unfolding get put
put_get zero l i h = refl
put_get (suc k) l i h =
    let lo : (get_or l i 0 + 256 * get k l (i + 1)) % 256 ≡ get_or l i 0 = omega (arith, h i) in
    let hi : (get_or l i 0 + 256 * get k l (i + 1)) / 256 ≡ get k l (i + 1) = omega (arith, h i) in
    rw (lo, hi, set-get_or) (put_get k l (i + 1) h)

-- a store before a number commutes with writing it
set_put : (k : ℕ) (l : List ℕ) (i v j b : ℕ) → j < i → set (put k l i v) j b ≡ put k (set l j b) i v
unfolding put
set_put zero l i v j b h = refl
set_put (suc k) l i v j b h =
    set_put k (set l i (v % 256)) (i + 1) (v / 256) j b (omega arith)
    ∙ ap (λ (m : List ℕ). put k m (i + 1) (v / 256)) (set_comm l i j (v % 256) b (λ e. omega arith))

-- the last of two writes counts
pub put_put : (k : ℕ) (l : List ℕ) (i v w : ℕ) → put k (put k l i v) i w ≡ put k l i w
unfolding put
put_put zero l i v w = refl
put_put (suc k) l i v w =
    ap (λ (m : List ℕ). put k m (i + 1) (w / 256))
    (set_put k (set l i (v % 256)) (i + 1) (v / 256) i (w % 256) (omega arith)
    ∙ ap (λ (m : List ℕ). put k m (i + 1) (v / 256)) (set-set l i (v % 256) (w % 256)))
    ∙ put_put k (set l i (w % 256)) (i + 1) (v / 256) (w / 256)

-- ---- a number as a list of its bytes
pub length_le : (k v : ℕ) → length (le k v) ≡ k
unfolding le
length_le zero v = refl
length_le (suc k) v = ap suc (length_le k (v / 256))

-- writing is storing the bytes
pub put_le : (k : ℕ) (l : List ℕ) (i v : ℕ) → put k l i v ≡ sets l i (le k v)
unfolding put le
put_le zero l i v = refl
put_le (suc k) l i v =
    put_le k (set l i (v % 256)) (i + 1) (v / 256) ∙ ap (λ (j : ℕ). sets (set l i (v % 256)) j (le k (v / 256))) (add-one i)

-- a number that starts in the second of two lists
pub get_append : (k : ℕ) (a b : List ℕ) (i : ℕ) → get k (a ++ b) (length a + i) ≡ get k b i
unfolding get
get_append zero a b i = refl
get_append (suc k) a b i =
    let e : length a + i + 1 ≡ length a + (i + 1) = omega arith in
    let p : get_or (a ++ b) (length a + i) 0 ≡ get_or b i 0 = get_or-append-add a b i 0 in
    let q : get k (a ++ b) (length a + i + 1) ≡ get k b (i + 1) = ap (get k (a ++ b)) e ∙ get_append k a b (i + 1) in
    cc

-- a number in what is left of a list
pub get_drop : (k : ℕ) (l : List ℕ) (n i : ℕ) → get k (drop n l) i ≡ get k l (n + i)
unfolding get
get_drop zero l n i = refl
get_drop (suc k) l n i =
    let e : n + (i + 1) ≡ n + i + 1 = omega arith in
    let p : get_or (drop n l) i 0 ≡ get_or l (n + i) 0 = get_or-drop n l i 0 in
    let q : get k (drop n l) (i + 1) ≡ get k l (n + i + 1) = get_drop k l n (i + 1) ∙ ap (get k l) e in
    cc

-- reading the bytes of a number gives the number
pub get_le : (k v : ℕ) (b : List ℕ) → v < 256 ^ k → get k (le k v ++ b) 0 ≡ v
unfolding get le
get_le zero v b h = omega arith
get_le (suc k) v b h =
    let p : 256 ^ suc k ≡ 256 ^ k * 256 = pow-suc 256 k in
    let q : get k (v % 256 ∷ (le k (v / 256) ++ b)) (0 + 1) ≡ get k (le k (v / 256) ++ b) 0 = get_append k (v % 256 ∷ []) (le k (v / 256) ++ b) 0 in
    let r : get k (le k (v / 256) ++ b) 0 ≡ v / 256 = get_le k (v / 256) b (omega arith) in
    omega arith

-- the bytes of the number that stands at i are the bytes that stand there
pub le_get : (k : ℕ) (l : List ℕ) (i : ℕ) → i + k ≤ length l → Bytes l → le k (get k l i) ≡ take k (drop i l)
unfolding get le
le_get zero l i h f = refl
le_get (suc k) l i h f =
    let lo : (get_or l i 0 + 256 * get k l (i + 1)) % 256 ≡ get_or l i 0 = omega (arith, f i) in
    let hi : (get_or l i 0 + 256 * get k l (i + 1)) / 256 ≡ get k l (i + 1) = omega (arith, f i) in
    let e : suc i ≡ i + 1 = omega arith in
    rw (lo, hi, le_get k l (i + 1) (omega arith) f, drop-cons l i 0 (omega arith), e)

-- ---- what the loops use
-- one byte of a write
pub put_step : (k : ℕ) (l : List ℕ) (i v : ℕ) → 0 < k → put k l i v ≡ put (k - 1) (set l i (v % 256)) (i + 1) (v / 256)
unfolding put
put_step zero l i v h = absurd (let z : ⊥ = omega arith in z)
put_step (suc k) l i v h = let e : k ≡ suc k - 1 = omega arith in ap (λ (n : ℕ). put n (set l i (v % 256)) (i + 1) (v / 256)) e

pub put_zero : (k : ℕ) (l : List ℕ) (i v : ℕ) → k ≤ 0 → put k l i v ≡ l
unfolding put
put_zero zero l i v h = refl
put_zero (suc k) l i v h = absurd (let z : ⊥ = omega arith in z)

-- past the end the number is 0, and writing changes nothing
pub get_out : (k : ℕ) (l : List ℕ) (i : ℕ) → length l ≤ i → get k l i ≡ 0
unfolding get
get_out zero l i h = refl
get_out (suc k) l i h = omega (arith, get_or-eq_default l 0 h, get_out k l (i + 1) (omega arith))

pub put_out : (k : ℕ) (l : List ℕ) (i v : ℕ) → length l ≤ i → put k l i v ≡ l
unfolding put
put_out zero l i v h = refl
put_out (suc k) l i v h =
    ap (λ (m : List ℕ). put k m (i + 1) (v / 256)) (set_out l i (v % 256) h) ∙ put_out k l (i + 1) (v / 256) (omega arith)

-- only the bytes that are there count
pub lt_or_le : (m n : ℕ) → (m < n) ⊎ (n ≤ m)
lt_or_le m n = by (ltb m n) refl
  where
    by : (b : Bool) → ltb m n ≡ b → (m < n) ⊎ (n ≤ m)
    by true e = inl (ltb-true m n e)
    by false e = inr (ltb-false m n e)

pub get_there : (k : ℕ) (l : List ℕ) (i : ℕ) → get (min k (length l - i)) l i ≡ get k l i
unfolding get
get_there zero l i = let e : min 0 (length l - i) ≡ 0 = omega arith in ap (λ (n : ℕ). get n l i) e
get_there (suc k) l i =
    ⊎_elim
    (λ (h : i < length l). let a : min (suc k) (length l - i) ≡ suc (min k (length l - (i + 1))) = omega arith in
    rw a (ap (λ (x : ℕ). get_or l i 0 + 256 * x) (get_there k l (i + 1))))
    (λ h. get_out (min (suc k) (length l - i)) l i h ∙ sym (get_out (suc k) l i h))
    (lt_or_le i (length l))

pub put_there : (k : ℕ) (l : List ℕ) (i v : ℕ) → put (min k (length l - i)) l i v ≡ put k l i v
unfolding put
put_there zero l i v = let e : min 0 (length l - i) ≡ 0 = omega arith in ap (λ (n : ℕ). put n l i v) e
put_there (suc k) l i v =
    ⊎_elim
    (λ (h : i < length l). let a : min (suc k) (length l - i) ≡ suc (min k (length (set l i (v % 256)) - (i + 1))) = simp length-set (omega arith) in
    rw a (put_there k (set l i (v % 256)) (i + 1) (v / 256)))
    (λ h. put_out (min (suc k) (length l - i)) l i v h ∙ sym (put_out (suc k) l i v h))
    (lt_or_le i (length l))

-- ---- a number in two halves
-- two bytes of it, one by one
pub get_two : (l : List ℕ) (i : ℕ) → get 2 l i ≡ get_or l i 0 + 256 * get_or l (i + 1) 0
unfolding get
get_two l i = omega arith

pub get_four : (l : List ℕ) (i : ℕ) → get 4 l i ≡ get 2 l i + 65536 * get 2 l (i + 2)
unfolding get
get_four l i = rw (let e : i + 1 + 1 ≡ i + 2 = omega arith in e) (omega arith)

pub get_eight : (l : List ℕ) (i : ℕ) → get 8 l i ≡ get 4 l i + 4294967296 * get 4 l (i + 4)
unfolding get
get_eight l i = rw (let e : i + 1 + 1 + 1 + 1 ≡ i + 4 = omega arith in e) (omega arith)

pub put_four : (l : List ℕ) (i v : ℕ) → put 4 l i v ≡ put 2 (put 2 l i v) (i + 2) (v / 65536)
unfolding put
put_four l i v =
    rw (let e : i + 1 + 1 ≡ i + 2 = omega arith in e, let e : v / 256 / 256 ≡ v / 65536 = omega arith in e) refl

pub put_eight : (l : List ℕ) (i v : ℕ) → put 8 l i v ≡ put 4 (put 4 l i v) (i + 4) (v / 4294967296)
unfolding put
put_eight l i v =
    rw (let e : i + 1 + 1 + 1 + 1 ≡ i + 4 = omega arith in e, let e : v / 256 / 256 / 256 / 256 ≡ v / 4294967296 = omega arith in e) refl
