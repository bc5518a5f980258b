-- A station's older images taken in: today's length, bytes, and each node's image is what is taken in of its part. By the laws of lists.
use mathlib.Core.Path.{◌≡◌, refl, sym, ap, ◌∙◌, subst}
use mathlib.Core.List.{List, [], ◌∷◌, ◌++◌, append_assoc}
use mathlib.Core.Logic.{⊎_elim}
use Prim.Native.Nat.{ℕ, zero, suc, ◌+◌, ◌-◌, ◌*◌, ◌<◌, ◌≤◌}
use native.Mathlib.Omega.{arith}
use lib.Dec.{lit<}
use native.Mathlib.Nat.{mul-suc, mul-le-mul_left}
use lib.ListN.{length, take, drop, length-append, length-drop}
use lib.Seq.{take_all, take_at, drop_at, take-append-le, drop-append-le, drop-drop, get_or-drop}
use Rattle.numbers.specs.Sizes.{nodes}
use Rattle.octets.proofs.Laws.{Bytes}
use Rattle.parts.specs.Parts.{part, splice}
use Rattle.image.specs.Layout.{Shape, shape, image_size}
use Rattle.image.proofs.Each.{lt_or_le}
use Rattle.intake.specs.Take.{taken_in}
use Rattle.intake.proofs.Taken.{length_taken, bytes_taken}
use Rattle.buffers.specs.Buffers.{images_size, image_at, with_image_at}
use Rattle.station_intake.specs.Convert.{part_at, old_at, taken_of, all_taken}
use Rattle.station_intake.specs.Pass.{number_of, first_number}
use borrow.Author.Tests.{eq-eqb, ne_eqb}

-- a part ends where the next one starts, or before
pub part_ends : (w i n : ℕ) → i < n → w * i + w ≤ w * n
part_ends w i n h = let k : suc i ≤ n = omega arith in omega (arith, mul-suc w i, mul-le-mul_left {m = suc i} {n = n} w k)

-- part n as it is lent
pub lent_part : (w n : ℕ) (l : List ℕ) → take (w * n + w - w * n) (drop (w * n) l) ≡ part w (w * n) l
unfolding part
lent_part w n l = let e : w * n + w - w * n ≡ w = omega arith in rw e

bytes_take : (n : ℕ) (l : List ℕ) → Bytes l → Bytes (take n l)
bytes_take zero l b j = lit< tt
bytes_take (suc n) [] b j = lit< tt
bytes_take (suc n) (x ∷ l) b zero = b 0
bytes_take (suc n) (x ∷ l) b (suc j) = bytes_take n l (λ i. b (suc i)) j

pub bytes_part : (n a : ℕ) (l : List ℕ) → Bytes l → Bytes (part n a l)
unfolding part
bytes_part n a l b = bytes_take n (drop a l) (λ j. subst (λ (x : ℕ). x < 256) (sym (get_or-drop a l j 0)) (b (a + j)))

bytes_append : (a b : List ℕ) → Bytes a → Bytes b → Bytes (a ++ b)
bytes_append [] b p q j = q j
bytes_append (x ∷ a) b p q zero = p 0
bytes_append (x ∷ a) b p q (suc j) = bytes_append a b (λ i. p (suc i)) q j

abbrev size : ℕ
size = image_size shape

module _ (s : Shape) (l : List ℕ) where
  pub length_of_lem : (n : ℕ) → length (taken_of s l n) ≡ size * n
  unfolding taken_of
  length_of_lem zero = refl
  length_of_lem (suc n) =
      length-append (taken_of s l n) (taken_in s (old_at s l n))
      ∙ (let a = length_of_lem n in let b = length_taken s (old_at s l n) in omega (arith, mul-suc size n))

  pub length_all : length (all_taken s l) ≡ images_size
  length_all = length_of_lem nodes

  bytes_of : (n : ℕ) → Bytes (taken_of s l n)
  unfolding taken_of
  bytes_of zero j = omega arith
  bytes_of (suc n) j = bytes_append (taken_of s l n) (taken_in s (old_at s l n)) (bytes_of n) (bytes_taken s (old_at s l n)) j

  pub bytes_all : Bytes (all_taken s l)
  bytes_all = bytes_of nodes

  -- node n's image
  at_of : (k n : ℕ) → n < k → image_at (taken_of s l k) n ≡ taken_in s (old_at s l n)
  unfolding taken_of image_at part
  at_of zero n h = absurd (let z : ⊥ = omega arith in z)
  at_of (suc k) n h =
      let a = taken_of s l k in
      let t = taken_in s (old_at s l k) in
      let e = length_of_lem k in
      ⊎_elim
      (λ (p : n < k).
      let q = part_ends size n k p in
      let d : size ≤ length (drop (size * n) a) = omega (arith, length-drop (size * n) a) in
      ap (take size) (drop-append-le (size * n) a t (omega arith)) ∙ take-append-le size (drop (size * n) a) t d ∙ at_of k n p)
      (λ p. let i : n ≡ k = omega arith in
      ap (λ (j : ℕ). take size (drop (size * j) (a ++ t))) i ∙ ap (take size) (drop_at a t (size * k) e)
      ∙ take_all size t (omega (arith, length_taken s (old_at s l k))) ∙ ap (λ (j : ℕ). taken_in s (old_at s l j)) (sym i))
      (lt_or_le n k)

  pub taken_at : (n : ℕ) → n < nodes → image_at (all_taken s l) n ≡ taken_in s (old_at s l n)
  taken_at n h = at_of nodes n h

  -- one image more, over bytes that have the first n
  pub next_taken : (n : ℕ) (m : List ℕ)
      → with_image_at (taken_of s l n ++ drop (size * n) m) n (taken_in s (old_at s l n))
      ≡ taken_of s l (suc n) ++ drop (size * suc n) m
  unfolding taken_of with_image_at splice
  next_taken n m =
      let a = taken_of s l n in
      let t = taken_in s (old_at s l n) in
      let r = drop (size * n) m in
      let e = length_of_lem n in
      rw (take_at a r (size * n) e, drop_at a r (size * n) e)
      (sym (append_assoc a t (drop size r))
      ∙ ap (λ (x : List ℕ). (a ++ t) ++ x) (drop-drop size (size * n) m ∙ ap (λ (k : ℕ). drop k m) (sym (mul-suc size n))))

-- ---- the first refusal of the parts stays the first
pub refused_stays : (w : ℕ) (old : List ℕ) (n k : ℕ) → (first_number w old n ≡ 0 → ⊥) → first_number w old (n + k) ≡ first_number w old n
unfolding first_number
refused_stays w old n zero h =
    let same : n + zero ≡ n = omega arith in
    ap (first_number w old) same
refused_stays w old n (suc k) h =
    let e = refused_stays w old n k h in
    let next : n + suc k ≡ suc (n + k) = omega arith in
    let stays : first_number w old (suc (n + k)) ≡ first_number w old n = simp (ne_eqb (first_number w old (n + k)) 0 (λ z. h (sym e ∙ z))) e in
    ap (first_number w old) next ∙ stays

-- a part that is refused, where none before it was
pub refused_first : (w : ℕ) (old : List ℕ) (n : ℕ) → n < nodes → first_number w old n ≡ 0 → (r : ℕ)
    → r ≡ number_of (part_at w old n) → (r ≡ 0 → ⊥) → r ≡ first_number w old nodes
unfolding first_number
refused_first w old n h z r e f =
    let now : first_number w old (suc n) ≡ r = simp (eq-eqb (first_number w old n) 0 z) (sym e) in
    let all : suc n + (nodes - suc n) ≡ nodes = omega arith in
    sym now ∙ sym (refused_stays w old (suc n) (nodes - suc n) (λ y. f (sym now ∙ y))) ∙ ap (first_number w old) all
