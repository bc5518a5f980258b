-- A field that changes in every item, in one walk over the bytes instead of one for each item: the same, and it computes as fast as the list is long.
use mathlib.Core.Path.{◌≡◌, refl, ap, ◌∙◌}
use mathlib.Core.List.{List, [], ◌∷◌}
use Prim.Native.Nat.{ℕ, zero, suc, ◌+◌, ◌*◌, ◌/◌, ◌%◌, ◌≤◌}
use native.Mathlib.Nat.{mul-suc}
use native.Mathlib.Omega.{arith}
use lib.ListN.{length, get_or, set}
use borrow.Author.Tests.{lt-ltb}
use Rattle.octets.specs.Octets.{get, put}
use Rattle.image.specs.declared.Field.{Field}
use Rattle.image.specs.Field.{place, field_of, with_field, changed_all}

-- ---- the walk
-- h on what is behind the first k bytes
unfoldable pub behind : ℕ → (List ℕ → List ℕ) → List ℕ → List ℕ
behind zero h l = h l
behind (suc k) h [] = []
behind (suc k) h (x ∷ l) = x ∷ behind k h l

-- the number of w bytes at q becomes g of what it was
abbrev changed_at : ℕ → (ℕ → ℕ) → ℕ → List ℕ → List ℕ
changed_at w g q l = put w l q (g (get w l q))

-- n of them, the first in front, each s bytes behind the one before
unfoldable pub walk : ℕ → ℕ → (ℕ → ℕ) → ℕ → List ℕ → List ℕ
walk w s g zero l = l
walk w s g (suc n) l = behind s (walk w s g n) (changed_at w g 0 l)

-- every item's field
unfoldable pub swept : Field → (ℕ → ℕ) → List ℕ → List ℕ
swept f g l = behind (f.base + f.offset) (walk f.width f.stride g f.items) l

-- ---- behind a byte
put_cons : (w q v x : ℕ) (l : List ℕ) → put w (x ∷ l) (suc q) v ≡ x ∷ put w l q v
unfolding put
put_cons zero q v x l = refl
put_cons (suc w) q v x l =
    let e : suc q + 1 ≡ suc (q + 1) = omega arith in
    ap (λ (j : ℕ). put w (x ∷ set l q (v % 256)) j (v / 256)) e ∙ put_cons w (q + 1) (v / 256) x (set l q (v % 256))

get_cons : (w q x : ℕ) (l : List ℕ) → get w (x ∷ l) (suc q) ≡ get w l q
unfolding get
get_cons zero q x l = refl
get_cons (suc w) q x l =
    let e : suc q + 1 ≡ suc (q + 1) = omega arith in
    ap (λ (n : ℕ). get_or l q 0 + 256 * n) (ap (get w (x ∷ l)) e ∙ get_cons w (q + 1) x l)

put_none : (w q v : ℕ) → put w [] q v ≡ []
unfolding put
put_none zero q v = refl
put_none (suc w) q v = put_none w (q + 1) (v / 256)

at_cons : (w : ℕ) (g : ℕ → ℕ) (q x : ℕ) (l : List ℕ) → changed_at w g (suc q) (x ∷ l) ≡ x ∷ changed_at w g q l
at_cons w g q x l = ap (λ (v : ℕ). put w (x ∷ l) (suc q) (g v)) (get_cons w q x l) ∙ put_cons w q (g (get w l q)) x l

-- ---- one after the other, the first at p
unfoldable each_at : ℕ → ℕ → (ℕ → ℕ) → ℕ → ℕ → List ℕ → List ℕ
each_at w s g p zero l = l
each_at w s g p (suc n) l = changed_at w g (p + s * n) (each_at w s g p n l)

module _ (w s : ℕ) (g : ℕ → ℕ) where
  each_cons : (p n x : ℕ) (l : List ℕ) → each_at w s g (suc p) n (x ∷ l) ≡ x ∷ each_at w s g p n l
  unfolding each_at
  each_cons p zero x l = refl
  each_cons p (suc n) x l =
      let e : suc p + s * n ≡ suc (p + s * n) = omega arith in
      ap (changed_at w g (suc p + s * n)) (each_cons p n x l)
      ∙ ap (λ (q : ℕ). changed_at w g q (x ∷ each_at w s g p n l)) e
      ∙ at_cons w g (p + s * n) x (each_at w s g p n l)

  each_none : (p n : ℕ) → each_at w s g p n [] ≡ []
  unfolding each_at
  each_none p zero = refl
  each_none p (suc n) = ap (changed_at w g (p + s * n)) (each_none p n) ∙ put_none w (p + s * n) (g (get w [] (p + s * n)))

  each_behind : (k p n : ℕ) (l : List ℕ) → each_at w s g (k + p) n l ≡ behind k (each_at w s g p n) l
  unfolding behind
  each_behind zero p n l = let e : 0 + p ≡ p = omega arith in ap (λ (q : ℕ). each_at w s g q n l) e
  each_behind (suc k) p n [] = each_none (suc k + p) n
  each_behind (suc k) p n (x ∷ l) =
      let e : suc k + p ≡ suc (k + p) = omega arith in
      ap (λ (q : ℕ). each_at w s g q n (x ∷ l)) e ∙ each_cons (k + p) n x l ∙ ap (λ (m : List ℕ). x ∷ m) (each_behind k p n l)

  -- the first of them done
  each_first : (p n : ℕ) (l : List ℕ) → each_at w s g p (suc n) l ≡ each_at w s g (s + p) n (changed_at w g p l)
  unfolding each_at
  each_first p zero l = let e : p + s * 0 ≡ p = omega arith in ap (λ (q : ℕ). changed_at w g q l) e
  each_first p (suc n) l =
      let e : p + s * suc n ≡ s + p + s * n = omega (arith, mul-suc s n) in
      ap (changed_at w g (p + s * suc n)) (each_first p n l) ∙ ap (λ (q : ℕ). changed_at w g q (each_at w s g (s + p) n (changed_at w g p l))) e

  each_walk : (n : ℕ) (l : List ℕ) → each_at w s g 0 n l ≡ walk w s g n l
  unfolding walk each_at
  each_walk zero l = refl
  each_walk (suc n) l =
      each_first 0 n l ∙ each_behind s 0 n (changed_at w g 0 l) ∙ (λ i. behind s (λ m. each_walk n m i) (changed_at w g 0 l))

-- ---- the field of every item
module _ (f : Field) (g : ℕ → ℕ) where
  abbrev p : ℕ
  p = f.base + f.offset

  all_each : (n : ℕ) (l : List ℕ) → n ≤ f.items → changed_all f g n l ≡ each_at f.width f.stride g p n l
  unfolding changed_all each_at field_of with_field
  all_each zero l h = refl
  all_each (suc n) l h =
      let m = changed_all f g n l in
      let e : place f (length m) n ≡ p + f.stride * n = simp (lt-ltb n f.items (omega arith)) (omega arith) in
      ap (λ (q : ℕ). changed_at f.width g q m) e ∙ ap (changed_at f.width g (p + f.stride * n)) (all_each n l (omega arith))

  -- THEOREM
  pub sweeps : (l : List ℕ) → changed_all f g f.items l ≡ swept f g l
  unfolding swept
  sweeps l =
      let e : p ≡ p + 0 = omega arith in
      all_each f.items l (omega arith) ∙ ap (λ (q : ℕ). each_at f.width f.stride g q f.items l) e
      ∙ each_behind f.width f.stride g p 0 f.items l
      ∙ (λ i. behind p (λ m. each_walk f.width f.stride g f.items m i) l)
