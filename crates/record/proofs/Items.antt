-- An array filled with the items of a list of bytes: by a loop, one item more and all of them; and by a closure that gives each item at its index.
use mathlib.Core.Path.{◌≡◌, subst, sym, ap, ◌∙◌}
use mathlib.Core.List.{List}
use Prim.Native.Nat.{ℕ, zero, suc, ◌+◌, ◌*◌, ◌<◌}
use native.Mathlib.Nat.{mul-suc}
use native.Mathlib.Omega.{arith}
use borrow.Author.Count.{below_more}
use denote.Param.Members.{Mut}
use lib.ListN.{length, get_or, set}
use lib.Seq.{ext_get_or, get_or-set_same, get_or-set_other}
use Rattle.std.specs.Array.{IsFromFnResult, IsFromFnResultFrom}
use Rattle.std.specs.Fn.{Called}
use Rattle.wire.specs.Decode.{items_from}
use Rattle.wire.proofs.Accepted.{length_items}

-- ---- what a closure gave that leaves itself as it was
module _ {F A : Type 0} (g : Mut F (ℕ × Unit {0}) A) (f : F) (h : ℕ → A)
    (gives : (i : ℕ) (y : A) (q : F) → Called g f (i, tt) y q → (q ≡ f) × (y ≡ h i)) (d : A) (a : List A) where
  each_made : (n i j : ℕ) → IsFromFnResultFrom g f a i n → j < n → get_or a (i + j) d ≡ h (i + j)
  each_made zero i j r k = absurd (let z : ⊥ = omega arith in z)
  each_made (suc n) i zero (q, y, e, c, r) k = let z : i + 0 ≡ i = omega arith in rw z (e.1 d ∙ (gives i y q c).1)
  each_made (suc n) i (suc j) (q, y, e, c, r) k =
      let z : i + 1 + j ≡ i + suc j = omega arith in
      let s : IsFromFnResultFrom g f a (i + 1) n = subst (λ (p : F). IsFromFnResultFrom g p a (i + 1) n) (gives i y q c).0 r in
      rw z at (each_made n (i + 1) j s (omega arith))

  pub made_at : (n j : ℕ) → IsFromFnResult g f a n → j < n → get_or a j d ≡ h j
  made_at n j r k = let z : 0 + j ≡ j = omega arith in rw z at (each_made n 0 j r.each k)

-- ---- items
module _ {A : Type 0} (at : List ℕ → ℕ → A) (size : ℕ) (l : List ℕ) (d : A) where
  pub get_d_items : (n i j : ℕ) → j < n → get_or (items_from at size n l i) j d ≡ at l (i + size * j)
  unfolding items_from
  get_d_items zero i j h = absurd (let z : ⊥ = omega arith in z)
  get_d_items (suc n) i zero h = let e : i ≡ i + size * 0 = omega arith in ap (at l) e
  get_d_items (suc n) i (suc j) h =
      let e : i + size + size * j ≡ i + size * suc j = omega (arith, mul-suc size j) in
      get_d_items n (i + size) j (omega arith) ∙ ap (at l) e

  pub items_all : (n base : ℕ) (a : List A) → length a ≡ n → ((j : ℕ) → j < n → get_or a j d ≡ at l (base + size * j))
      → a ≡ items_from at size n l base
  items_all n base a e f =
      let m : length (items_from at size n l base) ≡ n = length_items at size l n base in
      ext_get_or d a (items_from at size n l base) (e ∙ sym m) (λ j h. f j (omega arith) ∙ sym (get_d_items n base j (omega arith)))

  pub one_more : (a : List A) (i base : ℕ) (v : A) → i < length a → ((j : ℕ) → j < i → get_or a j d ≡ at l (base + size * j))
      → v ≡ at l (base + size * i) → (j : ℕ) → j < i + 1 → get_or (set a i v) j d ≡ at l (base + size * j)
  one_more a i base v h f e =
      below_more _ i (λ j k. get_or-set_other a i j v d (λ q. omega arith) ∙ f j k) (get_or-set_same a i v d h ∙ e)

  pub items_made : {F : Type 0} (g : Mut F (ℕ × Unit {0}) A) (f : F) (n base : ℕ) (a : List A)
      → ((i : ℕ) (y : A) (q : F) → Called g f (i, tt) y q → (q ≡ f) × (y ≡ at l (base + size * i)))
      → IsFromFnResult g f a n → a ≡ items_from at size n l base
  items_made g f n base a gives r = items_all n base a r.long (λ j h. made_at g f (λ (i : ℕ). at l (base + size * i)) gives d a n j r h)
