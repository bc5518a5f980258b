-- The laws of fields: a lens at each item's field, which leaves every other field and every other item alone. By where the fields stand.
use mathlib.Core.Path.{◌≡◌, refl, sym, ap, ◌∙◌, subst}
use mathlib.Core.Bool.{Bool, ◌&&◌, ◌||◌}
use mathlib.Core.Logic.{◌⊎◌, inl, inr, ⊎_elim}
use mathlib.Core.List.{List}
use Prim.Native.Nat.{ℕ, zero, suc, ◌+◌, ◌*◌, ◌/◌, ◌%◌, ◌^◌, ◌<◌, ◌≤◌}
use native.Mathlib.Nat.{mul-suc, mul-le-mul_left, mod-lt}
use native.Mathlib.Numerals.{add-one}
use native.Mathlib.Omega.{arith}
use lib.Dec.{T, eqb, leb, eqb→eq, eqb_refl, leb→le, lit<}
use lib.ListN.{length, get_or, set}
use lib.Seq.{get_or-set_same, get_or-set_other, set_out, set_comm}
use borrow.Author.Tests.{lt-ltb, le-ltb}
use Rattle.mask.proofs.Tests.{and_both, and_left, and_right, or_cases}
use Rattle.octets.specs.Octets.{get, put}
use Rattle.octets.proofs.Laws.{length_put, get_put, get_put_other, put_put, put_get, get_out, put_out, get_small, Bytes}
use Rattle.image.specs.declared.Field.{Field}
use Rattle.image.specs.Field.{place, field_of, with_field, changed, changed_all}
use Rattle.image.specs.Pass.{Here}
use Rattle.image.proofs.Each.{lt_or_le, same_or_not}

-- ---- where fields stand
-- the field lies within its item
abbrev pub inside : Field → Bool
inside f = leb (f.offset + f.width) f.stride

-- where the items end
abbrev pub ends : Field → ℕ
ends f = f.base + f.stride * f.items

-- two fields of the same items that share no byte
abbrev pub beside : Field → Field → Bool
beside f g =
    eqb f.base g.base && eqb f.stride g.stride
    && (leb (f.offset + f.width) g.offset || leb (g.offset + g.width) f.offset)

-- no byte of f is one of g: computed for the fields of an image, so a caller answers it by `tt`
abbrev pub apart : Field → Field → Bool
apart f g = inside f && inside g && (leb (ends f) g.base || leb (ends g) f.base || beside f g)

-- the bytes have every item of f
abbrev pub Holds : Field → List ℕ → Type 0
Holds f l = ends f ≤ length l

-- an item ends where the next one starts, or before
row : (w i j : ℕ) → i < j → w * i + w ≤ w * j
row w i j h = let k : suc i ≤ j = omega arith in omega (arith, mul-suc w i, mul-le-mul_left {m = suc i} {n = j} w k)

-- the bytes of an item that is there are there
pub place_here : (f : Field) (n i : ℕ) → Here f n i → place f n i + f.width ≤ n
place_here f n i h = simp (lt-ltb i f.items h.1) (omega (arith, h.2, h.3, row f.stride i f.items h.1))

module _ (f : Field) (l : List ℕ) (i : ℕ) where
  of_in : i < f.items → field_of f l i ≡ get f.width l (f.base + f.stride * i + f.offset)
  unfolding field_of
  of_in h = simp (lt-ltb i f.items h)

  pub of_out : f.items ≤ i → field_of f l i ≡ 0
  unfolding field_of
  of_out h = simp (le-ltb i f.items h) (get_out f.width l (length l) (omega arith))

  with_in : (v : ℕ) → i < f.items → with_field f l i v ≡ put f.width l (f.base + f.stride * i + f.offset) v
  unfolding with_field
  with_in v h = simp (lt-ltb i f.items h)

  -- an item that is not there changes nothing
  pub with_out : (v : ℕ) → f.items ≤ i → with_field f l i v ≡ l
  unfolding with_field
  with_out v h = simp (le-ltb i f.items h) (put_out f.width l (length l) v (omega arith))

  pub length_with : (v : ℕ) → length (with_field f l i v) ≡ length l
  unfolding with_field
  length_with v = length_put f.width l (place f (length l) i) v

  -- the last of two writes counts
  pub with_with : (v w : ℕ) → with_field f (with_field f l i v) i w ≡ with_field f l i w
  unfolding with_field
  with_with v w =
      ap (λ (n : ℕ). put f.width (put f.width l (place f (length l) i) v) (place f n i) w) (length_put f.width l (place f (length l) i) v)
      ∙ put_put f.width l (place f (length l) i) v w

-- what was written is read
pub of_with : (f : Field) (l : List ℕ) (i v : ℕ) → T (inside f) → Holds f l → i < f.items → v < 256 ^ f.width
    → field_of f (with_field f l i v) i ≡ v
of_with f l i v t fit h small =
    of_in f (with_field f l i v) i h
    ∙ ap (λ (m : List ℕ). get f.width m (f.base + f.stride * i + f.offset)) (with_in f l i v h)
    ∙ get_put f.width l (f.base + f.stride * i + f.offset) v
    (omega (arith, leb→le (f.offset + f.width) f.stride t, row f.stride i f.items h)) small

-- a field is read off bytes of its own alone
elsewhere : (f g : Field) (l : List ℕ) (i j v : ℕ)
    → (i < f.items → j < g.items
    → (g.base + g.stride * j + g.offset + g.width ≤ f.base + f.stride * i + f.offset)
    ⊎ (f.base + f.stride * i + f.offset + f.width ≤ g.base + g.stride * j + g.offset))
    → field_of g (with_field f l i v) j ≡ field_of g l j
elsewhere f g l i j v far =
    ⊎_elim
    (λ (p : i < f.items). ⊎_elim
    (λ (q : j < g.items). of_in g (with_field f l i v) j q
    ∙ ap (λ (m : List ℕ). get g.width m (g.base + g.stride * j + g.offset)) (with_in f l i v p)
    ∙ get_put_other g.width f.width l (f.base + f.stride * i + f.offset) v (g.base + g.stride * j + g.offset) (far p q)
    ∙ sym (of_in g l j q))
    (λ q. of_out g (with_field f l i v) j q ∙ sym (of_out g l j q))
    (lt_or_le j g.items))
    (λ p. ap (λ (m : List ℕ). field_of g m j) (with_out f l i v p))
    (lt_or_le i f.items)

-- two fields of the same items
abbrev pub together : Field → Field → Bool
together f g = inside f && inside g && (eqb f.base g.base && eqb f.stride g.stride)

-- another item is as it was, in every field
pub of_with_item : (f g : Field) (l : List ℕ) (i j v : ℕ) → T (together f g) → (j ≡ i → ⊥) → field_of g (with_field f l i v) j ≡ field_of g l j
of_with_item f g l i j v t ne =
    elsewhere f g l i j v (λ p q.
    let a = and_left (inside f && inside g) (eqb f.base g.base && eqb f.stride g.stride) t in
    let b = and_right (inside f && inside g) (eqb f.base g.base && eqb f.stride g.stride) t in
    let hf = leb→le (f.offset + f.width) f.stride (and_left (inside f) (inside g) a) in
    let hg = leb→le (g.offset + g.width) g.stride (and_right (inside f) (inside g) a) in
    let eb : f.base ≡ g.base = eqb→eq f.base g.base (and_left (eqb f.base g.base) (eqb f.stride g.stride) b) in
    let es : f.stride ≡ g.stride = eqb→eq f.stride g.stride (and_right (eqb f.base g.base) (eqb f.stride g.stride) b) in
    let ei : f.stride * i ≡ g.stride * i = ap (λ (w : ℕ). w * i) es in
    ⊎_elim (λ (h : j < i). inl (omega (arith, row g.stride j i h)))
    (λ h. ⊎_elim (λ (k : i < j). inr (omega (arith, row g.stride i j k))) (λ k. absurd (ne (omega arith))) (lt_or_le i j))
    (lt_or_le j i))

pub of_with_other : (f : Field) (l : List ℕ) (i j v : ℕ) → T (inside f) → (j ≡ i → ⊥) → field_of f (with_field f l i v) j ≡ field_of f l j
of_with_other f l i j v t ne =
    of_with_item f f l i j v
    (and_both (inside f && inside f) (eqb f.base f.base && eqb f.stride f.stride) (and_both (inside f) (inside f) t t)
    (and_both (eqb f.base f.base) (eqb f.stride f.stride) (eqb_refl f.base) (eqb_refl f.stride)))
    ne

-- two fields of the same items, at any two items
same_items : (b w i j of wf og wg : ℕ) → of + wf ≤ w → og + wg ≤ w → (of + wf ≤ og) ⊎ (og + wg ≤ of)
    → (b + w * j + og + wg ≤ b + w * i + of) ⊎ (b + w * i + of + wf ≤ b + w * j + og)
same_items b w i j of wf og wg hf hg o =
    ⊎_elim (λ (p : j < i). inl (omega (arith, row w j i p)))
    (λ p. ⊎_elim (λ (q : i < j). inr (omega (arith, row w i j q)))
    (λ q. let e : w * i ≡ w * j = ap (λ (k : ℕ). w * k) (let z : i ≡ j = omega arith in z) in
    ⊎_elim (λ a. inr (omega arith)) (λ a. inl (omega arith)) o)
    (lt_or_le i j))
    (lt_or_le j i)

-- where two fields that share no byte stand, at any two items
far : (f g : Field) (i j : ℕ) → T (apart f g) → i < f.items → j < g.items
    → (g.base + g.stride * j + g.offset + g.width ≤ f.base + f.stride * i + f.offset)
    ⊎ (f.base + f.stride * i + f.offset + f.width ≤ g.base + g.stride * j + g.offset)
far f g i j t p q =
    let hf = leb→le (f.offset + f.width) f.stride (and_left (inside f) (inside g) both) in
    let hg = leb→le (g.offset + g.width) g.stride (and_right (inside f) (inside g) both) in
    or_cases _ (leb (ends f) g.base || leb (ends g) f.base) (beside f g)
    (or_cases _ (leb (ends f) g.base) (leb (ends g) f.base)
    (λ a. inr (omega (arith, leb→le (ends f) g.base a, row f.stride i f.items p)))
    (λ a. inl (omega (arith, leb→le (ends g) f.base a, row g.stride j g.items q))))
    (λ a.
    let s = and_left (eqb f.base g.base && eqb f.stride g.stride) _ a in
    let eb : f.base ≡ g.base = eqb→eq f.base g.base (and_left (eqb f.base g.base) (eqb f.stride g.stride) s) in
    let es : f.stride ≡ g.stride = eqb→eq f.stride g.stride (and_right (eqb f.base g.base) (eqb f.stride g.stride) s) in
    let ei : f.stride * i ≡ g.stride * i = ap (λ (w : ℕ). w * i) es in
    let o = or_cases ((f.offset + f.width ≤ g.offset) ⊎ (g.offset + g.width ≤ f.offset))
    (leb (f.offset + f.width) g.offset) (leb (g.offset + g.width) f.offset)
    (λ b. inl (leb→le (f.offset + f.width) g.offset b))
    (λ b. inr (leb→le (g.offset + g.width) f.offset b))
    (and_right (eqb f.base g.base && eqb f.stride g.stride) _ a) in
    ⊎_elim (λ b. inl (omega arith)) (λ b. inr (omega arith))
    (same_items f.base g.stride i j f.offset f.width g.offset g.width (omega arith) hg o))
    (and_right (inside f && inside g) _ t)
  where
    both : T (inside f && inside g)
    both = and_left (inside f && inside g) (leb (ends f) g.base || leb (ends g) f.base || beside f g) t

-- another field is as it was, at every item
pub of_with_apart : (f g : Field) (l : List ℕ) (i j v : ℕ) → T (apart f g) → field_of g (with_field f l i v) j ≡ field_of g l j
of_with_apart f g l i j v t = elsewhere f g l i j v (far f g i j t)

-- ---- writes that share no byte go in either order
set_put : (k : ℕ) (l : List ℕ) (i v j a : ℕ) → (j < i) ⊎ (i + k ≤ j) → put k (set l j a) i v ≡ set (put k l i v) j a
unfolding put
set_put zero l i v j a h = refl
set_put (suc k) l i v j a h =
    let ne : j ≡ i → ⊥ = λ e. ⊎_elim (λ (p : j < i). omega arith) (λ p. omega arith) h in
    ap (λ (m : List ℕ). put k m (i + 1) (v / 256)) (set_comm l j i a (v % 256) ne)
    ∙ set_put k (set l i (v % 256)) (i + 1) (v / 256) j a (⊎_elim (λ (p : j < i). inl (omega arith)) (λ p. inr (omega arith)) h)

put_comm : (k n : ℕ) (l : List ℕ) (i v j w : ℕ) → (j + k ≤ i) ⊎ (i + n ≤ j) → put k (put n l i v) j w ≡ put n (put k l j w) i v
unfolding put
put_comm k zero l i v j w h = refl
put_comm k (suc n) l i v j w h =
    put_comm k n (set l i (v % 256)) (i + 1) (v / 256) j w (⊎_elim (λ (p : j + k ≤ i). inl (omega arith)) (λ p. inr (omega arith)) h)
    ∙ ap (λ (m : List ℕ). put n m (i + 1) (v / 256))
    (set_put k l j w i (v % 256) (⊎_elim (λ (p : j + k ≤ i). inr (omega arith)) (λ p. inl (omega arith)) h))

with_comm : (f g : Field) (l : List ℕ) (i j v w : ℕ) → T (apart f g)
    → with_field g (with_field f l i v) j w ≡ with_field f (with_field g l j w) i v
with_comm f g l i j v w t =
    ⊎_elim
    (λ (p : i < f.items). ⊎_elim
    (λ (q : j < g.items).
    with_in g (with_field f l i v) j w q ∙ ap (λ (m : List ℕ). put g.width m (g.base + g.stride * j + g.offset) w) (with_in f l i v p)
    ∙ put_comm g.width f.width l (f.base + f.stride * i + f.offset) v (g.base + g.stride * j + g.offset) w (far f g i j t p q)
    ∙ sym (with_in f (with_field g l j w) i v p
    ∙ ap (λ (m : List ℕ). put f.width m (f.base + f.stride * i + f.offset) v) (with_in g l j w q)))
    (λ q. with_out g (with_field f l i v) j w q ∙ sym (ap (λ (m : List ℕ). with_field f m i v) (with_out g l j w q)))
    (lt_or_le j g.items))
    (λ p. ap (λ (m : List ℕ). with_field g m j w) (with_out f l i v p) ∙ sym (with_out f (with_field g l j w) i v p))
    (lt_or_le i f.items)

-- so do changes
changed_comm : (f h : Field) (g k : ℕ → ℕ) (l : List ℕ) (i j : ℕ) → T (apart f h) → T (apart h f)
    → changed f g (changed h k l j) i ≡ changed h k (changed f g l i) j
changed_comm f h g k l i j a b =
    let x = g (field_of f l i) in
    ap (λ (y : ℕ). with_field f (changed h k l j) i (g y)) (of_with_apart h f l j i (k (field_of h l j)) b)
    ∙ with_comm h f l j i (k (field_of h l j)) x b
    ∙ ap (λ (y : ℕ). with_field h (with_field f l i x) j (k y)) (sym (of_with_apart f h l i j x a))

pub all_comm : (f h : Field) (g k : ℕ → ℕ) (n : ℕ) (l : List ℕ) (i : ℕ) → T (apart f h) → T (apart h f)
    → changed f g (changed_all h k n l) i ≡ changed_all h k n (changed f g l i)
unfolding changed_all
all_comm f h g k zero l i a b = refl
all_comm f h g k (suc n) l i a b =
    changed_comm f h g k (changed_all h k n l) i n a b ∙ ap (λ (m : List ℕ). changed h k m n) (all_comm f h g k n l i a b)

-- ---- bytes stay bytes
bytes_set : (l : List ℕ) (i v : ℕ) → v < 256 → Bytes l → Bytes (set l i v)
bytes_set l i v h b j =
    ⊎_elim
    (λ (e : j ≡ i). ⊎_elim
    (λ (p : i < length l). subst (λ (n : ℕ). n < 256) (sym (ap (λ (k : ℕ). get_or (set l i v) k 0) e ∙ get_or-set_same l i v 0 p)) h)
    (λ p. subst (λ (m : List ℕ). get_or m j 0 < 256) (sym (set_out l i v p)) (b j))
    (lt_or_le i (length l)))
    (λ e. subst (λ (n : ℕ). n < 256) (sym (get_or-set_other l i j v 0 e)) (b j))
    (same_or_not j i)

bytes_put : (k : ℕ) (l : List ℕ) (i v : ℕ) → Bytes l → Bytes (put k l i v)
unfolding put
bytes_put zero l i v b = b
bytes_put (suc k) l i v b = bytes_put k (set l i (v % 256)) (i + 1) (v / 256) (bytes_set l i (v % 256) (mod-lt v (lit< tt)) b)

pub bytes_with_lem : (f : Field) (l : List ℕ) (i v : ℕ) → Bytes l → Bytes (with_field f l i v)
unfolding with_field
bytes_with_lem f l i v b = bytes_put f.width l (place f (length l) i) v b

-- a field written as it was changes nothing
pub with_same : (f : Field) (l : List ℕ) (i : ℕ) → Bytes l → with_field f l i (field_of f l i) ≡ l
unfolding field_of with_field
with_same f l i b = put_get f.width l (place f (length l) i) b

-- a field of bytes is below its width's bound
pub of_small : (f : Field) (l : List ℕ) (i : ℕ) → Bytes l → field_of f l i < 256 ^ f.width
unfolding field_of
of_small f l i b = get_small f.width l (place f (length l) i) b

-- ---- a change of the first n items
module _ (f : Field) (g : ℕ → ℕ) where
  pub length_all : (n : ℕ) (l : List ℕ) → length (changed_all f g n l) ≡ length l
  unfolding changed_all
  length_all zero l = refl
  length_all (suc n) l = length_with f (changed_all f g n l) n (g (field_of f (changed_all f g n l) n)) ∙ length_all n l

  pub bytes_all : (n : ℕ) (l : List ℕ) → Bytes l → Bytes (changed_all f g n l)
  unfolding changed_all
  bytes_all zero l b = b
  bytes_all (suc n) l b = bytes_with_lem f (changed_all f g n l) n (g (field_of f (changed_all f g n l) n)) (bytes_all n l b)

  -- nothing changes where g leaves each field as it is
  pub all_same : (n : ℕ) (l : List ℕ) → Bytes l → ((j : ℕ) → j < n → g (field_of f l j) ≡ field_of f l j) → changed_all f g n l ≡ l
  unfolding changed_all
  all_same zero l b h = refl
  all_same (suc n) l b h =
      ap (λ (m : List ℕ). changed f g m n) (all_same n l b (λ j k. h j (omega arith)))
      ∙ ap (with_field f l n) (h n (omega arith)) ∙ with_same f l n b

  -- one item more, as a loop counts
  pub all_more : (n : ℕ) (l : List ℕ) → changed_all f g (n + 1) l ≡ changed f g (changed_all f g n l) n
  unfolding changed_all
  all_more n l = ap (λ (k : ℕ). changed_all f g k l) (add-one n)

  -- another field is as it was
  pub all_apart : (h : Field) (n : ℕ) (l : List ℕ) (j : ℕ) → T (apart f h) → field_of h (changed_all f g n l) j ≡ field_of h l j
  unfolding changed_all
  all_apart h zero l j t = refl
  all_apart h (suc n) l j t =
      of_with_apart f h (changed_all f g n l) n j (g (field_of f (changed_all f g n l) n)) t ∙ all_apart h n l j t

  -- the items from n on are as they were
  pub all_beyond : (n : ℕ) (l : List ℕ) (j : ℕ) → T (inside f) → n ≤ j → field_of f (changed_all f g n l) j ≡ field_of f l j
  unfolding changed_all
  all_beyond zero l j t h = refl
  all_beyond (suc n) l j t h =
      of_with_other f (changed_all f g n l) n j (g (field_of f (changed_all f g n l) n)) t (λ e. omega arith)
      ∙ all_beyond n l j t (omega arith)

  -- the field of each of the first n items is g of what it was
  pub all_here : (n : ℕ) (l : List ℕ) (j : ℕ) → T (inside f) → Holds f l → j < n → j < f.items → g (field_of f l j) < 256 ^ f.width
      → field_of f (changed_all f g n l) j ≡ g (field_of f l j)
  unfolding changed_all
  all_here zero l j t fit h k small = absurd (let z : ⊥ = omega arith in z)
  all_here (suc n) l j t fit h k small =
      ⊎_elim
      (λ (e : j ≡ n).
      let c = changed_all f g n l in
      let old : field_of f c n ≡ field_of f l j = ap (λ (i : ℕ). field_of f c i) (sym e) ∙ all_beyond n l j t (omega arith) in
      let m = length_all n l in
      ap (λ (i : ℕ). field_of f (with_field f c n (g (field_of f c n))) i) e
      ∙ of_with f c n (g (field_of f c n)) t (omega arith) (omega arith) (subst (λ (x : ℕ). g x < 256 ^ f.width) (sym old) small)
      ∙ ap g old)
      (λ e. of_with_other f (changed_all f g n l) n j (g (field_of f (changed_all f g n l) n)) t e
      ∙ all_here n l j t fit (let z : j < n = omega (arith, less j n e h) in z) k small)
      (same_or_not j n)
    where
      less : (j n : ℕ) → (j ≡ n → ⊥) → j < suc n → j < n
      less j n e h = ⊎_elim (λ (p : j < n). p) (λ p. absurd (e (omega arith))) (lt_or_le j n)

-- ---- what the functions over a field use: a number read or put at the place of width k is the field
module _ (f : Field) (l : List ℕ) (i k p : ℕ) (e : f.width ≡ k) (q : p ≡ place f (length l) i) where
  pub read_at : (r : ℕ) → r ≡ get k l p → r ≡ field_of f l i
  unfolding field_of
  read_at r h = h ∙ ap (get k l) q ∙ ap (λ (w : ℕ). get w l (place f (length l) i)) (sym e)

  pub put_at_lem : (m : List ℕ) (v : ℕ) → m ≡ put k l p v → m ≡ with_field f l i v
  unfolding with_field
  put_at_lem m v h = h ∙ ap (λ (n : ℕ). put k l n v) q ∙ ap (λ (w : ℕ). put w l (place f (length l) i) v) (sym e)

-- one byte is a number
pub get_one : (l : List ℕ) (i : ℕ) → get_or l i 0 ≡ get 1 l i
unfolding get
get_one l i = omega arith

pub put_one : (l : List ℕ) (i v : ℕ) → v < 256 → set l i v ≡ put 1 l i v
unfolding put
put_one l i v h = ap (set l i) (let e : v ≡ v % 256 = omega arith in e)
