-- Several fields of the same items, written item by item: each reads as it was written, and everything else as before. By the laws of one field.
use mathlib.Core.Path.{◌≡◌, refl, sym, ap, ◌∙◌, subst}
use mathlib.Core.Bool.{Bool, true, ◌&&◌}
use mathlib.Core.List.{List, [], ◌∷◌}
use mathlib.Core.Logic.{◌⊎◌, inl, inr, ⊎_elim}
use Prim.Native.Nat.{ℕ, zero, suc, ◌^◌, ◌<◌, ◌≤◌}
use native.Mathlib.Omega.{arith}
use lib.Dec.{T}
use lib.ListN.{length}
use Rattle.mask.proofs.Tests.{and_left, and_right}
use Rattle.octets.proofs.Laws.{Bytes}
use Rattle.image.specs.declared.Field.{Field}
use Rattle.image.specs.Field.{field_of, with_field}
use Rattle.image.proofs.Each.{lt_or_le}
use Rattle.image.proofs.Lens.{inside, apart, together, Holds, length_with, bytes_with_lem, of_with, of_with_item, of_with_apart, with_same}

-- a field, and what it is to be for each item
pub record Column : Type 0 where
  pub field : Field
  pub of : ℕ → ℕ

abbrev pub column : Field → (ℕ → ℕ) → Column
column f of = record { field = f; of = of }

-- item i of every column, the first column first
unfoldable pub with_item : List Column → List ℕ → ℕ → List ℕ
with_item [] l i = l
with_item (c ∷ cs) l i = with_item cs (with_field c.field l i (c.of i)) i

-- the first n items
unfoldable pub with_items : List Column → ℕ → List ℕ → List ℕ
with_items cs zero l = l
with_items cs (suc n) l = with_item cs (with_items cs n l) n

abbrev pub fields : List Column → List Field
fields [] = []
fields (c ∷ cs) = c.field ∷ fields cs

-- ---- what is asked of fields, each a closed test at those of an image
-- g shares no byte with them
abbrev pub all_apart : List Field → Field → Bool
all_apart [] g = true
all_apart (f ∷ fs) g = apart f g && all_apart fs g

-- g is of the same items
abbrev pub all_together : List Field → Field → Bool
all_together [] g = true
all_together (f ∷ fs) g = together f g && all_together fs g

-- each shares no byte with those after it
abbrev pub orderly : List Field → Bool
orderly [] = true
orderly (f ∷ fs) = all_apart fs f && orderly fs

-- each passes a test
abbrev pub every : (Field → Bool) → List Field → Bool
every p [] = true
every p (f ∷ fs) = p f && every p fs

-- one of them
abbrev pub In : Field → List Field → Type 0
In f [] = ⊥
In f (g ∷ fs) = (f ≡ g) ⊎ In f fs

abbrev pub Has : Column → List Column → Type 0
Has c [] = ⊥
Has c (d ∷ cs) = (c ≡ d) ⊎ Has c cs

pub every_at : (p : Field → Bool) (fs : List Field) (f : Field) → T (every p fs) → In f fs → T (p f)
every_at p [] f t i = absurd i
every_at p (g ∷ fs) f t i =
    ⊎_elim (λ (e : f ≡ g). subst (λ (x : Field). T (p x)) (sym e) (and_left (p g) (every p fs) t))
    (λ k. every_at p fs f (and_right (p g) (every p fs) t) k) i

pub has_field : (cs : List Column) (c : Column) → Has c cs → In c.field (fields cs)
has_field [] c h = absurd h
has_field (d ∷ cs) c h = ⊎_elim (λ (e : c ≡ d). inl (ap (λ (x : Column). x.field) e)) (λ k. inr (has_field cs c k)) h

-- ---- one item
pub length_item : (cs : List Column) (l : List ℕ) (i : ℕ) → length (with_item cs l i) ≡ length l
unfolding with_item
length_item [] l i = refl
length_item (c ∷ cs) l i = length_item cs (with_field c.field l i (c.of i)) i ∙ length_with c.field l i (c.of i)

pub bytes_item : (cs : List Column) (l : List ℕ) (i : ℕ) → Bytes l → Bytes (with_item cs l i)
unfolding with_item
bytes_item [] l i b = b
bytes_item (c ∷ cs) l i b = bytes_item cs (with_field c.field l i (c.of i)) i (bytes_with_lem c.field l i (c.of i) b)

-- another field is as it was
item_apart : (cs : List Column) (g : Field) (l : List ℕ) (i j : ℕ) → T (all_apart (fields cs) g) → field_of g (with_item cs l i) j ≡ field_of g l j
unfolding with_item
item_apart [] g l i j t = refl
item_apart (c ∷ cs) g l i j t =
    item_apart cs g (with_field c.field l i (c.of i)) i j (and_right (apart c.field g) (all_apart (fields cs) g) t)
    ∙ of_with_apart c.field g l i j (c.of i) (and_left (apart c.field g) (all_apart (fields cs) g) t)

-- another item is as it was
item_other : (cs : List Column) (g : Field) (l : List ℕ) (i j : ℕ) → T (all_together (fields cs) g) → (j ≡ i → ⊥)
    → field_of g (with_item cs l i) j ≡ field_of g l j
unfolding with_item
item_other [] g l i j t ne = refl
item_other (c ∷ cs) g l i j t ne =
    item_other cs g (with_field c.field l i (c.of i)) i j (and_right (together c.field g) (all_together (fields cs) g) t) ne
    ∙ of_with_item c.field g l i j (c.of i) (and_left (together c.field g) (all_together (fields cs) g) t) ne

module _ (c : Column) (i : ℕ) (ok : T (inside c.field)) (here : i < c.field.items) (small : c.of i < 256 ^ c.field.width) where
  item_here : (cs : List Column) (l : List ℕ) → Has c cs → T (orderly (fields cs)) → Holds c.field l → field_of c.field (with_item cs l i) i ≡ c.of i
  unfolding with_item
  item_here [] l h o fit = absurd h
  item_here (d ∷ cs) l h o fit =
      let n = length_with d.field l i (d.of i) in
      ⊎_elim
      (λ (e : c ≡ d).
      item_apart cs c.field (with_field d.field l i (d.of i)) i i
      (subst (λ (x : Column). T (all_apart (fields cs) x.field)) (sym e) (and_left (all_apart (fields cs) d.field) (orderly (fields cs)) o))
      ∙ ap (λ (x : Column). field_of c.field (with_field x.field l i (x.of i)) i) (sym e)
      ∙ of_with c.field l i (c.of i) ok fit here small)
      (λ p. item_here cs (with_field d.field l i (d.of i)) p (and_right (all_apart (fields cs) d.field) (orderly (fields cs)) o) (omega arith))
      h

-- nothing changes where each column is what is there
abbrev pub Same : List Column → List ℕ → ℕ → Type 0
Same [] l i = Unit {0}
Same (c ∷ cs) l i = (c.of i ≡ field_of c.field l i) × Same cs l i

pub item_same : (cs : List Column) (l : List ℕ) (i : ℕ) → Bytes l → Same cs l i → with_item cs l i ≡ l
unfolding with_item
item_same [] l i b s = refl
item_same (c ∷ cs) l i b s =
    ap (λ (m : List ℕ). with_item cs m i) (ap (with_field c.field l i) s.0 ∙ with_same c.field l i b) ∙ item_same cs l i b s.1

-- ---- the first n items
module _ (cs : List Column) where
  pub length_items : (n : ℕ) (l : List ℕ) → length (with_items cs n l) ≡ length l
  unfolding with_items
  length_items zero l = refl
  length_items (suc n) l = length_item cs (with_items cs n l) n ∙ length_items n l

  pub bytes_items : (n : ℕ) (l : List ℕ) → Bytes l → Bytes (with_items cs n l)
  unfolding with_items
  bytes_items zero l b = b
  bytes_items (suc n) l b = bytes_item cs (with_items cs n l) n (bytes_items n l b)

  pub items_apart : (g : Field) (n : ℕ) (l : List ℕ) (j : ℕ) → T (all_apart (fields cs) g) → field_of g (with_items cs n l) j ≡ field_of g l j
  unfolding with_items
  items_apart g zero l j t = refl
  items_apart g (suc n) l j t = item_apart cs g (with_items cs n l) n j t ∙ items_apart g n l j t

  -- from n on
  pub items_beyond : (g : Field) (n : ℕ) (l : List ℕ) (j : ℕ) → T (all_together (fields cs) g) → n ≤ j → field_of g (with_items cs n l) j ≡ field_of g l j
  unfolding with_items
  items_beyond g zero l j t h = refl
  items_beyond g (suc n) l j t h =
      item_other cs g (with_items cs n l) n j t (λ e. omega arith) ∙ items_beyond g n l j t (omega arith)

  pub items_here : (c : Column) (n : ℕ) (l : List ℕ) (j : ℕ) → Has c cs → T (orderly (fields cs)) → T (inside c.field)
      → T (all_together (fields cs) c.field) → Holds c.field l → j < n → j < c.field.items → c.of j < 256 ^ c.field.width
      → field_of c.field (with_items cs n l) j ≡ c.of j
  unfolding with_items
  items_here c zero l j has o ok t fit h k small = absurd (let z : ⊥ = omega arith in z)
  items_here c (suc n) l j has o ok t fit h k small =
      let m = length_items n l in
      ⊎_elim
      (λ (p : j < n). item_other cs c.field (with_items cs n l) n j t (λ e. omega arith) ∙ items_here c n l j has o ok t fit p k small)
      (λ p. let e : j ≡ n = omega arith in
      ap (λ (i : ℕ). field_of c.field (with_item cs (with_items cs n l) i) j) (sym e)
      ∙ item_here c j ok k small cs (with_items cs n l) has o (omega arith))
      (lt_or_le j n)
