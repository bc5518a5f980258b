-- What each change of a step leaves alone, and what it makes of each copy and each owner: one equation for all copies, one for all owners.
use mathlib.Core.Path.{◌≡◌, refl, sym, ap, subst, ◌∙◌}
use mathlib.Core.Bool.{Bool, true, false, cond, not, ◌&&◌}
use mathlib.Core.List.{List, [], ◌∷◌}
use Prim.Native.Nat.{ℕ, ◌+◌, ◌^◌, ◌≤◌, ◌<◌}
use native.Mathlib.Omega.{arith}
use borrow.Author.Tests.{eqb-true, eqb-false}
use lib.Dec.{T, eqb}
use lib.ListN.{length}
use Rattle.numbers.specs.Sizes.{nodes}
use Rattle.wire.specs.declared.Entry.{Entry}
use Rattle.wire.specs.Formed.{every}
use Rattle.wire.specs.Encode.{All, EntryFits}
use Rattle.image.specs.declared.Copy.{Copy}
use Rattle.image.specs.declared.Field.{Field}
use Rattle.image.specs.declared.Owner.{Owner}
use Rattle.image.specs.Field.{field_of, with_field, changed}
use Rattle.image.specs.Layout.{shape, image_size, value_field, version_field, holder_field, readers_field, writers_field}
use Rattle.image.specs.Layout.{author_field, author_serial_field, serial_field, state_field, stamp_field}
use Rattle.image.specs.Layout.{value, version, holder, readers, writers, author, author_serial, state, copy_of, owner_of}
use Rattle.image.specs.Change.{with_value, with_version, with_holder, with_author, with_serial, with_state, with_owner}
use Rattle.image.specs.Change.{listing, add_reader, add_writer, freeing, leaving, free, unlist}
use Rattle.image.proofs.Made.{made_copy, made_owner}
use Rattle.image.proofs.Lens.{apart, inside, Holds, length_with, of_with, of_with_other, of_with_apart}
use Rattle.image.proofs.Sound.{Sound}
use Rattle.image.proofs.Keep.{listing_small}
use Rattle.image.proofs.Whole.{length_free, length_unlist, free_apart, unlist_apart, freed_holder, left_readers, left_writers, keeps_free, list_small}
use Rattle.replica.specs.Steps.{joins, holding_one, holding, leaves, applied_one, applied, released}
use Rattle.replica.specs.Given.{raisable}
use Rattle.replica.proofs.Passes.{raised}
use Rattle.replica.proofs.Spoken.{left_true, right_true}
use Rattle.replica.proofs.Delivered.{either_way}

-- ---- the bytes that a change leaves alone
module _ (f : Field) (t : ℕ) where
  pub owner_apart : T (apart (serial_field shape) f) → T (apart (state_field shape) f) → T (apart (stamp_field shape) f)
      → (l : List ℕ) (o n st sp : ℕ) → field_of f (with_owner l o n st sp) t ≡ field_of f l t
  owner_apart a b c l o n st sp =
      of_with_apart (stamp_field shape) f (with_state (with_serial l o n) o st) o t sp c
      ∙ of_with_apart (state_field shape) f (with_serial l o n) o t st b ∙ of_with_apart (serial_field shape) f l o t n a

  pub leaves_apart : T (apart (readers_field shape) f) → T (apart (writers_field shape) f) → T (apart (state_field shape) f)
      → (l : List ℕ) (o st : ℕ) → field_of f (leaves l o st) t ≡ field_of f l t
  unfolding leaves
  leaves_apart a b c l o st = of_with_apart (state_field shape) f (unlist l o) o t st c ∙ unlist_apart l o f t a b

  pub released_apart : T (apart (holder_field shape) f) → T (apart (readers_field shape) f) → T (apart (writers_field shape) f)
      → T (apart (state_field shape) f) → (l : List ℕ) (o : ℕ) → field_of f (released l o) t ≡ field_of f l t
  unfolding released
  released_apart a b c d l o = leaves_apart b c d (free l o) o 0 ∙ free_apart l o f t a

  pub holding_apart : T (apart (holder_field shape) f) → (l : List ℕ) (o : ℕ) (es : List Entry) → field_of f (holding l o es) t ≡ field_of f l t
  unfolding holding
  holding_apart a l o [] = refl
  holding_apart a l o (e ∷ es) =
      holding_apart a (holding_one l o e) o es
      ∙ either_way (λ (n : List ℕ). field_of f n t ≡ field_of f l t) (eqb e.mode 0) _ _ refl (of_with_apart (holder_field shape) f l e.object t o a)

  pub applied_apart : T (apart (value_field shape) f) → T (apart (version_field shape) f) → T (apart (author_field shape) f)
      → T (apart (author_serial_field shape) f) → (l : List ℕ) (o n : ℕ) (es : List Entry) → field_of f (applied l o n es) t ≡ field_of f l t
  unfolding applied
  applied_apart a b c d l o n [] = refl
  applied_apart a b c d l o n (e ∷ es) =
      let x = e.object in
      let l₁ = with_value l x e.value in
      let l₂ = with_version l₁ x (e.version + 1) in
      applied_apart a b c d (applied_one l o n e) o n es
      ∙ either_way (λ (k : List ℕ). field_of f k t ≡ field_of f l t) (eqb e.mode 0) _ _ refl
      (of_with_apart (author_serial_field shape) f (with_field (author_field shape) l₂ x o) x t n d ∙ of_with_apart (author_field shape) f l₂ x t o c
      ∙ of_with_apart (version_field shape) f l₁ x t (e.version + 1) b ∙ of_with_apart (value_field shape) f l x t e.value a)

-- ---- one field written or changed, read at any item
module _ (f : Field) (l : List ℕ) (i j : ℕ) (t : T (inside f)) (fit : Holds f l) (h : j < f.items) where
  pub of_at : (v : ℕ) → v < 256 ^ f.width → field_of f (with_field f l i v) j ≡ cond (eqb j i) v (field_of f l j)
  of_at v small = by (eqb j i) refl
    where
      by : (b : Bool) → eqb j i ≡ b → field_of f (with_field f l i v) j ≡ cond b v (field_of f l j)
      by true e =
          let q = eqb-true j i e in
          ap (λ (k : ℕ). field_of f (with_field f l i v) k) q ∙ of_with f l i v t fit (subst (λ (k : ℕ). k < f.items) q h) small
      by false e = of_with_other f l i j v t (eqb-false j i e)

  pub changed_at_lem : (g : ℕ → ℕ) → g (field_of f l j) < 256 ^ f.width → field_of f (changed f g l i) j ≡ cond (eqb j i) (g (field_of f l j)) (field_of f l j)
  changed_at_lem g small = by (eqb j i) refl
    where
      by : (b : Bool) → eqb j i ≡ b → field_of f (changed f g l i) j ≡ cond b (g (field_of f l j)) (field_of f l j)
      by true e =
          let q = eqb-true j i e in
          ap (λ (k : ℕ). field_of f (changed f g l k) j) (sym q) ∙ of_with f l j (g (field_of f l j)) t fit h small
      by false e = of_with_other f l i j (g (field_of f l i)) t (eqb-false j i e)

-- ---- what becomes of one copy c
-- the owner o leaves its lists; o lets go of it too
abbrev pub left_copy : ℕ → Copy → Copy
left_copy o c =
    record {
      value = c.value;
      version = c.version;
      holder = c.holder;
      readers = leaving o c.readers;
      writers = leaving o c.writers;
      author = c.author;
      serial = c.serial;
    }

abbrev pub freed_copy : ℕ → Copy → Copy
freed_copy o c =
    record {
      value = c.value;
      version = c.version;
      holder = freeing o c.holder;
      readers = leaving o c.readers;
      writers = leaving o c.writers;
      author = c.author;
      serial = c.serial;
    }

-- whether an entry writes object t
abbrev pub writes_to : Entry → ℕ → Bool
writes_to e t = not (eqb e.mode 0) && eqb t e.object

-- what the entries write is marked with n, all else as it was: the owner that holds it, or that wrote it, or the serial that did
unfoldable pub mark_in : ℕ → List Entry → ℕ → ℕ → ℕ
mark_in n [] t h = h
mark_in n (e ∷ es) t h = mark_in n es t (cond (writes_to e t) n h)

abbrev pub held_copy : ℕ → List Entry → ℕ → Copy → Copy
held_copy o es t c =
    record {
      value = c.value;
      version = c.version;
      holder = mark_in o es t c.holder;
      readers = c.readers;
      writers = c.writers;
      author = c.author;
      serial = c.serial;
    }

-- what the entries write, the last counting; those of a message ascend, so no object is written twice
unfoldable pub value_in : List Entry → ℕ → ℕ → ℕ
value_in [] t v = v
value_in (e ∷ es) t v = value_in es t (cond (writes_to e t) e.value v)

unfoldable pub version_in : List Entry → ℕ → ℕ → ℕ
version_in [] t v = v
version_in (e ∷ es) t v = version_in es t (cond (writes_to e t) (e.version + 1) v)

abbrev pub applied_copy : ℕ → ℕ → List Entry → ℕ → Copy → Copy
applied_copy o n es t c =
    record {
      value = value_in es t c.value;
      version = version_in es t c.version;
      holder = c.holder;
      readers = c.readers;
      writers = c.writers;
      author = mark_in o es t c.author;
      serial = mark_in n es t c.serial;
    }

-- o joins the list of a mode
abbrev pub listed_copy : ℕ → Entry → ℕ → Copy → Copy
listed_copy o e t c =
    record {
      value = c.value;
      version = c.version;
      holder = c.holder;
      readers = cond (eqb e.mode 0 && eqb t e.object) (listing o c.readers) c.readers;
      writers = cond (writes_to e t) (listing o c.writers) c.writers;
      author = c.author;
      serial = c.serial;
    }

-- ---- every copy after each change
module _ (l : List ℕ) (s : Sound l) (t : ℕ) (k : t < shape.objects) where
  pub leaves_copy : (o st : ℕ) → copy_of (leaves l o st) t ≡ left_copy o (copy_of l t)
  unfolding copy_of leaves
  leaves_copy o st =
      made_copy (leaves_apart (value_field shape) t tt tt tt l o st) (leaves_apart (version_field shape) t tt tt tt l o st)
      (leaves_apart (holder_field shape) t tt tt tt l o st)
      (of_with_apart (state_field shape) (readers_field shape) (unlist l o) o t st tt ∙ left_readers l o s t k)
      (of_with_apart (state_field shape) (writers_field shape) (unlist l o) o t st tt ∙ left_writers l o s t k)
      (leaves_apart (author_field shape) t tt tt tt l o st) (leaves_apart (author_serial_field shape) t tt tt tt l o st)

  pub owner_copy : (o n st sp : ℕ) → copy_of (with_owner l o n st sp) t ≡ copy_of l t
  unfolding copy_of
  owner_copy o n st sp =
      made_copy (owner_apart (value_field shape) t tt tt tt l o n st sp) (owner_apart (version_field shape) t tt tt tt l o n st sp)
      (owner_apart (holder_field shape) t tt tt tt l o n st sp) (owner_apart (readers_field shape) t tt tt tt l o n st sp)
      (owner_apart (writers_field shape) t tt tt tt l o n st sp) (owner_apart (author_field shape) t tt tt tt l o n st sp)
      (owner_apart (author_serial_field shape) t tt tt tt l o n st sp)

-- every copy that o holds is free
abbrev unheld_copy : ℕ → Copy → Copy
unheld_copy o c =
    record {
      value = c.value;
      version = c.version;
      holder = freeing o c.holder;
      readers = c.readers;
      writers = c.writers;
      author = c.author;
      serial = c.serial;
    }

free_copy : (l : List ℕ) → Sound l → (t : ℕ) → t < shape.objects → (o : ℕ) → copy_of (free l o) t ≡ unheld_copy o (copy_of l t)
unfolding copy_of
free_copy l s t k o =
    made_copy (free_apart l o (value_field shape) t tt) (free_apart l o (version_field shape) t tt) (freed_holder l o s t k)
    (free_apart l o (readers_field shape) t tt) (free_apart l o (writers_field shape) t tt) (free_apart l o (author_field shape) t tt)
    (free_apart l o (author_serial_field shape) t tt)

pub released_copy : (l : List ℕ) → Sound l → (t : ℕ) → t < shape.objects → (o : ℕ) → copy_of (released l o) t ≡ freed_copy o (copy_of l t)
unfolding released
released_copy l s t k o = leaves_copy (free l o) (keeps_free l o s) t k o 0 ∙ ap (left_copy o) (free_copy l s t k o)

-- ---- copies held
module _ (t : ℕ) (k : t < shape.objects) (o : ℕ) (small : o < 256) where
  hold_one : (l : List ℕ) (x : ℕ) → image_size shape ≤ length l → (b : Bool)
      → holder (cond b l (with_holder l x o)) t ≡ cond (not b && eqb t x) o (holder l t)
  hold_one l x fit true = refl
  hold_one l x fit false = of_at (holder_field shape) l x t tt (omega arith) k o small

  hold_length : (l : List ℕ) (x : ℕ) (b : Bool) → length (cond b l (with_holder l x o)) ≡ length l
  hold_length l x true = refl
  hold_length l x false = length_with (holder_field shape) l x o

  holding_holder : (l : List ℕ) (es : List Entry) → image_size shape ≤ length l → holder (holding l o es) t ≡ mark_in o es t (holder l t)
  unfolding holding mark_in
  holding_holder l [] fit = refl
  holding_holder l (e ∷ es) fit =
      holding_holder (holding_one l o e) es (omega (arith, hold_length l e.object (eqb e.mode 0)))
      ∙ ap (mark_in o es t) (hold_one l e.object fit (eqb e.mode 0))

  pub holding_copy : (l : List ℕ) (es : List Entry) → image_size shape ≤ length l → copy_of (holding l o es) t ≡ held_copy o es t (copy_of l t)
  unfolding copy_of
  holding_copy l es fit =
      made_copy (holding_apart (value_field shape) t tt l o es) (holding_apart (version_field shape) t tt l o es) (holding_holder l es fit)
      (holding_apart (readers_field shape) t tt l o es) (holding_apart (writers_field shape) t tt l o es)
      (holding_apart (author_field shape) t tt l o es) (holding_apart (author_serial_field shape) t tt l o es)

-- ---- commits applied
-- an object's value, version and author written, or nothing
abbrev written_to : Bool → List ℕ → ℕ → ℕ → ℕ → ℕ → ℕ → List ℕ
written_to b l x v w o n = cond b l (with_author (with_version (with_value l x v) x w) x o n)

module _ (l : List ℕ) (x v w o n : ℕ) where
  abbrev l₁ : List ℕ
  l₁ = with_value l x v

  abbrev l₂ : List ℕ
  l₂ = with_version l₁ x w

  abbrev l₃ : List ℕ
  l₃ = with_field (author_field shape) l₂ x o

  length₁ : length l₁ ≡ length l
  length₁ = length_with (value_field shape) l x v

  length₂ : length l₂ ≡ length l
  length₂ = length_with (version_field shape) l₁ x w ∙ length₁

  length₃ : length l₃ ≡ length l
  length₃ = length_with (author_field shape) l₂ x o ∙ length₂

  written_length : (b : Bool) → length (written_to b l x v w o n) ≡ length l
  written_length true = refl
  written_length false = length_with (author_serial_field shape) l₃ x n ∙ length₃

  module _ (t : ℕ) (k : t < shape.objects) (fit : image_size shape ≤ length l) where
    value_one : v < 256 ^ 8 → (b : Bool) → value (written_to b l x v w o n) t ≡ cond (not b && eqb t x) v (value l t)
    value_one h true = refl
    value_one h false =
        of_with_apart (author_serial_field shape) (value_field shape) l₃ x t n tt ∙ of_with_apart (author_field shape) (value_field shape) l₂ x t o tt
        ∙ of_with_apart (version_field shape) (value_field shape) l₁ x t w tt ∙ of_at (value_field shape) l x t tt (omega arith) k v h

    version_one : (b : Bool) → (b ≡ false → w < 256 ^ 4) → version (written_to b l x v w o n) t ≡ cond (not b && eqb t x) w (version l t)
    version_one true h = refl
    version_one false h =
        of_with_apart (author_serial_field shape) (version_field shape) l₃ x t n tt ∙ of_with_apart (author_field shape) (version_field shape) l₂ x t o tt
        ∙ of_at (version_field shape) l₁ x t tt (omega (arith, length₁)) k w (h refl)
        ∙ ap (cond (eqb t x) w) (of_with_apart (value_field shape) (version_field shape) l x t v tt)

    author_one : o < 256 → (b : Bool) → author (written_to b l x v w o n) t ≡ cond (not b && eqb t x) o (author l t)
    author_one h true = refl
    author_one h false =
        of_with_apart (author_serial_field shape) (author_field shape) l₃ x t n tt ∙ of_at (author_field shape) l₂ x t tt (omega (arith, length₂)) k o h
        ∙ ap (cond (eqb t x) o)
        (of_with_apart (version_field shape) (author_field shape) l₁ x t w tt ∙ of_with_apart (value_field shape) (author_field shape) l x t v tt)

    serial_one : n < 256 ^ 4 → (b : Bool) → author_serial (written_to b l x v w o n) t ≡ cond (not b && eqb t x) n (author_serial l t)
    serial_one h true = refl
    serial_one h false =
        of_at (author_serial_field shape) l₃ x t tt (omega (arith, length₃)) k n h
        ∙ ap (cond (eqb t x) n)
        (of_with_apart (author_field shape) (author_serial_field shape) l₂ x t o tt
        ∙ of_with_apart (version_field shape) (author_serial_field shape) l₁ x t w tt
        ∙ of_with_apart (value_field shape) (author_serial_field shape) l x t v tt)

module _ (t : ℕ) (k : t < shape.objects) (o n : ℕ) (owner : o < 256) (serial : n < 256 ^ 4) where
  raised_small : (e : Entry) → raisable e ≡ true → eqb e.mode 0 ≡ false → e.version + 1 < 256 ^ 4
  raised_small e r b = omega (arith, raised e r (eqb-false e.mode 0 b))

  -- the four fields that the entries write
  applied_fields : (l : List ℕ) (es : List Entry) → image_size shape ≤ length l → All EntryFits es → every raisable es ≡ true
      → (value (applied l o n es) t ≡ value_in es t (value l t)) × (version (applied l o n es) t ≡ version_in es t (version l t))
      × (author (applied l o n es) t ≡ mark_in o es t (author l t)) × (author_serial (applied l o n es) t ≡ mark_in n es t (author_serial l t))
  unfolding applied value_in version_in mark_in
  applied_fields l [] fit f r = (refl, refl, refl, refl)
  applied_fields l (e ∷ es) fit f r =
      let b = eqb e.mode 0 in
      let x = e.object in
      let v = e.value in
      let w = e.version + 1 in
      let ih = applied_fields (applied_one l o n e) es (omega (arith, written_length l x v w o n b)) f.1 (right_true (raisable e) _ r) in (
        ih.0 ∙ ap (value_in es t) (value_one l x v w o n t k fit f.0.value b),
        ih.1 ∙ ap (version_in es t) (version_one l x v w o n t k fit b (raised_small e (left_true (raisable e) _ r))),
        ih.2 ∙ ap (mark_in o es t) (author_one l x v w o n t k fit owner b),
        ih.3 ∙ ap (mark_in n es t) (serial_one l x v w o n t k fit serial b),
      )

  pub applied_copy_lem : (l : List ℕ) (es : List Entry) → image_size shape ≤ length l → All EntryFits es → every raisable es ≡ true
      → copy_of (applied l o n es) t ≡ applied_copy o n es t (copy_of l t)
  unfolding copy_of
  applied_copy_lem l es fit f r =
      let b = applied_fields l es fit f r in
      made_copy b.0 b.1 (applied_apart (holder_field shape) t tt tt tt tt l o n es) (applied_apart (readers_field shape) t tt tt tt tt l o n es)
      (applied_apart (writers_field shape) t tt tt tt tt l o n es) b.2 b.3

-- ---- an owner joins a list
module _ (l : List ℕ) (s : Sound l) (t : ℕ) (k : t < shape.objects) (o : ℕ) (small : o < nodes) where
  joins_by : (x : ℕ) (b : Bool)
      → copy_of (cond b (add_reader l x o) (add_writer l x o)) t
      ≡ record {
        value = value l t;
        version = version l t;
        holder = holder l t;
        readers = cond (b && eqb t x) (listing o (readers l t)) (readers l t);
        writers = cond (not b && eqb t x) (listing o (writers l t)) (writers l t);
        author = author l t;
        serial = author_serial l t;
      }
  unfolding copy_of
  joins_by x true =
      made_copy (of_with_apart (readers_field shape) (value_field shape) l x t _ tt) (of_with_apart (readers_field shape) (version_field shape) l x t _ tt)
      (of_with_apart (readers_field shape) (holder_field shape) l x t _ tt)
      (changed_at_lem (readers_field shape) l x t tt (omega (arith, s.size)) k (listing o)
      (listing_small (readers l t) o (list_small (state l) (readers l t) (s.clauses.copies_sound t k).reading) small))
      (of_with_apart (readers_field shape) (writers_field shape) l x t _ tt) (of_with_apart (readers_field shape) (author_field shape) l x t _ tt)
      (of_with_apart (readers_field shape) (author_serial_field shape) l x t _ tt)
  joins_by x false =
      made_copy (of_with_apart (writers_field shape) (value_field shape) l x t _ tt) (of_with_apart (writers_field shape) (version_field shape) l x t _ tt)
      (of_with_apart (writers_field shape) (holder_field shape) l x t _ tt) (of_with_apart (writers_field shape) (readers_field shape) l x t _ tt)
      (changed_at_lem (writers_field shape) l x t tt (omega (arith, s.size)) k (listing o)
      (listing_small (writers l t) o (list_small (state l) (writers l t) (s.clauses.copies_sound t k).writing) small))
      (of_with_apart (writers_field shape) (author_field shape) l x t _ tt) (of_with_apart (writers_field shape) (author_serial_field shape) l x t _ tt)

  pub joins_copy : (e : Entry) → copy_of (joins l o e) t ≡ listed_copy o e t (copy_of l t)
  unfolding copy_of
  joins_copy e = joins_by e.object (eqb e.mode 0)

-- ---- every owner after each change
abbrev pub restated : ℕ → Owner → Owner
restated st w = record { serial = w.serial; state = st; stamp = w.stamp }

abbrev pub owner_with : ℕ → ℕ → ℕ → Owner
owner_with n st sp = record { serial = n; state = st; stamp = sp }

either_owner : (b : Bool) (n st sp : ℕ) (w : Owner)
    → owner_with (cond b n w.serial) (cond b st w.state) (cond b sp w.stamp) ≡ cond b (owner_with n st sp) w
either_owner true n st sp w = refl
either_owner false n st sp w = refl

either_state : (b : Bool) (st : ℕ) (w : Owner) → owner_with w.serial (cond b st w.state) w.stamp ≡ cond b (restated st w) w
either_state true st w = refl
either_state false st w = refl

module _ (l : List ℕ) (fit : image_size shape ≤ length l) (p : ℕ) (k : p < nodes) where
  pub owner_owner : (o n st sp : ℕ) → n < 2 ^ 32 → st < 256 → sp < 2 ^ 32
      → owner_of (with_owner l o n st sp) p ≡ cond (eqb p o) (owner_with n st sp) (owner_of l p)
  unfolding owner_of
  owner_owner o n st sp hn hs hp =
      let a = with_serial l o n in
      let b = with_state a o st in
      let la = length_with (serial_field shape) l o n in
      let lb = length_with (state_field shape) a o st in
      made_owner
      (of_with_apart (stamp_field shape) (serial_field shape) b o p sp tt ∙ of_with_apart (state_field shape) (serial_field shape) a o p st tt
      ∙ of_at (serial_field shape) l o p tt (omega arith) k n (omega arith))
      (of_with_apart (stamp_field shape) (state_field shape) b o p sp tt ∙ of_at (state_field shape) a o p tt (omega arith) k st (omega arith)
      ∙ ap (cond (eqb p o) st) (of_with_apart (serial_field shape) (state_field shape) l o p n tt))
      (of_at (stamp_field shape) b o p tt (omega arith) k sp (omega arith)
      ∙ ap (cond (eqb p o) sp)
      (of_with_apart (state_field shape) (stamp_field shape) a o p st tt ∙ of_with_apart (serial_field shape) (stamp_field shape) l o p n tt))
      ∙ either_owner (eqb p o) n st sp (owner_of l p)

  pub leaves_owner : (o st : ℕ) → st < 256 → owner_of (leaves l o st) p ≡ cond (eqb p o) (restated st (owner_of l p)) (owner_of l p)
  unfolding owner_of leaves
  leaves_owner o st h =
      made_owner (leaves_apart (serial_field shape) p tt tt tt l o st)
      (of_at (state_field shape) (unlist l o) o p tt (omega (arith, length_unlist l o)) k st (omega arith)
      ∙ ap (cond (eqb p o) st) (unlist_apart l o (state_field shape) p tt tt))
      (leaves_apart (stamp_field shape) p tt tt tt l o st)
      ∙ either_state (eqb p o) st (owner_of l p)

module _ (l : List ℕ) (p : ℕ) where
  pub holding_owner : (o : ℕ) (es : List Entry) → owner_of (holding l o es) p ≡ owner_of l p
  unfolding owner_of
  holding_owner o es =
      made_owner (holding_apart (serial_field shape) p tt l o es) (holding_apart (state_field shape) p tt l o es)
      (holding_apart (stamp_field shape) p tt l o es)

  pub applied_owner : (o n : ℕ) (es : List Entry) → owner_of (applied l o n es) p ≡ owner_of l p
  unfolding owner_of
  applied_owner o n es =
      made_owner (applied_apart (serial_field shape) p tt tt tt tt l o n es) (applied_apart (state_field shape) p tt tt tt tt l o n es)
      (applied_apart (stamp_field shape) p tt tt tt tt l o n es)

  free_owner : (o : ℕ) → owner_of (free l o) p ≡ owner_of l p
  unfolding owner_of
  free_owner o = made_owner (free_apart l o (serial_field shape) p tt) (free_apart l o (state_field shape) p tt) (free_apart l o (stamp_field shape) p tt)

  joins_field : (f : Field) → T (apart (readers_field shape) f) → T (apart (writers_field shape) f) → (o : ℕ) (e : Entry)
      → field_of f (joins l o e) p ≡ field_of f l p
  joins_field f a b o e =
      either_way (λ (n : List ℕ). field_of f n p ≡ field_of f l p) (eqb e.mode 0) _ _ (of_with_apart (readers_field shape) f l e.object p _ a)
      (of_with_apart (writers_field shape) f l e.object p _ b)

  pub joins_owner : (o : ℕ) (e : Entry) → owner_of (joins l o e) p ≡ owner_of l p
  unfolding owner_of
  joins_owner o e =
      made_owner (joins_field (serial_field shape) tt tt o e) (joins_field (state_field shape) tt tt o e) (joins_field (stamp_field shape) tt tt o e)

pub released_owner : (l : List ℕ) → image_size shape ≤ length l → (p : ℕ) → p < nodes → (o : ℕ)
    → owner_of (released l o) p ≡ cond (eqb p o) (restated 0 (owner_of l p)) (owner_of l p)
unfolding released
released_owner l fit p k o =
    leaves_owner (free l o) (omega (arith, length_free l o)) p k o 0 (omega arith)
    ∙ ap (λ (w : Owner). cond (eqb p o) (restated 0 w) w) (free_owner l p o)
