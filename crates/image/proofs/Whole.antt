-- The two changes of every copy: what each field is after `free` and `unlist`, that they keep a sound image sound, and that nothing of the owner is left.
use mathlib.Core.Path.{◌≡◌, refl, sym, ap, ◌∙◌, subst}
use mathlib.Core.Bool.{Bool, true, false, not, cond, ◌&&◌}
use mathlib.Core.List.{List}
use mathlib.Core.Logic.{inl, ⊎_elim}
use Prim.Native.Nat.{ℕ, ◌+◌, ◌^◌, ◌<◌, ◌≤◌}
use native.Mathlib.Omega.{arith}
use lib.Bits.{bit_and, and_le_l, xor_lt}
use lib.Dec.{T, eqb, eqb_refl, lit<, T_not}
use lib.ListN.{length}
use borrow.Author.Tests.{eq-eqb, ne_eqb, eqb-true, eqb-false}
use Rattle.numbers.specs.Sizes.{nodes, nobody}
use Rattle.mask.specs.Mask.{bit, contains, only}
use Rattle.mask.proofs.Laws.{bit_lt, contains_minus, ext}
use Rattle.mask.proofs.Tests.{and_right}
use Rattle.octets.proofs.Laws.{Bytes}
use Rattle.image.specs.declared.Field.{Field}
use Rattle.image.specs.Field.{field_of, changed, changed_all}
use Rattle.image.specs.Layout.{shape, image_size, object_count, owner_count, holder_field, readers_field, writers_field}
use Rattle.image.specs.Layout.{author_field, author_serial_field, serial_field, state_field, stamp_field, holder, readers, writers, state}
use Rattle.image.specs.Change.{freeing, leaving, free, leave, unlist}
use Rattle.image.specs.Pass.{struck}
use Rattle.image.proofs.Lens.{apart, inside, Holds, length_all, bytes_all, all_same, all_more, all_comm, all_apart, all_here}
use Rattle.image.proofs.Marks.{contains_only}
use Rattle.image.proofs.Sound.{Sound, CopySound, HolderSound, ListSound, low_bits}
use Rattle.image.proofs.Keep.{SameOwners, sound_copies, same_authors, all_owners, list_less}

-- ---- every copy: what is freed
-- what each field is afterwards
module _ (l : List ℕ) (o : ℕ) where
  pub length_free : length (free l o) ≡ length l
  unfolding free
  length_free = length_all (holder_field shape) (freeing o) shape.objects l

  pub bytes_free : Bytes l → Bytes (free l o)
  unfolding free
  bytes_free b = bytes_all (holder_field shape) (freeing o) shape.objects l b

  pub free_apart : (g : Field) (j : ℕ) → T (apart (holder_field shape) g) → field_of g (free l o) j ≡ field_of g l j
  unfolding free
  free_apart g j a = all_apart (holder_field shape) (freeing o) g shape.objects l j a

  pub free_holder : (t : ℕ) → Holds (holder_field shape) l → t < shape.objects → holder l t < 256 → holder (free l o) t ≡ freeing o (holder l t)
  unfolding free
  free_holder t fit k small =
      all_here (holder_field shape) (freeing o) shape.objects l t tt fit k k (by (eqb (holder l t) o))
    where
      by : (b : Bool) → cond b nobody (holder l t) < 256
      by true = lit< tt
      by false = small

  free_owners : SameOwners l (free l o)
  unfolding free
  free_owners = all_owners (holder_field shape) (freeing o) shape.objects l tt

-- o leaves all lists
module _ (l : List ℕ) (o : ℕ) where
  abbrev half : List ℕ
  half = leave (readers_field shape) l o

  leave_apart : (f g : Field) (l : List ℕ) (j : ℕ) → T (apart f g) → field_of g (leave f l o) j ≡ field_of g l j
  unfolding leave
  leave_apart f g l j a = all_apart f (leaving o) g f.items l j a

  leave_here : (f : Field) (l : List ℕ) (j : ℕ) → T (inside f) → Holds f l → j < f.items → f.width ≡ 2 → field_of f l j < 2 ^ 16
      → field_of f (leave f l o) j ≡ leaving o (field_of f l j)
  unfolding leave
  leave_here f l j t fit k w small =
      all_here f (leaving o) f.items l j t fit k k
      (subst (λ (n : ℕ). leaving o (field_of f l j) < 256 ^ n) (sym w)
      (xor_lt 16 (field_of f l j) (bit_and (field_of f l j) (only o)) small (omega (arith, and_le_l (field_of f l j) (only o)))))

  length_leave : (f : Field) (l : List ℕ) → length (leave f l o) ≡ length l
  unfolding leave
  length_leave f l = length_all f (leaving o) f.items l

  pub length_unlist : length (unlist l o) ≡ length l
  unfolding unlist
  length_unlist = length_leave (writers_field shape) half ∙ length_leave (readers_field shape) l

  pub bytes_unlist : Bytes l → Bytes (unlist l o)
  unfolding unlist leave
  bytes_unlist b =
      bytes_all (writers_field shape) (leaving o) shape.objects half (bytes_all (readers_field shape) (leaving o) shape.objects l b)

  pub unlist_apart : (g : Field) (j : ℕ) → T (apart (readers_field shape) g) → T (apart (writers_field shape) g)
      → field_of g (unlist l o) j ≡ field_of g l j
  unfolding unlist
  unlist_apart g j a b = leave_apart (writers_field shape) g half j b ∙ leave_apart (readers_field shape) g l j a

  module _ (t : ℕ) (fit : image_size shape ≤ length l) (k : t < shape.objects) where
    pub unlist_readers : readers l t < 2 ^ 16 → readers (unlist l o) t ≡ leaving o (readers l t)
    unfolding unlist
    unlist_readers small =
        leave_apart (writers_field shape) (readers_field shape) half t tt ∙ leave_here (readers_field shape) l t tt (omega arith) k refl small

    pub unlist_writers : writers l t < 2 ^ 16 → writers (unlist l o) t ≡ leaving o (writers l t)
    unfolding unlist
    unlist_writers small =
        let e = leave_apart (readers_field shape) (writers_field shape) l t tt in
        leave_here (writers_field shape) half t tt (omega (arith, length_leave (readers_field shape) l)) k refl (subst (λ (n : ℕ). n < 2 ^ 16) (sym e) small)
        ∙ ap (leaving o) e

  unlist_owners : SameOwners l (unlist l o)
  unlist_owners =
      record {
        size = length_unlist;
        first = unlist_apart object_count 0 tt tt;
        second = unlist_apart (owner_count shape) 0 tt tt;
        serials = λ i p. unlist_apart (serial_field shape) p tt tt i;
        states = λ i p. unlist_apart (state_field shape) p tt tt i;
        stamps = λ i p. unlist_apart (stamp_field shape) p tt tt i;
      }

-- ---- the two sweeps as one: readers and writers share no byte
abbrev pub strucks : ℕ → ℕ → List ℕ → List ℕ
strucks o t l = changed_all (writers_field shape) (leaving o) t (changed_all (readers_field shape) (leaving o) t l)

pub struck_next : (l : List ℕ) (o t : ℕ) → struck (only o) (strucks o t l) t ≡ strucks o (t + 1) l
struck_next l o t =
    let one = readers_field shape in
    let two = writers_field shape in
    let g = leaving o in
    ap (λ (m : List ℕ). changed two g m t) (all_comm one two g g t (changed_all one g t l) t tt tt)
    ∙ sym (all_more two g t (changed_all one g (t + 1) l) ∙ ap (λ (m : List ℕ). changed two g (changed_all two g t m) t) (all_more one g t l))

-- ---- where o is in no list, or holds nothing, they change nothing
-- a mask without o stays as it is
same_bit : (x y : ℕ) → x < 2 → y < 2 → eqb x 1 ≡ eqb y 1 → x ≡ y
same_bit x y hx hy e = by (eqb x 1) refl
  where
    by : (b : Bool) → eqb x 1 ≡ b → x ≡ y
    by true p = eqb-true x 1 p ∙ sym (eqb-true y 1 (sym e ∙ p))
    by false p = let u = eqb-false x 1 p in let w = eqb-false y 1 (sym e ∙ p) in omega arith

not_there : (o m : ℕ) → o < 16 → (T (contains m o) → ⊥) → leaving o m ≡ m
not_there o m h out =
    ext (leaving o m) m (λ i. same_bit (bit (leaving o m) i) (bit m i) (bit_lt (leaving o m) i) (bit_lt m i)
    (contains_minus m (only o) i ∙ ap (λ (b : Bool). contains m i && not b) (contains_only o i h) ∙ by i (contains m i) refl (eqb o i) refl))
  where
    by : (i : ℕ) (a : Bool) → contains m i ≡ a → (b : Bool) → eqb o i ≡ b → (a && not b) ≡ a
    by i true p true q = absurd (out (subst (λ (k : ℕ). T (contains m k)) (sym (eqb-true o i q)) (subst T (sym p) tt)))
    by i true p false q = refl
    by i false p true q = refl
    by i false p false q = refl

module _ (l : List ℕ) (o : ℕ) (b : Bytes l) where
  pub free_same : ((t : ℕ) → t < shape.objects → holder l t ≡ o → ⊥) → free l o ≡ l
  unfolding free
  free_same out =
      all_same (holder_field shape) (freeing o) shape.objects l b
      (λ t k. ap (λ (x : Bool). cond x nobody (holder l t)) (ne_eqb (holder l t) o (out t k)))

  leave_same : (f : Field) → o < 16 → ((t : ℕ) → t < f.items → T (contains (field_of f l t) o) → ⊥) → leave f l o ≡ l
  unfolding leave
  leave_same f h out = all_same f (leaving o) f.items l b (λ t k. not_there o (field_of f l t) h (out t k))

  pub unlist_same : o < 16 → ((t : ℕ) → t < shape.objects → T (contains (readers l t) o) → ⊥)
      → ((t : ℕ) → t < shape.objects → T (contains (writers l t) o) → ⊥) → unlist l o ≡ l
  unfolding unlist
  unlist_same h r w =
      ap (λ (m : List ℕ). leave (writers_field shape) m o) (leave_same (readers_field shape) h r) ∙ leave_same (writers_field shape) h w

-- ---- both keep a sound image sound, and leave nothing of the owner
freed_sound : (states : ℕ → ℕ) (o h : ℕ) → HolderSound states h → HolderSound states (freeing o h)
freed_sound states o h ok = by (eqb h o)
  where
    by : (b : Bool) → HolderSound states (cond b nobody h)
    by true = inl refl
    by false = ok

pub holder_small : (states : ℕ → ℕ) (h : ℕ) → HolderSound states h → h < 256
holder_small states h ok = ⊎_elim (λ (e : h ≡ nobody). omega arith) (λ e. omega (arith, e.0)) ok

pub list_small : (states : ℕ → ℕ) (m : ℕ) → ListSound states m → m < 2 ^ 16
list_small states m ok = omega (arith, low_bits m (λ o t. (ok o t).0))

module _ (l : List ℕ) (o : ℕ) (s : Sound l) where
  abbrev copy : (u : ℕ) → u < shape.objects → CopySound (state l) (holder l u) (readers l u) (writers l u)
  copy u k = s.clauses.copies_sound u k

  pub freed_holder : (t : ℕ) → t < shape.objects → holder (free l o) t ≡ freeing o (holder l t)
  freed_holder t k = free_holder l o t (omega (arith, s.size)) k (holder_small (state l) (holder l t) (copy t k).holding)

  pub left_readers : (t : ℕ) → t < shape.objects → readers (unlist l o) t ≡ leaving o (readers l t)
  left_readers t k = unlist_readers l o t (omega (arith, s.size)) k (list_small (state l) (readers l t) (copy t k).reading)

  pub left_writers : (t : ℕ) → t < shape.objects → writers (unlist l o) t ≡ leaving o (writers l t)
  left_writers t k = unlist_writers l o t (omega (arith, s.size)) k (list_small (state l) (writers l t) (copy t k).writing)

  pub keeps_free : Sound (free l o)
  keeps_free =
      sound_copies l (free l o) (free_owners l o) s (λ t k. record {
        holding = subst (HolderSound (state l)) (sym (freed_holder t k)) (freed_sound (state l) o (holder l t) (copy t k).holding);
        reading = subst (ListSound (state l)) (sym (free_apart l o (readers_field shape) t tt)) (copy t k).reading;
        writing = subst (ListSound (state l)) (sym (free_apart l o (writers_field shape) t tt)) (copy t k).writing;
      }) (same_authors l (free l o) (λ t. free_apart l o (author_field shape) t tt) (λ t. free_apart l o (author_serial_field shape) t tt) s)

  pub keeps_unlist : Sound (unlist l o)
  keeps_unlist =
      sound_copies l (unlist l o) (unlist_owners l o) s (λ t k. record {
        holding = subst (HolderSound (state l)) (sym (unlist_apart l o (holder_field shape) t tt tt)) (copy t k).holding;
        reading = subst (ListSound (state l)) (sym (left_readers t k)) (list_less (state l) (readers l t) (only o) (copy t k).reading);
        writing = subst (ListSound (state l)) (sym (left_writers t k)) (list_less (state l) (writers l t) (only o) (copy t k).writing);
      })
      (same_authors l (unlist l o) (λ t. unlist_apart l o (author_field shape) t tt tt) (λ t. unlist_apart l o (author_serial_field shape) t tt tt) s)

  -- after free no copy has o as its holder
  pub free_none : o < nodes → (t : ℕ) → t < shape.objects → holder (free l o) t ≡ o → ⊥
  free_none small t k e = by (eqb (holder l t) o) refl
    where
      by : (b : Bool) → eqb (holder l t) o ≡ b → ⊥
      by true p = let z : nobody ≡ o = sym (freed_holder t k ∙ ap (λ (b : Bool). cond b nobody (holder l t)) p) ∙ e in omega arith
      by false p =
          let z : holder l t ≡ o = sym (freed_holder t k ∙ ap (λ (b : Bool). cond b nobody (holder l t)) p) ∙ e in
          subst T (sym (eq-eqb (holder l t) o z) ∙ p) tt

  -- after unlist o is in no list
  has_left : (m : ℕ) → o < nodes → T (contains (leaving o m) o) → ⊥
  has_left m small t =
      T_not (contains (only o) o) (and_right (contains m o) (not (contains (only o) o)) (subst T (contains_minus m (only o) o) t))
      (subst T (sym (contains_only o o (omega arith))) (eqb_refl o))

  pub unlist_no_reader : o < nodes → (t : ℕ) → t < shape.objects → T (contains (readers (unlist l o) t) o) → ⊥
  unlist_no_reader small t k c = has_left (readers l t) small (subst (λ (m : ℕ). T (contains m o)) (left_readers t k) c)

  pub unlist_no_writer : o < nodes → (t : ℕ) → t < shape.objects → T (contains (writers (unlist l o) t) o) → ⊥
  unlist_no_writer small t k c = has_left (writers l t) small (subst (λ (m : ℕ). T (contains m o)) (left_writers t k) c)
