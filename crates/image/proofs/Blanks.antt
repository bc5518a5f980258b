-- The blank image: its fields one by one, and that it is sound. By the laws of fields, from zeros on.
use mathlib.Core.Path.{◌≡◌, refl, sym, ap, ◌∙◌, subst}
use mathlib.Core.Bool.{Bool, true, false, cond, not, ◌||◌}
use mathlib.Core.List.{List, []}
use mathlib.Core.Logic.{inl}
use Prim.Native.Nat.{ℕ, zero, suc, ◌<◌}
use native.Mathlib.Omega.{arith}
use lib.Dec.{T, lit<, leb, leb→le}
use lib.ListN.{length, get_or, replicate, length-replicate}
use borrow.Author.Tests.{eq-eqb, ne_eqb}
use Rattle.numbers.specs.Sizes.{nodes, nobody}
use Rattle.mask.specs.Mask.{contains}
use Rattle.octets.proofs.Laws.{get_ext, get_out, Bytes}
use Rattle.image.specs.declared.Field.{Field}
use Rattle.image.specs.Field.{place, field_of, with_field, changed_all}
use Rattle.image.specs.Layout.{Shape, shape, shape1527, shape1207, has_author, image_size, object_count, owner_count, holder_field, readers_field}
use Rattle.image.specs.Layout.{writers_field}
use Rattle.image.specs.Layout.{author_field, author_serial_field, serial_field, state_field, stamp_field, holder, author}
use Rattle.image.specs.Valid.{check}
use Rattle.image.specs.Blank.{counted, unheld, unwritten, blank_as, blank}
use Rattle.image.proofs.Lens.{inside, ends, apart, length_with, bytes_with_lem, of_with, of_with_apart, length_all, bytes_all, all_apart, all_here}
use Rattle.image.proofs.Marks.{contains_none}
use Rattle.image.proofs.Sound.{Sound, sound_check}

-- ---- zeros
abbrev zeros_of : ℕ → List ℕ
zeros_of n = replicate n 0

get_d_zeros : (n j : ℕ) → get_or (zeros_of n) j 0 ≡ 0
get_d_zeros zero j = refl
get_d_zeros (suc n) zero = refl
get_d_zeros (suc n) (suc j) = get_d_zeros n j

zeros : Shape → List ℕ
zeros s = zeros_of (image_size s)

module _ (s : Shape) where
  of_zeros : (f : Field) (i : ℕ) → field_of f (zeros s) i ≡ 0
  unfolding field_of zeros
  of_zeros f i =
      let p = place f (length (zeros_of (image_size s))) i in
      get_ext f.width (zeros_of (image_size s)) [] p (λ j a b. get_d_zeros (image_size s) j) ∙ get_out f.width [] p (omega arith)

  length_zeros : length (zeros s) ≡ image_size s
  unfolding zeros
  length_zeros = length-replicate {A = ℕ} (image_size s) 0

  -- ---- the blank image of a shape
  abbrev first : List ℕ
  first = with_field object_count (zeros s) 0 s.objects

  abbrev both : List ℕ
  both = with_field (owner_count s) first 0 nodes

  length_both : length both ≡ image_size s
  length_both = length_with (owner_count s) first 0 nodes ∙ length_with object_count (zeros s) 0 s.objects ∙ length_zeros

  -- nobody holds a copy; then also nobody has written one, where copies have an author
  abbrev free : List ℕ
  free = unheld s both

  length_free : length free ≡ image_size s
  unfolding unheld
  length_free = length_all (holder_field s) (λ h. nobody) s.objects both ∙ length_both

  -- what holds of bytes both with the authors written and without
  either_way : (P : List ℕ → Type 0) (l : List ℕ) → P l → P (changed_all (author_field s) (λ a. nobody) s.objects l) → P (unwritten s l)
  unfolding unwritten
  either_way P l p q = by (has_author s)
    where
      by : (b : Bool) → P (cond b (changed_all (author_field s) (λ a. nobody) s.objects l) l)
      by true = q
      by false = p

  pub length_blank_as : length (blank_as s) ≡ image_size s
  unfolding blank_as counted zeros
  length_blank_as = either_way (λ l. length l ≡ image_size s) free length_free
      (length_all (author_field s) (λ a. nobody) s.objects free ∙ length_free)

  pub bytes_blank_as : Bytes (blank_as s)
  unfolding blank_as unheld counted zeros
  bytes_blank_as = either_way Bytes free before (bytes_all (author_field s) (λ a. nobody) s.objects free before)
    where
      before : Bytes free
      before =
          bytes_all (holder_field s) (λ h. nobody) s.objects both
          (bytes_with_lem (owner_count s) first 0 nodes (bytes_with_lem object_count (zeros s) 0 s.objects
          (λ j. subst (λ (n : ℕ). n < 256) (sym (get_d_zeros (image_size s) j)) (lit< tt))))

  -- no author is in the field
  abbrev pub unsigned : Field → Bool
  unsigned g = not (has_author s) || apart (author_field s) g

  unwritten_apart : (g : Field) (i : ℕ) (l : List ℕ) → T (unsigned g) → field_of g (unwritten s l) i ≡ field_of g l i
  unfolding unwritten
  unwritten_apart g i l a = by (has_author s) a
    where
      by : (b : Bool) → T (not b || apart (author_field s) g)
          → field_of g (cond b (changed_all (author_field s) (λ a. nobody) s.objects l) l) i ≡ field_of g l i
      by true t = all_apart (author_field s) (λ a. nobody) g s.objects l i t
      by false t = refl

  -- a field that is neither is as the counts left it
  before_marks : (g : Field) (i : ℕ) → T (unsigned g) → T (apart (holder_field s) g) → field_of g (blank_as s) i ≡ field_of g both i
  unfolding blank_as unheld counted zeros
  before_marks g i a b = unwritten_apart g i free a ∙ all_apart (holder_field s) (λ h. nobody) g s.objects both i b

  -- every field but the counts, the holders and the authors is 0
  pub blank_zero_as : (g : Field) (i : ℕ) → T (unsigned g) → T (apart (holder_field s) g) → T (apart (owner_count s) g)
      → T (apart object_count g) → field_of g (blank_as s) i ≡ 0
  unfolding zeros
  blank_zero_as g i d a b c =
      before_marks g i d a ∙ of_with_apart (owner_count s) g first 0 i nodes b ∙ of_with_apart object_count g (zeros s) 0 i s.objects c ∙ of_zeros g i

  pub blank_holder_as : (t : ℕ) → T (unsigned (holder_field s)) → T (inside (holder_field s)) → T (leb (ends (holder_field s)) (image_size s))
      → t < s.objects → field_of (holder_field s) (blank_as s) t ≡ nobody
  unfolding blank_as unheld counted zeros
  blank_holder_as t a i fit k =
      unwritten_apart (holder_field s) t free a
      ∙ all_here (holder_field s) (λ h. nobody) s.objects both t i
      (omega (arith, length_both, leb→le (ends (holder_field s)) (image_size s) fit)) k k (lit< tt)

  pub blank_author_as : (t : ℕ) → has_author s ≡ true → T (inside (author_field s)) → T (leb (ends (author_field s)) (image_size s))
      → t < s.objects → field_of (author_field s) (blank_as s) t ≡ nobody
  unfolding blank_as unwritten counted zeros
  blank_author_as t has i fit k =
      ap (λ (b : Bool). field_of (author_field s) (cond b (changed_all (author_field s) (λ a. nobody) s.objects free) free) t) has
      ∙ all_here (author_field s) (λ a. nobody) s.objects free t i
      (omega (arith, length_free, leb→le (ends (author_field s)) (image_size s) fit)) k k (lit< tt)

  pub blank_objects_as : T (unsigned object_count) → T (apart (holder_field s) object_count) → T (apart (owner_count s) object_count) → s.objects < 256
      → field_of object_count (blank_as s) 0 ≡ s.objects
  unfolding zeros
  blank_objects_as a b c small =
      before_marks object_count 0 a b ∙ of_with_apart (owner_count s) object_count first 0 0 nodes c
      ∙ of_with object_count (zeros s) 0 s.objects tt (omega (arith, length_zeros)) (lit< tt) small

  pub blank_owners_as : T (unsigned (owner_count s)) → T (apart (holder_field s) (owner_count s)) → field_of (owner_count s) (blank_as s) 0 ≡ nodes
  unfolding zeros
  blank_owners_as a b =
      before_marks (owner_count s) 0 a b
      ∙ of_with (owner_count s) first 0 nodes tt (omega (arith, length_with object_count (zeros s) 0 s.objects, length_zeros)) (lit< tt) (lit< tt)

-- ---- of today's shape
-- 2,935 bytes since there are 128 objects (document 02, 2.6), 1,527 before (2.5), and document 01's 1,207
pub image_size_lem : image_size shape ≡ 2935
image_size_lem = refl

pub image_size_1527 : image_size shape1527 ≡ 1527
image_size_1527 = refl

pub image_size_1207 : image_size shape1207 ≡ 1207
image_size_1207 = refl

pub length_blank : length (blank_as shape) ≡ image_size shape
length_blank = length_blank_as shape

pub bytes_blank : Bytes (blank_as shape)
bytes_blank = bytes_blank_as shape

pub blank_zero : (g : Field) (i : ℕ) → T (apart (author_field shape) g) → T (apart (holder_field shape) g) → T (apart (owner_count shape) g)
    → T (apart object_count g) → field_of g (blank_as shape) i ≡ 0
blank_zero = blank_zero_as shape

pub blank_holder : (t : ℕ) → t < shape.objects → holder (blank_as shape) t ≡ nobody
blank_holder t k = blank_holder_as shape t tt tt tt k

pub blank_author : (t : ℕ) → t < shape.objects → author (blank_as shape) t ≡ nobody
blank_author t k = blank_author_as shape t refl tt tt k

pub blank_sound : Sound (blank_as shape)
blank_sound =
    record {
      size = length_blank;
      clauses = record {
        objects_counted = blank_objects_as shape tt tt tt (lit< tt);
        owners_counted = blank_owners_as shape tt tt;
        owners_sound = λ o k. record {
          small = omega (arith, blank_zero (state_field shape) o tt tt tt tt);
          named = inl (
            blank_zero (serial_field shape) o tt tt tt tt,
            blank_zero (stamp_field shape) o tt tt tt tt,
            blank_zero (state_field shape) o tt tt tt
                tt,
          );
        };
        copies_sound = λ t k. record {
          holding = inl (blank_holder t k);
          reading = λ o c. absurd (subst T (contains_none o) (subst (λ (m : ℕ). T (contains m o)) (blank_zero (readers_field shape) t tt tt tt tt) c));
          writing = λ o c. absurd (subst T (contains_none o) (subst (λ (m : ℕ). T (contains m o)) (blank_zero (writers_field shape) t tt tt tt tt) c));
        };
      };
      authors = λ t k. rw (blank_author t k, blank_zero (author_serial_field shape) t tt tt tt tt) tt;
    }

pub blank_check : check (blank_as shape) ≡ 0
blank_check = sound_check (blank_as shape) blank_sound

-- bytes of the right length become it, others stay
pub blank_made : (l : List ℕ) → length l ≡ image_size shape → blank l ≡ blank_as shape
unfolding blank
blank_made l e = simp (eq-eqb (length l) (image_size shape) e)

pub blank_refused : (l : List ℕ) → (length l ≡ image_size shape → ⊥) → blank l ≡ l
unfolding blank
blank_refused l e = simp (ne_eqb (length l) (image_size shape) e)
