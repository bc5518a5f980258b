-- What keeps a sound image sound: a change of one field asks only what the clauses say of that field. The rest is as it was, by the laws of fields.
use mathlib.Core.Path.{◌≡◌, sym, ap, ◌∙◌, subst}
use mathlib.Core.Bool.{Bool, not, ◌&&◌}
use mathlib.Core.List.{List}
use mathlib.Core.Logic.{⊎_elim}
use Prim.Native.Nat.{ℕ, ◌^◌, ◌<◌}
use native.Mathlib.Omega.{arith}
use lib.Bits.{or_lt}
use lib.Pow.{pow-lt}
use lib.Dec.{T, eqb, eqb→eq, not_T}
use lib.ListN.{length}
use borrow.Author.Tests.{lt-ltb}
use Rattle.numbers.specs.Sizes.{nodes, nobody}
use Rattle.mask.specs.Mask.{contains, only, minus}
use Rattle.mask.proofs.Laws.{contains_joined, contains_minus, only_small}
use Rattle.mask.proofs.Tests.{and_left, and_right, or_cases}
use Rattle.image.specs.declared.Field.{Field}
use Rattle.image.specs.Field.{field_of, with_field, changed_all}
use Rattle.image.specs.Layout.{shape, object_count, owner_count, value_field, version_field, holder_field, readers_field, writers_field}
use Rattle.image.specs.Layout.{author_field, author_serial_field, serial_field, state_field, stamp_field}
use Rattle.image.specs.Layout.{holder, readers, writers, author, author_serial, serial, state, stamp}
use Rattle.image.specs.Valid.{listed, author_ok}
use Rattle.image.specs.Change.{with_value, with_version, with_holder, with_readers, with_writers, with_author, listing, add_reader, add_writer}
use Rattle.image.proofs.Each.{lt_or_le, same_or_not}
use Rattle.image.proofs.Lens.{apart, inside, Holds, length_with, of_with, of_with_other, of_with_apart, with_out, length_all, all_apart}
use Rattle.image.proofs.Marks.{contains_only}
use Rattle.image.proofs.Sound.{Sound, Authored, CopySound, HolderSound, ListSound, low_bits}

-- ---- two images with the same owners, and with the same copies
-- f shares no byte with the counts and the owners
abbrev pub of_copies : Field → Bool
of_copies f =
    apart f object_count && apart f (owner_count shape) && apart f (serial_field shape) && apart f (state_field shape) && apart f (stamp_field shape)

-- m has the length, the counts and the owners of l
pub record SameOwners (l m : List ℕ) : Type 0 where
  pub size : length m ≡ length l
  pub first : field_of object_count m 0 ≡ field_of object_count l 0
  pub second : field_of (owner_count shape) m 0 ≡ field_of (owner_count shape) l 0
  pub serials : serial m ≡ serial l
  pub states : state m ≡ state l
  pub stamps : stamp m ≡ stamp l

-- then it is sound where its copies are
pub sound_copies : (l m : List ℕ) → SameOwners l m → Sound l
    → ((t : ℕ) → t < shape.objects → CopySound (state l) (holder m t) (readers m t) (writers m t))
    → ((t : ℕ) → t < shape.objects → Authored m t) → Sound m
sound_copies l m e s f g =
    record {
      size = e.size ∙ s.size;
      clauses = record {
        objects_counted = e.first ∙ s.clauses.objects_counted;
        owners_counted = e.second ∙ s.clauses.owners_counted;
        owners_sound = λ o k. rw (e.serials, e.states, e.stamps) (s.clauses.owners_sound o k);
        copies_sound = λ t k. rw e.states (f t k);
      };
      authors = g;
    }

-- every field that a change leaves alone, one by one
module _ (f : Field) (t : T (of_copies f)) where
  abbrev A : Bool
  A = apart f object_count

  abbrev B : Bool
  B = apart f (owner_count shape)

  abbrev C : Bool
  C = apart f (serial_field shape)

  abbrev D : Bool
  D = apart f (state_field shape)

  abbrev E : Bool
  E = apart f (stamp_field shape)

  pub same_owners : (l m : List ℕ) → length m ≡ length l
      → ((g : Field) (j : ℕ) → T (apart f g) → field_of g m j ≡ field_of g l j) → SameOwners l m
  same_owners l m n h =
      let a = and_left (A && B && C && D) E t in
      let b = and_left (A && B && C) D a in
      let c = and_left (A && B) C b in
      record {
        size = n;
        first = h object_count 0 (and_left A B c);
        second = h (owner_count shape) 0 (and_right A B c);
        serials = λ i o. h (serial_field shape) o (and_right (A && B) C b) i;
        states = λ i o. h (state_field shape) o (and_right (A && B && C) D a) i;
        stamps = λ i o. h (stamp_field shape) o (and_right (A && B && C && D) E t) i;
      }

-- a change of one field of one copy, and of one field of all copies
with_owners_lem : (f : Field) (l : List ℕ) (i v : ℕ) → T (of_copies f) → SameOwners l (with_field f l i v)
with_owners_lem f l i v t = same_owners f t l (with_field f l i v) (length_with f l i v) (λ g j a. of_with_apart f g l i j v a)

pub all_owners : (f : Field) (g : ℕ → ℕ) (n : ℕ) (l : List ℕ) → T (of_copies f) → SameOwners l (changed_all f g n l)
all_owners f g n l t = same_owners f t l (changed_all f g n l) (length_all f g n l) (λ h j a. all_apart f g h n l j a)

-- what holds of the new value and of the old ones holds of the field afterwards
set_one : (P : ℕ → Type 0) (f : Field) (l : List ℕ) (i v j : ℕ) → T (inside f) → Holds f l → v < 256 ^ f.width
    → j < f.items → P v → P (field_of f l j) → P (field_of f (with_field f l i v) j)
set_one P f l i v j t fit small k new old =
    ⊎_elim
    (λ (e : j ≡ i). subst P (sym (ap (field_of f (with_field f l i v)) e ∙ of_with f l i v t fit (subst (λ (n : ℕ). n < f.items) e k) small)) new)
    (λ e. subst P (sym (of_with_other f l i j v t e)) old)
    (same_or_not j i)

-- authors as they were
pub same_authors : (l m : List ℕ) → ((t : ℕ) → author m t ≡ author l t) → ((t : ℕ) → author_serial m t ≡ author_serial l t) → Sound l
    → (t : ℕ) → t < shape.objects → Authored m t
same_authors l m e f s t k = rw (e t, f t) (s.authors t k)

-- ---- one field of one copy
module _ (l : List ℕ) (t : ℕ) (s : Sound l) where
  -- a field that is none of the author's leaves the authors
  kept_authors : (f : Field) (v : ℕ) → T (apart f (author_field shape)) → T (apart f (author_serial_field shape))
      → (u : ℕ) → u < shape.objects → Authored (with_field f l t v) u
  kept_authors f v a b =
      same_authors l (with_field f l t v) (λ u. of_with_apart f (author_field shape) l t u v a)
      (λ u. of_with_apart f (author_serial_field shape) l t u v b) s

  abbrev copy : (u : ℕ) → u < shape.objects → CopySound (state l) (holder l u) (readers l u) (writers l u)
  copy u k = s.clauses.copies_sound u k

  -- a field that no clause reads: value, version
  pub keeps_unread : (f : Field) (v : ℕ) → T (of_copies f) → T (apart f (holder_field shape)) → T (apart f (readers_field shape))
      → T (apart f (writers_field shape)) → T (apart f (author_field shape)) → T (apart f (author_serial_field shape)) → Sound (with_field f l t v)
  keeps_unread f v a b c d x y =
      sound_copies l (with_field f l t v) (with_owners_lem f l t v a) s (λ u k.
      rw (of_with_apart f (holder_field shape) l t u v b, of_with_apart f (readers_field shape) l t u v c, of_with_apart f (writers_field shape) l t u v d)
      (copy u k)) (kept_authors f v x y)

  pub keeps_value : (v : ℕ) → Sound (with_value l t v)
  keeps_value v = keeps_unread (value_field shape) v tt tt tt tt tt tt

  pub keeps_version : (v : ℕ) → Sound (with_version l t v)
  keeps_version v = keeps_unread (version_field shape) v tt tt tt tt tt tt

  -- a holder: nobody, or an owner in state 2
  pub keeps_holder : (h : ℕ) → HolderSound (state l) h → Sound (with_holder l t h)
  keeps_holder h ok =
      sound_copies l (with_holder l t h) (with_owners_lem (holder_field shape) l t h tt) s (λ u k. record {
        holding = set_one (HolderSound (state l)) (holder_field shape) l t h u tt (omega (arith, s.size))
            (⊎_elim (λ (e : h ≡ nobody). omega arith) (λ e. omega (arith, e.0)) ok) k ok (copy u k).holding;
        reading = subst (ListSound (state l)) (sym (of_with_apart (holder_field shape) (readers_field shape) l t u h tt)) (copy u k).reading;
        writing = subst (ListSound (state l)) (sym (of_with_apart (holder_field shape) (writers_field shape) l t u h tt)) (copy u k).writing;
      }) (kept_authors (holder_field shape) h tt tt)

  -- a list: owners in state 1
  pub keeps_readers : (m : ℕ) → ListSound (state l) m → Sound (with_readers l t m)
  keeps_readers m ok =
      sound_copies l (with_readers l t m) (with_owners_lem (readers_field shape) l t m tt) s (λ u k. record {
        holding = subst (HolderSound (state l)) (sym (of_with_apart (readers_field shape) (holder_field shape) l t u m tt)) (copy u k).holding;
        reading = set_one (ListSound (state l)) (readers_field shape) l t m u tt (omega (arith, s.size))
            (omega (arith, low_bits m (λ o c. (ok o c).0))) k ok (copy u k).reading;
        writing = subst (ListSound (state l)) (sym (of_with_apart (readers_field shape) (writers_field shape) l t u m tt)) (copy u k).writing;
      }) (kept_authors (readers_field shape) m tt tt)

  pub keeps_writers : (m : ℕ) → ListSound (state l) m → Sound (with_writers l t m)
  keeps_writers m ok =
      sound_copies l (with_writers l t m) (with_owners_lem (writers_field shape) l t m tt) s (λ u k. record {
        holding = subst (HolderSound (state l)) (sym (of_with_apart (writers_field shape) (holder_field shape) l t u m tt)) (copy u k).holding;
        reading = subst (ListSound (state l)) (sym (of_with_apart (writers_field shape) (readers_field shape) l t u m tt)) (copy u k).reading;
        writing = set_one (ListSound (state l)) (writers_field shape) l t m u tt (omega (arith, s.size))
            (omega (arith, low_bits m (λ o c. (ok o c).0))) k ok (copy u k).writing;
      }) (kept_authors (writers_field shape) m tt tt)

-- ---- the author of one copy: an owner with a serial
author_ok_lem : (o n : ℕ) → o < nodes → (n ≡ 0 → ⊥) → T (author_ok o n)
author_ok_lem o n h some = simp (lt-ltb o nodes h) (not_T (eqb n 0) (λ t. some (eqb→eq n 0 t)))

module _ (l : List ℕ) (t o n : ℕ) (s : Sound l) where
  abbrev named : List ℕ
  named = with_field (author_field shape) l t o

  -- every other field is as it was
  pub author_apart : (g : Field) (j : ℕ) → T (apart (author_field shape) g) → T (apart (author_serial_field shape) g)
      → field_of g (with_author l t o n) j ≡ field_of g l j
  author_apart g j a b = of_with_apart (author_serial_field shape) g named t j n b ∙ of_with_apart (author_field shape) g l t j o a

  author_owners : SameOwners l (with_author l t o n)
  author_owners =
      record {
        size = length_with (author_serial_field shape) named t n ∙ length_with (author_field shape) l t o;
        first = author_apart object_count 0 tt tt;
        second = author_apart (owner_count shape) 0 tt tt;
        serials = λ i p. author_apart (serial_field shape) p tt tt i;
        states = λ i p. author_apart (state_field shape) p tt tt i;
        stamps = λ i p. author_apart (stamp_field shape) p tt tt i;
      }

  pub author_here : t < shape.objects → o < 256 → n < 2 ^ 32 → (author (with_author l t o n) t ≡ o) × (author_serial (with_author l t o n) t ≡ n)
  author_here k h small = (
    of_with_apart (author_serial_field shape) (author_field shape) named t t n tt ∙ of_with (author_field shape) l t o tt (omega (arith, s.size)) k h,
    of_with (author_serial_field shape) named t n tt (omega (arith, length_with (author_field shape) l t o, s.size)) k small,
  )

  pub author_other : (u : ℕ) → (u ≡ t → ⊥)
      → (author (with_author l t o n) u ≡ author l u) × (author_serial (with_author l t o n) u ≡ author_serial l u)
  author_other u e = (
    of_with_apart (author_serial_field shape) (author_field shape) named t u n tt ∙ of_with_other (author_field shape) l t u o tt e,
    of_with_other (author_serial_field shape) named t u n tt e ∙ of_with_apart (author_field shape) (author_serial_field shape) l t u o tt,
  )

  pub keeps_author : o < nodes → n < 2 ^ 32 → (n ≡ 0 → ⊥) → Sound (with_author l t o n)
  keeps_author h small some =
      sound_copies l (with_author l t o n) author_owners s
      (λ u k. rw (
        author_apart (holder_field shape) u tt tt,
        author_apart (readers_field shape) u tt tt,
        author_apart (writers_field shape) u tt tt,
      ) (s.clauses.copies_sound u k))
      (λ u k. ⊎_elim
      (λ (e : u ≡ t).
      let here = author_here (subst (λ (i : ℕ). i < shape.objects) e k) (omega arith) small in
      rw (e, here.0, here.1) (author_ok_lem o n h some))
      (λ e. let there = author_other u e in rw (there.0, there.1) (s.authors u k))
      (same_or_not u t))

-- ---- lists: owner o joins one, or leaves it
list_joined : (states : ℕ → ℕ) (m o : ℕ) → o < nodes → states o ≡ listed → ListSound states m → ListSound states (listing o m)
list_joined states m o k e f i t =
    or_cases ((i < nodes) × (states i ≡ listed)) (contains m i) (contains (only o) i) (f i)
    (λ c. let d : o ≡ i = eqb→eq o i (subst T (contains_only o i (omega arith)) c) in
    (subst (λ (n : ℕ). n < nodes) d k, subst (λ (n : ℕ). states n ≡ listed) d e))
    (subst T (contains_joined m (only o) i) t)

-- a mask that o joins still fits its two bytes
pub listing_small : (m o : ℕ) → m < 2 ^ 16 → o < nodes → listing o m < 2 ^ 16
listing_small m o h k =
    or_lt 16 m (only o) h (subst (λ (n : ℕ). n < 2 ^ 16) (sym (only_small o (omega arith))) (pow-lt {i = o} {j = 16} (omega arith)))

-- clearing bits
pub list_less : (states : ℕ → ℕ) (m n : ℕ) → ListSound states m → ListSound states (minus m n)
list_less states m n f i t = f i (and_left (contains m i) (not (contains n i)) (subst T (contains_minus m n i) t))

module _ (l : List ℕ) (t o : ℕ) (s : Sound l) (k : o < nodes) (e : state l o ≡ listed) where
  pub keeps_reader : Sound (add_reader l t o)
  keeps_reader =
      ⊎_elim (λ (h : t < shape.objects). keeps_readers l t s (listing o (readers l t))
      (list_joined (state l) (readers l t) o k e (s.clauses.copies_sound t h).reading))
      (λ h. subst Sound (sym (with_out (readers_field shape) l t (listing o (readers l t)) h)) s)
      (lt_or_le t shape.objects)

  pub keeps_writer : Sound (add_writer l t o)
  keeps_writer =
      ⊎_elim (λ (h : t < shape.objects). keeps_writers l t s (listing o (writers l t))
      (list_joined (state l) (writers l t) o k e (s.clauses.copies_sound t h).writing))
      (λ h. subst Sound (sym (with_out (writers_field shape) l t (listing o (writers l t)) h)) s)
      (lt_or_le t shape.objects)
