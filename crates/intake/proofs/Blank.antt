-- A blank image of an older shape is taken in as today's blank image: what is written there stands there. For every shape whose fields lie where the blank
-- image has nothing else, which is computed for a shape at hand.
use mathlib.Core.Path.{◌≡◌, refl, sym, ap, ◌∙◌}
use mathlib.Core.Bool.{Bool, true, false, cond, not, ◌&&◌, ◌||◌}
use mathlib.Core.List.{List}
use Prim.Native.Nat.{ℕ, zero, suc, ◌<◌, ◌≤◌}
use native.Mathlib.Omega.{arith}
use lib.Dec.{T, ltb, leb, leb→le, ltb→lt}
use lib.ListN.{length}
use borrow.Author.Tests.{eq-eqb}
use Rattle.mask.proofs.Tests.{and_left, and_right}
use Rattle.numbers.specs.Sizes.{nodes, nobody}
use Rattle.octets.proofs.Laws.{Bytes}
use Rattle.image.specs.declared.Copy.{Copy}
use Rattle.image.specs.declared.Field.{Field}
use Rattle.image.specs.declared.Owner.{Owner}
use Rattle.image.specs.Field.{field_of}
use Rattle.image.specs.Layout.{Shape, shape, has_author, image_size, object_count, owner_count, value_field, version_field, holder_field, readers_field}
use Rattle.image.specs.Layout.{writers_field, author_field, author_serial_field, serial_field, state_field, stamp_field, copy_of, owner_of}
use Rattle.image.specs.Valid.{counts_ok, valid, check_as, check}
use Rattle.image.specs.Blank.{blank_as}
use Rattle.image.proofs.Lens.{inside, ends, apart, with_same}
use Rattle.image.proofs.Blanks.{length_blank, bytes_blank, blank_zero, blank_holder, blank_author, blank_check}
use Rattle.image.proofs.Blanks.{unsigned, length_blank_as, bytes_blank_as, blank_zero_as, blank_holder_as, blank_author_as, blank_objects_as, blank_owners_as}
use Rattle.intake.proofs.Judged.{taken_valid, check_says}
use Rattle.intake.specs.Take.{author_at, copy_as, owner_as, with_copy, with_kept, with_copies, with_owners, with_copies_as, with_owners_as, taken_into}
use Rattle.intake.specs.Take.{taken_in}

-- ---- copies and owners written as they were
module _ (l : List ℕ) (b : Bytes l) where
  same_copy : (t : ℕ) → with_copy l t (copy_of l t) ≡ l
  unfolding copy_of
  same_copy t =
      rw (
        with_same (value_field shape) l t b,
        with_same (version_field shape) l t b,
        with_same (holder_field shape) l t b,
        with_same (readers_field shape) l t b,
        with_same (writers_field shape) l t b,
        with_same (author_field shape) l t b,
      ) (with_same (author_serial_field shape) l t b)

  same_kept : (o : ℕ) → with_kept l o (owner_of l o) ≡ l
  unfolding owner_of
  same_kept o = rw (with_same (serial_field shape) l o b, with_same (state_field shape) l o b) (with_same (stamp_field shape) l o b)

  same_copies : (copies : ℕ → Copy) (n : ℕ) → ((t : ℕ) → t < n → copies t ≡ copy_of l t) → with_copies copies n l ≡ l
  unfolding with_copies_as
  same_copies copies zero h = refl
  same_copies copies (suc n) h =
      ap (λ (m : List ℕ). with_copy m n (copies n)) (same_copies copies n (λ t k. h t (omega arith)))
      ∙ ap (with_copy l n) (h n (omega arith)) ∙ same_copy n

  same_owners : (owners : ℕ → Owner) (n : ℕ) → ((o : ℕ) → o < n → owners o ≡ owner_of l o) → with_owners owners n l ≡ l
  unfolding with_owners_as
  same_owners owners zero h = refl
  same_owners owners (suc n) h =
      ap (λ (m : List ℕ). with_kept m n (owners n)) (same_owners owners n (λ o k. h o (omega arith)))
      ∙ ap (with_kept l n) (h n (omega arith)) ∙ same_kept n

-- ---- the tests of a shape
-- the field has no byte of a count, of a holder or of an author
abbrev clear : Shape → Field → Bool
clear s g = unsigned s g && (apart (holder_field s) g && (apart (owner_count s) g && apart object_count g))

-- every copy has the field, and the image every copy
abbrev whole : Shape → Field → Bool
whole s g = inside g && leb (ends g) (image_size s)

-- a copy's fields, its holder, its author if it has one; an owner's fields
abbrev clear_copies : Shape → Bool
clear_copies s = clear s (value_field s) && (clear s (version_field s) && (clear s (readers_field s) && clear s (writers_field s)))

abbrev marked : Shape → Bool
marked s = unsigned s (holder_field s) && whole s (holder_field s)

abbrev signed : Shape → Bool
signed s = not (has_author s) || (whole s (author_field s) && clear s (author_serial_field s))

abbrev clear_owners : Shape → Bool
clear_owners s = clear s (serial_field s) && (clear s (state_field s) && clear s (stamp_field s))

-- the counts fit their bytes, and have no byte of anything else
abbrev clear_counts : Shape → Bool
clear_counts s =
    unsigned s object_count && (apart (holder_field s) object_count && (apart (owner_count s) object_count && ltb s.objects 256))
    && (unsigned s (owner_count s) && apart (holder_field s) (owner_count s))

abbrev pub fitting : Shape → Bool
fitting s = leb s.objects shape.objects && (clear_copies s && (marked s && (signed s && (clear_owners s && clear_counts s))))

-- ---- its blank image, field by field as today's
module _ (s : Shape) where
  zero_in : (g : Field) (i : ℕ) → T (clear s g) → field_of g (blank_as s) i ≡ 0
  zero_in g i h =
      let a = and_right (unsigned s g) _ h in
      let b = and_right (apart (holder_field s) g) _ a in
      blank_zero_as s g i (and_left (unsigned s g) _ h) (and_left (apart (holder_field s) g) _ a) (and_left (apart (owner_count s) g) _ b)
      (and_right (apart (owner_count s) g) _ b)

  module _ (t : ℕ) (k : t < s.objects) (room : s.objects ≤ shape.objects) where
    author_blank : T (signed s) → cond (has_author s) (field_of (author_field s) (blank_as s) t) nobody ≡ nobody
    author_blank h = by (has_author s) refl h
      where
        by : (b : Bool) → has_author s ≡ b → T (not b || (whole s (author_field s) && clear s (author_serial_field s)))
            → cond b (field_of (author_field s) (blank_as s) t) nobody ≡ nobody
        by false e q = refl
        by true e q =
            let w = and_left (whole s (author_field s)) _ q in
            blank_author_as s t e (and_left (inside (author_field s)) _ w) (and_right (inside (author_field s)) _ w) k

    serial_blank : T (signed s) → cond (has_author s) (field_of (author_serial_field s) (blank_as s) t) 0 ≡ 0
    serial_blank h = by (has_author s) h
      where
        by : (b : Bool) → T (not b || (whole s (author_field s) && clear s (author_serial_field s)))
            → cond b (field_of (author_serial_field s) (blank_as s) t) 0 ≡ 0
        by false q = refl
        by true q = zero_in (author_serial_field s) t (and_right (whole s (author_field s)) _ q)

    copy_blank : T (clear_copies s) → T (marked s) → T (signed s) → copy_as s (blank_as s) t ≡ copy_of (blank_as shape) t
    unfolding copy_as copy_of
    copy_blank c m a =
        let d = and_right (clear s (value_field s)) _ c in
        let e = and_right (clear s (version_field s)) _ d in
        let w = and_right (unsigned s (holder_field s)) _ m in
        let v = zero_in (version_field s) t (and_left (clear s (version_field s)) _ d) in
        made
        (zero_in (value_field s) t (and_left (clear s (value_field s)) _ c) ∙ sym (blank_zero (value_field shape) t tt tt tt tt))
        (v ∙ sym (blank_zero (version_field shape) t tt tt tt tt))
        (blank_holder_as s t (and_left (unsigned s (holder_field s)) _ m) (and_left (inside (holder_field s)) _ w)
        (and_right (inside (holder_field s)) _ w) k ∙ sym (blank_holder t (omega arith)))
        (zero_in (readers_field s) t (and_left (clear s (readers_field s)) _ e) ∙ sym (blank_zero (readers_field shape) t tt tt tt tt))
        (zero_in (writers_field s) t (and_right (clear s (readers_field s)) _ e) ∙ sym (blank_zero (writers_field shape) t tt tt tt tt))
        (ap (λ (n : ℕ). cond (has_author s) (field_of (author_field s) (blank_as s) t) (author_at n)) v ∙ author_blank a ∙ sym (blank_author t (omega arith)))
        (serial_blank a ∙ sym (blank_zero (author_serial_field shape) t tt tt tt tt))
      where
        made : {a a' b b' c c' d d' e e' f f' g g' : ℕ} → a ≡ a' → b ≡ b' → c ≡ c' → d ≡ d' → e ≡ e' → f ≡ f' → g ≡ g'
            → ◌≡◌ {A = Copy} (record { value = a; version = b; holder = c; readers = d; writers = e; author = f; serial = g })
            (record { value = a'; version = b'; holder = c'; readers = d'; writers = e'; author = f'; serial = g' })
        made p q r s t u v i =
            record { value = p i; version = q i; holder = r i; readers = s i; writers = t i; author = u i; serial = v i }

  owner_blank : (o : ℕ) → T (clear_owners s) → owner_as s (blank_as s) o ≡ owner_of (blank_as shape) o
  unfolding owner_as owner_of
  owner_blank o h =
      let a = and_right (clear s (serial_field s)) _ h in
      made
      (zero_in (serial_field s) o (and_left (clear s (serial_field s)) _ h) ∙ sym (blank_zero (serial_field shape) o tt tt tt tt))
      (zero_in (state_field s) o (and_left (clear s (state_field s)) _ a) ∙ sym (blank_zero (state_field shape) o tt tt tt tt))
      (zero_in (stamp_field s) o (and_right (clear s (state_field s)) _ a) ∙ sym (blank_zero (stamp_field shape) o tt tt tt tt))
    where
      made : {a a' b b' c c' : ℕ} → a ≡ a' → b ≡ b' → c ≡ c'
          → ◌≡◌ {A = Owner} (record { serial = a; state = b; stamp = c }) (record { serial = a'; state = b'; stamp = c' })
      made p q r i = record { serial = p i; state = q i; stamp = r i }

  counts_blank : T (clear_counts s) → counts_ok s (blank_as s) ≡ true
  counts_blank h =
      let f = unsigned s object_count && (apart (holder_field s) object_count && (apart (owner_count s) object_count && ltb s.objects 256)) in
      let a = and_left f _ h in
      let b = and_right (unsigned s object_count) _ a in
      let c = and_right (apart (holder_field s) object_count) _ b in
      let d = and_right f _ h in
      let small = ltb→lt s.objects 256 (and_right (apart (owner_count s) object_count) _ c) in
      let p = blank_objects_as s (and_left (unsigned s object_count) _ a) (and_left (apart (holder_field s) object_count) _ b)
      (and_left (apart (owner_count s) object_count) _ c) small in
      let q = blank_owners_as s (and_left (unsigned s (owner_count s)) _ d) (and_right (unsigned s (owner_count s)) _ d) in
      rw (eq-eqb (field_of object_count (blank_as s) 0) s.objects p) (eq-eqb (field_of (owner_count s) (blank_as s) 0) nodes q)

  -- ---- so it becomes today's blank image, and it is valid
  pub has_room : T (fitting s) → s.objects ≤ shape.objects
  has_room h = leb→le s.objects shape.objects (and_left (leb s.objects shape.objects) _ h)

  pub taken_blank : T (fitting s) → taken_in s (blank_as s) ≡ blank_as shape
  unfolding taken_into
  taken_blank h =
      let a = and_right (leb s.objects shape.objects) _ h in
      let b = and_right (clear_copies s) _ a in
      let c = and_right (marked s) _ b in
      ap (with_owners (owner_as s (blank_as s)) nodes)
      (same_copies (blank_as shape) bytes_blank (copy_as s (blank_as s)) s.objects
      (λ t k. copy_blank t k (has_room h) (and_left (clear_copies s) _ a) (and_left (marked s) _ b) (and_left (signed s) _ c)))
      ∙ same_owners (blank_as shape) bytes_blank (owner_as s (blank_as s)) nodes
      (λ o k. owner_blank o (and_left (clear_owners s) _ (and_right (signed s) _ c)))

  pub blank_valid : T (fitting s) → check_as s (blank_as s) ≡ 0
  unfolding check_as
  blank_valid h =
      let a = and_right (leb s.objects shape.objects) _ h in
      let b = and_right (clear_copies s) _ a in
      let c = and_right (marked s) _ b in
      let counts = counts_blank (and_right (clear_owners s) _ (and_right (signed s) _ c)) in
      let today : valid shape (blank_as shape) ≡ true = sym (check_says (blank_as shape) length_blank) ∙ eq-eqb (check (blank_as shape)) 0 blank_check in
      let v : valid s (blank_as s) ≡ true =
      taken_valid s (blank_as s) (has_room h) (bytes_blank_as s)
      ∙ ap (λ (q : Bool). q && valid shape (taken_in s (blank_as s))) counts ∙ ap (valid shape) (taken_blank h) ∙ today in
      simp (eq-eqb (length (blank_as s)) (image_size s) (length_blank_as s), v)

  pub blank_authors : T (fitting s) → has_author s ≡ true → (t : ℕ) → t < s.objects
      → (field_of (author_field s) (blank_as s) t ≡ nobody) × (field_of (author_serial_field s) (blank_as s) t ≡ 0)
  blank_authors h e t k =
      let a = and_right (leb s.objects shape.objects) _ h in
      let b = and_right (clear_copies s) _ a in
      let q = and_left (signed s) _ (and_right (marked s) _ b) in (
        sym (ap (λ (b : Bool). cond b (field_of (author_field s) (blank_as s) t) nobody) e) ∙ author_blank t k (has_room h) q,
        sym (ap (λ (b : Bool). cond b (field_of (author_serial_field s) (blank_as s) t) 0) e) ∙ serial_blank t k (has_room h) q,
      )
