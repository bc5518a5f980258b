-- An older image is valid exactly when its counts are right and what it is taken in as is valid: so today's check judges it. Clause by clause.
use mathlib.Core.Path.{◌≡◌, refl, sym, ap, ap₂, ◌∙◌, subst}
use mathlib.Core.Bool.{Bool, true, false, cond, not, ◌&&◌, ◌||◌}
use mathlib.Core.List.{List}
use mathlib.Core.Logic.{⊎_elim}
use Prim.Native.Nat.{ℕ, zero, suc, ◌<◌, ◌≤◌}
use native.Mathlib.Omega.{arith}
use lib.Dec.{T, eqb, eqb-suc-zero}
use lib.ListN.{length}
use borrow.Author.Tests.{eq-eqb}
use Rattle.numbers.specs.Sizes.{nodes, nobody}
use Rattle.mask.proofs.Tests.{same_test, T_true}
use Rattle.octets.proofs.Laws.{Bytes}
use Rattle.image.specs.Field.{field_of}
use Rattle.image.specs.Layout.{Shape, shape, has_author, image_size, object_count, owner_count, holder_field, readers_field, writers_field}
use Rattle.image.specs.Layout.{author_field, author_serial_field, version_field, serial_field, state_field, stamp_field}
use Rattle.image.specs.Layout.{holder, readers, writers, author, author_serial, serial, state, stamp}
use Rattle.image.specs.Valid.{each, holder_ok, state_ok, mask_ok, serial_ok, held_ok, listed_ok, author_ok, counts_ok, formed, authors_ok, valid, check_as}
use Rattle.image.specs.Valid.{check}
use Rattle.image.proofs.Each.{lt_or_le, each_at, each_all}
use Rattle.image.proofs.Marks.{contains_none}
use Rattle.image.proofs.Sound.{Sound, check_sound, list_listed}
use Rattle.image.proofs.Blanks.{blank_zero, blank_holder, blank_author, blank_sound}
use Rattle.intake.specs.Take.{author_at, taken_in}
use Rattle.intake.proofs.Taken.{length_taken, taken_apart, taken_beyond, taken_holder, taken_readers, taken_writers, taken_author}
use Rattle.intake.proofs.Taken.{taken_author_serial, taken_serial, taken_state, taken_stamp}

-- a test of more items says the same where the items that are more pass
each_agree : (p q : ℕ → Bool) (n k : ℕ) → n ≤ k → ((i : ℕ) → i < n → q i ≡ p i) → ((i : ℕ) → n ≤ i → i < k → q i ≡ true) → each k q ≡ each n p
each_agree p q n k le same more =
    same_test (each k q) (each n p) (λ t. each_all p n (λ i h. subst T (same i h) (each_at q k t i (omega arith))))
    (λ t. each_all q k (λ i h. ⊎_elim (λ (a : i < n). subst T (sym (same i a)) (each_at p n t i a))
    (λ a. subst T (sym (more i a h)) tt) (lt_or_le i n)))

-- a copy without an author gets one that is in order
author_by : (b : Bool) (a n version : ℕ) → author_ok (cond b a (author_at version)) (cond b n 0) ≡ (not b || author_ok a n)
author_by true a n version = refl
author_by false a n zero = refl
author_by false a n (suc version) = simp (eqb-suc-zero version)

each_unless : (b : Bool) (n : ℕ) (p : ℕ → Bool) → each n (λ i. not b || p i) ≡ (not b || each n p)
each_unless true n p = refl
each_unless false n p = T_true (each n (λ i. true)) (each_all (λ i. true) n (λ i h. tt))

-- nobody is listed in 0
none_listed : (states : ℕ → ℕ) → listed_ok states 0 ≡ true
none_listed states = T_true (listed_ok states 0) (list_listed states 0 (λ o c. absurd (subst T (contains_none o) c)))

module _ (s : Shape) (l : List ℕ) (room : s.objects ≤ shape.objects) (bytes : Bytes l) where
  abbrev new : List ℕ
  new = taken_in s l

  -- of an object that the older image does not have
  beyond_holder : (t : ℕ) → s.objects ≤ t → t < shape.objects → holder new t ≡ nobody
  beyond_holder t h k = taken_beyond s l (holder_field shape) t tt tt h ∙ blank_holder t k

  beyond_author : (t : ℕ) → s.objects ≤ t → t < shape.objects → author new t ≡ nobody
  beyond_author t h k = taken_beyond s l (author_field shape) t tt tt h ∙ blank_author t k

  beyond_serial : (t : ℕ) → s.objects ≤ t → author_serial new t ≡ 0
  beyond_serial t h = taken_beyond s l (author_serial_field shape) t tt tt h ∙ blank_zero (author_serial_field shape) t tt tt tt tt

  beyond_readers : (t : ℕ) → s.objects ≤ t → readers new t ≡ 0
  beyond_readers t h = taken_beyond s l (readers_field shape) t tt tt h ∙ blank_zero (readers_field shape) t tt tt tt tt

  beyond_writers : (t : ℕ) → s.objects ≤ t → writers new t ≡ 0
  beyond_writers t h = taken_beyond s l (writers_field shape) t tt tt h ∙ blank_zero (writers_field shape) t tt tt tt tt

  -- ---- the clauses
  counts : counts_ok shape new ≡ true
  counts =
      let c = blank_sound.clauses in
      rw (taken_apart s l object_count 0 tt tt, taken_apart s l (owner_count shape) 0 tt tt, c.objects_counted, c.owners_counted)

  states : state new ≡ field_of (state_field s) l
  states i o = taken_state s l room bytes o i

  state_clause : each nodes (λ o. state_ok (state new o)) ≡ each nodes (λ o. state_ok (field_of (state_field s) l o))
  state_clause = ap (λ (f : ℕ → ℕ). each nodes (λ o. state_ok (f o))) states

  name_clause : each nodes (λ o. serial_ok (serial new o) (state new o) (stamp new o))
      ≡ each nodes (λ o. serial_ok (field_of (serial_field s) l o) (field_of (state_field s) l o) (field_of (stamp_field s) l o))
  name_clause i =
      each nodes (λ o. serial_ok (taken_serial s l room bytes o i) (taken_state s l room bytes o i) (taken_stamp s l room bytes o i))

  holder_clause : each shape.objects (λ t. holder_ok (holder new t)) ≡ each s.objects (λ t. holder_ok (field_of (holder_field s) l t))
  holder_clause =
      each_agree (λ t. holder_ok (field_of (holder_field s) l t)) (λ t. holder_ok (holder new t)) s.objects shape.objects room
      (λ t h. ap holder_ok (taken_holder s l room bytes t h))
      (λ t h k. ap holder_ok (beyond_holder t h k))

  held_clause : each shape.objects (λ t. held_ok (state new) (holder new t))
      ≡ each s.objects (λ t. held_ok (field_of (state_field s) l) (field_of (holder_field s) l t))
  held_clause =
      each_agree (λ t. held_ok (field_of (state_field s) l) (field_of (holder_field s) l t)) (λ t. held_ok (state new) (holder new t)) s.objects shape.objects
      room (λ t h. ap₂ held_ok states (taken_holder s l room bytes t h))
      (λ t h k. ap (held_ok (state new)) (beyond_holder t h k))

  -- a test of both lists, which an empty list passes
  lists_clause : (p q : ℕ → Bool) → ((m : ℕ) → p m ≡ q m) → p 0 ≡ true
      → each shape.objects (λ t. p (readers new t) && p (writers new t))
      ≡ each s.objects (λ t. q (field_of (readers_field s) l t) && q (field_of (writers_field s) l t))
  lists_clause p q e none =
      each_agree (λ t. q (field_of (readers_field s) l t) && q (field_of (writers_field s) l t)) (λ t. p (readers new t) && p (writers new t))
      s.objects shape.objects room
      (λ t h. ap₂ ◌&&◌ (ap p (taken_readers s l room bytes t h) ∙ e (field_of (readers_field s) l t))
      (ap p (taken_writers s l room bytes t h) ∙ e (field_of (writers_field s) l t)))
      (λ t h k. ap₂ ◌&&◌ (ap p (beyond_readers t h) ∙ none) (ap p (beyond_writers t h) ∙ none))

  author_clause : authors_ok shape new ≡ authors_ok s l
  author_clause =
      each_agree (λ t. not (has_author s) || author_ok (field_of (author_field s) l t) (field_of (author_serial_field s) l t))
      (λ t. author_ok (author new t) (author_serial new t)) s.objects shape.objects room
      (λ t h. ap₂ author_ok (taken_author s l room bytes t h) (taken_author_serial s l room bytes t h)
      ∙ author_by (has_author s) (field_of (author_field s) l t) (field_of (author_serial_field s) l t) (field_of (version_field s) l t))
      (λ t h k. ap₂ author_ok (beyond_author t h k) (beyond_serial t h))
      ∙ each_unless (has_author s) s.objects (λ t. author_ok (field_of (author_field s) l t) (field_of (author_serial_field s) l t))

  -- all of them
  pub taken_valid : valid s l ≡ (counts_ok s l && valid shape (taken_in s l))
  unfolding valid formed
  taken_valid =
      rw (
        counts,
        holder_clause,
        state_clause,
        lists_clause mask_ok mask_ok (λ m. refl) refl,
        name_clause,
        held_clause,
        lists_clause (listed_ok (state new)) (listed_ok (field_of (state_field s) l)) (λ m i. listed_ok (states i) m) (none_listed (state new)),
        author_clause,
      ) (by (counts_ok s l) _ _ _ _ _ _ _)
    where
      by : (c d e f g h i j : Bool) → (c && d && e && f && g && h && i && j) ≡ (c && (true && d && e && f && g && h && i && j))
      by true d e f g h i j = refl
      by false d e f g h i j = refl

  -- what is taken in of a valid image is sound
  pub taken_check : valid s l ≡ true → check (taken_in s l) ≡ 0
  unfolding check_as
  taken_check v =
      simp (eq-eqb (length (taken_in s l)) (image_size shape) (length_taken s l), by (counts_ok s l) (valid shape (taken_in s l)) (sym taken_valid ∙ v))
    where
      by : (a b : Bool) → (a && b) ≡ true → b ≡ true
      by true b e = e
      by false true e = refl
      by false false e = e

  pub taken_sound : valid s l ≡ true → Sound (taken_in s l)
  taken_sound v = check_sound (taken_in s l) (taken_check v)

-- the check of bytes of today's length says whether they are valid
pub check_says : (l : List ℕ) → length l ≡ image_size shape → eqb (check l) 0 ≡ valid shape l
unfolding check_as
check_says l e = simp (eq-eqb (length l) (image_size shape) e) (by (valid shape l))
  where
    by : (b : Bool) → eqb (cond (not b) 2 0) 0 ≡ b
    by true = refl
    by false = refl
