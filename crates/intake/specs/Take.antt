-- Document 02, 2.5 and 2.6: an image of an older length is written as one of today's. What its copies have is kept; the rest is as in the blank image.
-- An author that they do not have is nobody (255 and 0) at version 0, where none wrote, and unknown (254 and 0) above.
use Rattle.std.specs.Prelude.{Bool, false, true, cond, not, ◌||◌, List, [], ◌∷◌, ℕ, zero, suc, eqb, length}
use Rattle.std.proofs.Math.Option.{Option, none, some}
use Rattle.numbers.specs.Sizes.{nodes, nobody, unknown}
use Rattle.numbers.specs.Numbers.{wrong_length, damaged}
use Rattle.numbers.specs.Refusal.{Refusal, refuse, first_of}
use Rattle.image.specs.declared.Copy.{Copy}
use Rattle.image.specs.declared.Owner.{Owner}
use Rattle.image.specs.Field.{field_of, with_field}
use Rattle.image.specs.Layout.{Shape, shape, shape1527, shape1207, has_author, image_size, value_field, version_field, holder_field, readers_field}
use Rattle.image.specs.Layout.{writers_field, author_field, author_serial_field, serial_field, state_field, stamp_field}
use Rattle.image.specs.Valid.{valid}
use Rattle.image.specs.Blank.{blank_as}

-- ---- which lengths
-- the older shapes: of 64 objects, and of these without their authors
abbrev pub older_shapes : List Shape
older_shapes = shape1527 ∷ shape1207 ∷ []

-- the first of some shapes whose images have n bytes
abbrev pub shape_for : List Shape → ℕ → Option Shape
shape_for [] n = none
shape_for (s ∷ ss) n = cond (eqb n (image_size s)) (some s) (shape_for ss n)

-- the older shape of n bytes; today's is none
unfoldable pub older_of : ℕ → Option Shape
older_of n = shape_for older_shapes n

-- ---- what older bytes of a shape have
-- whom a copy without an author gets for one, by its version
abbrev pub author_at : ℕ → ℕ
author_at version = cond (eqb version 0) nobody unknown

-- object t's copy
unfoldable pub copy_as : Shape → List ℕ → ℕ → Copy
copy_as s l t =
    record {
      value = field_of (value_field s) l t;
      version = field_of (version_field s) l t;
      holder = field_of (holder_field s) l t;
      readers = field_of (readers_field s) l t;
      writers = field_of (writers_field s) l t;
      author = cond (has_author s) (field_of (author_field s) l t) (author_at (field_of (version_field s) l t));
      serial = cond (has_author s) (field_of (author_serial_field s) l t) 0;
    }

-- what is kept of owner o
unfoldable pub owner_as : Shape → List ℕ → ℕ → Owner
owner_as s l o = record { serial = field_of (serial_field s) l o; state = field_of (state_field s) l o; stamp = field_of (stamp_field s) l o }

-- ---- as an image of a later shape w, one with authors
-- l with c as the copy of object t, and with k as what is kept of owner o
abbrev pub with_copy_as : Shape → List ℕ → ℕ → Copy → List ℕ
with_copy_as w l t c =
    let value = with_field (value_field w) l t c.value in
    let version = with_field (version_field w) value t c.version in
    let holder = with_field (holder_field w) version t c.holder in
    let readers = with_field (readers_field w) holder t c.readers in
    let writers = with_field (writers_field w) readers t c.writers in
    let author = with_field (author_field w) writers t c.author in
    with_field (author_serial_field w) author t c.serial

abbrev pub with_kept_as : Shape → List ℕ → ℕ → Owner → List ℕ
with_kept_as w l o k = with_field (stamp_field w) (with_field (state_field w) (with_field (serial_field w) l o k.serial) o k.state) o k.stamp

-- l with the copies of the first n objects, and with the first n owners
unfoldable pub with_copies_as : Shape → (ℕ → Copy) → ℕ → List ℕ → List ℕ
with_copies_as w copies zero l = l
with_copies_as w copies (suc n) l = with_copy_as w (with_copies_as w copies n l) n (copies n)

unfoldable pub with_owners_as : Shape → (ℕ → Owner) → ℕ → List ℕ → List ℕ
with_owners_as w owners zero l = l
with_owners_as w owners (suc n) l = with_kept_as w (with_owners_as w owners n l) n (owners n)

-- older bytes of a shape s as an image of w: the blank one with every copy and every owner that they have
unfoldable pub taken_into : Shape → Shape → List ℕ → List ℕ
taken_into w s l = with_owners_as w (owner_as s l) nodes (with_copies_as w (copy_as s l) s.objects (blank_as w))

-- ---- as an image of today
abbrev pub with_copy : List ℕ → ℕ → Copy → List ℕ
with_copy l t c = with_copy_as shape l t c

abbrev pub with_kept : List ℕ → ℕ → Owner → List ℕ
with_kept l o k = with_kept_as shape l o k

abbrev pub with_copies : (ℕ → Copy) → ℕ → List ℕ → List ℕ
with_copies copies n l = with_copies_as shape copies n l

abbrev pub with_owners : (ℕ → Owner) → ℕ → List ℕ → List ℕ
with_owners owners n l = with_owners_as shape owners n l

abbrev pub taken_in : Shape → List ℕ → List ℕ
taken_in s l = taken_into shape s l

-- ---- the call
abbrev pub is_older : Option Shape → Bool
is_older none = false
is_older (some s) = true

abbrev pub was_valid : Option Shape → List ℕ → Bool
was_valid none old = false
was_valid (some s) old = valid s old

abbrev pub taken : Option Shape → List ℕ → List ℕ → List ℕ
taken none old image = image
taken (some s) old image = taken_in s old

-- 1: `old` has no older length, or `image` has not today's; 2: `old` is no valid image of its shape
unfoldable pub take_refusals : List ℕ → List ℕ → List Refusal
take_refusals old image =
    refuse wrong_length (not (is_older (older_of (length old))) || not (eqb (length image) (image_size shape)))
    ∷ refuse damaged (not (was_valid (older_of (length old)) old))
    ∷ []

unfoldable pub take_number : List ℕ → List ℕ → ℕ
take_number old image = first_of (take_refusals old image)

-- what `image` is afterwards; a refusal leaves it
unfoldable pub take_after : List ℕ → List ℕ → List ℕ
take_after old image = cond (eqb (take_number old image) 0) (taken (older_of (length old)) old image) image
