-- What an older image is once it is taken in to today's shape: the laws of Into there.
use mathlib.Core.Path.{◌≡◌, ap}
use mathlib.Core.Bool.{cond}
use mathlib.Core.List.{List}
use Prim.Native.Nat.{ℕ, ◌+◌, ◌<◌, ◌≤◌}
use native.Mathlib.Numerals.{add-one}
use lib.Dec.{T}
use lib.ListN.{length}
use Rattle.octets.proofs.Laws.{Bytes}
use Rattle.image.specs.declared.Copy.{Copy}
use Rattle.image.specs.declared.Field.{Field}
use Rattle.image.specs.declared.Owner.{Owner}
use Rattle.image.specs.Field.{field_of}
use Rattle.image.specs.Layout.{Shape, shape, has_author, image_size, value_field, version_field, holder_field, readers_field, writers_field}
use Rattle.image.specs.Layout.{author_field, author_serial_field, serial_field, state_field, stamp_field}
use Rattle.image.specs.Layout.{value, version, holder, readers, writers, author, author_serial, serial, state, stamp, copy_of}
use Rattle.image.specs.Blank.{blank_as}
use Rattle.image.proofs.Made.{made_copy}
use Rattle.intake.specs.Take.{author_at, with_copy, with_kept, with_copies, with_owners, with_copies_as, with_owners_as, taken_in}
use Rattle.intake.proofs.Columns.{all_apart, all_together}
use Rattle.intake.proofs.Into.{Later, later, copy_fields, owner_fields, length_into, bytes_into, into_apart, into_beyond}
use Rattle.intake.proofs.Into.{into_value, into_version, into_holder, into_readers, into_writers, into_author, into_author_serial}
use Rattle.intake.proofs.Into.{into_serial, into_state, into_stamp}

today : Later shape
today = later shape tt

-- one more, as a loop counts
pub copies_more : (copies : ℕ → Copy) (n : ℕ) (l : List ℕ) → with_copies copies (n + 1) l ≡ with_copy (with_copies copies n l) n (copies n)
unfolding with_copies_as
copies_more copies n l = ap (λ (k : ℕ). with_copies copies k l) (add-one n)

pub owners_more : (owners : ℕ → Owner) (n : ℕ) (l : List ℕ) → with_owners owners (n + 1) l ≡ with_kept (with_owners owners n l) n (owners n)
unfolding with_owners_as
owners_more owners n l = ap (λ (k : ℕ). with_owners owners k l) (add-one n)

module _ (s : Shape) (l : List ℕ) where
  pub length_taken : length (taken_in s l) ≡ image_size shape
  length_taken = length_into shape s l

  pub bytes_taken : Bytes (taken_in s l)
  bytes_taken = bytes_into shape s l

  -- a field apart from all of them is the blank image's, and so is one of an object that the older image does not have
  pub taken_apart : (g : Field) (i : ℕ) → T (all_apart (copy_fields shape) g) → T (all_apart (owner_fields shape) g)
      → field_of g (taken_in s l) i ≡ field_of g (blank_as shape) i
  taken_apart = into_apart shape s l

  pub taken_beyond : (g : Field) (t : ℕ) → T (all_together (copy_fields shape) g) → T (all_apart (owner_fields shape) g) → s.objects ≤ t
      → field_of g (taken_in s l) t ≡ field_of g (blank_as shape) t
  taken_beyond = into_beyond shape s l

  -- THEOREM. An object that the older image does not have is blank.
  pub taken_blank : (t : ℕ) → s.objects ≤ t → copy_of (taken_in s l) t ≡ copy_of (blank_as shape) t
  unfolding copy_of
  taken_blank t h =
      made_copy
      (taken_beyond (value_field shape) t tt tt h)
      (taken_beyond (version_field shape) t tt tt h)
      (taken_beyond (holder_field shape) t tt tt h)
      (taken_beyond (readers_field shape) t tt tt h)
      (taken_beyond (writers_field shape) t tt tt h)
      (taken_beyond (author_field shape) t tt tt h)
      (taken_beyond (author_serial_field shape) t tt tt h)

  module _ (room : s.objects ≤ shape.objects) (bytes : Bytes l) where
    module _ (t : ℕ) (h : t < s.objects) where
      pub taken_value : value (taken_in s l) t ≡ field_of (value_field s) l t
      taken_value = into_value shape s l today room bytes t h

      pub taken_version : version (taken_in s l) t ≡ field_of (version_field s) l t
      taken_version = into_version shape s l today room bytes t h

      pub taken_holder : holder (taken_in s l) t ≡ field_of (holder_field s) l t
      taken_holder = into_holder shape s l today room bytes t h

      pub taken_readers : readers (taken_in s l) t ≡ field_of (readers_field s) l t
      taken_readers = into_readers shape s l today room bytes t h

      pub taken_writers : writers (taken_in s l) t ≡ field_of (writers_field s) l t
      taken_writers = into_writers shape s l today room bytes t h

      -- the author as it was, or by the version
      pub taken_author : author (taken_in s l) t ≡ cond (has_author s) (field_of (author_field s) l t) (author_at (field_of (version_field s) l t))
      taken_author = into_author shape s l today room bytes t h

      pub taken_author_serial : author_serial (taken_in s l) t ≡ cond (has_author s) (field_of (author_serial_field s) l t) 0
      taken_author_serial = into_author_serial shape s l today room bytes t h

    module _ (o : ℕ) where
      pub taken_serial : serial (taken_in s l) o ≡ field_of (serial_field s) l o
      taken_serial = into_serial shape s l today room bytes o

      pub taken_state : state (taken_in s l) o ≡ field_of (state_field s) l o
      taken_state = into_state shape s l today room bytes o

      pub taken_stamp : stamp (taken_in s l) o ≡ field_of (stamp_field s) l o
      taken_stamp = into_stamp shape s l today room bytes o
