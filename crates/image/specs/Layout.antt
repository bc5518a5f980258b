-- Document 01, 'Message and image': a count and the objects' copies (value 8, version 4, holder 1, readers 2, writers 2; by document 02, 2.5, then the
-- author, who wrote last: owner 1, serial 4), then count 13 and the owners (last serial 4, state 1, stamp 4). An image has a shape, the number of objects
-- and the width of a copy; an older one has fewer fields in a copy, and more may follow.
use Rattle.std.specs.Prelude.{Bool, List, ℕ, ◌+◌, ◌*◌, ltb}
use Rattle.numbers.specs.Sizes.{nodes, objects}
use Rattle.image.specs.Field.{field_of}
use Rattle.image.specs.declared.Copy.{Copy}
use Rattle.image.specs.declared.Field.{Field}
use Rattle.image.specs.declared.Owner.{Owner}

pub record Shape : Type 0 where
  pub objects : ℕ
  pub copy_size : ℕ

-- the shape of the images here: 128 objects (document 02, 2.6: tallies), 22 bytes each; the one of 64 objects; and the one before authors were kept
abbrev pub shape : Shape
shape = record { objects = objects; copy_size = 22 }

abbrev pub shape1527 : Shape
shape1527 = record { objects = 64; copy_size = 22 }

abbrev pub shape1207 : Shape
shape1207 = record { objects = 64; copy_size = 17 }

-- copies of a shape have their author
abbrev pub has_author : Shape → Bool
has_author s = ltb 17 s.copy_size

-- ---- sizes in bytes; an owner is a node (document 01: controller)
abbrev pub count_size : ℕ
count_size = 1

abbrev pub owner_size : ℕ
owner_size = 9

-- where the first copy, the second count and the first owner stand
abbrev pub copies_place : ℕ
copies_place = count_size

abbrev pub owner_count_place : Shape → ℕ
owner_count_place s = copies_place + s.copy_size * s.objects

abbrev pub owners_place : Shape → ℕ
owners_place s = owner_count_place s + count_size

abbrev pub image_size : Shape → ℕ
image_size s = owners_place s + owner_size * nodes

-- ---- the fields
-- a field of a copy, and one of an owner
abbrev pub copy_field : Shape → ℕ → ℕ → Field
copy_field s offset width = record { items = s.objects; base = copies_place; stride = s.copy_size; offset = offset; width = width }

abbrev pub owner_field : Shape → ℕ → ℕ → Field
owner_field s offset width = record { items = nodes; base = owners_place s; stride = owner_size; offset = offset; width = width }

-- a count, the one item of its kind
abbrev pub count_field : ℕ → Field
count_field place = record { items = 1; base = place; stride = count_size; offset = 0; width = count_size }

abbrev pub object_count : Field
object_count = count_field 0

abbrev pub value_field : Shape → Field
value_field s = copy_field s 0 8

abbrev pub version_field : Shape → Field
version_field s = copy_field s 8 4

abbrev pub holder_field : Shape → Field
holder_field s = copy_field s 12 1

abbrev pub readers_field : Shape → Field
readers_field s = copy_field s 13 2

abbrev pub writers_field : Shape → Field
writers_field s = copy_field s 15 2

abbrev pub author_field : Shape → Field
author_field s = copy_field s 17 1

abbrev pub author_serial_field : Shape → Field
author_serial_field s = copy_field s 18 4

abbrev pub owner_count : Shape → Field
owner_count s = count_field (owner_count_place s)

abbrev pub serial_field : Shape → Field
serial_field s = owner_field s 0 4

abbrev pub state_field : Shape → Field
state_field s = owner_field s 4 1

abbrev pub stamp_field : Shape → Field
stamp_field s = owner_field s 5 4

-- ---- the fields of object t and of owner o
abbrev pub value : List ℕ → ℕ → ℕ
value l t = field_of (value_field shape) l t

abbrev pub version : List ℕ → ℕ → ℕ
version l t = field_of (version_field shape) l t

abbrev pub holder : List ℕ → ℕ → ℕ
holder l t = field_of (holder_field shape) l t

abbrev pub readers : List ℕ → ℕ → ℕ
readers l t = field_of (readers_field shape) l t

abbrev pub writers : List ℕ → ℕ → ℕ
writers l t = field_of (writers_field shape) l t

-- the author: the owner of the transaction that wrote the copy last, and its serial
abbrev pub author : List ℕ → ℕ → ℕ
author l t = field_of (author_field shape) l t

abbrev pub author_serial : List ℕ → ℕ → ℕ
author_serial l t = field_of (author_serial_field shape) l t

abbrev pub serial : List ℕ → ℕ → ℕ
serial l o = field_of (serial_field shape) l o

abbrev pub state : List ℕ → ℕ → ℕ
state l o = field_of (state_field shape) l o

abbrev pub stamp : List ℕ → ℕ → ℕ
stamp l o = field_of (stamp_field shape) l o

-- ---- all fields at once; zeros for an object or an owner that is not there
unfoldable pub copy_of : List ℕ → ℕ → Copy
copy_of l t =
    record {
      value = value l t;
      version = version l t;
      holder = holder l t;
      readers = readers l t;
      writers = writers l t;
      author = author l t;
      serial = author_serial l t;
    }

unfoldable pub owner_of : List ℕ → ℕ → Owner
owner_of l o = record { serial = serial l o; state = state l o; stamp = stamp l o }
