-- What a replica changes in an image. An object or an owner that is not there changes nothing.
use Rattle.std.specs.Prelude.{cond, List, ℕ, eqb}
use Rattle.numbers.specs.Sizes.{nobody}
use Rattle.mask.specs.Mask.{only, joined, minus}
use Rattle.image.specs.declared.Field.{Field}
use Rattle.image.specs.Field.{with_field, changed, changed_all}
use Rattle.image.specs.Layout.{shape, value_field, version_field, holder_field, readers_field, writers_field, author_field, author_serial_field}
use Rattle.image.specs.Layout.{serial_field, state_field, stamp_field}

-- ---- one field of object t, or of owner o
abbrev pub with_value : List ℕ → ℕ → ℕ → List ℕ
with_value l t v = with_field (value_field shape) l t v

abbrev pub with_version : List ℕ → ℕ → ℕ → List ℕ
with_version l t v = with_field (version_field shape) l t v

abbrev pub with_holder : List ℕ → ℕ → ℕ → List ℕ
with_holder l t h = with_field (holder_field shape) l t h

abbrev pub with_readers : List ℕ → ℕ → ℕ → List ℕ
with_readers l t m = with_field (readers_field shape) l t m

abbrev pub with_writers : List ℕ → ℕ → ℕ → List ℕ
with_writers l t m = with_field (writers_field shape) l t m

-- the author: owner o's transaction n
abbrev pub with_author : List ℕ → ℕ → ℕ → ℕ → List ℕ
with_author l t o n = with_field (author_serial_field shape) (with_field (author_field shape) l t o) t n

abbrev pub with_serial : List ℕ → ℕ → ℕ → List ℕ
with_serial l o n = with_field (serial_field shape) l o n

abbrev pub with_state : List ℕ → ℕ → ℕ → List ℕ
with_state l o n = with_field (state_field shape) l o n

abbrev pub with_stamp : List ℕ → ℕ → ℕ → List ℕ
with_stamp l o n = with_field (stamp_field shape) l o n

-- owner o's serial, state and stamp
abbrev pub with_owner : List ℕ → ℕ → ℕ → ℕ → ℕ → List ℕ
with_owner l o serial state stamp = with_stamp (with_state (with_serial l o serial) o state) o stamp

-- ---- the lists of object t: owner o joins its readers, or its writers
abbrev pub listing : ℕ → ℕ → ℕ
listing o m = joined m (only o)

abbrev pub add_reader : List ℕ → ℕ → ℕ → List ℕ
add_reader l t o = changed (readers_field shape) (listing o) l t

abbrev pub add_writer : List ℕ → ℕ → ℕ → List ℕ
add_writer l t o = changed (writers_field shape) (listing o) l t

-- ---- every copy: what owner o holds becomes free, and o leaves all readers and writers
abbrev pub freeing : ℕ → ℕ → ℕ
freeing o h = cond (eqb h o) nobody h

abbrev pub leaving : ℕ → ℕ → ℕ
leaving o m = minus m (only o)

unfoldable pub free : List ℕ → ℕ → List ℕ
free l o = changed_all (holder_field shape) (freeing o) shape.objects l

-- o leaves one list, of all objects
unfoldable pub leave : Field → List ℕ → ℕ → List ℕ
leave f l o = changed_all f (leaving o) f.items l

unfoldable pub unlist : List ℕ → ℕ → List ℕ
unlist l o = leave (writers_field shape) (leave (readers_field shape) l o) o
