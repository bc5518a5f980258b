-- The newest copy of an object over the thirteen images, the nodes that have it, and its author.
use Rattle.std.specs.Prelude.{cond, List, ℕ, zero, suc, eqb, ltb, length}
use Rattle.numbers.specs.Sizes.{nodes, nobody}
use Rattle.mask.specs.Mask.{only, joined}
use Rattle.image.specs.Layout.{version, value, author, author_serial}
use Rattle.buffers.specs.Buffers.{images_size, image_at}
use Rattle.closing.specs.declared.Best.{Best}

-- no copy, and node n's own copy of object t
abbrev pub no_copy : Best
no_copy = record { version = 0; value = 0; nodes = 0; author = nobody; serial = 0 }

unfoldable pub copy_at : List ℕ → ℕ → ℕ → Best
copy_at images t n =
    record {
      version = version (image_at images n) t;
      value = value (image_at images n) t;
      nodes = only n;
      author = author (image_at images n) t;
      serial = author_serial (image_at images n) t;
    }

-- a copy with other nodes
abbrev pub with_nodes : Best → ℕ → Best
with_nodes a m = record { version = a.version; value = a.value; nodes = m; author = a.author; serial = a.serial }

-- of two copies the newer; of two as new the first, with the nodes of both
unfoldable pub newer_of : Best → Best → Best
newer_of a b =
    cond (ltb a.version b.version) b
    (cond (eqb b.version a.version) (with_nodes a (joined a.nodes b.nodes)) a)

-- the newest of the first n nodes
unfoldable pub newest_of : List ℕ → ℕ → ℕ → Best
newest_of images t zero = no_copy
newest_of images t (suc n) = newer_of (newest_of images t n) (copy_at images t n)

-- of all of them; none for images of another length
unfoldable pub newest : List ℕ → ℕ → Best
newest images t = cond (eqb (length images) images_size) (newest_of images t nodes) no_copy
