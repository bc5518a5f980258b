-- A field of numbered items that lie one after the other in bytes: one definition of reading it, one of writing it.
use Rattle.std.specs.Prelude.{cond, List, ℕ, zero, suc, ◌+◌, ◌*◌, ◌<◌, ltb, length}
use Rattle.octets.specs.Octets.{get, put}
use Rattle.image.specs.declared.Field.{Field}

-- What a field is (the struct Field): `items` items of `stride` bytes each from byte `base` on; in each the `width` bytes from byte `offset` on.

-- where item i's field starts in n bytes; an item that is not there stands past their end, where reading gives 0 and writing does nothing
abbrev pub place : Field → ℕ → ℕ → ℕ
place f n i = cond (ltb i f.items) (f.base + f.stride * i + f.offset) n

-- the field of item i
unfoldable pub field_of : Field → List ℕ → ℕ → ℕ
field_of f l i = get f.width l (place f (length l) i)

-- the bytes with v as the field of item i
unfoldable pub with_field : Field → List ℕ → ℕ → ℕ → List ℕ
with_field f l i v = put f.width l (place f (length l) i) v

-- the field of item i becomes g of what it was
abbrev pub changed : Field → (ℕ → ℕ) → List ℕ → ℕ → List ℕ
changed f g l i = with_field f l i (g (field_of f l i))

-- the same for each of the first n items
unfoldable pub changed_all : Field → (ℕ → ℕ) → ℕ → List ℕ → List ℕ
changed_all f g zero l = l
changed_all f g (suc n) l = changed f g (changed_all f g n l) n

-- the places of a field are small numbers, whatever byte is an item's number: what the functions over a field ask, and every field here meets
abbrev pub Near : Field → Type 0
Near f = f.base + f.stride * 256 + f.offset < 65536
