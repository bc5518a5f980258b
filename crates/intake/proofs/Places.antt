-- A field of an item that is there is what stands at its place, so the code reads an older image by places. By the definition of a field.
use mathlib.Core.Path.{◌≡◌, sym, ap, ◌∙◌}
use mathlib.Core.List.{List}
use Prim.Native.Nat.{ℕ, ◌+◌, ◌*◌, ◌<◌}
use lib.ListN.{get_or}
use borrow.Author.Tests.{lt-ltb}
use Rattle.octets.specs.Octets.{get}
use Rattle.image.specs.declared.Field.{Field}
use Rattle.image.specs.Field.{field_of}
use Rattle.image.proofs.Lens.{get_one}

module _ (f : Field) (l : List ℕ) (i : ℕ) (h : i < f.items) (p r : ℕ) (e : p ≡ f.base + f.stride * i + f.offset) where
  pub read_here : r ≡ get f.width l p → r ≡ field_of f l i
  unfolding field_of
  read_here g = simp (lt-ltb i f.items h) (g ∙ ap (get f.width l) e)

-- one byte
pub byte_here : (f : Field) (l : List ℕ) (i : ℕ) → i < f.items → (p r : ℕ) → p ≡ f.base + f.stride * i + f.offset → f.width ≡ 1
    → r ≡ get_or l p 0 → r ≡ field_of f l i
byte_here f l i h p r e w g = read_here f l i h p r e (g ∙ get_one l p ∙ ap (λ (k : ℕ). get k l p) (sym w))
