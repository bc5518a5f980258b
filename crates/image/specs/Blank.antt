-- The blank image: all zeros but the counts, the holders and the authors.
use Rattle.std.specs.Prelude.{cond, List, ℕ, eqb, length, replicate}
use Rattle.numbers.specs.Sizes.{nodes, nobody}
use Rattle.numbers.specs.Numbers.{wrong_length}
use Rattle.image.specs.Field.{with_field, changed_all}
use Rattle.image.specs.Layout.{Shape, shape, has_author, image_size, object_count, owner_count, holder_field, author_field}

-- l with the counts of a shape
unfoldable pub counted : Shape → List ℕ → List ℕ
counted s l = with_field (owner_count s) (with_field object_count l 0 s.objects) 0 nodes

-- l with every holder nobody
unfoldable pub unheld : Shape → List ℕ → List ℕ
unheld s l = changed_all (holder_field s) (λ h. nobody) s.objects l

-- l with every author nobody, where copies have one
unfoldable pub unwritten : Shape → List ℕ → List ℕ
unwritten s l = cond (has_author s) (changed_all (author_field s) (λ a. nobody) s.objects l) l

-- the blank image of a shape
unfoldable pub blank_as : Shape → List ℕ
blank_as s = unwritten s (unheld s (counted s (replicate (image_size s) 0)))

-- bytes made blank; those of another length are left alone, and the number is 1
unfoldable pub blank : List ℕ → List ℕ
blank l = cond (eqb (length l) (image_size shape)) (blank_as shape) l

unfoldable pub blank_number : List ℕ → ℕ
blank_number l = cond (eqb (length l) (image_size shape)) 0 wrong_length
