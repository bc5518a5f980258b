-- The fields of a blank image that are not 0, as one list to test another field against; and what the blank image has in them.
use mathlib.Core.Path.{◌≡◌}
use mathlib.Core.Bool.{not, true}
use mathlib.Core.List.{List, [], ◌∷◌}
use Prim.Native.Nat.{ℕ, ◌<◌, ◌≤◌}
use lib.Dec.{T, le→leb}
use Rattle.mask.proofs.Tests.{and_left, and_right, or_right}
use Rattle.numbers.specs.Sizes.{nobody}
use Rattle.image.specs.declared.Field.{Field}
use Rattle.image.specs.Field.{field_of}
use Rattle.image.specs.Layout.{Shape, has_author, image_size, object_count, owner_count, holder_field, author_field}
use Rattle.image.specs.Blank.{blank_as}
use Rattle.image.proofs.Lens.{inside, apart, ends}
use Rattle.image.proofs.Blanks.{blank_zero_as, blank_holder_as, blank_author_as}
use Rattle.intake.proofs.Columns.{all_apart}

abbrev pub marks : Shape → List Field
marks w = author_field w ∷ holder_field w ∷ owner_count w ∷ object_count ∷ []

module _ (w : Shape) where
  unsigned : (g : Field) → T (apart (author_field w) g) → T (Rattle.image.proofs.Blanks.unsigned w g)
  unsigned g t = or_right (not (has_author w)) (apart (author_field w) g) t

  pub unmarked_zero : (g : Field) (i : ℕ) → T (all_apart (marks w) g) → field_of g (blank_as w) i ≡ 0
  unmarked_zero g i t =
      let h = holder_field w in
      let o = owner_count w in
      let a = apart (author_field w) g in
      let t1 = and_right a (all_apart (h ∷ o ∷ object_count ∷ []) g) t in
      let t2 = and_right (apart h g) (all_apart (o ∷ object_count ∷ []) g) t1 in
      let t3 = and_right (apart o g) (all_apart (object_count ∷ []) g) t2 in
      blank_zero_as w g i (unsigned g (and_left a (all_apart (h ∷ o ∷ object_count ∷ []) g) t))
      (and_left (apart h g) (all_apart (o ∷ object_count ∷ []) g) t1) (and_left (apart o g) (all_apart (object_count ∷ []) g) t2)
      (and_left (apart object_count g) (all_apart [] g) t3)

  module _ (t : ℕ) (k : t < w.objects) where
    pub holder_nobody : T (apart (author_field w) (holder_field w)) → T (inside (holder_field w)) → ends (holder_field w) ≤ image_size w
        → field_of (holder_field w) (blank_as w) t ≡ nobody
    holder_nobody a i e = blank_holder_as w t (unsigned (holder_field w) a) i (le→leb (ends (holder_field w)) (image_size w) e) k

    pub author_nobody : has_author w ≡ true → T (inside (author_field w)) → ends (author_field w) ≤ image_size w
        → field_of (author_field w) (blank_as w) t ≡ nobody
    author_nobody has i e = blank_author_as w t has i (le→leb (ends (author_field w)) (image_size w) e) k
