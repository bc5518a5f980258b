-- Document 02, 2.6: an image is read "as in 2.5 first". Taken in step by step, to a shape between and then to a later one, it is the same as at once. The
-- copies that the first step adds are blank, and so are those of the last shape.
use mathlib.Core.Path.{◌≡◌, refl, sym, ap, ◌∙◌}
use mathlib.Core.Bool.{cond}
use mathlib.Core.List.{List}
use mathlib.Core.Logic.{◌⊎◌, inl, inr}
use Prim.Native.Nat.{ℕ, zero, suc, ◌<◌, ◌≤◌}
use native.Mathlib.Omega.{arith}
use Rattle.numbers.specs.Sizes.{nodes, nobody}
use Rattle.octets.proofs.Laws.{Bytes}
use Rattle.image.specs.declared.Copy.{Copy}
use Rattle.image.specs.declared.Field.{Field}
use Rattle.image.specs.declared.Owner.{Owner}
use Rattle.image.specs.Field.{field_of}
use Rattle.image.specs.Layout.{Shape, shape, shape1527, shape1207, has_author, value_field, version_field, holder_field, readers_field, writers_field}
use Rattle.image.specs.Layout.{author_field, author_serial_field}
use Rattle.image.specs.Blank.{blank_as}
use Rattle.image.proofs.Each.{lt_or_le}
use Rattle.intake.specs.Take.{author_at, copy_as, owner_as, with_copy_as, with_copies_as, with_owners_as, taken_into, taken_in}
use Rattle.intake.proofs.Columns.{with_item, all_apart, every_at, In, items_beyond, bytes_items, item_same}
use Rattle.image.proofs.Blanks.{bytes_blank_as}
use Rattle.intake.proofs.Marks.{marks, unmarked_zero, holder_nobody, author_nobody}
use Rattle.intake.proofs.Into.{Later, later, copy_fields, zero_fields, copy_columns, copies_columns, copy_fits_lem, into_beyond}
use Rattle.intake.proofs.Into.{into_value, into_version, into_holder, into_readers, into_writers, into_author, into_author_serial}
use Rattle.intake.proofs.Into.{into_serial, into_state, into_stamp}

-- a copy of the blank image
abbrev blank_copy : Copy
blank_copy = record { value = 0; version = 0; holder = nobody; readers = 0; writers = 0; author = nobody; serial = 0 }

-- ---- a later shape's own blank image, and bytes m that are blank at object t
module _ (w : Shape) (ok : Later w) (m : List ℕ) (t : ℕ) (k : t < w.objects)
    (as-blank : (f : Field) → In f (copy_fields w) → field_of f m t ≡ field_of f (blank_as w) t) where
  zero_there : (f : Field) → In f (copy_fields w) → In f (zero_fields w) → field_of f m t ≡ 0
  zero_there f i z = as-blank f i ∙ unmarked_zero w f t (every_at (all_apart (marks w)) (zero_fields w) f ok.zeros_apart z)

  value_there : field_of (value_field w) m t ≡ 0
  value_there = zero_there (value_field w) (inl refl) (inl refl)

  version_there : field_of (version_field w) m t ≡ 0
  version_there = zero_there (version_field w) (inr (inl refl)) (inr (inl refl))

  holder_there : field_of (holder_field w) m t ≡ nobody
  holder_there =
      let i : In (holder_field w) (copy_fields w) = inr (inr (inl refl)) in
      let p = copy_fits_lem w ok (holder_field w) i in
      as-blank (holder_field w) i ∙ holder_nobody w t k ok.marks_apart p.within p.held

  readers_there : field_of (readers_field w) m t ≡ 0
  readers_there = zero_there (readers_field w) (inr (inr (inr (inl refl)))) (inr (inr (inl refl)))

  writers_there : field_of (writers_field w) m t ≡ 0
  writers_there = zero_there (writers_field w) (inr (inr (inr (inr (inl refl))))) (inr (inr (inr (inl refl))))

  author_there : field_of (author_field w) m t ≡ nobody
  author_there =
      let i : In (author_field w) (copy_fields w) = inr (inr (inr (inr (inr (inl refl))))) in
      let p = copy_fits_lem w ok (author_field w) i in
      as-blank (author_field w) i ∙ author_nobody w t k ok.has_author_lem p.within p.held

  author_serial_there : field_of (author_serial_field w) m t ≡ 0
  author_serial_there = zero_there (author_serial_field w) (inr (inr (inr (inr (inr (inr (inl refl))))))) (inr (inr (inr (inr (inl refl)))))

  -- its copy is blank, and a blank copy changes nothing there
  blank_there : copy_as w m t ≡ blank_copy
  unfolding copy_as
  blank_there =
      let h = ok.has_author_lem in
      let a : cond (has_author w) (field_of (author_field w) m t) (author_at (field_of (version_field w) m t)) ≡ nobody = rw h author_there in
      let n : cond (has_author w) (field_of (author_serial_field w) m t) 0 ≡ 0 = rw h author_serial_there in
      λ i. record {
        value = value_there i;
        version = version_there i;
        holder = holder_there i;
        readers = readers_there i;
        writers = writers_there i;
        author = a i;
        serial = n i;
      }

  unchanged : Bytes m → with_copy_as w m t blank_copy ≡ m
  unfolding with_item
  unchanged b =
      item_same (copy_columns w (λ i. blank_copy)) m t b (
        sym value_there,
        (
          sym version_there,
          (sym holder_there, (sym readers_there, (sym writers_there, (sym author_there, (sym author_serial_there, tt))))),
        ),
      )

-- ---- copies that are the same, and copies that are blank
module _ (w : Shape) where
  copies_same : (f g : ℕ → Copy) (n : ℕ) (l : List ℕ) → ((t : ℕ) → t < n → f t ≡ g t) → with_copies_as w f n l ≡ with_copies_as w g n l
  unfolding with_copies_as
  copies_same f g zero l e = refl
  copies_same f g (suc n) l e =
      ap (λ (m : List ℕ). with_copy_as w m n (f n)) (copies_same f g n l (λ t h. e t (omega arith)))
      ∙ ap (with_copy_as w (with_copies_as w g n l) n) (e n (omega arith))

  copies_blank : Later w → (f : ℕ → Copy) (n k : ℕ) → n ≤ k → k ≤ w.objects → ((t : ℕ) → n ≤ t → t < k → f t ≡ blank_copy)
      → with_copies_as w f k (blank_as w) ≡ with_copies_as w f n (blank_as w)
  unfolding with_copies_as
  copies_blank ok f n zero h r e = ap (λ (i : ℕ). with_copies_as w f i (blank_as w)) (let z : 0 ≡ n = omega arith in z)
  copies_blank ok f n (suc k) h r e = by (lt_or_le k n) (copies_blank ok f n k)
    where
      by : (k < n) ⊎ (n ≤ k)
          → (n ≤ k → k ≤ w.objects → ((t : ℕ) → n ≤ t → t < k → f t ≡ blank_copy) → with_copies_as w f k (blank_as w) ≡ with_copies_as w f n (blank_as w))
          → with_copies_as w f (suc k) (blank_as w) ≡ with_copies_as w f n (blank_as w)
      by (inl p) later = ap (λ (i : ℕ). with_copies_as w f i (blank_as w)) (let z : suc k ≡ n = omega arith in z)
      by (inr p) later =
          let m = with_copies_as w f n (blank_as w) in
          let c = copies_columns w f n (blank_as w) in
          let bytes : Bytes m = rw c (bytes_items (copy_columns w f) n (blank_as w) (bytes_blank_as w)) in
          ap (λ (x : List ℕ). with_copy_as w x k (f k)) (later p (omega arith) (λ t q s. e t q (omega arith))) ∙ ap (with_copy_as w m k) (e k p (omega arith))
          ∙ unchanged w ok m k (omega arith)
          (λ g i. ap (λ (x : List ℕ). field_of g x k) c ∙ items_beyond (copy_columns w f) g n (blank_as w) k (copy_fits_lem w ok g i).among p) bytes

-- ---- from a to b and then to c, or at once
module _ (c b a : Shape) (l : List ℕ) (to-c : Later c) (to-b : Later b) (more : a.objects ≤ b.objects) (room : b.objects ≤ c.objects)
    (bytes : Bytes l) where
  abbrev between : List ℕ
  between = taken_into b a l

  owners_through : owner_as b between ≡ owner_as a l
  unfolding owner_as
  owners_through i o =
      record {
        serial = into_serial b a l to-b more bytes o i;
        state = into_state b a l to-b more bytes o i;
        stamp = into_stamp b a l to-b more bytes o i;
      }

  copy_through : (t : ℕ) → t < a.objects → copy_as b between t ≡ copy_as a l t
  unfolding copy_as
  copy_through t h =
      let e = to-b.has_author_lem in
      let u : cond (has_author b) (field_of (author_field b) between t) (author_at (field_of (version_field b) between t)) ≡
      cond (has_author a) (field_of (author_field a) l t) (author_at (field_of (version_field a) l t)) = rw e (into_author b a l to-b more bytes t h) in
      let n : cond (has_author b) (field_of (author_serial_field b) between t) 0 ≡ cond (has_author a) (field_of (author_serial_field a) l t) 0 =
      rw e (into_author_serial b a l to-b more bytes t h) in
      λ i. record {
        value = into_value b a l to-b more bytes t h i;
        version = into_version b a l to-b more bytes t h i;
        holder = into_holder b a l to-b more bytes t h i;
        readers = into_readers b a l to-b more bytes t h i;
        writers = into_writers b a l to-b more bytes t h i;
        author = u i;
        serial = n i;
      }

  copy_added : (t : ℕ) → a.objects ≤ t → t < b.objects → copy_as b between t ≡ blank_copy
  copy_added t h k =
      blank_there b to-b between t k
      (λ f i. let p = copy_fits_lem b to-b f i in into_beyond b a l f t p.among p.beside h)

  pub into_twice : taken_into c b (taken_into b a l) ≡ taken_into c a l
  unfolding taken_into
  into_twice =
      ap (λ (f : ℕ → Owner). with_owners_as c f nodes (with_copies_as c (copy_as b between) b.objects (blank_as c))) owners_through
      ∙ ap (with_owners_as c (owner_as a l) nodes)
      (copies_blank c to-c (copy_as b between) a.objects b.objects more room copy_added
      ∙ copies_same c (copy_as b between) (copy_as a l) a.objects (blank_as c) copy_through)

-- to today's shape, whatever it is
pub taken_twice : (b a : Shape) (l : List ℕ) → Later b → a.objects ≤ b.objects → b.objects ≤ shape.objects → Bytes l
    → taken_in b (taken_into b a l) ≡ taken_in a l
taken_twice b a l to-b more room bytes = into_twice shape b a l (later shape tt) to-b more room bytes

-- 1,207 bytes to 1,527 as in 2.5 and then to today's, or at once
pub taken1207 : (l : List ℕ) → Bytes l → taken_in shape1527 (taken_into shape1527 shape1207 l) ≡ taken_in shape1207 l
taken1207 l bytes = taken_twice shape1527 shape1207 l (later shape1527 tt) (omega arith) (omega arith) bytes
