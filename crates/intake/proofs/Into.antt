-- What an older image is once it is taken in to a later shape w of no fewer objects: its length, bytes, each field as it was, the rest blank.
use mathlib.Core.Path.{◌≡◌, refl, sym, ap, ◌∙◌}
use mathlib.Core.Bool.{Bool, true, false, cond, ◌&&◌}
use mathlib.Core.List.{List, [], ◌∷◌}
use mathlib.Core.Logic.{inl, inr, ⊎_elim}
use Prim.Native.Nat.{ℕ, zero, suc, ◌^◌, ◌<◌, ◌≤◌}
use native.Mathlib.Omega.{arith}
use lib.Dec.{T, lit<, eqb, leb, leb→le}
use lib.ListN.{length}
use Rattle.mask.proofs.Tests.{T_true, and_left, and_right}
use Rattle.numbers.specs.Sizes.{nodes, nobody, unknown}
use Rattle.octets.proofs.Laws.{Bytes}
use Rattle.image.specs.declared.Copy.{Copy}
use Rattle.image.specs.declared.Field.{Field}
use Rattle.image.specs.declared.Owner.{Owner}
use Rattle.image.specs.Field.{field_of}
use Rattle.image.specs.Layout.{Shape, has_author, image_size, value_field, version_field, holder_field, readers_field, writers_field}
use Rattle.image.specs.Layout.{author_field, author_serial_field, serial_field, state_field, stamp_field}
use Rattle.image.specs.Blank.{blank_as}
use Rattle.image.proofs.Each.{lt_or_le}
use Rattle.image.proofs.Lens.{inside, apart, ends, of_out, of_small}
use Rattle.intake.specs.Take.{author_at, copy_as, owner_as, with_copy_as, with_kept_as, with_copies_as, with_owners_as, taken_into}
use Rattle.intake.proofs.Columns.{Column, column, with_item, with_items, all_apart, all_together, orderly, every, every_at, In, Has, has_field}
use Rattle.intake.proofs.Columns.{length_items, bytes_items, items_apart, items_beyond, items_here}
use Rattle.image.proofs.Blanks.{length_blank_as, bytes_blank_as}
use Rattle.intake.proofs.Marks.{marks}

-- ---- what is asked of the shape, each a closed test
abbrev pub copy_fields : Shape → List Field
copy_fields w =
    value_field w ∷ version_field w ∷ holder_field w ∷ readers_field w ∷ writers_field w ∷ author_field w ∷ author_serial_field w ∷ []

abbrev pub owner_fields : Shape → List Field
owner_fields w = serial_field w ∷ state_field w ∷ stamp_field w ∷ []

-- those that are 0 in the blank image
abbrev pub zero_fields : Shape → List Field
zero_fields w = value_field w ∷ version_field w ∷ readers_field w ∷ writers_field w ∷ author_serial_field w ∷ []

-- a field of the same items as fs, apart from gs, within n bytes
abbrev fitting : ℕ → List Field → List Field → Field → Bool
fitting n fs gs f = inside f && (all_together fs f && (all_apart gs f && leb (ends f) n))

-- copies have authors, no two fields share a byte, and all stand within the image
abbrev pub is_later : Shape → Bool
is_later w =
    has_author w
    && (orderly (copy_fields w)
    && (orderly (owner_fields w)
    && (every (fitting (image_size w) (copy_fields w) (owner_fields w)) (copy_fields w)
    && (every (fitting (image_size w) (owner_fields w) (copy_fields w)) (owner_fields w)
    && (every (all_apart (marks w)) (zero_fields w)
    && apart (author_field w) (holder_field w))))))

pub record Later (w : Shape) : Type 0 where
  pub has_author_lem : has_author w ≡ true
  pub copies_apart : T (orderly (copy_fields w))
  pub owners_apart : T (orderly (owner_fields w))
  pub copies_fit : T (every (fitting (image_size w) (copy_fields w) (owner_fields w)) (copy_fields w))
  pub owners_fit : T (every (fitting (image_size w) (owner_fields w) (copy_fields w)) (owner_fields w))
  pub zeros_apart : T (every (all_apart (marks w)) (zero_fields w))
  pub marks_apart : T (apart (author_field w) (holder_field w))

pub later : (w : Shape) → T (is_later w) → Later w
later w t =
    let b = orderly (copy_fields w) in
    let c = orderly (owner_fields w) in
    let d = every (fitting (image_size w) (copy_fields w) (owner_fields w)) (copy_fields w) in
    let e = every (fitting (image_size w) (owner_fields w) (copy_fields w)) (owner_fields w) in
    let f = every (all_apart (marks w)) (zero_fields w) in
    let g = apart (author_field w) (holder_field w) in
    let t1 = and_right (has_author w) (b && (c && (d && (e && (f && g))))) t in
    let t2 = and_right b (c && (d && (e && (f && g)))) t1 in
    let t3 = and_right c (d && (e && (f && g))) t2 in
    let t4 = and_right d (e && (f && g)) t3 in
    let t5 = and_right e (f && g) t4 in
    record {
      has_author_lem = T_true (has_author w) (and_left (has_author w) (b && (c && (d && (e && (f && g))))) t);
      copies_apart = and_left b (c && (d && (e && (f && g)))) t1;
      owners_apart = and_left c (d && (e && (f && g))) t2;
      copies_fit = and_left d (e && (f && g)) t3;
      owners_fit = and_left e (f && g) t4;
      zeros_apart = and_left f g t5;
      marks_apart = and_right f g t5;
    }

pub record Fitting (n : ℕ) (fs gs : List Field) (f : Field) : Type 0 where
  pub within : T (inside f)
  pub among : T (all_together fs f)
  pub beside : T (all_apart gs f)
  pub held : ends f ≤ n

fits : (n : ℕ) (fs gs : List Field) (f : Field) → T (fitting n fs gs f) → Fitting n fs gs f
fits n fs gs f t =
    let a = all_together fs f in
    let b = all_apart gs f in
    let e = leb (ends f) n in
    let t1 = and_right (inside f) (a && (b && e)) t in
    let t2 = and_right a (b && e) t1 in
    record {
      within = and_left (inside f) (a && (b && e)) t;
      among = and_left a (b && e) t1;
      beside = and_left b e t2;
      held = leb→le (ends f) n (and_right b e t2);
    }

module _ (w : Shape) (ok : Later w) (f : Field) where
  pub copy_fits_lem : In f (copy_fields w) → Fitting (image_size w) (copy_fields w) (owner_fields w) f
  copy_fits_lem i =
      fits (image_size w) (copy_fields w) (owner_fields w) f
      (every_at (fitting (image_size w) (copy_fields w) (owner_fields w)) (copy_fields w) f ok.copies_fit i)

  owner_fits_lem : In f (owner_fields w) → Fitting (image_size w) (owner_fields w) (copy_fields w) f
  owner_fits_lem i =
      fits (image_size w) (owner_fields w) (copy_fields w) f
      (every_at (fitting (image_size w) (owner_fields w) (copy_fields w)) (owner_fields w) f ok.owners_fit i)

-- ---- copies and owners as columns
abbrev pub copy_columns : Shape → (ℕ → Copy) → List Column
copy_columns w copies =
    column (value_field w) (λ t. (copies t).value)
    ∷ column (version_field w) (λ t. (copies t).version)
    ∷ column (holder_field w) (λ t. (copies t).holder)
    ∷ column (readers_field w) (λ t. (copies t).readers)
    ∷ column (writers_field w) (λ t. (copies t).writers)
    ∷ column (author_field w) (λ t. (copies t).author)
    ∷ column (author_serial_field w) (λ t. (copies t).serial)
    ∷ []

abbrev owner_columns : Shape → (ℕ → Owner) → List Column
owner_columns w owners =
    column (serial_field w) (λ o. (owners o).serial)
    ∷ column (state_field w) (λ o. (owners o).state)
    ∷ column (stamp_field w) (λ o. (owners o).stamp)
    ∷ []

module _ (w : Shape) where
  pub copies_columns : (copies : ℕ → Copy) (n : ℕ) (l : List ℕ) → with_copies_as w copies n l ≡ with_items (copy_columns w copies) n l
  unfolding with_copies_as with_items with_item
  copies_columns copies zero l = refl
  copies_columns copies (suc n) l = ap (λ (m : List ℕ). with_copy_as w m n (copies n)) (copies_columns copies n l)

  owners_columns : (owners : ℕ → Owner) (n : ℕ) (l : List ℕ) → with_owners_as w owners n l ≡ with_items (owner_columns w owners) n l
  unfolding with_owners_as with_items with_item
  owners_columns owners zero l = refl
  owners_columns owners (suc n) l = ap (λ (m : List ℕ). with_kept_as w m n (owners n)) (owners_columns owners n l)

-- ---- an older image taken in
module _ (w s : Shape) (l : List ℕ) where
  abbrev copied : List Column
  copied = copy_columns w (copy_as s l)

  abbrev kept : List Column
  kept = owner_columns w (owner_as s l)

  abbrev half : List ℕ
  half = with_items copied s.objects (blank_as w)

  into_columns : taken_into w s l ≡ with_items kept nodes half
  unfolding taken_into
  into_columns =
      owners_columns w (owner_as s l) nodes (with_copies_as w (copy_as s l) s.objects (blank_as w))
      ∙ ap (with_items kept nodes) (copies_columns w (copy_as s l) s.objects (blank_as w))

  length_half : length half ≡ image_size w
  length_half = length_items copied s.objects (blank_as w) ∙ length_blank_as w

  pub length_into : length (taken_into w s l) ≡ image_size w
  length_into = ap length into_columns ∙ length_items kept nodes half ∙ length_half

  pub bytes_into : Bytes (taken_into w s l)
  bytes_into = rw into_columns (bytes_items kept nodes half (bytes_items copied s.objects (blank_as w) (bytes_blank_as w)))

  -- a field apart from all of them is the blank image's, and so is one of an object that the older image does not have
  pub into_apart : (g : Field) (i : ℕ) → T (all_apart (copy_fields w) g) → T (all_apart (owner_fields w) g)
      → field_of g (taken_into w s l) i ≡ field_of g (blank_as w) i
  into_apart g i a b =
      ap (λ (m : List ℕ). field_of g m i) into_columns ∙ items_apart kept g nodes half i b ∙ items_apart copied g s.objects (blank_as w) i a

  pub into_beyond : (g : Field) (t : ℕ) → T (all_together (copy_fields w) g) → T (all_apart (owner_fields w) g) → s.objects ≤ t
      → field_of g (taken_into w s l) t ≡ field_of g (blank_as w) t
  into_beyond g t a b h =
      ap (λ (m : List ℕ). field_of g m t) into_columns ∙ items_apart kept g nodes half t b ∙ items_beyond copied g s.objects (blank_as w) t a h

  -- ---- each field, of older bytes
  module _ (ok : Later w) (room : s.objects ≤ w.objects) (bytes : Bytes l) where
    copied_here : (c : Column) (t : ℕ) → Has c copied → c.field.items ≡ w.objects → c.of t < 256 ^ c.field.width → t < s.objects
        → field_of c.field (taken_into w s l) t ≡ c.of t
    copied_here c t has many small h =
        let f = c.field in
        let p = copy_fits_lem w ok f (has_field copied c has) in
        ap (λ (m : List ℕ). field_of f m t) into_columns ∙ items_apart kept f nodes half t p.beside
        ∙ items_here copied c s.objects (blank_as w) t has ok.copies_apart p.within p.among (omega (arith, p.held, length_blank_as w)) h
        (omega arith) small

    -- a field of a copy, as the older field g is
    copied_as : (f g : Field) (t : ℕ) → Has (column f (field_of g l)) copied → f.items ≡ w.objects → f.width ≡ g.width → t < s.objects
        → field_of f (taken_into w s l) t ≡ field_of g l t
    copied_as f g t has many e h = copied_here (column f (field_of g l)) t has many (rw e (of_small g l t bytes)) h

    -- a field of an owner; one that is not there reads as 0 in both
    kept_as : (f g : Field) (o : ℕ) → Has (column f (field_of g l)) kept → f.items ≡ nodes → g.items ≡ nodes → f.width ≡ g.width
        → field_of f (taken_into w s l) o ≡ field_of g l o
    kept_as f g o has m n e =
        let p = owner_fits_lem w ok f (has_field kept (column f (field_of g l)) has) in
        ⊎_elim
        (λ (h : o < nodes). ap (λ (i : List ℕ). field_of f i o) into_columns
        ∙ items_here kept (column f (field_of g l)) nodes half o has ok.owners_apart p.within p.among (omega (arith, p.held, length_half)) h
        (omega arith) (rw e (of_small g l o bytes)))
        (λ h. of_out f (taken_into w s l) o (omega arith) ∙ sym (of_out g l o (omega arith)))
        (lt_or_le o nodes)

    module _ (t : ℕ) (h : t < s.objects) where
      pub into_value : field_of (value_field w) (taken_into w s l) t ≡ field_of (value_field s) l t
      unfolding copy_as
      into_value = copied_as (value_field w) (value_field s) t (inl refl) refl refl h

      pub into_version : field_of (version_field w) (taken_into w s l) t ≡ field_of (version_field s) l t
      unfolding copy_as
      into_version = copied_as (version_field w) (version_field s) t (inr (inl refl)) refl refl h

      pub into_holder : field_of (holder_field w) (taken_into w s l) t ≡ field_of (holder_field s) l t
      unfolding copy_as
      into_holder = copied_as (holder_field w) (holder_field s) t (inr (inr (inl refl))) refl refl h

      pub into_readers : field_of (readers_field w) (taken_into w s l) t ≡ field_of (readers_field s) l t
      unfolding copy_as
      into_readers = copied_as (readers_field w) (readers_field s) t (inr (inr (inr (inl refl)))) refl refl h

      pub into_writers : field_of (writers_field w) (taken_into w s l) t ≡ field_of (writers_field s) l t
      unfolding copy_as
      into_writers = copied_as (writers_field w) (writers_field s) t (inr (inr (inr (inr (inl refl))))) refl refl h

      -- the author as it was, or by the version
      pub into_author : field_of (author_field w) (taken_into w s l) t
          ≡ cond (has_author s) (field_of (author_field s) l t) (author_at (field_of (version_field s) l t))
      unfolding copy_as
      into_author =
          copied_here (column (author_field w) (λ i. (copy_as s l i).author)) t (inr (inr (inr (inr (inr (inl refl)))))) refl
          (by (has_author s) (eqb (field_of (version_field s) l t) 0)) h
        where
          by : (b v : Bool) → cond b (field_of (author_field s) l t) (cond v nobody unknown) < 256
          by true v = of_small (author_field s) l t bytes
          by false true = lit< tt
          by false false = lit< tt

      pub into_author_serial : field_of (author_serial_field w) (taken_into w s l) t ≡ cond (has_author s) (field_of (author_serial_field s) l t) 0
      unfolding copy_as
      into_author_serial =
          copied_here (column (author_serial_field w) (λ i. (copy_as s l i).serial)) t (inr (inr (inr (inr (inr (inr (inl refl))))))) refl (by (has_author s))
          h
        where
          by : (b : Bool) → cond b (field_of (author_serial_field s) l t) 0 < 256 ^ 4
          by true = of_small (author_serial_field s) l t bytes
          by false = lit< tt

    module _ (o : ℕ) where
      pub into_serial : field_of (serial_field w) (taken_into w s l) o ≡ field_of (serial_field s) l o
      unfolding owner_as
      into_serial = kept_as (serial_field w) (serial_field s) o (inl refl) refl refl refl

      pub into_state : field_of (state_field w) (taken_into w s l) o ≡ field_of (state_field s) l o
      unfolding owner_as
      into_state = kept_as (state_field w) (state_field s) o (inr (inl refl)) refl refl refl

      pub into_stamp : field_of (stamp_field w) (taken_into w s l) o ≡ field_of (stamp_field s) l o
      unfolding owner_as
      into_stamp = kept_as (stamp_field w) (stamp_field s) o (inr (inr (inl refl))) refl refl refl
