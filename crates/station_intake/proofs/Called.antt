-- The number of a call, and what it leaves: by whether the lengths fit, and then by whether each part is valid.
use mathlib.Core.Path.{◌≡◌, refl, sym, ap, ◌∙◌, subst}
use mathlib.Core.Bool.{Bool, true, false, cond, not, ◌&&◌, ◌||◌}
use mathlib.Core.List.{List, [], ◌∷◌, ◌++◌, append-nil}
use mathlib.Core.Option.{Option, none, some}
use Prim.Native.Nat.{ℕ, zero, suc, ◌*◌, ◌/◌, ◌<◌, ◌≤◌}
use native.Mathlib.Omega.{arith}
use lib.Dec.{T, eqb, eqb→eq}
use lib.ListN.{length, drop, length-append, length-drop, drop_of_length-le}
use borrow.Author.Tests.{eq-eqb, ne_eqb, eqb-true, eqb-false}
use Rattle.mask.proofs.Tests.{T_true}
use Rattle.numbers.specs.Sizes.{nodes}
use Rattle.octets.proofs.Laws.{Bytes}
use Rattle.parts.proofs.Laws.{length_part}
use Rattle.image.specs.Layout.{Shape, shape, image_size}
use Rattle.image.specs.Valid.{each, valid}
use Rattle.image.proofs.Each.{each_at}
use Rattle.image.proofs.Sound.{Sound}
use Rattle.intake.specs.Take.{older_shapes, shape_for, older_of, is_older, was_valid, taken_in, take_refusals, take_number, take_after}
use Rattle.intake.proofs.Judged.{taken_sound}
use Rattle.intake.proofs.Called.{shape_found}
use Rattle.buffers.specs.Buffers.{images_size, image_at, with_image_at, wrong}
use Rattle.station_intake.specs.Convert.{station_for, older_station, part_at, old_at, taken_of, all_taken, all_valid, were_valid, converted}
use Rattle.station_intake.specs.Convert.{convert_refusals, convert_number, convert_after}
use Rattle.station_intake.specs.Pass.{number_of, first_number, after_parts}
use Rattle.station_intake.proofs.Taken.{part_ends, bytes_part, length_of_lem, taken_at, next_taken}

-- ---- which lengths
-- thirteen images of k bytes are of the shape whose images have k bytes
station_shape : (ss : List Shape) (k : ℕ) → station_for ss (k * nodes) ≡ shape_for ss k
station_shape [] k = refl
station_shape (s ∷ ss) k = rw (same, station_shape ss k)
  where
    same : eqb (k * nodes) (image_size s * nodes) ≡ eqb k (image_size s)
    same = by (eqb k (image_size s)) refl
      where
        by : (b : Bool) → eqb k (image_size s) ≡ b → eqb (k * nodes) (image_size s * nodes) ≡ b
        by true e = eq-eqb (k * nodes) (image_size s * nodes) (ap (λ (n : ℕ). n * nodes) (eqb-true k (image_size s) e))
        by false e = ne_eqb (k * nodes) (image_size s * nodes) (λ p. eqb-false k (image_size s) e (omega arith))

station_size : (ss : List Shape) (n : ℕ) (s : Shape) → station_for ss n ≡ some s → n ≡ image_size s * nodes
station_size [] n s e = absurd (let z : ◌≡◌ {A = ℕ} 0 1 = cc in let y : ⊥ = omega arith in y)
station_size (a ∷ ss) n s e = by (eqb n (image_size a * nodes)) refl e (station_size ss n s)
  where
    by : (b : Bool) → eqb n (image_size a * nodes) ≡ b → cond b (some a) (station_for ss n) ≡ some s → (station_for ss n ≡ some s → n ≡ image_size s * nodes)
        → n ≡ image_size s * nodes
    by true p q later =
        let same : a ≡ s = cc in
        eqb→eq n (image_size a * nodes) (subst T (sym p) tt) ∙ ap (λ (x : Shape). image_size x * nodes) same
    by false p q later = later q

-- ---- one part, which has an older length
one_number : (l : List ℕ) (o : Option Shape) → older_of (length l) ≡ o → number_of l ≡ cond (not (is_older o)) 1 (cond (not (was_valid o l)) 2 0)
unfolding number_of take_number take_refusals
one_number l o e = rw e (by (is_older o))
  where
    by : (b : Bool) → ◌≡◌ {A = ℕ} (cond (not b || false) 1 (cond (not (was_valid o l)) 2 0)) (cond (not b) 1 (cond (not (was_valid o l)) 2 0))
    by true = refl
    by false = refl

one_taken : (s : Shape) (l image : List ℕ) → older_of (length l) ≡ some s → length image ≡ image_size shape → valid s l ≡ true → take_after l image
    ≡ taken_in s l
unfolding take_after take_number take_refusals
one_taken s l image e n v = rw (e, eq-eqb (length image) (image_size shape) n, v)

module _ (old images : List ℕ) where
  -- the part of each node where the lengths fit, as the code tests it
  abbrev share : ℕ
  share = length old / nodes

  abbrev unfit : Bool
  unfit = not (eqb (share * nodes) (length old)) || wrong images images_size

  -- a refusal leaves the images
  left : (convert_number old images ≡ 0 → ⊥) → images ≡ convert_after old images
  unfolding convert_after
  left h = simp (ne_eqb (convert_number old images) 0 h)

  pub refused : (r : ℕ) → (r ≡ 0 → ⊥) → r ≡ convert_number old images → (r ≡ convert_number old images) × (images ≡ convert_after old images)
  refused r h e = (e, left (λ z. h (e ∙ z)))

  pub wrong_length_lem : unfit ≡ true → 1 ≡ convert_number old images
  unfolding convert_number convert_refusals older_station
  wrong_length_lem u = by (eqb (share * nodes) (length old)) (eqb (length images) images_size) refl refl u
    where
      whole : (o : Option Shape) → older_station (length old) ≡ o → (share * nodes ≡ length old → ⊥) → o ≡ none
      whole none e h = refl
      whole (some s) e h = absurd (h (let k = station_size older_shapes (length old) s e in omega arith))

      by : (a b : Bool) → eqb (share * nodes) (length old) ≡ a → eqb (length images) images_size ≡ b → (not a || not b) ≡ true → 1 ≡ convert_number old images
      by true true p q t = absurd (subst T (sym t) tt)
      by true false p q t = rw q (last (is_older (older_station (length old))))
        where
          last : (b : Bool) → ◌≡◌ {A = ℕ} 1 (cond (not b || true) 1 (cond (not (were_valid (older_station (length old)) old)) 2 0))
          last true = refl
          last false = refl
      by false b p q t = rw (whole (older_station (length old)) refl (eqb-false (share * nodes) (length old) p))

  module _ (fit : unfit ≡ false) where
    pub parted : length old ≡ share * nodes
    parted = by (eqb (share * nodes) (length old)) refl fit
      where
        by : (a : Bool) → eqb (share * nodes) (length old) ≡ a → (not a || wrong images images_size) ≡ false → length old ≡ share * nodes
        by true p t = sym (eqb-true (share * nodes) (length old) p)
        by false p t = absurd (subst T t tt)

    pub long : length images ≡ images_size
    long = by (eqb (share * nodes) (length old)) (eqb (length images) images_size) refl fit
      where
        by : (a b : Bool) → eqb (length images) images_size ≡ b → (not a || not b) ≡ false → length images ≡ images_size
        by a true p t = eqb-true (length images) images_size p
        by true false p t = absurd (subst T t tt)
        by false false p t = absurd (subst T t tt)

    station_older : older_station (length old) ≡ older_of share
    unfolding older_station older_of
    station_older = ap (station_for older_shapes) parted ∙ station_shape older_shapes share

    part_long : (n : ℕ) → n < nodes → length (part_at share old n) ≡ share
    part_long n h = let q = part_ends share n nodes h in let e = parted in length_part share (share * n) old (omega arith)

    -- no older length
    none_judged : older_of share ≡ none → (n : ℕ) → n < nodes → first_number share old (suc n) ≡ 1
    unfolding first_number
    none_judged e zero h = one_number (part_at share old 0) none (ap older_of (part_long 0 h) ∙ e)
    none_judged e (suc n) h = rw (none_judged e n (omega arith))

    module _ (s : Shape) (e : older_of share ≡ some s) where
      -- the parts of a shape's size
      sized : share ≡ image_size s
      unfolding older_of
      sized = (shape_found older_shapes share s tt e).1

      some_judged : (n : ℕ) → n ≤ nodes → first_number share old n ≡ cond (each n (λ i. valid s (part_at share old i))) 0 2
      unfolding first_number each
      some_judged zero h = refl
      some_judged (suc n) h =
          rw (some_judged n (omega arith), one_number (part_at share old n) (some s) (ap older_of (part_long n (omega arith)) ∙ e))
          (by (each n (λ i. valid s (part_at share old i))) (valid s (part_at share old n)))
        where
          by : (a b : Bool) → ◌≡◌ {A = ℕ} (cond (not (eqb (cond a 0 2) 0)) (cond a 0 2) (cond (not b) 2 0)) (cond (a && b) 0 2)
          by true true = refl
          by true false = refl
          by false b = refl

      -- the images after the first n parts
      some_taken : ((i : ℕ) → i < nodes → valid s (part_at share old i) ≡ true) → (n : ℕ) → n ≤ nodes
          → after_parts share old n images ≡ taken_of s old n ++ drop (image_size shape * n) images
      unfolding after_parts taken_of image_at
      some_taken v zero h = refl
      some_taken v (suc n) h =
          let w = image_size shape in
          let a = taken_of s old n ++ drop (w * n) images in
          let p = part_at share old n in
          let i = some_taken v n (omega arith) in
          let k = long in
          let m : length a ≡ images_size =
          length-append (taken_of s old n) (drop (w * n) images) ∙ (let b = length_of_lem s old n in omega (arith, length-drop (w * n) images)) in
          let t : take_after p (image_at a n) ≡ taken_in s p =
          one_taken s p (image_at a n) (ap older_of (part_long n (omega arith)) ∙ e) (length_part w (w * n) a (omega arith)) (v n (omega arith)) in
          ap (λ (l : List ℕ). with_image_at l n (take_after p (image_at l n))) i ∙ ap (with_image_at a n) t
          ∙ ap (λ (k : ℕ). with_image_at a n (taken_in s (part_at k old n))) sized ∙ next_taken s old n images

      some_all : each nodes (λ i. valid s (part_at share old i)) ≡ true → after_parts share old nodes images ≡ all_taken s old
      some_all v =
          some_taken (λ i h. T_true (valid s (part_at share old i)) (each_at (λ i. valid s (part_at share old i)) nodes (subst T (sym v) tt) i h)) nodes
          (omega arith)
          ∙ ap (λ (l : List ℕ). all_taken s old ++ l) (let k = long in drop_of_length-le images {i = images_size} (omega arith)) ∙ append-nil (all_taken s old)

    -- the number of the parts is the call's
    pub judged : first_number share old nodes ≡ convert_number old images
    unfolding convert_number convert_refusals
    judged = rw (station_older, eq-eqb (length images) images_size long) (by (older_of share) refl)
      where
        by : (o : Option Shape) → older_of share ≡ o → first_number share old nodes ≡ cond (not (is_older o) || false) 1 (cond (not (were_valid o old)) 2 0)
        by none e = none_judged e 12 (omega arith)
        by (some s) e =
            some_judged s e nodes (omega arith) ∙ ap (λ (k : ℕ). cond (each nodes (λ i. valid s (part_at k old i))) 0 2) (sized s e)
            ∙ turn (all_valid s old)
          where
            turn : (b : Bool) → ◌≡◌ {A = ℕ} (cond b 0 2) (cond (not b) 2 0)
            turn true = refl
            turn false = refl

    -- and the images after them are what it leaves
    pub all_taken_lem : first_number share old nodes ≡ 0 → after_parts share old nodes images ≡ convert_after old images
    unfolding convert_after
    all_taken_lem z = rw (sym judged ∙ z, station_older) (by (older_of share) refl)
      where
        by : (o : Option Shape) → older_of share ≡ o → after_parts share old nodes images ≡ converted o old images
        by none e = absurd (let k = none_judged e 12 (omega arith) in let y : ⊥ = omega arith in y)
        by (some s) e = some_all s e (fine (each nodes (λ i. valid s (part_at share old i))) (sym (some_judged s e nodes (omega arith)) ∙ z))
          where
            fine : (b : Bool) → ◌≡◌ {A = ℕ} (cond b 0 2) 0 → b ≡ true
            fine true q = refl
            fine false q = absurd (let y : ⊥ = omega arith in y)

-- ---- what a call without a refusal says, for the theorems above
pub record Converted (old images : List ℕ) : Type 0 where
  pub from : Shape
  pub room : from.objects ≤ shape.objects
  pub size : length old ≡ image_size from * nodes
  pub older : older_of (image_size from) ≡ some from
  pub were_valid_lem : (n : ℕ) → n < nodes → valid from (old_at from old n) ≡ true
  pub after : convert_after old images ≡ all_taken from old

pub convert_done : (old images : List ℕ) → convert_number old images ≡ 0 → Converted old images
unfolding convert_after convert_number convert_refusals older_station older_of
convert_done old images z = by (older_station (length old)) refl z
  where
    by : (o : Option Shape) → older_station (length old) ≡ o
        → ◌≡◌ {A = ℕ} (cond (not (is_older o) || wrong images images_size) 1 (cond (not (were_valid o old)) 2 0)) 0 → Converted old images
    by none e p = absurd (let y : ⊥ = omega arith in y)
    by (some s) e p =
        let n = station_size older_shapes (length old) s e in
        let f : older_of (image_size s) ≡ some s = sym (station_shape older_shapes (image_size s)) ∙ ap (station_for older_shapes) (sym n) ∙ e in
        record {
          from = s;
          room = (shape_found older_shapes (image_size s) s tt f).0;
          size = n;
          older = f;
          were_valid_lem = λ i h. T_true (valid s (old_at s old i))
              (each_at (λ i. valid s (old_at s old i)) nodes (fine (eqb (length images) images_size) (all_valid s old) p) i h);
          after = rw z (rw e);
        }
      where
        fine : (n v : Bool) → ◌≡◌ {A = ℕ} (cond (not n) 1 (cond (not v) 2 0)) 0 → T v
        fine true true q = tt
        fine true false q = absurd (let y : ⊥ = omega arith in y)
        fine false v q = absurd (let y : ⊥ = omega arith in y)

-- and each image is sound
pub convert_sound : (old images : List ℕ) → Bytes old → convert_number old images ≡ 0 → (n : ℕ) → n < nodes → Sound (image_at (convert_after old images) n)
convert_sound old images b z n h =
    let d = convert_done old images z in
    let s = d.from in
    rw (d.after, taken_at s old n h)
    (taken_sound s (old_at s old n) d.room (bytes_part (image_size s) (image_size s * n) old b) (d.were_valid_lem n h))
