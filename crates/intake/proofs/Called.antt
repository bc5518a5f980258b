-- The number of a call, and what it leaves: by whether the lengths fit, and then by whether the older bytes are valid.
use mathlib.Core.Path.{◌≡◌, refl, sym, ap, ◌∙◌, subst}
use mathlib.Core.Bool.{Bool, true, false, cond, not, ◌&&◌, ◌||◌}
use mathlib.Core.List.{List, [], ◌∷◌}
use mathlib.Core.Option.{Option, none, some}
use Prim.Native.Nat.{ℕ, ◌≤◌}
use native.Mathlib.Omega.{arith}
use lib.Dec.{T, eqb, leb, eqb→eq, leb→le}
use lib.ListN.{length}
use Rattle.mask.proofs.Tests.{and_left, and_right}
use Rattle.octets.proofs.Laws.{Bytes}
use Rattle.parts.specs.Parts.{padded}
use Rattle.image.specs.Layout.{Shape, shape, image_size}
use Rattle.image.specs.Valid.{valid}
use Rattle.image.proofs.Sound.{Sound}
use Rattle.numbers.specs.Numbers.{wrong_length, damaged}
use Rattle.intake.specs.Take.{older_shapes, shape_for, older_of, is_older, was_valid, taken_in, take_refusals, take_number, take_after}
use Rattle.intake.proofs.Taken.{length_taken}
use Rattle.intake.proofs.Judged.{taken_sound}

-- a list laid into bytes of its own length is there as it is
padded_whole : (l : List ℕ) → padded (length l) l ≡ l
unfolding padded
padded_whole [] = refl
padded_whole (x ∷ l) = ap (λ (m : List ℕ). x ∷ m) (padded_whole l)

-- no older length
pub unknown_length : (old image : List ℕ) → older_of (length old) ≡ none → (wrong_length ≡ take_number old image) × (image ≡ take_after old image)
unfolding take_number take_after take_refusals
unknown_length old image e = (rw e, rw e)

module _ (old image : List ℕ) (s : Shape) (e : older_of (length old) ≡ some s) where
  -- today's length or not, and valid or not
  pub called : (n v : Bool) → eqb (length image) (image_size shape) ≡ n → valid s old ≡ v
      → (cond n (cond v 0 damaged) wrong_length ≡ take_number old image) × (cond n (cond v (taken_in s old) image) image ≡ take_after old image)
  unfolding take_number take_after take_refusals
  called true true p q = (rw (e, p, q), rw (e, p, q))
  called true false p q = (rw (e, p, q), rw (e, p, q))
  called false v p q = (rw (e, p), rw (e, p))

  -- what is laid into bytes of today's length is there as it is
  pub laid : (m n : List ℕ) → length image ≡ image_size shape → n ≡ taken_in s old → m ≡ padded (length image) n → m ≡ taken_in s old
  laid m n p q e =
      let t = taken_in s old in
      let k : length image ≡ length t = p ∙ sym (length_taken s old) in
      e ∙ ap (padded (length image)) q ∙ ap (λ (i : ℕ). padded i t) k ∙ padded_whole t

-- ---- what a call without a refusal says, for the theorems above
-- today's length is no older one
pub today_not_older : older_of (image_size shape) ≡ none
unfolding older_of
today_not_older = refl

-- today's image has room for the objects of some shapes
abbrev pub roomy : List Shape → Bool
roomy [] = true
roomy (s ∷ ss) = leb s.objects shape.objects && roomy ss

pub shape_found : (ss : List Shape) (n : ℕ) (s : Shape) → T (roomy ss) → shape_for ss n ≡ some s → (s.objects ≤ shape.objects) × (n ≡ image_size s)
shape_found [] n s r e = absurd (let z : ◌≡◌ {A = ℕ} 0 1 = cc in let y : ⊥ = omega arith in y)
shape_found (a ∷ ss) n s r e =
    by (eqb n (image_size a)) refl e (shape_found ss n s (and_right (leb a.objects shape.objects) (roomy ss) r))
  where
    by : (b : Bool) → eqb n (image_size a) ≡ b → cond b (some a) (shape_for ss n) ≡ some s
        → (shape_for ss n ≡ some s → (s.objects ≤ shape.objects) × (n ≡ image_size s)) → (s.objects ≤ shape.objects) × (n ≡ image_size s)
    by true p q later =
        let same : a ≡ s = cc in
        subst (λ (x : Shape). (x.objects ≤ shape.objects) × (n ≡ image_size x)) same
        (leb→le a.objects shape.objects (and_left (leb a.objects shape.objects) (roomy ss) r), eqb→eq n (image_size a) (subst T (sym p) tt))
    by false p q later = later q

pub record TakenIn (old image : List ℕ) : Type 0 where
  pub from : Shape
  pub room : from.objects ≤ shape.objects
  pub size : length old ≡ image_size from
  pub was_valid_lem : valid from old ≡ true
  pub after : take_after old image ≡ taken_in from old

pub take_done : (old image : List ℕ) → take_number old image ≡ 0 → TakenIn old image
unfolding take_after take_number take_refusals older_of
take_done old image z = by (older_of (length old)) refl z
  where
    by : (o : Option Shape) → older_of (length old) ≡ o
        → ◌≡◌ {A = ℕ} (cond (not (is_older o) || not (eqb (length image) (image_size shape))) 1 (cond (not (was_valid o old)) 2 0)) 0 → TakenIn old image
    by none e p = absurd (let y : ⊥ = omega arith in y)
    by (some s) e p =
        let f = shape_found older_shapes (length old) s tt e in
        record { from = s; room = f.0; size = f.1; was_valid_lem = fine (eqb (length image) (image_size shape)) (valid s old) p; after = rw z (rw e) }
      where
        fine : (n v : Bool) → ◌≡◌ {A = ℕ} (cond (not n) 1 (cond (not v) 2 0)) 0 → v ≡ true
        fine true true q = refl
        fine true false q = absurd (let y : ⊥ = omega arith in y)
        fine false v q = absurd (let y : ⊥ = omega arith in y)

pub take_sound : (old image : List ℕ) → Bytes old → take_number old image ≡ 0 → Sound (take_after old image)
take_sound old image b z = let d = take_done old image z in rw d.after (taken_sound d.from old d.room b d.was_valid_lem)
