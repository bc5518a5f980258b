-- What the checks of an image and of a message tell, once their lengths are known: damaged or garbled, and nothing else.
use mathlib.Core.Path.{◌≡◌, refl, sym, ap, ◌∙◌}
use mathlib.Core.Bool.{Bool, true, false, not, cond, ◌||◌}
use mathlib.Core.List.{List}
use Prim.Native.Nat.{ℕ}
use native.Mathlib.Omega.{arith}
use lib.Dec.{eqb, ltb}
use lib.ListN.{length}
use borrow.Author.Tests.{eq-eqb, ne_eqb}
use Rattle.numbers.specs.Sizes.{shortest_message, longest_message}
use Rattle.image.specs.Layout.{shape, image_size}
use Rattle.image.specs.Valid.{check, check_as, valid}
use Rattle.wire.specs.Decode.{check_of, accepted}

pub short_image : (l : List ℕ) → (length l ≡ image_size shape → ⊥) → check l ≡ 1
unfolding check_as
short_image l h = simp (ne_eqb (length l) (image_size shape) h)

true-false : true ≡ false → ⊥
true-false e = let z : ◌≡◌ {A = ℕ} 1 0 = ap (λ (t : Bool). cond t 1 0) e in omega arith

two : (b : Bool) → (◌≡◌ {A = ℕ} (cond (not b) 2 0) 0 → ⊥) → ◌≡◌ {A = ℕ} (cond (not b) 2 0) 2
two true h = absurd (h refl)
two false h = refl

pub damaged_image : (l : List ℕ) (n : ℕ) → n ≡ check l → (n ≡ 0 → ⊥) → length l ≡ image_size shape → check l ≡ 2
unfolding check_as
damaged_image l n e h s = let t = eq-eqb (length l) (image_size shape) s in
    simp t (two (valid shape l) (λ z. h (e ∙ simp t z)))

three : (a b : Bool) → (◌≡◌ {A = ℕ} (cond a 1 (cond b 0 3)) 0 → ⊥) → eqb (cond a 1 (cond b 0 3)) 1 ≡ false
    → ◌≡◌ {A = ℕ} (cond a 1 (cond b 0 3)) 3
three true b h f = absurd (true-false f)
three false true h f = absurd (h refl)
three false false h f = refl

pub garbled_message : (b : List ℕ) (n : ℕ) → n ≡ check_of b → (n ≡ 0 → ⊥) → eqb (check_of b) 1 ≡ false → check_of b ≡ 3
unfolding check_of
garbled_message b n e h = three (ltb (length b) shortest_message || ltb longest_message (length b)) (accepted b) (λ z. h (e ∙ z))

pub ruleset all = (short_image, damaged_image, garbled_message)
