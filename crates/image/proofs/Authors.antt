-- An author's serial is 0 exactly where its two halves are, so the check reads them without putting them together.
use mathlib.Core.Path.{◌≡◌, refl, sym, ap, ◌∙◌}
use mathlib.Core.Bool.{Bool, true, ◌&&◌}
use mathlib.Core.List.{List}
use Prim.Native.Nat.{ℕ, zero, suc, ◌+◌, ◌*◌, ◌<◌}
use native.Mathlib.Omega.{arith}
use lib.Dec.{eqb}
use borrow.Author.Tests.{lt-ltb, ne_eqb}
use Rattle.octets.specs.Octets.{get}
use Rattle.octets.proofs.Laws.{get_four}
use Rattle.image.specs.Field.{field_of}
use Rattle.image.specs.Layout.{shape, author, author_serial}
use Rattle.image.specs.Valid.{author_ok}
use Rattle.image.specs.Pass.{author_fits, low_field, high_field}

abbrev low : List ℕ → ℕ → ℕ
low l t = field_of low_field l t

abbrev high : List ℕ → ℕ → ℕ
high l t = field_of high_field l t

halves : (l : List ℕ) (t : ℕ) → t < shape.objects → author_serial l t ≡ low l t + 65536 * high l t
unfolding field_of
halves l t h =
    let e : 1 + 22 * t + 18 + 2 ≡ 1 + 22 * t + 20 = omega arith in
    simp (lt-ltb t shape.objects h) (get_four l (1 + 22 * t + 18) ∙ ap (λ (p : ℕ). get 2 l (1 + 22 * t + 18) + 65536 * get 2 l p) e)

none_by_halves : (x y : ℕ) → eqb (x + 65536 * y) 0 ≡ (eqb x 0 && eqb y 0)
none_by_halves zero zero = refl
none_by_halves zero (suc y) = ne_eqb (0 + 65536 * suc y) 0 (λ e. omega arith) ∙ sym (ap (λ (b : Bool). true && b) (ne_eqb (suc y) 0 (λ e. omega arith)))
none_by_halves (suc x) y = ne_eqb (suc x + 65536 * y) 0 (λ e. omega arith) ∙ sym (ap (λ (b : Bool). b && eqb y 0) (ne_eqb (suc x) 0 (λ e. omega arith)))

pub author_by : (l : List ℕ) (t : ℕ) → t < shape.objects
    → author_fits (author l t) (eqb (low l t) 0 && eqb (high l t) 0) ≡ author_ok (author l t) (author_serial l t)
author_by l t h = ap (author_fits (author l t)) (sym (ap (λ (n : ℕ). eqb n 0) (halves l t h) ∙ none_by_halves (low l t) (high l t)))
