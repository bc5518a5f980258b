-- One turn, and the end, of the loop that lays a list: four bytes are put for every number, and as many count as its place has.
use Prim.Native.Nat.{ℕ, zero, suc, ◌+◌, ◌/◌, ◌%◌, ◌≤◌, ◌<◌, min}
use native.Mathlib.Numerals.{add-one}
use native.Mathlib.Omega.{arith}
use mathlib.Core.Path.{◌≡◌, refl, sym, ap, ◌∙◌}
use mathlib.Core.Bool.{Bool, true, false, ◌&&◌}
use mathlib.Core.List.{List, ◌∷◌, ◌++◌, append_assoc, append-nil}
use borrow.Author.Tests.{lt-ltb, le-ltb, lt-leb, le-leb}
use lib.Dec.{ltb}
use lib.ListN.{length, get_or, take, drop, length-append}
use lib.Seq.{drop-cons, drop-length, length-take-le, take-append-le, take-append-add, take_all, sets-eq}
use Rattle.octets.specs.Octets.{le, put}
use Rattle.octets.proofs.Laws.{put_le, length_le}
use Rattle.lists.specs.declared.Shape.{Shape}
use Rattle.lists.specs.Lists.{width, limit, first, fit_from, laid_from, fits}

-- ---- too many numbers do not fit; of fewer, each has to fit its place
pub fits_over : (s : Shape) (room : ℕ) (numbers : List ℕ) → min 4098 (room / 4) ≤ length numbers → fits s room numbers ≡ false
unfolding fits
fits_over s room numbers h = simp (lt-leb (length numbers + 1) (min 4098 (room / 4)) (omega arith))

pub fits_few : (s : Shape) (room : ℕ) (numbers : List ℕ) → length numbers < min 4098 (room / 4)
    → fits s room numbers ≡ fit_from s (first numbers) 0 numbers
unfolding fits
fits_few s room numbers h = simp (le-leb (length numbers + 1) (min 4098 (room / 4)) (omega arith))

-- ---- four bytes put, of which the front counts
take_le : (w k v : ℕ) → w ≤ k → take w (le k v) ≡ le w v
unfolding le
take_le zero k v h = refl
take_le (suc w) zero v h = absurd (let z : ⊥ = omega arith in z)
take_le (suc w) (suc k) v h = ap (λ (r : List ℕ). v % 256 ∷ r) (take_le w k (v / 256) (omega arith))

front : (l : List ℕ) (at w v : ℕ) → w ≤ 4 → at + 4 ≤ length l → take (at + w) (put 4 l at v) ≡ take at l ++ le w v
front l at w v small room =
    let four = length_le 4 v in
    let long : length (take at l) ≡ at = length-take-le at l (omega arith) in
    let whole : put 4 l at v ≡ take at l ++ le 4 v ++ drop (at + length (le 4 v)) l = put_le 4 l at v ∙ sets-eq (le 4 v) l at (omega arith) in
    let there : at + w ≤ length (take at l ++ le 4 v) = rw length-append (omega arith) in
    ap (take (at + w)) whole ∙ take-append-le (at + w) (take at l ++ le 4 v) _ there ∙ ap (λ (n : ℕ). take (n + w) (take at l ++ le 4 v)) (sym long)
    ∙ take-append-add (take at l) (le 4 v) w ∙ ap (λ (r : List ℕ). take at l ++ r) (take_le w 4 v small)

-- the count of weights
pub count_laid : (l : List ℕ) (n : ℕ) → 2 ≤ length l → take 2 (put 2 l 0 n) ≡ le 2 n
count_laid l n h =
    let two = length_le 2 n in
    ap (take 2) (put_le 2 l 0 n ∙ sets-eq (le 2 n) l 0 (omega arith))
    ∙ take-append-le 2 (le 2 n) _ (omega arith) ∙ take_all 2 (le 2 n) (omega arith)

module _ (s : Shape) (n i : ℕ) (numbers : List ℕ) where
  module _ (b : Bool) (so_far : fit_from s n i (drop i numbers) ≡ b) where
    fit_step : i < length numbers → ltb (get_or numbers i 0) (limit (width s n i)) && fit_from s n (i + 1) (drop (i + 1) numbers) ≡ b
    unfolding fit_from
    fit_step h = simp add-one (simp (drop-cons numbers i 0 h, add-one) at so_far)

    pub fit_stop : i < length numbers → limit (width s n i) ≤ get_or numbers i 0 → false ≡ b
    fit_stop h over = simp (le-ltb (get_or numbers i 0) (limit (width s n i)) over) at (fit_step h)

    pub fit_again : i < length numbers → get_or numbers i 0 < limit (width s n i) → fit_from s n (i + 1) (drop (i + 1) numbers) ≡ b
    fit_again h under = simp (lt-ltb (get_or numbers i 0) (limit (width s n i)) under) at (fit_step h)

    pub fit_end : i ≡ length numbers → true ≡ b
    unfolding fit_from
    fit_end e = simp (e, drop-length) at so_far

  lay_step : i < length numbers → laid_from s n i (drop i numbers) ≡ le (width s n i) (get_or numbers i 0) ++ laid_from s n (i + 1) (drop (i + 1) numbers)
  unfolding laid_from
  lay_step h = simp add-one (simp (drop-cons numbers i 0 h, add-one))

  pub lay_again : (out : List ℕ) (at : ℕ) → i < length numbers → width s n i ≤ 4 → at + 4 ≤ length out
      → take (at + width s n i) (put 4 out at (get_or numbers i 0)) ++ laid_from s n (i + 1) (drop (i + 1) numbers)
      ≡ take at out ++ laid_from s n i (drop i numbers)
  lay_again out at h small room =
      rw (front out at (width s n i) (get_or numbers i 0) small room, lay_step h) (append_assoc (take at out) (le (width s n i) (get_or numbers i 0)) _)

  pub lay_end : (out : List ℕ) (at : ℕ) → i ≡ length numbers → take at out ++ laid_from s n i (drop i numbers) ≡ take at out
  unfolding laid_from
  lay_end out at e = rw (e, drop-length) (append-nil (take at out))
