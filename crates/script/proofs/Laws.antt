-- Whether a line's numbers fit, and the distances among them.
use Prim.Native.Nat.{ℕ, zero, suc, ◌+◌, ◌%◌}
use native.Mathlib.Numerals.{add-one}
use native.Mathlib.Omega.{arith}
use denote.Param.Members.{Mut}
use mathlib.Core.Path.{◌≡◌, refl, sym, ap, ap₂, subst, ◌∙◌}
use mathlib.Core.Bool.{Bool, ◌&&◌}
use mathlib.Core.List.{List, [], ◌∷◌}
use lib.Dec.{leb}
use lib.ListN.{length, get_or, drop, drop_of_length-le}
use lib.Seq.{drop-cons}
use Rattle.std.specs.Array.{IsFromFnResult, IsFromFnResultFrom}
use Rattle.std.specs.Fn.{Called}
use Rattle.std.specs.List.{list_all, enumerate_from}
use Rattle.script.specs.Parse.{most_at, fit_from, fill_from}

-- ---- whether the numbers from one place on fit: each with its place is asked
abbrev pub fits_at : ℕ → ℕ × ℕ → Bool
fits_at w p = leb p.1 (most_at w p.0)

pub all_fit : (w : ℕ) (l : List ℕ) (i : ℕ) → list_all (fits_at w) (enumerate_from i l) ≡ fit_from w i l
unfolding fit_from
all_fit w [] i = refl
all_fit w (v ∷ l) i = ap (λ (b : Bool). leb v (most_at w i) && b) (all_fit w l (i + 1))

-- ---- the distances from one place on: each is made by a call
module _ {F : Type 0} {g : Mut F (ℕ × Unit {0}) ℕ} {f : F} (ys l : List ℕ) (h : ℕ)
    (is : (x y : ℕ) (q : F) → Called g f (x, tt) y q → (q ≡ f) × (y ≡ get_or l (h + x) 0 % 65536)) where
  made_from : (n i : ℕ) → length ys ≡ i + n → IsFromFnResultFrom g f ys i n → drop i ys ≡ fill_from n (h + i) l
  unfolding fill_from
  made_from zero i long w = drop_of_length-le ys {i = i} (omega arith)
  made_from (suc n) i long w =
      let here = is i w.1 w.0 w.3 in
      let rest = subst (λ (q : F). IsFromFnResultFrom g q ys (i + 1) n) here.0 w.4 in
      let next : h + (i + 1) ≡ h + i + 1 = omega arith in
      let behind = made_from n (i + 1) (omega arith) rest ∙ ap (λ (k : ℕ). fill_from n k l) next in
      drop-cons ys i 0 (omega arith) ∙ ap₂ ◌∷◌ (w.2.1 0 ∙ here.1) (ap (λ (k : ℕ). drop k ys) (sym (add-one i)) ∙ behind)

  pub made_fill : (n : ℕ) → IsFromFnResult g f ys n → ys ≡ fill_from n h l
  made_fill n w = made_from n 0 (omega (arith, w.long)) w.each ∙ ap (λ (k : ℕ). fill_from n k l) (let e : h + 0 ≡ h = omega arith in e)
