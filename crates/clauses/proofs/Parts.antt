-- Tests taken apart and put together again, and a test on a number as a fact.
use mathlib.Core.Path.{◌≡◌, refl, sym, subst}
use mathlib.Core.Bool.{Bool, true, false, cond, ◌||◌}
use Prim.Native.Nat.{ℕ}
use lib.Dec.{T, eqb, eqb_refl}
use Rattle.clauses.specs.Clauses.{implies}

pub eq-T : (m n : ℕ) → m ≡ n → T (eqb m n)
eq-T m n e = subst (λ (k : ℕ). T (eqb m k)) e (eqb_refl m)

pub true-T : (b : Bool) → b ≡ true → T b
true-T b e = subst T (sym e) tt

pub T_false : (b : Bool) → (T b → ⊥) → b ≡ false
T_false true f = absurd (f tt)
T_false false f = refl

pub false-T : (b : Bool) → b ≡ false → T b → ⊥
false-T b e t = subst T e t

pub implies_out : (a b : Bool) → T (implies a b) → T a → T b
implies_out true b t s = t
implies_out false b t s = absurd s

pub implies_in : (a b : Bool) → (T a → T b) → T (implies a b)
implies_in true b f = f tt
implies_in false b f = tt

pub cond_first : (t a b : Bool) → T (cond t a b) → T t → T a
cond_first true a b h s = h
cond_first false a b h s = absurd s

pub cond_second : (t a b : Bool) → T (cond t a b) → (T t → ⊥) → T b
cond_second true a b h s = absurd (s tt)
cond_second false a b h s = h

pub cond_in : (t a b : Bool) → (T t → T a) → ((T t → ⊥) → T b) → T (cond t a b)
cond_in true a b f g = f tt
cond_in false a b f g = g (λ s. s)

-- by a test, whichever way it goes
pub by_test : (P : Type 0) (b : Bool) → (b ≡ true → P) → (b ≡ false → P) → P
by_test P true f g = f refl
by_test P false f g = g refl

pub on_cond : {A : Type 0} (P : A → Type 0) (b : Bool) (x y : A) → (b ≡ true → P x) → (b ≡ false → P y) → P (cond b x y)
on_cond P true x y f g = f refl
on_cond P false x y f g = g refl

-- neither of two tests holds
pub neither_left : (a b : Bool) → (a || b) ≡ false → a ≡ false
neither_left true b e = e
neither_left false b e = refl

pub neither_right : (a b : Bool) → (a || b) ≡ false → b ≡ false
neither_right true b e = absurd (subst T e tt)
neither_right false b e = e
