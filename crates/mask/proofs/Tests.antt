-- Laws of tests (Bool): their parts, and when two are equal.
use mathlib.Core.Path.{◌≡◌, refl, ap}
use mathlib.Core.Bool.{Bool, true, false, ◌&&◌, ◌||◌}
use Prim.Native.Nat.{ℕ, zero, suc, ◌<◌}
use native.Mathlib.Omega.{arith}
use lib.Dec.{T}

-- two tests that imply each other are equal
pub same_test : (a b : Bool) → (T a → T b) → (T b → T a) → a ≡ b
same_test true true f g = refl
same_test true false f g = absurd (f tt)
same_test false true f g = absurd (g tt)
same_test false false f g = refl

pub and_both : (a b : Bool) → T a → T b → T (a && b)
and_both true b s t = t
and_both false b s t = s

pub and_left : (a b : Bool) → T (a && b) → T a
and_left true b t = tt
and_left false b t = t

pub and_right : (a b : Bool) → T (a && b) → T b
and_right true b t = t
and_right false b t = absurd t

pub or_left : (a b : Bool) → T a → T (a || b)
or_left true b t = tt
or_left false b t = absurd t

pub or_right : (a b : Bool) → T b → T (a || b)
or_right true b t = tt
or_right false b t = t

pub or_cases : (P : Type 0) (a b : Bool) → (T a → P) → (T b → P) → T (a || b) → P
or_cases P true b f g t = f tt
or_cases P false b f g t = g t

-- a test that holds, as an equation
pub T_true : (b : Bool) → T b → b ≡ true
T_true true t = refl
T_true false t = absurd t

-- two numbers: less, equal or greater
pub compared : (P : Type 0) (s t : ℕ) → (s < t → P) → (s ≡ t → P) → (t < s → P) → P
compared P zero zero f g h = g refl
compared P zero (suc t) f g h = f (omega arith)
compared P (suc s) zero f g h = h (omega arith)
compared P (suc s) (suc t) f g h = compared P s t (λ e. f (omega arith)) (λ e. g (ap suc e)) (λ e. h (omega arith))
