-- A call's refusals are an ordered list of numbers with their conditions. The first that fits is the call's number; 0 where none does.
use Rattle.std.specs.Prelude.{Bool, cond, List, [], ◌∷◌, ℕ, eqb, ltb}

pub record Refusal : Type 0 where
  pub number : ℕ
  pub fits : Bool

abbrev pub refuse : ℕ → Bool → Refusal
refuse n b = record { number = n; fits = b }

abbrev pub first_of : List Refusal → ℕ
first_of [] = 0
first_of (r ∷ rs) = cond r.fits r.number (first_of rs)

-- of two numbers the lower that is not 0
unfoldable pub lower : ℕ → ℕ → ℕ
lower m n = cond (eqb m 0) n (cond (eqb n 0) m (cond (ltb m n) m n))
