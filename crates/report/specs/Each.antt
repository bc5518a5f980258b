-- The texts of several numbered items, one behind another, and what a loop that puts them keeps: what is written, with what is left to write, is the whole.
use Rattle.std.specs.Prelude.{ℕ, zero, suc, ◌+◌, ◌-◌, ◌≤◌, ◌<◌, ◌≡◌, refl, List, [], ◌++◌, length}
use Rattle.std.proofs.Common.{arith, sym, ap, ◌∙◌}
use Rattle.std.proofs.Math.Nat.{sub-zero}
use Rattle.report.specs.Page.{Page, page, inks, inks_append, page_length}

-- the texts of n items from the i-th on, where f gives those of one
unfoldable pub each_from : (ℕ → List (List ℕ)) → ℕ → ℕ → List (List ℕ)
each_from f zero i = []
each_from f (suc n) i = f i ++ each_from f n (i + 1)

from_step : (f : ℕ → List (List ℕ)) (n i : ℕ) → i < n → each_from f (n - i) i ≡ f i ++ each_from f (n - (i + 1)) (i + 1)
unfolding each_from
from_step f n i h = let e : n - i ≡ suc (n - (i + 1)) = omega arith in ap (λ (k : ℕ). each_from f k i) e

from_end : (f : ℕ → List (List ℕ)) (n i : ℕ) → n ≤ i → each_from f (n - i) i ≡ []
unfolding each_from
from_end f n i h = let e : n - i ≡ 0 = omega arith in ap (λ (k : ℕ). each_from f k i) e

-- a loop over n items that has put those before the i-th
pub record Going (f : ℕ → List (List ℕ)) (n : ℕ) (out₀ : List ℕ) (at : ℕ) (out : List ℕ) (a i : ℕ) : Type 0 where
  pub within : i ≤ n
  pub rest : inks (page out a) (each_from f (n - i) i) ≡ inks (page out₀ at) (each_from f n 0)
  pub long : length out ≡ length out₀

pub none_yet : (f : ℕ → List (List ℕ)) (n : ℕ) (out : List ℕ) (at : ℕ) → Going f n out at out at 0
none_yet f n out at =
    record { within = omega arith; rest = ap (λ (k : ℕ). inks (page out at) (each_from f k 0)) (sub-zero n); long = refl }

-- one item more
pub one_more : (f : ℕ → List (List ℕ)) (n : ℕ) (out₀ : List ℕ) (at : ℕ) (out : List ℕ) (a i : ℕ) (more : List ℕ) (b : ℕ) → i < n
    → Going f n out₀ at out a i → page more b ≡ inks (page out a) (f i) → Going f n out₀ at more b (i + 1)
one_more f n out₀ at out a i more b h g e =
    record {
      within = omega arith;
      rest =
          ap (λ (p : Page). inks p (each_from f (n - (i + 1)) (i + 1))) e
          ∙ sym (inks_append (f i) (each_from f (n - (i + 1)) (i + 1)) (page out a))
          ∙ ap (inks (page out a)) (sym (from_step f n i h))
          ∙ g.rest;
      long = page_length (f i) out more a b e ∙ g.long;
    }

-- all are put
pub all_put : (f : ℕ → List (List ℕ)) (n : ℕ) (out₀ : List ℕ) (at : ℕ) (out : List ℕ) (a i : ℕ) → n ≤ i
    → Going f n out₀ at out a i → page out a ≡ inks (page out₀ at) (each_from f n 0)
unfolding inks
all_put f n out₀ at out a i h g = sym (ap (inks (page out a)) (from_end f n i h)) ∙ g.rest
