-- A page: a lent buffer and the position behind what is written there. Texts are put one behind another; one that does not fit is left out.
use Rattle.std.specs.Prelude.{ℕ, ◌+◌, ◌≤◌, ◌≡◌, refl, List, [], ◌∷◌, ◌++◌, length}
use Rattle.std.proofs.Common.{arith, sym, ap, ◌∙◌, length-append}
use Rattle.decimal.specs.Decimal.{put_at, next_at}
use Rattle.decimal.specs.Laws.{next_fits, length_put, put_put, put_nothing}

pub record Page : Type 0 where
  pub bytes : List ℕ
  pub at : ℕ

unfoldable pub page : List ℕ → ℕ → Page
page bytes at = record { bytes = bytes; at = at }

-- one text more
unfoldable pub ink : Page → List ℕ → Page
ink p t = page (put_at p.bytes p.at t) (next_at p.bytes p.at t)

-- several, one behind another
unfoldable pub inks : Page → List (List ℕ) → Page
inks p [] = p
inks p (t ∷ ts) = inks (ink p t) ts

pub inks_append : (a b : List (List ℕ)) (p : Page) → inks p (a ++ b) ≡ inks (inks p a) b
unfolding inks
inks_append [] b p = refl
inks_append (t ∷ a) b p = inks_append a b (ink p t)

-- lists of texts, one behind another
pub behind : (p q r : Page) (a b : List (List ℕ)) → q ≡ inks p a → r ≡ inks q b → r ≡ inks p (a ++ b)
behind p q r a b e f = f ∙ ap (λ (x : Page). inks x b) e ∙ sym (inks_append a b p)

-- the buffer keeps its length
pub inks_length : (ts : List (List ℕ)) (p : Page) → length (inks p ts).bytes ≡ length p.bytes
unfolding inks ink page
inks_length [] p = refl
inks_length (t ∷ ts) p = inks_length ts (ink p t) ∙ length_put p.bytes p.at t

pub page_length : (ts : List (List ℕ)) (l m : List ℕ) (at to : ℕ) → page m to ≡ inks (page l at) ts → length m ≡ length l
unfolding page
page_length ts l m at to e = ap (λ (p : Page). length p.bytes) e ∙ inks_length ts (page l at)

-- all as one text
unfoldable pub joined : List (List ℕ) → List ℕ
joined [] = []
joined (t ∷ ts) = t ++ joined ts

-- THEOREM. Where all of them fit, they stand one behind another and nothing else is changed.
pub inks_fit : (ts : List (List ℕ)) (l : List ℕ) (at : ℕ) → at + length (joined ts) ≤ length l
    → inks (page l at) ts ≡ page (put_at l at (joined ts)) (at + length (joined ts))
unfolding inks ink page joined
inks_fit [] l at h = λ i. page (sym (put_nothing l at (omega arith)) i) (let e : at ≡ at + 0 = omega arith in e i)
inks_fit (t ∷ ts) l at h =
    let z : length (t ++ joined ts) ≡ length t + length (joined ts) = length-append t (joined ts) in
    let n : next_at l at t ≡ at + length t = next_fits l at t (omega arith) in
    let e : at + length t + length (joined ts) ≡ at + length (t ++ joined ts) = omega arith in
    ap (λ (k : ℕ). inks (page (put_at l at t) k) ts) n
    ∙ inks_fit ts (put_at l at t) (at + length t) (omega (arith, length_put l at t))
    ∙ (λ i. page (put_put l at t (joined ts) (omega arith) i) (e i))
