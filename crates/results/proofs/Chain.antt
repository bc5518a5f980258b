-- Texts put one behind another: from the last backwards.
use mathlib.Core.Path.{◌≡◌, ap, ◌∙◌}
use mathlib.Core.List.{List, [], ◌∷◌}
use Prim.Native.Nat.{ℕ}
use Rattle.report.specs.Page.{Page, ink, inks}

pub last : (p q : Page) (t : List ℕ) → q ≡ ink p t → q ≡ inks p (t ∷ [])
unfolding inks
last p q t e = e

pub before : (p q r : Page) (t : List ℕ) (ts : List (List ℕ)) → q ≡ ink p t → r ≡ inks q ts → r ≡ inks p (t ∷ ts)
unfolding inks
before p q r t ts e f = f ∙ ap (λ (x : Page). inks x ts) e
