-- A step that is taken, and one that is refused.
use mathlib.Core.Path.{◌≡◌, sym, ap, ◌∙◌}
use mathlib.Core.List.{List}
use mathlib.Core.Option.{Option, none}
use Prim.Native.Nat.{ℕ}
use borrow.Author.Tests.{eq-eqb, ne_eqb}
use Rattle.pool.specs.Pool.{count}
use Rattle.buffers.specs.declared.Answer.{Answer}
use Rattle.orders.specs.declared.Order.{Order}
use Rattle.results.specs.Told.{seen, sheet_put, sheet_told, taken_out, put_place, put_by, sheet_by}

pub put_taken : (o : Order) (a : Answer) (n k : ℕ) (P : List ℕ) → a.number ≡ 0 → k ≡ put_place n (taken_out o.kind o.flag) (count P)
    → seen P k ≡ put_by o a n P
unfolding put_by
put_taken o a n k P e f = ap (seen P) f ∙ sym (simp (eq-eqb a.number 0 e))

pub put_refused : (o : Order) (a : Answer) (n : ℕ) (P : List ℕ) → (a.number ≡ 0 → ⊥) → put_by o a n P ≡ none
unfolding put_by
put_refused o a n P e = simp (ne_eqb a.number 0 e)

pub sheet_taken : (o : Order) (a : Answer) (w : ℕ) (m : Option (List ℕ)) (l : List ℕ) → a.number ≡ 0
    → sheet_told o.kind (sheet_put l m) o a.answer w ≡ sheet_by o a w m l
unfolding sheet_by
sheet_taken o a w m l e = sym (simp (eq-eqb a.number 0 e))

pub sheet_refused : (o : Order) (a : Answer) (w : ℕ) (m : Option (List ℕ)) (l : List ℕ) → (a.number ≡ 0 → ⊥) → sheet_by o a w m l ≡ l
unfolding sheet_by
sheet_refused o a w m l e = simp (ne_eqb a.number 0 e)
