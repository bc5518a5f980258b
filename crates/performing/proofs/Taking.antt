-- A step taken: what its parts leave and print is what the whole does.
use mathlib.Core.Path.{◌≡◌, ap, ◌∙◌}
use mathlib.Core.List.{List}
use Prim.Native.Nat.{ℕ}
use Rattle.pool.specs.Pool.{count}
use Rattle.buffers.specs.declared.Answer.{Answer}
use Rattle.service_calls.specs.Lent.{Lent}
use Rattle.orders.specs.declared.Order.{Order}
use Rattle.runs.specs.Order.{call_of}
use Rattle.runs.specs.Left.{told_of, left_of}
use Rattle.report.specs.Page.{Page, inks, behind}
use Rattle.telling.specs.Telling.{told}
use Rattle.results.specs.Results.{result_texts}
use Rattle.results.specs.Told.{seen, message_line, puts_text, owner_seen, named_texts, put_by, sheet_by}
use Rattle.performing.specs.Steps.{step_texts, step_sheet}

-- a step, by the answer, the pool that it left, how many waited before it and the owner of the message that it names
module _ (b : Lent) (o : Order) (list : List ℕ) (a : Answer) (n w : ℕ) (P : List ℕ) (e : a ≡ told_of b (call_of o list))
    (f : P ≡ (left_of b (call_of o list)).station.pool) (g : n ≡ count b.station.pool) where
  pub step_sheet_lem : w ≡ owner_seen (seen b.station.pool o.place) → (R S : List ℕ) → R ≡ (left_of b (call_of o list)).station.records
      → S ≡ (left_of b (call_of o list)).settings → (l : List ℕ)
      → told a.number o.kind R S o.node (sheet_by o a w (put_by o a n P) l) ≡ step_sheet b o list l
  unfolding step_sheet
  step_sheet_lem h R S r s l =
      λ i. told (e i).number o.kind (r i) (s i) o.node (sheet_by o (e i) (h i) (put_by o (e i) (g i) (f i)) l)

  pub step_texts_lem : (p q r s : Page) → q ≡ inks p (named_texts o.kind b.station.pool o.place) → r ≡ inks q (result_texts o.kind a)
      → s ≡ inks r (message_line puts_text (put_by o a n P)) → s ≡ inks p (step_texts b o list)
  unfolding step_texts
  step_texts_lem p q r s x y z =
      behind p q s (named_texts o.kind b.station.pool o.place) _ x
      (behind q r s (result_texts o.kind (told_of b (call_of o list))) _ (y ∙ ap (λ (t : Answer). inks q (result_texts o.kind t)) e)
      (z ∙ (λ i. inks r (message_line puts_text (put_by o (e i) (g i) (f i))))))
