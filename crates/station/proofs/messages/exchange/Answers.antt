-- `station::messages::exchange`: taken out, then the answer added.
use mathlib.Core.Path.{ap, ◌∙◌}
use Prim.Native.Nat.{ℕ}
use mathlib.Core.List.{List}
use borrow.Author.Tests.{lt-ltb, le-ltb}
use lib.ListN.{length}
use Rattle.pool.specs.Change.{add_after}
use Rattle.station.proofs.messages.exchange.Goals as goal

pub returns-then-answer-gt0 : goal.returns-then-answer-gt0
returns-then-answer-gt0 c = let x = c.args in
    let t = c.if-answer-gt0.true in
    simp (lt-ltb 0 (length x.answer.now) t)
    (c.add.ensures.pool ∙ ap (λ (l : List ℕ). add_after l x.answer.now) c.take_out.ensures)

pub returns-else-answer-gt0 : goal.returns-else-answer-gt0
returns-else-answer-gt0 c = let x = c.args in
    let t = c.if-answer-gt0.false in
    simp (le-ltb 0 (length x.answer.now) t) c.take_out.ensures
