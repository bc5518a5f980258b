-- `replica::change::decide`: by the word.
use mathlib.Core.Path.{sym, ap, ◌∙◌}
use borrow.Author.Tests.{eq-eqb, ne_eqb}
use Prim.Native.Nat.{ℕ}
use lib.Dec.{eqb}
use Rattle.replica.specs.Steps.{decided}
use Rattle.replica.proofs.Passes.{first_word_lem}
use Rattle.replica.proofs.change.decide.Goals as goal

pub returns-then-word-eq1 : goal.returns-then-word-eq1
unfolding decided
returns-then-word-eq1 c = let w = sym (c.word.ensures ∙ first_word_lem c.args.message.now) in
    simp (ap (λ (k : ℕ). eqb k 1) w ∙ eq-eqb _ 1 c.if-word-eq1.true) c.apply.ensures

pub returns-else-word-eq1 : goal.returns-else-word-eq1
unfolding decided
returns-else-word-eq1 c = let w = sym (c.word.ensures ∙ first_word_lem c.args.message.now) in
    simp (ap (λ (k : ℕ). eqb k 1) w ∙ ne_eqb _ 1 c.if-word-eq1.false)
