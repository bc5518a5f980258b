-- `host::images::author_number`: the list of refusals, in order.
use mathlib.Core.Path.{◌∙◌}
use borrow.Author.Tests.{eq-eqb, ne_eqb, lt-ltb, le-ltb}
use Rattle.host.specs.Images.{author_number}
use Rattle.host.proofs.images.author_number.Goals as goal

pub returns-then-number-eq-LENGTH : goal.returns-then-number-eq-LENGTH
unfolding author_number
returns-then-number-eq-LENGTH c = rw (← (c.number-number.ensures ∙ c.check.ensures)) (simp (eq-eqb _ 1 c.if-number-eq-LENGTH.true))

pub returns-then-number-eq-DAMAGED : goal.returns-then-number-eq-DAMAGED
unfolding author_number
returns-then-number-eq-DAMAGED c = rw (← (c.number-number.ensures
    ∙ c.check.ensures)) (simp (ne_eqb _ 1 c.if-number-eq-LENGTH.false, eq-eqb _ 2 c.if-number-eq-DAMAGED.true))

pub returns-then-object-lt-OBJECTS_END : goal.returns-then-object-lt-OBJECTS_END
unfolding author_number
returns-then-object-lt-OBJECTS_END c = rw (← (c.number-number.ensures ∙ c.check.ensures))
    (simp (ne_eqb _ 1 c.if-number-eq-LENGTH.false, ne_eqb _ 2 c.if-number-eq-DAMAGED.false, lt-ltb _ _ c.if-object-lt-OBJECTS_END.true))

pub returns-else-object-lt-OBJECTS_END : goal.returns-else-object-lt-OBJECTS_END
unfolding author_number
returns-else-object-lt-OBJECTS_END c = rw (← (c.number-number.ensures ∙ c.check.ensures))
    (simp (ne_eqb _ 1 c.if-number-eq-LENGTH.false, ne_eqb _ 2 c.if-number-eq-DAMAGED.false, le-ltb _ _ c.if-object-lt-OBJECTS_END.false))
