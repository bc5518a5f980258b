-- `record_due::duties::due_kind`: by the phase.
use mathlib.Core.Path.{sym, ◌∙◌}
use borrow.Author.Tests.{ne_eqb}
use Rattle.due.specs.Kind.{due_kind}
use Rattle.record_due.proofs.duties.due_kind.Goals as goal

pub returns-in-1 : goal.returns-in-1
unfolding due_kind
returns-in-1 c = let k = sym c.phase.ensures ∙ c.in-1.is in
    simp k c.open_due.ensures

pub returns-in-2 : goal.returns-in-2
unfolding due_kind
returns-in-2 c = let k = sym c.phase.ensures ∙ c.in-2.is in
    simp k c.voting_due.ensures

pub returns-in-3 : goal.returns-in-3
unfolding due_kind
returns-in-3 c = let k = sym c.phase.ensures ∙ c.in-3.is in
    simp k c.finishing_due.ensures

pub returns-in_default : goal.returns-in_default
unfolding due_kind
returns-in_default c = let ne = c.in_default.in_default-own.rest in
    let p = c.phase.ensures in
    let a = ne_eqb _ 1 (λ z. ne.0.0.1 (p ∙ z)) in
    let b = ne_eqb _ 2 (λ z. ne.0.1 (p ∙ z)) in
    let d = ne_eqb _ 3 (λ z. ne.1 (p ∙ z)) in
    simp (a, b, d)
