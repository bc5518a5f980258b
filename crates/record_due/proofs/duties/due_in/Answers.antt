-- `record_due::duties::due_in`: the number, and where that is 0 the kind.
use mathlib.Core.Path.{◌≡◌, sym, ◌∙◌}
use borrow.Author.Tests.{eq-eqb, ne_eqb}
use Rattle.numbers.specs.Refusal.{first_of}
use Rattle.due.specs.Kind.{due_refusals, due_of}
use Rattle.record.specs.Record.{record_of}
use Rattle.record_due.proofs.duties.due_in.Goals as goal

pub returns-then-number-ne0 : goal.returns-then-number-ne0
unfolding due_of due_refusals
returns-then-number-ne0 c = let x = c.args in
    let e : c.refuse-number.result ≡ first_of (due_refusals (record_of x.bytes.now) x.me x.node x.object) = cc in
    let t = ne_eqb _ 0 (λ z. c.if-number-ne0.true (e ∙ z)) in
    simp t (rw e)

pub returns : goal.returns
unfolding due_of due_refusals
returns c = let x = c.args in
    let e : c.refuse-number.result ≡ first_of (due_refusals (record_of x.bytes.now) x.me x.node x.object) = cc in
    let t = eq-eqb _ 0 (sym e ∙ c.if-number-ne0.false) in
    simp t (rw (e, c.due_kind.ensures))
