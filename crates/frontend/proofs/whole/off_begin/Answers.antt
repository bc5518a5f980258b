-- `frontend::whole::off_begin`: the record's own number, made late.
use mathlib.Core.Path.{◌≡◌, ap, ◌∙◌}
use borrow.Author.Tests.{eq-eqb}
use Rattle.coordinator.specs.System.{tree}
use Rattle.coordinator.specs.Calls.{begin_of}
use Rattle.record.specs.Record.{record_of, check}
use Rattle.record.specs.Call.{called_of}
use Rattle.frontend.specs.Plan.{out_of_turn_after}
use Rattle.frontend.proofs.whole.off_begin.Goals as goal

pub returns-then-garbled : goal.returns-then-garbled
returns-then-garbled c = simp c.if-garbled.true

pub returns : goal.returns
unfolding called_of
returns c = let x = c.args in
    let e = eq-eqb (check x.bytes.now) 0 c.requires in
    let own : _ ≡ (begin_of tree (record_of x.bytes.now) x.me x.w).number = c.may_begin.ensures ∙ simp e in
    simp c.if-garbled.false (c.late.ensures ∙ ap out_of_turn_after own)
