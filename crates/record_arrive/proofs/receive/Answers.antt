-- `record_arrive::receive`: a refused message leaves the bytes, else the delivery on all of them.
use mathlib.Core.Path.{◌≡◌, sym, ap, ◌∙◌}
use mathlib.Core.List.{List}
use Prim.Native.Nat.{ℕ}
use lib.ListN.{take}
use borrow.Author.Rules.{rules}
use borrow.Author.Tests.{eq-eqb, ne_eqb, not-false, not-true}
use Rattle.numbers.proofs.Outcome.{code_counts}
use Rattle.coordinator.specs.declared.Coordinator.{Coordinator}
use Rattle.coordinator.specs.Step.{Step}
use Rattle.coordinator.specs.System.{tree}
use Rattle.numbers.specs.Refusal.{first_of}
use Rattle.arrivals.specs.Receive.{delivered, receive_refusals, receive_of}
use Rattle.record.specs.Record.{record_of}
use Rattle.record.specs.Call.{called_of, told_by, kept, record_after}
use Rattle.record_arrive.specs.Call.{received_of}
use Rattle.record_arrive.proofs.OnBytes.{short_bytes, long_answer}
use Rattle.record.proofs.OnBytes.{refused_record, part_called, part_record}
use Rattle.record_arrive.proofs.receive.Goals as goal

-- a delivery that nothing refuses is the delivery of its kind
delivered_is : (c : Coordinator) (me : ℕ) (m : List ℕ) → first_of (receive_refusals c me m) ≡ 0 → delivered tree c m ≡ receive_of tree c me m
unfolding receive_of
delivered_is c me m e = simp (eq-eqb _ 0 e)

pub returns-then-not-has_length-clause-bytes_after : goal.returns-then-not-has_length-clause-bytes_after
returns-then-not-has_length-clause-bytes_after c = let x = c.args in
    short_bytes x.me x.message.now x.bytes.now (not-false _ (sym c.has_length.ensures ∙ c.if-not-has_length.true))

pub returns-in_err-check-clause-bytes_after : goal.returns-in_err-check-clause-bytes_after
returns-in_err-check-clause-bytes_after c = let x = c.args in
    refused_record (λ (d : Coordinator). receive_of tree d x.me x.message.now) x.bytes.now _ c.in_err-check.ensures (code_counts c.in_err-check.field-0.0)

pub returns-in_err-may_receive-clause-value : goal.returns-in_err-may_receive-clause-value
unfolding received_of called_of receive_of
returns-in_err-may_receive-clause-value c = search rules

pub returns-in_err-may_receive-clause-bytes_after : goal.returns-in_err-may_receive-clause-bytes_after
unfolding record_after kept receive_of
returns-in_err-may_receive-clause-bytes_after c = let x = c.args in
    let e = sym c.in_ok-check.ensures in
    let n = c.in_err-may_receive.ensures (record_of x.bytes.now) in
    let t = ne_eqb _ 0 (λ z. code_counts c.in_err-may_receive.field-0.0 (n ∙ z)) in
    simp (eq-eqb _ 0 e, t, t)

pub returns-clause-value : goal.returns-clause-value
returns-clause-value c = let x = c.args in
    let l = x.bytes.now in
    let m = x.message.now in
    let k = record_of (take 301 l) in
    let f : Coordinator → Step = λ d. receive_of tree d x.me m in
    let goes = delivered_is k x.me m (sym (c.in_ok-may_receive.ensures k)) in
    let t = not-true _ (sym c.has_length.ensures ∙ c.if-not-has_length.false) in
    part_called l (sym c.in_ok-check.ensures) f _ (c.deliver.ensures.value ∙ ap told_by goes) ∙ long_answer x.me m l t

pub returns-clause-bytes_after : goal.returns-clause-bytes_after
returns-clause-bytes_after c = let x = c.args in
    let l = x.bytes.now in
    let m = x.message.now in
    let k = record_of (take 301 l) in
    let f : Coordinator → Step = λ d. receive_of tree d x.me m in
    let goes = delivered_is k x.me m (sym (c.in_ok-may_receive.ensures k)) in
    part_record l (sym c.in_ok-check.ensures) f _ (c.deliver.ensures.bytes_after ∙ ap (λ (s : Step). kept s (take 301 l)) goes)
