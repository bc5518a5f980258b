-- `host::records::senna_coordinator_reselect`: distances of another length, or the call.
use mathlib.Core.Path.{refl, ap, ◌∙◌}
use mathlib.Core.List.{List}
use Prim.Native.Nat.{ℕ}
use borrow.Author.Tests.{ne_eqb}
use Rattle.coordinator.specs.declared.Coordinator.{Coordinator}
use Rattle.coordinator.specs.Step.{Step}
use Rattle.coordinator.specs.System.{tree}
use Rattle.coordinator.specs.Calls.{reselect_of}
use Rattle.host.proofs.Told.{taken_answer, taken_bytes}
use Rattle.host.specs.Records.{answer_with, bytes_with}
use Rattle.host.proofs.records.senna_coordinator_reselect.Goals as goal

pub returns-then-distances-ne-DISTANCES-clause-value : goal.returns-then-distances-ne-DISTANCES-clause-value
unfolding answer_with bytes_with
returns-then-distances-ne-DISTANCES-clause-value c = simp (ne_eqb _ 26 c.if-distances-ne-DISTANCES.true) c.wrong_length.ensures

pub returns-then-distances-ne-DISTANCES-clause-bytes_after : goal.returns-then-distances-ne-DISTANCES-clause-bytes_after
unfolding answer_with bytes_with
returns-then-distances-ne-DISTANCES-clause-bytes_after c = simp (ne_eqb _ 26 c.if-distances-ne-DISTANCES.true) refl

pub returns-clause-value : goal.returns-clause-value
returns-clause-value c = let x = c.args in
    let e = c.if-distances-ne-DISTANCES.false in
    let s : List ℕ → Coordinator → Step = λ y k. reselect_of tree k x.me x.live y in
    let d = ap s c.distances_of-d.ensures in
    let w = c.reselect.ensures in (c.from.ensures ∙ w.value) ∙ taken_answer x.distances.now x.bytes.now _ _ e d

pub returns-clause-bytes_after : goal.returns-clause-bytes_after
returns-clause-bytes_after c = let x = c.args in
    let e = c.if-distances-ne-DISTANCES.false in
    let s : List ℕ → Coordinator → Step = λ y k. reselect_of tree k x.me x.live y in
    let d = ap s c.distances_of-d.ensures in
    let w = c.reselect.ensures in w.bytes_after ∙ taken_bytes x.distances.now x.bytes.now _ _ e d
