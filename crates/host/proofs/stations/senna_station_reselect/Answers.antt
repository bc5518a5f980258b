-- `host::stations::senna_station_reselect`: distances of another length, or the step.
use mathlib.Core.Path.{refl, ◌∙◌}
use mathlib.Core.List.{List}
use Prim.Native.Nat.{ℕ}
use borrow.Author.Tests.{ne_eqb}
use Rattle.steps.specs.Step.{Call, reselect}
use Rattle.buffers.specs.Buffers.{ends}
use Rattle.host.proofs.Told.{taken_told, taken_records}
use Rattle.host.specs.Stations.{told_with, records_with}
use Rattle.host.proofs.stations.senna_station_reselect.Goals as goal

pub returns-then-distances-ne-DISTANCES-clause-value : goal.returns-then-distances-ne-DISTANCES-clause-value
unfolding told_with records_with
returns-then-distances-ne-DISTANCES-clause-value c = simp (ne_eqb _ 26 c.if-distances-ne-DISTANCES.true) c.wrong_length.ensures

pub returns-then-distances-ne-DISTANCES-clause-records_after : goal.returns-then-distances-ne-DISTANCES-clause-records_after
unfolding told_with records_with
returns-then-distances-ne-DISTANCES-clause-records_after c = simp (ne_eqb _ 26 c.if-distances-ne-DISTANCES.true) refl

pub returns-clause-value : goal.returns-clause-value
returns-clause-value c = let x = c.args in
    let e = c.if-distances-ne-DISTANCES.false in
    let b = ends x.records.now x.own.now in
    let f : List ℕ → Call = reselect x.node x.live in
    let d = c.distances_of-d.ensures in
    let w = c.reselect.ensures in w.value ∙ taken_told x.distances.now _ b x.node f e d

pub returns-clause-records_after : goal.returns-clause-records_after
returns-clause-records_after c = let x = c.args in
    let e = c.if-distances-ne-DISTANCES.false in
    let b = ends x.records.now x.own.now in
    let f : List ℕ → Call = reselect x.node x.live in
    let d = c.distances_of-d.ensures in
    let w = c.reselect.ensures in w.records_after ∙ taken_records x.distances.now _ b x.node f e d
