-- `record::look::place`: what is found from place i on is what is found from the first.
use Prim.Native.Nat.{ℕ}
use mathlib.Core.Path.{sym, ap, ◌∙◌}
use native.Mathlib.Omega.{arith}
use Rattle.coordinator.specs.State.{place_in}
use Rattle.record.specs.Record.{objects_of, record_of}
use Rattle.record.proofs.Places.{place_start_lem, place_past, place_here, place_not_here}
use Rattle.record.proofs.look.place.Goals as goal

pub returns-then-bytes-i : goal.returns-then-bytes-i
unfolding record_of
returns-then-bytes-i c = let x = c.args in
    let n = c.count-n in
    let k = c.loop-i in
    let found =
    place_here x.bytes.now n.result x.object k.i (omega (arith, n.ensures)) (omega arith) c.if-bytes-i.true
    ∙ k.invariant
    ∙ place_start_lem x.bytes.now n.result x.object
    ∙ ap (λ (j : ℕ). place_in (objects_of x.bytes.now) j x.object) n.ensures in
    (found, omega (arith, n.ensures))

pub loop-i-preserved : goal.loop-i-preserved
loop-i-preserved c = let x = c.args in
    let n = c.count-n in
    let k = c.loop-i in
    place_not_here x.bytes.now n.result x.object k.i (omega (arith, n.ensures)) (omega arith) c.if-bytes-i.false ∙ k.invariant

pub returns : goal.returns
unfolding record_of
returns c = let x = c.args in
    let n = c.count-n in
    let k = c.loop-i in
    let none =
    sym (place_past x.bytes.now n.result x.object k.i (omega arith))
    ∙ k.invariant
    ∙ place_start_lem x.bytes.now n.result x.object
    ∙ ap (λ (j : ℕ). place_in (objects_of x.bytes.now) j x.object) n.ensures in
    (none, omega arith)
