-- `record::look::all_settled`: what holds from place i on is what holds from the first; one that is not settled decides it.
use mathlib.Core.Path.{◌≡◌, sym, ap, ◌∙◌}
use Prim.Native.Nat.{◌+◌, ◌*◌, ◌-◌}
use native.Mathlib.Omega.{arith}
use Rattle.coordinator.specs.System.{tree}
use Rattle.coordinator.specs.State.{settled}
use Rattle.record.proofs.Valid.{object_part}
use Rattle.record.proofs.Places.{settled_start, settled_past, settled_on, unsettled_at}
use Rattle.record.proofs.look.all_settled.Goals as goal

pub returns-then-not-is_settled : goal.returns-then-not-is_settled
returns-then-not-is_settled c = let k = c.loop-i in
    let x = c.args in
    let l = x.bytes.now in
    let at = 43 + 25 * k.i in
    let s : at + 25 - at ≡ 25 = omega arith in
    let e = sym (c.is_settled.ensures ∙ ap (settled tree) (object_part l at _ s)) ∙ c.if-not-is_settled.true in
    unsettled_at l x.n k.i (omega arith) (omega arith) e ∙ k.invariant ∙ settled_start l x.n

pub loop-i-preserved : goal.loop-i-preserved
loop-i-preserved c = let k = c.loop-i in
    let x = c.args in
    let l = x.bytes.now in
    let at = 43 + 25 * k.i in
    let s : at + 25 - at ≡ 25 = omega arith in
    let e = sym (c.is_settled.ensures ∙ ap (settled tree) (object_part l at _ s)) ∙ c.if-not-is_settled.false in
    settled_on l x.n k.i (omega arith) (omega arith) e ∙ k.invariant

pub returns : goal.returns
returns c = let k = c.loop-i in
    let x = c.args in
    let l = x.bytes.now in
    sym (settled_past l x.n k.i (omega arith)) ∙ k.invariant ∙ settled_start l x.n
