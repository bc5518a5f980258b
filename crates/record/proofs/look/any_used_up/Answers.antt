-- `record::look::any_used_up`: what is found from place i on is what is found from the first; one that is used up decides it.
use mathlib.Core.Path.{◌≡◌, sym, ap, ◌∙◌}
use Prim.Native.Nat.{◌+◌, ◌*◌, ◌-◌}
use native.Mathlib.Omega.{arith}
use Rattle.record.specs.Valid.{last_written}
use Rattle.record.proofs.Valid.{object_part}
use Rattle.record.proofs.Places.{used_up_start, used_up_past, used_up_on, used_up_at}
use Rattle.record.proofs.look.any_used_up.Goals as goal

pub returns-then-is_used_up : goal.returns-then-is_used_up
returns-then-is_used_up c = let k = c.loop-i in
    let x = c.args in
    let l = x.bytes.now in
    let at = 43 + 25 * k.i in
    let s : at + 25 - at ≡ 25 = omega arith in
    let e = sym (c.is_used_up.ensures ∙ ap (last_written) (object_part l at _ s)) ∙ c.if-is_used_up.true in
    used_up_at l x.n k.i (omega arith) (omega arith) e ∙ k.invariant ∙ used_up_start l x.n

pub loop-i-preserved : goal.loop-i-preserved
loop-i-preserved c = let k = c.loop-i in
    let x = c.args in
    let l = x.bytes.now in
    let at = 43 + 25 * k.i in
    let s : at + 25 - at ≡ 25 = omega arith in
    let e = sym (c.is_used_up.ensures ∙ ap (last_written) (object_part l at _ s)) ∙ c.if-is_used_up.false in
    used_up_on l x.n k.i (omega arith) (omega arith) e ∙ k.invariant

pub returns : goal.returns
returns c = let k = c.loop-i in
    let x = c.args in
    let l = x.bytes.now in
    sym (used_up_past l x.n k.i (omega arith)) ∙ k.invariant ∙ used_up_start l x.n
