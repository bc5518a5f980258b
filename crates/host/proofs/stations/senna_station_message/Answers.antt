-- `host::stations::senna_station_message`: the refusals in their order, then place and length.
use mathlib.Core.Path.{sym, ap, ◌∙◌}
use Prim.Native.Nat.{◌<◌, ◌≤◌}
use native.Mathlib.Omega.{arith}
use Rattle.pool.specs.Pool.{count}
use Rattle.host.proofs.Told.{missing, look_damaged, look_none, look_there}
use Rattle.host.proofs.stations.senna_station_message.Goals as goal

pub returns-then-number-ne0 : goal.returns-then-number-ne0
returns-then-number-ne0 c = let x = c.args in
    let e = (c.number-number.ensures ∙ c.check.ensures) in
    c.not_there.ensures ∙ ap missing e ∙ sym (look_damaged x.pool.now x.k (λ h. c.if-number-ne0.true (e ∙ h)))

pub returns-then-count-from : goal.returns-then-count-from
returns-then-count-from c = let x = c.args in
    let e = sym (c.number-number.ensures ∙ c.check.ensures) ∙ c.if-number-ne0.false in
    let n = c.count.ensures.0 in
    let t = c.if-count-from.true in
    let h : count x.pool.now ≤ x.k = omega arith in
    c.not_there-then-count-from.ensures ∙ sym (look_none x.pool.now x.k e h)

pub returns : goal.returns
returns c = let x = c.args in
    let e = sym (c.number-number.ensures ∙ c.check.ensures) ∙ c.if-number-ne0.false in
    let n = c.count.ensures.0 in
    let t = c.if-count-from.false in
    let h : x.k < count x.pool.now = omega arith in
    let p = c.place.ensures in
    let q = c.length.ensures in
    (λ i. record { number = 0; place = p i; length = q i }) ∙ sym (look_there x.pool.now x.k e h)
