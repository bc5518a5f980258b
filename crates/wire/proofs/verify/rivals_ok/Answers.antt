-- `wire::verify::rivals_ok`: the pass over what is left from here on is the whole pass.
use mathlib.Core.Path.{◌≡◌, sym, ap, ◌∙◌}
use Prim.Native.Nat.{ℕ, ◌+◌, ◌-◌, ◌*◌}
use native.Mathlib.Omega.{arith}
use mathlib.Core.List.{◌∷◌}
use Rattle.wire.specs.declared.Rival.{Rival}
use Rattle.wire.specs.Formed.{rival_ok}
use Rattle.wire.specs.Decode.{rival_at, items_from}
use Rattle.wire.specs.Run.{owner_in}
use Rattle.wire.proofs.Accepted.{items_step, items_end, run_again, run_stop, run_end}
use Rattle.wire.proofs.RoundTrip.{rival_in_lem}
use Rattle.wire.proofs.verify.rivals_ok.Goals as goal

pub returns-then-not-rival_fits : goal.returns-then-not-rival_fits
returns-then-not-rival_fits c =
    let l = c.loop-i in
    let x = c.args in
    let s = x.s.now in
    let at = x.place + 5 * l.i in
    let left = x.n - l.i in
    let k : ℕ = at + 5 - at in
    let z : k ≡ 5 = omega arith in
    let step = items_step rival_at 5 s left at (omega arith)
    ∙ ap (λ (y : Rival). y ∷ items_from rival_at 5 (left - 1) s (at + 5)) (sym (c.rival_at-r.ensures ∙ rival_in_lem s at k z)) in
    run_stop owner_in (rival_ok x.kind x.owner x.to) l.lo c.rival_fits.result _ _ _ _ step c.rival_fits.ensures c.if-not-rival_fits.true l.invariant

pub loop-i-preserved : goal.loop-i-preserved
loop-i-preserved c =
    let l = c.loop-i in
    let x = c.args in
    let s = x.s.now in
    let at = x.place + 5 * l.i in
    let left = x.n - l.i in
    let k : ℕ = at + 5 - at in
    let z : k ≡ 5 = omega arith in
    let step = items_step rival_at 5 s left at (omega arith)
    ∙ ap (λ (y : Rival). y ∷ items_from rival_at 5 (left - 1) s (at + 5)) (sym (c.rival_at-r.ensures ∙ rival_in_lem s at k z)) in
    let fewer : x.n - (l.i + 1) ≡ left - 1 = omega arith in
    let next : x.place + 5 * (l.i + 1) ≡ at + 5 = omega arith in
    rw (fewer, next)
    (run_again owner_in (rival_ok x.kind x.owner x.to) l.lo c.rival_fits.result _ _ _ _ _ step c.rival_fits.ensures c.if-not-rival_fits.false
    c.above-lo.ensures l.invariant)

pub returns : goal.returns
returns c =
    let l = c.loop-i in
    let x = c.args in
    let end = items_end rival_at 5 x.s.now (x.n - l.i) (x.place + 5 * l.i) (omega arith) in
    run_end owner_in (rival_ok x.kind x.owner x.to) l.lo _ _ end l.invariant
