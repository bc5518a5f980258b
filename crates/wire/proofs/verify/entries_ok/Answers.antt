-- `wire::verify::entries_ok`: the pass over what is left from here on is the whole pass.
use mathlib.Core.Path.{◌≡◌, sym, ap, ◌∙◌}
use Prim.Native.Nat.{ℕ, ◌+◌, ◌-◌, ◌*◌}
use native.Mathlib.Omega.{arith}
use mathlib.Core.List.{◌∷◌}
use Rattle.wire.specs.declared.Entry.{Entry}
use Rattle.wire.specs.Formed.{entry_ok}
use Rattle.wire.specs.Decode.{entry_at, items_from, entries_place}
use Rattle.wire.specs.Run.{object_of}
use Rattle.wire.proofs.Accepted.{items_step, items_end, run_again, run_stop, run_end}
use Rattle.wire.proofs.RoundTrip.{entry_in}
use Rattle.wire.proofs.verify.entries_ok.Goals as goal

pub returns-then-not-entry_fits : goal.returns-then-not-entry_fits
returns-then-not-entry_fits c =
    let l = c.loop-i in
    let x = c.args in
    let s = x.s.now in
    let at = entries_place + 14 * l.i in
    let left = x.n - l.i in
    let k : ℕ = at + 14 - at in
    let z : k ≡ 14 = omega arith in
    let step = items_step entry_at 14 s left at (omega arith)
    ∙ ap (λ (y : Entry). y ∷ items_from entry_at 14 (left - 1) s (at + 14)) (sym (c.entry_at-e.ensures ∙ entry_in s at k z)) in
    run_stop object_of (entry_ok x.kind) l.lo c.entry_fits.result _ _ _ _ step c.entry_fits.ensures c.if-not-entry_fits.true l.invariant

pub loop-i-preserved : goal.loop-i-preserved
loop-i-preserved c =
    let l = c.loop-i in
    let x = c.args in
    let s = x.s.now in
    let at = entries_place + 14 * l.i in
    let left = x.n - l.i in
    let k : ℕ = at + 14 - at in
    let z : k ≡ 14 = omega arith in
    let step = items_step entry_at 14 s left at (omega arith)
    ∙ ap (λ (y : Entry). y ∷ items_from entry_at 14 (left - 1) s (at + 14)) (sym (c.entry_at-e.ensures ∙ entry_in s at k z)) in
    let fewer : x.n - (l.i + 1) ≡ left - 1 = omega arith in
    let next : entries_place + 14 * (l.i + 1) ≡ at + 14 = omega arith in
    rw (fewer, next)
    (run_again object_of (entry_ok x.kind) l.lo c.entry_fits.result _ _ _ _ _ step c.entry_fits.ensures c.if-not-entry_fits.false
    c.above-lo.ensures l.invariant)

pub returns : goal.returns
returns c =
    let l = c.loop-i in
    let x = c.args in
    let end = items_end entry_at 14 x.s.now (x.n - l.i) (entries_place + 14 * l.i) (omega arith) in
    run_end object_of (entry_ok x.kind) l.lo _ _ end l.invariant
