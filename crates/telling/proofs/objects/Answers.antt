-- `telling::objects`: what the objects from place i on tell is what is left to tell.
use mathlib.Core.Path.{refl, sym, ap, ◌∙◌}
use mathlib.Core.List.{List}
use Prim.Native.Nat.{ℕ, ◌+◌, min}
use native.Mathlib.Omega.{arith}
use Rattle.numbers.specs.Sizes.{most_open}
use Rattle.coordinator.specs.declared.Object.{Object}
use Rattle.record.specs.Record.{record_of}
use Rattle.telling.specs.Telling.{objects_told}
use Rattle.telling.proofs.Turns.{told_from, tell_again, tell_end, take_few, eight, read_at}
use Rattle.telling.proofs.objects.Goals as goal

pub loop-i-init : goal.loop-i-init
loop-i-init c = refl

pub loop-i-preserved : goal.loop-i-preserved
loop-i-preserved c = let l = c.loop-i in
    let k = c.object in
    let a = c.args in
    let bytes = a.bytes.now in
    let x = c.object_at-x in
    let n = c.min-n in
    let long = eight bytes in
    ap (told_from a.opens a.node (record_of bytes).objects n.result (l.i + 1)) k.ensures
    ∙ tell_again a.opens a.node (record_of bytes).objects n.result (omega (arith, long, n.ensures)) l.i (omega arith) x.result
    (x.ensures ∙ read_at bytes l.i) l.sheet ∙ l.invariant

pub returns : goal.returns
returns c = let l = c.loop-i in
    let a = c.args in
    let bytes = a.bytes.now in
    let n = c.min-n in
    let long = eight bytes in
    let objects = (record_of bytes).objects in
    sym (tell_end a.opens a.node objects n.result (omega (arith, long, n.ensures)) l.i (omega arith) l.sheet) ∙ l.invariant
    ∙ ap (λ (k : ℕ). told_from a.opens a.node objects k 0 a.sheet.now) n.ensures
    ∙ ap (λ (k : ℕ). told_from a.opens a.node objects (min k most_open) 0 a.sheet.now) c.count.ensures
    ∙ ap (λ (m : List Object). objects_told a.opens a.node m a.sheet.now) (take_few (record_of bytes).count most_open objects long)
