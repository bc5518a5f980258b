-- `increments::any_past`: whether each new value from place i on fits is whether all do.
use Rattle.std.proofs.Common.{◌≡◌, ℕ, ◌≤◌, not, List, length, sym, ap, ◌∙◌, arith}
use Rattle.record.specs.Record.{record_of, check}
use Rattle.record.proofs.Kept.{checked_meets}
use Rattle.increments.specs.Deeds.{any_past}
use Rattle.increments.proofs.Turns.{fits_from, read_at, past_stop, past_again, past_end}
use Rattle.increments.proofs.any_past.Goals as goal

-- there are places for all that are counted
long : (l : List ℕ) → check l ≡ 0 → (n : ℕ) → n ≡ (record_of l).count → n ≤ length (record_of l).objects
long l e n h = let m = checked_meets l e in omega (arith, m.sizes.objects_8, m.objects.eight_at_most)

pub returns-then-is_past : goal.returns-then-is_past
unfolding any_past
returns-then-is_past c = let k = c.loop-i in
    let l = c.args.bytes.now in
    let n = c.count-n in
    let e = past_stop (record_of l) n.result (long l c.requires _ n.ensures) k.i (omega arith) _
    (c.object_at-x.ensures ∙ read_at l k.i) _ c.is_past.ensures c.if-is_past.true in
    ap not (sym e ∙ k.invariant) ∙ ap (λ (j : ℕ). not (fits_from (record_of l) j 0)) n.ensures

pub loop-i-preserved : goal.loop-i-preserved
loop-i-preserved c = let k = c.loop-i in
    let l = c.args.bytes.now in
    let n = c.count-n in
    let e = past_again (record_of l) n.result (long l c.requires _ n.ensures) k.i (omega arith) _
    (c.object_at-x.ensures ∙ read_at l k.i) _ c.is_past.ensures c.if-is_past.false in
    e ∙ k.invariant

pub returns : goal.returns
unfolding any_past
returns c = let k = c.loop-i in
    let l = c.args.bytes.now in
    let n = c.count-n in
    let e = past_end (record_of l) n.result (long l c.requires _ n.ensures) k.i (omega arith) in
    ap not (sym e ∙ k.invariant) ∙ ap (λ (j : ℕ). not (fits_from (record_of l) j 0)) n.ensures
