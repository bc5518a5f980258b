-- `record_due::duties::entries_in`: what is gathered so far are the entries of the objects below `lo`.
use Prim.Native.Nat.{ℕ, ◌<◌}
use mathlib.Core.Path.{◌≡◌, ap, subst, ◌∙◌}
use lib.ListN.{length}
use native.Mathlib.Omega.{arith}
use borrow.Author.Rules.{rules}
use borrow.Author.Tests.{ltb-true}
use Rattle.numbers.specs.Sizes.{objects, most_open}
use Rattle.coordinator.specs.declared.Object.{Object}
use Rattle.due.specs.Gather.{Lists}
use Rattle.due.specs.Due.{entry_for, entries_of}
use Rattle.record.specs.Record.{record_of}
use Rattle.record.proofs.Stored.{readable}
use Rattle.record_due.proofs.Gather.{gathered, gather_start, gather_open, gather_end, gather_full}
use Rattle.record_due.proofs.duties.entries_in.Goals as goal

pub loop-k-init : goal.loop-k-init
loop-k-init c = let x = c.args in
    (ap length c.no_entries-entries.ensures, (omega arith, gather_start (record_of x.bytes.now) c.no_entries-entries.result))

pub returns-in_default : goal.returns-in_default
returns-in_default c = let x = c.args in
    let k = c.loop-k in
    gather_end (record_of x.bytes.now) k.entries k.k k.lo objects k.invariant.1.0 c.in_default.ensures k.invariant.1.1 (omega arith) (omega arith)

pub place-p-requires : goal.place-p-requires
place-p-requires c = readable _ c.requires

pub bounds-entries-k : goal.bounds-entries-k
bounds-entries-k c = let z = readable _ c.requires in
    omega (arith, z.1, c.count-n.ensures)

pub loop-k-preserved : goal.loop-k-preserved
unfolding record_of
loop-k-preserved c = let z = readable _ c.requires in
    let q : c.loop-k.k < most_open = omega (arith, z.1, c.count-n.ensures) in
    let x = c.args in
    let k = c.loop-k in
    let m = c.in-Some.m in
    let next = c.in-Some.ensures in
    let p = c.place-p in
    let e = c.entry_for.ensures ∙ ap (λ (y : Object). entry_for y) c.object_at.ensures in
    let there = ltb-true _ _ next.1.1.1 in (
      search rules,
      (
        omega (arith, next.1.0),
        gather_open (record_of x.bytes.now) k.entries k.k k.lo m next.0 next.1.1.0 k.invariant.1.1
            p.result c.entry_for.result k.invariant.0 q p.ensures.0 (omega (arith, p.ensures.0, there)) e,
      ),
    )

pub returns : goal.returns
returns c = let x = c.args in
    let k = c.loop-k in
    let last : k.k ≡ c.count-n.result = omega arith in
    subst (λ (i : ℕ). Lists (gathered k.entries i) (entries_of (record_of x.bytes.now))) last
    (gather_full x.bytes.now c.requires k.entries k.k k.lo k.invariant.1.0 (omega (arith, c.count-n.ensures)) k.invariant.1.1)
