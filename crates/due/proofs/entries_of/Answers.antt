-- `due::entries_of`: what is gathered so far are the entries of the objects passed.
use Prim.Native.Nat.{ℕ}
use mathlib.Core.Path.{◌≡◌, refl, ap, subst}
use mathlib.Core.Bool.{true, false, ◌&&◌}
use lib.Dec.{ltb}
use lib.ListN.{length}
use native.Mathlib.Omega.{arith}
use borrow.Author.Rules.{rules}
use borrow.Author.Tests.{lt-ltb, le-ltb}
use Rattle.numbers.specs.Sizes.{objects as objectsEnd, most_open}
use Rattle.due.specs.Gather.{Lists}
use Rattle.due.specs.Due.{entries_below, entries_of}
use Rattle.due.proofs.Gather.{gathers_none, gathers_more, gathers_same}
use Rattle.due.proofs.entries_of.Goals as goal
use Rattle.due.proofs.entries_of.Goals.{then-p-lt-MOST_OPEN+then-count-lt-MOST_OPEN, else-p-lt-MOST_OPEN}
use Rattle.due.proofs.entries_of.Goals.{else-p-lt-MOST_OPEN-via-then-p-lt-MOST_OPEN+else-count-lt-MOST_OPEN, else-p-lt-MOST_OPEN-via-else-p-lt-MOST_OPEN}

pub loop-place-init : goal.loop-place-init
loop-place-init c = (ap length c.no_entries-entries.ensures, gathers_none c.args.c.objects c.places_of-places.result c.no_entries-entries.result)

pub loop-place-preserved : goal.loop-place-preserved
loop-place-preserved c = let l = c.loop-place in
    let p = c.from-p.result in
    elim c.if-p-lt-MOST_OPEN.branch [
      | then-p-lt-MOST_OPEN+then-count-lt-MOST_OPEN w ↦
          let t : (ltb p most_open && ltb l.count most_open) ≡ true =
          simp (lt-ltb p most_open w.if-p-lt-MOST_OPEN.true, lt-ltb l.count most_open w.if-count-lt-MOST_OPEN.true) in
          rw (w.entries-is, w.count-is) (
            search rules,
            gathers_more c.args.c.objects c.places_of-places.result l.entries l.count l.place-index p (omega arith) c.from-p.ensures
                l.invariant.1 w.entry_for.result l.invariant.0 t w.entry_for.ensures,
          )
      | else-p-lt-MOST_OPEN w ↦
          let t : (ltb p most_open && ltb l.count most_open) ≡ false =
          elim w.else-p-lt-MOST_OPEN.branch [
            | else-p-lt-MOST_OPEN-via-then-p-lt-MOST_OPEN+else-count-lt-MOST_OPEN z ↦
                simp (lt-ltb p most_open z.if-p-lt-MOST_OPEN.true, le-ltb l.count most_open z.if-count-lt-MOST_OPEN.false)
            | else-p-lt-MOST_OPEN-via-else-p-lt-MOST_OPEN z ↦ simp (le-ltb p most_open z.if-p-lt-MOST_OPEN.false)
          ] in
          rw (w.entries-is, w.count-is) (
            l.invariant.0,
            gathers_same c.args.c.objects c.places_of-places.result l.entries l.count l.place-index p (omega arith) c.from-p.ensures
                l.invariant.1 t,
          )
    ]

pub returns : goal.returns
unfolding entries_of
returns c = let l = c.loop-place in
    let x = c.args in
    let last : l.place-index ≡ objectsEnd = omega (arith, c.places_of-places.ensures.result_len) in
    subst (λ (n : ℕ). Lists (record { entries = l.entries; count = l.count }) (entries_below x.c n)) last
    (l.invariant.1 x.c refl c.places_of-places.ensures.by_index)
