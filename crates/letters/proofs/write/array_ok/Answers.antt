-- `letters::write::array_ok`: the pass over what is left from here on is the whole pass.
use mathlib.Core.List.{List}
use native.Mathlib.Omega.{arith}
use native.Mathlib.Numerals.{add-one}
use lib.ListN.{take, drop_of_length-le}
use lib.Seq.{drop-cons}
use Rattle.wire.specs.declared.Entry.{Entry}
use Rattle.wire.specs.Formed.{entry_ok}
use Rattle.wire.specs.Items.{no_entry}
use Rattle.wire.specs.Run.{object_of}
use Rattle.wire.proofs.Accepted.{run_again, run_stop, run_end}
use Rattle.letters.proofs.write.array_ok.Goals as goal

pub returns-then-not-entry_fits-clause-value : goal.returns-then-not-entry_fits-clause-value
returns-then-not-entry_fits-clause-value c =
    let l = c.loop-entry in
    let a = c.args in
    let es : List Entry = take a.n a.entries in
    let step = drop-cons es l.entry-index no_entry (omega arith) in
    run_stop object_of (entry_ok 3) l.lo c.entry_fits.result _ _ _ _ step c.entry_fits.ensures c.if-not-entry_fits.true l.invariant

pub loop-entry-preserved : goal.loop-entry-preserved
loop-entry-preserved c =
    let l = c.loop-entry in
    let a = c.args in
    let es : List Entry = take a.n a.entries in
    let step = drop-cons es l.entry-index no_entry (omega arith) in
    rw add-one
    (run_again object_of (entry_ok 3) l.lo c.entry_fits.result _ _ _ _ _ step c.entry_fits.ensures c.if-not-entry_fits.false
    c.above-lo.ensures l.invariant)

pub returns-clause-value : goal.returns-clause-value
returns-clause-value c =
    let l = c.loop-entry in
    let a = c.args in
    run_end object_of (entry_ok 3) l.lo _ _ (drop_of_length-le (take a.n a.entries) {i = l.entry-index} (omega arith)) l.invariant
