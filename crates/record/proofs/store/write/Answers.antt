-- `record::store::write`: over bytes of a record's length alone.
use mathlib.Core.Path.{◌∙◌}
use borrow.Author.Tests.{eq-eqb, ne_eqb}
use Rattle.record.specs.Layout.{record_size}
use Rattle.record.specs.Record.{written}
use Rattle.record.proofs.Stores.{stored_over}
use Rattle.record.proofs.store.write.Goals as goal

pub returns-then-bytes-eq-SIZE : goal.returns-then-bytes-eq-SIZE
unfolding written
returns-then-bytes-eq-SIZE c = let x = c.args in
    let e = c.if-bytes-eq-SIZE.true in
    let w = c.fill.ensures in
    simp (eq-eqb _ record_size e) (w.bytes_after ∙ stored_over _ x.bytes.now w.c_len e)

pub returns-else-bytes-eq-SIZE : goal.returns-else-bytes-eq-SIZE
unfolding written
returns-else-bytes-eq-SIZE c = simp (ne_eqb _ record_size c.if-bytes-eq-SIZE.false)
