-- `telling::tell`: over buffers of their lengths, and for what is a node.
use mathlib.Core.Path.{sym}
use borrow.Author.Tests.{eq-eqb, ne_eqb, le-ltb, lt-ltb}
use Rattle.buffers.specs.Buffers.{record_in}
use Rattle.service_calls.specs.Lent.{settings_in}
use Rattle.telling.specs.Telling.{told}
use Rattle.telling.proofs.Turns.{nobody_tells}
use Rattle.telling.proofs.tell.Goals as goal

pub returns-then-number-ne0 : goal.returns-then-number-ne0
unfolding told
returns-then-number-ne0 c = simp (ne_eqb _ _ c.if-number-ne0.true)

pub returns-then-records-ne-RECORDS : goal.returns-then-records-ne-RECORDS
unfolding told
returns-then-records-ne-RECORDS c = simp (eq-eqb _ _ c.if-number-ne0.false, ne_eqb _ _ c.if-records-ne-RECORDS.true)

pub returns-then-settings-ne-SETTINGS : goal.returns-then-settings-ne-SETTINGS
unfolding told
returns-then-settings-ne-SETTINGS c = simp
    (eq-eqb _ _ c.if-number-ne0.false, eq-eqb _ _ c.if-records-ne-RECORDS.false, ne_eqb _ _ c.if-settings-ne-SETTINGS.true)

pub returns-then-node-ge-NODES_END : goal.returns-then-node-ge-NODES_END
unfolding told record_in settings_in
returns-then-node-ge-NODES_END c = simp (
  eq-eqb _ _ c.if-number-ne0.false,
  eq-eqb _ _ c.if-records-ne-RECORDS.false,
  eq-eqb _ _ c.if-settings-ne-SETTINGS.false,
  le-ltb _ _ c.if-node-ge-NODES_END.true,
) (sym (nobody_tells _ _ _))

pub returns : goal.returns
unfolding told record_in settings_in
returns c = simp (
  eq-eqb _ _ c.if-number-ne0.false,
  eq-eqb _ _ c.if-records-ne-RECORDS.false,
  eq-eqb _ _ c.if-settings-ne-SETTINGS.false,
  lt-ltb _ _ c.if-node-ge-NODES_END.false,
) c.tell_node.ensures
