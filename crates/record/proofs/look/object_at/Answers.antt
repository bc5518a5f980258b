-- `record::look::object_at`: the object that starts there.
use mathlib.Core.Path.{sym, ◌∙◌}
use native.Mathlib.Omega.{arith}
use lib.ListN.{get_or-eq_default}
use Rattle.numbers.specs.Sizes.{most_open}
use Rattle.wire.specs.Decode.{items_from}
use Rattle.wire.proofs.Accepted.{length_items}
use Rattle.coordinator.specs.State.{no_object}
use Rattle.record.specs.Record.{object_of, objects_of}
use Rattle.record.proofs.Items.{get_d_items}
use Rattle.record.proofs.look.object_at.Goals as goal

pub returns-then-p-lt-MOST_OPEN : goal.returns-then-p-lt-MOST_OPEN
unfolding objects_of
returns-then-p-lt-MOST_OPEN c = c.object_of.ensures ∙ sym (get_d_items object_of 25 c.args.bytes.now no_object most_open 43
    c.args.p (omega arith))

pub returns-else-p-lt-MOST_OPEN : goal.returns-else-p-lt-MOST_OPEN
unfolding objects_of
returns-else-p-lt-MOST_OPEN c = let l = c.args.bytes.now in
    let m = length_items object_of 25 l most_open 43 in
    sym (get_or-eq_default (items_from object_of 25 most_open l 43) no_object (omega (arith, m, c.if-p-lt-MOST_OPEN.false)))
