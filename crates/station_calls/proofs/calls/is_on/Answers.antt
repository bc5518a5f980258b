-- `station_calls::calls::is_on`: the tests in their order.
use borrow.Author.Tests.{lt-ltb, le-ltb}
use Rattle.numbers.specs.Sizes.{every_node}
use Rattle.station_calls.specs.Calls.{is_on}
use Rattle.station_calls.proofs.calls.is_on.Goals as goal

pub returns-then-either : goal.returns-then-either
unfolding is_on
returns-then-either c = rw (← c.either.ensures) (simp c.if-either.true)

pub returns-then-nodes-gt-EVERY_NODE : goal.returns-then-nodes-gt-EVERY_NODE
unfolding is_on
returns-then-nodes-gt-EVERY_NODE c = rw (← c.on-nodes.ensures, ← c.either.ensures)
    (simp (c.if-either.false, lt-ltb every_node _ c.if-nodes-gt-EVERY_NODE.true))

pub returns : goal.returns
unfolding is_on
returns c = rw (← c.on-nodes.ensures, ← c.either.ensures, ← c.has.ensures)
    (simp (c.if-either.false, le-ltb every_node _ c.if-nodes-gt-EVERY_NODE.false))
