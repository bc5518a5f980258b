-- `record_due::duties::write`: refused, or nothing due, or the message of the kind that is due.
use mathlib.Core.Path.{sym, ◌∙◌}
use lib.ListN.{length}
use borrow.Author.Tests.{le-ltb}
use Rattle.numbers.specs.Sizes.{longest_message}
use Rattle.coordinator.specs.System.{tree}
use Rattle.due.proofs.Tell.{due_test, written_taken, written_left, buffer_taken, buffer_left}
use Rattle.record.specs.Record.{record_of}
use Rattle.record.proofs.Stored.{readable}
use Rattle.record_due.proofs.duties.write.Goals as goal

pub due_in-d-requires : goal.due_in-d-requires
due_in-d-requires c = readable _ c.requires.bytes_value

pub returns-then-both-clause-value : goal.returns-then-both-clause-value
returns-then-both-clause-value c = let x = c.args in
    let d = c.due_in-d.ensures in
    let l = le-ltb (length x.out.now) longest_message
    c.requires.longest_message_in_bounds in
    let t = due_test tree (record_of x.bytes.now) x.me x.node x.object (length x.out.now) l _ d
    (sym c.both.ensures ∙ c.if-both.true) in
    let w = c.send.ensures in
    w.value ∙ written_taken tree (record_of x.bytes.now) x.me x.node x.object (length x.out.now) t _ d

pub returns-then-both-clause-out_after : goal.returns-then-both-clause-out_after
returns-then-both-clause-out_after c = let x = c.args in
    let d = c.due_in-d.ensures in
    let l = le-ltb (length x.out.now) longest_message
    c.requires.longest_message_in_bounds in
    let t = due_test tree (record_of x.bytes.now) x.me x.node x.object (length x.out.now) l _ d
    (sym c.both.ensures ∙ c.if-both.true) in
    let w = c.send.ensures in
    w.out_after ∙ buffer_taken tree (record_of x.bytes.now) x.me x.node x.object x.out.now t _ d

pub returns-else-both-clause-value : goal.returns-else-both-clause-value
returns-else-both-clause-value c = let x = c.args in
    let d = c.due_in-d.ensures in
    let l = le-ltb (length x.out.now) longest_message c.requires.longest_message_in_bounds in
    let t = due_test tree (record_of x.bytes.now) x.me x.node x.object (length x.out.now) l _ d
    (sym c.both.ensures ∙ c.if-both.false) in
    written_left tree (record_of x.bytes.now) x.me x.node x.object (length x.out.now) l t _ d

pub returns-else-both-clause-out_after : goal.returns-else-both-clause-out_after
returns-else-both-clause-out_after c = let x = c.args in
    let d = c.due_in-d.ensures in
    let l = le-ltb (length x.out.now) longest_message c.requires.longest_message_in_bounds in
    let t = due_test tree (record_of x.bytes.now) x.me x.node x.object (length x.out.now) l _ d
    (sym c.both.ensures ∙ c.if-both.false) in
    buffer_left tree (record_of x.bytes.now) x.me x.node x.object x.out.now t
