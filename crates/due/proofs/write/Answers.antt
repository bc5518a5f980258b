-- `due::write`: refused, or nothing due, or the message of the kind that is due.
use mathlib.Core.Path.{sym, ◌∙◌}
use lib.ListN.{length}
use borrow.Author.Tests.{lt-ltb, le-ltb}
use Rattle.numbers.specs.Sizes.{longest_message}
use Rattle.coordinator.specs.System.{tree}
use Rattle.due.proofs.Tell.{short_not, short_written, due_test, written_taken, written_left, buffer_taken, buffer_left}
use Rattle.due.proofs.write.Goals as goal

pub returns-then-out-lt-LONGEST_MESSAGE-clause-value : goal.returns-then-out-lt-LONGEST_MESSAGE-clause-value
returns-then-out-lt-LONGEST_MESSAGE-clause-value c = let x = c.args in
    let t = lt-ltb (length x.out.now) longest_message c.if-out-lt-LONGEST_MESSAGE.true in
    let f = short_not tree x.c x.me x.node x.object (length x.out.now) t in
    short_written tree x.c x.me x.node x.object (length x.out.now) t

pub returns-then-out-lt-LONGEST_MESSAGE-clause-out_after : goal.returns-then-out-lt-LONGEST_MESSAGE-clause-out_after
returns-then-out-lt-LONGEST_MESSAGE-clause-out_after c = let x = c.args in
    let t = lt-ltb (length x.out.now) longest_message c.if-out-lt-LONGEST_MESSAGE.true in
    let f = short_not tree x.c x.me x.node x.object (length x.out.now) t in
    buffer_left tree x.c x.me x.node x.object x.out.now f

pub returns-then-both-clause-value : goal.returns-then-both-clause-value
returns-then-both-clause-value c = let x = c.args in
    let d = c.due-d.ensures in
    let l = le-ltb (length x.out.now) longest_message c.if-out-lt-LONGEST_MESSAGE.false in
    let t = due_test tree x.c x.me x.node x.object (length x.out.now) l _ d
    (sym c.both.ensures ∙ c.if-both.true) in
    let w = c.send.ensures in
    w.value ∙ written_taken tree x.c x.me x.node x.object (length x.out.now) t _ d

pub returns-then-both-clause-out_after : goal.returns-then-both-clause-out_after
returns-then-both-clause-out_after c = let x = c.args in
    let d = c.due-d.ensures in
    let l = le-ltb (length x.out.now) longest_message c.if-out-lt-LONGEST_MESSAGE.false in
    let t = due_test tree x.c x.me x.node x.object (length x.out.now) l _ d
    (sym c.both.ensures ∙ c.if-both.true) in
    let w = c.send.ensures in
    w.out_after ∙ buffer_taken tree x.c x.me x.node x.object x.out.now t _ d

pub returns-else-both-clause-value : goal.returns-else-both-clause-value
returns-else-both-clause-value c = let x = c.args in
    let d = c.due-d.ensures in
    let l = le-ltb (length x.out.now) longest_message c.if-out-lt-LONGEST_MESSAGE.false in
    let t = due_test tree x.c x.me x.node x.object (length x.out.now) l _ d
    (sym c.both.ensures ∙ c.if-both.false) in
    written_left tree x.c x.me x.node x.object (length x.out.now) l t _ d

pub returns-else-both-clause-out_after : goal.returns-else-both-clause-out_after
returns-else-both-clause-out_after c = let x = c.args in
    let d = c.due-d.ensures in
    let l = le-ltb (length x.out.now) longest_message c.if-out-lt-LONGEST_MESSAGE.false in
    let t = due_test tree x.c x.me x.node x.object (length x.out.now) l _ d
    (sym c.both.ensures ∙ c.if-both.false) in
    buffer_left tree x.c x.me x.node x.object x.out.now t
