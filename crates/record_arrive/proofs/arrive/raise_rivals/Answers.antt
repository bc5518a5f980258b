-- `record_arrive::arrive::raise_rivals`: none, or those that are raised.
use mathlib.Core.Path.{sym, ◌∙◌}
use native.Mathlib.Omega.{arith}
use Rattle.octets.proofs.Laws.{Bytes}
use Rattle.record.specs.Record.{record_of}
use Rattle.record_arrive.proofs.Stored.{none_raised, rivals_stored}
use Rattle.record_arrive.proofs.arrive.raise_rivals.Goals as goal

pub returns-then-rivals-eq0-clause-bytes_after : goal.returns-then-rivals-eq0-clause-bytes_after
returns-then-rivals-eq0-clause-bytes_after c = let x = c.args in
    let l = x.bytes.now in
    let small : Bytes l = λ j. omega (arith, c.type_inv.bytes j)
    in (none_raised l small c.requires x.m.now _ (sym c.rivals.ensures.0 ∙ c.if-rivals-eq0.true)).0

pub returns-then-rivals-eq0-clause-m_len : goal.returns-then-rivals-eq0-clause-m_len
returns-then-rivals-eq0-clause-m_len c = let x = c.args in
    let l = x.bytes.now in
    let small : Bytes l = λ j. omega (arith, c.type_inv.bytes j)
    in (none_raised l small c.requires x.m.now _ (sym c.rivals.ensures.0 ∙ c.if-rivals-eq0.true)).1

pub returns-clause-bytes_after : goal.returns-clause-bytes_after
unfolding record_of
returns-clause-bytes_after c = let x = c.args in
    let l = x.bytes.now in
    let small : Bytes l = λ j. omega (arith, c.slice_known-1.given j) in
    let raised = c.raised_by-rivals.ensures in
    let read = c.rivals_of.ensures in
    let long = rw (raised, read) at c.put_rivals.ensures.list_len
    in rw (c.put_rivals.ensures.bytes_after, raised, read) (rivals_stored l small c.requires _ long)

pub returns-clause-m_len : goal.returns-clause-m_len
unfolding record_of
returns-clause-m_len c = let x = c.args in
    let l = x.bytes.now in
    let small : Bytes l = λ j. omega (arith, c.slice_known-1.given j) in
    let raised = c.raised_by-rivals.ensures in
    let read = c.rivals_of.ensures in
    let long = rw (raised, read) at c.put_rivals.ensures.list_len in long
