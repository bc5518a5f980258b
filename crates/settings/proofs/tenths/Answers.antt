-- `settings::tenths`: those left over where the last one was a committed batch, else those that waited.
use mathlib.Core.Path.{◌∙◌}
use Rattle.record.specs.Record.{record_of}
use Rattle.settings.proofs.Finds.{decided_is, tenths_left, tenths_waited}
use Rattle.settings.proofs.tenths.Goals as goal

pub returns-then-both : goal.returns-then-both
unfolding record_of
returns-then-both c = let x = c.args in
    let r = record_of x.bytes.now in
    let d = decided_is r _ _ _ _ c.get_u8-committed.ensures c.phase-at.ensures c.either.ensures
    c.both-decided.ensures in
    c.eight.ensures ∙ tenths_left r x.settings.now _ _ c.is_adding.ensures d _ c.both.ensures
    c.if-both.true

pub returns : goal.returns
unfolding record_of
returns c = let x = c.args in
    let r = record_of x.bytes.now in
    let d = decided_is r _ _ _ _ c.get_u8-committed.ensures c.phase-at.ensures c.either.ensures
    c.both-decided.ensures in
    c.eight-2.ensures ∙ tenths_waited r x.settings.now _ _ c.is_adding.ensures d _ c.both.ensures
    c.if-both.false
