-- `replay::take`: the owner's place and new value, or nothing.
use mathlib.Core.Path.{sym}
use Rattle.replay.proofs.Steps.{taken_when, taken_else}
use Rattle.replay.proofs.take.Goals as goal

pub returns-then-is_taken : goal.returns-then-is_taken
returns-then-is_taken c = let x = c.args in
    let law = taken_when x.sheet.now x.o x.t (cc) in
    cc

pub returns-else-is_taken : goal.returns-else-is_taken
returns-else-is_taken c = let x = c.args in
    sym (taken_else x.sheet.now x.o x.t (cc))
