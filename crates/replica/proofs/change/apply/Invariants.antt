-- `replica::change::apply`: the entries passed are applied, and the rest is to be.
use mathlib.Core.Path.{◌≡◌}
use lib.ListN.{length}
use Rattle.wire.specs.Decode.{decode, owner_of, serial_of}
use mathlib.Core.Bool.{true}
use Rattle.wire.specs.Formed.{every}
use Rattle.replica.specs.Steps.{applied}
use Rattle.replica.specs.Given.{raisable}
use Rattle.judge.proofs.Passes.{rest}
use Rattle.replica.proofs.change.apply.Given as goal

abbrev pub invariant-loop-i : goal.invariant-loop-i
invariant-loop-i l = (length l.image ≡ length l.initial.image)
    × (applied l.image (owner_of l.message) (serial_of l.message) (rest l.message l.i)
    ≡ applied l.initial.image (owner_of l.message) (serial_of l.message) (decode l.message).entries)
    × (every raisable (rest l.message l.i) ≡ true)
