-- `replica::change::hold`: the copies of the entries passed are held, and the rest is to be.
use mathlib.Core.Path.{◌≡◌}
use lib.ListN.{length}
use Rattle.wire.specs.Decode.{decode}
use Rattle.wire.specs.Decode.{owner_of}
use Rattle.replica.specs.Steps.{holding}
use Rattle.judge.proofs.Passes.{rest}
use Rattle.replica.proofs.change.hold.Given as goal

abbrev pub invariant-loop-i : goal.invariant-loop-i
invariant-loop-i l = (length l.image ≡ length l.initial.image)
    × (holding l.image (owner_of l.message) (rest l.message l.i) ≡ holding l.initial.image (owner_of l.message) (decode l.message).entries)
