-- `wire::verify::rivals_ok`: the pass over what is left from here on is the whole pass.
use mathlib.Core.Path.{◌≡◌}
use Prim.Native.Nat.{◌+◌, ◌-◌, ◌*◌}
use Rattle.wire.specs.Formed.{rival_ok}
use Rattle.wire.specs.Decode.{rival_at, items_from}
use Rattle.wire.specs.Run.{run, owner_in}
use Rattle.wire.proofs.verify.rivals_ok.Given as goal

abbrev pub invariant-loop-i : goal.invariant-loop-i
invariant-loop-i l = run owner_in (rival_ok l.kind l.owner l.to) l.lo (items_from rival_at 5 (l.n - l.i) l.s (l.place + 5 * l.i))
    ≡ run owner_in (rival_ok l.kind l.owner l.to) 0 (items_from rival_at 5 l.n l.s l.place)
