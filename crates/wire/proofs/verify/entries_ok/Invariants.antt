-- `wire::verify::entries_ok`: the pass over what is left from here on is the whole pass.
use mathlib.Core.Path.{◌≡◌}
use Prim.Native.Nat.{◌+◌, ◌-◌, ◌*◌}
use Rattle.wire.specs.Formed.{entry_ok}
use Rattle.wire.specs.Decode.{entry_at, items_from, entries_place}
use Rattle.wire.specs.Run.{run, object_of}
use Rattle.wire.proofs.verify.entries_ok.Given as goal

abbrev pub invariant-loop-i : goal.invariant-loop-i
invariant-loop-i l = run object_of (entry_ok l.kind) l.lo (items_from entry_at 14 (l.n - l.i) l.s (entries_place + 14 * l.i))
    ≡ run object_of (entry_ok l.kind) 0 (items_from entry_at 14 l.n l.s entries_place)
