-- `arrivals::raised_by`: what is raised so far, and by the rivals left, is what all of them raise.
use Prim.Native.Nat.{◌-◌}
use mathlib.Core.Path.{◌≡◌}
use Rattle.wire.specs.Decode.{rival_count}
use Rattle.arrivals.specs.Receive.{raise_from}
use Rattle.arrivals.proofs.raised_by.Given as goal

abbrev pub invariant-loop-i : goal.invariant-loop-i
invariant-loop-i l = raise_from l.m (rival_count l.m - l.i) l.i l.a ≡ raise_from l.m (rival_count l.m) 0 l.fn.rivals
