-- `letters::write::put_rivals`: storing the rivals that are left from here on gives what storing all of them gives.
use mathlib.Core.Path.{◌≡◌}
use Prim.Native.Nat.{◌+◌, ◌*◌, ◌≤◌}
use lib.ListN.{length, drop}
use lib.Seq.{sets}
use Rattle.wire.specs.Encode.{encode_rival, together}
use Rattle.letters.specs.Write.{rivals_by}
use Rattle.letters.proofs.write.put_rivals.Given as goal

abbrev pub invariant-loop-i : goal.invariant-loop-i
invariant-loop-i l = (l.next ≤ 14 + 5 * l.i)
    × (l.next + 5 * length (rivals_by l.i (drop l.i l.serials)) ≡ 14 + 5 * length (rivals_by 0 l.serials))
    × (sets l.out l.next (together encode_rival (rivals_by l.i (drop l.i l.serials))) ≡ sets l.initial.out 14 (together encode_rival (rivals_by 0 l.serials)))
