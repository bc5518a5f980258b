-- `octets::two`: two bytes, one by one.
use Prim.Native.Nat.{◌+◌}
use native.Mathlib.Omega.{arith}
use Rattle.octets.proofs.Laws.{get_two}
use Rattle.octets.proofs.two.Goals as goal

pub returns : goal.returns
returns c =
    let low = c.type_inv.s c.args.at in
    let high = c.type_inv.s (c.args.at + 1) in
    (omega (arith, get_two c.args.s.now c.args.at, c.from.ensures, c.from-2.ensures), omega (arith, low, high, c.from.ensures, c.from-2.ensures))
