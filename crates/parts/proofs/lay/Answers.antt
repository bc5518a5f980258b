-- `parts::lay`: the front of the list, and zeros behind it.
use native.Mathlib.Omega.{arith}
use lib.ListN.{length}
use Rattle.parts.proofs.Laws.{padded_parts}
use Rattle.parts.proofs.lay.Goals as goal

pub returns : goal.returns
returns c =
    let rest = length c.split_at_mut-front.result.1.now in
    rw (c.copy_from_slice.ensures.after, c.zero.ensures)
    (padded_parts (length c.args.to.now) c.min-copied.result rest c.args.list.now c.min-copied.ensures (omega arith))
