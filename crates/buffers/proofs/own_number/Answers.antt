-- `buffers::own_number`: the refusals in their order.
use Rattle.buffers.specs.Buffers.{own_number}
use Rattle.buffers.proofs.own_number.Goals as goal

pub returns : goal.returns
unfolding own_number
returns c = cc
