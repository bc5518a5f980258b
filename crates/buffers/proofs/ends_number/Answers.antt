-- `buffers::ends_number`: the refusals in their order.
use Rattle.buffers.specs.Buffers.{ends_first}
use Rattle.buffers.proofs.ends_number.Goals as goal

pub returns : goal.returns
unfolding ends_first
returns c = cc
