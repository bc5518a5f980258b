-- `record::load::distances_of`: each item is the one that stands at its place.
use Rattle.std.proofs.Common.{rules}
use Rattle.numbers.specs.Sizes.{nodes}
use Rattle.octets.specs.Octets.{get}
use Rattle.record.specs.Record.{distances_of}
use Rattle.record.proofs.Items.{items_made}
use Rattle.record.proofs.load.distances_of.Goals as goal

pub returns : goal.returns
unfolding distances_of
returns c = items_made (get 2) 2 c.args.bytes.now 0 _ _ nodes 12 c.from_fn.result (λ i y q k. search rules) c.from_fn.ensures.items
