-- `record::load::rivals_of`: each item is the one that stands at its place.
use Rattle.std.proofs.Common.{rules}
use Rattle.numbers.specs.Sizes.{nodes}
use Rattle.octets.specs.Octets.{get}
use Rattle.record.specs.Record.{rivals_of}
use Rattle.record.proofs.Items.{items_made}
use Rattle.record.proofs.load.rivals_of.Goals as goal

pub returns : goal.returns
unfolding rivals_of
returns c = items_made (get 4) 4 c.args.bytes.now 0 _ _ nodes 249 c.from_fn.result (λ i y q k. search rules) c.from_fn.ensures.items
