-- `record::load::objects_of`: each item is the one that stands at its place.
use Rattle.std.proofs.Common.{rules}
use Rattle.numbers.specs.Sizes.{most_open}
use Rattle.coordinator.specs.State.{no_object}
use Rattle.record.specs.Record.{object_of, objects_of}
use Rattle.record.proofs.Items.{items_made}
use Rattle.record.proofs.load.objects_of.Goals as goal

pub returns : goal.returns
unfolding objects_of
returns c = items_made object_of 25 c.args.bytes.now no_object _ _ most_open 43 c.from_fn.result (λ i y q k. search rules) c.from_fn.ensures.items
