-- `record::verify::no_nodes`: the tests in the definition's order.
use mathlib.Core.Path.{◌∙◌}
use Rattle.numbers.specs.Sizes.{nodes}
use Rattle.clauses.specs.Clauses.{no_nodes}
use Rattle.record.specs.Record.{record_of, distances_of}
use Rattle.record.proofs.Zero.{zero_numbers}
use Rattle.record.proofs.verify.no_nodes.Goals as goal

pub returns : goal.returns
unfolding no_nodes record_of distances_of
returns c = let l = c.args.bytes.now in
    let z = c.are_zero.ensures ∙ zero_numbers 2 l nodes 12 in
    cc
