-- `deeds::write_quorum`: the choice over the two fields of the record.
use mathlib.Core.Path.{ap, ◌∙◌}
use mathlib.Core.List.{List}
use Prim.Native.Nat.{ℕ}
use Rattle.coordinator.specs.System.{tree}
use Rattle.record.specs.Record.{record_of}
use Rattle.deeds.proofs.write_quorum.Goals as goal

pub returns : goal.returns
unfolding record_of
returns c = let x = c.args in
    let k = record_of x.bytes.now in
    c.nearest.ensures.value
    ∙ ap (λ (n : ℕ). tree.nearest_write x.me n c.distances_of-distances.result) c.get_u16-live.ensures
    ∙ ap (λ (d : List ℕ). tree.nearest_write x.me k.live d) c.distances_of-distances.ensures
