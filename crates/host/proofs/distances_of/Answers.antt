-- `host::distances_of`: each element is the number of its two bytes.
use Prim.Native.Nat.{ℕ, ◌*◌}
use borrow.Author.Rules.{rules}
use Rattle.octets.specs.Octets.{get}
use Rattle.record.proofs.Items.{made_at}
use Rattle.host.proofs.Laws.{all_distances}
use Rattle.host.proofs.distances_of.Goals as goal

pub returns : goal.returns
returns c = let l = c.args.bytes.now in
    let r = c.from_fn.ensures.items in
    all_distances c.from_fn.result l r.long (λ j h. made_at _ _ (λ (i : ℕ). get 2 l (2 * i)) (λ i y q k. search rules) 0 c.from_fn.result _ j r h)
