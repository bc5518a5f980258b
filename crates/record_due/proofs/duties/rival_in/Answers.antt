-- `record_due::duties::rival_in`: past the end nothing stands.
use mathlib.Core.Path.{sym, ap, ◌∙◌}
use Prim.Native.Nat.{ℕ, ◌+◌, ◌*◌}
use native.Mathlib.Omega.{arith}
use lib.ListN.{get_or-eq_default}
use Rattle.numbers.specs.Sizes.{nodes}
use Rattle.octets.specs.Octets.{get}
use Rattle.wire.specs.Decode.{items_from}
use Rattle.wire.proofs.Accepted.{length_items}
use Rattle.record.specs.Record.{rivals_of, record_of}
use Rattle.record.proofs.Items.{get_d_items}
use Rattle.record_due.proofs.duties.rival_in.Goals as goal

pub returns-then-i-lt-NODES : goal.returns-then-i-lt-NODES
unfolding record_of rivals_of
returns-then-i-lt-NODES c = let x = c.args in
    let w = c.wide-i.ensures in
    c.get_u32.ensures
    ∙ ap (λ (i : ℕ). get 4 x.bytes.now (249 + 4 * i)) w
    ∙ sym (get_d_items (get 4) 4 x.bytes.now 0 nodes 249 x.node (omega (arith, w, c.if-i-lt-NODES.true)))

pub returns-else-i-lt-NODES : goal.returns-else-i-lt-NODES
unfolding record_of rivals_of
returns-else-i-lt-NODES c = let x = c.args in
    let m = length_items (get 4) 4 x.bytes.now nodes 249 in
    sym (get_or-eq_default (items_from (get 4) 4 nodes x.bytes.now 249) 0 (omega (arith, m, c.wide-i.ensures, c.if-i-lt-NODES.false)))
