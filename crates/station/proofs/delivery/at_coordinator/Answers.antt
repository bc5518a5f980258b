-- `station::delivery::at_coordinator`: refused, or the record changed and the message taken out.
use mathlib.Core.Path.{refl, ap, ◌∙◌}
use Prim.Native.Nat.{ℕ}
use Rattle.numbers.proofs.Outcome.{code_counts}
use Rattle.buffers.specs.Buffers.{answer_with}
use Rattle.station.proofs.Delivering.{away, heard}
use Rattle.station.proofs.delivery.at_coordinator.Goals as goal

pub returns-in-Ok-clause-by_index : goal.returns-in-Ok-clause-by_index
returns-in-Ok-clause-by_index c = let x = c.args in
    let R = x.records.now in
    let P = x.pool.now in
    let q = c.requires in
    let t = c.in-Ok.ensures in
    (λ I O. (heard I R P O x.node x.k x.kept q.1 q.0 q.4 _ t.number refl).0)

pub returns-in-Ok-clause-by_index_2 : goal.returns-in-Ok-clause-by_index_2
returns-in-Ok-clause-by_index_2 c = let x = c.args in
    let R = x.records.now in
    let P = x.pool.now in
    let q = c.requires in
    let t = c.in-Ok.ensures in
    (λ I O. t.records ∙ (heard I R P O x.node x.k x.kept q.1 q.0 q.4 _ t.number refl).1.0)

pub returns-in-Ok-clause-by_index_3 : goal.returns-in-Ok-clause-by_index_3
returns-in-Ok-clause-by_index_3 c = let x = c.args in
    let R = x.records.now in
    let P = x.pool.now in
    let q = c.requires in
    let t = c.in-Ok.ensures in
    (λ I O. c.take_out.ensures ∙ (heard I R P O x.node x.k x.kept q.1 q.0 q.4 _ t.number refl).1.1)

pub returns-in-Err-clause-by_index : goal.returns-in-Err-clause-by_index
returns-in-Err-clause-by_index c = let x = c.args in
    let R = x.records.now in
    let P = x.pool.now in
    let q = c.requires in
    let t = c.in-Err.ensures in
    (λ I O. c.refused.ensures ∙ ap (λ (n : ℕ). answer_with n 0) c.from.ensures
    ∙ (away I R P O x.node x.k x.kept q.1 q.0 q.4 _ t.number (code_counts c.in-Err.refusal)).0)

pub returns-in-Err-clause-by_index_2 : goal.returns-in-Err-clause-by_index_2
returns-in-Err-clause-by_index_2 c = let x = c.args in
    let R = x.records.now in
    let P = x.pool.now in
    let q = c.requires in
    let t = c.in-Err.ensures in
    (λ I O. t.records ∙ (away I R P O x.node x.k x.kept q.1 q.0 q.4 _ t.number (code_counts c.in-Err.refusal)).1.0)

pub returns-in-Err-clause-by_index_3 : goal.returns-in-Err-clause-by_index_3
returns-in-Err-clause-by_index_3 c = let x = c.args in
    let R = x.records.now in
    let P = x.pool.now in
    let q = c.requires in
    let t = c.in-Err.ensures in
    (λ I O. (away I R P O x.node x.k x.kept q.1 q.0 q.4 _ t.number (code_counts c.in-Err.refusal)).1.1)
