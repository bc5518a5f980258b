-- `host::nearest`: each return is one case of the answer (Laws); the choice's own 'nothing' is the number 8.
use mathlib.Core.Path.{sym, ap, ◌∙◌}
use mathlib.Core.List.{List}
use Prim.Native.Nat.{ℕ}
use Rattle.quorum.specs.Smallest.{smallest}
use Rattle.quorum.specs.Nearest.{nearest_of}
use Rattle.host.proofs.Laws.{answer_length, answer_stranger, answer_no_node, answer_choice}
use Rattle.host.proofs.nearest.Goals as goal

pub returns-then-distances-ne-DISTANCES : goal.returns-then-distances-ne-DISTANCES
returns-then-distances-ne-DISTANCES c = c.refused.ensures ∙ sym (answer_length _ _ _ _ c.if-distances-ne-DISTANCES.true)

pub returns-then-live-gt-EVERY_NODE : goal.returns-then-live-gt-EVERY_NODE
returns-then-live-gt-EVERY_NODE c = let a = c.args in
    c.refused-then-live-gt-EVERY_NODE.ensures
    ∙ sym (answer_stranger a.kind a.live a.distances.now a.asker c.if-distances-ne-DISTANCES.false c.if-live-gt-EVERY_NODE.true)

pub returns-then-asker-ge-NODES_END : goal.returns-then-asker-ge-NODES_END
returns-then-asker-ge-NODES_END c = let a = c.args in
    c.refused-then-asker-ge-NODES_END.ensures
    ∙ sym (answer_no_node a.kind a.live a.distances.now a.asker c.if-distances-ne-DISTANCES.false c.if-live-gt-EVERY_NODE.false c.if-asker-ge-NODES_END.true)

pub returns-in-Some : goal.returns-in-Some
returns-in-Some c = let a = c.args in
    let p = ap (λ (d : List ℕ). nearest_of a.asker a.live d (smallest a.kind)) (sym c.distances_of-d.ensures)
    ∙ sym c.nearest-choice.ensures.value ∙ c.in-Some.is in
    sym (answer_choice a.kind a.live a.distances.now a.asker _
    c.if-distances-ne-DISTANCES.false c.if-live-gt-EVERY_NODE.false
    c.if-asker-ge-NODES_END.false p)

pub returns-in-None : goal.returns-in-None
returns-in-None c = let a = c.args in
    let p = ap (λ (d : List ℕ). nearest_of a.asker a.live d (smallest a.kind)) (sym c.distances_of-d.ensures)
    ∙ sym c.nearest-choice.ensures.value ∙ c.in-None.is in
    c.refused-in-None.ensures ∙ sym (answer_choice a.kind a.live a.distances.now a.asker _
    c.if-distances-ne-DISTANCES.false c.if-live-gt-EVERY_NODE.false
    c.if-asker-ge-NODES_END.false p)
