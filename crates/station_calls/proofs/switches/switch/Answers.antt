-- `station_calls::switches::switch`: refused, or the mask written back.
use mathlib.Core.Path.{sym, ap, ◌∙◌}
use Prim.Native.Nat.{ℕ}
use borrow.Author.Tests.{eq-eqb, ne_eqb, lt-ltb, le-ltb}
use Rattle.numbers.specs.Sizes.{nodes}
use Rattle.steps.specs.Step.{step, switch_of}
use Rattle.buffers.specs.Buffers.{answer_with, told}
use Rattle.station_calls.specs.Calls.{switch_own}
use Rattle.station_calls.proofs.switches.switch.Goals as goal

pub returns-then-number-ne0-clause-value : goal.returns-then-number-ne0-clause-value
unfolding told switch_own step switch_of
returns-then-number-ne0-clause-value c = let e = c.own_number-number.ensures in
    let h = ne_eqb _ 0 (λ z. c.if-number-ne0.true (e ∙ z)) in simp h (c.refused.ensures ∙ ap (λ (n : ℕ). answer_with n 0) e)

pub returns-then-number-ne0-clause-own_after : goal.returns-then-number-ne0-clause-own_after
unfolding told switch_own step switch_of
returns-then-number-ne0-clause-own_after c = let e = c.own_number-number.ensures in
    let h = ne_eqb _ 0 (λ z. c.if-number-ne0.true (e ∙ z)) in simp h

pub returns-then-node-ge-NODES_END-clause-value : goal.returns-then-node-ge-NODES_END-clause-value
unfolding told switch_own step switch_of
returns-then-node-ge-NODES_END-clause-value c = let e = eq-eqb _ 0 (sym c.own_number-number.ensures ∙ c.if-number-ne0.false) in
    let h = le-ltb _ nodes c.if-node-ge-NODES_END.true in simp (e, h) c.refused-then-node-ge-NODES_END.ensures

pub returns-then-node-ge-NODES_END-clause-own_after : goal.returns-then-node-ge-NODES_END-clause-own_after
unfolding told switch_own step switch_of
returns-then-node-ge-NODES_END-clause-own_after c = let e = eq-eqb _ 0 (sym c.own_number-number.ensures ∙ c.if-number-ne0.false) in
    let h = le-ltb _ nodes c.if-node-ge-NODES_END.true in simp (e, h)

pub returns-clause-value : goal.returns-clause-value
unfolding told switch_own step switch_of
returns-clause-value c = let e = eq-eqb _ 0 (sym c.own_number-number.ensures ∙ c.if-number-ne0.false) in
    let h = lt-ltb _ nodes c.if-node-ge-NODES_END.false in
    let m = c.changed-m.ensures in
    let o = c.single.ensures in simp (e, h) c.refused-2.ensures

pub returns-clause-own_after : goal.returns-clause-own_after
unfolding told switch_own step switch_of
returns-clause-own_after c = let e = eq-eqb _ 0 (sym c.own_number-number.ensures ∙ c.if-number-ne0.false) in
    let h = lt-ltb _ nodes c.if-node-ge-NODES_END.false in
    let m = c.changed-m.ensures in
    let o = c.single.ensures in simp (e, h) (rw (c.put_u16.ensures, m, o, c.on.ensures))
