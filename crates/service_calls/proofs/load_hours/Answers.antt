-- `service_calls::load_hours`: refused by the buffers, by the node or by who is on; or the node's part lent to its front end.
use mathlib.Core.Path.{sym, ap, ◌∙◌}
use Prim.Native.Nat.{ℕ}
use native.Mathlib.Omega.{arith}
use Rattle.mask.specs.Mask.{contains}
use Rattle.settings.specs.Settings.{load_after}
use Rattle.service_calls.proofs.Lending.{lent_back}
use Rattle.service_calls.proofs.Loading.{first_is, first_told, settings_long, stranger_told, off_told_lem, taken_told}
use Rattle.service_calls.proofs.load_hours.Goals as goal

pub returns-then-first-ne0-clause-value : goal.returns-then-first-ne0-clause-value
returns-then-first-ne0-clause-value c = let x = c.args in
    let e = first_is x.own.now x.settings.now x.node x.list.now _ _ _ _ _ c.lower-first.ensures
    c.lower-lent.ensures
    c.own_number.ensures (c.number.ensures ∙ c.check_settings.ensures) (c.number-table.ensures ∙ c.check_table.ensures) in
    let z = first_told x.own.now x.settings.now x.node x.list.now _ e c.if-first-ne0.true in c.refused.ensures ∙ z.0

pub returns-then-first-ne0-clause-settings_after : goal.returns-then-first-ne0-clause-settings_after
returns-then-first-ne0-clause-settings_after c = let x = c.args in
    let e = first_is x.own.now x.settings.now x.node x.list.now _ _ _ _ _ c.lower-first.ensures
    c.lower-lent.ensures
    c.own_number.ensures (c.number.ensures ∙ c.check_settings.ensures) (c.number-table.ensures ∙ c.check_table.ensures) in
    let z = first_told x.own.now x.settings.now x.node x.list.now _ e c.if-first-ne0.true in z.1

pub returns-then-node-ge-NODES_END-clause-value : goal.returns-then-node-ge-NODES_END-clause-value
returns-then-node-ge-NODES_END-clause-value c = let x = c.args in
    let e = first_is x.own.now x.settings.now x.node x.list.now _ _ _ _ _ c.lower-first.ensures
    c.lower-lent.ensures
    c.own_number.ensures (c.number.ensures ∙ c.check_settings.ensures) (c.number-table.ensures ∙ c.check_table.ensures) in
    let z = stranger_told x.own.now x.settings.now x.node x.list.now (sym e ∙ c.if-first-ne0.false) c.if-node-ge-NODES_END.true
    in c.refused-then-node-ge-NODES_END.ensures ∙ z.0

pub returns-then-node-ge-NODES_END-clause-settings_after : goal.returns-then-node-ge-NODES_END-clause-settings_after
returns-then-node-ge-NODES_END-clause-settings_after c = let x = c.args in
    let e = first_is x.own.now x.settings.now x.node x.list.now _ _ _ _ _ c.lower-first.ensures
    c.lower-lent.ensures
    c.own_number.ensures (c.number.ensures ∙ c.check_settings.ensures) (c.number-table.ensures ∙ c.check_table.ensures) in
    let z = stranger_told x.own.now x.settings.now x.node x.list.now (sym e ∙ c.if-first-ne0.false) c.if-node-ge-NODES_END.true in z.1

pub slice_bounds-load_hours-end : goal.slice_bounds-load_hours-end
slice_bounds-load_hours-end c = let x = c.args in
    let e = first_is x.own.now x.settings.now x.node x.list.now _ _ _ _ _ c.lower-first.ensures c.lower-lent.ensures
    c.own_number.ensures (c.number.ensures ∙ c.check_settings.ensures) (c.number-table.ensures ∙ c.check_table.ensures) in
    let l = settings_long x.own.now x.settings.now x.node x.list.now (sym e ∙ c.if-first-ne0.false) in
    let w = c.from-start.ensures in
    let h = c.if-node-ge-NODES_END.false in
    omega arith

pub returns-then-has-clause-value : goal.returns-then-has-clause-value
returns-then-has-clause-value c = let x = c.args in
    let e = first_is x.own.now x.settings.now x.node x.list.now _ _ _ _ _ c.lower-first.ensures
    c.lower-lent.ensures
    c.own_number.ensures (c.number.ensures ∙ c.check_settings.ensures) (c.number-table.ensures ∙ c.check_table.ensures) in
    let u = sym (c.has.ensures ∙ ap (λ (k : ℕ). contains k x.node) c.on.ensures) in
    let z = taken_told x.own.now x.settings.now x.node x.list.now (sym e ∙ c.if-first-ne0.false)
    (omega (arith, c.if-node-ge-NODES_END.false))
    (u ∙ c.if-has.true) in
    let b = lent_back x.settings.now _ x.node c.from-start.ensures (λ s. load_after s x.list.now) _
    c.load_hours.ensures.settings_after in c.refused-then-has.ensures ∙ z.0

pub returns-then-has-clause-settings_after : goal.returns-then-has-clause-settings_after
returns-then-has-clause-settings_after c = let x = c.args in
    let e = first_is x.own.now x.settings.now x.node x.list.now _ _ _ _ _ c.lower-first.ensures
    c.lower-lent.ensures
    c.own_number.ensures (c.number.ensures ∙ c.check_settings.ensures) (c.number-table.ensures ∙ c.check_table.ensures) in
    let u = sym (c.has.ensures ∙ ap (λ (k : ℕ). contains k x.node) c.on.ensures) in
    let z = taken_told x.own.now x.settings.now x.node x.list.now (sym e ∙ c.if-first-ne0.false)
    (omega (arith, c.if-node-ge-NODES_END.false))
    (u ∙ c.if-has.true) in
    let b = lent_back x.settings.now _ x.node c.from-start.ensures (λ s. load_after s x.list.now) _
    c.load_hours.ensures.settings_after in b ∙ z.1

pub returns-clause-value : goal.returns-clause-value
returns-clause-value c = let x = c.args in
    let e = first_is x.own.now x.settings.now x.node x.list.now _ _ _ _ _ c.lower-first.ensures c.lower-lent.ensures
    c.own_number.ensures (c.number.ensures ∙ c.check_settings.ensures) (c.number-table.ensures ∙ c.check_table.ensures) in
    let u = sym (c.has.ensures ∙ ap (λ (k : ℕ). contains k x.node) c.on.ensures) in
    let z = off_told_lem x.own.now x.settings.now x.node x.list.now (sym e ∙ c.if-first-ne0.false)
    (omega (arith, c.if-node-ge-NODES_END.false))
    (u ∙ c.if-has.false) in c.refused-2.ensures ∙ z.0

pub returns-clause-settings_after : goal.returns-clause-settings_after
returns-clause-settings_after c = let x = c.args in
    let e = first_is x.own.now x.settings.now x.node x.list.now _ _ _ _ _ c.lower-first.ensures c.lower-lent.ensures
    c.own_number.ensures (c.number.ensures ∙ c.check_settings.ensures) (c.number-table.ensures ∙ c.check_table.ensures) in
    let u = sym (c.has.ensures ∙ ap (λ (k : ℕ). contains k x.node) c.on.ensures) in
    let z = off_told_lem x.own.now x.settings.now x.node x.list.now (sym e ∙ c.if-first-ne0.false)
    (omega (arith, c.if-node-ge-NODES_END.false))
    (u ∙ c.if-has.false) in z.1
