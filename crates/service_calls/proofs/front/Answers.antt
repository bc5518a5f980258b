-- `service_calls::front`: refused for a length; what is no node; a node that is on, its record and settings lent on; one that is off, by its number.
use mathlib.Core.Path.{sym, ap, ap₂, ◌∙◌}
use mathlib.Core.List.{List}
use Prim.Native.Nat.{ℕ, ◌<◌}
use native.Mathlib.Omega.{arith}
use Rattle.numbers.specs.Sizes.{nodes}
use Rattle.numbers.specs.Refusal.{lower}
use Rattle.mask.specs.Mask.{contains}
use Rattle.frontend.specs.Plan.{off_told}
use Rattle.frontend.specs.Plan.{Call as Front, front_told as toldHere, front_record as recordHere, front_settings as settingsHere}
use Rattle.frontend.specs.Asked.{call_of}
use Rattle.service_calls.proofs.Lending.{lent_part, lent_record_lem, both_record, both_settings}
use Rattle.service_calls.proofs.Fronts.{refused_first, records_long, settings_long, no_node, on_node, off_node}
use Rattle.service_calls.proofs.front.Goals as goal

pub returns-then-first-ne0-clause-value : goal.returns-then-first-ne0-clause-value
returns-then-first-ne0-clause-value c = let x = c.args in
    let R = x.records.now in
    let O = x.own.now in
    let S = x.settings.now in
    let a : Front = call_of x.a x.list.now in
    let f = c.lower-first.ensures ∙ ap₂ lower (c.lower-ends.ensures ∙ ap₂ lower
    c.ends_number.ensures c.refuse-short.ensures)
    (c.number.ensures ∙ c.check_list.ensures x.a) in
    let d = refused_first R O S x.node a _ f c.if-first-ne0.true in c.refused.ensures ∙ d.told

pub returns-then-first-ne0-clause-records_after : goal.returns-then-first-ne0-clause-records_after
returns-then-first-ne0-clause-records_after c = let x = c.args in
    let R = x.records.now in
    let O = x.own.now in
    let S = x.settings.now in
    let a : Front = call_of x.a x.list.now in
    let f = c.lower-first.ensures ∙ ap₂ lower (c.lower-ends.ensures ∙ ap₂ lower
    c.ends_number.ensures c.refuse-short.ensures)
    (c.number.ensures ∙ c.check_list.ensures x.a) in
    let d = refused_first R O S x.node a _ f c.if-first-ne0.true in d.records

pub returns-then-first-ne0-clause-settings_after : goal.returns-then-first-ne0-clause-settings_after
returns-then-first-ne0-clause-settings_after c = let x = c.args in
    let R = x.records.now in
    let O = x.own.now in
    let S = x.settings.now in
    let a : Front = call_of x.a x.list.now in
    let f = c.lower-first.ensures ∙ ap₂ lower (c.lower-ends.ensures ∙ ap₂ lower
    c.ends_number.ensures c.refuse-short.ensures)
    (c.number.ensures ∙ c.check_list.ensures x.a) in
    let d = refused_first R O S x.node a _ f c.if-first-ne0.true in d.settings

pub returns-then-node-ge-NODES_END-clause-value : goal.returns-then-node-ge-NODES_END-clause-value
returns-then-node-ge-NODES_END-clause-value c = let x = c.args in
    let R = x.records.now in
    let O = x.own.now in
    let S = x.settings.now in
    let a : Front = call_of x.a x.list.now in
    let f = c.lower-first.ensures ∙ ap₂ lower (c.lower-ends.ensures ∙ ap₂ lower c.ends_number.ensures
    c.refuse-short.ensures)
    (c.number.ensures ∙ c.check_list.ensures x.a) in
    let d = no_node R O S x.node a (sym f ∙ c.if-first-ne0.false) c.if-node-ge-NODES_END.true _ (c.from.ensures ∙ c.refuse_nowhere.ensures)
    in c.refused-then-node-ge-NODES_END.ensures ∙ d.told

pub returns-then-node-ge-NODES_END-clause-records_after : goal.returns-then-node-ge-NODES_END-clause-records_after
returns-then-node-ge-NODES_END-clause-records_after c = let x = c.args in
    let R = x.records.now in
    let O = x.own.now in
    let S = x.settings.now in
    let a : Front = call_of x.a x.list.now in
    let f = c.lower-first.ensures ∙ ap₂ lower (c.lower-ends.ensures ∙ ap₂ lower c.ends_number.ensures
    c.refuse-short.ensures)
    (c.number.ensures ∙ c.check_list.ensures x.a) in
    let d = no_node R O S x.node a (sym f ∙ c.if-first-ne0.false) c.if-node-ge-NODES_END.true _ (c.from.ensures ∙ c.refuse_nowhere.ensures) in d.records

pub returns-then-node-ge-NODES_END-clause-settings_after : goal.returns-then-node-ge-NODES_END-clause-settings_after
returns-then-node-ge-NODES_END-clause-settings_after c = let x = c.args in
    let R = x.records.now in
    let O = x.own.now in
    let S = x.settings.now in
    let a : Front = call_of x.a x.list.now in
    let f = c.lower-first.ensures ∙ ap₂ lower (c.lower-ends.ensures ∙ ap₂ lower c.ends_number.ensures
    c.refuse-short.ensures)
    (c.number.ensures ∙ c.check_list.ensures x.a) in
    let d = no_node R O S x.node a (sym f ∙ c.if-first-ne0.false) c.if-node-ge-NODES_END.true _ (c.from.ensures ∙ c.refuse_nowhere.ensures) in d.settings

pub slice_bounds-front-end : goal.slice_bounds-front-end
slice_bounds-front-end c = let x = c.args in
    let R = x.records.now in
    let O = x.own.now in
    let S = x.settings.now in
    let a : Front = call_of x.a x.list.now in
    let f = c.lower-first.ensures ∙ ap₂ lower (c.lower-ends.ensures ∙ ap₂ lower
    c.ends_number.ensures c.refuse-short.ensures)
    (c.number.ensures ∙ c.check_list.ensures x.a) in
    let l = records_long R O S x.node a (sym f ∙ c.if-first-ne0.false) in
    let w = c.from-r.ensures in
    let h = c.if-node-ge-NODES_END.false in
    omega (arith, l, w, h)

pub slice_bounds-front-end-then-has : goal.slice_bounds-front-end-then-has
slice_bounds-front-end-then-has c = let x = c.args in
    let R = x.records.now in
    let O = x.own.now in
    let S = x.settings.now in
    let a : Front = call_of x.a x.list.now in
    let f = c.lower-first.ensures ∙ ap₂ lower (c.lower-ends.ensures ∙ ap₂ lower
    c.ends_number.ensures c.refuse-short.ensures)
    (c.number.ensures ∙ c.check_list.ensures x.a) in
    let l = settings_long R O S x.node a (sym f ∙ c.if-first-ne0.false) in
    let w = c.from-s.ensures in
    let h = c.if-node-ge-NODES_END.false in
    omega (arith, l, w, h)

pub returns-then-has-clause-value : goal.returns-then-has-clause-value
returns-then-has-clause-value c = let x = c.args in
    let R = x.records.now in
    let O = x.own.now in
    let S = x.settings.now in
    let a : Front = call_of x.a x.list.now in
    let f = c.lower-first.ensures ∙ ap₂ lower (c.lower-ends.ensures ∙ ap₂ lower
    c.ends_number.ensures c.refuse-short.ensures)
    (c.number.ensures ∙ c.check_list.ensures x.a) in
    let u = sym (c.has.ensures ∙ ap (λ (k : ℕ). contains k x.node) c.on.ensures) in
    let h : x.node < nodes = omega (arith, c.if-node-ge-NODES_END.false) in
    let e = c.front-called.ensures in
    let w = c.from-r.ensures in
    let w2 = c.from-s.ensures in
    let p = lent_record_lem R _ x.node w in
    let q = lent_part S _ x.node w2 in
    let d = on_node R O S x.node a (sym f ∙ c.if-first-ne0.false) h (u ∙ c.if-has.true) _
    (e.value ∙ ap₂ (λ (m n : List ℕ). toldHere m n x.node a) p q) in
    let F : List ℕ → List ℕ → List ℕ = λ m k. recordHere m k x.node a in
    let G : List ℕ → List ℕ → List ℕ = λ m k. settingsHere m k x.node a in
    let r = both_record R S _ _ x.node w w2 F G _ e.bytes_after in
    let t = both_settings R S _ _ x.node w w2 F G _ e.settings_after in c.answered.ensures ∙ d.told

pub returns-then-has-clause-records_after : goal.returns-then-has-clause-records_after
returns-then-has-clause-records_after c = let x = c.args in
    let R = x.records.now in
    let O = x.own.now in
    let S = x.settings.now in
    let a : Front = call_of x.a x.list.now in
    let f = c.lower-first.ensures ∙ ap₂ lower (c.lower-ends.ensures ∙ ap₂ lower
    c.ends_number.ensures c.refuse-short.ensures)
    (c.number.ensures ∙ c.check_list.ensures x.a) in
    let u = sym (c.has.ensures ∙ ap (λ (k : ℕ). contains k x.node) c.on.ensures) in
    let h : x.node < nodes = omega (arith, c.if-node-ge-NODES_END.false) in
    let e = c.front-called.ensures in
    let w = c.from-r.ensures in
    let w2 = c.from-s.ensures in
    let p = lent_record_lem R _ x.node w in
    let q = lent_part S _ x.node w2 in
    let d = on_node R O S x.node a (sym f ∙ c.if-first-ne0.false) h (u ∙ c.if-has.true) _
    (e.value ∙ ap₂ (λ (m n : List ℕ). toldHere m n x.node a) p q) in
    let F : List ℕ → List ℕ → List ℕ = λ m k. recordHere m k x.node a in
    let G : List ℕ → List ℕ → List ℕ = λ m k. settingsHere m k x.node a in
    let r = both_record R S _ _ x.node w w2 F G _ e.bytes_after in
    let t = both_settings R S _ _ x.node w w2 F G _ e.settings_after in r ∙ d.records

pub returns-then-has-clause-settings_after : goal.returns-then-has-clause-settings_after
returns-then-has-clause-settings_after c = let x = c.args in
    let R = x.records.now in
    let O = x.own.now in
    let S = x.settings.now in
    let a : Front = call_of x.a x.list.now in
    let f = c.lower-first.ensures ∙ ap₂ lower (c.lower-ends.ensures ∙ ap₂ lower
    c.ends_number.ensures c.refuse-short.ensures)
    (c.number.ensures ∙ c.check_list.ensures x.a) in
    let u = sym (c.has.ensures ∙ ap (λ (k : ℕ). contains k x.node) c.on.ensures) in
    let h : x.node < nodes = omega (arith, c.if-node-ge-NODES_END.false) in
    let e = c.front-called.ensures in
    let w = c.from-r.ensures in
    let w2 = c.from-s.ensures in
    let p = lent_record_lem R _ x.node w in
    let q = lent_part S _ x.node w2 in
    let d = on_node R O S x.node a (sym f ∙ c.if-first-ne0.false) h (u ∙ c.if-has.true) _
    (e.value ∙ ap₂ (λ (m n : List ℕ). toldHere m n x.node a) p q) in
    let F : List ℕ → List ℕ → List ℕ = λ m k. recordHere m k x.node a in
    let G : List ℕ → List ℕ → List ℕ = λ m k. settingsHere m k x.node a in
    let r = both_record R S _ _ x.node w w2 F G _ e.bytes_after in
    let t = both_settings R S _ _ x.node w w2 F G _ e.settings_after in t ∙ d.settings

pub slice_bounds-refuse_off-end : goal.slice_bounds-refuse_off-end
slice_bounds-refuse_off-end c = let x = c.args in
    let R = x.records.now in
    let O = x.own.now in
    let S = x.settings.now in
    let a : Front = call_of x.a x.list.now in
    let f = c.lower-first.ensures ∙ ap₂ lower (c.lower-ends.ensures ∙ ap₂ lower
    c.ends_number.ensures c.refuse-short.ensures)
    (c.number.ensures ∙ c.check_list.ensures x.a) in
    let l = records_long R O S x.node a (sym f ∙ c.if-first-ne0.false) in
    let w = c.from-r.ensures in
    let h = c.if-node-ge-NODES_END.false in
    omega (arith, l, w, h)

pub slice_bounds-refuse_off-end-2 : goal.slice_bounds-refuse_off-end-2
slice_bounds-refuse_off-end-2 c = let x = c.args in
    let R = x.records.now in
    let O = x.own.now in
    let S = x.settings.now in
    let a : Front = call_of x.a x.list.now in
    let f = c.lower-first.ensures ∙ ap₂ lower (c.lower-ends.ensures ∙ ap₂ lower c.ends_number.ensures
    c.refuse-short.ensures)
    (c.number.ensures ∙ c.check_list.ensures x.a) in
    let l = settings_long R O S x.node a (sym f ∙ c.if-first-ne0.false) in
    let w = c.from-s.ensures in
    let h = c.if-node-ge-NODES_END.false in
    omega (arith, l, w, h)

pub returns-clause-value : goal.returns-clause-value
returns-clause-value c = let x = c.args in
    let R = x.records.now in
    let O = x.own.now in
    let S = x.settings.now in
    let a : Front = call_of x.a x.list.now in
    let f = c.lower-first.ensures ∙ ap₂ lower (c.lower-ends.ensures ∙ ap₂ lower
    c.ends_number.ensures c.refuse-short.ensures)
    (c.number.ensures ∙ c.check_list.ensures x.a) in
    let u = sym (c.has.ensures ∙ ap (λ (k : ℕ). contains k x.node) c.on.ensures) in
    let h : x.node < nodes = omega (arith, c.if-node-ge-NODES_END.false) in
    let p = lent_record_lem R _ x.node c.from-r.ensures in
    let q = lent_part S _ x.node c.from-s.ensures in
    let d = off_node R O S x.node a (sym f ∙ c.if-first-ne0.false) h (u ∙ c.if-has.false) _
    ((c.from-2.ensures ∙ c.refuse_off-refusal.ensures) ∙ ap₂ (λ (m n : List ℕ). off_told m n x.node a) p q) in c.refused-2.ensures ∙ d.told

pub returns-clause-records_after : goal.returns-clause-records_after
returns-clause-records_after c = let x = c.args in
    let R = x.records.now in
    let O = x.own.now in
    let S = x.settings.now in
    let a : Front = call_of x.a x.list.now in
    let f = c.lower-first.ensures ∙ ap₂ lower (c.lower-ends.ensures ∙ ap₂ lower
    c.ends_number.ensures c.refuse-short.ensures)
    (c.number.ensures ∙ c.check_list.ensures x.a) in
    let u = sym (c.has.ensures ∙ ap (λ (k : ℕ). contains k x.node) c.on.ensures) in
    let h : x.node < nodes = omega (arith, c.if-node-ge-NODES_END.false) in
    let p = lent_record_lem R _ x.node c.from-r.ensures in
    let q = lent_part S _ x.node c.from-s.ensures in
    let d = off_node R O S x.node a (sym f ∙ c.if-first-ne0.false) h (u ∙ c.if-has.false) _
    ((c.from-2.ensures ∙ c.refuse_off-refusal.ensures) ∙ ap₂ (λ (m n : List ℕ). off_told m n x.node a) p q) in d.records

pub returns-clause-settings_after : goal.returns-clause-settings_after
returns-clause-settings_after c = let x = c.args in
    let R = x.records.now in
    let O = x.own.now in
    let S = x.settings.now in
    let a : Front = call_of x.a x.list.now in
    let f = c.lower-first.ensures ∙ ap₂ lower (c.lower-ends.ensures ∙ ap₂ lower
    c.ends_number.ensures c.refuse-short.ensures)
    (c.number.ensures ∙ c.check_list.ensures x.a) in
    let u = sym (c.has.ensures ∙ ap (λ (k : ℕ). contains k x.node) c.on.ensures) in
    let h : x.node < nodes = omega (arith, c.if-node-ge-NODES_END.false) in
    let p = lent_record_lem R _ x.node c.from-r.ensures in
    let q = lent_part S _ x.node c.from-s.ensures in
    let d = off_node R O S x.node a (sym f ∙ c.if-first-ne0.false) h (u ∙ c.if-has.false) _
    ((c.from-2.ensures ∙ c.refuse_off-refusal.ensures) ∙ ap₂ (λ (m n : List ℕ). off_told m n x.node a) p q) in d.settings
