-- `frontend::calls::load_classes`: what comes first, the plan's number, or the table laid in place of the one before (Loads).
use mathlib.Core.Path.{refl, sym, ap, ◌∙◌}
use mathlib.Core.List.{List}
use Prim.Native.Nat.{ℕ}
use native.Mathlib.Omega.{arith}
use lib.ListN.{length}
use Rattle.parts.specs.Parts.{part, splice, padded}
use Rattle.parts.proofs.Laws.{lent, length_part}
use Rattle.frontend.specs.Plan.{load_classes}
use Rattle.frontend.proofs.First.{first_none, first_told, first_settings}
use Rattle.frontend.proofs.Waits.{lent_long}
use Rattle.frontend.proofs.Loads.{loads_first, loads_number, loads_refused, loads_taken}
use Rattle.frontend.proofs.calls.load_classes.Goals as goal

pub returns-then-first-ne0-clause-value : goal.returns-then-first-ne0-clause-value
returns-then-first-ne0-clause-value c = let x = c.args in
    let e = loads_first x.bytes.now x.settings.now x.me x.list.now _ _ _
    (c.number.ensures ∙ c.check_lent.ensures) (c.number-length.ensures ∙ c.check_length.ensures) c.lower-first.ensures in
    c.refused.ensures ∙ first_told x.bytes.now x.settings.now x.me (load_classes x.list.now) _ e c.if-first-ne0.true

pub returns-then-first-ne0-clause-settings_after : goal.returns-then-first-ne0-clause-settings_after
returns-then-first-ne0-clause-settings_after c = let x = c.args in
    let e = loads_first x.bytes.now x.settings.now x.me x.list.now _ _ _
    (c.number.ensures ∙ c.check_lent.ensures) (c.number-length.ensures ∙ c.check_length.ensures) c.lower-first.ensures in
    first_settings x.bytes.now x.settings.now x.me (load_classes x.list.now) _ e c.if-first-ne0.true

pub returns-then-number-ne0-clause-value : goal.returns-then-number-ne0-clause-value
returns-then-number-ne0-clause-value c = let x = c.args in
    let l = x.bytes.now in
    let s = x.settings.now in
    let list = x.list.now in
    let e = loads_first l s x.me list _ _ _
    (c.number.ensures ∙ c.check_lent.ensures) (c.number-length.ensures ∙ c.check_length.ensures) c.lower-first.ensures in
    let z = sym e ∙ c.if-first-ne0.false in
    let n = loads_number l s x.me list z _ _ _
    c.phase.ensures (c.number-table.ensures ∙ c.check_table.ensures) c.refuse-number.ensures in
    let t = loads_refused l s x.me list z _ n c.if-number-ne0.true in c.refused-then-number-ne0.ensures ∙ t.0

pub returns-then-number-ne0-clause-settings_after : goal.returns-then-number-ne0-clause-settings_after
returns-then-number-ne0-clause-settings_after c = let x = c.args in
    let l = x.bytes.now in
    let s = x.settings.now in
    let list = x.list.now in
    let e = loads_first l s x.me list _ _ _
    (c.number.ensures ∙ c.check_lent.ensures) (c.number-length.ensures ∙ c.check_length.ensures) c.lower-first.ensures in
    let z = sym e ∙ c.if-first-ne0.false in
    let n = loads_number l s x.me list z _ _ _
    c.phase.ensures (c.number-table.ensures ∙ c.check_table.ensures) c.refuse-number.ensures in
    let t = loads_refused l s x.me list z _ n c.if-number-ne0.true in t.1

pub slice_bounds-lay-end : goal.slice_bounds-lay-end
slice_bounds-lay-end c = let x = c.args in
    let e = loads_first x.bytes.now x.settings.now x.me x.list.now _ _ _
    (c.number.ensures ∙ c.check_lent.ensures) (c.number-length.ensures ∙ c.check_length.ensures) c.lower-first.ensures in
    let n = lent_long _ _ (first_none x.bytes.now x.settings.now (load_classes x.list.now) (sym e ∙ c.if-first-ne0.false)).0 in
    omega (arith, n)

pub returns-clause-value : goal.returns-clause-value
unfolding part
returns-clause-value c = let x = c.args in
    let l = x.bytes.now in
    let s = x.settings.now in
    let list = x.list.now in
    let e = loads_first l s x.me list _ _ _
    (c.number.ensures ∙ c.check_lent.ensures) (c.number-length.ensures ∙ c.check_length.ensures) c.lower-first.ensures in
    let z = sym e ∙ c.if-first-ne0.false in
    let n = loads_number l s x.me list z _ _ _
    c.phase.ensures (c.number-table.ensures ∙ c.check_table.ensures) c.refuse-number.ensures in
    let t = loads_taken l s x.me list z _ n c.if-number-ne0.false in
    let long = lent_long _ _ (first_none l s (load_classes list) z).0 in
    let room = ap (λ (k : ℕ). splice 41 187 (padded k list) s) (length_part 41 187 s (omega (arith, long))) in c.taken.ensures ∙ t.0

pub returns-clause-settings_after : goal.returns-clause-settings_after
unfolding part
returns-clause-settings_after c = let x = c.args in
    let l = x.bytes.now in
    let s = x.settings.now in
    let list = x.list.now in
    let e = loads_first l s x.me list _ _ _
    (c.number.ensures ∙ c.check_lent.ensures) (c.number-length.ensures ∙ c.check_length.ensures) c.lower-first.ensures in
    let z = sym e ∙ c.if-first-ne0.false in
    let n = loads_number l s x.me list z _ _ _
    c.phase.ensures (c.number-table.ensures ∙ c.check_table.ensures) c.refuse-number.ensures in
    let t = loads_taken l s x.me list z _ n c.if-number-ne0.false in
    let long = lent_long _ _ (first_none l s (load_classes list) z).0 in
    let room = ap (λ (k : ℕ). splice 41 187 (padded k list) s) (length_part 41 187 s (omega (arith, long)))
    in lent (λ (k : List ℕ). padded (length k) list) 41 187 41 s _ refl c.lay.ensures ∙ room ∙ t.1
