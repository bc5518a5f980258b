-- `host::stations::senna_station_set_value`: the bits of the value; the step by the front end, which leaves the settings.
use mathlib.Core.Path.{◌≡◌, ap, ◌∙◌}
use mathlib.Core.List.{[]}
use lib.IntN.{ℤ}
use mir.Syntax.{w64}
use mir.Val.{to_z, of_z}
use Prim.Native.Nat.{ℕ}
use Rattle.octets.specs.Signed.{bits_of}
use Rattle.increments.specs.Deeds.{values}
use Rattle.frontend.specs.Plan.{edit}
use Rattle.frontend.specs.Plan.{Call as Front}
use Rattle.frontend.specs.declared.Ask.{Ask}
use Rattle.frontend.specs.Asked.{call_by, call_of}
use Rattle.service_calls.specs.Lent.{lent}
use Rattle.host.proofs.Told.{step_same}
use Rattle.host.proofs.Alone.{edit_stays}
use borrow.Author.Rules.{rules}
use Rattle.host.proofs.stations.senna_station_set_value.Goals as goal

pub returns-clause-value : goal.returns-clause-value
unfolding call_by
returns-clause-value c = let x = c.args in
    let b = lent [] x.records.now [] x.own.now x.settings.now in
    let f : ℕ → Front = λ v. edit (values x.object v) in
    let back : to_z w64 (of_z w64 x.value) ≡ x.value = search rules in
    let bits = ap f (c.bits.ensures ∙ ap (λ (z : ℤ). bits_of z) back) in
    let p = ap (λ (y : Ask). call_of y []) c.ask_object-a.ensures ∙ bits in
    let w = step_same b x.node _ (f (bits_of x.value)) _ _ _ p (c.front.ensures.value, (c.front.ensures.records_after, c.front.ensures.settings_after)) in w.0

pub returns-clause-records_after : goal.returns-clause-records_after
unfolding call_by
returns-clause-records_after c = let x = c.args in
    let b = lent [] x.records.now [] x.own.now x.settings.now in
    let f : ℕ → Front = λ v. edit (values x.object v) in
    let back : to_z w64 (of_z w64 x.value) ≡ x.value = search rules in
    let bits = ap f (c.bits.ensures ∙ ap (λ (z : ℤ). bits_of z) back) in
    let p = ap (λ (y : Ask). call_of y []) c.ask_object-a.ensures ∙ bits in
    let w = step_same b x.node _ (f (bits_of x.value)) _ _ _ p (c.front.ensures.value, (c.front.ensures.records_after, c.front.ensures.settings_after))
    in w.1.0

pub returns-clause-settings_after : goal.returns-clause-settings_after
unfolding call_by
returns-clause-settings_after c = let x = c.args in
    let b = lent [] x.records.now [] x.own.now x.settings.now in
    let f : ℕ → Front = λ v. edit (values x.object v) in
    let back : to_z w64 (of_z w64 x.value) ≡ x.value = search rules in
    let bits = ap f (c.bits.ensures ∙ ap (λ (z : ℤ). bits_of z) back) in
    let p = ap (λ (y : Ask). call_of y []) c.ask_object-a.ensures ∙ bits in
    let w = step_same b x.node _ (f (bits_of x.value)) _ _ _ p (c.front.ensures.value, (c.front.ensures.records_after, c.front.ensures.settings_after))
    in w.1.1

pub returns-clause-settings_unchanged : goal.returns-clause-settings_unchanged
unfolding call_by
returns-clause-settings_unchanged c = let x = c.args in
    let b = lent [] x.records.now [] x.own.now x.settings.now in
    let f : ℕ → Front = λ v. edit (values x.object v) in
    let back : to_z w64 (of_z w64 x.value) ≡ x.value = search rules in
    let bits = ap f (c.bits.ensures ∙ ap (λ (z : ℤ). bits_of z) back) in
    let p = ap (λ (y : Ask). call_of y []) c.ask_object-a.ensures ∙ bits in
    let w = step_same b x.node _ (f (bits_of x.value)) _ _ _ p (c.front.ensures.value, (c.front.ensures.records_after, c.front.ensures.settings_after))
    in w.1.1 ∙ edit_stays x.records.now x.own.now x.settings.now x.node (values x.object (bits_of x.value))
