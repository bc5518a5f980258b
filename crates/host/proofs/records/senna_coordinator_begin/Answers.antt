-- `host::records::senna_coordinator_begin`: distances of another length, or the call by the settings.
use mathlib.Core.Path.{refl, ap, ◌∙◌}
use mathlib.Core.List.{List}
use Prim.Native.Nat.{ℕ}
use borrow.Author.Tests.{ne_eqb}
use Rattle.coordinator.specs.declared.BeginWith.{BeginWith}
use Rattle.frontend.specs.Plan.{begin}
use Rattle.frontend.specs.Plan.{Call as Front}
use Rattle.host.proofs.Told.{taken_begun, taken_begun_bytes, taken_begun_settings}
use Rattle.host.specs.Records.{begun_with, bytes_begun, settings_begun}
use Rattle.host.proofs.records.senna_coordinator_begin.Goals as goal

pub returns-then-distances-ne-DISTANCES-clause-value : goal.returns-then-distances-ne-DISTANCES-clause-value
unfolding begun_with bytes_begun settings_begun
returns-then-distances-ne-DISTANCES-clause-value c = simp (ne_eqb _ 26 c.if-distances-ne-DISTANCES.true) c.wrong_length.ensures

pub returns-then-distances-ne-DISTANCES-clause-bytes_after : goal.returns-then-distances-ne-DISTANCES-clause-bytes_after
unfolding begun_with bytes_begun settings_begun
returns-then-distances-ne-DISTANCES-clause-bytes_after c = simp (ne_eqb _ 26 c.if-distances-ne-DISTANCES.true) refl

pub returns-then-distances-ne-DISTANCES-clause-settings_after : goal.returns-then-distances-ne-DISTANCES-clause-settings_after
unfolding begun_with bytes_begun settings_begun
returns-then-distances-ne-DISTANCES-clause-settings_after c = simp (ne_eqb _ 26 c.if-distances-ne-DISTANCES.true) refl

pub returns-clause-value : goal.returns-clause-value
returns-clause-value c = let x = c.args in
    let l = x.bytes.now in
    let s = x.settings.now in
    let d = x.distances.now in
    let e = c.if-distances-ne-DISTANCES.false in
    let f : BeginWith → Front = λ w. begin w x.day x.minute in
    let with-d : List ℕ → Front = λ y. f (record { live = x.live; distances = y; timestamp = x.timestamp }) in
    let p = ap with-d c.distances_of-d.ensures in
    let w = c.begin.ensures in
    w.value ∙ taken_begun d l s x.me _ _ e p

pub returns-clause-bytes_after : goal.returns-clause-bytes_after
returns-clause-bytes_after c = let x = c.args in
    let l = x.bytes.now in
    let s = x.settings.now in
    let d = x.distances.now in
    let e = c.if-distances-ne-DISTANCES.false in
    let f : BeginWith → Front = λ w. begin w x.day x.minute in
    let with-d : List ℕ → Front = λ y. f (record { live = x.live; distances = y; timestamp = x.timestamp }) in
    let p = ap with-d c.distances_of-d.ensures in
    let w = c.begin.ensures in w.bytes_after ∙ taken_begun_bytes d l s x.me _ _ e p

pub returns-clause-settings_after : goal.returns-clause-settings_after
returns-clause-settings_after c = let x = c.args in
    let l = x.bytes.now in
    let s = x.settings.now in
    let d = x.distances.now in
    let e = c.if-distances-ne-DISTANCES.false in
    let f : BeginWith → Front = λ w. begin w x.day x.minute in
    let with-d : List ℕ → Front = λ y. f (record { live = x.live; distances = y; timestamp = x.timestamp }) in
    let p = ap with-d c.distances_of-d.ensures in
    let w = c.begin.ensures in w.settings_after ∙ taken_begun_settings d l s x.me _ _ e p
