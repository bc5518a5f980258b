-- `service_calls::check_settings`: the length, then the node's own part.
use mathlib.Core.Path.{◌≡◌, refl, ap, ◌∙◌}
use mathlib.Core.Bool.{cond, not}
use Prim.Native.Nat.{ℕ}
use native.Mathlib.Omega.{arith}
use lib.Dec.{eqb}
use lib.ListN.{length}
use borrow.Author.Tests.{eq-eqb, ne_eqb, lt-ltb, le-ltb}
use Rattle.numbers.specs.Sizes.{nodes}
use Rattle.numbers.specs.Outcome.{code_of}
use Rattle.numbers.proofs.Outcome.{code_counts}
use Rattle.settings.specs.Settings.{settings_number}
use Rattle.service_calls.specs.Lent.{all_settings, settings_first}
use Rattle.service_calls.proofs.Lending.{lent_part}
use Rattle.service_calls.proofs.check_settings.Goals as goal

pub returns-then-settings-ne-SETTINGS : goal.returns-then-settings-ne-SETTINGS
unfolding settings_first
returns-then-settings-ne-SETTINGS c = simp (ne_eqb (length c.args.settings.now) all_settings c.if-settings-ne-SETTINGS.true)

pub returns-then-node-ge-NODES_END : goal.returns-then-node-ge-NODES_END
unfolding settings_first
returns-then-node-ge-NODES_END c = let x = c.args in
    simp (eq-eqb (length x.settings.now) all_settings c.if-settings-ne-SETTINGS.false, le-ltb x.node nodes c.if-node-ge-NODES_END.true)

pub returns-in-Ok : goal.returns-in-Ok
unfolding settings_first
returns-in-Ok c = let x = c.args in
    let S = x.settings.now in
    let e = c.in-Ok.ensures ∙ ap settings_number (lent_part S _ x.node c.from-start.ensures) in
    simp (
      eq-eqb (length S) all_settings c.if-settings-ne-SETTINGS.false,
      lt-ltb x.node nodes
          (omega (arith, c.if-node-ge-NODES_END.false)),
    )
    (ap (λ (k : ℕ). cond (not (eqb k 0)) 2 0) e)

pub returns-in-Err : goal.returns-in-Err
unfolding settings_first
returns-in-Err c = let x = c.args in
    let S = x.settings.now in
    let r = c.in-Err.field-0 in
    let e = c.in-Err.ensures ∙ ap settings_number (lent_part S _ x.node c.from-start.ensures) in
    let counts : 2 ≡ cond (not (eqb (code_of r) 0)) 2 0 = simp (ne_eqb (code_of r) 0 (code_counts r)) refl in
    simp (
      eq-eqb (length S) all_settings c.if-settings-ne-SETTINGS.false,
      lt-ltb x.node nodes
          (omega (arith, c.if-node-ge-NODES_END.false)),
    )
    (counts ∙ ap (λ (k : ℕ). cond (not (eqb k 0)) 2 0) e)
