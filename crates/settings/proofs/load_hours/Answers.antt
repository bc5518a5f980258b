-- `settings::load_hours`: the stored table in place of the one before.
use mathlib.Core.Path.{refl, sym, ap₂, ◌∙◌}
use Rattle.numbers.specs.Refusal.{lower}
use Rattle.parts.specs.Parts.{part}
use Rattle.parts.proofs.Laws.{lent}
use Rattle.hours.specs.Kept.{kept_size, load_after}
use Rattle.settings.proofs.Finds.{load_taken}
use Rattle.settings.proofs.load_hours.Goals as goal

pub returns-clause-value : goal.returns-clause-value
unfolding part
returns-clause-value c = let x = c.args in
    let z = sym (c.in_ok-first_refusal.ensures ∙ ap₂ lower c.check.ensures c.check_table.ensures) in
    c.load.ensures.value ∙ (load_taken x.settings.now x.list.now z).0

pub returns-clause-settings_after : goal.returns-clause-settings_after
unfolding part
returns-clause-settings_after c = let x = c.args in
    let s = x.settings.now in
    let l = x.list.now in
    let z = sym (c.in_ok-first_refusal.ensures ∙ ap₂ lower c.check.ensures c.check_table.ensures) in
    lent (λ k. load_after k l) kept_size 0 kept_size s _ refl c.load.ensures.kept_after ∙ (load_taken s l z).1
