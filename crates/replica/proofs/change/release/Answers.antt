-- `replica::change::release`: by the owner's state, what it can hold or be listed in.
use native.Mathlib.Omega.{arith}
use mathlib.Core.Path.{sym, ◌∙◌}
use borrow.Author.Tests.{eqb-false}
use Rattle.image.proofs.Sound.{check_sound}
use Rattle.image.proofs.Idle.{unlist_unless_listed}
use Rattle.replica.proofs.Kept.{release_held, release_other}
use Rattle.replica.proofs.change.release.Goals as goal

pub returns-then-state-eq-HELD : goal.returns-then-state-eq-HELD
returns-then-state-eq-HELD c = let x = c.args in
    let p = c.requires in
    rw (c.set_state.ensures, c.free.ensures)
    (sym (release_held x.image.now x.o (check_sound x.image.now p.0) p.1 (λ j. omega (arith, c.slice_known-1.given j))
    (sym c.state-state.ensures ∙ c.if-state-eq-HELD.true)))

pub leave-requires : goal.leave-requires
leave-requires c = let x = c.args in
    let p = c.requires in
    λ e. unlist_unless_listed x.image.now x.o (check_sound x.image.now p.0) p.1 (λ j. omega (arith, c.slice_known-1.given j))
    (λ q. eqb-false _ 1 e (c.state-state.ensures ∙ q))

pub returns : goal.returns
returns c = let x = c.args in
    let p = c.requires in
    c.leave.ensures
    ∙ sym (release_other x.image.now x.o (check_sound x.image.now p.0) p.1 (λ j. omega (arith, c.slice_known-1.given j))
    (λ q. c.if-state-eq-HELD.false (c.state-state.ensures ∙ q)))
