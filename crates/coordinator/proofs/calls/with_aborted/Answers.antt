-- `coordinator::calls::with_aborted`: by who is awaited.
use borrow.Author.Tests.{eq-eqb, ne_eqb}
use mathlib.Core.Path.{sym}
use Rattle.coordinator.specs.Calls.{ended_aborted}
use Rattle.coordinator.proofs.calls.with_aborted.Goals as goal

pub returns-then-awaited_by-eq0 : goal.returns-then-awaited_by-eq0
unfolding ended_aborted
returns-then-awaited_by-eq0 c = simp (c.idle_with.ensures, sym c.awaited_by.ensures, eq-eqb _ 0 c.if-awaited_by-eq0.true)

pub returns : goal.returns
unfolding ended_aborted
returns c = simp (sym c.awaited_by.ensures, ne_eqb _ 0 c.if-awaited_by-eq0.false)
