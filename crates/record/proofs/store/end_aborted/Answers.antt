-- `record::store::end_aborted`: by whether a node is awaited.
use mathlib.Core.Path.{sym, ◌∙◌}
use native.Mathlib.Omega.{arith}
use borrow.Author.Tests.{eq-eqb, ne_eqb}
use Rattle.octets.proofs.Laws.{Bytes}
use Rattle.coordinator.specs.Calls.{ended_aborted}
use Rattle.record.proofs.OnBytes.{checked_length}
use Rattle.record.proofs.Stored.{turned_stored}
use Rattle.record.proofs.store.end_aborted.Goals as goal

pub become_idle-requires : goal.become_idle-requires
become_idle-requires c = checked_length _ c.requires

pub returns-then-awaited_in-eq0 : goal.returns-then-awaited_in-eq0
unfolding ended_aborted
returns-then-awaited_in-eq0 c = rw c.become_idle.ensures (simp (eq-eqb _ 0 (sym c.awaited_in.ensures ∙ c.if-awaited_in-eq0.true)))

pub returns-else-awaited_in-eq0 : goal.returns-else-awaited_in-eq0
unfolding ended_aborted
returns-else-awaited_in-eq0 c = let l = c.args.bytes.now in
    let small : Bytes l = λ j. omega (arith, c.slice_known-1.given j) in
    let t = ne_eqb _ 0 (λ z. c.if-awaited_in-eq0.false (c.awaited_in.ensures ∙ z)) in
    rw c.turn.ensures (turned_stored l small c.requires 2 3 ∙ simp t)
