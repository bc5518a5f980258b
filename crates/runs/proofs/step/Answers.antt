-- `runs::step`: a host's call or another, with the claims.
use mathlib.Core.Path.{sym, ◌∙◌}
use mathlib.Core.Path.{◌≡◌}
use mathlib.Core.List.{List}
use Prim.Native.Nat.{ℕ, ◌<◌, ◌^◌}
use lib.ListN.{length, get_or}
use Rattle.numbers.specs.Sizes.{nodes}
use Rattle.orders.specs.declared.Order.{Order}
use mir.Syntax.{w16}
use mir.Val.{Fits}
use Rattle.accounts.specs.Accounts.{Typed}
use Rattle.runs.specs.Order.{call_of}
use Rattle.runs.proofs.Orders.{order_typed, host_all, other_all}
use borrow.Author.Rules.{rules}
use Rattle.runs.proofs.step.Goals as goal

-- an order's numbers are of their types
typed : (o : Order) (list : List ℕ) → o.value < 2 ^ 64 → o.with.timestamp < 2 ^ 32 → length o.with.distances ≡ nodes
    → ((i : ℕ) → Fits w16 (get_or o.with.distances i 0)) → Typed (call_of o list)
typed o list value time long each = order_typed o list value time (long, λ i. (each i).fits)

pub returns-then-is_host-clause-value : goal.returns-then-is_host-clause-value
returns-then-is_host-clause-value c = let x = c.args in
    let h = sym c.is_host.ensures ∙ c.if-is_host.true
    in (host_all x.images.now x.records.now x.pool.now x.own.now x.settings.now x.list.now x.o
    (typed x.o x.list.now (search rules) (search rules) (search rules) (λ i. search rules)) h _ _ _
    (c.host_step.ensures.by_index, c.host_step.ensures.by_index_2)).0

pub returns-then-is_host-clause-settings_after : goal.returns-then-is_host-clause-settings_after
returns-then-is_host-clause-settings_after c = let x = c.args in
    let h = sym c.is_host.ensures ∙ c.if-is_host.true
    in (host_all x.images.now x.records.now x.pool.now x.own.now x.settings.now x.list.now x.o
    (typed x.o x.list.now (search rules) (search rules) (search rules) (λ i. search rules)) h _ _ _
    (c.host_step.ensures.by_index, c.host_step.ensures.by_index_2)).1.0

pub returns-then-is_host-clause-claimed : goal.returns-then-is_host-clause-claimed
returns-then-is_host-clause-claimed c = let x = c.args in
    let h = sym c.is_host.ensures ∙ c.if-is_host.true
    in (host_all x.images.now x.records.now x.pool.now x.own.now x.settings.now x.list.now x.o
    (typed x.o x.list.now (search rules) (search rules) (search rules) (λ i. search rules)) h _ _ _
    (c.host_step.ensures.by_index, c.host_step.ensures.by_index_2)).1.1

pub returns-clause-value : goal.returns-clause-value
returns-clause-value c = let x = c.args in
    let h = sym c.is_host.ensures ∙ c.if-is_host.false
    in (other_all x.images.now x.records.now x.pool.now x.own.now x.settings.now x.list.now x.o
    (typed x.o x.list.now (search rules) (search rules) (search rules) (λ i. search rules)) h _ _ _ _ _
    (c.other_step.ensures.by_index, c.other_step.ensures.by_index_2)).0

pub returns-clause-settings_after : goal.returns-clause-settings_after
returns-clause-settings_after c = let x = c.args in
    let h = sym c.is_host.ensures ∙ c.if-is_host.false
    in (other_all x.images.now x.records.now x.pool.now x.own.now x.settings.now x.list.now x.o
    (typed x.o x.list.now (search rules) (search rules) (search rules) (λ i. search rules)) h _ _ _ _ _
    (c.other_step.ensures.by_index, c.other_step.ensures.by_index_2)).1.0

pub returns-clause-claimed : goal.returns-clause-claimed
returns-clause-claimed c = let x = c.args in
    let h = sym c.is_host.ensures ∙ c.if-is_host.false
    in (other_all x.images.now x.records.now x.pool.now x.own.now x.settings.now x.list.now x.o
    (typed x.o x.list.now (search rules) (search rules) (search rules) (λ i. search rules)) h _ _ _ _ _
    (c.other_step.ensures.by_index, c.other_step.ensures.by_index_2)).1.1
