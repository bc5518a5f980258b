-- `station::pools::send`: the buffers' number, then what is due by its cases.
use mathlib.Core.Path.{◌≡◌, sym, ap, ap₂, ◌∙◌}
use mathlib.Core.Bool.{true, false}
use Prim.Native.Nat.{ℕ, ◌<◌, ◌≤◌}
use native.Mathlib.Omega.{arith}
use lib.ListN.{length, length-replicate}
use lib.Seq.{length-take-le}
use Rattle.numbers.specs.Sizes.{longest_message, most_waiting}
use Rattle.numbers.specs.Refusal.{lower}
use Rattle.mask.specs.Mask.{contains}
use Rattle.pool.specs.Pool.{count}
use Rattle.steps.specs.Step.{send, step}
use Rattle.buffers.specs.Buffers.{on_of, record_in, station_of, answer_with}
use Rattle.station.specs.Messages.{sending, send_first}
use Rattle.buffers.proofs.First.{ends_long, told_first}
use Rattle.numbers.proofs.Laws.{lower_none}
use Rattle.station.proofs.Sending.{owed_two, owed_due, owed_put, send_first_lem, send_next, pool_first, started_told, started_pool, off_told_lem, off_left}
use Rattle.station.proofs.Sending.{stop_told, stop_left, full_told, full_left, gone_told, idle_left, sent_both, written_fits}
use borrow.Author.Rules.{rules}
use Rattle.station.proofs.pools.send.Goals as goal

pub returns-then-number-ne0-clause-value : goal.returns-then-number-ne0-clause-value
returns-then-number-ne0-clause-value c = let x = c.args in
    let R = x.records.now in
    let P = x.pool.now in
    let O = x.own.now in
    let e = c.lower-number.ensures ∙ ap₂ lower c.ends_number.ensures
    (c.number-waiting.ensures ∙ c.check.ensures) in
    let h = c.if-number-ne0.true in
    let f = e ∙ send_first_lem R P O x.node (λ z. h (e ∙ z)) in
    let o = step (station_of (sending R P O)) (send x.node x.to x.object) in c.refused.ensures ∙ told_first _ _ o f h

pub returns-then-number-ne0-clause-pool_after : goal.returns-then-number-ne0-clause-pool_after
returns-then-number-ne0-clause-pool_after c = let x = c.args in
    let R = x.records.now in
    let P = x.pool.now in
    let O = x.own.now in
    let e = c.lower-number.ensures ∙ ap₂ lower c.ends_number.ensures
    (c.number-waiting.ensures ∙ c.check.ensures) in
    let h = c.if-number-ne0.true in
    let f = e ∙ send_first_lem R P O x.node (λ z. h (e ∙ z)) in
    let o = step (station_of (sending R P O)) (send x.node x.to x.object) in pool_first _ _ o P f h

pub write_at-w-requires : goal.write_at-w-requires
write_at-w-requires c = let x = c.args in
    let early = ap₂ lower (sym c.ends_number.ensures) (sym (c.number-waiting.ensures ∙ c.check.ensures))
    ∙ sym c.lower-number.ensures ∙ c.if-number-ne0.false in
    (ends_long x.records.now x.own.now x.node (lower_none _ _ early).0, search rules)

pub returns-then-w-eq-DAMAGED-clause-value : goal.returns-then-w-eq-DAMAGED-clause-value
returns-then-w-eq-DAMAGED-clause-value c = let x = c.args in
    let R = x.records.now in
    let P = x.pool.now in
    let O = x.own.now in
    let early = ap₂ lower (sym c.ends_number.ensures) (sym (c.number-waiting.ensures ∙ c.check.ensures))
    ∙ sym c.lower-number.ensures ∙ c.if-number-ne0.false in
    let d = owed_two R x.node x.to x.object _ c.write_at-w.ensures.value c.if-w-eq-DAMAGED.true in
    let g : send_first (sending R P O) x.node ≡ 2 = send_next R P O x.node early ∙ simp d in
    let f = sym g in
    let h : ◌≡◌ {A = ℕ} 2 0 → ⊥ = λ z. (let y : ⊥ = omega arith in y) in
    let o = step (station_of (sending R P O)) (send x.node x.to x.object) in c.refused-then-w-eq-DAMAGED.ensures ∙ told_first _ _ o f h

pub returns-then-w-eq-DAMAGED-clause-pool_after : goal.returns-then-w-eq-DAMAGED-clause-pool_after
returns-then-w-eq-DAMAGED-clause-pool_after c = let x = c.args in
    let R = x.records.now in
    let P = x.pool.now in
    let O = x.own.now in
    let early = ap₂ lower (sym c.ends_number.ensures) (sym (c.number-waiting.ensures ∙ c.check.ensures))
    ∙ sym c.lower-number.ensures ∙ c.if-number-ne0.false in
    let d = owed_two R x.node x.to x.object _ c.write_at-w.ensures.value c.if-w-eq-DAMAGED.true in
    let g : send_first (sending R P O) x.node ≡ 2 = send_next R P O x.node early ∙ simp d in
    let f = sym g in
    let h : ◌≡◌ {A = ℕ} 2 0 → ⊥ = λ z. (let y : ⊥ = omega arith in y) in
    let o = step (station_of (sending R P O)) (send x.node x.to x.object) in pool_first _ _ o P f h

pub returns-then-not-has-clause-value : goal.returns-then-not-has-clause-value
returns-then-not-has-clause-value c = let x = c.args in
    let R = x.records.now in
    let P = x.pool.now in
    let O = x.own.now in
    let early = ap₂ lower (sym c.ends_number.ensures) (sym (c.number-waiting.ensures ∙ c.check.ensures))
    ∙ sym c.lower-number.ensures ∙ c.if-number-ne0.false in
    let due = owed_due R x.node x.to x.object _ c.write_at-w.ensures.value c.if-w-eq-DAMAGED.false in
    let w = due.1 in
    let first : send_first (sending R P O) x.node ≡ 0 = send_next R P O x.node early ∙ simp due.0 in
    let e : contains (on_of O) x.node ≡ false =
    ap (λ (m : ℕ). contains m x.node) (sym c.on.ensures) ∙ sym c.has.ensures
    ∙ c.if-not-has.true in
    c.refused-then-not-has.ensures ∙ ap (λ (k : ℕ). answer_with k 0) c.when_off.ensures ∙ off_told_lem R P O x.node x.to x.object e _ w
    ∙ started_told R P O x.node x.to x.object first

pub returns-then-not-has-clause-pool_after : goal.returns-then-not-has-clause-pool_after
returns-then-not-has-clause-pool_after c = let x = c.args in
    let R = x.records.now in
    let P = x.pool.now in
    let O = x.own.now in
    let early = ap₂ lower (sym c.ends_number.ensures) (sym (c.number-waiting.ensures ∙ c.check.ensures))
    ∙ sym c.lower-number.ensures ∙ c.if-number-ne0.false in
    let due = owed_due R x.node x.to x.object _ c.write_at-w.ensures.value c.if-w-eq-DAMAGED.false in
    let w = due.1 in
    let first : send_first (sending R P O) x.node ≡ 0 = send_next R P O x.node early ∙ simp due.0 in
    let e : contains (on_of O) x.node ≡ false =
    ap (λ (m : ℕ). contains m x.node) (sym c.on.ensures) ∙ sym c.has.ensures
    ∙ c.if-not-has.true in
    off_left R P O x.node x.to x.object e ∙ started_pool R P O x.node x.to x.object first

pub returns-then-w-ne0-clause-value : goal.returns-then-w-ne0-clause-value
returns-then-w-ne0-clause-value c = let x = c.args in
    let R = x.records.now in
    let P = x.pool.now in
    let O = x.own.now in
    let early = ap₂ lower (sym c.ends_number.ensures) (sym (c.number-waiting.ensures ∙ c.check.ensures)) ∙ sym c.lower-number.ensures
    ∙ c.if-number-ne0.false in
    let due = owed_due R x.node x.to x.object _ c.write_at-w.ensures.value c.if-w-eq-DAMAGED.false in
    let w = due.1 in
    let first : send_first (sending R P O) x.node ≡ 0 = send_next R P O x.node early ∙ simp due.0 in
    let e : contains (on_of O) x.node ≡ true =
    ap (λ (m : ℕ). contains m x.node) (sym c.on.ensures)
    ∙ sym c.has.ensures ∙ c.if-not-has.false in
    let h = c.if-w-ne0.true in
    c.refused-then-w-ne0.ensures ∙ stop_told R P O x.node x.to x.object e _ w h ∙ started_told R P O x.node x.to x.object first

pub returns-then-w-ne0-clause-pool_after : goal.returns-then-w-ne0-clause-pool_after
returns-then-w-ne0-clause-pool_after c = let x = c.args in
    let R = x.records.now in
    let P = x.pool.now in
    let O = x.own.now in
    let early = ap₂ lower (sym c.ends_number.ensures) (sym (c.number-waiting.ensures ∙ c.check.ensures)) ∙ sym c.lower-number.ensures
    ∙ c.if-number-ne0.false in
    let due = owed_due R x.node x.to x.object _ c.write_at-w.ensures.value c.if-w-eq-DAMAGED.false in
    let w = due.1 in
    let first : send_first (sending R P O) x.node ≡ 0 = send_next R P O x.node early ∙ simp due.0 in
    let e : contains (on_of O) x.node ≡ true =
    ap (λ (m : ℕ). contains m x.node) (sym c.on.ensures)
    ∙ sym c.has.ensures ∙ c.if-not-has.false in
    let h = c.if-w-ne0.true in
    stop_left R P O x.node x.to x.object e _ w h ∙ started_pool R P O x.node x.to x.object first

pub returns-then-count-ge-MOST_WAITING-clause-value : goal.returns-then-count-ge-MOST_WAITING-clause-value
returns-then-count-ge-MOST_WAITING-clause-value c = let x = c.args in
    let R = x.records.now in
    let P = x.pool.now in
    let O = x.own.now in
    let early = ap₂ lower (sym c.ends_number.ensures) (sym (c.number-waiting.ensures ∙ c.check.ensures))
    ∙ sym c.lower-number.ensures ∙ c.if-number-ne0.false in
    let due = owed_due R x.node x.to x.object _ c.write_at-w.ensures.value c.if-w-eq-DAMAGED.false in
    let w = due.1 in
    let first : send_first (sending R P O) x.node ≡ 0 = send_next R P O x.node early ∙ simp due.0 in
    let e : contains (on_of O) x.node ≡ true =
    ap (λ (m : ℕ). contains m x.node) (sym c.on.ensures) ∙ sym c.has.ensures ∙ c.if-not-has.false in
    let h = c.if-w-ne0.false in
    let n = c.count.ensures.0 in
    let t = c.if-count-ge-MOST_WAITING.true in
    let f : most_waiting ≤ count P = omega arith in
    c.refused-then-count-ge-MOST_WAITING.ensures ∙ full_told R P O x.node x.to x.object e _ w h f ∙ started_told R P O x.node x.to x.object first

pub returns-then-count-ge-MOST_WAITING-clause-pool_after : goal.returns-then-count-ge-MOST_WAITING-clause-pool_after
returns-then-count-ge-MOST_WAITING-clause-pool_after c = let x = c.args in
    let R = x.records.now in
    let P = x.pool.now in
    let O = x.own.now in
    let early = ap₂ lower (sym c.ends_number.ensures) (sym (c.number-waiting.ensures ∙ c.check.ensures))
    ∙ sym c.lower-number.ensures ∙ c.if-number-ne0.false in
    let due = owed_due R x.node x.to x.object _ c.write_at-w.ensures.value c.if-w-eq-DAMAGED.false in
    let w = due.1 in
    let first : send_first (sending R P O) x.node ≡ 0 = send_next R P O x.node early ∙ simp due.0 in
    let e : contains (on_of O) x.node ≡ true =
    ap (λ (m : ℕ). contains m x.node) (sym c.on.ensures) ∙ sym c.has.ensures ∙ c.if-not-has.false in
    let h = c.if-w-ne0.false in
    let n = c.count.ensures.0 in
    let t = c.if-count-ge-MOST_WAITING.true in
    let f : most_waiting ≤ count P = omega arith in
    full_left R P O x.node x.to x.object e _ w h f ∙ started_pool R P O x.node x.to x.object first

pub slice_bounds-b-end : goal.slice_bounds-b-end
slice_bounds-b-end c = let x = c.args in
    let w = (owed_due x.records.now x.node x.to x.object _ c.write_at-w.ensures.value
    c.if-w-eq-DAMAGED.false).1 in
    let f = written_fits (record_in x.records.now x.node) x.node x.to x.object _ w in
    let i = c.from-n.ensures in
    let g : length c.write_at-w.new.out ≡ longest_message = search rules in
    omega arith

pub slice_bounds-add-end : goal.slice_bounds-add-end
slice_bounds-add-end c = let x = c.args in
    let w = (owed_due x.records.now x.node x.to x.object _ c.write_at-w.ensures.value c.if-w-eq-DAMAGED.false).1 in
    let f = written_fits (record_in x.records.now x.node) x.node x.to x.object _ w in
    let i = c.from-n.ensures in
    let g : length c.write_at-w.new.out ≡ longest_message = search rules in
    sym (length-take-le c.from-n.result c.write_at-w.new.out (omega arith))

pub returns-then-n-gt0-clause-value : goal.returns-then-n-gt0-clause-value
returns-then-n-gt0-clause-value c = let x = c.args in
    let R = x.records.now in
    let P = x.pool.now in
    let O = x.own.now in
    let early = ap₂ lower (sym c.ends_number.ensures) (sym (c.number-waiting.ensures ∙ c.check.ensures))
    ∙ sym c.lower-number.ensures ∙ c.if-number-ne0.false in
    let due = owed_due R x.node x.to x.object _ c.write_at-w.ensures.value c.if-w-eq-DAMAGED.false in
    let w = due.1 in
    let first : send_first (sending R P O) x.node ≡ 0 = send_next R P O x.node early ∙ simp due.0 in
    let e : contains (on_of O) x.node ≡ true =
    ap (λ (m : ℕ). contains m x.node) (sym c.on.ensures) ∙ sym c.has.ensures
    ∙ c.if-not-has.false in
    let h = c.if-w-ne0.false in
    let n = c.count.ensures.0 in
    let t = c.if-count-ge-MOST_WAITING.false in
    let f : count P < most_waiting = omega arith in
    let p = (lower_none _ _ early).1 in
    let out = c.write_at-w.ensures.out_after ∙ owed_put R x.node x.to x.object _ due.0 in
    let b = sent_both R P O x.node x.to x.object e _ w h f (let i = c.from-n.ensures in let g = c.if-n-gt0.true in omega arith) p _ _
    (length-replicate {A = ℕ} longest_message 0) out _ c.from-n.ensures in
    c.refused-then-n-gt0.ensures ∙ ap (λ (k : ℕ). answer_with k 0) (c.number.ensures ∙ c.add.ensures.number) ∙ b.0
    ∙ started_told R P O x.node x.to x.object first

pub returns-then-n-gt0-clause-pool_after : goal.returns-then-n-gt0-clause-pool_after
returns-then-n-gt0-clause-pool_after c = let x = c.args in
    let R = x.records.now in
    let P = x.pool.now in
    let O = x.own.now in
    let early = ap₂ lower (sym c.ends_number.ensures) (sym (c.number-waiting.ensures ∙ c.check.ensures))
    ∙ sym c.lower-number.ensures ∙ c.if-number-ne0.false in
    let due = owed_due R x.node x.to x.object _ c.write_at-w.ensures.value c.if-w-eq-DAMAGED.false in
    let w = due.1 in
    let first : send_first (sending R P O) x.node ≡ 0 = send_next R P O x.node early ∙ simp due.0 in
    let e : contains (on_of O) x.node ≡ true =
    ap (λ (m : ℕ). contains m x.node) (sym c.on.ensures) ∙ sym c.has.ensures
    ∙ c.if-not-has.false in
    let h = c.if-w-ne0.false in
    let n = c.count.ensures.0 in
    let t = c.if-count-ge-MOST_WAITING.false in
    let f : count P < most_waiting = omega arith in
    let p = (lower_none _ _ early).1 in
    let out = c.write_at-w.ensures.out_after ∙ owed_put R x.node x.to x.object _ due.0 in
    let b = sent_both R P O x.node x.to x.object e _ w h f (let i = c.from-n.ensures in let g = c.if-n-gt0.true in omega arith) p _ _
    (length-replicate {A = ℕ} longest_message 0) out _ c.from-n.ensures in
    c.add.ensures.pool ∙ b.1 ∙ started_pool R P O x.node x.to x.object first

pub returns-clause-value : goal.returns-clause-value
returns-clause-value c = let x = c.args in
    let R = x.records.now in
    let P = x.pool.now in
    let O = x.own.now in
    let early = ap₂ lower (sym c.ends_number.ensures) (sym (c.number-waiting.ensures ∙ c.check.ensures))
    ∙ sym c.lower-number.ensures ∙ c.if-number-ne0.false in
    let due = owed_due R x.node x.to x.object _ c.write_at-w.ensures.value
    c.if-w-eq-DAMAGED.false in
    let w = due.1 in
    let first : send_first (sending R P O) x.node ≡ 0 = send_next R P O x.node early ∙ simp due.0 in
    let e : contains (on_of O) x.node ≡ true =
    ap (λ (m : ℕ). contains m x.node) (sym c.on.ensures) ∙ sym c.has.ensures
    ∙ c.if-not-has.false in
    let h = c.if-w-ne0.false in
    let n = c.count.ensures.0 in
    let t = c.if-count-ge-MOST_WAITING.false in
    let f : count P < most_waiting = omega arith in
    let i = c.from-n.ensures in
    let g = c.if-n-gt0.false in
    c.refused-2.ensures ∙ gone_told R P O x.node x.to x.object e _ w h f ∙ started_told R P O x.node x.to x.object first

pub returns-clause-pool_after : goal.returns-clause-pool_after
returns-clause-pool_after c = let x = c.args in
    let R = x.records.now in
    let P = x.pool.now in
    let O = x.own.now in
    let early = ap₂ lower (sym c.ends_number.ensures) (sym (c.number-waiting.ensures ∙ c.check.ensures))
    ∙ sym c.lower-number.ensures ∙ c.if-number-ne0.false in
    let due = owed_due R x.node x.to x.object _ c.write_at-w.ensures.value
    c.if-w-eq-DAMAGED.false in
    let w = due.1 in
    let first : send_first (sending R P O) x.node ≡ 0 = send_next R P O x.node early ∙ simp due.0 in
    let e : contains (on_of O) x.node ≡ true =
    ap (λ (m : ℕ). contains m x.node) (sym c.on.ensures) ∙ sym c.has.ensures
    ∙ c.if-not-has.false in
    let h = c.if-w-ne0.false in
    let n = c.count.ensures.0 in
    let t = c.if-count-ge-MOST_WAITING.false in
    let f : count P < most_waiting = omega arith in
    let i = c.from-n.ensures in
    let g = c.if-n-gt0.false in
    idle_left R P O x.node x.to x.object e _ w h f (omega arith) ∙ started_pool R P O x.node x.to x.object first
