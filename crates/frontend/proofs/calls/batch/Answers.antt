-- `frontend::calls::batch`: refused for what is lent, the weights, the minute, the table or the hours; else begun.
use mathlib.Core.Path.{sym, ap, ◌∙◌}
use mathlib.Core.Bool.{Bool, not, cond, ◌||◌}
use Prim.Native.Nat.{ℕ}
use native.Mathlib.Omega.{arith}
use lib.Dec.{eqb, ltb}
use Rattle.octets.proofs.Laws.{Bytes}
use Rattle.parts.specs.Parts.{part}
use Rattle.hours.specs.Hours.{last_minute}
use Rattle.coordinator.specs.declared.Coordinator.{Coordinator}
use Rattle.coordinator.specs.System.{tree}
use Rattle.coordinator.specs.Calls.{begin_of}
use Rattle.record.specs.Record.{record_of}
use Rattle.record.proofs.Kept.{same_bytes}
use Rattle.settings.proofs.Sound.{sound_parts}
use Rattle.frontend.specs.Plan.{Call, batch, out_of_turn_after, list_number}
use Rattle.frontend.proofs.Does.{refused_first, list_first, first_fine}
use Rattle.frontend.proofs.Begun.{own_number_lem, out_of_turn_lem, batch_refuses, overweight_three, no_table_lem, shut_batch, open_batch, neither}
use Rattle.frontend.proofs.calls.batch.Goals as goal

pub returns-then-number-ne0-clause-value : goal.returns-then-number-ne0-clause-value
unfolding list_number
returns-then-number-ne0-clause-value c = let x = c.args in
    let l = x.bytes.now in
    let s = x.settings.now in
    let small : Bytes l = λ j. omega (arith, c.slice_known-1.given j) in
    let a : Call = batch x.w x.day x.minute x.list.now in
    let f = list_first l s a _ _ _ c.lower-number.ensures (c.number.ensures ∙ c.check_lent.ensures) (c.number-length.ensures ∙ c.check_batch.ensures) in
    let d = refused_first l s x.me a _ f c.if-number-ne0.true in c.refused.ensures ∙ d.told

pub returns-then-number-ne0-clause-bytes_after : goal.returns-then-number-ne0-clause-bytes_after
unfolding list_number
returns-then-number-ne0-clause-bytes_after c = let x = c.args in
    let l = x.bytes.now in
    let s = x.settings.now in
    let small : Bytes l = λ j. omega (arith, c.slice_known-1.given j) in
    let a : Call = batch x.w x.day x.minute x.list.now in
    let f = list_first l s a _ _ _ c.lower-number.ensures (c.number.ensures ∙ c.check_lent.ensures) (c.number-length.ensures ∙ c.check_batch.ensures) in
    let d = refused_first l s x.me a _ f c.if-number-ne0.true in d.its_record

pub returns-then-number-ne0-clause-settings_after : goal.returns-then-number-ne0-clause-settings_after
unfolding list_number
returns-then-number-ne0-clause-settings_after c = let x = c.args in
    let l = x.bytes.now in
    let s = x.settings.now in
    let small : Bytes l = λ j. omega (arith, c.slice_known-1.given j) in
    let a : Call = batch x.w x.day x.minute x.list.now in
    let f = list_first l s a _ _ _ c.lower-number.ensures (c.number.ensures ∙ c.check_lent.ensures) (c.number-length.ensures ∙ c.check_batch.ensures) in
    let d = refused_first l s x.me a _ f c.if-number-ne0.true in d.settings

pub returns-then-either-clause-value : goal.returns-then-either-clause-value
unfolding list_number
returns-then-either-clause-value c = let x = c.args in
    let l = x.bytes.now in
    let s = x.settings.now in
    let small : Bytes l = λ j. omega (arith, c.slice_known-1.given j) in
    let a : Call = batch x.w x.day x.minute x.list.now in
    let f = list_first l s a _ _ _ c.lower-number.ensures (c.number.ensures ∙ c.check_lent.ensures) (c.number-length.ensures ∙ c.check_batch.ensures) in
    let z = sym f ∙ c.if-number-ne0.false in
    let same = same_bytes l small (first_fine l s a _ f c.if-number-ne0.false).0 in
    let e = sym
    (c.either.ensures ∙ ap (λ (b : Bool). b || ltb last_minute x.minute) c.is_overweight.ensures) ∙ c.if-either.true in
    let d = batch_refuses l s x.me x.w x.day x.minute x.list.now same z 3
    (overweight_three l s x.me x.w x.day x.minute x.list.now same z e) (λ q. let y : ⊥ = omega (arith, q) in y) in c.refused-then-either.ensures ∙ d.told

pub returns-then-either-clause-bytes_after : goal.returns-then-either-clause-bytes_after
unfolding list_number
returns-then-either-clause-bytes_after c = let x = c.args in
    let l = x.bytes.now in
    let s = x.settings.now in
    let small : Bytes l = λ j. omega (arith, c.slice_known-1.given j) in
    let a : Call = batch x.w x.day x.minute x.list.now in
    let f = list_first l s a _ _ _ c.lower-number.ensures (c.number.ensures ∙ c.check_lent.ensures) (c.number-length.ensures ∙ c.check_batch.ensures) in
    let z = sym f ∙ c.if-number-ne0.false in
    let same = same_bytes l small (first_fine l s a _ f c.if-number-ne0.false).0 in
    let e = sym
    (c.either.ensures ∙ ap (λ (b : Bool). b || ltb last_minute x.minute) c.is_overweight.ensures) ∙ c.if-either.true in
    let d = batch_refuses l s x.me x.w x.day x.minute x.list.now same z 3
    (overweight_three l s x.me x.w x.day x.minute x.list.now same z e) (λ q. let y : ⊥ = omega (arith, q) in y) in d.its_record

pub returns-then-either-clause-settings_after : goal.returns-then-either-clause-settings_after
unfolding list_number
returns-then-either-clause-settings_after c = let x = c.args in
    let l = x.bytes.now in
    let s = x.settings.now in
    let small : Bytes l = λ j. omega (arith, c.slice_known-1.given j) in
    let a : Call = batch x.w x.day x.minute x.list.now in
    let f = list_first l s a _ _ _ c.lower-number.ensures (c.number.ensures ∙ c.check_lent.ensures) (c.number-length.ensures ∙ c.check_batch.ensures) in
    let z = sym f ∙ c.if-number-ne0.false in
    let same = same_bytes l small (first_fine l s a _ f c.if-number-ne0.false).0 in
    let e = sym
    (c.either.ensures ∙ ap (λ (b : Bool). b || ltb last_minute x.minute) c.is_overweight.ensures) ∙ c.if-either.true in
    let d = batch_refuses l s x.me x.w x.day x.minute x.list.now same z 3
    (overweight_three l s x.me x.w x.day x.minute x.list.now same z e) (λ q. let y : ⊥ = omega (arith, q) in y) in d.settings

pub slice_bounds-is_none-end : goal.slice_bounds-is_none-end
unfolding list_number
slice_bounds-is_none-end c = let x = c.args in
    let l = x.bytes.now in
    let s = x.settings.now in
    let small : Bytes l = λ j. omega (arith, c.slice_known-1.given j) in
    let a : Call = batch x.w x.day x.minute x.list.now in
    let f = list_first l s a _ _ _ c.lower-number.ensures (c.number.ensures ∙ c.check_lent.ensures) (c.number-length.ensures ∙ c.check_batch.ensures) in
    let h = (sound_parts s (first_fine l s a _ f c.if-number-ne0.false).1).long in
    omega (arith, h)

pub returns-then-is_none-clause-value : goal.returns-then-is_none-clause-value
unfolding list_number part
returns-then-is_none-clause-value c = let x = c.args in
    let l = x.bytes.now in
    let s = x.settings.now in
    let small : Bytes l = λ j. omega (arith, c.slice_known-1.given j) in
    let a : Call = batch x.w x.day x.minute x.list.now in
    let f = list_first l s a _ _ _ c.lower-number.ensures (c.number.ensures ∙ c.check_lent.ensures) (c.number-length.ensures ∙ c.check_batch.ensures) in
    let z = sym f ∙ c.if-number-ne0.false in
    let same = same_bytes l small (first_fine l s a _ f c.if-number-ne0.false).0 in
    let n = neither x.list.now x.minute _ _ c.either.ensures
    c.is_overweight.ensures c.if-either.false in
    let e = (first_fine l s a _ f c.if-number-ne0.false).0 in
    let own = own_number_lem (λ (k : Coordinator). begin_of tree k x.me x.w) l e _ (c.may_begin.ensures) in
    let t = c.from.ensures ∙ c.late.ensures ∙ ap out_of_turn_after (sym own) in
    let d = batch_refuses l s x.me x.w x.day x.minute x.list.now same z _
    (no_table_lem l s x.me x.w x.day x.minute x.list.now same z n.0 n.1 (sym c.is_none.ensures ∙ c.if-is_none.true) ∙ sym t)
    (λ q. out_of_turn_lem (begin_of tree (record_of l) x.me x.w).number (sym t ∙ q)) in c.refused-then-is_none.ensures ∙ d.told

pub returns-then-is_none-clause-bytes_after : goal.returns-then-is_none-clause-bytes_after
unfolding list_number part
returns-then-is_none-clause-bytes_after c = let x = c.args in
    let l = x.bytes.now in
    let s = x.settings.now in
    let small : Bytes l = λ j. omega (arith, c.slice_known-1.given j) in
    let a : Call = batch x.w x.day x.minute x.list.now in
    let f = list_first l s a _ _ _ c.lower-number.ensures (c.number.ensures ∙ c.check_lent.ensures) (c.number-length.ensures ∙ c.check_batch.ensures) in
    let z = sym f ∙ c.if-number-ne0.false in
    let same = same_bytes l small (first_fine l s a _ f c.if-number-ne0.false).0 in
    let n = neither x.list.now x.minute _ _ c.either.ensures
    c.is_overweight.ensures c.if-either.false in
    let e = (first_fine l s a _ f c.if-number-ne0.false).0 in
    let own = own_number_lem (λ (k : Coordinator). begin_of tree k x.me x.w) l e _ (c.may_begin.ensures) in
    let t = c.from.ensures ∙ c.late.ensures ∙ ap out_of_turn_after (sym own) in
    let d = batch_refuses l s x.me x.w x.day x.minute x.list.now same z _
    (no_table_lem l s x.me x.w x.day x.minute x.list.now same z n.0 n.1 (sym c.is_none.ensures ∙ c.if-is_none.true) ∙ sym t)
    (λ q. out_of_turn_lem (begin_of tree (record_of l) x.me x.w).number (sym t ∙ q)) in d.its_record

pub returns-then-is_none-clause-settings_after : goal.returns-then-is_none-clause-settings_after
unfolding list_number part
returns-then-is_none-clause-settings_after c = let x = c.args in
    let l = x.bytes.now in
    let s = x.settings.now in
    let small : Bytes l = λ j. omega (arith, c.slice_known-1.given j) in
    let a : Call = batch x.w x.day x.minute x.list.now in
    let f = list_first l s a _ _ _ c.lower-number.ensures (c.number.ensures ∙ c.check_lent.ensures) (c.number-length.ensures ∙ c.check_batch.ensures) in
    let z = sym f ∙ c.if-number-ne0.false in
    let same = same_bytes l small (first_fine l s a _ f c.if-number-ne0.false).0 in
    let n = neither x.list.now x.minute _ _ c.either.ensures
    c.is_overweight.ensures c.if-either.false in
    let e = (first_fine l s a _ f c.if-number-ne0.false).0 in
    let own = own_number_lem (λ (k : Coordinator). begin_of tree k x.me x.w) l e _ (c.may_begin.ensures) in
    let t = c.from.ensures ∙ c.late.ensures ∙ ap out_of_turn_after (sym own) in
    let d = batch_refuses l s x.me x.w x.day x.minute x.list.now same z _
    (no_table_lem l s x.me x.w x.day x.minute x.list.now same z n.0 n.1 (sym c.is_none.ensures ∙ c.if-is_none.true) ∙ sym t)
    (λ q. out_of_turn_lem (begin_of tree (record_of l) x.me x.w).number (sym t ∙ q)) in d.settings

pub is_closed-requires : goal.is_closed-requires
unfolding list_number
is_closed-requires c = let x = c.args in
    let l = x.bytes.now in
    let s = x.settings.now in
    let small : Bytes l = λ j. omega (arith, c.slice_known-1.given j) in
    let a : Call = batch x.w x.day x.minute x.list.now in
    let f = list_first l s a _ _ _ c.lower-number.ensures (c.number.ensures ∙ c.check_lent.ensures)
    (c.number-length.ensures ∙ c.check_batch.ensures) in
    (sound_parts s (first_fine l s a _ f c.if-number-ne0.false).1).long

pub returns-then-is_closed-clause-value : goal.returns-then-is_closed-clause-value
unfolding list_number part
returns-then-is_closed-clause-value c = let x = c.args in
    let l = x.bytes.now in
    let s = x.settings.now in
    let small : Bytes l = λ j. omega (arith, c.slice_known-1.given j) in
    let a : Call = batch x.w x.day x.minute x.list.now in
    let f = list_first l s a _ _ _ c.lower-number.ensures (c.number.ensures ∙ c.check_lent.ensures)
    (c.number-length.ensures ∙ c.check_batch.ensures) in
    let z = sym f ∙ c.if-number-ne0.false in
    let same = same_bytes l small (first_fine l s a _ f c.if-number-ne0.false).0 in
    let n = neither x.list.now x.minute _ _ c.either.ensures c.is_overweight.ensures
    c.if-either.false in
    let e = (first_fine l s a _ f c.if-number-ne0.false).0 in
    let own = own_number_lem (λ (k : Coordinator). begin_of tree k x.me x.w) l e _ (c.number-ahead.ensures ∙ c.may_begin-then-is_closed.ensures) in
    let h = shut_batch l s x.me x.w x.day x.minute x.list.now same z n.0 n.1
    (sym c.is_none.ensures ∙ c.if-is_none.false)
    (sym c.is_closed.ensures ∙ c.if-is_closed.true) _ (c.refuse.ensures ∙ ap (λ (k : ℕ). cond (not (eqb k 0)) k 13) (sym own)) in
    let d = batch_refuses l s x.me x.w x.day x.minute x.list.now same z _ h.0 h.1 in c.refused-then-is_closed.ensures ∙ d.told

pub returns-then-is_closed-clause-bytes_after : goal.returns-then-is_closed-clause-bytes_after
unfolding list_number part
returns-then-is_closed-clause-bytes_after c = let x = c.args in
    let l = x.bytes.now in
    let s = x.settings.now in
    let small : Bytes l = λ j. omega (arith, c.slice_known-1.given j) in
    let a : Call = batch x.w x.day x.minute x.list.now in
    let f = list_first l s a _ _ _ c.lower-number.ensures (c.number.ensures ∙ c.check_lent.ensures)
    (c.number-length.ensures ∙ c.check_batch.ensures) in
    let z = sym f ∙ c.if-number-ne0.false in
    let same = same_bytes l small (first_fine l s a _ f c.if-number-ne0.false).0 in
    let n = neither x.list.now x.minute _ _ c.either.ensures c.is_overweight.ensures
    c.if-either.false in
    let e = (first_fine l s a _ f c.if-number-ne0.false).0 in
    let own = own_number_lem (λ (k : Coordinator). begin_of tree k x.me x.w) l e _ (c.number-ahead.ensures ∙ c.may_begin-then-is_closed.ensures) in
    let h = shut_batch l s x.me x.w x.day x.minute x.list.now same z n.0 n.1
    (sym c.is_none.ensures ∙ c.if-is_none.false)
    (sym c.is_closed.ensures ∙ c.if-is_closed.true) _ (c.refuse.ensures ∙ ap (λ (k : ℕ). cond (not (eqb k 0)) k 13) (sym own)) in
    let d = batch_refuses l s x.me x.w x.day x.minute x.list.now same z _ h.0 h.1 in d.its_record

pub returns-then-is_closed-clause-settings_after : goal.returns-then-is_closed-clause-settings_after
unfolding list_number part
returns-then-is_closed-clause-settings_after c = let x = c.args in
    let l = x.bytes.now in
    let s = x.settings.now in
    let small : Bytes l = λ j. omega (arith, c.slice_known-1.given j) in
    let a : Call = batch x.w x.day x.minute x.list.now in
    let f = list_first l s a _ _ _ c.lower-number.ensures (c.number.ensures ∙ c.check_lent.ensures)
    (c.number-length.ensures ∙ c.check_batch.ensures) in
    let z = sym f ∙ c.if-number-ne0.false in
    let same = same_bytes l small (first_fine l s a _ f c.if-number-ne0.false).0 in
    let n = neither x.list.now x.minute _ _ c.either.ensures c.is_overweight.ensures
    c.if-either.false in
    let e = (first_fine l s a _ f c.if-number-ne0.false).0 in
    let own = own_number_lem (λ (k : Coordinator). begin_of tree k x.me x.w) l e _ (c.number-ahead.ensures ∙ c.may_begin-then-is_closed.ensures) in
    let h = shut_batch l s x.me x.w x.day x.minute x.list.now same z n.0 n.1
    (sym c.is_none.ensures ∙ c.if-is_none.false)
    (sym c.is_closed.ensures ∙ c.if-is_closed.true) _ (c.refuse.ensures ∙ ap (λ (k : ℕ). cond (not (eqb k 0)) k 13) (sym own)) in
    let d = batch_refuses l s x.me x.w x.day x.minute x.list.now same z _ h.0 h.1 in d.settings

pub begin_batch-requires : goal.begin_batch-requires
unfolding list_number
begin_batch-requires c = let x = c.args in
    let l = x.bytes.now in
    let s = x.settings.now in
    let small : Bytes l = λ j. omega (arith, c.slice_known-1.given j) in
    let a : Call = batch x.w x.day x.minute x.list.now in
    let f = list_first l s a _ _ _ c.lower-number.ensures (c.number.ensures ∙ c.check_lent.ensures)
    (c.number-length.ensures ∙ c.check_batch.ensures) in
    let n = neither x.list.now x.minute _ _ c.either.ensures
    c.is_overweight.ensures c.if-either.false in
    let e = first_fine l s a _ f c.if-number-ne0.false in
    (e.0, (e.1, n.0))

pub returns-clause-value : goal.returns-clause-value
unfolding list_number part
returns-clause-value c = let x = c.args in
    let l = x.bytes.now in
    let s = x.settings.now in
    let small : Bytes l = λ j. omega (arith, c.slice_known-1.given j) in
    let a : Call = batch x.w x.day x.minute x.list.now in
    let f = list_first l s a _ _ _ c.lower-number.ensures (c.number.ensures ∙ c.check_lent.ensures) (c.number-length.ensures ∙ c.check_batch.ensures) in
    let z = sym f ∙ c.if-number-ne0.false in
    let same = same_bytes l small (first_fine l s a _ f c.if-number-ne0.false).0 in
    let n = neither x.list.now x.minute _ _ c.either.ensures
    c.is_overweight.ensures c.if-either.false in
    let b = c.begin_batch.ensures in
    let d = open_batch l s x.me x.w x.day x.minute x.list.now same z n.0 n.1
    (sym c.is_none.ensures ∙ c.if-is_none.false)
    (sym c.is_closed.ensures ∙ c.if-is_closed.false) _ _ _ b.value b.bytes_after b.settings_after in d.told

pub returns-clause-bytes_after : goal.returns-clause-bytes_after
unfolding list_number part
returns-clause-bytes_after c = let x = c.args in
    let l = x.bytes.now in
    let s = x.settings.now in
    let small : Bytes l = λ j. omega (arith, c.slice_known-1.given j) in
    let a : Call = batch x.w x.day x.minute x.list.now in
    let f = list_first l s a _ _ _ c.lower-number.ensures (c.number.ensures ∙ c.check_lent.ensures) (c.number-length.ensures ∙ c.check_batch.ensures) in
    let z = sym f ∙ c.if-number-ne0.false in
    let same = same_bytes l small (first_fine l s a _ f c.if-number-ne0.false).0 in
    let n = neither x.list.now x.minute _ _ c.either.ensures
    c.is_overweight.ensures c.if-either.false in
    let b = c.begin_batch.ensures in
    let d = open_batch l s x.me x.w x.day x.minute x.list.now same z n.0 n.1
    (sym c.is_none.ensures ∙ c.if-is_none.false)
    (sym c.is_closed.ensures ∙ c.if-is_closed.false) _ _ _ b.value b.bytes_after b.settings_after in d.its_record

pub returns-clause-settings_after : goal.returns-clause-settings_after
unfolding list_number part
returns-clause-settings_after c = let x = c.args in
    let l = x.bytes.now in
    let s = x.settings.now in
    let small : Bytes l = λ j. omega (arith, c.slice_known-1.given j) in
    let a : Call = batch x.w x.day x.minute x.list.now in
    let f = list_first l s a _ _ _ c.lower-number.ensures (c.number.ensures ∙ c.check_lent.ensures) (c.number-length.ensures ∙ c.check_batch.ensures) in
    let z = sym f ∙ c.if-number-ne0.false in
    let same = same_bytes l small (first_fine l s a _ f c.if-number-ne0.false).0 in
    let n = neither x.list.now x.minute _ _ c.either.ensures
    c.is_overweight.ensures c.if-either.false in
    let b = c.begin_batch.ensures in
    let d = open_batch l s x.me x.w x.day x.minute x.list.now same z n.0 n.1
    (sym c.is_none.ensures ∙ c.if-is_none.false)
    (sym c.is_closed.ensures ∙ c.if-is_closed.false) _ _ _ b.value b.bytes_after b.settings_after in d.settings
