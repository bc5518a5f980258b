-- `frontend::calls::begin`: refused for what is lent, for the minute or the hours; else the record's own, and what waits is settled.
use mathlib.Core.Path.{◌≡◌, refl, sym, ap, ◌∙◌}
use mathlib.Core.Bool.{not, cond}
use mathlib.Core.List.{List, ◌∷◌, ◌++◌}
use Prim.Native.Nat.{ℕ}
use native.Mathlib.Omega.{arith}
use lib.Dec.{eqb}
use Rattle.octets.proofs.Laws.{Bytes}
use Rattle.coordinator.specs.declared.Coordinator.{Coordinator}
use Rattle.coordinator.specs.System.{tree}
use Rattle.coordinator.specs.Calls.{begin_of}
use Rattle.record.specs.Record.{record_of}
use Rattle.record.specs.declared.Called.{Called}
use Rattle.parts.specs.Parts.{splice}
use Rattle.record.proofs.Kept.{same_bytes}
use Rattle.settings.specs.Settings.{settled_as, no_tenths}
use Rattle.frontend.specs.Plan.{begin, first_number, list_number}
use Rattle.frontend.proofs.Does.{refused_first, lent_is, lent_first, lent_none, lent_fine}
use Rattle.frontend.proofs.Begun.{late_number, shut_number, open_number, own_number_lem, begin_refuses, begin_goes}
use Rattle.frontend.proofs.calls.begin.Goals as goal

pub returns-then-number-ne0-clause-value : goal.returns-then-number-ne0-clause-value
unfolding list_number
returns-then-number-ne0-clause-value c = let x = c.args in
    let l = x.bytes.now in
    let s = x.settings.now in
    let small : Bytes l = λ j. omega (arith, c.slice_known-1.given j) in
    let d = refused_first l s x.me (begin x.w x.day x.minute) _
    ((c.number-number.ensures ∙ c.check_lent.ensures) ∙ sym (lent_is l s (begin x.w x.day x.minute) refl)) c.if-number-ne0.true in c.refused.ensures ∙ d.told

pub returns-then-number-ne0-clause-bytes_after : goal.returns-then-number-ne0-clause-bytes_after
unfolding list_number
returns-then-number-ne0-clause-bytes_after c = let x = c.args in
    let l = x.bytes.now in
    let s = x.settings.now in
    let small : Bytes l = λ j. omega (arith, c.slice_known-1.given j) in
    let d = refused_first l s x.me (begin x.w x.day x.minute) _
    ((c.number-number.ensures ∙ c.check_lent.ensures) ∙ sym (lent_is l s (begin x.w x.day x.minute) refl)) c.if-number-ne0.true in d.its_record

pub returns-then-number-ne0-clause-settings_after : goal.returns-then-number-ne0-clause-settings_after
unfolding list_number
returns-then-number-ne0-clause-settings_after c = let x = c.args in
    let l = x.bytes.now in
    let s = x.settings.now in
    let small : Bytes l = λ j. omega (arith, c.slice_known-1.given j) in
    let d = refused_first l s x.me (begin x.w x.day x.minute) _
    ((c.number-number.ensures ∙ c.check_lent.ensures) ∙ sym (lent_is l s (begin x.w x.day x.minute) refl)) c.if-number-ne0.true in d.settings

pub returns-then-minute-gt-LAST_MINUTE-clause-value : goal.returns-then-minute-gt-LAST_MINUTE-clause-value
unfolding list_number
returns-then-minute-gt-LAST_MINUTE-clause-value c = let x = c.args in
    let l = x.bytes.now in
    let s = x.settings.now in
    let small : Bytes l = λ j. omega (arith, c.slice_known-1.given j) in
    let z : first_number l s (begin x.w x.day x.minute) ≡ 0 = lent_first l s (begin x.w x.day x.minute) refl _
    (c.number-number.ensures ∙ c.check_lent.ensures) c.if-number-ne0.false in
    let e = lent_none l s x.me (begin x.w x.day x.minute) z in
    let same = same_bytes l small e.0 in
    let d = begin_refuses l s x.me x.w x.day x.minute same z 3 (late_number s x.day x.minute c.if-minute-gt-LAST_MINUTE.true _)
    (λ q. let y : ⊥ = omega (arith, q) in y) in c.refused-then-minute-gt-LAST_MINUTE.ensures ∙ d.told

pub returns-then-minute-gt-LAST_MINUTE-clause-bytes_after : goal.returns-then-minute-gt-LAST_MINUTE-clause-bytes_after
unfolding list_number
returns-then-minute-gt-LAST_MINUTE-clause-bytes_after c = let x = c.args in
    let l = x.bytes.now in
    let s = x.settings.now in
    let small : Bytes l = λ j. omega (arith, c.slice_known-1.given j) in
    let z : first_number l s (begin x.w x.day x.minute) ≡ 0 = lent_first l s (begin x.w x.day x.minute) refl _
    (c.number-number.ensures ∙ c.check_lent.ensures) c.if-number-ne0.false in
    let e = lent_none l s x.me (begin x.w x.day x.minute) z in
    let same = same_bytes l small e.0 in
    let d = begin_refuses l s x.me x.w x.day x.minute same z 3 (late_number s x.day x.minute c.if-minute-gt-LAST_MINUTE.true _)
    (λ q. let y : ⊥ = omega (arith, q) in y) in d.its_record

pub returns-then-minute-gt-LAST_MINUTE-clause-settings_after : goal.returns-then-minute-gt-LAST_MINUTE-clause-settings_after
unfolding list_number
returns-then-minute-gt-LAST_MINUTE-clause-settings_after c = let x = c.args in
    let l = x.bytes.now in
    let s = x.settings.now in
    let small : Bytes l = λ j. omega (arith, c.slice_known-1.given j) in
    let z : first_number l s (begin x.w x.day x.minute) ≡ 0 = lent_first l s (begin x.w x.day x.minute) refl _
    (c.number-number.ensures ∙ c.check_lent.ensures) c.if-number-ne0.false in
    let e = lent_none l s x.me (begin x.w x.day x.minute) z in
    let same = same_bytes l small e.0 in
    let d = begin_refuses l s x.me x.w x.day x.minute same z 3 (late_number s x.day x.minute c.if-minute-gt-LAST_MINUTE.true _)
    (λ q. let y : ⊥ = omega (arith, q) in y) in d.settings

pub is_closed-requires : goal.is_closed-requires
is_closed-requires c = (lent_fine _ _ _ (c.number-number.ensures ∙ c.check_lent.ensures) c.if-number-ne0.false).1

pub returns-then-is_closed-clause-value : goal.returns-then-is_closed-clause-value
unfolding list_number
returns-then-is_closed-clause-value c = let x = c.args in
    let l = x.bytes.now in
    let s = x.settings.now in
    let small : Bytes l = λ j. omega (arith, c.slice_known-1.given j) in
    let z : first_number l s (begin x.w x.day x.minute) ≡ 0 = lent_first l s (begin x.w x.day x.minute) refl _
    (c.number-number.ensures ∙ c.check_lent.ensures) c.if-number-ne0.false in
    let e = lent_none l s x.me (begin x.w x.day x.minute) z in
    let same = same_bytes l small e.0 in
    let own = own_number_lem (λ (k : Coordinator). begin_of tree k x.me x.w) l e.0 _ (c.number-own.ensures ∙ c.may_begin.ensures) in
    let h = shut_number s x.day x.minute c.if-minute-gt-LAST_MINUTE.false (sym c.is_closed.ensures ∙ c.if-is_closed.true) _ _
    (c.refuse.ensures ∙ ap (λ (k : ℕ). cond (not (eqb k 0)) k 13) (sym own)) in
    let d = begin_refuses l s x.me x.w x.day x.minute same z _ h.0 h.1 in c.refused-then-is_closed.ensures ∙ d.told

pub returns-then-is_closed-clause-bytes_after : goal.returns-then-is_closed-clause-bytes_after
unfolding list_number
returns-then-is_closed-clause-bytes_after c = let x = c.args in
    let l = x.bytes.now in
    let s = x.settings.now in
    let small : Bytes l = λ j. omega (arith, c.slice_known-1.given j) in
    let z : first_number l s (begin x.w x.day x.minute) ≡ 0 = lent_first l s (begin x.w x.day x.minute) refl _
    (c.number-number.ensures ∙ c.check_lent.ensures) c.if-number-ne0.false in
    let e = lent_none l s x.me (begin x.w x.day x.minute) z in
    let same = same_bytes l small e.0 in
    let own = own_number_lem (λ (k : Coordinator). begin_of tree k x.me x.w) l e.0 _ (c.number-own.ensures ∙ c.may_begin.ensures) in
    let h = shut_number s x.day x.minute c.if-minute-gt-LAST_MINUTE.false (sym c.is_closed.ensures ∙ c.if-is_closed.true) _ _
    (c.refuse.ensures ∙ ap (λ (k : ℕ). cond (not (eqb k 0)) k 13) (sym own)) in
    let d = begin_refuses l s x.me x.w x.day x.minute same z _ h.0 h.1 in d.its_record

pub returns-then-is_closed-clause-settings_after : goal.returns-then-is_closed-clause-settings_after
unfolding list_number
returns-then-is_closed-clause-settings_after c = let x = c.args in
    let l = x.bytes.now in
    let s = x.settings.now in
    let small : Bytes l = λ j. omega (arith, c.slice_known-1.given j) in
    let z : first_number l s (begin x.w x.day x.minute) ≡ 0 = lent_first l s (begin x.w x.day x.minute) refl _
    (c.number-number.ensures ∙ c.check_lent.ensures) c.if-number-ne0.false in
    let e = lent_none l s x.me (begin x.w x.day x.minute) z in
    let same = same_bytes l small e.0 in
    let own = own_number_lem (λ (k : Coordinator). begin_of tree k x.me x.w) l e.0 _ (c.number-own.ensures ∙ c.may_begin.ensures) in
    let h = shut_number s x.day x.minute c.if-minute-gt-LAST_MINUTE.false (sym c.is_closed.ensures ∙ c.if-is_closed.true) _ _
    (c.refuse.ensures ∙ ap (λ (k : ℕ). cond (not (eqb k 0)) k 13) (sym own)) in
    let d = begin_refuses l s x.me x.w x.day x.minute same z _ h.0 h.1 in d.settings

pub tenths-waits-requires : goal.tenths-waits-requires
tenths-waits-requires c = (lent_fine _ _ _ (c.number-number.ensures ∙ c.check_lent.ensures) c.if-number-ne0.false).1

pub begin-requires : goal.begin-requires
begin-requires c = (lent_fine _ _ _ (c.number-number.ensures ∙ c.check_lent.ensures) c.if-number-ne0.false).0

pub settle-requires : goal.settle-requires
settle-requires c = (lent_fine _ _ _ (c.number-number.ensures ∙ c.check_lent.ensures) c.if-number-ne0.false).1

pub returns-then-r-eq0-clause-value : goal.returns-then-r-eq0-clause-value
unfolding list_number settled_as
returns-then-r-eq0-clause-value c = let x = c.args in
    let l = x.bytes.now in
    let s = x.settings.now in
    let small : Bytes l = λ j. omega (arith, c.slice_known-1.given j) in
    let z : first_number l s (begin x.w x.day x.minute) ≡ 0 = lent_first l s (begin x.w x.day x.minute) refl _
    (c.number-number.ensures ∙ c.check_lent.ensures) c.if-number-ne0.false in
    let e = lent_none l s x.me (begin x.w x.day x.minute) z in
    let same = same_bytes l small e.0 in
    let n = open_number s x.day x.minute c.if-minute-gt-LAST_MINUTE.false
    (sym c.is_closed.ensures ∙ c.if-is_closed.false) _ in
    let b = c.begin.ensures in
    let now-settled : _ ≡ settled_as 0 no_tenths (record_of l) s = c.settle.ensures ∙ ap
    (λ (k : List ℕ). splice 17 211 (0 ∷ (k ++ no_tenths)) s) c.tenths-waits.ensures in
    let zero = sym (ap (λ (r : Called). r.number) (c.from-r.ensures ∙ b.value)) ∙ c.if-r-eq0.true in
    let d = begin_goes l s x.me x.w x.day x.minute same z n _ _ _ (c.from-r.ensures ∙ b.value) b.bytes_after
    (λ q. now-settled, λ q. absurd (q zero)) in d.told

pub returns-then-r-eq0-clause-bytes_after : goal.returns-then-r-eq0-clause-bytes_after
unfolding list_number settled_as
returns-then-r-eq0-clause-bytes_after c = let x = c.args in
    let l = x.bytes.now in
    let s = x.settings.now in
    let small : Bytes l = λ j. omega (arith, c.slice_known-1.given j) in
    let z : first_number l s (begin x.w x.day x.minute) ≡ 0 = lent_first l s (begin x.w x.day x.minute) refl _
    (c.number-number.ensures ∙ c.check_lent.ensures) c.if-number-ne0.false in
    let e = lent_none l s x.me (begin x.w x.day x.minute) z in
    let same = same_bytes l small e.0 in
    let n = open_number s x.day x.minute c.if-minute-gt-LAST_MINUTE.false
    (sym c.is_closed.ensures ∙ c.if-is_closed.false) _ in
    let b = c.begin.ensures in
    let now-settled : _ ≡ settled_as 0 no_tenths (record_of l) s = c.settle.ensures ∙ ap
    (λ (k : List ℕ). splice 17 211 (0 ∷ (k ++ no_tenths)) s) c.tenths-waits.ensures in
    let zero = sym (ap (λ (r : Called). r.number) (c.from-r.ensures ∙ b.value)) ∙ c.if-r-eq0.true in
    let d = begin_goes l s x.me x.w x.day x.minute same z n _ _ _ (c.from-r.ensures ∙ b.value) b.bytes_after
    (λ q. now-settled, λ q. absurd (q zero)) in d.its_record

pub returns-then-r-eq0-clause-settings_after : goal.returns-then-r-eq0-clause-settings_after
unfolding list_number settled_as
returns-then-r-eq0-clause-settings_after c = let x = c.args in
    let l = x.bytes.now in
    let s = x.settings.now in
    let small : Bytes l = λ j. omega (arith, c.slice_known-1.given j) in
    let z : first_number l s (begin x.w x.day x.minute) ≡ 0 = lent_first l s (begin x.w x.day x.minute) refl _
    (c.number-number.ensures ∙ c.check_lent.ensures) c.if-number-ne0.false in
    let e = lent_none l s x.me (begin x.w x.day x.minute) z in
    let same = same_bytes l small e.0 in
    let n = open_number s x.day x.minute c.if-minute-gt-LAST_MINUTE.false
    (sym c.is_closed.ensures ∙ c.if-is_closed.false) _ in
    let b = c.begin.ensures in
    let now-settled : _ ≡ settled_as 0 no_tenths (record_of l) s = c.settle.ensures ∙ ap
    (λ (k : List ℕ). splice 17 211 (0 ∷ (k ++ no_tenths)) s) c.tenths-waits.ensures in
    let zero = sym (ap (λ (r : Called). r.number) (c.from-r.ensures ∙ b.value)) ∙ c.if-r-eq0.true in
    let d = begin_goes l s x.me x.w x.day x.minute same z n _ _ _ (c.from-r.ensures ∙ b.value) b.bytes_after
    (λ q. now-settled, λ q. absurd (q zero)) in d.settings

pub returns-else-r-eq0-clause-value : goal.returns-else-r-eq0-clause-value
unfolding list_number
returns-else-r-eq0-clause-value c = let x = c.args in
    let l = x.bytes.now in
    let s = x.settings.now in
    let small : Bytes l = λ j. omega (arith, c.slice_known-1.given j) in
    let z : first_number l s (begin x.w x.day x.minute) ≡ 0 = lent_first l s (begin x.w x.day x.minute) refl _
    (c.number-number.ensures ∙ c.check_lent.ensures) c.if-number-ne0.false in
    let e = lent_none l s x.me (begin x.w x.day x.minute) z in
    let same = same_bytes l small e.0 in
    let n = open_number s x.day x.minute c.if-minute-gt-LAST_MINUTE.false
    (sym c.is_closed.ensures ∙ c.if-is_closed.false) _ in
    let b = c.begin.ensures in
    let more : ((begin_of tree (record_of l) x.me x.w).number ≡ 0 → ⊥) =
    λ q. c.if-r-eq0.false (ap (λ (r : Called). r.number) (c.from-r.ensures ∙ b.value) ∙ q) in
    let d = begin_goes l s x.me x.w x.day x.minute same z n _ _ _ (c.from-r.ensures ∙ b.value) b.bytes_after (λ q. absurd (more q), λ q. refl) in d.told

pub returns-else-r-eq0-clause-bytes_after : goal.returns-else-r-eq0-clause-bytes_after
unfolding list_number
returns-else-r-eq0-clause-bytes_after c = let x = c.args in
    let l = x.bytes.now in
    let s = x.settings.now in
    let small : Bytes l = λ j. omega (arith, c.slice_known-1.given j) in
    let z : first_number l s (begin x.w x.day x.minute) ≡ 0 = lent_first l s (begin x.w x.day x.minute) refl _
    (c.number-number.ensures ∙ c.check_lent.ensures) c.if-number-ne0.false in
    let e = lent_none l s x.me (begin x.w x.day x.minute) z in
    let same = same_bytes l small e.0 in
    let n = open_number s x.day x.minute c.if-minute-gt-LAST_MINUTE.false
    (sym c.is_closed.ensures ∙ c.if-is_closed.false) _ in
    let b = c.begin.ensures in
    let more : ((begin_of tree (record_of l) x.me x.w).number ≡ 0 → ⊥) =
    λ q. c.if-r-eq0.false (ap (λ (r : Called). r.number) (c.from-r.ensures ∙ b.value) ∙ q) in
    let d = begin_goes l s x.me x.w x.day x.minute same z n _ _ _ (c.from-r.ensures ∙ b.value) b.bytes_after (λ q. absurd (more q), λ q. refl) in d.its_record

pub returns-else-r-eq0-clause-settings_after : goal.returns-else-r-eq0-clause-settings_after
unfolding list_number
returns-else-r-eq0-clause-settings_after c = let x = c.args in
    let l = x.bytes.now in
    let s = x.settings.now in
    let small : Bytes l = λ j. omega (arith, c.slice_known-1.given j) in
    let z : first_number l s (begin x.w x.day x.minute) ≡ 0 = lent_first l s (begin x.w x.day x.minute) refl _
    (c.number-number.ensures ∙ c.check_lent.ensures) c.if-number-ne0.false in
    let e = lent_none l s x.me (begin x.w x.day x.minute) z in
    let same = same_bytes l small e.0 in
    let n = open_number s x.day x.minute c.if-minute-gt-LAST_MINUTE.false
    (sym c.is_closed.ensures ∙ c.if-is_closed.false) _ in
    let b = c.begin.ensures in
    let more : ((begin_of tree (record_of l) x.me x.w).number ≡ 0 → ⊥) =
    λ q. c.if-r-eq0.false (ap (λ (r : Called). r.number) (c.from-r.ensures ∙ b.value) ∙ q) in
    let d = begin_goes l s x.me x.w x.day x.minute same z n _ _ _ (c.from-r.ensures ∙ b.value) b.bytes_after (λ q. absurd (more q), λ q. refl) in d.settings
