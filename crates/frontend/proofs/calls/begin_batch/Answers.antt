-- `frontend::calls::begin_batch`: refused by the record, or begun, and each tally opened and given its grams.
use mathlib.Core.Path.{◌≡◌, sym, ap, ap₂, subst, ◌∙◌}
use mathlib.Core.List.{List, ◌∷◌, ◌++◌}
use Prim.Native.Nat.{ℕ, ◌≤◌, ◌<◌, ◌^◌}
use native.Mathlib.Omega.{arith}
use lib.ListN.{length, get_or}
use mir.Syntax.{w16}
use mir.Val.{Fits}
use Rattle.numbers.specs.Sizes.{nodes}
use Rattle.octets.proofs.Laws.{Bytes}
use Rattle.parts.specs.Parts.{part, splice}
use Rattle.classes.specs.Weights.{grams_of, left_of}
use Rattle.coordinator.specs.declared.BeginWith.{BeginWith}
use Rattle.coordinator.specs.System.{tree}
use Rattle.coordinator.specs.Calls.{begin_of}
use Rattle.record.specs.declared.Called.{Called}
use Rattle.record.specs.Record.{record_of, check}
use Rattle.record.specs.Call.{kept}
use Rattle.record.proofs.Kept.{same_bytes}
use Rattle.deeds.proofs.Held.{Holds, checked_holds, holds_checked, begin_holds}
use Rattle.settings.specs.Settings.{classes_in, tenths, settled_as}
use Rattle.settings.proofs.Sound.{sound_parts}
use Rattle.frontend.proofs.Begun.{few_tallies, added_left, batch_stays, batch_goes}
use borrow.Author.Rules.{rules}
use Rattle.frontend.proofs.calls.begin_batch.Goals as goal

-- what a begin leaves is a record
held : (me : ℕ) (w : BeginWith) → w.timestamp < 2 ^ 32 → length w.distances ≡ nodes → ((i : ℕ) → Fits w16 (get_or w.distances i 0))
    → (l : List ℕ) → Bytes l → check l ≡ 0 → Holds (kept (begin_of tree (record_of l) me w) l) (begin_of tree (record_of l) me w).coordinator
held me w time long each l small e = begin_holds me l (record_of l) (checked_holds l small e) w long time (λ i. (each i).fits)

pub tenths-waits-requires : goal.tenths-waits-requires
tenths-waits-requires c = (sound_parts c.args.settings.now c.requires.1.0).long

pub slice_bounds-sort-end : goal.slice_bounds-sort-end
slice_bounds-sort-end c = let n = (sound_parts c.args.settings.now c.requires.1.0).long in
    omega (arith, n)

pub sort-sorted-requires : goal.sort-sorted-requires
unfolding part
sort-sorted-requires c = (sound_parts c.args.settings.now c.requires.1.0).classes

pub slice_bounds-count-end : goal.slice_bounds-count-end
slice_bounds-count-end c = let n = (sound_parts c.args.settings.now c.requires.1.0).long in
    omega (arith, n)

pub slice_bounds-tallies-end : goal.slice_bounds-tallies-end
slice_bounds-tallies-end c = let n = (sound_parts c.args.settings.now c.requires.1.0).long in
    omega (arith, n)

pub add_all-requires-clause-bytes_value : goal.add_all-requires-clause-bytes_value
unfolding part
add_all-requires-clause-bytes_value c = let x = c.args in
    let l = x.bytes.now in
    let small : Bytes l = λ j. omega (arith, c.slice_known-1.given j) in
    let h = holds_checked _ _ (held x.me x.w (search rules) (search rules) (λ i. search rules) l small c.requires.0) in
    let few = few_tallies (classes_in x.settings.now) (sound_parts x.settings.now c.requires.1.0).classes in ap check c.begin.ensures.bytes_after ∙ h

pub add_all-requires-clause-n_le_most_open : goal.add_all-requires-clause-n_le_most_open
unfolding part
add_all-requires-clause-n_le_most_open c = let x = c.args in
    let l = x.bytes.now in
    let small : Bytes l = λ j. omega (arith, c.slice_known-1.given j) in
    let h = holds_checked _ _ (held x.me x.w (search rules) (search rules) (λ i. search rules) l small c.requires.0) in
    let few = few_tallies (classes_in x.settings.now) (sound_parts x.settings.now c.requires.1.0).classes
    in subst (λ (k : ℕ). k ≤ 8) (sym c.count-count.ensures.0) few

pub settle-requires : goal.settle-requires
settle-requires c = (sound_parts c.args.settings.now c.requires.1.0).long

pub returns-then-r-eq0-clause-value : goal.returns-then-r-eq0-clause-value
unfolding part settled_as
returns-then-r-eq0-clause-value c = let x = c.args in
    let l = x.bytes.now in
    let s = x.settings.now in
    let list = x.list.now in
    let small : Bytes l = λ j. omega (arith, c.slice_known-1.given j) in
    let e = c.requires.0 in
    let fine = (sound_parts s c.requires.1.0).classes in
    let b = c.begin.ensures in
    let B = begin_of tree (record_of l) x.me x.w in
    let zero : B.number ≡ 0 = sym (ap (λ (r : Called). r.number) (c.from-r.ensures ∙ b.value)) ∙ c.if-r-eq0.true in
    let t = c.tenths-waits.ensures in
    let w = tenths (record_of l) s in
    let grams = c.sort-sorted.ensures.grams_value ∙ ap (λ (k : List ℕ). grams_of (classes_in s) k list) t in
    let left = c.sort-sorted.ensures.left_value ∙ ap (λ (k : List ℕ). left_of (classes_in s) k list) t in
    let g = batch_goes l s x.me x.w list (same_bytes l small e) zero (held x.me x.w (search rules) (search rules) (λ i. search rules) l small e) fine in
    let a = c.add_all.ensures.bytes_after in
    let m = added_left x.me _ _ _ _ _ _ _ _ _ a b.bytes_after c.count-count.ensures.0 c.tallies-tallies.ensures grams in
    let p = ap₂ (λ (u v : List ℕ). splice 17 211 (1 ∷ (u ++ v)) s) t left in (c.from-r.ensures ∙ b.value) ∙ g.0

pub returns-then-r-eq0-clause-bytes_after : goal.returns-then-r-eq0-clause-bytes_after
unfolding part settled_as
returns-then-r-eq0-clause-bytes_after c = let x = c.args in
    let l = x.bytes.now in
    let s = x.settings.now in
    let list = x.list.now in
    let small : Bytes l = λ j. omega (arith, c.slice_known-1.given j) in
    let e = c.requires.0 in
    let fine = (sound_parts s c.requires.1.0).classes in
    let b = c.begin.ensures in
    let B = begin_of tree (record_of l) x.me x.w in
    let zero : B.number ≡ 0 = sym (ap (λ (r : Called). r.number) (c.from-r.ensures ∙ b.value)) ∙ c.if-r-eq0.true in
    let t = c.tenths-waits.ensures in
    let w = tenths (record_of l) s in
    let grams = c.sort-sorted.ensures.grams_value ∙ ap (λ (k : List ℕ). grams_of (classes_in s) k list) t in
    let left = c.sort-sorted.ensures.left_value ∙ ap (λ (k : List ℕ). left_of (classes_in s) k list) t in
    let g = batch_goes l s x.me x.w list (same_bytes l small e) zero (held x.me x.w (search rules) (search rules) (λ i. search rules) l small e) fine in
    let a = c.add_all.ensures.bytes_after in
    let m = added_left x.me _ _ _ _ _ _ _ _ _ a b.bytes_after c.count-count.ensures.0 c.tallies-tallies.ensures grams in
    let p = ap₂ (λ (u v : List ℕ). splice 17 211 (1 ∷ (u ++ v)) s) t left in m ∙ g.1.0

pub returns-then-r-eq0-clause-settings_after : goal.returns-then-r-eq0-clause-settings_after
unfolding part settled_as
returns-then-r-eq0-clause-settings_after c = let x = c.args in
    let l = x.bytes.now in
    let s = x.settings.now in
    let list = x.list.now in
    let small : Bytes l = λ j. omega (arith, c.slice_known-1.given j) in
    let e = c.requires.0 in
    let fine = (sound_parts s c.requires.1.0).classes in
    let b = c.begin.ensures in
    let B = begin_of tree (record_of l) x.me x.w in
    let zero : B.number ≡ 0 = sym (ap (λ (r : Called). r.number) (c.from-r.ensures ∙ b.value)) ∙ c.if-r-eq0.true in
    let t = c.tenths-waits.ensures in
    let w = tenths (record_of l) s in
    let grams = c.sort-sorted.ensures.grams_value ∙ ap (λ (k : List ℕ). grams_of (classes_in s) k list) t in
    let left = c.sort-sorted.ensures.left_value ∙ ap (λ (k : List ℕ). left_of (classes_in s) k list) t in
    let g = batch_goes l s x.me x.w list (same_bytes l small e) zero (held x.me x.w (search rules) (search rules) (λ i. search rules) l small e) fine in
    let a = c.add_all.ensures.bytes_after in
    let m = added_left x.me _ _ _ _ _ _ _ _ _ a b.bytes_after c.count-count.ensures.0 c.tallies-tallies.ensures grams in
    let p = ap₂ (λ (u v : List ℕ). splice 17 211 (1 ∷ (u ++ v)) s) t left in c.settle.ensures ∙ p ∙ g.1.1

pub returns-else-r-eq0-clause-value : goal.returns-else-r-eq0-clause-value
returns-else-r-eq0-clause-value c = let x = c.args in
    let l = x.bytes.now in
    let s = x.settings.now in
    let small : Bytes l = λ j. omega (arith, c.slice_known-1.given j) in
    let b = c.begin.ensures in
    let g = batch_stays l s x.me x.w x.list.now (same_bytes l small c.requires.0)
    (λ q. c.if-r-eq0.false (ap (λ (r : Called). r.number) (c.from-r.ensures ∙ b.value) ∙ q)) in (c.from-r.ensures ∙ b.value) ∙ g.0

pub returns-else-r-eq0-clause-bytes_after : goal.returns-else-r-eq0-clause-bytes_after
returns-else-r-eq0-clause-bytes_after c = let x = c.args in
    let l = x.bytes.now in
    let s = x.settings.now in
    let small : Bytes l = λ j. omega (arith, c.slice_known-1.given j) in
    let b = c.begin.ensures in
    let g = batch_stays l s x.me x.w x.list.now (same_bytes l small c.requires.0)
    (λ q. c.if-r-eq0.false (ap (λ (r : Called). r.number) (c.from-r.ensures ∙ b.value) ∙ q)) in b.bytes_after ∙ g.1.0

pub returns-else-r-eq0-clause-settings_after : goal.returns-else-r-eq0-clause-settings_after
returns-else-r-eq0-clause-settings_after c = let x = c.args in
    let l = x.bytes.now in
    let s = x.settings.now in
    let small : Bytes l = λ j. omega (arith, c.slice_known-1.given j) in
    let b = c.begin.ensures in
    let g = batch_stays l s x.me x.w x.list.now (same_bytes l small c.requires.0)
    (λ q. c.if-r-eq0.false (ap (λ (r : Called). r.number) (c.from-r.ensures ∙ b.value) ∙ q)) in g.1.1
