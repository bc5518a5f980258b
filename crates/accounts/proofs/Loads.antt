-- What tables that are loaded leave of a node's settings: hours leave classes, kind and tenths; classes leave no kind and none waiting.
use mathlib.Core.Path.{◌≡◌, ap, ◌∙◌}
use mathlib.Core.Logic.{inr}
use mathlib.Core.Bool.{false, not}
use mathlib.Core.List.{List}
use Prim.Native.Nat.{ℕ, ◌+◌, ◌<◌, ◌≤◌}
use native.Mathlib.Omega.{arith}
use lib.Dec.{eqb, ltb}
use lib.ListN.{length, get_or, get_or-eq_default}
use borrow.Author.Tests.{eqb-true, ltb-true, ltb-false}
use Rattle.parts.specs.Parts.{padded}
use Rattle.parts.proofs.Laws.{length_part, get_d_part, length_splice, length_padded, padded_at}
use Rattle.hours.specs.Kept.{kept_size, stored}
use Rattle.hours.proofs.Theorems.{length_stored}
use Rattle.classes.specs.Classes.{most_classes}
use Rattle.classes.specs.Classes.{length_number as tableLength}
use Rattle.classes.proofs.Table.{accepted_bounded, table_fits}
use Rattle.replica.proofs.Delivered.{past}
use Rattle.clauses.proofs.Parts.{by_test}
use Rattle.coordinator.specs.declared.Coordinator.{Coordinator}
use Rattle.coordinator.specs.State.{idle_phase}
use Rattle.coordinator.specs.Calls.{no_node}
use Rattle.settings.specs.Settings.{settings_size, classes_in, own_kind, waited_in, left_in, loaded, classed}
use Rattle.settings.specs.Settings.{adds as kindAdds}
use Rattle.settings.proofs.Sound.{part_apart, splice_at}
use Rattle.frontend.specs.Plan.{classes_number}
use Rattle.history.proofs.Tests.{not-false}
use Rattle.accounts.proofs.Facts.{loaded_kind}

-- ---- the same classes, kind and tenths
pub record SameParts (s s' : List ℕ) : Type 0 where
  pub classes : classes_in s' ≡ classes_in s
  pub kind : kindAdds s' ≡ kindAdds s
  pub waited : waited_in s' ≡ waited_in s
  pub left : left_in s' ≡ left_in s

pub loaded_parts : (s list : List ℕ) → length s ≡ settings_size → SameParts s (loaded s list)
loaded_parts s list e =
    let n = length_stored list in
    let h : 0 + kept_size ≤ length s = omega (arith, e) in record {
      classes = part_apart 24 187 kept_size 0 (stored list) s n h (omega (arith, e)) (inr (omega arith));
      kind = loaded_kind s list e;
      waited = part_apart most_classes 212 kept_size 0 (stored list) s n h (omega (arith, e)) (inr (omega arith));
      left = part_apart most_classes 220 kept_size 0 (stored list) s n h (omega (arith, e)) (inr (omega arith));
    }

-- ---- a table of classes that is accepted is short, so zeros stand behind it
module _ (c : Coordinator) (me : ℕ) (s list : List ℕ) (long : length s ≡ settings_size) (e : classes_number c me list ≡ 0) where
  short : length list ≤ 24
  unfolding classes_number
  short =
      let a = past (not (eqb (tableLength list) 0)) 0 _ e in
      let b = past (no_node me) 3 _ a.1 in
      table_fits list (eqb-true (tableLength list) 0 (not-false _ a.0)) (accepted_bounded (not (eqb c.phase idle_phase)) list b.1)

  behind : (j : ℕ) → j < 41 → 24 ≤ j → get_or (classed s list) (187 + j) 0 ≡ 0
  behind j h k = let n = short in
      splice_at 41 187 (padded 41 list) s (length_padded 41 list) (omega (arith, long)) j h
      ∙ padded_at 41 list j h ∙ get_or-eq_default list 0 {n = j} (omega (arith, n, k))

  pub classed_kind : kindAdds (classed s list) ≡ false
  classed_kind = ap (λ (k : ℕ). not (eqb k own_kind)) (behind 24 (omega arith) (omega arith))

  pub classed_waited : (i : ℕ) → get_or (waited_in (classed s list)) i 0 ≡ 0
  classed_waited i = by_test (get_or (waited_in (classed s list)) i 0 ≡ 0) (ltb i most_classes)
      (λ t. let h = ltb-true i most_classes t in let k : 212 + i ≡ 187 + (25 + i) = omega arith in
      get_d_part most_classes 212 (classed s list) i h ∙ ap (λ (j : ℕ). get_or (classed s list) j 0) k ∙ behind (25 + i) (omega (arith, h)) (omega arith))
      (λ t. let h = ltb-false i most_classes t in
      let n = length_splice 41 187 (padded 41 list) s (length_padded 41 list) (omega (arith, long)) in
      let p = length_part most_classes 212 (classed s list) (omega (arith, n, long)) in
      get_or-eq_default (waited_in (classed s list)) 0 {n = i} (omega (arith, p, h)))
