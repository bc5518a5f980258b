-- What is told of the tenths that wait: what comes first, a class that is none, else its tenths.
use mathlib.Core.Path.{◌≡◌, ap, ◌∙◌}
use mathlib.Core.Bool.{true, false}
use mathlib.Core.List.{List}
use Prim.Native.Nat.{ℕ, ◌≤◌, ◌<◌}
use native.Mathlib.Omega.{arith}
use lib.Dec.{ltb}
use lib.ListN.{length, get_or}
use borrow.Author.Tests.{eq-eqb, ne_eqb, le-ltb, lt-ltb}
use Rattle.classes.specs.Classes.{most_classes, tally_count}
use Rattle.record.specs.Record.{record_of}
use Rattle.record.specs.Call.{called}
use Rattle.settings.specs.Settings.{settings_size, classes_in, tenths}
use Rattle.settings.proofs.Sound.{sound_parts}
use Rattle.frontend.specs.Plan.{lent_number}
use Rattle.frontend.specs.Tell.{waiting_of}
use Rattle.frontend.proofs.First.{lent_none}
use Rattle.frontend.proofs.Begun.{few_tallies}

pub lent_long : (l s : List ℕ) → lent_number l s ≡ 0 → length s ≡ settings_size
lent_long l s fine = (sound_parts s (lent_none l s fine).1).long

pub waits_first : (l s : List ℕ) (class n : ℕ) → n ≡ lent_number l s → (n ≡ 0 → ⊥) → called n 0 ≡ waiting_of l s class
unfolding waiting_of
waits_first l s class n e h = ap (λ (k : ℕ). called k 0) e ∙ simp (ne_eqb (lent_number l s) 0 (λ z. h (e ∙ z)))

module _ (l s : List ℕ) (class : ℕ) (fine : lent_number l s ≡ 0) (k : ℕ) (counted : k ≡ tally_count (classes_in s)) (w : ℕ) (e : w ≡ class) where
  pub waits_none : k ≤ w → called 6 0 ≡ waiting_of l s class
  unfolding waiting_of
  waits_none h =
      let t : ltb class (tally_count (classes_in s)) ≡ false = le-ltb class (tally_count (classes_in s)) (omega (arith, counted, e, h)) in
      simp (eq-eqb (lent_number l s) 0 fine, t)

  module _ (h : w < k) where
    pub class_inside : (i : ℕ) → i ≡ class → i < most_classes
    class_inside i f = let few = few_tallies (classes_in s) (sound_parts s (lent_none l s fine).1).classes in omega (arith, counted, e, f, h, few)

    pub waits_told : (a : ℕ) (i : ℕ) → i ≡ class → (list : List ℕ) → list ≡ tenths (record_of l) s → a ≡ get_or list i 0 → called 0 a ≡ waiting_of l s class
    unfolding waiting_of
    waits_told a i f list g v =
        let t : ltb class (tally_count (classes_in s)) ≡ true = lt-ltb class (tally_count (classes_in s)) (omega (arith, counted, e, h)) in
        let z : a ≡ get_or (tenths (record_of l) s) class 0 = v ∙ ap (λ (x : List ℕ). get_or x i 0) g ∙ ap (λ (j : ℕ). get_or (tenths (record_of l) s) j 0) f
        in
        ap (λ (x : ℕ). called 0 x) z ∙ simp (eq-eqb (lent_number l s) 0 fine, t)
