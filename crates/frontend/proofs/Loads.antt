-- Classes loaded: what comes first, the number of the plan, and the settings with the table in place of the one before.
use mathlib.Core.Path.{◌≡◌, sym, ap, ◌∙◌}
use mathlib.Core.Bool.{cond, not}
use mathlib.Core.List.{List, []}
use Prim.Native.Nat.{ℕ}
use lib.Dec.{eqb}
use borrow.Author.Tests.{eq-eqb}
use Rattle.numbers.specs.Refusal.{lower}
use Rattle.classes.specs.Classes.{table_number}
use Rattle.classes.specs.Classes.{length_number as tableLength}
use Rattle.coordinator.specs.Calls.{no_node}
use Rattle.record.specs.Record.{record_of}
use Rattle.record.specs.Call.{called}
use Rattle.settings.specs.Settings.{classed}
use Rattle.frontend.specs.Plan.{Plan, load_classes, refused_plan, classes_number, plan, plan_on, told_by, lent_number, list_number, first_number}
use Rattle.frontend.specs.Plan.{front_told, front_settings}
use Rattle.frontend.proofs.First.{first_none, plan_told, plan_settings}
use Rattle.frontend.proofs.Does.{list_first}
use Rattle.frontend.proofs.Deed.{plan_refused, plan_taken}

module _ (l s : List ℕ) (me : ℕ) (list : List ℕ) where
  pub loads_first : (n m r : ℕ) → n ≡ lent_number l s → m ≡ tableLength list → r ≡ lower n m → r ≡ first_number l s (load_classes list)
  unfolding list_number
  loads_first n m r e f h = list_first l s (load_classes list) r n m h e f

  module _ (z : first_number l s (load_classes list) ≡ 0) where
    pub loads_number : (p t k : ℕ) → p ≡ (record_of l).phase → t ≡ table_number (not (eqb p 0)) list → k ≡ cond (no_node me) 4 t
        → k ≡ classes_number (record_of l) me list
    unfolding classes_number list_number
    loads_number p t k e f h =
        let fits = eq-eqb (tableLength list) 0 (first_none l s (load_classes list) z).1 in
        let g : k ≡ cond (no_node me) 4 (table_number (not (eqb (record_of l).phase 0)) list) =
        h ∙ ap (cond (no_node me) 4) (f ∙ ap (λ (x : ℕ). table_number (not (eqb x 0)) list) e) in
        g ∙ simp fits

    module _ (k : ℕ) (e : k ≡ classes_number (record_of l) me list) where
      -- refused
      module _ (h : k ≡ 0 → ⊥) where
        refuses : refused_plan k s ≡ plan_on l s me (load_classes list)
        unfolding plan
        refuses = ap (λ (n : ℕ). refused_plan n s) e ∙ sym (plan_refused (classes_number (record_of l) me list) 0 [] (classed s list) s (λ q. h (e ∙ q)))

        pub loads_refused : (called k 0 ≡ front_told l s me (load_classes list)) × (s ≡ front_settings l s me (load_classes list))
        loads_refused = (
          ap told_by refuses ∙ plan_told l s me (load_classes list) z,
          ap (λ (p : Plan). p.settings) refuses ∙ plan_settings l s me (load_classes list) z,
        )

      -- taken
      module _ (h : k ≡ 0) where
        takes : record { number = 0; answer = 0; deeds = []; settings = classed s list } ≡ plan_on l s me (load_classes list)
        unfolding plan
        takes = sym (plan_taken (classes_number (record_of l) me list) 0 [] (classed s list) s (sym e ∙ h))

        pub loads_taken : (called 0 0 ≡ front_told l s me (load_classes list)) × (classed s list ≡ front_settings l s me (load_classes list))
        loads_taken = (
          ap told_by takes ∙ plan_told l s me (load_classes list) z,
          ap (λ (p : Plan). p.settings) takes ∙ plan_settings l s me (load_classes list) z,
        )
