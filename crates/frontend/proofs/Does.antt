-- What a call does on a record and settings as bytes: refused for what is lent, or as its plan says.
use mathlib.Core.Path.{◌≡◌, sym, ap, ap₂, ◌∙◌}
use mathlib.Core.List.{List}
use Prim.Native.Nat.{ℕ}
use lib.ListN.{length}
use Rattle.numbers.specs.Refusal.{lower}
use Rattle.record.specs.declared.Called.{Called}
use Rattle.record.specs.Record.{record_of, bytes_of, check}
use Rattle.record.specs.Call.{called}
use Rattle.settings.specs.Settings.{settings_size, settings_number}
use Rattle.settings.proofs.Sound.{sound_parts}
use Rattle.frontend.specs.Plan.{Plan, Call, refused_plan, plan_on, told_by, left_by, lent_number, first_number, list_number}
use Rattle.frontend.specs.Plan.{front_told, front_record, front_settings}
use Rattle.frontend.proofs.First.{lent_none as Lent-both, first_lent, first_none}
use Rattle.frontend.proofs.First.{first_told, first_record, first_settings, plan_told, plan_record, plan_settings}
use Rattle.frontend.proofs.Deed.{refused_left}

-- what is told, and what is left of the record and of the settings
pub record Does (l s : List ℕ) (me : ℕ) (a : Call) (r : Called) (l' s' : List ℕ) : Type 0 where
  pub told : r ≡ front_told l s me a
  pub its_record : l' ≡ front_record l s me a
  pub settings : s' ≡ front_settings l s me a

module _ (l s : List ℕ) (me : ℕ) (a : Call) where
  pub refused_first : (k : ℕ) → k ≡ first_number l s a → (k ≡ 0 → ⊥) → Does l s me a (called k 0) l s
  refused_first k e h =
      record { told = first_told l s me a k e h; its_record = first_record l s me a k e h; settings = first_settings l s me a k e h }

  module _ (z : first_number l s a ≡ 0) where
    pub lent_none : (check l ≡ 0) × (settings_number s ≡ 0)
    lent_none = Lent-both l s (first_none l s a z).0

    pub as_planned : (p : Plan) → plan_on l s me a ≡ p → Does l s me a (told_by p) (left_by p l me) p.settings
    as_planned p e = record {
      told = ap told_by (sym e) ∙ plan_told l s me a z;
      its_record = ap (λ (q : Plan). left_by q l me) (sym e) ∙ plan_record l s me a z;
      settings = ap (λ (q : Plan). q.settings) (sym e) ∙ plan_settings l s me a z;
    }

    -- a plan that is refused leaves the bytes
    pub plan_refuses : bytes_of (record_of l) ≡ l → (k : ℕ) → plan_on l s me a ≡ refused_plan k s → Does l s me a (called k 0) l s
    plan_refuses same k e =
        let d = as_planned (refused_plan k s) e in
        record { told = d.told; its_record = refused_left l same me k s ∙ d.its_record; settings = d.settings }

-- a call that lends no list has the number of record and settings first
module _ (l s : List ℕ) (a : Call) (none : list_number a ≡ 0) where
  pub lent_is : first_number l s a ≡ lent_number l s
  lent_is = first_lent l s a none

  pub lent_first : (k : ℕ) → k ≡ lent_number l s → k ≡ 0 → first_number l s a ≡ 0
  lent_first k e z = lent_is ∙ sym e ∙ z

pub lent_fine : (l s : List ℕ) (k : ℕ) → k ≡ lent_number l s → k ≡ 0 → (check l ≡ 0) × (length s ≡ settings_size)
lent_fine l s k e z = let y = Lent-both l s (sym e ∙ z) in (y.0, (sound_parts s y.1).long)

-- a call that lends a list
pub list_first : (l s : List ℕ) (a : Call) (k m n : ℕ) → k ≡ lower m n → m ≡ lent_number l s → n ≡ list_number a → k ≡ first_number l s a
unfolding first_number
list_first l s a k m n e p q = e ∙ ap₂ lower p q

pub first_fine : (l s : List ℕ) (a : Call) (k : ℕ) → k ≡ first_number l s a → k ≡ 0 → (check l ≡ 0) × (settings_number s ≡ 0)
first_fine l s a k e z = Lent-both l s (first_none l s a (sym e ∙ z)).0
