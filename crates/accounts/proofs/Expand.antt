-- The machine's steps that a list of the service's steps makes: they reach the same machine, and the ends of the service's list are ends of the machine's.
use mathlib.Core.Path.{◌≡◌, refl, sym, ap, ◌∙◌}
use mathlib.Core.Logic.{inl, inr}
use mathlib.Core.List.{List, [], ◌∷◌, ◌++◌}
use Rattle.protocol.specs.Table.{Suffix}
use Rattle.protocol.proofs.Lists.{suffix_of_equal}
use Rattle.steps.specs.Station.{Station}
use Rattle.steps.specs.Run.{after}
use Rattle.history.specs.Claims.{reached as machineReached}
use Rattle.service.specs.Service.{Call, made}
use Rattle.service.proofs.Laws.{after_append}
use Rattle.accounts.specs.Accounts.{Origin, reached, expand}

-- ---- ends of two lists joined
pub suffix_longer : {A : Type 0} (l k m : List A) → Suffix l m → Suffix l (k ++ m)
suffix_longer l [] m s = s
suffix_longer l (x ∷ k) m s = inr (suffix_longer l k m s)

module _ (o : Origin) where
  -- ---- the machine
  pub same_machine : (cs : List Call) → (reached o cs).machine ≡ machineReached o.machine (expand o cs)
  same_machine [] = refl
  same_machine (c ∷ cs) =
      ap (λ (st : Station). after st (made (reached o cs) c)) (same_machine cs)
      ∙ sym (after_append o.machine.station (made (reached o cs) c) (expand o cs))

  -- ---- ends
  pub expand_suffix : (ds cs : List Call) → Suffix ds cs → Suffix (expand o ds) (expand o cs)
  expand_suffix ds [] e = ap (expand o) e
  expand_suffix ds (c ∷ cs) (inl e) = suffix_of_equal (expand o ds) (expand o (c ∷ cs)) (ap (expand o) e)
  expand_suffix ds (c ∷ cs) (inr s) = suffix_longer (expand o ds) (made (reached o cs) c) (expand o cs) (expand_suffix ds cs s)
