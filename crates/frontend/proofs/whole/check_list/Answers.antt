-- `frontend::whole::check_list`: by the act; only a batch and a table are lent a list.
use mathlib.Core.Path.{◌≡◌, refl, sym, ap, ◌∙◌}
use mathlib.Core.List.{List, [], ◌∷◌}
use Prim.Native.Nat.{ℕ}
use denote.Enum.Declared.{tag_of}
use borrow.Enum.Refused.{opened}
use types.Run.{OneOf, miss}
use Rattle.frontend.specs.declared.Act.{Act}
use Rattle.frontend.specs.declared.Act.TheVariants.{Begin, Batch, OpenRead, OpenWrite, SetValue, RequestCommit, LoadClasses}
use Rattle.frontend.specs.declared.Ask.{Ask}
use Rattle.frontend.specs.Plan.{list_number}
use Rattle.frontend.specs.Asked.{call_by}
use Rattle.frontend.specs.contracts.Act.{the_type}
use Rattle.frontend.proofs.whole.check_list.Goals as goal

abbrev rest : List ℕ
rest = 0 ∷ 2 ∷ 3 ∷ 4 ∷ 5 ∷ []

no_list : (k : Act) (a : Ask) (l : List ℕ) → OneOf rest (tag_of the_type k) → 0 ≡ list_number (call_by k a l)
unfolding list_number call_by
no_list Begin a l h = refl
no_list Batch a l h = absurd (miss rest 1 tt h)
no_list OpenRead a l h = refl
no_list OpenWrite a l h = refl
no_list SetValue a l h = refl
no_list RequestCommit a l h = refl
no_list LoadClasses a l h = absurd (miss rest 6 tt h)

pub returns-in-Batch : goal.returns-in-Batch
unfolding list_number call_by
returns-in-Batch c = λ a. c.check_batch.ensures
    ∙ ap (λ (k : Act). list_number (call_by k a c.args.list.now)) (sym c.in-Batch.is)

pub returns-in-LoadClasses : goal.returns-in-LoadClasses
unfolding list_number call_by
returns-in-LoadClasses c = λ a. c.check_length.ensures
    ∙ ap (λ (k : Act). list_number (call_by k a c.args.list.now)) (sym c.in-LoadClasses.is)

pub returns-in_default : goal.returns-in_default
returns-in_default c = λ a. no_list c.args.act a c.args.list.now (opened c.in_default.in_default-own.keys3)
