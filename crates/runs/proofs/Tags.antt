-- The kinds of a host's calls by their tags: what a match's default is told.
use mathlib.Core.Path.{◌≡◌, refl}
use mathlib.Core.Bool.{true}
use mathlib.Core.List.{List, [], ◌∷◌}
use Prim.Native.Nat.{ℕ}
use types.Run.{OneOf, miss}
use denote.Enum.Declared.{tag_of}
use Rattle.orders.specs.contracts.Kind.{the_type}
use Rattle.frontend.specs.declared.Act.TheVariants as acts
use Rattle.orders.specs.declared.Kind.{Kind}
use Rattle.orders.specs.declared.Kind.TheVariants.{Begin, Batch, OpenRead, OpenWrite, SetValue, Found, Reselect, RequestCommit, Abort}
use Rattle.orders.specs.declared.Kind.TheVariants.{LoadHours, LoadClasses, Send, Deliver, Drop, Switch}
use Rattle.runs.specs.Order.{is_host, is_planned, act_of}

-- tags: Begin 0, Batch 1, OpenRead 2, OpenWrite 3, SetValue 4, Found 5, Reselect 6, RequestCommit 7, Abort 8, LoadHours 9, LoadClasses 10, Send 11,
-- Deliver 12, Drop 13, Switch 14
abbrev host_keys : List ℕ
host_keys = 0 ∷ 1 ∷ 2 ∷ 3 ∷ 4 ∷ 5 ∷ 6 ∷ 7 ∷ 8 ∷ 9 ∷ 10 ∷ []

pub host_key : (k : Kind) → OneOf host_keys (tag_of the_type k) → is_host k ≡ true
host_key Begin h = refl
host_key Batch h = refl
host_key OpenRead h = refl
host_key OpenWrite h = refl
host_key SetValue h = refl
host_key Found h = refl
host_key Reselect h = refl
host_key RequestCommit h = refl
host_key Abort h = refl
host_key LoadHours h = refl
host_key LoadClasses h = refl
host_key Send h = absurd (miss host_keys 11 tt h)
host_key Deliver h = absurd (miss host_keys 12 tt h)
host_key Drop h = absurd (miss host_keys 13 tt h)
host_key Switch h = absurd (miss host_keys 14 tt h)

-- those that a front end plans
abbrev planned_keys : List ℕ
planned_keys = 0 ∷ 1 ∷ 2 ∷ 3 ∷ 4 ∷ 7 ∷ 10 ∷ []

pub planned_key : (k : Kind) → OneOf planned_keys (tag_of the_type k) → is_planned k ≡ true
planned_key Begin h = refl
planned_key Batch h = refl
planned_key OpenRead h = refl
planned_key OpenWrite h = refl
planned_key SetValue h = refl
planned_key Found h = absurd (miss planned_keys 5 tt h)
planned_key Reselect h = absurd (miss planned_keys 6 tt h)
planned_key RequestCommit h = refl
planned_key Abort h = absurd (miss planned_keys 8 tt h)
planned_key LoadHours h = absurd (miss planned_keys 9 tt h)
planned_key LoadClasses h = refl
planned_key Send h = absurd (miss planned_keys 11 tt h)
planned_key Deliver h = absurd (miss planned_keys 12 tt h)
planned_key Drop h = absurd (miss planned_keys 13 tt h)
planned_key Switch h = absurd (miss planned_keys 14 tt h)

-- those whose act is the last
abbrev last_keys : List ℕ
last_keys = 5 ∷ 6 ∷ 8 ∷ 9 ∷ 10 ∷ 11 ∷ 12 ∷ 13 ∷ 14 ∷ []

pub last_key : (k : Kind) → OneOf last_keys (tag_of the_type k) → act_of k ≡ acts.LoadClasses
last_key Begin h = absurd (miss last_keys 0 tt h)
last_key Batch h = absurd (miss last_keys 1 tt h)
last_key OpenRead h = absurd (miss last_keys 2 tt h)
last_key OpenWrite h = absurd (miss last_keys 3 tt h)
last_key SetValue h = absurd (miss last_keys 4 tt h)
last_key Found h = refl
last_key Reselect h = refl
last_key RequestCommit h = absurd (miss last_keys 7 tt h)
last_key Abort h = refl
last_key LoadHours h = refl
last_key LoadClasses h = refl
last_key Send h = refl
last_key Deliver h = refl
last_key Drop h = refl
last_key Switch h = refl
