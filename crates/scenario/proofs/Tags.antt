-- The kinds of steps that take no list, or hours, by their tags: what a match's default is told.
use mathlib.Core.Path.{◌≡◌, refl}
use mathlib.Core.List.{List, [], ◌∷◌}
use Prim.Native.Nat.{ℕ}
use types.Run.{OneOf, miss}
use denote.Enum.Declared.{tag_of}
use Rattle.lists.specs.declared.Shape.TheVariants.{Hours}
use Rattle.orders.specs.contracts.Kind.{the_type}
use Rattle.orders.specs.declared.Kind.{Kind}
use Rattle.orders.specs.declared.Kind.TheVariants.{Begin, Batch, OpenRead, OpenWrite, SetValue, Found, Reselect, RequestCommit, Abort}
use Rattle.orders.specs.declared.Kind.TheVariants.{LoadHours, LoadClasses, Send, Deliver, Drop, Switch}
use Rattle.scenario.specs.Lines.{shape_of}

-- all but Batch 1 and LoadClasses 10
abbrev other_keys : List ℕ
other_keys = 0 ∷ 2 ∷ 3 ∷ 4 ∷ 5 ∷ 6 ∷ 7 ∷ 8 ∷ 9 ∷ 11 ∷ 12 ∷ 13 ∷ 14 ∷ []

pub other_key : (k : Kind) → OneOf other_keys (tag_of the_type k) → shape_of k ≡ Hours
unfolding shape_of
other_key Begin h = refl
other_key Batch h = absurd (miss other_keys 1 tt h)
other_key OpenRead h = refl
other_key OpenWrite h = refl
other_key SetValue h = refl
other_key Found h = refl
other_key Reselect h = refl
other_key RequestCommit h = refl
other_key Abort h = refl
other_key LoadHours h = refl
other_key LoadClasses h = absurd (miss other_keys 10 tt h)
other_key Send h = refl
other_key Deliver h = refl
other_key Drop h = refl
other_key Switch h = refl
