-- The record's own calls that a transaction which adds is made of. It opens each of its objects to write and gives each its amount; when votes are asked
-- for, each amount becomes the value found with the amount added. A list of deeds is newest first.
use Rattle.std.specs.Prelude.{ℕ, Bool, not, List, [], ◌∷◌, take}
use Rattle.wire.specs.Formed.{every}
use Rattle.coordinator.specs.declared.Object.{Object}
use Rattle.coordinator.specs.declared.Coordinator.{Coordinator}
use Rattle.coordinator.specs.declared.BeginWith.{BeginWith}
use Rattle.coordinator.specs.Step.{Step}
use Rattle.coordinator.specs.System.{System}
use Rattle.coordinator.specs.Calls.{begin_of, open_of, set_of, request_commit_of, abort_of}
use Rattle.increments.specs.Sums.{sum64, past}

-- ---- deeds
-- an object opened to read or to write; its new value
pub data Edit : Type 0 where
  reads : ℕ → Edit
  writes : ℕ → Edit
  values : ℕ → ℕ → Edit

pub data Deed : Type 0 where
  begins : BeginWith → Deed
  edits : Edit → Deed
  asks : Deed
  aborts : Deed

unfoldable pub edit_of : Coordinator → ℕ → Edit → Step
edit_of c me (reads t) = open_of c me t 0
edit_of c me (writes t) = open_of c me t 1
edit_of c me (values t v) = set_of c me t v

unfoldable pub deed_of : System → Coordinator → ℕ → Deed → Step
deed_of s c me (begins w) = begin_of s c me w
deed_of s c me (edits e) = edit_of c me e
deed_of s c me asks = request_commit_of s c me
deed_of s c me aborts = abort_of c me

-- the record after deeds, each taking what the one before left; a refused one leaves it as it was
unfoldable pub ran : System → Coordinator → ℕ → List Deed → Coordinator
ran s c me [] = c
ran s c me (d ∷ ds) = (deed_of s (ran s c me ds) me d).coordinator

-- ---- amounts
pub record Amount : Type 0 where
  pub object : ℕ
  pub grams : ℕ

-- an amount for each of a list of objects; 0 where the amounts are fewer
unfoldable pub amounts : List ℕ → List ℕ → List Amount
amounts [] grams = []
amounts (t ∷ l) [] = record { object = t; grams = 0 } ∷ amounts l []
amounts (t ∷ l) (g ∷ grams) = record { object = t; grams = g } ∷ amounts l grams

abbrev pub amounts_of : ℕ → List ℕ → List ℕ → List Amount
amounts_of n objects grams = amounts (take n objects) grams

-- each object opened to write and given its amount, after other deeds
unfoldable pub adding : List Amount → List Deed → List Deed
adding [] ds = ds
adding (a ∷ l) ds = adding l (edits (values a.object a.grams) ∷ edits (writes a.object) ∷ ds)

-- the objects that are open
abbrev pub in_use : Coordinator → List Object
in_use c = take c.count c.objects

-- each amount added to the value found, after other deeds
unfoldable pub summing : List Object → List Deed → List Deed
summing [] ds = ds
summing (x ∷ l) ds = summing l (edits (values x.object (sum64 x.value x.new)) ∷ ds)

-- a new value is past the range
abbrev pub fits_in : Object → Bool
fits_in x = not (past x.value x.new)

unfoldable pub any_past : Coordinator → Bool
any_past c = not (every fits_in (in_use c))
