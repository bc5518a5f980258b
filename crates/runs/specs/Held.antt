-- Buffers that hold what a list of the service's steps left, and what one more step brings about: demand 3 of the longer list.
use Rattle.std.specs.Prelude.{◌≡◌, List, [], ◌∷◌, ℕ, ◌<◌, length}
use Rattle.std.proofs.Math.Option.{some}
use Rattle.numbers.specs.Sizes.{nodes}
use Rattle.image.specs.Layout.{Shape}
use Rattle.buffers.specs.declared.Answer.{Answer}
use Rattle.station_intake.specs.Convert.{older_station, old_at}
use Rattle.service.specs.Service.{Call, step}
use Rattle.service_calls.specs.Lent.{Lent, lent, service_of, Whole}
use Rattle.history.specs.Claims.{Demand3, DeliveryNumbers, EarlierTries, LastWriters}
use Rattle.accounts.specs.Accounts.{Origin, RestedAs, Rested, AllTyped, reached, account}
use Rattle.accounts.specs.Claims.{AddsExactly}
use Rattle.accounts.specs.Weighed.{Weighs}
use Rattle.progress.specs.Oldest.{OldestThrough}
use Rattle.progress.specs.Service.{service_acts}
use Rattle.conversion.specs.Converted.{taken_service}

-- the origin is at rest, the steps of the list have arguments of their C types, the five buffers are whole, and the service that they are is the one that
-- the steps reached from the origin
pub record Holds (o : Origin) (cs : List Call) (b : Lent) : Type 0 where
  pub rested : Rested o
  pub typed : AllTyped cs
  pub whole : Whole b
  pub service : service_of b ≡ reached o cs

-- after one more step, told r: the buffers hold what the longer list left, the number and the answer are the step's own, and the claims hold of
-- the longer list: demand 3, no sum of a batch wrapped, the weights kept, who wrote last, the numbers of deliveries, that no
-- late message counts, and that the oldest gets through
pub record Next (o : Origin) (cs : List Call) (c : Call) (r : Answer) (b : Lent) : Type 0 where
  pub holds : Holds o (c ∷ cs) b
  pub number : r.number ≡ (step (reached o cs) c).number
  pub answer : r.answer ≡ (step (reached o cs) c).answer
  pub demand_3 : Demand3 (account o) (c ∷ cs)
  pub adds_exactly : AddsExactly o (c ∷ cs)
  pub weighs : Weighs o (c ∷ cs)
  pub last_writers : LastWriters (account o) (c ∷ cs)
  pub numbers : DeliveryNumbers (account o) (c ∷ cs)
  pub earlier_tries : EarlierTries (account o) (c ∷ cs)
  pub oldest_through : OldestThrough (account o) (service_acts o) (c ∷ cs)

-- whatever origin and list of steps the buffers before hold
abbrev pub Claimed : Lent → Call → Answer → Lent → Type 0
Claimed before c r after = (o : Origin) (cs : List Call) → Holds o cs before → Next o cs c r after

-- ---- a station converted whole (document 02, 2.6)
-- thirteen images of an older shape, and the other buffers as they are today, hold an origin at rest; the lent images are where the new ones go
pub record HoldsOlder (s : Shape) (o : Origin) (old : List ℕ) (b : Lent) : Type 0 where
  pub rested : RestedAs s o
  pub whole : Whole b
  pub images : (n : ℕ) → n < nodes → old_at s old n ≡ o.machine.station.images n
  pub records : (service_of b).machine.records ≡ o.machine.station.records
  pub pool : (service_of b).machine.pool ≡ o.machine.station.pool
  pub own : (service_of b).machine.own ≡ o.machine.station.own
  pub settings : (service_of b).settings ≡ o.settings

-- then, once all of them are taken in, the buffers hold that origin converted, before its first step
abbrev pub GoesOn : List ℕ → ℕ → List ℕ → List ℕ → Type 0
GoesOn old number before after = (records pool own settings : List ℕ) (s : Shape) (o : Origin) → older_station (length old) ≡ some s → number ≡ 0
    → HoldsOlder s o old (lent before records pool own settings) → Holds (taken_service s o) [] (lent after records pool own settings)
