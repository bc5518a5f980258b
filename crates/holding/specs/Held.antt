-- Buffers that hold what a list of steps left, and what one more step brings about: demand 3 of the longer list.
use Rattle.std.specs.Prelude.{◌≡◌, List, ◌∷◌}
use Rattle.buffers.specs.declared.Answer.{Answer}
use Rattle.steps.specs.Step.{Call, step}
use Rattle.buffers.specs.Buffers.{Buffers, station_of, Whole}
use Rattle.history.specs.Origin.{Origin, Rested}
use Rattle.history.specs.Claims.{AllTyped, reached, account, Demand3, DeliveryNumbers}

-- the origin is at rest, the steps of the list have arguments of their C types, the four buffers are whole, and the station that they are is the one that
-- the steps reached from the origin
pub record Holds (o : Origin) (cs : List Call) (b : Buffers) : Type 0 where
  pub rested : Rested o
  pub typed : AllTyped cs
  pub whole : Whole b
  pub station : station_of b ≡ reached o cs

-- after one more step, told r: the buffers hold what the longer list left, the number and the answer are the step's own, and the claims hold of
-- the longer list
pub record Next (o : Origin) (cs : List Call) (c : Call) (r : Answer) (b : Buffers) : Type 0 where
  pub holds : Holds o (c ∷ cs) b
  pub number : r.number ≡ (step (reached o cs) c).number
  pub answer : r.answer ≡ (step (reached o cs) c).answer
  pub demand_3 : Demand3 (account o) (c ∷ cs)
  pub numbers : DeliveryNumbers (account o) (c ∷ cs)

-- whatever origin and list of steps the buffers before hold
abbrev pub Claimed : Buffers → Call → Answer → Buffers → Type 0
Claimed before c r after = (o : Origin) (cs : List Call) → Holds o cs before → Next o cs c r after
