-- Document 02, 2.6: "A station converted whole at rest continues the same one-by-one running."
use Rattle.std.specs.Prelude.{◌≡◌, List, [], ℕ}
use Rattle.protocol.specs.Table.{Suffix}
use Rattle.image.specs.Layout.{Shape}
use Rattle.history.specs.Ledger.{fed}
use Rattle.history.specs.Claims.{Account, Demand3, DeliveryNumbers, EarlierTries, LastWriters}
use Rattle.service.specs.Service.{Call}
use Rattle.accounts.specs.Accounts.{Origin, AllTyped, account}
use Rattle.accounts.specs.Claims.{AddsExactly}
use Rattle.accounts.specs.Weighed.{Weighs}
use Rattle.conversion.specs.Converted.{taken_service}

-- One account continues the running of another, whatever steps of their C types follow. Of the other nothing is read but what stood before a first step.
pub record Continues {C : Type 0} (AllTyped : List C → Type 0) (before after : Account C) : Type 0 where
  -- before the first step what is told is what had been told; replay is fed the transactions carried, in their order; and its last values are as they were
  pub told : after.told [] ≡ before.told []
  pub votes : after.votes [] ≡ before.votes []
  pub feed : fed (after.told []) ≡ before.carried
  pub last : (t : ℕ) → after.last [] t ≡ before.last [] t
  -- after every list of steps it is fed these first (a list is newest first), and of it with those that followed all is claimed that is claimed of others
  pub fed_first : (cs : List C) → Suffix before.carried (fed (after.told cs))
  pub demand_3 : (cs : List C) → AllTyped cs → Demand3 after cs
  pub delivery_number : (cs : List C) → AllTyped cs → DeliveryNumbers after cs
  pub earlier_tries : (cs : List C) → AllTyped cs → EarlierTries after cs
  pub last_writers : (cs : List C) → AllTyped cs → LastWriters after cs

-- Of the service: its running goes on, sums are exact, and the law of weights holds of what was weighed before and since.
pub record ServiceContinues (s : Shape) (o : Origin) : Type 0 where
  pub running : Continues AllTyped (account o) (account (taken_service s o))
  pub adds_exactly : (cs : List Call) → AllTyped cs → AddsExactly (taken_service s o) cs
  pub weighs : (cs : List Call) → AllTyped cs → Weighs (taken_service s o) cs
