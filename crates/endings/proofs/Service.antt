-- The same of lists of the service's steps: the four buffers of the station hold what the machine's steps of the list left; replay that adds has the last
-- values that the machine's has.
use mathlib.Core.Path.{◌≡◌, sym, ◌∙◌}
use mathlib.Core.Bool.{true}
use mathlib.Core.List.{List, []}
use Prim.Native.Nat.{ℕ, ◌^◌, ◌+◌, ◌-◌, ◌<◌}
use lib.ListN.{length}
use Rattle.numbers.specs.Sizes.{objects}
use Rattle.buffers.specs.Buffers.{Buffers}
use Rattle.replay.specs.Sheet.{value_of}
use Rattle.steps.specs.Run.{trace}
use Rattle.history.specs.Origin.{ledger_of}
use Rattle.history.specs.Claims.{Settled}
use Rattle.history.specs.Running.{sheet}
use Rattle.history.proofs.Running.{Starts}
use Rattle.closing.specs.Copies.{newest}
use Rattle.closing.specs.State.{at_rest, settled}
use Rattle.closing.proofs.Answers.{rest_says}
use Rattle.service.specs.Service.{Call}
use Rattle.service_calls.specs.Lent.{Lent}
use Rattle.accounts.specs.Accounts.{Origin, expand, told, account}
use Rattle.accounts.specs.Weighed.{origin_of}
use Rattle.accounts.proofs.Typed.{settings_long, expand_typed}
use Rattle.accounts.proofs.Effects.{last_same}
use Rattle.accounts.proofs.Running.{sheet_is_replay}
use Rattle.holding.specs.Held.{Holds as StationHolds}
use Rattle.runs.specs.Held.{Holds}
use Rattle.runs.proofs.Demand.{machine_holds, anew}
use Rattle.endings.proofs.Meaning as Machine

module _ (o : Origin) (cs : List Call) (b : Lent) (h : Holds o cs b) where
  abbrev B : Buffers
  B = b.station

  below : StationHolds o.machine (expand o cs) B
  below = machine_holds o cs b h

  -- THE THEOREM: where it says `settled yes`, the value printed for an object is replay's last value; at rest it says so
  pub settled_shows : settled B.images B.records ≡ true → (t : ℕ) → (newest B.images t).value ≡ (account o).last cs t
  settled_shows e t =
      let r = h.rested in
      Machine.settled_shows o.machine (expand o cs) B below e t
      ∙ sym (last_same o r.machine (settings_long o r) cs (expand_typed o r cs h.typed) t)

  pub rest_settled : at_rest B.records ≡ true → settled B.images B.records ≡ true
  rest_settled e = Machine.rest_settled o.machine (expand o cs) B below e

  -- where the events say that it is settled, it is said
  pub told_settled : Settled (told o cs) → settled B.images B.records ≡ true
  told_settled s = Machine.told_settled o.machine (expand o cs) B below s

  -- at rest the buffers hold an origin of their own: what follows may be counted from there
  pub rest_origin : at_rest B.records ≡ true → Holds (origin_of o cs) [] b
  rest_origin e = anew o cs b h (rest_says B e)

  -- the value printed as replay's is replay's, and it is the other one where it says `settled yes`
  module _ (k : ℕ) (l : List ℕ) (starts : Starts o.machine k l) (few : length (expand o cs) + k < 2 ^ 64 - 1) (t : ℕ) (known : t < objects) where
    abbrev printed : ℕ
    printed = value_of (sheet (ledger_of o.machine) l (trace o.machine.station (expand o cs))) t

    pub replay_shows : printed ≡ (account o).last cs t
    replay_shows = sheet_is_replay o h.rested k l starts cs h.typed few t known

    pub both_same : settled B.images B.records ≡ true → (newest B.images t).value ≡ printed
    both_same e = settled_shows e t ∙ sym replay_shows
