-- "A station converted whole at rest continues the same one-by-one running" (document 02, 2.6): what is converted is an origin (Rests), so all that is claimed
-- of lists of steps from an origin is claimed of those that follow; and what was told and carried is not touched.
use mathlib.Core.Path.{◌≡◌, refl}
use mathlib.Core.Bool.{true}
use mathlib.Core.List.{List, []}
use Prim.Native.Nat.{ℕ}
use Rattle.image.specs.Layout.{Shape, has_author}
use Rattle.steps.specs.Station.{Station}
use Rattle.steps.specs.Run.{trace}
use Rattle.protocol.specs.State.{Tx}
use Rattle.service.specs.Service.{Call}
use Rattle.history.specs.Ledger.{Ledger, ledger_from, given_to, last_value, last_writer}
use Rattle.history.specs.Ballots.{ballots_from}
use Rattle.history.specs.Origin.{AuthorIs, origin_of}
use Rattle.history.specs.Origin.{Origin as Machine, RestedAs as MachineRestedAs}
use Rattle.history.specs.Claims.{KnownAs, NewestAtRest}
use Rattle.history.specs.Claims.{AllTyped as AllStepsTyped, account as machineAccount}
use Rattle.history.proofs.Claimed.{demand_3 as machine-demand-3}
use Rattle.history.proofs.Numbered.{delivery_number as machine-delivery-number}
use Rattle.history.proofs.Tries.{earlier_tries as machine-earlier-tries}
use Rattle.history.proofs.Resting.{carried_fed, carried_last, carried_given}
use Rattle.history.proofs.Resting.{last_writers as machine-last-writers}
use Rattle.history.proofs.First.{carried_first}
use Rattle.accounts.specs.Accounts.{Origin, RestedAs, AllTyped, reached, expand, told}
use Rattle.accounts.specs.Accounts.{last_value as serviceLast}
use Rattle.accounts.proofs.Claimed.{demand_3, delivery_number, earlier_tries, adds_exactly, last_writers}
use Rattle.accounts.proofs.Weighed.{weighs}
use Rattle.conversion.specs.Converted.{Convertible, taken_origin, taken_service}
use Rattle.conversion.specs.Claims.{Continues, ServiceContinues}
use Rattle.conversion.proofs.Rests.{taken_rests, taken_service_rests, known_kept}

-- ---- the station's own steps
pub continues : (s : Shape) → Convertible s → (o : Machine) → MachineRestedAs s o
    → Continues AllStepsTyped (machineAccount o) (machineAccount (taken_origin s o))
unfolding ledger_from ballots_from last_value
continues s fit o r =
    let n = taken_origin s o in
    let q = taken_rests s fit o r in
    record {
      told = refl;
      votes = refl;
      feed = carried_fed n;
      last = λ t. refl;
      fed_first = λ cs. carried_first n (trace n.station cs);
      demand_3 = machine-demand-3 n q;
      delivery_number = machine-delivery-number n q;
      earlier_tries = machine-earlier-tries n q;
      last_writers = machine-last-writers n q;
    }

-- what the older program's steps left at rest, with what they told: replay's last values, and what it gives each transaction, are as they told
pub last_told : (s : Shape) (st : Station) (L : Ledger) (t : ℕ) → (machineAccount (taken_origin s (origin_of st L))).last [] t ≡ last_value L t
unfolding ledger_from
last_told s st L t = carried_last st L t

pub given_told : (s : Shape) (st : Station) (L : Ledger) (x : Tx) (t : ℕ) → (machineAccount (taken_origin s (origin_of st L))).given [] x t ≡ given_to L x t
unfolding ledger_from
given_told s st L x t = carried_given st L x t

-- ---- the service's
module _ (s : Shape) (fit : Convertible s) (o : Origin) (r : RestedAs s o) where
  pub service_continues : ServiceContinues s o
  unfolding ledger_from ballots_from serviceLast
  service_continues =
      let n = taken_service s o in
      let q = taken_service_rests s fit o r in
      record {
        running = record {
          told = refl;
          votes = refl;
          feed = carried_fed n.machine;
          last = λ t. refl;
          fed_first = λ cs. carried_first n.machine (trace n.machine.station (expand n cs));
          demand_3 = demand_3 n q;
          delivery_number = delivery_number n q;
          earlier_tries = earlier_tries n q;
          last_writers = last_writers n q;
        };
        adds_exactly = adds_exactly n q;
        weighs = weighs n q;
      }

  -- where authors were kept and known, every newest copy's author is replay's last writer at rest: the claim of 2.5, over the conversion
  pub writers_go_on : has_author s ≡ true → KnownAs s o.machine.station → (cs : List Call) → AllTyped cs
      → NewestAtRest (reached (taken_service s o) cs).machine (λ l t. AuthorIs l t (last_writer (told (taken_service s o) cs) t))
  writers_go_on e known cs typed rest q c n t h i u w =
      let d = last_writers (taken_service s o) (taken_service_rests s fit o r) cs typed in
      d.newest_author rest q c n t h i u w (d.known (known_kept s fit o.machine r.machine e known) n t)
