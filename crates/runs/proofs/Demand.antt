-- One more step of the service: the buffers hold what the longer list leaves, and demand 3 holds of it. The machine's part of the buffers holds what the
-- machine's steps left, so crate holding's theorem says what a step of the machine leaves and tells.
use mathlib.Core.Path.{◌≡◌, sym, ap, subst, ◌∙◌}
use mathlib.Core.Bool.{cond}
use mathlib.Core.List.{List, [], ◌∷◌}
use Prim.Native.Nat.{ℕ}
use borrow.Author.Tests.{eq-eqb}
use Rattle.numbers.proofs.Laws.{lower_none}
use Rattle.buffers.specs.declared.Answer.{Answer}
use Rattle.buffers.specs.Buffers.{wrong, station_of}
use Rattle.steps.specs.Station.{Station, Quiescent}
use Rattle.steps.specs.Step.{Call as Step, step as step_of}
use Rattle.station_calls.specs.Calls.{blank_number as stationNumber}
use Rattle.history.specs.Claims.{Typed as StepTyped}
use Rattle.holding.specs.Held.{Holds as StationHolds}
use Rattle.holding.proofs.After.{Proper}
use Rattle.holding.proofs.Demand.{proper, claimed as station-claimed, begun as station-begun}
use Rattle.service.specs.Service.{Service, Call, step}
use Rattle.service_calls.specs.Lent.{Lent, service_of, all_settings, blank_number, blank_after}
use Rattle.accounts.specs.Accounts.{Origin, Typed, AllTyped, blank_origin, reached, expand}
use Rattle.accounts.specs.Weighed.{origin_of}
use Rattle.accounts.proofs.Expand.{same_machine}
use Rattle.accounts.proofs.Typed.{expand_typed}
use Rattle.accounts.proofs.Claimed.{demand_3, delivery_number, earlier_tries, adds_exactly, last_writers, blank_rested, rests}
use Rattle.accounts.proofs.Weighed.{weighs}
use Rattle.progress.proofs.Service.{service_oldest}
use Rattle.runs.specs.Left.{told_of, left_of}
use Rattle.runs.specs.Held.{Holds, Claimed}
use Rattle.runs.proofs.Settings.{zeros_long, zeros_fine, zeros_in}
use Rattle.runs.proofs.After.{Stepped, goes}

-- the four buffers of the station hold what the machine's steps of the list left
pub machine_holds : (o : Origin) (cs : List Call) (b : Lent) → Holds o cs b → StationHolds o.machine (expand o cs) b.station
machine_holds o cs b h = record {
  rested = h.rested.machine;
  typed = expand_typed o h.rested cs h.typed;
  whole = h.whole.station;
  station = ap (λ (v : Service). v.machine) h.service ∙ same_machine o cs;
}

-- what a step of the machine leaves and tells
stepped : (o : Origin) (cs : List Call) (b : Lent) → Holds o cs b → (m : Step) → StepTyped m → Stepped b.station m
stepped o cs b h m t =
    let B = b.station in
    let k = machine_holds o cs b h in
    let z = station-claimed B.images B.records B.pool B.own m t o.machine (expand o cs) k in
    record {
      whole = z.holds.whole;
      station = z.holds.station ∙ sym (ap (λ (st : Station). (step_of st m).station) k.station);
      number = z.number ∙ sym (ap (λ (st : Station). (step_of st m).number) k.station);
      answer = z.answer ∙ sym (ap (λ (st : Station). (step_of st m).answer) k.station);
    }

-- what a step tells and leaves has the claims, where its arguments are of their types
pub claimed : (b : Lent) (c : Call) → Typed c → Claimed b c (told_of b c) (left_of b c)
claimed b c t o cs h =
    let a : AllTyped (c ∷ cs) = (t, h.typed) in
    let e : (step (service_of b) c).service ≡ reached o (c ∷ cs) = ap (λ (v : Service). (step v c).service) h.service in
    let m = ap (λ (v : Service). v.machine) e ∙ same_machine o (c ∷ cs) in
    let p = subst Proper (sym m) (proper o.machine h.rested.machine (expand o (c ∷ cs)) (expand_typed o h.rested (c ∷ cs) a)) in
    let g = goes b h.whole (stepped o cs b h) c t p in
    record {
      holds = record { rested = h.rested; typed = a; whole = g.kept.0; service = g.kept.1 ∙ ap (λ (v : Service). (step v c).service) h.service };
      number = ap (λ (x : Answer). x.number) g.told ∙ ap (λ (v : Service). (step v c).number) h.service;
      answer = ap (λ (x : Answer). x.answer) g.told ∙ ap (λ (v : Service). (step v c).answer) h.service;
      demand_3 = demand_3 o h.rested (c ∷ cs) a;
      adds_exactly = adds_exactly o h.rested (c ∷ cs) a;
      weighs = weighs o h.rested (c ∷ cs) a;
      last_writers = last_writers o h.rested (c ∷ cs) a;
      numbers = delivery_number o h.rested (c ∷ cs) a;
      earlier_tries = earlier_tries o h.rested (c ∷ cs) a;
      oldest_through = service_oldest o h.rested (c ∷ cs) a;
    }

-- the maker of a blank service leaves what the empty list left
pub begun : (b : Lent) (on : ℕ) → blank_number b on ≡ 0 → Holds (blank_origin on) [] (blank_after b on)
unfolding blank_number blank_after
begun b on e =
    let z = station-begun b.station on (lower_none (stationNumber b.station on) (cond (wrong b.settings all_settings) 1 0) e).0 in
    simp (eq-eqb (blank_number b on) 0 e) (record {
      rested = blank_rested on;
      typed = tt;
      whole = record { station = z.whole; settings_long = zeros_long; settings_fine = zeros_fine };
      service = λ i. record { machine = z.station i; settings = λ n. zeros_in n i };
    })

-- buffers at rest hold an origin of their own, from which the next steps may be counted
pub anew : (o : Origin) (cs : List Call) (b : Lent) → Holds o cs b → Quiescent (station_of b.station) → Holds (origin_of o cs) [] b
anew o cs b h rest = record {
  rested = rests o h.rested cs h.typed (subst (λ (v : Service). Quiescent v.machine) h.service rest);
  typed = tt;
  whole = h.whole;
  service = h.service;
}
