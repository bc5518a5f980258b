-- One more step: the buffers hold what the longer list leaves, and demand 3 holds of it.
use mathlib.Core.Path.{◌≡◌, sym, ap, subst, ◌∙◌}
use mathlib.Core.List.{List, [], ◌∷◌}
use Prim.Native.Nat.{ℕ}
use Rattle.buffers.specs.declared.Answer.{Answer}
use Rattle.steps.specs.Station.{Station, Quiescent, blank_station}
use Rattle.steps.specs.Step.{Call, step}
use Rattle.buffers.specs.Buffers.{Buffers, station_of, all}
use Rattle.station_calls.specs.Calls.{blank_number, blank_after}
use Rattle.station_calls.proofs.Blanking.{blank_is_blank}
use Rattle.history.specs.Origin.{Origin, Rested, blank_origin, origin_of}
use Rattle.history.specs.Claims.{Typed, AllTyped, reached, told}
use Rattle.history.proofs.Claimed.{always_good, demand_3}
use Rattle.history.proofs.Numbered.{delivery_number}
use Rattle.history.proofs.Origins.{blank_rested}
use Rattle.history.proofs.Resting.{rests}
use Rattle.holding.specs.Left.{told_of, left_of}
use Rattle.holding.specs.Held.{Holds, Claimed}
use Rattle.holding.proofs.After.{Proper, goes}

-- a station that steps reached is proper
pub proper : (o : Origin) → Rested o → (cs : List Call) → AllTyped cs → Proper (reached o cs)
proper o r cs a = let g = always_good o r cs a in record {
  fits = g.wide.fits;
  meets = g.world.valid.records;
  sized = λ n. (g.world.valid.images n).0.size;
}

-- what a step tells and leaves has the claims, where its arguments are of their types
pub claimed : (I R P O : List ℕ) (c : Call) → Typed c → Claimed (all I R P O) c (told_of (all I R P O) c) (left_of (all I R P O) c)
claimed I R P O c t o cs h =
    let b = all I R P O in
    let a : AllTyped (c ∷ cs) = (t, h.typed) in
    let e = h.station in
    let s : Proper (step (station_of b) c).station = subst (λ (x : Station). Proper (step x c).station) (sym e) (proper o h.rested (c ∷ cs) a) in
    let g = goes I R P O h.whole c s in
    record {
      holds = record { rested = h.rested; typed = a; whole = g.0.0; station = g.0.1 ∙ ap (λ (x : Station). (step x c).station) e };
      number = ap (λ (x : Answer). x.number) g.1 ∙ ap (λ (x : Station). (step x c).number) e;
      answer = ap (λ (x : Answer). x.answer) g.1 ∙ ap (λ (x : Station). (step x c).answer) e;
      demand_3 = demand_3 o h.rested (c ∷ cs) a;
      numbers = delivery_number o h.rested (c ∷ cs) a;
    }

-- the maker of a blank station leaves what the empty list left
pub begun : (b : Buffers) (on : ℕ) → blank_number b on ≡ 0 → Holds (blank_origin on) [] (blank_after b on)
begun b on e = let z = blank_is_blank b on e in
    record { rested = blank_rested on; typed = tt; whole = z.0.0; station = z.0.1 ∙ ap blank_station z.1 }

-- buffers at rest hold an origin of their own, from which the next steps may be counted
pub anew : (o : Origin) (cs : List Call) (b : Buffers) → Holds o cs b → Quiescent (station_of b) → Holds (origin_of (reached o cs) (told o cs)) [] b
anew o cs b h rest = record {
  rested = rests o h.rested cs h.typed (subst Quiescent h.station rest);
  typed = tt;
  whole = h.whole;
  station = h.station;
}
