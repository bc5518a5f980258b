-- Runs: a list of steps, newest first, each taking what the one before left; and what is seen of them, event by event.
use Rattle.std.specs.Prelude.{List, [], ◌∷◌, ℕ}
use Rattle.std.proofs.Math.Option.{Option}
use Rattle.steps.specs.Station.{Station}
use Rattle.steps.specs.Step.{Call, Outcome, step}

-- the station after the steps of a list
abbrev pub after : Station → List Call → Station
after st [] = st
after st (c ∷ cs) = (step (after st cs) c).station

-- an event: a step, its answer, and the message that it put into the pool, if any
pub record Event : Type 0 where
  pub call : Call
  pub number : ℕ
  pub answer : ℕ
  pub put : Option (List ℕ)

abbrev pub event_of : Call → Outcome → Event
event_of c r = record { call = c; number = r.number; answer = r.answer; put = r.put }

-- the trace of the steps of a list
abbrev pub trace : Station → List Call → List Event
trace st [] = []
trace st (c ∷ cs) = event_of c (step (after st cs) c) ∷ trace st cs
