-- What a call comes to: its number, its answer (0 where there is none), and the record after it. A refused call leaves the record that it was given.
use Rattle.std.specs.Prelude.{ℕ, Result, Ok, Err}
use Rattle.numbers.specs.declared.refusals.Refusal.{Refusal}
use Rattle.numbers.specs.Outcome.{code_of}
use Rattle.coordinator.specs.declared.Coordinator.{Coordinator}
use Rattle.coordinator.specs.declared.Taken.{Taken}

pub record Step : Type 0 where
  pub number : ℕ
  pub answer : ℕ
  pub coordinator : Coordinator

-- what a call that is taken comes to
abbrev pub step_taken : Taken → Step
step_taken t = record { number = 0; answer = t.answer; coordinator = t.coordinator }

-- what a call that was given the record c comes to, by what it returned
abbrev pub step : Coordinator → Result Taken Refusal → Step
step c (Ok t) = step_taken t
step c (Err r) = record { number = code_of r; answer = 0; coordinator = c }
