-- What a call on a lent record does: a step of the coordinator. It answers the step's answer, or the refusal of the step's number, and leaves the step's
-- record.
use Rattle.std.specs.Prelude.{◌≡◌, ℕ, Result, Ok, Err}
use Rattle.numbers.specs.declared.refusals.Refusal.{Refusal}
use Rattle.numbers.specs.Outcome.{code_of}
use Rattle.coordinator.specs.declared.Coordinator.{Coordinator}
use Rattle.coordinator.specs.Step.{Step}

abbrev pub Answers : Step → Result ℕ Refusal → Type 0
Answers s (Ok answer) = (s.number ≡ 0) × (s.answer ≡ answer)
Answers s (Err r) = (s.number ≡ code_of r) × (s.answer ≡ 0)

abbrev pub Does : Step → Result ℕ Refusal → Coordinator → Type 0
Does s answered after = Answers s answered × (after ≡ s.coordinator)
