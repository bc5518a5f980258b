-- A call on a record as bytes: 1 and 2 of the bytes, else the call by value, written back where its number is 0.
use Rattle.std.specs.Prelude.{cond, List, ℕ, eqb, length, Result, Ok, Err}
use Rattle.numbers.specs.Numbers.{wrong_length}
use Rattle.numbers.specs.declared.refusals.Refusal.{Refusal}
use Rattle.numbers.specs.Outcome.{code_of}
use Rattle.coordinator.specs.declared.Coordinator.{Coordinator}
use Rattle.coordinator.specs.Step.{Step}
use Rattle.coordinator.specs.State.{blank_record}
use Rattle.record.specs.declared.Called.{Called}
use Rattle.record.specs.Layout.{record_size}
use Rattle.record.specs.Record.{record_of, bytes_of, check}

abbrev pub called : ℕ → ℕ → Called
called number answer = record { number = number; answer = answer }

-- what the caller is told: by what a call returned, of a step, and of a call on bytes
abbrev pub told : Result ℕ Refusal → Called
told (Ok answer) = called 0 answer
told (Err r) = called (code_of r) 0

abbrev pub told_by : Step → Called
told_by s = called s.number s.answer

unfoldable pub called_of : (Coordinator → Step) → List ℕ → Called
called_of f l = cond (eqb (check l) 0) (told_by (f (record_of l))) (called (check l) 0)

-- the bytes after a step, and after a call
unfoldable pub kept : Step → List ℕ → List ℕ
kept s l = cond (eqb s.number 0) (bytes_of s.coordinator) l

unfoldable pub record_after : (Coordinator → Step) → List ℕ → List ℕ
record_after f l = cond (eqb (check l) 0) (kept (f (record_of l)) l) l

-- ---- a blank record written: 1 for another length
unfoldable pub blank_number : List ℕ → ℕ
blank_number l = cond (eqb (length l) record_size) 0 wrong_length

unfoldable pub blank_after : List ℕ → List ℕ
blank_after l = cond (eqb (length l) record_size) (bytes_of blank_record) l
