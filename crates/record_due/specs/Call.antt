-- What is due, on a record as bytes: 1 for either length, 2, then the numbers of `due`.
use Rattle.std.specs.Prelude.{cond, ◌||◌, List, [], ◌∷◌, ℕ, eqb, ltb, length}
use Rattle.numbers.specs.Sizes.{longest_message}
use Rattle.numbers.specs.Numbers.{wrong_length, damaged}
use Rattle.numbers.specs.Refusal.{Refusal, refuse, first_of}
use Rattle.letters.specs.declared.Written.{Written}
use Rattle.coordinator.specs.System.{tree}
use Rattle.due.specs.Due.{due_written, due_buffer}
use Rattle.record.specs.Record.{record_of, check}

unfoldable pub due_first : List ℕ → ℕ → List Refusal
due_first l size = refuse wrong_length (eqb (check l) wrong_length || ltb size longest_message) ∷ refuse damaged (eqb (check l) damaged) ∷ []

unfoldable pub record_due : List ℕ → ℕ → ℕ → ℕ → ℕ → Written
record_due l me node object size =
    cond (eqb (first_of (due_first l size)) 0) (due_written tree size (record_of l) me node object)
    (record { number = first_of (due_first l size); length = 0 })

unfoldable pub record_due_buffer : List ℕ → ℕ → ℕ → ℕ → List ℕ → List ℕ
record_due_buffer l me node object out =
    cond (eqb (first_of (due_first l (length out))) 0) (due_buffer tree (record_of l) me node object out) out
