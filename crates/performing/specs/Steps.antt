-- A step with what is printed for it: the message that it names, what it answered, and the message that it put into the pool; and what replay is told.
use Rattle.std.specs.Prelude.{ℕ, List, ◌++◌}
use Rattle.std.proofs.Math.Option.{Option}
use Rattle.pool.specs.Pool.{count}
use Rattle.service_calls.specs.Lent.{Lent}
use Rattle.orders.specs.declared.Order.{Order}
use Rattle.runs.specs.Order.{call_of}
use Rattle.runs.specs.Left.{told_of, left_of}
use Rattle.report.specs.Texts.{Text}
use Rattle.telling.specs.Telling.{told}
use Rattle.results.specs.Results.{result_texts}
use Rattle.results.specs.Told.{puts_text, seen, message_line, owner_seen, named_texts, put_by, sheet_by}

-- ---- a step, with the bytes that are lent beside it: the message that it puts, what is printed for it, and replay's sheet after it
abbrev pub put_of : Lent → Order → List ℕ → Option (List ℕ)
put_of b o list = put_by o (told_of b (call_of o list)) (count b.station.pool) (left_of b (call_of o list)).station.pool

unfoldable pub step_texts : Lent → Order → List ℕ → List Text
step_texts b o list =
    named_texts o.kind b.station.pool o.place
    ++ (result_texts o.kind (told_of b (call_of o list)) ++ message_line puts_text (put_of b o list))

-- replay is told of the message that was put and of the step itself; of a batch, what its record has after it
unfoldable pub step_sheet : Lent → Order → List ℕ → List ℕ → List ℕ
step_sheet b o list sheet =
    told (told_of b (call_of o list)).number o.kind (left_of b (call_of o list)).station.records (left_of b (call_of o list)).settings o.node
    (sheet_by o (told_of b (call_of o list)) (owner_seen (seen b.station.pool o.place)) (put_of b o list) sheet)
