-- What a step of the service tells its caller, and leaves of the five buffers.
use Rattle.std.specs.Prelude.{cond, List, ℕ}
use Rattle.numbers.specs.Numbers.{out_of_turn}
use Rattle.buffers.specs.declared.Answer.{Answer}
use Rattle.buffers.specs.Buffers.{all, answer_with}
use Rattle.holding.specs.Left.{told_of as stepTold, left_of as stepLeft}
use Rattle.service.specs.Service.{Call, front, load_hours, plain}
use Rattle.service_calls.specs.Lent.{Lent, front_told, front_records, front_settings, load_told, load_settings}
use Rattle.orders.specs.declared.Order.{Order}
use Rattle.runs.specs.Order.{is_host, call_of}

-- what its caller is told
unfoldable pub told_of : Lent → Call → Answer
told_of b (front n a) = front_told b n a
told_of b (load_hours n list) = load_told b n list
told_of b (plain c p) = stepTold b.station c

-- what is left of the buffers
unfoldable pub left_of : Lent → Call → Lent
left_of b (front n a) =
    record {
      station = all b.station.images (front_records b n a) b.station.pool b.station.own;
      settings = front_settings b n a;
    }
left_of b (load_hours n list) = record { station = b.station; settings = load_settings b n list }
left_of b (plain c p) = record { station = stepLeft b.station c; settings = b.settings }

-- ---- an order that is a host's call, and one that is not: the function for the other kind answers 5 and leaves everything
abbrev pub host_told : Lent → Order → List ℕ → Answer
host_told b o list = cond (is_host o.kind) (told_of b (call_of o list)) (answer_with out_of_turn 0)

abbrev pub host_left : Lent → Order → List ℕ → Lent
host_left b o list = cond (is_host o.kind) (left_of b (call_of o list)) b

abbrev pub other_told : Lent → Order → List ℕ → Answer
other_told b o list = cond (is_host o.kind) (answer_with out_of_turn 0) (told_of b (call_of o list))

abbrev pub other_left : Lent → Order → List ℕ → Lent
other_left b o list = cond (is_host o.kind) b (left_of b (call_of o list))
