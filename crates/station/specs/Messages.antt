-- What a send, a drop and a delivery tell, and leave of the buffers.
use Rattle.std.specs.Prelude.{Bool, cond, not, ◌&&◌, ◌||◌, List, [], ◌∷◌, ℕ, eqb, ltb, length, get_or}
use Rattle.std.proofs.Math.Option.{Option, none, some}
use Rattle.numbers.specs.Sizes.{longest_message, most_waiting}
use Rattle.numbers.specs.Numbers.{wrong_length, damaged}
use Rattle.numbers.specs.Refusal.{refuse, first_of, lower}
use Rattle.mask.specs.Mask.{contains}
use Rattle.wire.specs.Decode.{kind_of, to_of, check_of}
use Rattle.replica.specs.Receive.{Delivered, deliver, spoken}
use Rattle.coordinator.specs.declared.Coordinator.{Coordinator}
use Rattle.coordinator.specs.System.{tree}
use Rattle.arrivals.specs.Receive.{for_replica, receive_of}
use Rattle.record.specs.Call.{record_after}
use Rattle.pool.specs.Pool.{count, message_at, waiting, check as checkPool}
use Rattle.pool.specs.Change.{added, add_after, removed}
use Rattle.buffers.specs.declared.Answer.{Answer}
use Rattle.steps.specs.Step.{send, delivery, drop, Outcome, at_replica, at_coordinator, step}
use Rattle.letters.specs.declared.Written.{Written}
use Rattle.letters.specs.Write.{answer}
use Rattle.due.specs.Due.{due_written, due_buffer}
use Rattle.buffers.specs.Buffers.{Buffers, images_size, records_size, image_at, with_image_at, record_at, with_record_at, record_in, on_of, station_of}
use Rattle.buffers.specs.Buffers.{record_damaged}
use Rattle.buffers.specs.Buffers.{record_first, own_number, host_first, told, goes, records_after}

-- ---- a send reads a record and who is on, and puts a message at the pool's end
unfoldable pub put_into : Option (List ℕ) → List ℕ → List ℕ
put_into none l = l
put_into (some m) l = added l m

abbrev pub sending : List ℕ → List ℕ → List ℕ → Buffers
sending records pool own = record { images = []; records = records; pool = pool; own = own }

unfoldable pub send_first : Buffers → ℕ → ℕ
send_first b n = lower (host_first b n) (checkPool b.pool)

abbrev pub send_told : Buffers → ℕ → ℕ → ℕ → Answer
send_told b n to object = told (send_first b n) (step (station_of b) (send n to object))

unfoldable pub pool_after : ℕ → Outcome → List ℕ → List ℕ
pool_after first o l = cond (goes first o) (put_into o.put l) l

abbrev pub send_pool : Buffers → ℕ → ℕ → ℕ → List ℕ
send_pool b n to object = pool_after (send_first b n) (step (station_of b) (send n to object)) b.pool

-- what is due, 2 where the node's record is damaged
unfoldable pub owed_at : List ℕ → ℕ → ℕ → ℕ → Written
owed_at records n to object = cond (record_damaged records n) (answer damaged 0) (due_written tree longest_message (record_in records n) n to object)

unfoldable pub owed_into : List ℕ → ℕ → ℕ → ℕ → List ℕ → List ℕ
owed_into records n to object l = cond (record_damaged records n) l (due_buffer tree (record_in records n) n to object l)

-- ---- a drop needs the pool alone
abbrev pub dropping : List ℕ → Buffers
dropping pool = record { images = []; records = []; pool = pool; own = [] }

abbrev pub drop_told : Buffers → ℕ → Answer
drop_told b k = told (checkPool b.pool) (step (station_of b) (drop k))

unfoldable pub drop_pool : Buffers → ℕ → List ℕ
drop_pool b k = cond (goes (checkPool b.pool) (step (station_of b) (drop k))) (removed b.pool k) b.pool

-- ---- a delivery needs all four
unfoldable pub lengths_number : ℕ → ℕ → ℕ
lengths_number images records = cond (not (eqb images images_size) || not (eqb records records_size)) wrong_length 0

unfoldable pub buffers_number : Buffers → ℕ
buffers_number b = lower (lengths_number (length b.images) (length b.records)) (lower (checkPool b.pool) (own_number b.own))

-- the k-th waiting message; whether it reaches a coordinator, whose record is then read and written
abbrev pub message_in : Buffers → ℕ → List ℕ
message_in b k = get_or (waiting b.pool) k []

unfoldable pub reaches : Buffers → ℕ → Bool
reaches b k =
    ltb k (length (waiting b.pool))
    && (eqb (check_of (message_in b k)) 0 && (contains (on_of b.own) (to_of (message_in b k)) && not (for_replica (kind_of (message_in b k)))))

unfoldable pub delivery_first : Buffers → ℕ → ℕ
delivery_first b k =
    first_of (refuse (buffers_number b) (not (eqb (buffers_number b) 0))
    ∷ refuse damaged (reaches b k && record_damaged b.records (to_of (message_in b k))) ∷ [])

abbrev pub delivery_told : Buffers → ℕ → Bool → Answer
delivery_told b k kept = told (delivery_first b k) (step (station_of b) (delivery k kept))

-- the k-th message at a replica, and at a coordinator
abbrev pub replica_at : Buffers → ℕ → ℕ → Bool → Outcome
replica_at b n k kept = at_replica (station_of b) k kept n (message_at b.pool k)

abbrev pub coordinator_at : Buffers → ℕ → ℕ → Bool → Outcome
coordinator_at b n k kept = at_coordinator (station_of b) k kept n (message_at b.pool k)

-- what a replica brings about, into a buffer of a size
abbrev pub handed : ℕ → List ℕ → List ℕ → ℕ → ℕ → Delivered
handed size images pool n k = deliver size (image_at images n) n (message_at pool k)

abbrev pub images_handed : ℕ → List ℕ → List ℕ → ℕ → ℕ → List ℕ
images_handed size images pool n k = with_image_at images n (handed size images pool n k).image

-- the records with what a coordinator leaves of its own
abbrev pub handed_over : List ℕ → List ℕ → ℕ → ℕ → List ℕ
handed_over records pool n k =
    with_record_at records n (record_after (λ (c : Coordinator). receive_of tree c n (message_at pool k)) (record_at records n))

-- the pool with an answer, if there is one, at its end
abbrev pub answered_by : List ℕ → List ℕ → List ℕ
answered_by pool m = cond (ltb 0 (length m)) (add_after pool m) pool

-- a kept delivery has an answer for which there is no room
unfoldable pub blocked : List ℕ → List ℕ → ℕ → ℕ → Bool → Bool
blocked images pool n k kept =
    (kept && not (ltb (count pool) most_waiting)) && spoken (handed longest_message images pool n k).answer

-- the images after a step at node n, as the records
unfoldable pub images_after : ℕ → Outcome → ℕ → List ℕ → List ℕ
images_after first o n l = cond (goes first o) (with_image_at l n (o.station.images n)) l

abbrev pub delivery_images : Buffers → ℕ → Bool → List ℕ
delivery_images b k kept = images_after (delivery_first b k) (step (station_of b) (delivery k kept)) (to_of (message_in b k)) b.images

unfoldable pub delivery_records : Buffers → ℕ → Bool → List ℕ
delivery_records b k kept =
    cond (reaches b k) (records_after (delivery_first b k) (step (station_of b) (delivery k kept)) (to_of (message_in b k)) b.records) b.records

-- the pool without the message, unless it is kept; the answer at its end
abbrev pub leaving : List ℕ → ℕ → Bool → List ℕ
leaving l k kept = cond kept l (removed l k)

unfoldable pub exchanged : ℕ → Outcome → ℕ → Bool → List ℕ → List ℕ
exchanged first o k kept l = cond (goes first o) (put_into o.put (leaving l k kept)) l

abbrev pub delivery_pool : Buffers → ℕ → Bool → List ℕ
delivery_pool b k kept = exchanged (delivery_first b k) (step (station_of b) (delivery k kept)) k kept b.pool

-- what each end leaves
abbrev pub replica_images : Buffers → ℕ → ℕ → Bool → List ℕ
replica_images b n k kept = images_after 0 (replica_at b n k kept) n b.images

abbrev pub replica_pool : Buffers → ℕ → ℕ → Bool → List ℕ
replica_pool b n k kept = exchanged 0 (replica_at b n k kept) k kept b.pool

abbrev pub coordinator_told : Buffers → ℕ → ℕ → Bool → Answer
coordinator_told b n k kept = told (record_first b.records n) (coordinator_at b n k kept)

abbrev pub coordinator_records : Buffers → ℕ → ℕ → Bool → List ℕ
coordinator_records b n k kept = records_after (record_first b.records n) (coordinator_at b n k kept) n b.records

abbrev pub coordinator_pool : Buffers → ℕ → ℕ → Bool → List ℕ
coordinator_pool b n k kept = exchanged (record_first b.records n) (coordinator_at b n k kept) k kept b.pool
