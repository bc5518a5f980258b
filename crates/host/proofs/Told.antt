-- A call that takes distances as bytes, on a record and at a station: with 26 of them it is the call by itself. Two answers with equal
-- fields are equal. And a look at a waiting message, refusal by refusal.
use mathlib.Core.Path.{◌≡◌, ap, ◌∙◌}
use mathlib.Core.List.{List}
use Prim.Native.Nat.{ℕ, ◌<◌, ◌≤◌}
use borrow.Author.Tests.{eq-eqb, ne_eqb, le-leb, lt-leb}
use lib.ListN.{length}
use Rattle.coordinator.specs.declared.Coordinator.{Coordinator}
use Rattle.coordinator.specs.Step.{Step}
use Rattle.record.specs.Call.{called_of, record_after}
use Rattle.frontend.specs.Plan.{front_told, front_record, front_settings}
use Rattle.frontend.specs.Plan.{Call as Front}
use Rattle.host.specs.declared.records.Value.{Value}
use Rattle.parts.specs.Parts.{part}
use Rattle.pool.specs.Pool.{message_place, count, length_at, message_at, check}
use Rattle.pool.specs.Change.{remove_number, remove_refusals}
use Rattle.steps.specs.Step.{Call}
use Rattle.buffers.specs.declared.Answer.{Answer}
use Rattle.buffers.specs.Buffers.{Buffers}
use Rattle.station_calls.specs.Calls.{host_told, host_records}
use Rattle.service_calls.specs.Lent.{Lent}
use Rattle.service_calls.specs.Lent.{front_told as stepTold, front_records as stepRecords, front_settings as stepSettings}
use Rattle.host.specs.Records.{answer_with, bytes_with, begun_with, bytes_begun, settings_begun}
use Rattle.host.specs.declared.stations.Waiting.{Waiting}
use Rattle.host.specs.Distances.{distances_of}
use Rattle.host.specs.Stations.{told_with, records_with, begin_told_with, begin_records_with, begin_settings_with, waiting_at}

module _ (d l : List ℕ) (f g : Coordinator → Step) (e : length d ≡ 26) (p : f ≡ g) where
  pub taken_answer : called_of f l ≡ answer_with d g l
  unfolding answer_with
  taken_answer = simp (eq-eqb (length d) 26 e) (ap (λ (x : Coordinator → Step). called_of x l) p)

  pub taken_bytes : record_after f l ≡ bytes_with d g l
  unfolding bytes_with
  taken_bytes = simp (eq-eqb (length d) 26 e) (ap (λ (x : Coordinator → Step). record_after x l) p)

-- a begin or a batch, on a record and settings and at a station
module _ (d l s : List ℕ) (me : ℕ) (f g : Front) (e : length d ≡ 26) (p : f ≡ g) where
  pub taken_begun : front_told l s me f ≡ begun_with d l s me g
  unfolding begun_with
  taken_begun = simp (eq-eqb (length d) 26 e) (ap (front_told l s me) p)

  pub taken_begun_bytes : front_record l s me f ≡ bytes_begun d l s me g
  unfolding bytes_begun
  taken_begun_bytes = simp (eq-eqb (length d) 26 e) (ap (front_record l s me) p)

  pub taken_begun_settings : front_settings l s me f ≡ settings_begun d l s me g
  unfolding settings_begun
  taken_begun_settings = simp (eq-eqb (length d) 26 e) (ap (front_settings l s me) p)

module _ (d : List ℕ) (b : Lent) (n : ℕ) (f g : Front) (e : length d ≡ 26) (p : f ≡ g) where
  pub taken_begin_told : stepTold b n f ≡ begin_told_with d b n g
  unfolding begin_told_with
  taken_begin_told = simp (eq-eqb (length d) 26 e) (ap (stepTold b n) p)

  pub taken_begin_records : stepRecords b n f ≡ begin_records_with d b n g
  unfolding begin_records_with
  taken_begin_records = simp (eq-eqb (length d) 26 e) (ap (stepRecords b n) p)

  pub taken_begin_settings : stepSettings b n f ≡ begin_settings_with d b n g
  unfolding begin_settings_with
  taken_begin_settings = simp (eq-eqb (length d) 26 e) (ap (stepSettings b n) p)

-- a station's step by another word for its call
abbrev pub Stepped : Lent → ℕ → Front → Answer → List ℕ → List ℕ → Type 0
Stepped b n f r records settings = (r ≡ stepTold b n f) × ((records ≡ stepRecords b n f) × (settings ≡ stepSettings b n f))

pub step_same : (b : Lent) (n : ℕ) (f g : Front) (r : Answer) (records settings : List ℕ) → f ≡ g
    → Stepped b n f r records settings → Stepped b n g r records settings
step_same b n f g r records settings p w =
    (w.0 ∙ ap (stepTold b n) p, (w.1.0 ∙ ap (stepRecords b n) p, w.1.1 ∙ ap (stepSettings b n) p))

module _ (d x : List ℕ) (b : Buffers) (n : ℕ) (f : List ℕ → Call) (e : length d ≡ 26) (p : x ≡ distances_of d) where
  pub taken_told : host_told b n (f x) ≡ told_with d b n f
  unfolding told_with
  taken_told = simp (eq-eqb (length d) 26 e) (ap (λ (y : List ℕ). host_told b n (f y)) p)

  pub taken_records : host_records b n (f x) ≡ records_with d b n f
  unfolding records_with
  taken_records = simp (eq-eqb (length d) 26 e) (ap (λ (y : List ℕ). host_records b n (f y)) p)

pub made_value : {x y : Value} → x.number ≡ y.number → x.value ≡ y.value → x ≡ y
made_value p q i = record { number = p i; value = q i }

-- ---- a look at the k-th waiting message: the pool's own number, 5 where it has no such message, else its place and length
abbrev pub missing : ℕ → Waiting
missing n = record { number = n; place = 0; length = 0 }

module _ (l : List ℕ) (k : ℕ) where
  pub look_damaged : (check l ≡ 0 → ⊥) → waiting_at l k ≡ missing (check l)
  unfolding waiting_at remove_number remove_refusals
  look_damaged f = simp (ne_eqb (check l) 0 f)

  pub look_none : check l ≡ 0 → count l ≤ k → waiting_at l k ≡ missing 5
  unfolding waiting_at remove_number remove_refusals
  look_none e h = simp (eq-eqb (check l) 0 e, le-leb (count l) k h)

  pub look_there : check l ≡ 0 → k < count l → waiting_at l k ≡ record { number = 0; place = message_place k; length = length_at l k }
  unfolding waiting_at remove_number remove_refusals
  look_there e h = simp (eq-eqb (check l) 0 e, lt-leb (count l) k h)

  -- the bytes that it points to are the message
  pub look_message : check l ≡ 0 → k < count l → part (waiting_at l k).length (waiting_at l k).place l ≡ message_at l k
  unfolding message_at
  look_message e h = ap (λ (w : Waiting). part w.length w.place l) (look_there e h)
