-- A request is its step: what it tells and leaves is what the step of its order tells and leaves of all five buffers, because a function that is not lent a
-- buffer does not look at it (crates holding and runs, Same). So demand 3 goes with it; and a host that calls nothing but these functions has it.
use mathlib.Core.Path.{◌≡◌, refl, sym, ap, subst, ◌∙◌}
use mathlib.Core.Bool.{Bool, true, false, cond, true≢false}
use mathlib.Core.List.{List, [], ◌∷◌}
use Prim.Native.Nat.{ℕ}
use lib.Dec.{eqb}
use lib.ListN.{length}
use borrow.Author.Tests.{ne_eqb}
use Rattle.numbers.specs.Numbers.{wrong_length}
use Rattle.coordinator.specs.Step.{Step}
use Rattle.coordinator.specs.System.{tree}
use Rattle.coordinator.specs.Calls.{found_of, reselect_of, abort_of}
use Rattle.steps.specs.Step.{found, reselect, abort, hosted}
use Rattle.steps.specs.Step.{Call as StepCall, step as step_of}
use Rattle.buffers.specs.declared.Answer.{Answer}
use Rattle.buffers.specs.Buffers.{Buffers, all, ends, record_in, station_of, answer_with}
use Rattle.station_calls.specs.Calls.{host_told, host_records}
use Rattle.holding.specs.Left.{told_of as stepTold, left_of as stepLeft}
use Rattle.holding.proofs.Same.{host_told_lem, host_records_lem, send_same, drop_same, switch_same}
use Rattle.service.specs.Service.{Call}
use Rattle.service_calls.specs.Lent.{Lent, lent, blank_number, blank_after}
use Rattle.accounts.specs.Accounts.{Origin, blank_origin}
use Rattle.host.specs.Distances.{distances_of}
use Rattle.host.specs.Stations.{told_with, records_with, begin_told_with, begin_records_with, begin_settings_with, yes}
use Rattle.runs.specs.Left.{told_of, left_of}
use Rattle.runs.specs.Held.{Holds, Next}
use Rattle.runs.proofs.Same.{front_told_lem, front_records_lem, front_settings_lem, load_same}
use Rattle.runs.proofs.Demand.{claimed, begun}
use Rattle.requests.specs.Requests.{Asked, station_begin, station_batch, station_open_read, station_open_write, station_set_value, station_request_commit}
use Rattle.requests.specs.Requests.{station_load_classes, Request, station_front, station_found, station_reselect, station_abort, station_load_hours}
use Rattle.requests.specs.Requests.{station_send, station_deliver, station_drop, station_switch, OfTypes, front_of, call_of, asked_well, lent_well, front_lent}
use Rattle.requests.specs.Requests.{Words, words, words_of, request_told, with_ends, with_pool, request_left, calls_after, left_by, AllOfTypes}
use Rattle.requests.proofs.Types.{typed}

-- ---- 26 bytes of distances: the step by itself
module _ (d : List ℕ) (e : eqb (length d) 26 ≡ true) where
  told_with_lem : (b : Buffers) (n : ℕ) (f : List ℕ → StepCall) → told_with d b n f ≡ host_told b n (f (distances_of d))
  unfolding told_with
  told_with_lem b n f = simp e

  records_with_lem : (b : Buffers) (n : ℕ) (f : List ℕ → StepCall) → records_with d b n f ≡ host_records b n (f (distances_of d))
  unfolding records_with
  records_with_lem b n f = simp e

-- ---- a front end's function tells and leaves what the step tells and leaves; with distances of another length they are 1, and everything is left
words_well : (a : Asked) (b : Lent) (n : ℕ) → asked_well a ≡ true → words_of a b n ≡ words b n (front_of a)
unfolding asked_well words_of front_of begin_told_with begin_records_with begin_settings_with
words_well (station_begin live d timestamp day minute) b n h = simp h
words_well (station_batch live d timestamp day minute list) b n h = simp h
words_well (station_open_read t) b n h = refl
words_well (station_open_write t) b n h = refl
words_well (station_set_value t v) b n h = refl
words_well station_request_commit b n h = refl
words_well (station_load_classes list) b n h = refl

words_not : (a : Asked) (b : Lent) (n : ℕ) → asked_well a ≡ false
    → words_of a b n ≡ record { told = answer_with wrong_length 0; records = b.station.records; settings = b.settings }
unfolding asked_well words_of begin_told_with begin_records_with begin_settings_with
words_not (station_begin live d timestamp day minute) b n h = simp h
words_not (station_batch live d timestamp day minute list) b n h = simp h
words_not (station_open_read t) b n h = absurd (true≢false h)
words_not (station_open_write t) b n h = absurd (true≢false h)
words_not (station_set_value t v) b n h = absurd (true≢false h)
words_not station_request_commit b n h = absurd (true≢false h)
words_not (station_load_classes list) b n h = absurd (true≢false h)

-- ---- a host's call at node n that is settled there, over the records and who is on
module _ (b : Lent) (n : ℕ) (c : StepCall) (s : Step) where
  abbrev whole : Buffers
  whole = all b.station.images b.station.records b.station.pool b.station.own

  abbrev part : Buffers
  part = ends b.station.records b.station.own

  host_is : step_of (station_of part) c ≡ hosted (station_of part) n s → step_of (station_of whole) c ≡ hosted (station_of whole) n s
      → (host_told part n c ≡ host_told whole n c) × (with_ends b (host_records part n c) b.settings ≡ with_ends b (host_records whole n c) b.settings)
  host_is p q =
      let B = b.station in (
        host_told_lem B.images B.records B.pool B.own n c s p q,
        ap (λ (R : List ℕ). with_ends b R b.settings) (host_records_lem B.images B.records B.pool B.own n c s p q),
      )

-- ---- THE THEOREM: a request whose distances have their length is its step
pub is_its_step : (q : Request) (b : Lent) → lent_well q ≡ true → (request_told q b ≡ told_of b (call_of q)) × (request_left q b ≡ left_of b (call_of q))
unfolding request_told request_left call_of lent_well told_of left_of stepTold stepLeft step_of
is_its_step (station_front n a) b h =
    let B = b.station in
    let f = front_of a in
    let w = words_well a (front_lent b) n h in (
      ap (λ (x : Words). x.told) w ∙ front_told_lem B.images B.records B.pool B.own b.settings n f,
      ap (λ (x : Words). with_ends b x.records x.settings) w ∙ (λ i. with_ends b
          (front_records_lem B.images B.records B.pool B.own b.settings n f i)
          (front_settings_lem B.images B.records B.pool B.own b.settings n f i)),
    )
is_its_step (station_found n t) b h = host_is b n (found n t) (found_of tree (record_in b.station.records n) n t) refl refl
is_its_step (station_reselect n live d) b h =
    let B = b.station in
    let x = distances_of d in
    let z = host_is b n (reselect n live x) (reselect_of tree (record_in B.records n) n live x) refl refl in
    let a = ends B.records B.own in
    (told_with_lem d h a n (reselect n live) ∙ z.0, ap (λ (R : List ℕ). with_ends b R b.settings) (records_with_lem d h a n (reselect n live)) ∙ z.1)
is_its_step (station_abort n) b h = host_is b n (abort n) (abort_of (record_in b.station.records n) n) refl refl
is_its_step (station_load_hours n list) b h =
    let B = b.station in
    let z = load_same B.images B.records B.pool B.own b.settings n list in
    (z.0, ap (with_ends b B.records) z.1)
is_its_step (station_send n to t) b h =
    let B = b.station in
    let z = send_same B.images B.records B.pool B.own n to t in
    (z.0, ap (with_pool b) z.1)
is_its_step (station_deliver k kept) b h = (refl, refl)
is_its_step (station_drop k) b h =
    let B = b.station in
    let z = drop_same B.images B.records B.pool B.own k in
    (z.0, ap (with_pool b) z.1)
is_its_step (station_switch n up) b h =
    let B = b.station in
    let z = switch_same B.images B.records B.pool B.own n (yes up) in
    (z.0, ap (λ (w : List ℕ). lent B.images B.records B.pool w b.settings) z.1)

-- any other is 1, and leaves everything as it was
pub is_no_step : (q : Request) (b : Lent) → lent_well q ≡ false → (request_told q b ≡ answer_with wrong_length 0) × (request_left q b ≡ b)
unfolding request_told request_left lent_well told_with records_with
is_no_step (station_front n a) b h =
    let w = words_not a (front_lent b) n h in (ap (λ (x : Words). x.told) w, ap (λ (x : Words). with_ends b x.records x.settings) w)
is_no_step (station_found n t) b h = absurd (true≢false h)
is_no_step (station_reselect n live d) b h = simp h (refl, refl)
is_no_step (station_abort n) b h = absurd (true≢false h)
is_no_step (station_load_hours n list) b h = absurd (true≢false h)
is_no_step (station_send n to t) b h = absurd (true≢false h)
is_no_step (station_deliver k kept) b h = absurd (true≢false h)
is_no_step (station_drop k) b h = absurd (true≢false h)
is_no_step (station_switch n up) b h = absurd (true≢false h)

-- ---- demand 3 goes with it
pub c_demand_3 : (o : Origin) (cs : List Call) (b : Lent) → Holds o cs b → (q : Request) → OfTypes q → lent_well q ≡ true
    → Next o cs (call_of q) (request_told q b) (request_left q b)
c_demand_3 o cs b h q t e =
    let z = is_its_step q b e in
    subst (λ (r : Answer). Next o cs (call_of q) r (request_left q b)) (sym z.0)
    (subst (λ (l : Lent). Next o cs (call_of q) (told_of b (call_of q)) l) (sym z.1) (claimed b (call_of q) (typed q t) o cs h))

-- ---- senna_station_blank, where it is accepted, starts a list; where it is refused, it leaves everything as it was
pub starts : (b : Lent) (on : ℕ) → blank_number b on ≡ 0 → Holds (blank_origin on) [] (blank_after b on)
starts b on e = begun b on e

pub starts_not : (b : Lent) (on : ℕ) → (blank_number b on ≡ 0 → ⊥) → blank_after b on ≡ b
unfolding blank_after
starts_not b on e = simp (ne_eqb (blank_number b on) 0 e)

-- ---- a host that calls nothing but these functions: its buffers hold what the steps of its requests left
pub requests_hold : (o : Origin) (cs : List Call) (b : Lent) → Holds o cs b → (qs : List Request) → AllOfTypes qs
    → Holds o (calls_after qs cs) (left_by qs b)
requests_hold o cs b h [] a = h
requests_hold o cs b h (q ∷ qs) a = by (lent_well q) refl (requests_hold o cs b h qs a.1)
  where
    by : (w : Bool) → lent_well q ≡ w → Holds o (calls_after qs cs) (left_by qs b)
        → Holds o (cond w (call_of q ∷ calls_after qs cs) (calls_after qs cs)) (request_left q (left_by qs b))
    by true e k = (c_demand_3 o (calls_after qs cs) (left_by qs b) k q a.0 e).holds
    by false e k = subst (Holds o (calls_after qs cs)) (sym (is_no_step q (left_by qs b) e).1) k

-- so whatever it requested since a blank station was made, its next request tells the step's own number and answer, and demand 3 holds of the longer list
pub host_demand_3 : (b : Lent) (on : ℕ) → blank_number b on ≡ 0 → (qs : List Request) → AllOfTypes qs → (q : Request) → OfTypes q → lent_well q ≡ true
    → Next (blank_origin on) (calls_after qs []) (call_of q) (request_told q (left_by qs (blank_after b on))) (left_by (q ∷ qs) (blank_after b on))
host_demand_3 b on e qs a q t w =
    let h = requests_hold (blank_origin on) [] (blank_after b on) (starts b on e) qs a in
    c_demand_3 (blank_origin on) (calls_after qs []) (left_by qs (blank_after b on)) h q t w
