-- Serials and stamps of the waiting messages: none is of a later transaction than its owner's present one, and what is of the present one has its
-- timestamp. The idea: a record's serial rises only at an accepted begin, so no waiting message has the new one, and its timestamp changes only
-- there; what is due has the record's own serial and timestamp, and an answer echoes those of the message that it answers.
use mathlib.Core.Path.{◌≡◌, refl, sym, ◌∙◌, subst}
use mathlib.Core.Logic.{◌⊎◌, inl, inr}
use mathlib.Core.Bool.{Bool, true, false, cond, not, ◌&&◌}
use mathlib.Core.List.{List, [], ◌∷◌, ◌++◌}
use Prim.Native.Nat.{ℕ, ◌^◌, ◌<◌, ◌≤◌}
use native.Mathlib.Omega.{arith}
use lib.Dec.{eqb, ltb}
use lib.ListN.{length, get_or}
use borrow.Author.Tests.{ltb-true}
use Rattle.numbers.specs.Sizes.{longest_message}
use Rattle.mask.specs.Mask.{contains, joined}
use Rattle.quorum.specs.Nearest.{mask_of}
use Rattle.octets.proofs.Laws.{get_small}
use Rattle.wire.specs.Message.{Message}
use Rattle.wire.specs.Encode.{encode}
use Rattle.wire.specs.Decode.{kind_of, to_of, owner_of, serial_of, stamp_of, check_of, decode}
use Rattle.letters.specs.Write.{sent}
use Rattle.judge.specs.Standing.{standing, active, entered}
use Rattle.judge.specs.Judge.{rivals_of, votes_no, no_serials, serials_of}
use Rattle.replica.specs.Steps.{Answer, silent, says, copy_to, vote_to, done_to, wanted, copy_here, fetch_answer, judged_answer, ask_answer, outcome_image}
use Rattle.replica.specs.Receive.{refusal, gives, step, Delivered, deliver}
use Rattle.replica.proofs.Delivered.{either_way}
use Rattle.coordinator.specs.declared.Coordinator.{Coordinator}
use Rattle.coordinator.specs.declared.BeginWith.{BeginWith}
use Rattle.coordinator.specs.Step.{Step}
use Rattle.coordinator.specs.System.{System}
use Rattle.coordinator.specs.State.{idle_after}
use Rattle.coordinator.specs.Calls.{no_node, begin_refusals, begun, begin_of, open_refusals, opened, open_of, set_refusals, with_new, set_of, found_of}
use Rattle.coordinator.specs.Calls.{reselect_refusals, reselected, reselect_of, request_commit_refusals, requested, request_commit_of, abort_of}
use Rattle.arrivals.specs.Receive.{for_replica, receive_of}
use Rattle.due.specs.Kind.{due_kind}
use Rattle.coordinator.proofs.Theorems.{found_leaves}
use Rattle.clauses.proofs.Cases.{step_keeps}
use Rattle.clauses.proofs.Cases.{Endings, abort_cases}
use Rattle.clauses_arrive.proofs.Deliveries.{receive_cases}
use Rattle.due.specs.Due.{entries_of, fetch_to, ask_to, outcome_to, yield_to, message_due}
use Rattle.steps.specs.Station.{Own, Station, system, put_at, without}
use Rattle.steps.specs.Step.{Call, begin, open_read, open_write, set_value, found, reselect, request_commit, abort, send, delivery, drop, switch, Outcome}
use Rattle.steps.specs.Step.{refused_with, taken, putting, full, send_number, hosted, answered, at_replica, at_coordinator, arriving, delivery_of, drop_of}
use Rattle.steps.specs.Step.{switch_of, send_of}
use Rattle.protocol.specs.Table.{In}
use Rattle.protocol.proofs.Tables.{on}
use Rattle.history.specs.Claims.{Typed}
use Rattle.history.proofs.Carry.{put_all}
use Rattle.history.proofs.Books.{Valid}
use Rattle.history.proofs.Words.{header_owner, header_serial, header_stamp}
use Rattle.history.proofs.Arrive.{in_append, in_left, in_place, in_without}
use Rattle.history.proofs.Wide.{Wide}

pub record Stamped (st : Station) : Type 0 where
  -- a waiting message is of its owner's present transaction or an earlier one, and of the present one it has the timestamp
  pub serial_below : (b : List ℕ) → In b st.pool → serial_of b ≤ (st.records (owner_of b)).serial
  pub stamp_as : (b : List ℕ) → In b st.pool → serial_of b ≡ (st.records (owner_of b)).serial → stamp_of b ≡ (st.records (owner_of b)).timestamp

-- ---- a record goes on: the same transaction, or a later one
abbrev GoesOn : Coordinator → Coordinator → Type 0
GoesOn c d = ((d.serial ≡ c.serial) × (d.timestamp ≡ c.timestamp)) ⊎ (c.serial < d.serial)

same : (c : Coordinator) → GoesOn c c
same c = inl (refl, refl)

module _ (s : System) (c : Coordinator) (n : ℕ) where
  begin_on : (a : BeginWith) → GoesOn c (begin_of s c n a).coordinator
  unfolding begin_of begin_refusals begun
  begin_on a = let q = s.nearest_read n a.live a.distances in
      step_keeps (GoesOn c) (begin_refusals c n a q) (mask_of q) c (begun c a (mask_of q)) tt (same c) (λ k. inr (omega arith))

  open_on : (t mode : ℕ) → GoesOn c (open_of c n t mode).coordinator
  unfolding open_of open_refusals opened
  open_on t mode = step_keeps (GoesOn c) (open_refusals c n t) 0 c (opened c t mode) tt (same c) (λ k. inl (refl, refl))

  set_on : (t v : ℕ) → GoesOn c (set_of c n t v).coordinator
  unfolding set_of set_refusals with_new
  set_on t v = step_keeps (GoesOn c) (set_refusals c n t) 0 c (with_new c t v) tt (same c) (λ k. inl (refl, refl))

  found_on : (t : ℕ) → GoesOn c (found_of s c n t).coordinator
  found_on t = subst (GoesOn c) (sym (found_leaves s c n t)) (same c)

  reselect_on : (live : ℕ) (distances : List ℕ) → GoesOn c (reselect_of s c n live distances).coordinator
  unfolding reselect_of reselect_refusals reselected
  reselect_on live distances = let q = s.nearest_read n live distances in
      step_keeps (GoesOn c) (reselect_refusals c n live q) (mask_of q) c (reselected c live distances (mask_of q)) tt (same c) (λ k. inl (refl, refl))

  request_on : GoesOn c (request_commit_of s c n).coordinator
  unfolding request_commit_of request_commit_refusals requested
  request_on =
      let q = s.nearest_write n c.live c.distances in
      let party = joined (mask_of q) c.contacted in
      step_keeps (GoesOn c) (request_commit_refusals s c n q) party c (requested c party) tt (same c) (λ k. inl (refl, refl))

  idle_on : (outcome : ℕ) → GoesOn c (idle_after c.serial c.timestamp outcome)
  unfolding idle_after
  idle_on outcome = inl (refl, refl)

  ends_on : Endings (GoesOn c) c
  ends_on = record { gone = λ a b. idle_on 2; aborting = λ a b. inl (refl, refl) }

  abort_on : GoesOn c (abort_of c n).coordinator
  abort_on = abort_cases (GoesOn c) c n (same c) ends_on

  receive_on : (b : List ℕ) → GoesOn c (receive_of s c n b).coordinator
  receive_on b = receive_cases (λ (x : Step). GoesOn c x.coordinator) s c n b
      (record {
        as_before = λ number. same c;
        copied = λ f. inl (refl, refl);
        endings = λ r. ends_on;
        last_yes = λ f t. inl (refl, refl);
        one_yes = λ f t. inl (refl, refl);
        last_done = λ f t. idle_on c.outcome;
        one_done = λ f t. inl (refl, refl);
      })

-- ---- a message against its owner's record
abbrev Under : Coordinator → List ℕ → Type 0
Under c b = (serial_of b ≤ c.serial) × (serial_of b ≡ c.serial → stamp_of b ≡ c.timestamp)

under_on : (c d : Coordinator) (b : List ℕ) → GoesOn c d → Under c b → Under d b
under_on c d b (inl z) u = (omega (arith, z.0, u.0), λ e. u.1 (e ∙ z.0) ∙ sym z.1)
under_on c d b (inr h) u = (omega (arith, h, u.0), λ e. absurd (let z : ⊥ = omega (arith, h, e, u.0) in z))

-- ---- messages
-- a message names this owner, serial and stamp
abbrev Names : ℕ → ℕ → ℕ → Message → Type 0
Names owner serial stamp m = (m.owner ≡ owner) × ((m.serial ≡ serial) × (m.stamp ≡ stamp))

-- what is due has its owner's serial and timestamp
due_names : (c : Coordinator) (n to t kind : ℕ) → Names n c.serial c.timestamp (message_due c n to t kind)
unfolding message_due
due_names c n to t kind =
    let N : Message → Type 0 = Names n c.serial c.timestamp in
    either_way N (eqb kind 1) (fetch_to c n to t) _ (refl, (refl, refl))
    (either_way N (eqb kind 3) (ask_to c n to) _ (refl, (refl, refl))
    (either_way N (eqb kind 5) (outcome_to c n to) (yield_to c n to)
    (either_way N (eqb c.outcome 1) (sent to n c.serial c.timestamp 5 (entries_of c) [] (1 ∷ []))
    (sent to n c.serial c.timestamp 5 [] [] (0 ∷ [])) (refl, (refl, refl)) (refl, (refl, refl)))
    (refl, (refl, refl))))

-- "An answer echoes owner, serial and stamp"
abbrev Echoes : Message → Answer → Type 0
Echoes m silent = Unit {0}
Echoes m (says a) = Names m.owner m.serial m.stamp a

step_echoes : (l : List ℕ) (n : ℕ) (m : Message) → Echoes m (step l n m).answer
unfolding step fetch_answer ask_answer judged_answer
step_echoes l n m =
    let D : Delivered → Type 0 = λ d. Echoes m d.answer in
    let no = says (vote_to n m no_serials 0) in
    let yes' = says (vote_to n m no_serials 1) in
    let judged = says (vote_to n m (serials_of (entered l m) (rivals_of (entered l m) m)) 1) in
    let copied = says (copy_to n m (copy_here l (wanted m))) in
    either_way D (eqb m.kind 1) _ _ (either_way (Echoes m) (active l m) copied silent (refl, (refl, refl)) tt)
    (either_way D (eqb m.kind 3) _ _
    (either_way (Echoes m) (active l m) _ _
    (either_way (Echoes m) (votes_no (entered l m) m) no judged (refl, (refl, refl)) (refl, (refl, refl)))
    (either_way (Echoes m) (eqb (standing l m) 2) yes' _ (refl, (refl, refl))
    (either_way (Echoes m) (eqb (standing l m) 3) no silent (refl, (refl, refl)) tt)))
    (either_way D (eqb m.kind 5) (gives (outcome_image l m) (says (done_to n m))) (gives l silent) (refl, (refl, refl)) tt))

deliver_echoes : (l : List ℕ) (n : ℕ) (b : List ℕ) → Echoes (decode b) (deliver longest_message l n b).answer
unfolding deliver
deliver_echoes l n b = either_way (λ (d : Delivered). Echoes (decode b) d.answer) (eqb (refusal longest_message l n b) 0) (step l n (decode b))
    (record { number = refusal longest_message l n b; image = l; answer = silent }) (step_echoes l n (decode b)) tt

-- ---- one step
module _ (st : Station) (s : Stamped st) (v : Valid st) (w : Wide st) where
  under : (b : List ℕ) → In b st.pool → Under (st.records (owner_of b)) b
  under b i = (s.serial_below b i, s.stamp_as b i)

  -- records that go on, and waiting messages that waited before or are under their owner's record
  moved : (st' : Station) → ((i : ℕ) → GoesOn (st.records i) (st'.records i))
      → ((b : List ℕ) → In b st'.pool → In b st.pool ⊎ Under (st'.records (owner_of b)) b) → Stamped st'
  moved st' g p = record { serial_below = λ b i. (each b i).0; stamp_as = λ b i. (each b i).1 }
    where
      each : (b : List ℕ) → In b st'.pool → Under (st'.records (owner_of b)) b
      each b i = on (p b i) (λ j. under_on (st.records (owner_of b)) (st'.records (owner_of b)) b (g (owner_of b)) (under b j)) (λ u. u)

  -- one record changed, the pool no larger
  record_stamped : (n : ℕ) (c : Coordinator) (pool : List (List ℕ)) (own : Own) → GoesOn (st.records n) c → ((b : List ℕ) → In b pool → In b st.pool)
      → Stamped (record { images = st.images; records = put_at st.records n c; pool = pool; own = own })
  record_stamped n c pool own g sub = moved (record { images = st.images; records = put_at st.records n c; pool = pool; own = own })
      (put_all (λ (i : ℕ) (d : Coordinator). GoesOn (st.records i) d) st.records n c g (λ i e. same (st.records i))) (λ b i. inl (sub b i))

  -- the records as before
  pool_stamped : (images : ℕ → List ℕ) (pool : List (List ℕ)) (own : Own)
      → ((b : List ℕ) → In b pool → In b st.pool ⊎ Under (st.records (owner_of b)) b)
      → Stamped (record { images = images; records = st.records; pool = pool; own = own })
  pool_stamped images pool own p = moved (record { images = images; records = st.records; pool = pool; own = own }) (λ i. same (st.records i)) p

  hosted_stamped : (n : ℕ) (x : Step) → GoesOn (st.records n) x.coordinator → Stamped (hosted st n x).station
  unfolding hosted
  hosted_stamped n x g = either_way (λ (r : Outcome). Stamped r.station) (contains st.own.on n) _ _
      (either_way (λ (r : Outcome). Stamped r.station) (eqb x.number 0) _ _ (record_stamped n x.coordinator st.pool st.own g (λ b i. i)) s) s

  -- a message that names an owner, with a serial and a stamp under its record, put at a pool's end
  put_under : (m : Message) (owner serial stamp : ℕ) → Names owner serial stamp m → (serial < 256 ^ 4) × (stamp < 256 ^ 4)
      → serial ≤ (st.records owner).serial → (serial ≡ (st.records owner).serial → stamp ≡ (st.records owner).timestamp)
      → Under (st.records (owner_of (encode m))) (encode m)
  put_under m owner serial stamp z f below like =
      let small : (m.serial < 256 ^ 4) × (m.stamp < 256 ^ 4) = (omega (arith, f.0, z.1.0), omega (arith, f.1, z.1.1)) in
      let o : owner_of (encode m) ≡ owner = header_owner m ∙ z.0 in
      let p : serial_of (encode m) ≡ serial = header_serial m small ∙ z.1.0 in
      let q : stamp_of (encode m) ≡ stamp = header_stamp m small ∙ z.1.1 in
      subst (λ (i : ℕ). Under (st.records i) (encode m)) (sym o) (omega (arith, p, below), λ e. q ∙ like (sym p ∙ e))

  put_cases : (pool : List (List ℕ)) (a b : List ℕ) → ((y : List ℕ) → In y pool → In y st.pool) → Under (st.records (owner_of a)) a
      → In b (pool ++ (a ∷ [])) → In b st.pool ⊎ Under (st.records (owner_of b)) b
  put_cases pool a b sub u i = on (in_append b pool (a ∷ []) i) (λ j. inl (sub b j))
      (λ j. on j (λ e. inr (subst (λ (y : List ℕ). Under (st.records (owner_of y)) y) (sym e) u)) (λ z. absurd z))

  send_stamped : (n to t : ℕ) → Stamped (send_of st n to t).station
  unfolding send_of
  send_stamped n to t =
      let c = st.records n in
      let kind = due_kind (system st) c to t in
      let m = message_due c n to t kind in
      let due = not (eqb kind 0) in
      let number = send_number st n to t m due in
      let f = (w.fits n).widths in
      let u = put_under m n c.serial c.timestamp (due_names c n to t kind) (omega (arith, f.serial_32), omega (arith, f.timestamp_32))
      (omega arith) (λ e. refl) in
      either_way (λ (r : Outcome). Stamped r.station) (eqb number 0) (cond due (putting (encode m) st) (taken 0 st)) (refused_with number st)
      (either_way (λ (r : Outcome). Stamped r.station) due (putting (encode m) st) (taken 0 st)
      (pool_stamped st.images (st.pool ++ (encode m ∷ [])) st.own (λ b i. put_cases st.pool (encode m) b (λ y j. j) u i)) s) s

  -- a delivery of the message b, which waits
  module _ (k : ℕ) (kept : Bool) (b : List ℕ) (waits : In b st.pool) where
    abbrev left : List (List ℕ)
    left = cond kept st.pool (without k st.pool)

    sub : (y : List ℕ) → In y left → In y st.pool
    sub y i = in_left kept k st.pool y i

    echo_under : (a : Message) → Names (decode b).owner (decode b).serial (decode b).stamp a → Under (st.records (owner_of (encode a))) (encode a)
    unfolding decode
    echo_under a z = put_under a (owner_of b) (serial_of b) (stamp_of b) z (get_small 4 b 4 (v.messages b waits), get_small 4 b 8 (v.messages b waits))
        (s.serial_below b waits) (s.stamp_as b waits)

    answered_stamped : (n : ℕ) (l : List ℕ) (a : Answer) → Echoes (decode b) a → Stamped (answered st k kept n l a).station
    unfolding answered
    answered_stamped n l silent z = pool_stamped (put_at st.images n l) left st.own (λ y i. inl (sub y i))
    answered_stamped n l (says a) z = either_way (λ (r : Outcome). Stamped r.station) (kept && full st) _ _ s
        (pool_stamped (put_at st.images n l) (left ++ (encode a ∷ [])) st.own (λ y i. put_cases left (encode a) y sub (echo_under a z) i))

    arriving_stamped : Stamped (arriving st k kept b).station
    unfolding arriving at_replica at_coordinator
    arriving_stamped =
        let n = to_of b in
        let d = deliver longest_message (st.images n) n b in
        either_way (λ (r : Outcome). Stamped r.station) (contains st.own.on n) _ _
        (either_way (λ (r : Outcome). Stamped r.station) (for_replica (kind_of b)) _ _
        (either_way (λ (r : Outcome). Stamped r.station) (eqb d.number 0) _ _
        (answered_stamped n d.image d.answer (deliver_echoes (st.images n) n b)) s)
        (either_way (λ (r : Outcome). Stamped r.station) (eqb (receive_of (system st) (st.records n) n b).number 0) _ _
        (record_stamped n _ left st.own (receive_on (system st) (st.records n) n b) sub) s))
        (pool_stamped st.images left st.own (λ y i. inl (sub y i)))

  delivery_stamped : (k : ℕ) (kept : Bool) → Stamped (delivery_of st k kept).station
  unfolding delivery_of
  delivery_stamped k kept = by (ltb k (length st.pool)) refl
    where
      b : List ℕ
      b = get_or st.pool k []

      by : (x : Bool) → ltb k (length st.pool) ≡ x
          → Stamped (cond x (cond (eqb (check_of b) 0) (arriving st k kept b) (refused_with (check_of b) st)) (refused_with 5 st)).station
      by true e = either_way (λ (r : Outcome). Stamped r.station) (eqb (check_of b) 0) _ _
          (arriving_stamped k kept b (in_place st.pool k [] (ltb-true k (length st.pool) e))) s
      by false e = s

  pub stamped_next : (c : Call) → Typed c → Stamped (Rattle.steps.specs.Step.step st c).station
  unfolding Rattle.steps.specs.Step.step drop_of switch_of
  stamped_next (begin n a) t = hosted_stamped n _ (begin_on (system st) (st.records n) n a)
  stamped_next (open_read n x) t = hosted_stamped n _ (open_on (system st) (st.records n) n x 0)
  stamped_next (open_write n x) t = hosted_stamped n _ (open_on (system st) (st.records n) n x 1)
  stamped_next (set_value n x y) t = hosted_stamped n _ (set_on (system st) (st.records n) n x y)
  stamped_next (found n x) t = hosted_stamped n _ (found_on (system st) (st.records n) n x)
  stamped_next (reselect n live d) t = hosted_stamped n _ (reselect_on (system st) (st.records n) n live d)
  stamped_next (request_commit n) t = hosted_stamped n _ (request_on (system st) (st.records n) n)
  stamped_next (abort n) t = hosted_stamped n _ (abort_on (system st) (st.records n) n)
  stamped_next (send n to x) t = send_stamped n to x
  stamped_next (delivery k kept) t = delivery_stamped k kept
  stamped_next (drop k) t = either_way (λ (r : Outcome). Stamped r.station) (ltb k (length st.pool)) _ _
      (pool_stamped st.images (without k st.pool) st.own (λ b i. inl (in_without b k st.pool i))) s
  stamped_next (switch n up) t = either_way (λ (r : Outcome). Stamped r.station) (no_node n) _ _ s (pool_stamped st.images st.pool _ (λ b i. inl i))
