-- One step of the station by its cases, together with the message that it hands over: what has to be shown of a claim, so that it holds after the step.
-- A host call leaves a record that votes or finishes alone, unless it gives up; what is sent is no vote.
use mathlib.Core.Path.{◌≡◌, refl, sym, ◌∙◌, subst}
use mathlib.Core.Logic.{◌≢◌, ◌⊎◌, inl, inr, by_cases}
use mathlib.Core.Bool.{Bool, true, false, cond, not, ◌&&◌}
use mathlib.Core.List.{List, [], ◌∷◌, ◌++◌}
use Prim.Native.Nat.{ℕ, ◌<◌, ◌≤◌}
use native.Mathlib.Decide.{ℕ_discrete}
use native.Mathlib.Omega.{arith}
use lib.Dec.{eqb, ltb}
use lib.ListN.{length, get_or}
use borrow.Author.Tests.{eqb-true, ltb-true}
use Rattle.numbers.specs.Sizes.{longest_message}
use Rattle.mask.specs.Mask.{contains, joined}
use Rattle.quorum.specs.Nearest.{mask_of}
use Rattle.octets.proofs.Laws.{Bytes}
use Rattle.wire.specs.Message.{Message, vote}
use Rattle.wire.specs.Encode.{encode}
use Rattle.wire.specs.Decode.{kind_of, to_of, check_of, decode}
use Rattle.letters.specs.Write.{sent}
use Rattle.replica.specs.Steps.{Answer, silent, says}
use Rattle.replica.specs.Receive.{refusal, Delivered}
use Rattle.replica.proofs.Delivered.{either_way, refused_is, delivered_is}
use Rattle.replica.proofs.Taken.{Taken, taken}
use Rattle.coordinator.specs.declared.Coordinator.{Coordinator}
use Rattle.coordinator.specs.declared.BeginWith.{BeginWith}
use Rattle.coordinator.specs.Step.{Step}
use Rattle.coordinator.specs.System.{System}
use Rattle.coordinator.specs.State.{idle_phase, open_phase, voting_phase, finishing_phase, idle_after}
use Rattle.coordinator.specs.Calls.{no_node, begin_refusals, begun, begin_of, open_refusals, opened, open_of, set_refusals, with_new, set_of, found_of}
use Rattle.coordinator.specs.Calls.{reselect_refusals, reselected, reselect_of, request_commit_refusals, requested, request_commit_of, abort_of}
use Rattle.coordinator.proofs.Theorems.{found_leaves}
use Rattle.arrivals.specs.Receive.{for_replica, receive_of}
use Rattle.due.specs.Kind.{due_kind}
use Rattle.due.specs.Due.{entries_of, fetch_to, ask_to, outcome_to, yield_to, message_due}
use Rattle.clauses.proofs.Parts.{on_cond}
use Rattle.clauses.proofs.Cases.{step_keeps, abort_cases}
use Rattle.steps.specs.Station.{Own, Station, system, put_at, without}
use Rattle.steps.specs.Step.{Call, begin, open_read, open_write, set_value, found, reselect, request_commit, abort, send, delivery, drop, switch, Outcome}
use Rattle.steps.specs.Step.{refused_with, putting, full, send_number, hosted, answered, at_replica, at_coordinator, arriving, delivery_of, drop_of, switch_of}
use Rattle.steps.specs.Step.{send_of, step}
use Rattle.protocol.specs.Table.{In}
use Rattle.protocol.proofs.Tables.{on}
use Rattle.history.proofs.Tests.{not-false}
use Rattle.history.proofs.Arrive.{in_append, in_place, in_left, in_without}
use Rattle.progress.specs.Deliveries.{handed_by}

-- ---- what a host call makes of a record
pub record Called (c c' : Coordinator) (GivesUp : Type 0) : Type 0 where
  pub rises : c.serial ≤ c'.serial
  pub while_voting : c.phase ≡ voting_phase → (c' ≡ c) ⊎ GivesUp
  pub while_finishing : c.phase ≡ finishing_phase → c' ≡ c
  pub while_idle : c.phase ≡ idle_phase → (c' ≡ c) ⊎ (c.serial < c'.serial)

module _ (s : System) (c : Coordinator) (n : ℕ) (G : Type 0) where
  abbrev Fine : Coordinator → Type 0
  Fine d = Called c d G

  unmoved : Fine c
  unmoved = record { rises = omega arith; while_voting = λ e. inl refl; while_finishing = λ e. refl; while_idle = λ e. inl refl }

  -- what is accepted of an open transaction, and of none
  from_open : (d : Coordinator) → not (eqb c.phase open_phase) ≡ false → c.serial ≤ d.serial → Fine d
  from_open d q h = let p = eqb-true c.phase open_phase (not-false (eqb c.phase open_phase) q) in record {
    rises = h;
    while_voting = λ e. absurd (let z : ⊥ = omega (arith, p, e) in z);
    while_finishing = λ e. absurd (let z : ⊥ = omega (arith, p, e) in z);
    while_idle = λ e. absurd (let z : ⊥ = omega (arith, p, e) in z);
  }

  from_idle : (d : Coordinator) → not (eqb c.phase idle_phase) ≡ false → c.serial < d.serial → Fine d
  from_idle d q h = let p = eqb-true c.phase idle_phase (not-false (eqb c.phase idle_phase) q) in record {
    rises = omega (arith, h);
    while_voting = λ e. absurd (let z : ⊥ = omega (arith, p, e) in z);
    while_finishing = λ e. absurd (let z : ⊥ = omega (arith, p, e) in z);
    while_idle = λ e. inr h;
  }

  begin_called : (a : BeginWith) → Fine (begin_of s c n a).coordinator
  unfolding begin_of begin_refusals begun
  begin_called a =
      let q = s.nearest_read n a.live a.distances in
      step_keeps Fine (begin_refusals c n a q) (mask_of q) c (begun c a (mask_of q)) tt unmoved (λ k. from_idle (begun c a (mask_of q)) k.1.0 (omega arith))

  open_called : (t mode : ℕ) → Fine (open_of c n t mode).coordinator
  unfolding open_of open_refusals opened
  open_called t mode = step_keeps Fine (open_refusals c n t) 0 c (opened c t mode) tt unmoved (λ k. from_open (opened c t mode) k.1.0 (omega arith))

  set_called : (t v : ℕ) → Fine (set_of c n t v).coordinator
  unfolding set_of set_refusals with_new
  set_called t v = step_keeps Fine (set_refusals c n t) 0 c (with_new c t v) tt unmoved (λ k. from_open (with_new c t v) k.1.0 (omega arith))

  found_called : (t : ℕ) → Fine (found_of s c n t).coordinator
  found_called t = subst Fine (sym (found_leaves s c n t)) unmoved

  reselect_called : (live : ℕ) (distances : List ℕ) → Fine (reselect_of s c n live distances).coordinator
  unfolding reselect_of reselect_refusals reselected
  reselect_called live distances =
      let q = s.nearest_read n live distances in
      let d = reselected c live distances (mask_of q) in
      step_keeps Fine (reselect_refusals c n live q) (mask_of q) c d tt unmoved (λ k. from_open d k.1.0 (omega arith))

  request_called : Fine (request_commit_of s c n).coordinator
  unfolding request_commit_of request_commit_refusals requested
  request_called =
      let q = s.nearest_write n c.live c.distances in
      let party = joined (mask_of q) c.contacted in
      step_keeps Fine (request_commit_refusals s c n q) party c (requested c party) tt unmoved (λ k. from_open (requested c party) k.1.0 (omega arith))

  ended_called : G → (d : Coordinator) → (c.phase ≡ open_phase) ⊎ (c.phase ≡ voting_phase) → c.serial ≤ d.serial → Fine d
  ended_called g d p h = record {
    rises = h;
    while_voting = λ e. inr g;
    while_finishing = λ e. absurd (on p (λ q. let z : ⊥ = omega (arith, e, q) in z) (λ q. let z : ⊥ = omega (arith, e, q) in z));
    while_idle = λ e. absurd (on p (λ q. let z : ⊥ = omega (arith, e, q) in z) (λ q. let z : ⊥ = omega (arith, e, q) in z));
  }

  abort_called : G → Fine (abort_of c n).coordinator
  unfolding idle_after
  abort_called g = abort_cases Fine c n unmoved (record {
    gone = λ u e. ended_called g _ u (omega arith);
    aborting = λ u e. ended_called g _ u (omega arith);
  })

-- ---- the cases
-- what is put: the answer, where there is one
abbrev pub Said : Answer → List ℕ → Type 0
Said silent y = ⊥
Said (says a) y = y ≡ encode a

module _ (st : Station) where
  -- what the replica that a message goes to makes of it
  abbrev pub served : List ℕ → Delivered
  served b = Rattle.replica.specs.Receive.step (st.images (to_of b)) (to_of b) (decode b)

  -- of a claim P of the station after a step, and of the messages that the step handed over
  pub record Cases (call : Call) (P : Station → List (List ℕ) → Type 0) : Type 0 where
    pub same : P st []
    pub rests : (pool : List (List ℕ)) (own : Own) → ((b : List ℕ) → In b pool → In b st.pool ⊎ (kind_of b ≢ vote))
        → P (record { images = st.images; records = st.records; pool = pool; own = own }) []
    pub calls : (n : ℕ) (c : Coordinator) → Called (st.records n) c (call ≡ abort n)
        → P (record { images = st.images; records = put_at st.records n c; pool = st.pool; own = st.own }) []
    pub at_replica_lem : (b : List ℕ) → In b st.pool → for_replica (kind_of b) ≡ true → Taken (st.images (to_of b)) (decode b)
        → (pool : List (List ℕ)) → ((y : List ℕ) → In y pool → In y st.pool ⊎ Said (served b).answer y)
        → P (record { images = put_at st.images (to_of b) (served b).image; records = st.records; pool = pool; own = st.own }) (b ∷ [])
    pub at_coordinator_lem : (b : List ℕ) → In b st.pool → for_replica (kind_of b) ≡ false
        → (pool : List (List ℕ)) → ((y : List ℕ) → In y pool → In y st.pool)
        → P (record {
          images = st.images;
          records = put_at st.records (to_of b) (receive_of (system st) (st.records (to_of b)) (to_of b) b).coordinator;
          pool = pool;
          own = st.own;
        }) (b ∷ [])
    pub unheard : (b : List ℕ) → In b st.pool → contains st.own.on (to_of b) ≡ false
        → (pool : List (List ℕ)) → ((y : List ℕ) → In y pool → In y st.pool)
        → P (record { images = st.images; records = st.records; pool = pool; own = st.own }) (b ∷ [])

  module _ (bytes : (b : List ℕ) → In b st.pool → Bytes b) (call : Call) (P : Station → List (List ℕ) → Type 0) (z : Cases call P) where
    hosted_case : (n : ℕ) (s : Step) → Called (st.records n) s.coordinator (call ≡ abort n) → P (hosted st n s).station []
    unfolding hosted
    hosted_case n s k =
        let R : Outcome → Type 0 = λ r. P r.station [] in
        either_way R (contains st.own.on n) _ _ (either_way R (eqb s.number 0) _ _ (z.calls n s.coordinator k) z.same) z.same

    -- ---- a send
    encoded_kind : (a : Message) → kind_of (encode a) ≡ a.kind
    unfolding encode
    encoded_kind a = refl

    due_no_vote : (c : Coordinator) (n to t kind : ℕ) → (message_due c n to t kind).kind ≢ vote
    unfolding message_due
    due_no_vote c n to t kind =
        let N : Message → Type 0 = λ m. m.kind ≢ vote in
        either_way N (eqb kind 1) (fetch_to c n to t) _ (λ e. let y : ⊥ = omega (arith, e) in y)
        (either_way N (eqb kind 3) (ask_to c n to) _ (λ e. let y : ⊥ = omega (arith, e) in y)
        (either_way N (eqb kind 5) (outcome_to c n to) (yield_to c n to)
        (either_way N (eqb c.outcome 1) (sent to n c.serial c.timestamp 5 (entries_of c) [] (1 ∷ []))
        (sent to n c.serial c.timestamp 5 [] [] (0 ∷ [])) (λ e. let y : ⊥ = omega (arith, e) in y) (λ e. let y : ⊥ = omega (arith, e) in y))
        (λ e. let y : ⊥ = omega (arith, e) in y)))

    send_case : (n to t : ℕ) → P (send_of st n to t).station []
    unfolding send_of
    send_case n to t =
        let R : Outcome → Type 0 = λ r. P r.station [] in
        let c = st.records n in
        let kind = due_kind (system st) c to t in
        let a = message_due c n to t kind in
        let due = not (eqb kind 0) in
        let number = send_number st n to t a due in
        either_way R (eqb number 0) (cond due (putting (encode a) st) (Rattle.steps.specs.Step.taken 0 st)) (refused_with number st)
        (either_way R due (putting (encode a) st) (Rattle.steps.specs.Step.taken 0 st)
        (z.rests (st.pool ++ (encode a ∷ [])) st.own (λ y j. on (in_append y st.pool (encode a ∷ []) j) inl
        (λ r. on r (λ q. inr (λ e. due_no_vote c n to t kind (sym (encoded_kind a) ∙ (subst (λ (w : List ℕ). kind_of w ≡ vote) q e)))) (λ q. absurd q))))
        z.same) z.same

    -- ---- a delivery of the message b, the k-th that waits
    module _ (k : ℕ) (kept : Bool) (b : List ℕ) (in_pool : In b st.pool) where
      abbrev pool : List (List ℕ)
      pool = cond kept st.pool (without k st.pool)

      sub : (y : List ℕ) → In y pool → In y st.pool
      sub y i = in_left kept k st.pool y i

      abbrev Q : Outcome → Type 0
      Q r = P r.station (cond (eqb r.number 0) (b ∷ []) [])

      refused : (number : ℕ) → eqb number 0 ≡ false → Q (refused_with number st)
      refused number e = subst (λ (x : Bool). P st (cond x (b ∷ []) [])) (sym e) z.same

      abbrev n : ℕ
      n = to_of b

      module _ (order : for_replica (kind_of b) ≡ true) where
        abbrev l : List ℕ
        l = st.images n

        answered_case : Taken l (decode b) → (a : Answer) → (served b).answer ≡ a → Q (answered st k kept n (served b).image a)
        unfolding answered
        answered_case t silent e = z.at_replica_lem b in_pool order t pool (λ y i. inl (sub y i))
        answered_case t (says a) e = either_way Q (kept && full st) _ _ z.same
            (z.at_replica_lem b in_pool order t (pool ++ (encode a ∷ [])) (λ y j. on (in_append y pool (encode a ∷ []) j) (λ i. inl (sub y i))
            (λ r. on r (λ q. inr (subst (λ (x : Answer). Said x y) (sym e) q)) (λ q. absurd q))))

        abbrev out : Delivered → Outcome
        out d = cond (eqb d.number 0) (answered st k kept n d.image d.answer) (refused_with d.number st)

        replica_case : Q (at_replica st k kept n b)
        unfolding at_replica
        replica_case = by_cases (ℕ_discrete (refusal longest_message l n b) 0)
            (λ e. subst (λ (d : Delivered). Q (out d)) (sym (delivered_is longest_message l n b e))
            (on_cond Q (eqb (served b).number 0) _ _ (λ q. answered_case (taken longest_message l n b (bytes b in_pool) e) (served b).answer refl)
            (λ q. refused (served b).number q)))
            (λ e. subst (λ (d : Delivered). Q (out d)) (sym (refused_is longest_message l n b e))
            (on_cond Q (eqb (refusal longest_message l n b) 0) (answered st k kept n l silent) (refused_with (refusal longest_message l n b) st)
            (λ q. absurd (e (eqb-true (refusal longest_message l n b) 0 q))) (λ q. refused (refusal longest_message l n b) q)))

      coordinator_case : for_replica (kind_of b) ≡ false → Q (at_coordinator st k kept n b)
      unfolding at_coordinator
      coordinator_case e =
          let s = receive_of (system st) (st.records n) n b in
          on_cond Q (eqb s.number 0) _ _ (λ q. z.at_coordinator_lem b in_pool e pool sub) (λ q. refused s.number q)

      arriving_case : Q (arriving st k kept b)
      unfolding arriving
      arriving_case = on_cond Q (contains st.own.on n) _ _
          (λ e. on_cond Q (for_replica (kind_of b)) _ _ (λ f. replica_case f) (λ f. coordinator_case f))
          (λ e. z.unheard b in_pool e pool sub)

    delivery_case : (k : ℕ) (kept : Bool)
        → P (delivery_of st k kept).station (cond (eqb (delivery_of st k kept).number 0) (get_or st.pool k [] ∷ []) [])
    unfolding delivery_of
    delivery_case k kept =
        let b = get_or st.pool k [] in
        on_cond (λ (r : Outcome). P r.station (cond (eqb r.number 0) (b ∷ []) [])) (ltb k (length st.pool)) _ _
        (λ e. let i = in_place st.pool k [] (ltb-true k (length st.pool) e) in
        on_cond (λ (r : Outcome). P r.station (cond (eqb r.number 0) (b ∷ []) [])) (eqb (check_of b) 0) _ _ (λ q. arriving_case k kept b i)
        (λ q. refused k kept b i (check_of b) q))
        (λ e. z.same)

  -- ---- every step
  pub by_step : ((b : List ℕ) → In b st.pool → Bytes b) → (P : Station → List (List ℕ) → Type 0) (call : Call) → Cases call P
      → P (step st call).station (handed_by st call)
  unfolding step handed_by drop_of switch_of
  by_step v P (begin n a) z = hosted_case v (begin n a) P z n _ (begin_called (system st) (st.records n) n _ a)
  by_step v P (open_read n t) z = hosted_case v (open_read n t) P z n _ (open_called (system st) (st.records n) n _ t 0)
  by_step v P (open_write n t) z = hosted_case v (open_write n t) P z n _ (open_called (system st) (st.records n) n _ t 1)
  by_step v P (set_value n t x) z = hosted_case v (set_value n t x) P z n _ (set_called (system st) (st.records n) n _ t x)
  by_step v P (found n t) z = hosted_case v (found n t) P z n _ (found_called (system st) (st.records n) n _ t)
  by_step v P (reselect n live d) z = hosted_case v (reselect n live d) P z n _ (reselect_called (system st) (st.records n) n _ live d)
  by_step v P (request_commit n) z = hosted_case v (request_commit n) P z n _ (request_called (system st) (st.records n) n _)
  by_step v P (abort n) z = hosted_case v (abort n) P z n _ (abort_called (system st) (st.records n) n _ refl)
  by_step v P (send n to t) z = send_case v (send n to t) P z n to t
  by_step v P (delivery k kept) z = delivery_case v (delivery k kept) P z k kept
  by_step v P (drop k) z = either_way (λ (r : Outcome). P r.station []) (ltb k (length st.pool)) _ _
      (z.rests (without k st.pool) st.own (λ b i. inl (in_without b k st.pool i))) z.same
  by_step v P (switch n up) z = either_way (λ (r : Outcome). P r.station []) (no_node n) _ _ z.same (z.rests st.pool _ (λ b i. inl i))
