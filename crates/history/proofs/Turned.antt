-- Every step keeps everything in turn (InTurn): a host call, a send, a delivery at either end, a drop, a switch. What is sent goes to an awaited node,
-- a commit to one that said yes; an answer comes from a node that is late, or held.
use mathlib.Core.Path.{◌≡◌, refl, sym, ◌∙◌, ap, subst}
use mathlib.Core.Logic.{◌⊎◌, inl, inr, by_cases}
use mathlib.Core.Bool.{Bool, true, false, cond, not, ◌&&◌, ◌||◌}
use mathlib.Core.List.{List, [], ◌∷◌, ◌++◌}
use Prim.Native.Nat.{ℕ, ◌<◌}
use native.Mathlib.Decide.{ℕ_discrete}
use native.Mathlib.Omega.{arith}
use lib.Dec.{eqb, ltb}
use lib.ListN.{length, get_or}
use borrow.Author.Tests.{eqb-true, eq-eqb, ne_eqb, ltb-true}
use Rattle.numbers.specs.Sizes.{nodes, objects, most_open, longest_message}
use Rattle.mask.specs.Mask.{contains, within}
use Rattle.numbers.specs.Refusal.{first_of}
use Rattle.wire.specs.Message.{Message}
use Rattle.wire.specs.Formed.{word_of}
use Rattle.letters.specs.Write.{sent}
use Rattle.wire.specs.Encode.{encode, Fits}
use Rattle.wire.specs.Decode.{kind_of, to_of, owner_of, serial_of, check_of, decode}
use Rattle.replica.specs.Steps.{Answer, silent, says}
use Rattle.replica.specs.Receive.{refusal, step, Delivered}
use Rattle.replica.proofs.Delivered.{either_way, or_neither, refused_is, delivered_is}
use Rattle.replica.proofs.Taken.{Taken, taken}
use Rattle.coordinator.specs.declared.Coordinator.{Coordinator}
use Rattle.coordinator.specs.Step.{Step}
use Rattle.coordinator.specs.State.{open_phase, voting_phase, finishing_phase, place_of, object_at, is_open, awaited, ready}
use Rattle.coordinator.specs.Calls.{no_node}
use Rattle.arrivals.specs.Receive.{for_replica, receive_of}
use Rattle.due.specs.Kind.{due_kind, open_due, voting_due, finishing_due, due_refusals}
use Rattle.coordinator.proofs.Refusals.{clear}
use Rattle.clauses.proofs.Facts.{Meets}
use Rattle.clauses.proofs.Parts.{true-T, false-T, by_test, on_cond}
use Rattle.clauses.proofs.Places.{place_open}
use Rattle.due.specs.Due.{entries_of, fetch_to, ask_to, outcome_to, yield_to, message_due}
use Rattle.steps.specs.Station.{Station, system, put_at, without}
use Rattle.steps.specs.Step.{Call, begin, open_read, open_write, set_value, found, reselect, request_commit, abort, send, delivery, drop, switch, Outcome}
use Rattle.steps.specs.Step.{refused_with, putting, full, send_number, hosted, answered, at_replica, at_coordinator, arriving, delivery_of, drop_of, switch_of}
use Rattle.steps.specs.Step.{send_of}
use Rattle.protocol.specs.Table.{In}
use Rattle.protocol.specs.State.{Tx}
use Rattle.protocol.proofs.Tables.{on}
use Rattle.history.specs.Ledger.{Ledger}
use Rattle.history.proofs.Tests.{no_both, and-true, not-false, not-true}
use Rattle.history.proofs.Books.{Past, World}
use Rattle.history.proofs.Words.{kind_of_lem, from_of_lem, to_of_lem, tx_of_lem, word_of_lem}
use Rattle.history.proofs.Acts.{put_same}
use Rattle.history.proofs.Arrive.{in_append, in_place, in_left, in_without}
use Rattle.history.proofs.Sends.{fetch_fits, ask_fits, outcome_fits, yield_fits, allowed}
use Rattle.history.proofs.Wide.{Wide}
use Rattle.history.proofs.Moves.{Behind, Bound, Moves, Replied, Replies, served_step}
use Rattle.history.proofs.InTurn.{Awaited, Timely, heard_of, InTurn, Goes, pool_turn, record_turn, image_turn}
use Rattle.history.proofs.Going.{in_within, begin_goes, open_goes, set_goes, found_goes, reselect_goes, request_goes, abort_goes, receive_goes}

-- ---- a message that is put, told by its fields
pub encoded_timely : (images : ℕ → List ℕ) (records : ℕ → Coordinator) (a : Message) → Fits a
    → (for_replica a.kind ≡ true → Behind (images a.to) a.owner a.serial ⊎ Awaited (records a.owner) a.to a.serial)
    → (a.kind ≡ 5 → word_of a ≡ 1 → Bound (images a.to) a.owner a.serial)
    → (a.kind ≡ 4 → word_of a ≡ 1 → Bound (images a.from) a.owner a.serial)
    → (a.kind ≡ 6 → Behind (images a.from) a.owner a.serial)
    → Timely images records (encode a)
encoded_timely images records a f orders commits yeses dones = record {
  to_replica = λ e. back (λ (n o s : ℕ). Behind (images n) o s ⊎ Awaited (records o) n s) (to_of_lem a f)
      (orders (subst (λ (k : ℕ). for_replica k ≡ true) (kind_of_lem a f) e));
  a_commit_lem = λ e w. back (λ (n o s : ℕ). Bound (images n) o s) (to_of_lem a f) (commits (sym (kind_of_lem a f) ∙ e) (sym (word_of_lem a f) ∙ w));
  a_yes = λ e w. back (λ (n o s : ℕ). Bound (images n) o s) (from_of_lem a f) (yeses (sym (kind_of_lem a f) ∙ e) (sym (word_of_lem a f) ∙ w));
  a_done_lem = λ e. back (λ (n o s : ℕ). Behind (images n) o s) (from_of_lem a f) (dones (sym (kind_of_lem a f) ∙ e));
}
  where
    back : (P : ℕ → ℕ → ℕ → Type 0) {x y : ℕ} → x ≡ y → P y a.owner a.serial → P x (owner_of (encode a)) (serial_of (encode a))
    back P {x} {y} e p = subst (λ (z : Tx). P x z.owner z.serial) (sym (tx_of_lem a f)) (subst (λ (i : ℕ). P i a.owner a.serial) (sym e) p)

-- ---- a message that a coordinator sends
module _ (st : Station) (t : InTurn st) (n : ℕ) (m : Meets (system st) (st.records n)) (f : Rattle.clauses.proofs.Fits.Fits (st.records n))
    (to object : ℕ) where
  abbrev c : Coordinator
  c = st.records n

  -- what is due goes to a node of the quorum, to a participant, to an awaited one
  due_to : (P : ℕ → Type 0) → P 0 → (c.phase ≡ open_phase → contains c.quorum to ≡ true → P 1)
      → (c.phase ≡ voting_phase → contains c.participants to ≡ true → P 3)
      → (c.phase ≡ finishing_phase → contains (awaited c) to ≡ true → P 5) → P 7 → P (due_kind (system st) c to object)
  unfolding due_kind open_due voting_due finishing_due
  due_to P z a b d e = by (eqb c.phase 1) (eqb c.phase 2) (eqb c.phase 3)
      (contains c.quorum to && not (ready (system st) (object_at c object))) (contains c.participants to && not (contains c.yes to))
      (contains (awaited c) to && not (contains c.done to)) (eqb c.outcome 1 && not (eqb (get_or c.rivals to 0) 0)) refl refl refl
      (λ q. (and-true _ _ q).0) (λ q. (and-true _ _ q).0) (λ q. (and-true _ _ q).0)
    where
      by : (x y g p q r s : Bool) → eqb c.phase 1 ≡ x → eqb c.phase 2 ≡ y → eqb c.phase 3 ≡ g
          → (p ≡ true → contains c.quorum to ≡ true) → (q ≡ true → contains c.participants to ≡ true) → (r ≡ true → contains (awaited c) to ≡ true)
          → P (cond x (cond p 1 0) (cond y (cond q 3 0) (cond g (cond r 5 (cond s 7 0)) 0)))
      by true y g true q r s i j k u v w = a (eqb-true c.phase 1 i) (u refl)
      by true y g false q r s i j k u v w = z
      by false true g p true r s i j k u v w = b (eqb-true c.phase 2 j) (v refl)
      by false true g p false r s i j k u v w = z
      by false false true p q true s i j k u v w = d (eqb-true c.phase 3 k) (w refl)
      by false false true p q false true i j k u v w = e
      by false false true p q false false i j k u v w = z
      by false false false p q r s i j k u v w = z

  module _ (clear-now : first_of (due_refusals c n to object) ≡ 0) where
    -- while open the object is open, so the present quorum is contacted
    asked_for : c.phase ≡ open_phase → (object < objects) × (is_open c object ≡ true)
    unfolding due_refusals
    asked_for p =
        let k = (clear (due_refusals c n to object) tt clear-now).1.0 in
        let z = or_neither (not (ltb object objects)) (not (is_open c object))
        (sym (ap (λ (x : Bool). x && (not (ltb object objects) || not (is_open c object))) (eq-eqb c.phase open_phase p)) ∙ k) in
        (ltb-true object objects (not-false (ltb object objects) z.0), not-false (is_open c object) z.1)

    opened_some : c.phase ≡ open_phase → c.count ≡ 0 → ⊥
    opened_some p e =
        let z = (place_open c.objects c.count object (ltb-true (place_of c object) most_open (asked_for p).1)).0 in
        let y : ⊥ = omega (arith, z, e) in y

    pub awaits_quorum : c.phase ≡ open_phase → contains c.quorum to ≡ true → contains (awaited c) to ≡ true
    awaits_quorum p q =
        subst (λ (k : ℕ). contains (cond (eqb k 0) c.contacted k) to ≡ true) (sym (m.party.not_asked (omega (arith, p))))
        (in_within c.quorum c.contacted to (m.nodes.asked (opened_some p)) q)

    awaits_party : (c.participants ≡ 0 → ⊥) → awaited c ≡ c.participants
    awaits_party e = ap (λ (b : Bool). cond b c.contacted c.participants) (ne_eqb c.participants 0 e)

    -- a committed transaction has the yes of each participant
    party_of_lem : c.phase ≡ finishing_phase → c.outcome ≡ 1 → c.participants ≡ 0 → ⊥
    party_of_lem p e z = let o = m.votes.else_aborted p (λ g. g.0 z) in let y : ⊥ = omega (arith, e, o) in y

    commit_bound : c.phase ≡ finishing_phase → c.outcome ≡ 1 → contains (awaited c) to ≡ true → Bound (st.images to) n c.serial
    commit_bound p e q = by_test (Bound (st.images to) n c.serial) (within c.participants c.yes)
        (λ w. t.said_yes_lem to n (in_within c.participants c.yes to (true-T _ w)
        (subst (λ (k : ℕ). contains k to ≡ true) (awaits_party (party_of_lem p e)) q)))
        (λ w. absurd (let o = m.votes.else_aborted p (λ g. false-T _ w g.1) in let y : ⊥ = omega (arith, e, o) in y))

    awaits : (c.phase ≡ 0 → ⊥) → contains (awaited c) to ≡ true → Awaited c to c.serial
    awaits p q = record { present = refl; begun = p; named = q }

    -- ---- each kind
    abbrev Fine : Message → Type 0
    Fine a = Timely st.images st.records (encode a)

    fetch_timely : c.phase ≡ open_phase → contains c.quorum to ≡ true → Fine (fetch_to c n to object)
    fetch_timely p q = encoded_timely st.images st.records (fetch_to c n to object)
        (fetch_fits c m f n to object (let h = (asked_for p).0 in omega (arith, h)))
        (λ e. inr (awaits (λ z. let y : ⊥ = omega (arith, p, z) in y) (awaits_quorum p q)))
        (λ e. absurd (let y : ⊥ = omega (arith, e) in y)) (λ e. absurd (let y : ⊥ = omega (arith, e) in y)) (λ e. absurd (let y : ⊥ = omega (arith, e) in y))

    ask_timely : c.phase ≡ voting_phase → contains c.participants to ≡ true → Fine (ask_to c n to)
    ask_timely p q = encoded_timely st.images st.records (ask_to c n to) (ask_fits c m f n to)
        (λ e. inr (awaits (λ z. let y : ⊥ = omega (arith, p, z) in y)
        (subst (λ (k : ℕ). contains k to ≡ true) (sym (awaits_party (m.party.asked_for p))) q)))
        (λ e. absurd (let y : ⊥ = omega (arith, e) in y)) (λ e. absurd (let y : ⊥ = omega (arith, e) in y)) (λ e. absurd (let y : ⊥ = omega (arith, e) in y))

    outcome_timely : c.phase ≡ finishing_phase → contains (awaited c) to ≡ true → Fine (outcome_to c n to)
    outcome_timely p q = by (eqb c.outcome 1) refl (outcome_fits c m f n to)
      where
        commit : Message
        commit = sent to n c.serial c.timestamp 5 (entries_of c) [] (1 ∷ [])

        quit : Message
        quit = sent to n c.serial c.timestamp 5 [] [] (0 ∷ [])

        by : (b : Bool) → eqb c.outcome 1 ≡ b → Fits (cond b commit quit) → Fine (cond b commit quit)
        by true e g = encoded_timely st.images st.records commit g
            (λ h. inr (awaits (λ z. let y : ⊥ = omega (arith, p, z) in y) q)) (λ h w. commit_bound p (eqb-true c.outcome 1 e) q)
            (λ h. absurd (let y : ⊥ = omega (arith, h) in y)) (λ h. absurd (let y : ⊥ = omega (arith, h) in y))
        by false e g = encoded_timely st.images st.records quit g
            (λ h. inr (awaits (λ z. let y : ⊥ = omega (arith, p, z) in y) q)) (λ h w. absurd (let y : ⊥ = omega (arith, w) in y))
            (λ h. absurd (let y : ⊥ = omega (arith, h) in y)) (λ h. absurd (let y : ⊥ = omega (arith, h) in y))

    known_to : to < nodes
    unfolding due_refusals
    known_to = let k = clear (due_refusals c n to object) tt clear-now in
        ltb-true to nodes (not-false (ltb to nodes) (or_neither (no_node n) (no_node to) k.0).1)

    yield_timely : Fine (yield_to c n to)
    yield_timely = encoded_timely st.images st.records (yield_to c n to) (yield_fits c m f n to (let h = known_to in omega (arith, h)))
        (λ e. absurd (no_both e refl)) (λ e. absurd (let y : ⊥ = omega (arith, e) in y)) (λ e. absurd (let y : ⊥ = omega (arith, e) in y))
        (λ e. absurd (let y : ⊥ = omega (arith, e) in y))

    pub due_timely : (due_kind (system st) c to object ≡ 0 → ⊥) → Fine (message_due c n to object (due_kind (system st) c to object))
    unfolding message_due
    due_timely = due_to (λ (k : ℕ). (k ≡ 0 → ⊥) → Fine (message_due c n to object k)) (λ e. absurd (e refl)) (λ p q e. fetch_timely p q)
        (λ p q e. ask_timely p q) (λ p q e. outcome_timely p q) (λ e. yield_timely)

-- ---- the steps
module _ (st : Station) (L : Ledger) (F : Past) (w : World st L F) (g : Wide st) (t : InTurn st) where
  abbrev Kept : Outcome → Type 0
  Kept r = InTurn r.station

  hosted_turn : (n : ℕ) (s : Step) → Goes st t n s.coordinator → Kept (hosted st n s)
  unfolding hosted
  hosted_turn n s h = either_way Kept (contains st.own.on n) _ _
      (either_way Kept (eqb s.number 0) _ _ (record_turn st t n s.coordinator h st.pool st.own (λ b i. i)) t) t

  -- ---- a delivery of the message b, the k-th that waits
  module _ (k : ℕ) (kept : Bool) (b : List ℕ) (in_pool : In b st.pool) where
    abbrev pool : List (List ℕ)
    pool = cond kept st.pool (without k st.pool)

    sub : (y : List ℕ) → In y pool → In y st.pool
    sub y i = in_left kept k st.pool y i

    coordinator_turn : (n : ℕ) → Kept (at_coordinator st k kept n b)
    unfolding at_coordinator
    coordinator_turn n = either_way Kept (eqb (receive_of (system st) (st.records n) n b).number 0) _ _
        (record_turn st t n _ (receive_goes st t w.valid n b (t.waits b in_pool)) pool st.own sub) t

    -- at a replica, which is the node that it names
    module _ (order : for_replica (kind_of b) ≡ true) where
      abbrev n : ℕ
      n = to_of b

      abbrev l : List ℕ
      l = st.images n

      abbrev m : Message
      m = decode b

      heard : Behind l m.owner m.serial ⊎ Awaited (st.records m.owner) n m.serial
      heard = heard_of st.images st.records b (t.waits b in_pool) order

      module _ (z : Taken l m) (i : List ℕ) (moves : Moves l i m.owner m.serial) where
        abbrev images : ℕ → List ℕ
        images = put_at st.images n i

        answer_timely : (a : Message) → Replied l m z i n a → Timely images st.records (encode a)
        answer_timely a r = encoded_timely images st.records a r.fits (λ e. absurd (no_both e r.for_owner))
            (λ e. absurd (no_both (ap for_replica e) r.for_owner))
            (λ e f. here (λ (j : List ℕ) (o s : ℕ). Bound j o s) (r.a_yes e f)) (λ e. here (λ (j : List ℕ) (o s : ℕ). Behind j o s) (r.a_done_lem e))
          where
            here : (P : List ℕ → ℕ → ℕ → Type 0) → P i m.owner m.serial → P (images a.from) a.owner a.serial
            here P p = subst (λ (u : ℕ). P (images u) a.owner a.serial) (sym r.from)
                (subst (λ (j : List ℕ). P j a.owner a.serial) (sym (put_same st.images n i))
                (subst (λ (o : ℕ). P i o a.serial) (sym r.owner) (subst (λ (s : ℕ). P i m.owner s) (sym r.serial) p)))

        answered_turn : (a : Answer) → Replies l m z i n a → Kept (answered st k kept n i a)
        unfolding answered
        answered_turn silent r = image_turn st t n i m.owner m.serial moves heard pool st.own (λ y j. inl (sub y j))
        answered_turn (says a) r = either_way Kept (kept && full st) _ _ t
            (image_turn st t n i m.owner m.serial moves heard (pool ++ (encode a ∷ [])) st.own
            (λ y j. on (in_append y pool (encode a ∷ []) j) (λ q. inl (sub y q))
            (λ q. on q (λ e. inr (subst (Timely images st.records) (sym e) (answer_timely a r))) (λ q. absurd q))))

      abbrev out : Delivered → Outcome
      out d = cond (eqb d.number 0) (answered st k kept n d.image d.answer) (refused_with d.number st)

      replica_turn : Kept (at_replica st k kept n b)
      unfolding at_replica
      replica_turn = by_cases (ℕ_discrete (refusal longest_message l n b) 0)
          (λ e.
          let z = taken longest_message l n b (w.valid.messages b in_pool) e in
          let r = served_step l m z n (w.valid.images n).1 in
          subst (λ (d : Delivered). Kept (out d)) (sym (delivered_is longest_message l n b e))
          (either_way Kept (eqb (step l n m).number 0) _ _ (answered_turn z (step l n m).image r.0 (step l n m).answer r.1) t))
          (λ e. subst (λ (d : Delivered). Kept (out d)) (sym (refused_is longest_message l n b e))
          (subst (λ (x : Bool). Kept (cond x (answered st k kept n l silent) (refused_with (refusal longest_message l n b) st)))
          (sym (ne_eqb (refusal longest_message l n b) 0 e)) t))

    arriving_turn : Kept (arriving st k kept b)
    unfolding arriving
    arriving_turn = either_way Kept (contains st.own.on (to_of b)) _ _
        (on_cond Kept (for_replica (kind_of b)) _ _ (λ e. replica_turn e) (λ e. coordinator_turn (to_of b)))
        (pool_turn st t pool st.own (λ y i. inl (sub y i)))

  delivery_turn : (k : ℕ) (kept : Bool) → Kept (delivery_of st k kept)
  unfolding delivery_of
  delivery_turn k kept =
      let b = get_or st.pool k [] in
      on_cond Kept (ltb k (length st.pool)) _ _
      (λ e. either_way Kept (eqb (check_of b) 0) _ _ (arriving_turn k kept b (in_place st.pool k [] (ltb-true k (length st.pool) e))) t)
      (λ e. t)

  -- ---- a send
  send_turn : (n to object : ℕ) → Kept (send_of st n to object)
  unfolding send_of send_number
  send_turn n to object =
      let c = st.records n in
      let kind = due_kind (system st) c to object in
      let a = message_due c n to object kind in
      let number = send_number st n to object a (not (eqb kind 0)) in
      on_cond Kept (eqb number 0) (cond (not (eqb kind 0)) (putting (encode a) st) (Rattle.steps.specs.Step.taken 0 st)) (refused_with number st)
      (λ e. on_cond Kept (not (eqb kind 0)) (putting (encode a) st) (Rattle.steps.specs.Step.taken 0 st)
      (λ q. pool_turn st t (st.pool ++ (encode a ∷ [])) st.own
      (λ y j. on (in_append y st.pool (encode a ∷ []) j) inl
      (λ r. on r (λ s. inr (subst (Timely st.images st.records) (sym s)
      (due_timely st t n (w.valid.records n) (g.fits n) to object
      (allowed st L F w n to object (contains st.own.on n) (eqb-true number 0 e)).0
      (λ z. no_both (eq-eqb kind 0 z) (not-true (eqb kind 0) q)))))
      (λ s. absurd s))))
      (λ q. t))
      (λ e. t)

  -- ---- every step
  pub in_turn_next : (call : Call) → InTurn (Rattle.steps.specs.Step.step st call).station
  unfolding Rattle.steps.specs.Step.step drop_of switch_of
  in_turn_next (begin n a) = hosted_turn n _ (begin_goes st t w.valid n a)
  in_turn_next (open_read n x) = hosted_turn n _ (open_goes st t w.valid n x 0)
  in_turn_next (open_write n x) = hosted_turn n _ (open_goes st t w.valid n x 1)
  in_turn_next (set_value n x v) = hosted_turn n _ (set_goes st t w.valid n x v)
  in_turn_next (found n x) = hosted_turn n _ (found_goes st t w.valid n x)
  in_turn_next (reselect n live d) = hosted_turn n _ (reselect_goes st t w.valid n live d)
  in_turn_next (request_commit n) = hosted_turn n _ (request_goes st t w.valid n)
  in_turn_next (abort n) = hosted_turn n _ (abort_goes st t w.valid n)
  in_turn_next (send n to x) = send_turn n to x
  in_turn_next (delivery k kept) = delivery_turn k kept
  in_turn_next (drop k) = either_way Kept (ltb k (length st.pool)) _ _
      (pool_turn st t (without k st.pool) st.own (λ y i. inl (in_without y k st.pool i))) t
  in_turn_next (switch n up) = either_way Kept (no_node n) _ _ t (pool_turn st t st.pool _ (λ y i. inl i))
