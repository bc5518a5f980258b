-- What is stored of an owner's present transaction is its own: its timestamp; no vote before votes are asked for; nothing over before it is decided. Why:
-- a begin finds every row of its owner over, and no message of the serial that it takes; from then on only a waiting message of the present transaction
-- changes a row of it, an ask is put while voting, and an outcome waits only of what is decided.
use mathlib.Core.Path.{◌≡◌, refl, sym, ◌∙◌, ap, subst}
use mathlib.Core.Logic.{◌≢◌, ◌⊎◌, inl, inr, by_cases}
use mathlib.Core.Bool.{Bool, true, cond, not, ◌&&◌}
use mathlib.Core.List.{List, [], ◌∷◌, ◌++◌}
use Prim.Native.Nat.{ℕ, ◌≤◌}
use native.Mathlib.Decide.{ℕ_discrete}
use native.Mathlib.Omega.{arith}
use lib.Dec.{eqb, ltb}
use lib.ListN.{length, get_or}
use borrow.Author.Tests.{eq-eqb, ne_eqb, ltb-true}
use Rattle.numbers.specs.Sizes.{longest_message}
use Rattle.mask.specs.Mask.{contains}
use Rattle.wire.specs.Message.{Message, ask, vote, outcome}
use Rattle.wire.specs.Encode.{encode}
use Rattle.wire.specs.Decode.{kind_of, to_of, serial_of, check_of, decode}
use Rattle.image.specs.declared.Owner.{Owner}
use Rattle.image.specs.Layout.{serial, state, stamp}
use Rattle.image.specs.Valid.{over, listed}
use Rattle.replica.specs.Steps.{Answer, silent, says}
use Rattle.replica.specs.Receive.{refusal, Delivered}
use Rattle.replica.proofs.Delivered.{either_way, refused_is, delivered_is}
use Rattle.replica.proofs.Taken.{Taken, taken}
use Rattle.coordinator.specs.declared.Coordinator.{Coordinator}
use Rattle.coordinator.specs.Step.{Step}
use Rattle.coordinator.specs.System.{System}
use Rattle.coordinator.specs.State.{idle_phase, open_phase, voting_phase, finishing_phase, object_at, ready}
use Rattle.coordinator.specs.Calls.{no_node}
use Rattle.arrivals.specs.Receive.{for_replica, receive_of}
use Rattle.due.specs.Kind.{due_kind, open_due, voting_due, finishing_due}
use Rattle.due.specs.Due.{fetch_to, ask_to, outcome_to, yield_to, message_due}
use Rattle.clauses.proofs.Parts.{on_cond}
use Rattle.clauses.proofs.Cases.{OpenOrVoting}
use Rattle.steps.specs.Station.{Own, Station, system, put_at, without}
use Rattle.steps.specs.Step.{Call, begin, open_read, open_write, set_value, found, reselect, request_commit, abort, send, delivery, drop, switch, Outcome}
use Rattle.steps.specs.Step.{refused_with, putting, full, send_number, hosted, answered, at_replica, at_coordinator, arriving, delivery_of, drop_of, switch_of}
use Rattle.steps.specs.Step.{send_of, step}
use Rattle.protocol.specs.Table.{In}
use Rattle.protocol.specs.State.{Tx, committed, aborted}
use Rattle.protocol.specs.Proof.Tables.{clash}
use Rattle.protocol.proofs.Tables.{on}
use Rattle.history.specs.Ledger.{Ledger, tx_of}
use Rattle.history.specs.Origin.{Origin, Rested}
use Rattle.history.specs.Claims.{AllTyped, reached}
use Rattle.history.proofs.Tests.{no_both}
use Rattle.history.proofs.Carry.{put_all}
use Rattle.history.proofs.Sim.{tx, Waits}
use Rattle.history.proofs.Books.{Past, World}
use Rattle.history.proofs.Words.{header, header_owner, kind_of_lem, tx_of_lem, formed_of, formed_word, word_decoded}
use Rattle.history.proofs.Arrive.{in_append, in_place, in_left, in_without}
use Rattle.history.proofs.Acts.{behind_stands}
use Rattle.history.proofs.Stamped.{Stamped}
use Rattle.history.proofs.Moves.{Replied, Replies, served_step}
use Rattle.history.proofs.InTurn.{heard_of, InTurn}
use Rattle.history.proofs.Claimed.{always_good}
use Rattle.history.proofs.Numbered.{always_in_turn}
use Rattle.progress.proofs.OwnerRows.{Written, step_rows, VoteOfAsk, step_votes}
use Rattle.progress.proofs.Follows.{Follows, begin_follows, open_follows, set_follows, found_follows, reselect_follows, request_follows}
use Rattle.progress.proofs.Follows.{abort_follows, receive_follows}

pub record Stored (st : Station) : Type 0 where
  -- the stamp of a row that is not over is the present transaction's timestamp
  pub stamp_as : (n o : ℕ) → state (st.images n) o ≢ over → stamp (st.images n) o ≡ (st.records o).timestamp
  -- while open, every row of the owner is over or listed, and no ask or vote of the present transaction waits
  pub unvoted : (n o : ℕ) → (st.records o).phase ≡ open_phase → (state (st.images n) o ≡ over) ⊎ (state (st.images n) o ≡ listed)
  pub unasked : (b : List ℕ) → In b st.pool → (kind_of b ≡ ask) ⊎ (kind_of b ≡ vote)
      → serial_of b ≡ (st.records (Rattle.wire.specs.Decode.owner_of b)).serial → (st.records (Rattle.wire.specs.Decode.owner_of b)).phase ≢ open_phase
  -- while open or voting, no row with the present serial is over
  pub undecided : (n o : ℕ) → ((st.records o).phase ≡ open_phase) ⊎ ((st.records o).phase ≡ voting_phase) → 1 ≤ serial (st.images n) o
      → serial (st.images n) o ≡ (st.records o).serial → state (st.images n) o ≢ over

-- ---- the same, of one row and of one message, against the record c of their owner
record Row (c : Coordinator) (r : Owner) : Type 0 where
  its_stamp : r.state ≢ over → r.stamp ≡ c.timestamp
  not_voted : c.phase ≡ open_phase → (r.state ≡ over) ⊎ (r.state ≡ listed)
  not_over : OpenOrVoting c → 1 ≤ r.serial → r.serial ≡ c.serial → r.state ≢ over

abbrev row_of : List ℕ → ℕ → Owner
row_of = Rattle.image.specs.Layout.owner_of

abbrev owner_of : List ℕ → ℕ
owner_of = Rattle.wire.specs.Decode.owner_of

abbrev AskOrVote : List ℕ → Type 0
AskOrVote b = (kind_of b ≡ ask) ⊎ (kind_of b ≡ vote)

abbrev Quiet : Coordinator → List ℕ → Type 0
Quiet c b = AskOrVote b → serial_of b ≡ c.serial → c.phase ≢ open_phase

stored_by : (st : Station) → ((n o : ℕ) → Row (st.records o) (row_of (st.images n) o)) → ((b : List ℕ) → In b st.pool → Quiet (st.records (owner_of b)) b)
    → Stored st
unfolding Rattle.image.specs.Layout.owner_of
stored_by st rows quiet = record {
  stamp_as = λ n o. (rows n o).its_stamp;
  unvoted = λ n o. (rows n o).not_voted;
  unasked = quiet;
  undecided = λ n o. (rows n o).not_over;
}

row_of_lem : (st : Station) → Stored st → (n o : ℕ) → Row (st.records o) (row_of (st.images n) o)
unfolding Rattle.image.specs.Layout.owner_of
row_of_lem st s n o = record { its_stamp = s.stamp_as n o; not_voted = s.unvoted n o; not_over = s.undecided n o }

-- ---- a record that follows: rows and messages of the present transaction stay so, and the next one has none
row_follows : (c d : Coordinator) (r : Owner) → Follows c d → r.serial ≤ c.serial → (r.state ≢ over → c.phase ≢ idle_phase) → Row c r → Row d r
row_follows c d r (inl g) h q w = record {
  its_stamp = λ e. w.its_stamp e ∙ sym g.timestamp_as;
  not_voted = λ e. w.not_voted (g.open_before e);
  not_over = λ p k e. w.not_over (g.undecided_before p) k (e ∙ g.serial_as);
}
row_follows c d r (inr g) h q w = record {
  its_stamp = λ e. absurd (q e g.0);
  not_voted = λ e. by_cases (ℕ_discrete r.state over) inl (λ z. absurd (q z g.0));
  not_over = λ p k e. absurd (let y : ⊥ = omega (arith, h, e, g.1) in y);
}

quiet_follows : (c d : Coordinator) (b : List ℕ) → Follows c d → serial_of b ≤ c.serial → Quiet c b → Quiet d b
quiet_follows c d b (inl g) h w k e p = w k (e ∙ g.serial_as) (g.open_before p)
quiet_follows c d b (inr g) h w k e p = let y : ⊥ = omega (arith, h, e, g.1) in y

-- ---- what is due is its owner's, and while open no ask and no vote
due_owner : (c : Coordinator) (n to object kind : ℕ) → (message_due c n to object kind).owner ≡ n
unfolding message_due
due_owner c n to object kind =
    let N : Message → Type 0 = λ m. m.owner ≡ n in
    either_way N (eqb kind 1) (fetch_to c n to object) _ refl
    (either_way N (eqb kind 3) (ask_to c n to) _ refl
    (either_way N (eqb kind 5) (outcome_to c n to) (yield_to c n to) (either_way N (eqb c.outcome 1) _ _ refl refl) refl))

kind_encoded : (m : Message) → kind_of (encode m) ≡ m.kind
unfolding encode
kind_encoded m = refl

due_quiet : (s : System) (c : Coordinator) (n to object : ℕ) → c.phase ≡ open_phase
    → ((message_due c n to object (due_kind s c to object)).kind ≡ 1) ⊎ ((message_due c n to object (due_kind s c to object)).kind ≡ 7)
unfolding due_kind open_due message_due
due_quiet s c n to object e =
    let rest = cond (eqb c.phase voting_phase) (voting_due c to) (cond (eqb c.phase finishing_phase) (finishing_due c to) 0) in
    subst (λ (b : Bool). Due (cond b (open_due s c to object) rest)) (sym (eq-eqb c.phase open_phase e))
    (either_way Due (contains c.quorum to && not (ready s (object_at c object))) 1 0 (inl refl) (inr refl))
  where
    Due : ℕ → Type 0
    Due kind = ((message_due c n to object kind).kind ≡ 1) ⊎ ((message_due c n to object kind).kind ≡ 7)

module _ (st : Station) (L : Ledger) (F : Past) (w : World st L F) (g : Stamped st) (t : InTurn st) (s : Stored st) where
  abbrev Kept : Outcome → Type 0
  Kept r = Stored r.station

  abbrev c : ℕ → Coordinator
  c o = st.records o

  -- ---- one record changed, the pool no larger
  module _ (n : ℕ) (d : Coordinator) (f : Follows (c n) d) where
    rows_follow : (i o : ℕ) → Row (put_at st.records n d o) (row_of (st.images i) o)
    unfolding Rattle.image.specs.Layout.owner_of
    rows_follow i = put_all (λ (o : ℕ) (e : Coordinator). Row e (row_of (st.images i) o)) st.records n d
        (row_follows (c n) d (row_of (st.images i) n) f (t.below i n) (λ q. (t.not_over i n q).begun) (row_of_lem st s i n)) (λ o e. row_of_lem st s i o)

    pool_follows : (o : ℕ) (b : List ℕ) → owner_of b ≡ o → In b st.pool → Quiet (put_at st.records n d o) b
    pool_follows = put_all (λ (o : ℕ) (e : Coordinator). (b : List ℕ) → owner_of b ≡ o → In b st.pool → Quiet e b) st.records n d
        (λ b e i. quiet_follows (c n) d b f (subst (λ (o : ℕ). serial_of b ≤ (c o).serial) e (g.serial_below b i))
        (subst (λ (o : ℕ). Quiet (c o) b) e (s.unasked b i)))
        (λ o q b e i. subst (λ (o : ℕ). Quiet (c o) b) e (s.unasked b i))

    record_stored : (pool : List (List ℕ)) (own : Own) → ((b : List ℕ) → In b pool → In b st.pool)
        → Stored (record { images = st.images; records = put_at st.records n d; pool = pool; own = own })
    record_stored pool own sub = stored_by (record { images = st.images; records = put_at st.records n d; pool = pool; own = own }) rows_follow
        (λ b i. pool_follows (owner_of b) b refl (sub b i))

  hosted_stored : (n : ℕ) (x : Step) → Follows (c n) x.coordinator → Kept (hosted st n x)
  unfolding hosted
  hosted_stored n x f = either_way Kept (contains st.own.on n) _ _
      (either_way Kept (eqb x.number 0) _ _ (record_stored n x.coordinator f st.pool st.own (λ b i. i)) s) s

  -- ---- another pool, whoever is on
  pool_stored : (pool : List (List ℕ)) (own : Own) → ((b : List ℕ) → In b pool → In b st.pool ⊎ Quiet (c (owner_of b)) b)
      → Stored (record { images = st.images; records = st.records; pool = pool; own = own })
  pool_stored pool own new = stored_by (record { images = st.images; records = st.records; pool = pool; own = own }) (row_of_lem st s)
      (λ b i. on (new b i) (s.unasked b) (λ q. q))

  due_put : (n to object : ℕ) → Quiet (c n) (encode (message_due (c n) n to object (due_kind (system st) (c n) to object)))
  due_put n to object k e p =
      let m = message_due (c n) n to object (due_kind (system st) (c n) to object) in
      let q = kind_encoded m in
      on (due_quiet (system st) (c n) n to object p)
      (λ z. on k (λ u. let y : ⊥ = omega (arith, z, u, q) in y) (λ u. let y : ⊥ = omega (arith, z, u, q) in y))
      (λ z. on k (λ u. let y : ⊥ = omega (arith, z, u, q) in y) (λ u. let y : ⊥ = omega (arith, z, u, q) in y))

  send_stored : (n to object : ℕ) → Kept (send_of st n to object)
  unfolding send_of
  send_stored n to object =
      let kind = due_kind (system st) (c n) to object in
      let m = message_due (c n) n to object kind in
      let due = not (eqb kind 0) in
      let number = send_number st n to object m due in
      either_way Kept (eqb number 0) (cond due (putting (encode m) st) (Rattle.steps.specs.Step.taken 0 st)) (refused_with number st)
      (either_way Kept due (putting (encode m) st) (Rattle.steps.specs.Step.taken 0 st)
      (pool_stored (st.pool ++ (encode m ∷ [])) st.own
      (λ b i. on (in_append b st.pool (encode m ∷ []) i) inl
      (λ j. on j (λ e. inr (subst (λ (y : List ℕ). Quiet (c (owner_of y)) y) (sym e)
      (subst (λ (o : ℕ). Quiet (c o) (encode m)) (sym (header_owner m ∙ due_owner (c n) n to object kind)) (due_put n to object)))) (λ z. absurd z))))
      s) s

  -- ---- a delivery of the message b, the k-th that waits
  module _ (k : ℕ) (kept : Bool) (b : List ℕ) (in_pool : In b st.pool) where
    abbrev pool : List (List ℕ)
    pool = cond kept st.pool (without k st.pool)

    sub : (y : List ℕ) → In y pool → In y st.pool
    sub y i = in_left kept k st.pool y i

    coordinator_stored : (n : ℕ) → Kept (at_coordinator st k kept n b)
    unfolding at_coordinator
    coordinator_stored n = either_way Kept (eqb (receive_of (system st) (c n) n b).number 0) _ _
        (record_stored n _ (receive_follows (c n) (system st) n b) pool st.own sub) s

    -- an outcome waits only of what is decided
    outcome_decided : kind_of b ≡ outcome → Waits w.state b
        → (w.state.history.phase (tx_of b) ≡ committed) ⊎ (w.state.history.phase (tx_of b) ≡ aborted)
    outcome_decided e (inl z) = on (formed_word (decode b) (formed_of b z.well) (inr ((header b).0 ∙ e)))
        (λ q. inr (z.an_abort e (word_decoded b ∙ q))) (λ q. inl (z.a_commit_lem e (word_decoded b ∙ q)).0)
    outcome_decided e (inr z) = z.decided

    no_outcome : kind_of b ≡ outcome → serial_of b ≡ (c (owner_of b)).serial → OpenOrVoting (c (owner_of b)) → ⊥
    no_outcome e f p =
        let now : tx_of b ≡ tx (owner_of b) (c (owner_of b)).serial = ap (tx (owner_of b)) f in
        let h = ap w.state.history.phase now in
        let own = w.sim.owners (owner_of b) in
        on (outcome_decided e (w.sim.waits b in_pool))
        (λ q. on p (λ r. let z = own.while_open r in clash (cc)) (λ r. let z = own.while_voting r in clash (cc)))
        (λ q. on p (λ r. let z = own.while_open r in clash (cc)) (λ r. let z = own.while_voting r in clash (cc)))

    -- at a replica, which is the node that it names
    module _ (order : for_replica (kind_of b) ≡ true) where
      abbrev n : ℕ
      n = to_of b

      abbrev l : List ℕ
      l = st.images n

      abbrev m : Message
      m = decode b

      -- a row that it makes is of the present transaction
      module _ (i : List ℕ) (z : Written l m i) where
        present : serial_of b ≡ (c (owner_of b)).serial
        unfolding decode
        present = on (heard_of st.images st.records b (t.waits b in_pool) order)
            (λ q. absurd (let e = behind_stands l m q in let h = z.writes.in_turn in let y : ⊥ = omega (arith, e, h) in y))
            (λ a. sym a.present)

        row_made : Row (c (owner_of b)) z.row
        unfolding decode
        row_made = let o = owner_of b in let r = z.writes in record {
          its_stamp = λ q. on (r.its_stamp q) (λ e. e ∙ g.stamp_as b in_pool present) (λ e. e.1 ∙ s.stamp_as n o e.0);
          not_voted = λ p. on r.its_state inr (λ e. on e (λ q. absurd (s.unasked b in_pool (inl q.0) present p)) (λ q. inl q.1));
          not_over = λ p h e. on r.its_state (λ q u. let y : ⊥ = omega (arith, q, u) in y)
              (λ f. on f (λ q. q.1) (λ q. absurd (no_outcome q.0 present p)));
        }

        rows_made : (o : ℕ) → Row (c o) (row_of i o)
        unfolding decode
        rows_made o = by_cases (ℕ_discrete o (owner_of b))
            (λ e. subst (λ (p : ℕ). Row (c p) (row_of i p)) (sym e) (subst (Row (c (owner_of b))) (sym z.here) row_made))
            (λ e. subst (Row (c o)) (sym (z.elsewhere o e)) (row_of_lem st s n o))

      -- the image is i now
      module _ (i : List ℕ) (made : (i ≡ l) ⊎ Written l m i) where
        rows_now : (o : ℕ) → Row (c o) (row_of i o)
        rows_now o = on made (λ e. subst (λ (j : List ℕ). Row (c o) (row_of j o)) (sym e) (row_of_lem st s n o)) (λ z. rows_made i z o)

        image_stored : (pool' : List (List ℕ)) → ((y : List ℕ) → In y pool' → In y st.pool ⊎ Quiet (c (owner_of y)) y)
            → Stored (record { images = put_at st.images n i; records = st.records; pool = pool'; own = st.own })
        image_stored pool' new = stored_by (record { images = put_at st.images n i; records = st.records; pool = pool'; own = st.own })
            (put_all (λ (j : ℕ) (k : List ℕ). (o : ℕ) → Row (c o) (row_of k o)) st.images n i rows_now (λ j e. row_of_lem st s j))
            (λ y j. on (new y j) (s.unasked y) (λ q. q))

        -- only an ask of the present transaction is answered by a vote of it, and it does not wait while open
        answer_quiet : (z : Taken l m) (a : Message) → Replied l m z i n a → (a.kind ≡ vote → m.kind ≡ ask) → Quiet (c (owner_of (encode a))) (encode a)
        unfolding decode
        answer_quiet z a r votes = subst (λ (x : Tx). AskOrVote (encode a) → x.serial ≡ (c x.owner).serial → (c x.owner).phase ≢ open_phase)
            (sym (tx_of_lem a r.fits ∙ ap (λ (o : ℕ). tx o a.serial) r.owner ∙ ap (tx (owner_of b)) r.serial))
            (λ k e. on k (λ q. absurd (no_both (ap for_replica (sym (kind_of_lem a r.fits) ∙ q)) r.for_owner))
            (λ q. s.unasked b in_pool (inl (votes (sym (kind_of_lem a r.fits) ∙ q))) e))

        answered_stored : (z : Taken l m) (a : Answer) → Replies l m z i n a → VoteOfAsk l m z a → Kept (answered st k kept n i a)
        unfolding answered
        answered_stored z silent r v = image_stored pool (λ y j. inl (sub y j))
        answered_stored z (says a) r v = either_way Kept (kept && full st) _ _ s
            (image_stored (pool ++ (encode a ∷ []))
            (λ y j. on (in_append y pool (encode a ∷ []) j) (λ q. inl (sub y q))
            (λ q. on q (λ e. inr (subst (λ (x : List ℕ). Quiet (c (owner_of x)) x) (sym e) (answer_quiet z a r v))) (λ q. absurd q))))

      abbrev out : Delivered → Outcome
      out d = cond (eqb d.number 0) (answered st k kept n d.image d.answer) (refused_with d.number st)

      abbrev made : Delivered
      made = Rattle.replica.specs.Receive.step l n m

      replica_stored : Kept (at_replica st k kept n b)
      unfolding at_replica
      replica_stored = by_cases (ℕ_discrete (refusal longest_message l n b) 0)
          (λ e.
          let z = taken longest_message l n b (w.valid.messages b in_pool) e in
          subst (λ (d : Delivered). Kept (out d)) (sym (delivered_is longest_message l n b e))
          (either_way Kept (eqb made.number 0) _ _
          (answered_stored made.image (step_rows l m z n) z made.answer (served_step l m z n (w.valid.images n).1).1 (step_votes l m z n)) s))
          (λ e. subst (λ (d : Delivered). Kept (out d)) (sym (refused_is longest_message l n b e))
          (subst (λ (x : Bool). Kept (cond x (answered st k kept n l silent) (refused_with (refusal longest_message l n b) st)))
          (sym (ne_eqb (refusal longest_message l n b) 0 e)) s))

    arriving_stored : Kept (arriving st k kept b)
    unfolding arriving
    arriving_stored = either_way Kept (contains st.own.on (to_of b)) _ _
        (on_cond Kept (for_replica (kind_of b)) _ _ (λ e. replica_stored e) (λ e. coordinator_stored (to_of b)))
        (pool_stored pool st.own (λ y i. inl (sub y i)))

  delivery_stored : (k : ℕ) (kept : Bool) → Kept (delivery_of st k kept)
  unfolding delivery_of
  delivery_stored k kept =
      let b = get_or st.pool k [] in
      on_cond Kept (ltb k (length st.pool)) _ _
      (λ e. either_way Kept (eqb (check_of b) 0) _ _ (arriving_stored k kept b (in_place st.pool k [] (ltb-true k (length st.pool) e))) s)
      (λ e. s)

  -- ---- every step
  pub stored_next : (call : Call) → Stored (step st call).station
  unfolding step drop_of switch_of
  stored_next (begin n a) = hosted_stored n _ (begin_follows (c n) (system st) n a)
  stored_next (open_read n x) = hosted_stored n _ (open_follows (c n) (system st) n x 0)
  stored_next (open_write n x) = hosted_stored n _ (open_follows (c n) (system st) n x 1)
  stored_next (set_value n x v) = hosted_stored n _ (set_follows (c n) (system st) n x v)
  stored_next (found n x) = hosted_stored n _ (found_follows (c n) (system st) n x)
  stored_next (reselect n live d) = hosted_stored n _ (reselect_follows (c n) (system st) n live d)
  stored_next (request_commit n) = hosted_stored n _ (request_follows (c n) (system st) n)
  stored_next (abort n) = hosted_stored n _ (abort_follows (c n) (system st) n)
  stored_next (send n to x) = send_stored n to x
  stored_next (delivery k kept) = delivery_stored k kept
  stored_next (drop k) = either_way Kept (ltb k (length st.pool)) _ _
      (pool_stored (without k st.pool) st.own (λ y i. inl (in_without y k st.pool i))) s
  stored_next (switch n up) = either_way Kept (no_node n) _ _ s (pool_stored st.pool _ (λ y i. inl i))

-- ---- every list of steps from an origin
-- at rest every row is over, and nothing is open or voting
rested_stored : (o : Origin) → Rested o → Stored o.station
rested_stored o r = record {
  stamp_as = λ n w q. absurd (q (r.all_over n w));
  unvoted = λ n w e. inl (r.all_over n w);
  unasked = λ b i k e p. let h = r.idle (owner_of b) in let z : ⊥ = omega (arith, h, p) in z;
  undecided = λ n w p. absurd (let h = r.idle w in on p (λ e. let z : ⊥ = omega (arith, h, e) in z) (λ e. let z : ⊥ = omega (arith, h, e) in z));
}

pub always_stored : (o : Origin) (r : Rested o) (cs : List Call) → AllTyped cs → Stored (reached o cs)
always_stored o r [] a = rested_stored o r
always_stored o r (call ∷ cs) a =
    let g = always_good o r cs a.1 in
    stored_next (reached o cs) _ _ g.world g.stamped (always_in_turn o r cs a.1) (always_stored o r cs a.1) call
