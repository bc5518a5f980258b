-- One round behind a request for votes: what node o owes a participant is sent, handed over and answered, and the answer is handed over, all at the pool's
-- end. So the pool is as it was, both messages are of the transaction, and the record is what the coordinator makes of the answer.
use mathlib.Core.Path.{◌≡◌, refl, sym, ◌∙◌, ap, ap₂, subst}
use mathlib.Core.Logic.{inl, inr}
use mathlib.Core.Bool.{Bool, true, false, cond}
use mathlib.Core.List.{List, [], ◌∷◌, ◌++◌}
use Prim.Native.Nat.{ℕ, ◌<◌}
use native.Mathlib.Omega.{arith}
use lib.Dec.{eqb}
use lib.ListN.{length, get_or, length-append}
use Rattle.numbers.specs.Sizes.{nodes, longest_message, most_waiting}
use Rattle.mask.specs.Mask.{contains}
use Rattle.wire.specs.Message.{Message}
use Rattle.wire.specs.Encode.{encode, Fits}
use Rattle.wire.specs.Decode.{from_of, to_of, stamp_of, decode}
use Rattle.wire.proofs.RoundTrip.{decode_encode}
use Rattle.replica.specs.Steps.{says}
use Rattle.replica.proofs.Taken.{Taken, taken}
use Rattle.coordinator.specs.declared.Coordinator.{Coordinator}
use Rattle.arrivals.specs.Receive.{for_replica, delivered}
use Rattle.due.specs.Due.{message_due}
use Rattle.steps.specs.Station.{Own, Station, system, with_image, with_record, put_at, sent, without}
use Rattle.steps.specs.Step.{Call, send, delivery, Outcome, putting, taken_out, answered, step}
use Rattle.protocol.specs.Table.{In}
use Rattle.protocol.specs.State.{Tx, tx_path}
use Rattle.protocol.specs.Proof.Tables.{clash}
use Rattle.protocol.proofs.Tables.{on}
use Rattle.history.specs.Ledger.{tx_of}
use Rattle.history.specs.Origin.{Origin, Rested}
use Rattle.history.specs.Claims.{AllTyped, account, reached, told}
use Rattle.history.proofs.Words.{tx_in, kind_of_lem, from_of_lem, to_of_lem, tx_of_lem, header_stamp}
use Rattle.history.proofs.Acts.{put_same}
use Rattle.history.proofs.Theorem.{Good}
use Rattle.history.proofs.InTurn.{InTurn}
use Rattle.history.proofs.Claimed.{Earlier, always_good}
use Rattle.history.proofs.Numbered.{always_in_turn, always_room, replica_clear}
use Rattle.progress.specs.Deliveries.{handed_by}
use Rattle.progress.specs.Oldest.{Unopposed, Near, Spares, Undisturbed, acts}
use Rattle.progress.specs.Schedule.{request, its, its_party, handed}
use Rattle.progress.proofs.Dues.{Owed, Header, owed_header, owed_fits, owed_put}
use Rattle.progress.proofs.Handed.{last_at, without_last, in_pool, at_replica_lem, at_coordinator_lem}
use Rattle.progress.proofs.Stages.{With}

typed_append : (es ds : List Call) → AllTyped es → AllTyped ds → AllTyped (es ++ ds)
typed_append [] ds a b = b
typed_append (c ∷ es) ds a b = (a.0, typed_append es ds a.1 b)

module _ (g : Origin) (ds : List Call) (o : ℕ) where
  abbrev st : Station
  st = reached g (request g ds o)

  abbrev pub waiting : ℕ
  waiting = length st.pool

  -- the station after steps behind the request, and the owner's record in it
  abbrev pub station_after : List Call → Station
  station_after es = reached g (es ++ request g ds o)

  abbrev pub record_after : List Call → Coordinator
  record_after es = (station_after es).records o

  -- what is supposed of the request
  pub record Starts : Type 0 where
    pub rested : Rested g
    pub typed : AllTyped ds
    pub known : o < nodes
    pub clear : Unopposed st o
    pub room : waiting < most_waiting

  -- so far only the transaction went on, and as many messages wait as at first
  pub record SoFar (es : List Call) : Type 0 where
    pub all_typed : AllTyped es
    pub spared : Undisturbed (account g) (acts g) (its g ds o) (its_party g ds o) (request g ds o) es
    pub pool_as : length (station_after es).pool ≡ waiting
    pub own_as : (station_after es).own ≡ st.own

  -- a participant is owed a message of a kind
  pub record Turn (es : List Call) (n kind : ℕ) : Type 0 where
    pub so_far : SoFar es
    pub member : contains (its_party g ds o) n ≡ true
    pub small : n < nodes
    pub present : (record_after es).serial ≡ (its g ds o).serial
    pub owed : Owed (record_after es) n kind

module _ {g : Origin} {ds : List Call} {o : ℕ} (starts : Starts g ds o) where
  abbrev now : List Call → Station
  now es = station_after g ds o es

  abbrev x : Tx
  x = its g ds o

  abbrev party : ℕ
  party = its_party g ds o

  abbrev place : ℕ
  place = waiting g ds o

  pub typed_now : (es : List Call) → AllTyped es → AllTyped (es ++ request g ds o)
  typed_now es a = typed_append es (request g ds o) a (tt, starts.typed)

  pub good_now : (es : List Call) → AllTyped es → Good (now es) (told g (es ++ request g ds o)) (Earlier g starts.rested (es ++ request g ds o))
  good_now es a = always_good g starts.rested (es ++ request g ds o) (typed_now es a)

  pub turn_now : (es : List Call) → AllTyped es → InTurn (now es)
  turn_now es a = always_in_turn g starts.rested (es ++ request g ds o) (typed_now es a)

  -- a participant and the owner are on
  near_up : (es : List Call) → (now es).own ≡ (st g ds o).own → (n : ℕ) → Near x party n → contains (now es).own.on n ≡ true
  near_up es e n (inl q) = ap (λ (w : Own). contains w.on n) e ∙ starts.clear.up n q
  near_up es e n (inr q) = ap₂ (λ (w : Own) (i : ℕ). contains w.on i) e q ∙ starts.clear.own_up

  -- ---- a round with participant n
  module _ {es : List Call} {n kind : ℕ} (turn : Turn g ds o es n kind) where
    abbrev s : SoFar g ds o es
    s = turn.so_far

    abbrev c : Coordinator
    c = record_after g ds o es

    abbrev pub message : Message
    message = message_due c o n 0 kind

    abbrev pub order : List ℕ
    order = encode message

    abbrev pub with_send : List Call
    with_send = send o n 0 ∷ es

    good : Good (now es) (told g (es ++ request g ds o)) (Earlier g starts.rested (es ++ request g ds o))
    good = good_now es s.all_typed

    pub order_head : Header c o n kind message
    order_head = owed_header c o n 0 kind turn.owed

    pub fits : Fits message
    fits = owed_fits c (good.world.valid.records o) (good.wide.fits o) o n 0 kind turn.owed

    for_replica_lem : for_replica kind ≡ true
    for_replica_lem = on turn.owed (λ z. ap for_replica z.0) (λ z. ap for_replica z.0)

    to_n : to_of order ≡ n
    to_n = to_of_lem message fits ∙ order_head.goes_to

    pub order_of_lem : With x kind n order
    order_of_lem =
        let k = kind_of_lem message fits ∙ order_head.its_kind in
        record {
          its_tx = tx_of_lem message fits ∙ tx_path (tx_in message) x order_head.its_owner (order_head.its_serial ∙ turn.present);
          its_kind = k;
          its_member = ap (λ (b : Bool). cond b (to_of order) (from_of order)) (ap for_replica k ∙ for_replica_lem) ∙ to_n;
        }

    -- the send
    put : now with_send ≡ sent (now es) order
    put = let e = s.pool_as in
        ap (λ (q : Outcome). q.station)
        (owed_put (now es) o n 0 kind (good.world.valid.records o) (good.wide.fits o).widths starts.known turn.small turn.owed
        (near_up es s.own_as o (inr refl)) (let h = starts.room in omega (arith, e, h)))

    pub pool₁ : (now with_send).pool ≡ (now es).pool ++ (order ∷ [])
    pool₁ = ap (λ (q : Station). q.pool) put

    own₁ : (now with_send).own ≡ (st g ds o).own
    own₁ = ap (λ (q : Station). q.own) put ∙ s.own_as

    pub records₁ : (now with_send).records ≡ (now es).records
    records₁ = ap (λ (q : Station). q.records) put

    -- a message at the end of that pool stands at the place, and nothing else when it is taken
    module _ (es' : List Call) (b : List ℕ) (e : (now es').pool ≡ (now es).pool ++ (b ∷ [])) where
      stands : get_or (now es').pool place [] ≡ b
      stands = ap₂ (λ (p : List (List ℕ)) (k : ℕ). get_or p k []) e (sym s.pool_as) ∙ last_at (now es).pool b

      taken_away : without place (now es').pool ≡ (now es).pool
      taken_away = ap₂ (λ (p : List (List ℕ)) (k : ℕ). without k p) e (sym s.pool_as) ∙ without_last (now es).pool b

      waits : place < length (now es').pool
      waits = let a = ap length e in let d = length-append (now es).pool (b ∷ []) in let z = s.pool_as in omega (arith, a, d, z)

    spares_send : Spares (account g) (acts g) x party (es ++ request g ds o) (send o n 0)
    unfolding handed_by
    spares_send = record {
      stays_up = near_up with_send own₁;
      not_given_up = λ e v. clash (cc);
      its_own = λ b i. absurd i;
    }

    pub typed₁ : AllTyped with_send
    typed₁ = (tt, s.all_typed)

    good₁ : Good (now with_send) (told g (with_send ++ request g ds o)) (Earlier g starts.rested (with_send ++ request g ds o))
    good₁ = good_now with_send typed₁

    -- the replica takes it
    pub order_taken : Taken ((now with_send).images n) message
    order_taken =
        let up = near_up with_send own₁ (to_of order) (inl (ap (contains party) to_n ∙ turn.member)) in
        let i = in_pool (now with_send) _ _ good₁.world (turn_now with_send typed₁) place order (stands with_send order pool₁)
        (always_room g starts.rested (with_send ++ request g ds o)) (waits with_send order pool₁) up in
        let t = taken longest_message ((now with_send).images (to_of order)) (to_of order) order (good₁.world.valid.messages order i)
        (replica_clear (now with_send) _ _ good₁.world (turn_now with_send typed₁) order i (ap for_replica order_of_lem.its_kind ∙ for_replica_lem)) in
        subst (λ (i : ℕ). Taken ((now with_send).images i) message) to_n (subst (Taken ((now with_send).images (to_of order))) (decode_encode message fits) t)

    -- ---- the message is handed over, and answered by a
    abbrev pub with_order : List Call
    with_order = delivery place false ∷ with_send

    abbrev pub with_answer : List Call
    with_answer = delivery place false ∷ with_order

    -- an answer echoes the message, to its owner
    pub record Echo (a : Message) : Type 0 where
      pub a_fits : Fits a
      pub for_owner : for_replica a.kind ≡ false
      pub a_from : a.from ≡ n
      pub a_to : a.to ≡ message.owner
      pub a_owner : a.owner ≡ message.owner
      pub a_serial : a.serial ≡ message.serial
      pub a_stamp : a.stamp ≡ message.stamp

    -- a delivery that is accepted hands over what stands at its place
    hands : (es' : List Call) (b : List ℕ) → get_or (now es').pool place [] ≡ b → (step (now es') (delivery place false)).number ≡ 0
        → handed_by (now es') (delivery place false) ≡ b ∷ []
    unfolding handed_by
    hands es' b e q = ap₂ (λ (k : ℕ) (y : List ℕ). cond (eqb k 0) (y ∷ []) []) q e

    spares_delivery : (es' : List Call) (b : List ℕ) → handed_by (now es') (delivery place false) ≡ b ∷ [] → tx_of b ≡ x
        → (now (delivery place false ∷ es')).own ≡ (st g ds o).own → Spares (account g) (acts g) x party (es' ++ request g ds o) (delivery place false)
    spares_delivery es' b h e w = record {
      stays_up = near_up (delivery place false ∷ es') w;
      not_given_up = λ e v. clash (cc);
      its_own = λ y i near. on (subst (In y) h i) (λ q. ap tx_of q ∙ e) (λ z. absurd z);
    }

    module _ (a : Message) (said : (Rattle.replica.specs.Receive.step ((now with_send).images n) n message).answer ≡ says a) (echo : Echo a) where
      abbrev pub answer : List ℕ
      answer = encode a

      abbrev image : List ℕ
      image = (Rattle.replica.specs.Receive.step ((now with_send).images (to_of order)) (to_of order) (decode order)).image

      delivered₁ : step (now with_send) (delivery place false)
          ≡ putting answer (with_image (taken_out (now with_send) place false) (to_of order) image)
      unfolding answered
      delivered₁ = at_replica_lem (now with_send) _ _ good₁.world (turn_now with_send typed₁) place order (stands with_send order pool₁)
          (always_room g starts.rested (with_send ++ request g ds o)) (waits with_send order pool₁)
          (near_up with_send own₁ (to_of order) (inl (ap (contains party) to_n ∙ turn.member)))
          (ap for_replica order_of_lem.its_kind ∙ for_replica_lem)
          ∙ ap (answered (now with_send) place false (to_of order) image)
          (ap₂ (λ (i : ℕ) (d : Message). (Rattle.replica.specs.Receive.step ((now with_send).images i) i d).answer) to_n (decode_encode message fits) ∙ said)

      now₂ : now with_order ≡ sent (with_image (taken_out (now with_send) place false) (to_of order) image) answer
      now₂ = ap (λ (q : Outcome). q.station) delivered₁

      pool₂ : (now with_order).pool ≡ (now es).pool ++ (answer ∷ [])
      pool₂ = ap (λ (q : Station). q.pool) now₂ ∙ ap (λ (p : List (List ℕ)). p ++ (answer ∷ [])) (taken_away with_send order pool₁)

      own₂ : (now with_order).own ≡ (st g ds o).own
      own₂ = ap (λ (q : Station). q.own) now₂ ∙ own₁

      records₂ : (now with_order).records ≡ (now es).records
      records₂ = ap (λ (q : Station). q.records) now₂ ∙ records₁

      pub answer_of_lem : With x a.kind n answer
      answer_of_lem =
          let f = echo.a_fits in
          record {
            its_tx = tx_of_lem a f ∙ tx_path (tx_in a) x (echo.a_owner ∙ order_head.its_owner) (echo.a_serial ∙ order_head.its_serial ∙ turn.present);
            its_kind = kind_of_lem a f;
            its_member = ap (λ (b : Bool). cond b (to_of answer) (from_of answer)) (ap for_replica (kind_of_lem a f) ∙ echo.for_owner) ∙ from_of_lem a f
                ∙ echo.a_from;
          }

      to_o : to_of answer ≡ o
      to_o = to_of_lem a echo.a_fits ∙ echo.a_to ∙ order_head.its_owner

      handed₁ : handed_by (now with_send) (delivery place false) ≡ order ∷ []
      handed₁ = hands with_send order (stands with_send order pool₁) (ap (λ (q : Outcome). q.number) delivered₁)

      typed₂ : AllTyped with_order
      typed₂ = (tt, typed₁)

      good₂ : Good (now with_order) (told g (with_order ++ request g ds o)) (Earlier g starts.rested (with_order ++ request g ds o))
      good₂ = good_now with_order typed₂

      -- ---- the answer is handed over
      delivered₂ : step (now with_order) (delivery place false) ≡ Rattle.steps.specs.Step.taken
          (delivered (system (now with_order)) ((now with_order).records (to_of answer)) answer).answer
          (with_record (taken_out (now with_order) place false) (to_of answer)
          (delivered (system (now with_order)) ((now with_order).records (to_of answer)) answer).coordinator)
      delivered₂ = at_coordinator_lem (now with_order) _ _ good₂.world (turn_now with_order typed₂) place answer (stands with_order answer pool₂)
          (always_room g starts.rested (with_order ++ request g ds o)) (waits with_order answer pool₂) (near_up with_order own₂ (to_of answer) (inr to_o))
          (ap for_replica (kind_of_lem a echo.a_fits) ∙ echo.for_owner)

      handed₂ : handed_by (now with_order) (delivery place false) ≡ answer ∷ []
      handed₂ = hands with_order answer (stands with_order answer pool₂) (ap (λ (q : Outcome). q.number) delivered₂)

      now₃ : now with_answer ≡ with_record (taken_out (now with_order) place false) (to_of answer)
          (delivered (system (now with_order)) ((now with_order).records (to_of answer)) answer).coordinator
      now₃ = ap (λ (q : Outcome). q.station) delivered₂

      own₃ : (now with_answer).own ≡ (st g ds o).own
      own₃ = ap (λ (q : Station). q.own) now₃ ∙ own₂

      -- THE ROUND: what was handed over, what the record is, and so far all is well
      pub round_handed : handed g ds o with_answer ≡ answer ∷ order ∷ handed g ds o es
      unfolding handed_by
      round_handed = ap₂ (λ (p q : List (List ℕ)). p ++ (q ++ handed g ds o es)) handed₂ handed₁

      pub round_record : record_after g ds o with_answer ≡ (delivered (system (now with_order)) c answer).coordinator
      round_record =
          let d : Coordinator → Coordinator = λ k. (delivered (system (now with_order)) k answer).coordinator in
          ap (λ (q : Station). q.records o) now₃
          ∙ ap (λ (i : ℕ). put_at (now with_order).records i (d ((now with_order).records i)) o) to_o
          ∙ put_same (now with_order).records o (d ((now with_order).records o))
          ∙ ap (λ (f : ℕ → Coordinator). d (f o)) records₂

      pub round_stamp : stamp_of answer ≡ c.timestamp
      round_stamp = let f = echo.a_fits in header_stamp a (f.serial, f.stamp) ∙ echo.a_stamp ∙ order_head.its_stamp

      pub round_from : from_of answer ≡ n
      round_from = from_of_lem a echo.a_fits ∙ echo.a_from

      pub round_so_far : SoFar g ds o with_answer
      round_so_far = record {
        all_typed = (tt, typed₂);
        spared = (
          spares_delivery with_order answer handed₂ answer_of_lem.its_tx own₃,
          (spares_delivery with_send order handed₁ order_of_lem.its_tx own₂, (spares_send, s.spared)),
        );
        pool_as = ap (λ (q : Station). length q.pool) now₃ ∙ ap length (taken_away with_order answer pool₂) ∙ s.pool_as;
        own_as = own₃;
      }
