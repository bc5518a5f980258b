-- A delivery at a station: at a replica, at a coordinator, or at a node that is off; then drops, switches. By the cases of each definition.
use mathlib.Core.Path.{◌≡◌, refl, sym, ◌∙◌, ap, subst}
use mathlib.Core.Logic.{◌≢◌}
use mathlib.Core.Bool.{Bool, true, false, cond, ◌&&◌}
use mathlib.Core.List.{List, [], ◌∷◌, ◌++◌}
use mathlib.Core.Option.{Option, none, some}
use Prim.Native.Nat.{ℕ, ◌<◌}
use native.Mathlib.Omega.{arith}
use lib.Dec.{eqb, ltb}
use lib.ListN.{length, get_or}
use borrow.Author.Tests.{eqb-true, eqb-false, eq-eqb, ltb-true}
use Rattle.numbers.specs.Sizes.{nodes, longest_message}
use Rattle.mask.specs.Mask.{contains, only, joined, minus}
use Rattle.wire.specs.Message.{Message}
use Rattle.wire.specs.Encode.{encode}
use Rattle.wire.specs.Decode.{kind_of, to_of, decode, check_of}
use Rattle.judge.specs.Standing.{standing}
use Rattle.replica.specs.Steps.{Answer, silent, says, fetch_image, fetch_answer, ask_image, ask_answer, outcome_image, outcome_answer}
use Rattle.replica.specs.Receive.{refusal, gives, step, Delivered, deliver, wrong_turn}
use Rattle.replica.proofs.Delivered.{cleared, step_fine, entries_of_lem}
use Rattle.replica.proofs.Spoken.{named_of}
use Rattle.replica.proofs.Taken.{Taken, taken}
use Rattle.coordinator.specs.Calls.{no_node}
use Rattle.arrivals.specs.Receive.{for_replica}
use Rattle.steps.specs.Station.{Station, with_image, with_on, with_pool, without}
use Rattle.steps.specs.Step.{delivery, drop, switch, refused_with, full, taken_out, answered, at_replica, at_coordinator, arriving, delivery_of, drop_of}
use Rattle.steps.specs.Step.{switch_of}
use Rattle.protocol.specs.Table.{In}
use Rattle.protocol.specs.State.{Tx, fresh, committed, aborted}
use Rattle.protocol.specs.Proof.Tables.{clash}
use Rattle.protocol.proofs.Tables.{on}
use Rattle.protocol.specs.Refine.Growth.{Late}
use Rattle.history.specs.Ledger.{Ledger, with_put, with_delivered, noted, note}
use Rattle.history.proofs.Sim.{Match, Tells}
use Rattle.history.proofs.Books.{Past, More, World}
use Rattle.history.proofs.Host.{fewer}
use Rattle.history.proofs.Words.{tx_in, tx_decoded, word_decoded, header}
use Rattle.history.proofs.Acts.{Acted, here_late}
use Rattle.history.proofs.Replies.{Said, fetch_reply, ask_reply, outcome_reply}
use Rattle.history.proofs.Arrive.{in_left, in_place, in_without, silent_world, answer_world}
use Rattle.history.proofs.Calls.{Next, refused_next}
use Rattle.history.proofs.Answered.{coordinator_next}

out_of_turn_lem : (l : List ℕ) (m : Message) → eqb m.kind 1 ≡ false → eqb m.kind 3 ≡ false → eqb m.kind 5 ≡ false → wrong_turn l m ≡ true
unfolding wrong_turn
out_of_turn_lem l m p q r = simp (p, q, r)

-- ---- the step of a message, by its kind
pub kind_cases : (l : List ℕ) (n : ℕ) (m : Message) → Taken l m → (P : Delivered → Type 0) → (m.kind ≡ 1 → P (gives (fetch_image l m) (fetch_answer n l m)))
    → (m.kind ≡ 3 → P (gives (ask_image l m) (ask_answer n l m))) → (m.kind ≡ 5 → P (gives (outcome_image l m) (outcome_answer n m))) → P (step l n m)
unfolding step
kind_cases l n m k P f a o = by (eqb m.kind 1) (eqb m.kind 3) (eqb m.kind 5) refl refl refl
  where
    by : (x y z : Bool) → eqb m.kind 1 ≡ x → eqb m.kind 3 ≡ y → eqb m.kind 5 ≡ z
        → P (cond x (gives (fetch_image l m) (fetch_answer n l m)) (cond y (gives (ask_image l m) (ask_answer n l m))
        (cond z (gives (outcome_image l m) (outcome_answer n m)) (gives l silent))))
    by true y z p q r = f (eqb-true m.kind 1 p)
    by false true z p q r = a (eqb-true m.kind 3 q)
    by false false true p q r = o (eqb-true m.kind 5 r)
    by false false false p q r = absurd (let e = sym k.turn ∙ out_of_turn_lem l m p q r in clash (cc))

module _ (st : Station) (L : Ledger) (F : Past) (w : World st L F) (k : ℕ) (kept : Bool) (b : List ℕ) (is_b : b ≡ get_or st.pool k [])
    (waits : k < length st.pool) where
  abbrev m : Message
  m = decode b

  abbrev pool : List (List ℕ)
  pool = cond kept st.pool (without k st.pool)

  sub : (y : List ℕ) → In y pool → In y st.pool
  sub y i = in_left kept k st.pool y i

  in_pool : In b st.pool
  in_pool = subst (λ (y : List ℕ). In y st.pool) (sym is_b) (in_place st.pool k [] waits)

  abbrev told : Option (List ℕ) → Ledger
  told p = with_delivered (with_put L pool p) b 0 p

  as_told : (p : Option (List ℕ)) → noted L (delivery k kept) 0 p ≡ told p
  unfolding noted
  as_told p = ap (λ (l : List (List ℕ)). with_delivered (with_put L (cond kept l (without k l)) p) (get_or l k []) 0 p) w.books.pool_as
      ∙ ap (λ (y : List ℕ). with_delivered (with_put L pool p) y 0 p) (sym is_b)

  -- ---- at a replica
  module _ (n : ℕ) (here : n ≡ to_of b) where
    abbrev l : List ℕ
    l = st.images n

    module _ (small : n < nodes) (t : Taken l m) where
      -- what is not late here tells the truth
      tells : for_replica (kind_of b) ≡ true → (standing l m ≡ 0 → ⊥) → Tells w.state.history w.state.votes w.state.sent b
      tells e q = on (w.sim.waits b in_pool) (λ z. z)
          (λ z. absurd (q (here_late st w.state w.log w.sim n m t
          (subst (λ (i : ℕ). Late w.state.ends i (tx_in m)) (sym here) (subst (Late w.state.ends (to_of b)) (tx_decoded b) (z.late e))))))

      abbrev Reply : Delivered → Type 0
      Reply d = Acted st w.state w.log w.sim n m t d.image (λ τ l'. Said τ w.log l' (tx_in m) d.answer)

      kind_is : (j : ℕ) → m.kind ≡ j → kind_of b ≡ j
      kind_is j e = sym (header b).0 ∙ e

      reply : Reply (step l n m)
      reply = kind_cases l n m t Reply
          (λ e. fetch_reply st w.state w.log w.sim n small m t (w.valid.images n).1)
          (λ e. ask_reply st w.state w.log w.sim n small m t (w.valid.images n).1 e
          (λ q. let z = (tells (ap for_replica (kind_is 3 e)) q).an_ask (kind_is 3 e) in (
            subst (λ (x : Tx). w.state.history.phase x ≢ fresh) (tx_decoded b) z.0,
            subst (λ (x : Tx). Match (w.state.history.contents x) m.entries) (tx_decoded b) z.1,
          )))
          (λ e. outcome_reply st w.state w.log w.sim n small m t (w.valid.images n).1 e
          (λ q u. let z = (tells (ap for_replica (kind_is 5 e)) q).a_commit_lem (kind_is 5 e) (word_decoded b ∙ u) in (
            subst (λ (x : Tx). w.state.history.phase x ≡ committed) (tx_decoded b) z.0,
            subst (λ (x : Tx). Match (w.state.history.contents x) m.entries) (tx_decoded b) z.1,
          ))
          (λ q u. subst (λ (x : Tx). w.state.history.phase x ≡ aborted) (tx_decoded b)
          ((tells (ap for_replica (kind_is 5 e)) q).an_abort (kind_is 5 e) (word_decoded b ∙ u))))

      answered_next : (ans : Answer) → Acted st w.state w.log w.sim n m t (step l n m).image (λ τ l'. Said τ w.log l' (tx_in m) ans)
          → Next st L F w (delivery k kept) (answered st k kept n (step l n m).image ans)
      unfolding answered note
      answered_next silent a =
          subst (λ (L' : Ledger). World (with_image (taken_out st k kept) n (step l n m).image) L'
          (More F (with_image (taken_out st k kept) n (step l n m).image)))
          (sym (as_told none)) (silent_world st L F w n b pool sub t a)
      answered_next (says c) a = by (kept && full st)
        where
          by : (g : Bool) → Next st L F w (delivery k kept) (cond g (refused_with 12 st)
              (record {
                number = 0;
                answer = 0;
                put = some (encode c);
                station = with_pool (with_image (taken_out st k kept) n (step l n m).image) (pool ++ (encode c ∷ []));
              }))
          by true = refused_next st L F w (delivery k kept) 12 (λ e. let z : ⊥ = omega arith in z)
          by false =
              subst (λ (L' : Ledger). World (with_pool (with_image (taken_out st k kept) n (step l n m).image) (pool ++ (encode c ∷ []))) L'
              (More F (with_pool (with_image (taken_out st k kept) n (step l n m).image) (pool ++ (encode c ∷ [])))))
              (sym (as_told (some (encode c)))) (answer_world st L F w n b pool sub t c a)

    -- refused, or the step
    by_refusal : (g : Bool) → eqb (refusal longest_message l n b) 0 ≡ g
        → Next st L F w (delivery k kept)
        (cond (eqb (cond {A = Delivered} g (step l n m) (record { number = refusal longest_message l n b; image = l; answer = silent })).number 0)
        (answered st k kept n (cond {A = Delivered} g (step l n m) (record { number = refusal longest_message l n b; image = l; answer = silent })).image
        (cond {A = Delivered} g (step l n m) (record { number = refusal longest_message l n b; image = l; answer = silent })).answer)
        (refused_with (cond {A = Delivered} g (step l n m) (record { number = refusal longest_message l n b; image = l; answer = silent })).number st))
    by_refusal true e =
        let z = eqb-true (refusal longest_message l n b) 0 e in
        let q = cleared longest_message l n b z in
        let t = taken longest_message l n b (w.valid.messages b in_pool) z in
        let f = (step_fine n l m (named_of n m q.node q.formed) (entries_of_lem m q.formed)).1 in
        subst (λ (g : Bool). Next st L F w (delivery k kept)
        (cond g (answered st k kept n (step l n m).image (step l n m).answer) (refused_with (step l n m).number st)))
        (sym (eq-eqb (step l n m).number 0 f)) (answered_next q.node t (step l n m).answer (reply q.node t))
    by_refusal false e =
        subst (λ (g : Bool). Next st L F w (delivery k kept) (cond g (answered st k kept n l silent) (refused_with (refusal longest_message l n b) st)))
        (sym e)
        (refused_next st L F w (delivery k kept) (refusal longest_message l n b) (eqb-false (refusal longest_message l n b) 0 e))

    pub replica_next : Next st L F w (delivery k kept) (at_replica st k kept n b)
    unfolding at_replica deliver
    replica_next = by_refusal (eqb (refusal longest_message l n b) 0) refl

  -- ---- where it arrives; a node that is off does nothing
  off_taken : Next st L F w (delivery k kept) (record { number = 0; answer = 0; put = none; station = taken_out st k kept })
  unfolding note
  off_taken = subst (λ (L' : Ledger). World (taken_out st k kept) L' (More F (taken_out st k kept))) (sym (as_told none))
      (fewer st L F w pool st.own.on (told none) sub refl refl refl refl refl (record { serials = refl; modes = refl; news = refl; parties = refl }))

  pub arriving_next : Next st L F w (delivery k kept) (arriving st k kept b)
  unfolding arriving
  arriving_next = by (contains st.own.on (to_of b)) (for_replica (kind_of b))
    where
      by : (up r : Bool) → Next st L F w (delivery k kept) (cond up (cond r (at_replica st k kept (to_of b) b) (at_coordinator st k kept (to_of b) b))
          (record { number = 0; answer = 0; put = none; station = taken_out st k kept }))
      by true true = replica_next (to_of b) refl
      by true false = coordinator_next st L F w k kept (to_of b) b is_b waits
      by false r = off_taken

-- ---- the steps
module _ (st : Station) (L : Ledger) (F : Past) (w : World st L F) where
  pub delivery_next : (k : ℕ) (kept : Bool) → Next st L F w (delivery k kept) (delivery_of st k kept)
  unfolding delivery_of
  delivery_next k kept = by (ltb k (length st.pool)) (eqb (check_of b) 0) refl refl
    where
      b : List ℕ
      b = get_or st.pool k []

      by : (x y : Bool) → ltb k (length st.pool) ≡ x → eqb (check_of b) 0 ≡ y
          → Next st L F w (delivery k kept) (cond x (cond y (arriving st k kept b) (refused_with (check_of b) st)) (refused_with 5 st))
      by true true p q = arriving_next st L F w k kept b refl (ltb-true k (length st.pool) p)
      by true false p q = refused_next st L F w (delivery k kept) (check_of b) (eqb-false (check_of b) 0 q)
      by false y p q = refused_next st L F w (delivery k kept) 5 (λ e. let z : ⊥ = omega arith in z)

  pub drop_next : (k : ℕ) → Next st L F w (drop k) (drop_of st k)
  unfolding drop_of note noted
  drop_next k = by (ltb k (length st.pool))
    where
      by : (x : Bool) → Next st L F w (drop k) (cond x (record { number = 0; answer = 0; put = none; station = with_pool st (without k st.pool) })
          (refused_with 5 st))
      by true = fewer st L F w (without k st.pool) st.own.on (with_put L (without k L.pool) none) (λ y i. in_without y k st.pool i)
          (ap (without k) w.books.pool_as) refl refl refl refl (record { serials = refl; modes = refl; news = refl; parties = refl })
      by false = refused_next st L F w (drop k) 5 (λ e. let z : ⊥ = omega arith in z)

  pub switch_next : (n : ℕ) (up : Bool) → Next st L F w (switch n up) (switch_of st n up)
  unfolding switch_of note noted
  switch_next n up = by (no_node n)
    where
      on' : ℕ
      on' = cond up (joined st.own.on (only n)) (minus st.own.on (only n))

      by : (x : Bool) → Next st L F w (switch n up) (cond x (refused_with 4 st) (record { number = 0; answer = 0; put = none; station = with_on st on' }))
      by true = refused_next st L F w (switch n up) 4 (λ e. let z : ⊥ = omega arith in z)
      by false = fewer st L F w st.pool on' L (λ y i. i) w.books.pool_as refl refl refl refl
          (record { serials = refl; modes = refl; news = refl; parties = refl })
