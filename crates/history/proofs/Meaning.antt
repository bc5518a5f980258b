-- What 'committed' means, of one step: what is ripe was told committed, what was told committed has every participant's yes, and what is spoilt stays
-- so. Hence a step makes a transaction ripe exactly when it is the delivery that tells it committed.
use mathlib.Core.Path.{◌≡◌, refl, sym, ◌∙◌, ap, subst}
use mathlib.Core.Logic.{◌⊎◌, inl, inr}
use mathlib.Core.Bool.{Bool, true, false, cond, ◌&&◌}
use mathlib.Core.List.{List, [], ◌∷◌}
use mathlib.Core.Option.{Option}
use Prim.Native.Nat.{ℕ, ◌<◌}
use native.Mathlib.Omega.{arith}
use lib.Dec.{eqb, ltb}
use lib.ListN.{length, get_or}
use borrow.Author.Tests.{eqb-true, eq-eqb, ltb-true}
use Rattle.numbers.specs.Sizes.{longest_message}
use Rattle.mask.specs.Mask.{contains}
use Rattle.mask.proofs.Laws.{contains_within}
use Rattle.mask.proofs.Tests.{T_true, compared}
use Rattle.wire.specs.Decode.{kind_of, from_of, to_of, check_of}
use Rattle.wire.specs.Items.{word_of}
use Rattle.replica.specs.Steps.{Answer, silent, says}
use Rattle.replica.specs.Receive.{deliver}
use Rattle.replica.proofs.Delivered.{either_way}
use Rattle.coordinator.specs.declared.Coordinator.{Coordinator}
use Rattle.coordinator.specs.State.{idle_phase, voting_phase, finishing_phase}
use Rattle.arrivals.specs.Receive.{for_replica, receive_of}
use Rattle.clauses.proofs.Parts.{on_cond, true-T, by_test}
use Rattle.clauses_arrive.proofs.Messages.{vote_owner}
use Rattle.clauses_arrive.proofs.Laws.{Commits, commit_needs_every_yes}
use Rattle.steps.specs.Station.{Station, system}
use Rattle.steps.specs.Step.{Call, begin, open_read, open_write, set_value, found, reselect, request_commit, abort, send, delivery, drop, switch}
use Rattle.steps.specs.Step.{Outcome, full, answered, at_replica, at_coordinator, arriving, delivery_of, step}
use Rattle.steps.specs.Run.{Event, event_of}
use Rattle.protocol.specs.Table.{In}
use Rattle.protocol.specs.State.{Tx, tx_path}
use Rattle.protocol.proofs.Tables.{on}
use Rattle.history.specs.Ledger.{Ledger, tx_of, current, noted, note}
use Rattle.history.specs.Ballots.{Ballots, is_yes, is_no, is_yield, yielding, with_agreed, with_spoilt, heard, polled, poll}
use Rattle.history.specs.Claims.{Ripe, SaysCommitted}
use Rattle.history.proofs.Tests.{no_both}
use Rattle.history.proofs.Sim.{tx}
use Rattle.history.proofs.Words.{word_known}
use Rattle.history.proofs.Books.{Past, phases}
use Rattle.history.proofs.Counted.{Over, spoil_stays}
use Rattle.history.proofs.Polls.{Counts, not_told, as_polled}
use Rattle.history.proofs.Theorem.{Good}

-- ---- what is spoilt stays so
module _ (L : Ledger) (B : Ballots) (x : Tx) (is : B.spoilt x ≡ true) where
  abbrev Spoilt : Ballots → Type 0
  Spoilt B' = B'.spoilt x ≡ true

  heard_spoilt : (b : List ℕ) → Spoilt (heard L B b)
  unfolding heard
  heard_spoilt b = either_way Spoilt (is_yes b) (with_agreed B (tx_of b) (from_of b)) _ is
      (either_way Spoilt (is_no b && contains (L.participants (tx_of b)) (from_of b)) (with_spoilt L B (tx_of b)) _
      (spoil_stays L.participants B.spoilt (tx_of b) x is)
      (either_way Spoilt (is_yield b) (with_spoilt L B (yielding b)) B (spoil_stays L.participants B.spoilt (yielding b) x is) is))

  polled_spoilt : (c : Call) → Spoilt (polled L B c)
  unfolding polled
  polled_spoilt (begin n w) = is
  polled_spoilt (open_read n t) = is
  polled_spoilt (open_write n t) = is
  polled_spoilt (set_value n t v) = is
  polled_spoilt (found n t) = is
  polled_spoilt (reselect n live distances) = is
  polled_spoilt (request_commit n) = is
  polled_spoilt (abort n) = spoil_stays L.participants B.spoilt (current L n) x is
  polled_spoilt (send n to t) = is
  polled_spoilt (delivery k kept) = let b = get_or L.pool k [] in either_way Spoilt (contains B.on (to_of b)) (heard L B b) B (heard_spoilt b) is
  polled_spoilt (drop k) = is
  polled_spoilt (switch n up) = is

  poll_spoilt : (e : Event) → Spoilt (poll L B e)
  unfolding poll
  poll_spoilt e = either_way Spoilt (eqb e.number 0) (polled L B e.call) B (polled_spoilt e.call) is

-- an event of the station says 'committed'
abbrev pub Says : Ledger → Event → Tx → Type 0
Says L e x = SaysCommitted delivery L e.call e.number e.answer x

-- ---- what is told committed was told before, or is by this event
module _ (L : Ledger) (x : Tx) where
  abbrev Told : Event → Ledger → Type 0
  Told e L' = In x L'.committed → In x L.committed ⊎ Says L e x

  noted_told : (c : Call) (number answer : ℕ) (p : Option (List ℕ)) → number ≡ 0
      → Told (record { call = c; number = number; answer = answer; put = p }) (noted L c answer p)
  unfolding noted
  noted_told (begin n w) number answer p z i = inl i
  noted_told (open_read n t) number answer p z i = inl i
  noted_told (open_write n t) number answer p z i = inl i
  noted_told (set_value n t v) number answer p z i = inl i
  noted_told (found n t) number answer p z i = inl i
  noted_told (reselect n live distances) number answer p z i = inl i
  noted_told (request_commit n) number answer p z i = inl i
  noted_told (abort n) number answer p z i = inl i
  noted_told (send n to t) number answer p z i = inl i
  noted_told (delivery k kept) number answer p z i =
      let b = get_or L.pool k [] in
      let e : Event = record { call = delivery k kept; number = number; answer = answer; put = p } in
      on_cond (λ (C : List Tx). In x C → In x L.committed ⊎ Says L e x) (eqb answer 1) (tx_of b ∷ L.committed) L.committed
      (λ q j. on j (λ f. inr (record { place = k; kept = kept; a_delivery = refl; accepted = z; says_so = eqb-true answer 1 q; names = sym f })) inl)
      (λ q j. inl j) i
  noted_told (drop k) number answer p z i = inl i
  noted_told (switch n up) number answer p z i = inl i

  pub note_told : (e : Event) → Told e (note L e)
  unfolding note
  note_told e = on_cond (Told e) (eqb e.number 0) _ _ (λ q. noted_told e.call e.number e.answer e.put (eqb-true e.number 0 q)) (λ q i. inl i)

-- ---- what is ripe was told committed
module _ (st : Station) (L : Ledger) (F : Past) (B : Ballots) (g : Good st L F) (k : Counts st L B) where
  pub ripe_told : (x : Tx) → Ripe L B x → In x L.committed
  ripe_told x r = compared (In x L.committed) x.serial c.serial
      (λ h. over ((k.counted n).earlier x.serial h))
      (λ e. let y : tx n c.serial ≡ x = ap (tx n) (sym e) in
      let ended : (c.phase ≡ idle_phase) ⊎ (c.phase ≡ finishing_phase) → In x L.committed =
      λ f. over (subst (Over L.participants L.committed B.spoilt) y ((k.counted n).ended f)) in
      phases st g.world.state g.world.log g.world.sim n (g.world.valid.records n) (λ f. ended (inl f))
      (λ f. absurd (r.asked (subst (λ (z : Tx). L.participants z ≡ 0) y ((k.counted n).while_open f).unasked)))
      (λ f. absurd (short f y)) (λ f. ended (inr f)))
      (λ h. absurd (r.asked ((k.counted n).later x.serial h).unasked))
    where
      n : ℕ
      n = x.owner

      c : Coordinator
      c = st.records n

      over : Over L.participants L.committed B.spoilt x → In x L.committed
      over (inl i) = i
      over (inr (inl e)) = absurd (r.asked e)
      over (inr (inr e)) = absurd (no_both e r.unspoilt)

      -- while voting some participant's yes is missing
      short : c.phase ≡ voting_phase → tx n c.serial ≡ x → ⊥
      short f y =
          let v = (k.counted n).while_voting f in
          let m = g.world.valid.records n in
          let party : L.participants x ≡ c.participants =
          ap L.participants (sym y) ∙ (g.world.books.present n).party_now (m.party.asked_for f) in
          m.votes.vote_missing f (
            m.party.asked_for f,
            contains_within c.participants c.yes (λ i t.
                let p : contains (L.participants x) i ≡ true = ap (λ (q : ℕ). contains q i) party ∙ T_true _ t in
                true-T _ (v.taken i (ap (λ (z : Tx). B.agreed z i) y ∙ r.everyone i p) (ap (λ (z : Tx). contains (L.participants z) i) y ∙ p))),
          )

  -- ---- the delivery that tells it: a yes of a participant, the last one, to a record that is voting
  pub record Committing (j : ℕ) (b : List ℕ) : Type 0 where
    pub waits : j < length st.pool
    pub checked : check_of b ≡ 0
    pub is_on_lem : contains st.own.on (to_of b) ≡ true
    pub commits : Commits (st.records (to_of b)) (to_of b) b

  module _ (j : ℕ) (kept : Bool) where
    abbrev b : List ℕ
    b = get_or st.pool j []

    abbrev If : Outcome → Type 0
    If r = r.answer ≡ 1 → Committing j b

    silent_if : (n : ℕ) (l : List ℕ) (a : Answer) → If (answered st j kept n l a)
    unfolding answered
    silent_if n l silent e = absurd (let z : ⊥ = omega arith in z)
    silent_if n l (says m) e =
        either_way If (kept && full st) _ _ (λ e. absurd (let z : ⊥ = omega arith in z)) (λ e. absurd (let z : ⊥ = omega arith in z)) e

    pub committing : If (delivery_of st j kept)
    unfolding delivery_of arriving at_replica at_coordinator
    committing =
        let n = to_of b in
        let d = deliver longest_message (st.images n) n b in
        on_cond If (ltb j (length st.pool)) _ _
        (λ p. on_cond If (eqb (check_of b) 0) _ _
        (λ q. on_cond If (contains st.own.on n) _ _
        (λ u. on_cond If (for_replica (kind_of b)) _ _
        (λ f. on_cond If (eqb d.number 0) _ _ (λ i. silent_if n d.image d.answer) (λ i e. absurd (let z : ⊥ = omega arith in z)))
        (λ f. on_cond If (eqb (receive_of (system st) (st.records n) n b).number 0) _ _
        (λ i e. record {
          waits = ltb-true j (length st.pool) p;
          checked = eqb-true (check_of b) 0 q;
          is_on_lem = u;
          commits = commit_needs_every_yes (system st) (st.records n) n b e;
        })
        (λ i e. absurd (let z : ⊥ = omega arith in z))))
        (λ u e. absurd (let z : ⊥ = omega arith in z)))
        (λ q e. absurd (let z : ⊥ = omega arith in z)))
        (λ p e. absurd (let z : ⊥ = omega arith in z))

    module _ (m : Committing j b) where
      abbrev n : ℕ
      n = to_of b

      abbrev c : Coordinator
      c = st.records n

      voting : c.phase ≡ voting_phase
      voting = m.commits.a_yes.answer.in_phase

      is_now : tx_of b ≡ tx n c.serial
      is_now = let f = m.commits.a_yes.answer in tx_path (tx_of b) (tx n c.serial) (vote_owner n b f.taken f.its_kind) f.its_serial

      pub new_told : In (tx_of b) L.committed → ⊥
      new_told i = not_told st L F B g k n (inr voting) (subst (λ (y : Tx). In y L.committed) is_now i)

      a_yes : is_yes b ≡ true
      a_yes = let f = m.commits.a_yes in
          on (word_known b m.checked f.answer.its_kind) (λ w. absurd (f.says_yes w))
          (λ w. ap (λ (i : ℕ). eqb i 4 && eqb (word_of b) 1) f.answer.its_kind ∙ eq-eqb (word_of b) 1 w)

      -- it spoils nothing
      pub still_unspoilt : (polled L B (delivery j kept)).spoilt (tx_of b) ≡ false
      unfolding heard
      still_unspoilt =
          ap (λ (B' : Ballots). B'.spoilt (tx_of b)) (as_polled st L F B g k j kept b refl m.waits m.checked
          ∙ ap (λ (t : Bool). cond t (heard L B b) B) m.is_on_lem)
          ∙ ap (λ (t : Bool). (cond t (with_agreed B (tx_of b) (from_of b))
          (cond (is_no b && contains (L.participants (tx_of b)) (from_of b)) (with_spoilt L B (tx_of b)) (cond (is_yield b) (with_spoilt L B (yielding b)) B))
          ).spoilt (tx_of b)) a_yes
          ∙ ap B.spoilt is_now ∙ ((k.counted n).while_voting voting).unspoilt

-- ---- one step, with what holds before and after it
module _ (st : Station) (L : Ledger) (F : Past) (B : Ballots) (g : Good st L F) (k : Counts st L B) (call : Call) (F' : Past)
    (g' : Good (step st call).station (note L (event_of call (step st call))) F')
    (k' : Counts (step st call).station (note L (event_of call (step st call))) (poll L B (event_of call (step st call)))) (x : Tx) where
  abbrev e : Event
  e = event_of call (step st call)

  pub ripens_says : (Ripe L B x → ⊥) × Ripe (note L e) (poll L B e) x → Says L e x
  ripens_says z = on (note_told L x e (ripe_told (step st call).station (note L e) F' (poll L B e) g' k' x z.1))
      (λ i. let f = k.all_agreed x i in
      absurd (z.0 (record {
        asked = f.is_asked;
        everyone = f.everyone;
        unspoilt = by_test (B.spoilt x ≡ false) (B.spoilt x) (λ s. absurd (no_both (poll_spoilt L B x s e) z.1.unspoilt)) (λ s. s);
      }))) (λ s. s)

  module _ (s : Says L e x) where
    abbrev j : ℕ
    j = s.place

    abbrev message : List ℕ
    message = get_or st.pool j []

    is_x : tx_of message ≡ x
    is_x = ap (λ (l : List (List ℕ)). tx_of (get_or l j [])) (sym g.world.books.pool_as) ∙ s.names

    its_delivery : Committing st L F B g k j message
    unfolding step
    its_delivery = committing st L F B g k j s.kept (ap (λ (y : Call). (step st y).answer) (sym s.a_delivery) ∙ s.says_so)

    told_now : In x (note L e).committed
    unfolding note noted
    told_now = subst (λ (t : Bool). In x (cond t (noted L call e.answer e.put) L).committed) (sym (eq-eqb e.number 0 s.accepted))
        (subst (λ (y : Call). In x (noted L y e.answer e.put).committed) (sym s.a_delivery)
        (subst (λ (t : Bool). In x (cond t (tx_of (get_or L.pool j []) ∷ L.committed) L.committed)) (sym (eq-eqb e.answer 1 s.says_so))
        (inl (sym s.names))))

    unspoilt_now : (poll L B e).spoilt x ≡ false
    unfolding poll
    unspoilt_now = ap (λ (t : Bool). (cond t (polled L B call) B).spoilt x) (eq-eqb e.number 0 s.accepted)
        ∙ ap (λ (y : Call). (polled L B y).spoilt x) s.a_delivery ∙ ap (polled L B (delivery j s.kept)).spoilt (sym is_x)
        ∙ still_unspoilt st L F B g k j s.kept its_delivery

    pub says_ripens : (Ripe L B x → ⊥) × Ripe (note L e) (poll L B e) x
    says_ripens = let f = k'.all_agreed x told_now in (
      λ r. new_told st L F B g k j s.kept its_delivery (subst (λ (y : Tx). In y L.committed) (sym is_x) (ripe_told st L F B g k x r)),
      record { asked = f.is_asked; everyone = f.everyone; unspoilt = unspoilt_now },
    )
