-- What the events tell of the votes goes with the records, step by step. A delivery at a coordinator is taken by its kind: that a vote which fits is
-- taken needs its stamp to be the record's (Stamped), and that none comes for a transaction before its votes are asked for needs the abstract state.
use mathlib.Core.Path.{◌≡◌, refl, sym, ◌∙◌, ap, subst}
use mathlib.Core.Logic.{◌⊎◌, inl, inr}
use mathlib.Core.Bool.{Bool, true, false, cond, not, ◌&&◌, ◌||◌}
use mathlib.Core.List.{List, [], ◌∷◌}
use mathlib.Core.Option.{Option, none, some}
use Prim.Native.Nat.{ℕ, ◌<◌, ◌≤◌}
use native.Mathlib.Decide.{ℕ_discrete}
use native.Mathlib.Omega.{arith}
use lib.Dec.{T, eqb, ltb}
use lib.ListN.{length, get_or}
use borrow.Author.Tests.{eqb-true, eqb-false, eq-eqb, ne_eqb, ltb-true}
use Rattle.numbers.specs.Sizes.{longest_message}
use Rattle.mask.specs.Mask.{contains, only, joined, minus, within}
use Rattle.numbers.specs.Refusal.{first_of}
use Rattle.quorum.specs.Nearest.{mask_of}
use Rattle.wire.specs.Encode.{encode}
use Rattle.wire.specs.Decode.{kind_of, from_of, to_of, owner_of, serial_of, stamp_of, check_of}
use Rattle.wire.specs.Items.{rival_of, word_of}
use Rattle.replica.specs.Steps.{Answer, silent, says}
use Rattle.replica.specs.Receive.{deliver}
use Rattle.replica.proofs.Delivered.{either_way}
use Rattle.coordinator.specs.declared.Coordinator.{Coordinator}
use Rattle.coordinator.specs.declared.BeginWith.{BeginWith}
use Rattle.coordinator.specs.Step.{Step}
use Rattle.coordinator.specs.State.{idle_phase, open_phase, voting_phase, finishing_phase, object_at, ready, awaited, idle_after}
use Rattle.coordinator.specs.Calls.{no_node, begin_refusals, begun, begin_of, open_refusals, opened, open_of, set_refusals, with_new, set_of, found_refusals}
use Rattle.coordinator.specs.Calls.{found_of}
use Rattle.coordinator.specs.Calls.{reselect_refusals, reselected, reselect_of, request_commit_refusals, requested, request_commit_of, abort_refusals}
use Rattle.coordinator.specs.Calls.{abort_of}
use Rattle.coordinator.specs.Calls.{with_phase, ended_aborted}
use Rattle.arrivals.specs.Receive.{brought, answers, copy_fits, copy_taken, with_yes, vote_taken, with_done, done_taken, yield_taken, for_replica}
use Rattle.arrivals.specs.Receive.{receive_refusals, receive_of}
use Rattle.due.specs.Kind.{due_kind}
use Rattle.coordinator.proofs.Refusals.{clear}
use Rattle.clauses.proofs.Facts.{Meets}
use Rattle.clauses.proofs.Parts.{on_cond, true-T, by_test}
use Rattle.clauses.proofs.Cases.{either_of}
use Rattle.clauses.proofs.Sets.{within_none, node_known}
use Rattle.clauses_arrive.proofs.Messages.{Taken, taken_of, vote_owner}
use Rattle.clauses.proofs.Keep.{request_keeps}
use Rattle.clauses_arrive.proofs.Deliveries.{after_copy, copied_object, said_yes, named, said_done}
use Rattle.due.specs.Due.{message_due}
use Rattle.steps.specs.Station.{Station, system, with_record, without}
use Rattle.steps.specs.Step.{Call, begin, open_read, open_write, set_value, found, reselect, request_commit, abort, send, delivery, drop, switch, Outcome}
use Rattle.steps.specs.Step.{refused_with, taken, putting, full, taken_out, send_number, hosted, answered, at_replica, at_coordinator, arriving, delivery_of}
use Rattle.steps.specs.Step.{drop_of, switch_of, send_of, step}
use Rattle.steps.specs.Run.{event_of}
use Rattle.protocol.specs.Table.{put, In}
use Rattle.protocol.specs.Rules.{read, write}
use Rattle.protocol.specs.State.{Tx, Tx-discrete, tx_path}
use Rattle.protocol.specs.Proof.Tables.{clash}
use Rattle.protocol.proofs.Tables.{on, put_cases, put2_cases, mark_stays}
use Rattle.history.specs.Ledger.{Ledger, tx_of, current, with_serial, with_mode, with_participants, with_put, with_delivered, noted}
use Rattle.history.specs.Ledger.{note}
use Rattle.history.specs.Ballots.{Ballots, yielding, with_agreed, with_spoilt, heard, delivered, polled, poll}
use Rattle.history.proofs.Tests.{no_both, and-true, not-false}
use Rattle.history.proofs.Sim.{tx, other_tx, waits_tells}
use Rattle.history.proofs.Carry.{put_all}
use Rattle.history.proofs.Quiet.{no_bit}
use Rattle.history.proofs.Words.{word_known, yield_names}
use Rattle.history.proofs.Books.{Past, changed}
use Rattle.history.proofs.Arrive.{in_place}
use Rattle.history.proofs.Calls.{taken_record, host_cases}
use Rattle.history.proofs.Counted.{Full, Counted, full_on, counted_on, spoil_else, spoilt_aside, spoilt_ends}
use Rattle.history.proofs.Counted.{agreed_aside, agreed_one, agreed_last, agreed_full, rested, begun_next, asked_next}
use Rattle.history.proofs.Theorem.{Good}

abbrev CountedBy : Ledger → Ballots → ℕ → Coordinator → Type 0
CountedBy L B n c = Counted L.participants L.committed B.agreed B.spoilt n c.serial c.phase c.yes

pub record Counts (st : Station) (L : Ledger) (B : Ballots) : Type 0 where
  pub up : B.on ≡ st.own.on
  -- what was told committed has every participant's yes
  pub all_agreed : (x : Tx) → In x L.committed → Full L.participants B.agreed x
  pub counted : (n : ℕ) → CountedBy L B n (st.records n)

module _ (st : Station) (L : Ledger) (F : Past) (B : Ballots) (g : Good st L F) (k : Counts st L B) where
  -- what holds after a step with this outcome
  abbrev Next : Call → Outcome → Type 0
  Next call r = Counts r.station (note L (event_of call r)) (poll L B (event_of call r))

  refused_counts : (call : Call) (number : ℕ) → (number ≡ 0 → ⊥) → Next call (refused_with number st)
  unfolding note poll
  refused_counts call number e =
      subst (λ (b : Bool). Counts st (cond b (noted L call 0 none) L) (cond b (polled L B call) B)) (sym (ne_eqb number 0 e)) k

  -- the records as before, and what is told too
  pool_counts : (images : ℕ → List ℕ) (pool : List (List ℕ)) (L' : Ledger) → L'.participants ≡ L.participants → L'.committed ≡ L.committed
      → Counts (record { images = images; records = st.records; pool = pool; own = st.own }) L' B
  pool_counts images pool L' p c = record {
    up = k.up;
    all_agreed = λ x i. subst (λ (P : Tx → ℕ). Full P B.agreed x) (sym p) (k.all_agreed x (subst (In x) c i));
    counted = λ n. let d = st.records n in
        subst (λ (P : Tx → ℕ). Counted P L'.committed B.agreed B.spoilt n d.serial d.phase d.yes) (sym p)
        (subst (λ (C : List Tx). Counted L.participants C B.agreed B.spoilt n d.serial d.phase d.yes) (sym c) (k.counted n));
  }

  module _ (n : ℕ) where
    abbrev c : Coordinator
    c = st.records n

    abbrev now : Tx
    now = tx n c.serial

    abbrev P : Tx → ℕ
    P = L.participants

    here : CountedBy L B n c
    here = k.counted n

    meets : Meets (system st) c
    meets = g.world.valid.records n

    is_now : current L n ≡ now
    is_now = ap (tx n) (g.world.books.present n).serial_as

    -- one record changed
    changed_counts : (c' : Coordinator) (pool : List (List ℕ)) (L' : Ledger) (B' : Ballots) → B'.on ≡ B.on
        → ((x : Tx) → In x L'.committed → Full L'.participants B'.agreed x) → CountedBy L' B' n c'
        → ((i : ℕ) → (i ≡ n → ⊥) → CountedBy L' B' i (st.records i)) → Counts (changed st n c' pool) L' B'
    changed_counts c' pool L' B' up full this else =
        record { up = up ∙ k.up; all_agreed = full; counted = put_all (λ (i : ℕ) (d : Coordinator). CountedBy L' B' i d) st.records n c' this else }

    -- nothing told
    same_counts : (c' : Coordinator) → CountedBy L B n c' → Counts (with_record st n c') L B
    same_counts c' this = changed_counts c' st.pool L B refl k.all_agreed this (λ i e. k.counted i)

    begin_counts : (a : BeginWith) → Next (begin n a) (hosted st n (begin_of (system st) c n a))
    unfolding begin_of begin_refusals begun note noted poll polled
    begin_counts a =
        let q = (system st).nearest_read n a.live a.distances in
        host_cases (Next (begin n a)) st n (begin_refusals c n a q) (mask_of q) (begun c a (mask_of q)) tt (refused_counts (begin n a))
        (λ z. changed_counts (begun c a (mask_of q)) st.pool (with_serial L n) B refl k.all_agreed
        (begun_next _ _ _ _ n c.serial c.phase c.yes here (eqb-true c.phase idle_phase (not-false _ z.1.0)) 0) (λ i e. k.counted i))

    read_counts : (t : ℕ) → Next (open_read n t) (hosted st n (open_of c n t 0))
    unfolding open_of open_refusals opened note noted poll polled
    read_counts t = host_cases (Next (open_read n t)) st n (open_refusals c n t) 0 (opened c t 0) tt (refused_counts (open_read n t))
        (λ z. changed_counts (opened c t 0) st.pool (with_mode L n t read) B refl k.all_agreed here (λ i e. k.counted i))

    write_counts : (t : ℕ) → Next (open_write n t) (hosted st n (open_of c n t 1))
    unfolding open_of open_refusals opened note noted poll polled
    write_counts t = host_cases (Next (open_write n t)) st n (open_refusals c n t) 0 (opened c t 1) tt (refused_counts (open_write n t))
        (λ z. changed_counts (opened c t 1) st.pool (with_mode L n t write) B refl k.all_agreed here (λ i e. k.counted i))

    set_counts : (t v : ℕ) → Next (set_value n t v) (hosted st n (set_of c n t v))
    unfolding set_of set_refusals with_new note noted poll polled
    set_counts t v = host_cases (Next (set_value n t v)) st n (set_refusals c n t) 0 (with_new c t v) tt (refused_counts (set_value n t v))
        (λ z. changed_counts (with_new c t v) st.pool (Rattle.history.specs.Ledger.with_new L n t v) B refl k.all_agreed here (λ i e. k.counted i))

    found_counts : (t : ℕ) → Next (found n t) (hosted st n (found_of (system st) c n t))
    unfolding found_of found_refusals note noted poll polled
    found_counts t = host_cases (Next (found n t)) st n (found_refusals (system st) c n t) (object_at c t).value c tt (refused_counts (found n t))
        (λ z. same_counts c here)

    reselect_counts : (live : ℕ) (distances : List ℕ) → Next (reselect n live distances) (hosted st n (reselect_of (system st) c n live distances))
    unfolding reselect_of reselect_refusals reselected note noted poll polled
    reselect_counts live distances =
        let q = (system st).nearest_read n live distances in
        host_cases (Next (reselect n live distances)) st n (reselect_refusals c n live q) (mask_of q) (reselected c live distances (mask_of q)) tt
        (refused_counts (reselect n live distances)) (λ z. same_counts (reselected c live distances (mask_of q)) here)

    -- ---- request: what it asks for was not told committed
    pub not_told : (c.phase ≡ open_phase) ⊎ (c.phase ≡ voting_phase) → In now L.committed → ⊥
    not_told e i = let p = g.world.books.decided.told_so now i in let o = g.world.sim.owners n in
        on e (λ f. let q = o.while_open f in clash (cc)) (λ f. let q = o.while_voting f in clash (cc))

    -- nobody agreed before
    no_yes : c.phase ≡ open_phase → (m : ℕ) → contains c.yes m ≡ true → ⊥
    no_yes f m e =
        let none-asked : c.participants ≡ 0 = meets.party.not_asked (omega (arith, f)) in
        let z : c.yes ≡ 0 = within_none c.yes (subst (λ (w : ℕ). T (within c.yes w)) none-asked meets.votes.of_participants) in
        no_bit m (subst (λ (w : ℕ). contains w m ≡ true) z e)

    requested_counts : (party : ℕ) → c.phase ≡ open_phase → Meets (system st) (requested c party) → Counts (with_record st n (requested c party))
        (with_participants L n party) B
    unfolding requested
    requested_counts party f m = changed_counts (requested c party) st.pool (with_participants L n party) B refl
        (λ x i. full_on P P' B.agreed B.agreed x (else x (λ e. not_told (inl f) (subst (λ (y : Tx). In y L.committed) (e ∙ is_now) i))) (λ j e. e)
        (k.all_agreed x i))
        (subst (λ (y : Tx). Counted (put Tx-discrete P y party) L.committed B.agreed B.spoilt n c.serial voting_phase c.yes) (sym is_now)
        (asked_next _ _ _ _ n c.serial c.phase c.yes here f party (m.party.asked_for refl) (no_yes f)))
        (λ i e. counted_on P P' _ _ _ _ _ _ i _ _ _ (λ s. else (tx i s) (other_tx n i s (L.serials n) e)) (λ x j. j) (λ s j. refl) (λ s. refl) (k.counted i))
      where
        P' : Tx → ℕ
        P' = put Tx-discrete P (current L n) party

        else : (x : Tx) → (x ≡ current L n → ⊥) → P' x ≡ P x
        else x e = on (put_cases Tx-discrete P (current L n) party x) (λ q. absurd (e q.0)) (λ q. q.1)

    request_counts : Next (request_commit n) (hosted st n (request_commit_of (system st) c n))
    unfolding request_commit_of request_commit_refusals note noted poll polled
    request_counts =
        let q = (system st).nearest_write n c.live c.distances in
        let party = joined (mask_of q) c.contacted in
        let rs = request_commit_refusals (system st) c n q in
        host_cases (Next (request_commit n)) st n rs party (requested c party) tt (refused_counts (request_commit n))
        (λ z. requested_counts party (eqb-true c.phase open_phase (not-false _ z.1.0))
        (subst (Meets (system st)) (taken_record rs party c (requested c party) z) (request_keeps (system st) g.world.sane.choices c n meets)))

    -- ---- the present transaction ends aborted, and is spoilt if votes were asked for it
    spoilt_else : (x : Tx) → x.owner ≡ n → (i : ℕ) → (i ≡ n → ⊥) → CountedBy L (with_spoilt L B x) i (st.records i)
    spoilt_else x e i d = counted_on _ _ _ _ _ _ _ _ i _ _ _ (λ s. refl) (λ y j. j) (λ s m. refl)
        (λ s. spoil_else P B.spoilt x (tx i s) (λ q. d (ap (λ (y : Tx). y.owner) q ∙ e))) (k.counted i)

    ended_here : (x : Tx) → x ≡ now → CountedBy L (with_spoilt L B x) n (ended_aborted c)
    unfolding ended_aborted idle_after
    ended_here x e = subst (λ (y : Tx). CountedBy L (with_spoilt L B y) n (ended_aborted c)) (sym e)
        (either_way (λ (d : Coordinator). CountedBy L (with_spoilt L B now) n d) (eqb (awaited c) 0) _ _
        (spoilt_ends _ _ _ _ n c.serial c.phase c.yes here idle_phase 0 (inl refl))
        (spoilt_ends _ _ _ _ n c.serial c.phase c.yes here finishing_phase c.yes (inr refl)))

    abort_counts : Next (abort n) (hosted st n (abort_of c n))
    unfolding abort_of abort_refusals note noted poll polled
    abort_counts = host_cases (Next (abort n)) st n (abort_refusals c n) 0 (ended_aborted c) tt (refused_counts (abort n))
        (λ z. changed_counts (ended_aborted c) st.pool L (with_spoilt L B (current L n)) refl k.all_agreed (ended_here (current L n) is_now)
        (spoilt_else (current L n) refl))

  -- ---- sends, drops, switches
  send_counts : (n to t : ℕ) → Next (send n to t) (send_of st n to t)
  unfolding send_of note noted poll polled
  send_counts n to t =
      let kind = due_kind (system st) (st.records n) to t in
      let m = message_due (st.records n) n to t kind in
      let due = not (eqb kind 0) in
      let number = send_number st n to t m due in
      on_cond (Next (send n to t)) (eqb number 0) (cond due (putting (encode m) st) (taken 0 st)) (refused_with number st)
      (λ e. either_way (Next (send n to t)) due (putting (encode m) st) (taken 0 st)
      (pool_counts st.images _ (with_put L L.pool (some (encode m))) refl refl)
      (pool_counts st.images _ (with_put L L.pool none) refl refl))
      (λ e. refused_counts (send n to t) number (eqb-false number 0 e))

  drop_counts : (j : ℕ) → Next (drop j) (drop_of st j)
  unfolding drop_of note noted poll polled
  drop_counts j = either_way (Next (drop j)) (ltb j (length st.pool)) _ _ (pool_counts st.images _ (with_put L (without j L.pool) none) refl refl)
      (refused_counts (drop j) 5 (λ e. let z : ⊥ = omega arith in z))

  switch_counts : (n : ℕ) (to : Bool) → Next (switch n to) (switch_of st n to)
  unfolding switch_of note noted poll polled
  switch_counts n to = either_way (Next (switch n to)) (no_node n) _ _ (refused_counts (switch n to) 4 (λ e. let z : ⊥ = omega arith in z))
      (record { up = ap (λ (o : ℕ). cond to (joined o (only n)) (minus o (only n))) k.up; all_agreed = k.all_agreed; counted = k.counted })

  -- ---- a delivery of the message b, which waits
  module _ (j : ℕ) (kept : Bool) (b : List ℕ) (is_b : b ≡ get_or st.pool j []) (waits : j < length st.pool) (well : check_of b ≡ 0) where
    abbrev call : Call
    call = delivery j kept

    abbrev pool : List (List ℕ)
    pool = cond kept st.pool (without j st.pool)

    in_pool : In b st.pool
    in_pool = subst (λ (y : List ℕ). In y st.pool) (sym is_b) (in_place st.pool j [] waits)

    -- what the events tell of it
    abbrev told : ℕ → Option (List ℕ) → Ledger
    told answer p = with_delivered (with_put L pool p) b answer p

    as_told : (answer : ℕ) (p : Option (List ℕ)) → noted L call answer p ≡ told answer p
    unfolding noted
    as_told answer p =
        ap (λ (l : List (List ℕ)). with_delivered (with_put L (cond kept l (without j l)) p) (get_or l j []) answer p) g.world.books.pool_as
        ∙ ap (λ (y : List ℕ). with_delivered (with_put L pool p) y answer p) (sym is_b)

    pub as_polled : polled L B call ≡ cond (contains st.own.on (to_of b)) (heard L B b) B
    unfolding polled
    as_polled = ap (λ (l : List (List ℕ)). delivered L B (get_or l j [])) g.world.books.pool_as ∙ ap (delivered L B) (sym is_b)
        ∙ ap (λ (o : ℕ). cond (contains o (to_of b)) (heard L B b) B) k.up

    -- a step that is taken
    go : (answer : ℕ) (p : Option (List ℕ)) (st' : Station) (B' : Ballots) → polled L B call ≡ B' → Counts st' (told answer p) B'
        → Next call (record { number = 0; answer = answer; put = p; station = st' })
    unfolding note poll
    go answer p st' B' e z = subst (λ (L' : Ledger). Counts st' L' (polled L B call)) (sym (as_told answer p)) (subst (Counts st' (told answer p)) (sym e) z)

    -- a node that is off hears nothing
    off_counts : contains st.own.on (to_of b) ≡ false → Next call (taken 0 (taken_out st j kept))
    off_counts e = go 0 none (taken_out st j kept) B (as_polled ∙ ap (λ (t : Bool). cond t (heard L B b) B) e)
        (pool_counts st.images pool (told 0 none) refl refl)

    module _ (is_on_lem : contains st.own.on (to_of b) ≡ true) where
      is_heard : polled L B call ≡ heard L B b
      is_heard = as_polled ∙ ap (λ (t : Bool). cond t (heard L B b) B) is_on_lem

      -- what is heard, by the kind and the word
      abbrev hearing : Bool → Bool → ℕ → Ballots
      hearing v y w =
          cond (v && eqb w 1) (with_agreed B (tx_of b) (from_of b))
          (cond ((v && eqb w 0) && contains (L.participants (tx_of b)) (from_of b)) (with_spoilt L B (tx_of b)) (cond y (with_spoilt L B (yielding b)) B))

      heard_by : (v y : Bool) (w : ℕ) → eqb (kind_of b) 4 ≡ v → eqb (kind_of b) 7 ≡ y → word_of b ≡ w → polled L B call ≡ hearing v y w
      unfolding heard
      heard_by v y w p q r = is_heard ∙ ap (λ (t : Bool). hearing t (eqb (kind_of b) 7) (word_of b)) p ∙ ap (λ (t : Bool). hearing v t (word_of b)) q
          ∙ ap (hearing v y) r

      heard_kind : (kind : ℕ) → kind_of b ≡ kind → polled L B call ≡ hearing (eqb kind 4) (eqb kind 7) (word_of b)
      heard_kind kind e = heard_by (eqb kind 4) (eqb kind 7) (word_of b) (ap (λ (i : ℕ). eqb i 4) e) (ap (λ (i : ℕ). eqb i 7) e) refl

      -- ---- at a replica: no vote, no yield
      replica_kind : for_replica (kind_of b) ≡ true → polled L B call ≡ B
      replica_kind e = on (either_of (eqb (kind_of b) 1) (eqb (kind_of b) 3 || eqb (kind_of b) 5) (eqb-true (kind_of b) 1)
          (either_of (eqb (kind_of b) 3) (eqb (kind_of b) 5) (eqb-true (kind_of b) 3) (eqb-true (kind_of b) 5)) e)
          (heard_kind 1) (λ d. on d (heard_kind 3) (heard_kind 5))

      answered_counts : polled L B call ≡ B → (n : ℕ) (l : List ℕ) (a : Answer) → Next call (answered st j kept n l a)
      unfolding answered
      answered_counts e n l silent = go 0 none _ B e (pool_counts _ pool (told 0 none) refl refl)
      answered_counts e n l (says m) = either_way (Next call) (kept && full st) _ _ (refused_counts call 12 (λ f. let z : ⊥ = omega arith in z))
          (go 0 (some (encode m)) _ B e (pool_counts _ _ (told 0 (some (encode m))) refl refl))

      replica_counts : for_replica (kind_of b) ≡ true → Next call (at_replica st j kept (to_of b) b)
      unfolding at_replica
      replica_counts e =
          let d = deliver longest_message (st.images (to_of b)) (to_of b) b in
          on_cond (Next call) (eqb d.number 0) _ _ (λ f. answered_counts (replica_kind e) (to_of b) d.image d.answer)
          (λ f. refused_counts call d.number (eqb-false d.number 0 f))

      -- ---- at a coordinator
      abbrev n : ℕ
      n = to_of b

      abbrev r : Coordinator
      r = st.records n

      abbrev out : Step → Outcome
      out s = cond (eqb s.number 0) (taken s.answer (with_record (taken_out st j kept) n s.coordinator)) (refused_with s.number st)

      abbrev Q : Step → Type 0
      Q s = Next call (out s)

      -- nothing heard, and not committed
      unheard : polled L B call ≡ B → (answer : ℕ) (d : Coordinator) → eqb answer 1 ≡ false → CountedBy L B n d → Q (brought answer d)
      unheard e answer d u this =
          let q : (told answer none).committed ≡ L.committed = ap (λ (t : Bool). cond t (tx_of b ∷ L.committed) L.committed) u in
          go answer none (changed st n d pool) B e
          (changed_counts n d pool (told answer none) B refl (λ x i. k.all_agreed x (subst (In x) q i))
          (subst (λ (C : List Tx). Counted L.participants C B.agreed B.spoilt n d.serial d.phase d.yes) (sym q) this)
          (λ i f. subst (λ (C : List Tx). Counted L.participants C B.agreed B.spoilt i (st.records i).serial (st.records i).phase
          (st.records i).yes) (sym q) (k.counted i)))

      unchanged : polled L B call ≡ B → Q (brought 0 r)
      unchanged e = unheard e 0 r refl (k.counted n)

      copy_counts : kind_of b ≡ 2 → Q (copy_taken (system st) r b)
      unfolding copy_taken
      copy_counts e = on_cond Q (copy_fits (system st) r b) _ _
          (λ f. unheard (heard_kind 2 e) (cond (ready (system st) (copied_object r b)) 3 0) (after_copy r b)
          (either_way (λ (a : ℕ). eqb a 1 ≡ false) (ready (system st) (copied_object r b)) 3 0 refl refl) (k.counted n))
          (λ f. unchanged (heard_kind 2 e))

      done_counts : kind_of b ≡ 6 → Q (done_taken r b)
      unfolding done_taken with_done idle_after
      done_counts e = on_cond Q (answers r finishing_phase (awaited r) b) _ _
          (λ f. on_cond Q (within (awaited r) (said_done r b)) _ _
          (λ t. unheard (heard_kind 6 e) 4 (idle_after r.serial r.timestamp r.outcome) refl
          (rested _ _ _ _ n r.serial r.phase r.yes (k.counted n)
          (eqb-true r.phase finishing_phase (and-true (eqb r.phase finishing_phase) _ f).0) 0))
          (λ t. unheard (heard_kind 6 e) 0 (with_phase r r.phase r.outcome r.participants r.yes (said_done r b) r.rivals) refl (k.counted n)))
          (λ f. unchanged (heard_kind 6 e))

      -- something spoilt: the record stays, or the present transaction ends
      module _ (x : Tx) (mine : x.owner ≡ n) (heard-so : polled L B call ≡ with_spoilt L B x) where
        aside : (r.phase ≡ voting_phase → tx n r.serial ≡ x → ⊥) → Q (brought 0 r)
        aside other = go 0 none (changed st n r pool) (with_spoilt L B x) heard-so
            (changed_counts n r pool (told 0 none) (with_spoilt L B x) refl k.all_agreed
            (spoilt_aside _ _ _ _ n r.serial r.phase r.yes (k.counted n) x other) (spoilt_else n x mine))

        ending : x ≡ tx n r.serial → Q (brought 2 (ended_aborted r))
        ending e = go 2 none (changed st n (ended_aborted r) pool) (with_spoilt L B x) heard-so
            (changed_counts n (ended_aborted r) pool (told 2 none) (with_spoilt L B x) refl k.all_agreed (ended_here n x e) (spoilt_else n x mine))

      yield_counts : kind_of b ≡ 7 → Q (yield_taken r b)
      unfolding yield_taken
      yield_counts e =
          let phases = eqb r.phase open_phase || eqb r.phase voting_phase in
          let names = eqb (rival_of b 0).serial r.serial in
          let mine : (yielding b).owner ≡ n = yield_names b well e in
          on_cond Q (phases && names) _ _
          (λ f. ending (yielding b) mine (heard_kind 7 e)
          (tx_path (yielding b) (tx n r.serial) mine (eqb-true (rival_of b 0).serial r.serial (and-true phases names f).1)))
          (λ f. aside (yielding b) mine (heard_kind 7 e) (λ v q. no_both (both_tests v (ap (λ (y : Tx). y.serial) q)) f))
        where
          both_tests : r.phase ≡ voting_phase → r.serial ≡ (rival_of b 0).serial
              → ((eqb r.phase open_phase || eqb r.phase voting_phase) && eqb (rival_of b 0).serial r.serial) ≡ true
          both_tests v q = simp (eq-eqb (rival_of b 0).serial r.serial (sym q), v)

      -- ---- votes
      module _ (t : Taken n b) (is-vote : kind_of b ≡ 4) where
        abbrev x : Tx
        x = tx_of b

        abbrev now' : Tx
        now' = tx n r.serial

        abbrev from : ℕ
        from = from_of b

        abbrev P' : Tx → ℕ
        P' = L.participants

        owner_is : owner_of b ≡ n
        owner_is = vote_owner n b t is-vote

        names : x ≡ tx n (serial_of b)
        names = tx_path x (tx n (serial_of b)) owner_is refl

        names_now : serial_of b ≡ r.serial → x ≡ now'
        names_now e = names ∙ ap (tx n) e

        below : serial_of b ≤ r.serial
        below = subst (λ (i : ℕ). serial_of b ≤ (st.records i).serial) owner_is (g.stamped.serial_below b in_pool)

        its_stamp : serial_of b ≡ r.serial → stamp_of b ≡ r.timestamp
        its_stamp = subst (λ (i : ℕ). serial_of b ≡ (st.records i).serial → stamp_of b ≡ (st.records i).timestamp) owner_is (g.stamped.stamp_as b in_pool)

        -- the participants that were answered are the record's
        party_is_lem : r.phase ≡ voting_phase → P' now' ≡ r.participants
        party_is_lem v = (g.world.books.present n).party_now ((meets n).party.asked_for v)

        -- a vote for what is voted for fits, if it is from a participant
        outside : answers r voting_phase r.participants b ≡ false → r.phase ≡ voting_phase → serial_of b ≡ r.serial → contains (P' now') from ≡ false
        outside f v e =
            let q : answers r voting_phase r.participants b ≡ contains r.participants from =
            simp (v, eq-eqb (serial_of b) r.serial e, eq-eqb (stamp_of b) r.timestamp (its_stamp e)) in
            ap (λ (p : ℕ). contains p from) (party_is_lem v) ∙ sym q ∙ f

        fits : answers r voting_phase r.participants b ≡ true
            → (r.phase ≡ voting_phase) × ((serial_of b ≡ r.serial) × (contains r.participants from ≡ true))
        fits f =
            let a = and-true (eqb r.phase voting_phase) _ f in
            let d = and-true (eqb (serial_of b) r.serial) _ a.1 in
            (eqb-true r.phase voting_phase a.0, (eqb-true (serial_of b) r.serial d.0, (and-true (eqb (stamp_of b) r.timestamp) _ d.1).1))

        -- a no
        module _ (word : word_of b ≡ 0) where
          heard_no : polled L B call ≡ cond (contains (P' x) from) (with_spoilt L B x) B
          heard_no = heard_by true false 0 (ap (λ (i : ℕ). eqb i 4) is-vote) (ap (λ (i : ℕ). eqb i 7) is-vote) word

          counts_so : contains (P' x) from ≡ true → polled L B call ≡ with_spoilt L B x
          counts_so e = heard_no ∙ ap (λ (t : Bool). cond t (with_spoilt L B x) B) e

          no_aborts : answers r voting_phase r.participants b ≡ true → Q (brought 2 (ended_aborted r))
          no_aborts f = let z = fits f in let e = names_now z.1.0 in
              ending x owner_is (counts_so (ap (λ (y : Tx). contains (P' y) from) e ∙ ap (λ (p : ℕ). contains p from) (party_is_lem z.0) ∙ z.1.1)) e

          no_aside : answers r voting_phase r.participants b ≡ false → Q (brought 0 r)
          no_aside f = by_test (Q (brought 0 r)) (contains (P' x) from)
              (λ e. aside x owner_is (counts_so e)
              (λ v q. no_both (ap (λ (y : Tx). contains (P' y) from) q ∙ e) (outside f v (ap (λ (y : Tx). y.serial) (sym q)))))
              (λ e. unchanged (heard_no ∙ ap (λ (t : Bool). cond t (with_spoilt L B x) B) e))

        -- a yes
        module _ (word : word_of b ≡ 1) where
          abbrev B' : Tx → Ballots
          B' y = with_agreed B y from

          heard_yes : (y : Tx) → x ≡ y → polled L B call ≡ B' y
          heard_yes y e = heard_by true false 1 (ap (λ (i : ℕ). eqb i 4) is-vote) (ap (λ (i : ℕ). eqb i 7) is-vote) word ∙ ap B' e

          -- every yes that came stays
          still_full : (y z : Tx) → Full P' B.agreed z → Full P' (B' y).agreed z
          still_full y z f = full_on P' P' B.agreed (B' y).agreed z refl (λ m e. mark_stays Tx-discrete ℕ_discrete B.agreed y from z m e) f

          agreed_else : (C' : List Tx) → ((z : Tx) → In z L.committed → In z C') → (s i : ℕ) → (i ≡ n → ⊥)
              → Counted P' C' (B' (tx n s)).agreed B.spoilt i (st.records i).serial (st.records i).phase (st.records i).yes
          agreed_else C' more s i d = counted_on _ _ _ _ _ _ _ _ i _ _ _ (λ q. refl) more
              (λ q m. on (put2_cases Tx-discrete ℕ_discrete B.agreed (tx n s) from true (tx i q) m) (λ z. absurd (other_tx n i q s d z.0.0))
              (λ z. z.1))
              (λ q. refl) (k.counted i)

          -- nobody agrees before votes are asked for
          not_open : r.phase ≡ open_phase → serial_of b ≡ r.serial → ⊥
          not_open f e =
              let w = g.world in
              let p = (w.sim.owners n).while_open f in
              let t = waits_tells w.state b now' (names_now e) (λ q. clash (cc)) (λ q. clash (cc)) (w.sim.waits b in_pool) in
              w.sim.kept.inv.votes.v_asked from now' (subst (λ (y : Tx). w.state.votes.yes from y ≡ true) (names_now e) (t.a_yes is-vote word)) p

          yes_aside : answers r voting_phase r.participants b ≡ false → Q (brought 0 r)
          yes_aside f = let y = tx n (serial_of b) in
              go 0 none (changed st n r pool) (B' y) (heard_yes y names)
              (changed_counts n r pool (told 0 none) (B' y) refl (λ z i. still_full y z (k.all_agreed z i))
              (agreed_aside _ _ _ _ n r.serial r.phase r.yes (k.counted n) (serial_of b) from below not_open (outside f))
              (agreed_else L.committed (λ z i. i) (serial_of b)))

          module _ (f : answers r voting_phase r.participants b ≡ true) where
            voting : r.phase ≡ voting_phase
            voting = (fits f).0

            is_now' : x ≡ now'
            is_now' = names_now (fits f).1.0

            small : from < 16
            small = omega (arith, node_known r.participants from (meets n).party.participants_known (true-T _ (fits f).1.1))

            one_more : Q (brought 0 (with_phase r voting_phase r.outcome r.participants (said_yes r b) r.done (named r b)))
            one_more = go 0 none (changed st n _ pool) (B' now') (heard_yes now' is_now')
                (changed_counts n _ pool (told 0 none) (B' now') refl (λ z i. still_full now' z (k.all_agreed z i))
                (agreed_one _ _ _ _ n r.serial r.phase r.yes (k.counted n) voting from small)
                (agreed_else L.committed (λ z i. i) r.serial))

            last_one : within r.participants (said_yes r b) ≡ true
                → Q (brought 1 (with_phase r finishing_phase 1 r.participants (said_yes r b) r.done (named r b)))
            last_one w = go 1 none (changed st n _ pool) (B' now') (heard_yes now' is_now')
                (changed_counts n _ pool (told 1 none) (B' now') refl
                (λ z i. on i (λ e. subst (Full P' (B' now').agreed) (sym (e ∙ is_now')) whole) (λ i. still_full now' z (k.all_agreed z i)))
                (agreed_last _ _ _ _ n r.serial r.phase r.yes (k.counted n) voting from small (x ∷ L.committed) (said_yes r b) (λ z i. inr i)
                (inl (sym is_now')))
                (agreed_else (x ∷ L.committed) (λ z i. inr i) r.serial))
              where
                whole : Full P' (B' now').agreed now'
                whole = agreed_full _ _ _ _ n r.serial r.phase r.yes (k.counted n) voting from small
                    (subst (λ (p : ℕ). T (within p (said_yes r b))) (sym (party_is_lem voting)) (true-T _ w))

        vote_counts : Q (vote_taken r b)
        unfolding vote_taken with_yes
        vote_counts = on_cond Q (answers r voting_phase r.participants b) _ _
            (λ f. on_cond Q (eqb (word_of b) 0) _ _ (λ w. no_aborts (eqb-true (word_of b) 0 w) f)
            (λ w. let y = yes_word_lem w in on_cond Q (within r.participants (said_yes r b)) _ _ (last_one y f) (λ u. one_more y f)))
            (λ f. on (word_known b well is-vote) (λ w. no_aside w f) (λ w. yes_aside w f))
          where
            yes_word_lem : eqb (word_of b) 0 ≡ false → word_of b ≡ 1
            yes_word_lem w = on (word_known b well is-vote) (λ z. absurd (eqb-false (word_of b) 0 w z)) (λ z. z)

      -- ---- whatever the kind
      kinds_counts : Taken n b → Q (Rattle.arrivals.specs.Receive.delivered (system st) r b)
      unfolding Rattle.arrivals.specs.Receive.delivered
      kinds_counts t =
          on_cond Q (eqb (kind_of b) 2) _ _ (λ e. copy_counts (eqb-true (kind_of b) 2 e))
          (λ d. on_cond Q (eqb (kind_of b) 4) _ _ (λ e. vote_counts t (eqb-true (kind_of b) 4 e))
          (λ p. on_cond Q (eqb (kind_of b) 6) _ _ (λ e. done_counts (eqb-true (kind_of b) 6 e))
          (λ d. on_cond Q (eqb (kind_of b) 7) _ _ (λ e. yield_counts (eqb-true (kind_of b) 7 e))
          (λ q. unchanged (heard_by false false (word_of b) p q refl)))))

      coordinator_counts : Next call (at_coordinator st j kept n b)
      unfolding at_coordinator receive_of receive_refusals
      coordinator_counts =
          let rs = receive_refusals r n b in
          on_cond Q (eqb (first_of rs) 0) _ _ (λ e. kinds_counts (taken_of r n b (clear rs tt (eqb-true (first_of rs) 0 e))))
          (λ e. subst (λ (t : Bool). Next call (cond t (taken 0 (with_record (taken_out st j kept) n r)) (refused_with (first_of rs) st))) (sym e)
          (refused_counts call (first_of rs) (eqb-false (first_of rs) 0 e)))

    arriving_counts : Next call (arriving st j kept b)
    unfolding arriving
    arriving_counts = on_cond (Next call) (contains st.own.on (to_of b)) _ _
        (λ e. on_cond (Next call) (for_replica (kind_of b)) _ _ (replica_counts e) (λ f. coordinator_counts e)) off_counts

  delivery_counts : (j : ℕ) (kept : Bool) → Next (delivery j kept) (delivery_of st j kept)
  unfolding delivery_of
  delivery_counts j kept =
      let b = get_or st.pool j [] in
      on_cond (Next (delivery j kept)) (ltb j (length st.pool)) _ _
      (λ p. on_cond (Next (delivery j kept)) (eqb (check_of b) 0) _ _
      (λ q. arriving_counts j kept b refl (ltb-true j (length st.pool) p) (eqb-true (check_of b) 0 q))
      (λ q. refused_counts (delivery j kept) (check_of b) (eqb-false (check_of b) 0 q)))
      (λ p. refused_counts (delivery j kept) 5 (λ e. let z : ⊥ = omega arith in z))

  -- ---- one more step
  pub counts_next : (call : Call) → Counts (step st call).station (note L (event_of call (step st call))) (poll L B (event_of call (step st call)))
  unfolding step
  counts_next (begin n a) = begin_counts n a
  counts_next (open_read n t) = read_counts n t
  counts_next (open_write n t) = write_counts n t
  counts_next (set_value n t v) = set_counts n t v
  counts_next (found n t) = found_counts n t
  counts_next (reselect n live distances) = reselect_counts n live distances
  counts_next (request_commit n) = request_counts n
  counts_next (abort n) = abort_counts n
  counts_next (send n to t) = send_counts n to t
  counts_next (delivery j kept) = delivery_counts j kept
  counts_next (drop j) = drop_counts j
  counts_next (switch n to) = switch_counts n to
