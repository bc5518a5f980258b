-- Replay's last values in bounded memory: after every list of steps from an origin, the last value that the digest of its events has for an
-- object is the one of the definition. By one more step; what the log has, and who is committed, is read off a good history and state.
use mathlib.Core.Path.{◌≡◌, refl, sym, ◌∙◌, ap, subst}
use mathlib.Core.Logic.{inl, inr}
use mathlib.Core.Bool.{Bool, true, false, cond, ◌&&◌}
use mathlib.Core.List.{List, [], ◌∷◌, ◌++◌}
use mathlib.Core.Option.{Option, none, some}
use Prim.Native.Nat.{ℕ, suc, ◌+◌, ◌-◌, ◌^◌, ◌<◌, ◌≤◌}
use native.Mathlib.Omega.{arith}
use lib.Dec.{eqb, ltb}
use lib.ListN.{length, get_or}
use borrow.Author.Tests.{eqb-true, eqb-false}
use Rattle.numbers.specs.Sizes.{objects, longest_message}
use Rattle.mask.specs.Mask.{contains}
use Rattle.wire.specs.Decode.{kind_of, to_of, owner_of, serial_of, check_of}
use Rattle.image.proofs.Each.{lt_or_le}
use Rattle.replica.specs.Steps.{Answer, silent, says}
use Rattle.replica.specs.Receive.{deliver}
use Rattle.replica.proofs.Delivered.{either_way}
use Rattle.coordinator.specs.declared.Coordinator.{Coordinator}
use Rattle.coordinator.specs.Step.{Step}
use Rattle.coordinator.specs.State.{open_phase, voting_phase, idle_after, step_of, ready}
use Rattle.coordinator.specs.Calls.{open_refusals, open_of, set_refusals, set_of}
use Rattle.arrivals.specs.Receive.{for_replica, receive_of}
use Rattle.coordinator.proofs.Refusals.{clear}
use Rattle.clauses_arrive.proofs.Messages.{vote_owner}
use Rattle.clauses_arrive.proofs.Deliveries.{copied_object, receive_cases}
use Rattle.replay.specs.Digest.{Digest, blank_digest, largest}
use Rattle.replay.specs.Layout.{size}
use Rattle.replay.specs.Sheet.{blank_after, value_of}
use Rattle.replay.proofs.Laws.{Reads, owner_below, blank_law, begun_law, opened_law, valued_law, put_law, committed_law, value_reads}
use Rattle.steps.specs.Station.{Station, system}
use Rattle.steps.specs.Step.{Call, begin, open_read, open_write, set_value, found, reselect, request_commit, abort, send, delivery, drop, switch, step}
use Rattle.steps.specs.Step.{Outcome}
use Rattle.steps.specs.Step.{refused_with, taken, when_off, hosted, full, answered, at_replica, at_coordinator, arriving, delivery_of}
use Rattle.steps.specs.Run.{event_of, trace}
use Rattle.protocol.specs.Table.{pick, In, times}
use Rattle.protocol.specs.Rules.{unused, read, write}
use Rattle.protocol.specs.State.{Tx, Tx-discrete, tx_path, committed}
use Rattle.protocol.specs.Replay.{replay}
use Rattle.protocol.specs.Proof.Tables.{clash}
use Rattle.protocol.proofs.Tables.{on}
use Rattle.history.specs.Ledger.{Ledger, ledger_from, tx_of, root_yes, first_only, log_put, pool_put, noted, note, current, turn, last_value}
use Rattle.history.specs.Origin.{Origin, ledger_of, Rested, blank_origin}
use Rattle.history.specs.Claims.{Typed, AllTyped, reached, told}
use Rattle.history.specs.Running.{put_in, telling, keeping, kept_from, digest_keeper, digest, sheet_keeper, sheet}
use Rattle.history.proofs.Sim.{tx}
use Rattle.history.proofs.Books.{Past, World}
use Rattle.history.proofs.Tests.{not-false}
use Rattle.steps.proofs.Nodes.{off_number_lem}
use Rattle.history.proofs.Theorem.{Good, good_next}
use Rattle.history.proofs.Claimed.{is_logged_once, always_good}
use Rattle.history.proofs.Ranks.{is_in, thin_among}
use Rattle.history.proofs.Tracked.{Passed, Tracks, blank_tracks, idle_tracks, begun_tracks, opened_tracks, valued_tracks, committed_tracks, put_tracks}

-- ---- what a good history has of the log
module _ (st : Station) (L : Ledger) (F : Past) (g : Good st L F) where
  abbrev w : World st L F
  w = g.world

  -- a transaction of the log was asked votes for, so its owner began it
  pub logged_by_now : (x : Tx) → In x L.log → x.serial ≤ L.serials x.owner
  logged_by_now x i =
      let v = w.sim.kept.log.l_voted x (subst (In x) w.books.log_as i) in
      let s = (w.books.present x.owner).serial_as in
      on (lt_or_le (st.records x.owner).serial x.serial)
      (λ h. absurd (w.sim.kept.inv.votes.v_asked 0 x v ((w.sim.owners x.owner).later x.serial h)))
      (λ h. omega (arith, s, h))

  pub committed_logged : (x : Tx) → In x L.committed → In x L.log
  committed_logged x i = is_in x L.log (λ e. let z = is_logged_once st L F g x i in let n : ⊥ = omega (arith, z, e) in n)

  -- an owner's present transaction is not committed while it is open or voting
  module _ (n : ℕ) where
    at_present : In (current L n) L.committed → w.state.history.phase (tx n (st.records n).serial) ≡ committed
    at_present i = subst (λ (s : ℕ). w.state.history.phase (tx n s) ≡ committed) (w.books.present n).serial_as
        (w.books.decided.told_so (current L n) i)

    pub open_undecided : (st.records n).phase ≡ open_phase → In (current L n) L.committed → ⊥
    open_undecided e i = let p = at_present i in let q = (w.sim.owners n).while_open e in clash (cc)

    pub voting_undecided : (st.records n).phase ≡ voting_phase → In (current L n) L.committed → ⊥
    voting_undecided e i = let p = at_present i in let q = (w.sim.owners n).while_voting e in clash (cc)

-- ---- an accepted call found its transaction open
hosted_number : (st : Station) (n : ℕ) (s : Step) → (hosted st n s).number ≡ 0 → s.number ≡ 0
unfolding hosted
hosted_number st n s e = by (contains st.own.on n) (eqb s.number 0) refl e
  where
    by : (up b : Bool) → eqb s.number 0 ≡ b
        → (cond {A = Outcome} up (cond b (taken s.answer (Rattle.steps.specs.Station.with_record st n s.coordinator)) (refused_with s.number st))
        (refused_with (when_off s.number) st)).number ≡ 0 → s.number ≡ 0
    by true true p q = eqb-true s.number 0 p
    by true false p q = q
    by false b p q = absurd (off_number_lem s.number q)

step_number : (number answer : ℕ) (c c' : Coordinator) → (step_of number answer c c').number ≡ 0 → number ≡ 0
unfolding step_of
step_number number answer c c' e = by (eqb number 0) refl e
  where
    by : (b : Bool) → eqb number 0 ≡ b
        → (cond {A = Step} b (record { number = 0; answer = answer; coordinator = c' }) (record { number = number; answer = 0; coordinator = c })).number ≡ 0
        → number ≡ 0
    by true p q = eqb-true number 0 p
    by false p q = q

opened_open : (st : Station) (n t mode : ℕ) → (hosted st n (open_of (st.records n) n t mode)).number ≡ 0 → (st.records n).phase ≡ open_phase
unfolding open_of open_refusals
opened_open st n t mode e =
    let c = st.records n in
    let k = clear (open_refusals c n t) tt (step_number _ _ _ _ (hosted_number st n _ e)) in
    eqb-true c.phase open_phase (not-false _ k.1.0)

set_open : (st : Station) (n t v : ℕ) → (hosted st n (set_of (st.records n) n t v)).number ≡ 0 → (st.records n).phase ≡ open_phase
unfolding set_of set_refusals
set_open st n t v e =
    let c = st.records n in
    let k = clear (set_refusals c n t) tt (step_number _ _ _ _ (hosted_number st n _ e)) in
    eqb-true c.phase open_phase (not-false _ k.1.0)

-- ---- a delivery that answers 'committed' is of its owner's present transaction, which was voting
module _ (st : Station) (k : ℕ) (kept : Bool) where
  abbrev b : List ℕ
  b = get_or st.pool k []

  abbrev Voted : ℕ → Type 0
  Voted n = (check_of b ≡ 0) × ((st.records n).phase ≡ voting_phase) × (serial_of b ≡ (st.records n).serial)

  abbrev Told : Outcome → Type 0
  Told r = r.answer ≡ 1 → Voted (owner_of b)

  -- most answer 0
  mute : ◌≡◌ {A = ℕ} 0 1 → Voted (owner_of b)
  mute e = absurd (clash e)

  at_coordinator_lem : (n : ℕ) → Told (at_coordinator st k kept n b)
  unfolding at_coordinator
  at_coordinator_lem n = either_way Told (eqb (receive_of (system st) (st.records n) n b).number 0) _ _ received mute
    where
      not_ready_lem : (r : Bool) → cond {A = ℕ} r 3 0 ≡ 1 → ⊥
      not_ready_lem true e = let z : ⊥ = omega (arith, e) in z
      not_ready_lem false e = clash e

      received : (receive_of (system st) (st.records n) n b).answer ≡ 1 → Voted (owner_of b)
      received = receive_cases (λ (s : Step). s.answer ≡ 1 → Voted (owner_of b)) (system st) (st.records n) n b
          (record {
            as_before = λ number e. absurd (clash e);
            copied = λ f e. absurd (not_ready_lem (ready (system st) (copied_object (st.records n) b)) e);
            endings = λ r. record {
              gone = λ u q e. absurd (let z : ⊥ = omega (arith, e) in z);
              aborting = λ u q e. absurd (let z : ⊥ = omega (arith, e) in z);
            };
            last_yes = λ f t e. let a = f.answer in
                subst Voted (sym (vote_owner n b a.taken a.its_kind)) (a.taken.checked, a.in_phase, a.its_serial);
            one_yes = λ f t e. absurd (clash e);
            last_done = λ f t e. absurd (let z : ⊥ = omega (arith, e) in z);
            one_done = λ f t e. absurd (clash e);
          })

  answered_told : (n : ℕ) (l : List ℕ) (a : Answer) → Told (answered st k kept n l a)
  unfolding answered
  answered_told n l silent = mute
  answered_told n l (says m) = either_way Told (kept && full st) _ _ mute mute

  at_replica_lem : (n : ℕ) → Told (at_replica st k kept n b)
  unfolding at_replica
  at_replica_lem n = either_way Told (eqb (deliver longest_message (st.images n) n b).number 0) _ _ (answered_told n _ _) mute

  pub commit_of : Told (delivery_of st k kept)
  unfolding delivery_of arriving
  commit_of = either_way Told (ltb k (length st.pool)) _ _
      (either_way Told (eqb (check_of b) 0) _ _
      (either_way Told (contains st.own.on (to_of b)) _ _
      (either_way Told (for_replica (kind_of b)) _ _ (at_replica_lem (to_of b)) (at_coordinator_lem (to_of b)))
      mute)
      mute)
      mute

-- the same of the message that the events tell
commit_told : (st : Station) (L : Ledger) (F : Past) → Good st L F → (j : ℕ) (kept : Bool) → (delivery_of st j kept).answer ≡ 1
    → (check_of (get_or L.pool j []) ≡ 0) × ((st.records (owner_of (get_or L.pool j []))).phase ≡ voting_phase)
    × (serial_of (get_or L.pool j []) ≡ L.serials (owner_of (get_or L.pool j [])))
commit_told st L F g j kept e =
    let same = ap (λ (l : List (List ℕ)). get_or l j []) g.world.books.pool_as in
    let v = subst (λ (b : List ℕ). (check_of b ≡ 0) × ((st.records (owner_of b)).phase ≡ voting_phase) × (serial_of b ≡ (st.records (owner_of b)).serial))
    (sym same) (commit_of st j kept e) in
    (v.0, v.1, v.2 ∙ sym (g.world.books.present (owner_of (get_or L.pool j []))).serial_as)

-- ---- what the message that a step put tells
in_last : (b : List ℕ) (l : List (List ℕ)) → In b (l ++ (b ∷ []))
in_last b [] = inl refl
in_last b (x ∷ l) = inr (in_last b l)

module _ (st : Station) (L : Ledger) (F : Past) (g : Good st L F) (log : List Tx) (puts : List (List ℕ)) (b : List ℕ) (puts-as : L.puts ≡ (puts ++ (b ∷ [])))
    (log_as : L.log ≡ log_put (some b) log) where
  put_well : check_of b ≡ 0
  put_well = (g.world.books.puts_true b (subst (In b) (sym puts-as) (in_last b puts))).well

  yes_logged : root_yes b ≡ true → In (tx_of b) L.log
  yes_logged e = subst (In (tx_of b)) (sym (log_as ∙ ap (λ (w : Bool). cond w (first_only (tx_of b) log) log) e))
      (by (eqb (times Tx-discrete (tx_of b) log) 0) refl)
    where
      by : (w : Bool) → eqb (times Tx-discrete (tx_of b) log) 0 ≡ w → In (tx_of b) (cond w (tx_of b ∷ log) log)
      by true q = inl refl
      by false q = is_in (tx_of b) log (eqb-false (times Tx-discrete (tx_of b) log) 0 q)

-- ---- one more step
abbrev Kept : ℕ → Ledger → Digest → Type 0
Kept k L d = Tracks k L.log L.serials L.committed L.mode L.new d

module _ (st : Station) (L : Ledger) (F : Past) (g : Good st L F) (k : ℕ) (d : Digest) (room : k < largest) (r : Kept k L d) where
  -- a message put, whatever the pool
  put_kept : (st' : Station) (L' : Ledger) (F' : Past) → Good st' L' F' → (p : Option (List ℕ)) → L'.puts ≡ pool_put p L.puts → L'.log ≡ log_put p L.log
      → L'.serials ≡ L.serials → Tracks (suc k) (log_put p L.log) L.serials L.committed L.mode L.new (put_in digest_keeper d p)
  put_kept st' L' F' g' none a b c = idle_tracks _ _ _ _ _ _ _ r
  put_kept st' L' F' g' (some b) puts-as log_as serials-as = put_tracks _ _ _ _ _ _ _ r b (put_well st' L' F' g' L.log L.puts b puts-as log_as) room
      (committed_logged st L F g)
      (λ e. subst (λ (s : ℕ → ℕ). serial_of b ≤ s (owner_of b)) serials-as
      (logged_by_now st' L' F' g' (tx_of b) (yes_logged st' L' F' g' L.log L.puts b puts-as log_as e)))

  -- an owner began
  begun_kept : (n : ℕ) → Tracks (suc k) L.log (Rattle.protocol.specs.Table.put native.Mathlib.Decide.ℕ_discrete L.serials n (L.serials n + 1))
      L.committed L.mode L.new (Rattle.replay.specs.Digest.begun d n)
  begun_kept n =
      let p = g.world.books.present n in
      let s = p.serial_as in
      let small = (g.wide.fits n).widths.serial_32 in
      idle_tracks _ _ _ _ _ _ _
      (begun_tracks _ _ _ _ _ _ _ r n (omega (arith, s, small))
      (λ i. let h = logged_by_now st L F g (tx n (L.serials n + 1)) i in let z : ⊥ = omega (arith, h) in z)
      (λ t. p.no_mode (L.serials n + 1) t (omega (arith, s))) (λ t. p.no_new (L.serials n + 1) t (omega (arith, s))))

  -- a delivery: what it put, and what it brought about
  module _ (j : ℕ) (kept : Bool) (ok : (delivery_of st j kept).number ≡ 0) where
    abbrev o : Outcome
    o = delivery_of st j kept

    abbrev m : List ℕ
    m = get_or L.pool j []

    delivered_kept : (answer : ℕ) → o.answer ≡ answer → (L' : Ledger) (F' : Past) → Good o.station L' F'
        → L' ≡ noted L (delivery j kept) answer o.put
        → Kept (suc k) (noted L (delivery j kept) answer o.put) (telling digest_keeper L d (delivery j kept) answer o.put)
    unfolding noted telling
    delivered_kept answer is L' F' g' e =
        by (eqb answer 1) refl
      where
        p : Tracks (suc k) (log_put o.put L.log) L.serials L.committed L.mode L.new (put_in digest_keeper d o.put)
        p = put_kept o.station L' F' g' o.put (ap (λ (z : Ledger). z.puts) e) (ap (λ (z : Ledger). z.log) e) (ap (λ (z : Ledger). z.serials) e)

        by : (w : Bool) → eqb answer 1 ≡ w
            → Tracks (suc k) (log_put o.put L.log) L.serials (cond w (tx_of m ∷ L.committed) L.committed) L.mode L.new
            (cond w (Rattle.replay.specs.Digest.committed (put_in digest_keeper d o.put) (owner_of m)) (put_in digest_keeper d o.put))
        by false q = p
        by true q =
            let v = commit_told st L F g j kept (is ∙ eqb-true answer 1 q) in
            let named : tx_of m ≡ current L (owner_of m) = tx_path (tx_of m) (current L (owner_of m)) refl v.2 in
            let in_log : In (tx_of m) (log_put o.put L.log) = subst (In (tx_of m)) (ap (λ (z : Ledger). z.log) e)
            (committed_logged o.station L' F' g' (tx_of m)
            (subst (In (tx_of m))
            (sym (ap (λ (z : Ledger). z.committed) e ∙ ap (λ (w : Bool). cond w (tx_of m ∷ L.committed) L.committed) q)) (inl refl))) in
            subst (λ (x : Tx). Tracks (suc k) (log_put o.put L.log) L.serials (x ∷ L.committed) L.mode L.new
            (Rattle.replay.specs.Digest.committed (put_in digest_keeper d o.put) (owner_of m))) (sym named)
            (committed_tracks _ _ _ _ _ _ _ p (owner_of m) (subst (λ (x : Tx). In x (log_put o.put L.log)) named in_log)
            (voting_undecided st L F g (owner_of m) v.1))

  -- an accepted step
  accepted : (c : Call) → (step st c).number ≡ 0 → (L' : Ledger) (F' : Past) → Good (step st c).station L' F'
      → L' ≡ noted L c (step st c).answer (step st c).put
      → Kept (suc k) (noted L c (step st c).answer (step st c).put) (telling digest_keeper L d c (step st c).answer (step st c).put)
  unfolding step noted telling
  accepted (begin n a) ok L' F' g' e = begun_kept n
  accepted (open_read n t) ok L' F' g' e =
      idle_tracks _ _ _ _ _ _ _ (opened_tracks _ _ _ _ _ _ _ r n (open_undecided st L F g n (opened_open st n t 0 ok)) t read 0 refl)
  accepted (open_write n t) ok L' F' g' e =
      idle_tracks _ _ _ _ _ _ _ (opened_tracks _ _ _ _ _ _ _ r n (open_undecided st L F g n (opened_open st n t 1 ok)) t write 1 refl)
  accepted (set_value n t v) ok L' F' g' e =
      idle_tracks _ _ _ _ _ _ _ (valued_tracks _ _ _ _ _ _ _ r n (open_undecided st L F g n (set_open st n t v ok)) t v)
  accepted (found n t) ok L' F' g' e = idle_tracks _ _ _ _ _ _ _ r
  accepted (reselect n live distances) ok L' F' g' e = idle_tracks _ _ _ _ _ _ _ r
  accepted (request_commit n) ok L' F' g' e = idle_tracks _ _ _ _ _ _ _ r
  accepted (abort n) ok L' F' g' e = idle_tracks _ _ _ _ _ _ _ r
  accepted (send n to t) ok L' F' g' e = put_kept _ L' F' g' (step st (send n to t)).put
      (ap (λ (z : Ledger). z.puts) e) (ap (λ (z : Ledger). z.log) e) (ap (λ (z : Ledger). z.serials) e)
  accepted (delivery j kept) ok L' F' g' e = delivered_kept j kept ok (delivery_of st j kept).answer refl L' F' g' e
  accepted (drop j) ok L' F' g' e = put_kept _ L' F' g' (step st (drop j)).put
      (ap (λ (z : Ledger). z.puts) e) (ap (λ (z : Ledger). z.log) e) (ap (λ (z : Ledger). z.serials) e)
  accepted (switch n up) ok L' F' g' e = idle_tracks _ _ _ _ _ _ _ r

  next_kept : (c : Call) → Typed c → Kept (suc k) (note L (event_of c (step st c))) (keeping digest_keeper L d (event_of c (step st c)))
  unfolding note keeping
  next_kept c t = by (eqb (step st c).number 0) refl
    where
      by : (w : Bool) → eqb (step st c).number 0 ≡ w
          → Kept (suc k) (cond w (noted L c (step st c).answer (step st c).put) L)
          (cond w (telling digest_keeper L d c (step st c).answer (step st c).put) d)
      by true e = accepted c (eqb-true (step st c).number 0 e) (note L (event_of c (step st c))) _ (good_next st L F g c t)
          (ap (λ (w : Bool). cond w (noted L c (step st c).answer (step st c).put) L) e)
      by false e = idle_tracks _ _ _ _ _ _ _ r

-- ---- a sheet reads as the digest
module _ (st : Station) (L : Ledger) (F : Past) (g : Good st L F) (l : List ℕ) (d : Digest) (r : Reads l d) where
  put_reads : (p : Option (List ℕ)) → Reads (put_in sheet_keeper l p) (put_in digest_keeper d p)
  put_reads none = r
  put_reads (some b) = put_law l d r b

  telling_reads : (c : Call)
      → Reads (telling sheet_keeper L l c (step st c).answer (step st c).put) (telling digest_keeper L d c (step st c).answer (step st c).put)
  unfolding telling step
  telling_reads (begin n a) = begun_law l d r n
  telling_reads (open_read n t) = opened_law l d r n t 0
  telling_reads (open_write n t) = opened_law l d r n t 1
  telling_reads (set_value n t v) = valued_law l d r n t v
  telling_reads (found n t) = r
  telling_reads (reselect n live distances) = r
  telling_reads (request_commit n) = r
  telling_reads (abort n) = r
  telling_reads (send n to t) = put_reads (step st (send n to t)).put
  telling_reads (delivery j kept) = by (eqb (delivery_of st j kept).answer 1) refl
    where
      p : Option (List ℕ)
      p = (delivery_of st j kept).put

      o : ℕ
      o = owner_of (get_or L.pool j [])

      by : (w : Bool) → eqb (delivery_of st j kept).answer 1 ≡ w
          → Reads (cond w (sheet_keeper.committed (put_in sheet_keeper l p) o) (put_in sheet_keeper l p))
          (cond w (digest_keeper.committed (put_in digest_keeper d p) o) (put_in digest_keeper d p))
      by true e = committed_law (put_in sheet_keeper l p) (put_in digest_keeper d p) (put_reads p) o
          (owner_below (get_or L.pool j []) (commit_told st L F g j kept (eqb-true (delivery_of st j kept).answer 1 e)).0)
      by false e = put_reads p
  telling_reads (drop j) = put_reads (step st (drop j)).put
  telling_reads (switch n up) = r

  next_reads : (c : Call) → Reads (keeping sheet_keeper L l (event_of c (step st c))) (keeping digest_keeper L d (event_of c (step st c)))
  unfolding keeping
  next_reads c = by (eqb (step st c).number 0)
    where
      by : (w : Bool) → Reads (cond w (telling sheet_keeper L l c (step st c).answer (step st c).put) l)
          (cond w (telling digest_keeper L d c (step st c).answer (step st c).put) d)
      by true = telling_reads c
      by false = r

-- ---- every list of steps from an origin
-- a slice that knows what the origin carries, with at most k places given: it reads a digest that does
pub record Starts (o : Origin) (k : ℕ) (l : List ℕ) : Type 0 where
  pub from_digest : Digest
  pub tracks : Kept k (ledger_of o) from_digest
  pub reads : Reads l from_digest

-- a blank one knows what the blank station carries
pub blank_starts : (on : ℕ) (l : List ℕ) → length l ≡ size → Starts (blank_origin on) 0 (blank_after l)
unfolding pick idle_after
blank_starts on l e = record { from_digest = blank_digest; tracks = blank_tracks (λ x t. unused) (λ x t. refl); reads = blank_law l e }

module _ (o : Origin) (r : Rested o) (k : ℕ) (l : List ℕ) (s : Starts o k l) where
  abbrev kept : List Call → Digest
  kept cs = digest (ledger_of o) s.from_digest (trace o.station cs)

  abbrev leaf : List Call → List ℕ
  leaf cs = sheet (ledger_of o) l (trace o.station cs)

  always_kept : (cs : List Call) → AllTyped cs → length cs + k ≤ largest → Kept (length cs + k) (told o cs) (kept cs)
  unfolding ledger_from kept_from
  always_kept [] a h = subst (λ (j : ℕ). Kept j (ledger_of o) s.from_digest) (omega arith) s.tracks
  always_kept (c ∷ cs) a h = subst (λ (j : ℕ). Kept j (told o (c ∷ cs)) (kept (c ∷ cs))) (omega arith)
      (next_kept (reached o cs) (told o cs) _ (always_good o r cs a.1) (length cs + k) (kept cs) (omega arith)
      (always_kept cs a.1 (omega arith)) c a.0)

  -- THE THEOREM: the digest's last values are replay's ..
  pub digest_is_replay : (cs : List Call) → AllTyped cs → length cs + k < 2 ^ 64 - 1 → (t : ℕ) → (kept cs).last_value t ≡ last_value (told o cs) t
  unfolding last_value
  digest_is_replay cs a h t =
      let L = told o cs in
      let q = always_kept cs a (omega arith) in
      q.last_value_as t ∙ ap (λ (m : List Tx). replay 0 (turn L) m t)
      (sym (thin_among (Passed L.serials L.committed) L.committed (λ y z. z.1) L.log q.given q.thin))

  pub always_reads : (cs : List Call) → AllTyped cs → Reads (leaf cs) (kept cs)
  unfolding ledger_from kept_from
  always_reads [] a = s.reads
  always_reads (c ∷ cs) a =
      next_reads (reached o cs) (told o cs) _ (always_good o r cs a.1) (leaf cs) (kept cs) (always_reads cs a.1) c

  -- .. and so are those that crate replay's functions leave in any slice of their length and `value` reads from it
  pub sheet_is_replay : (cs : List Call) → AllTyped cs → length cs + k < 2 ^ 64 - 1 → (t : ℕ) → t < objects
      → value_of (leaf cs) t ≡ last_value (told o cs) t
  sheet_is_replay cs a h t u = value_reads (leaf cs) (kept cs) (always_reads cs a) t u ∙ digest_is_replay cs a h t
