-- What a good history and state has: the claims of demand 3, carried over from the abstract state. Then the theorem over every list of steps.
use mathlib.Core.Path.{◌≡◌, refl, sym, ◌∙◌, ap, subst}
use mathlib.Core.Logic.{◌≢◌, ◌⊎◌, inl, inr}
use mathlib.Core.Bool.{Bool, true, false, cond}
use mathlib.Core.List.{List, [], ◌∷◌}
use Prim.Native.Nat.{ℕ, ◌<◌, ◌≤◌}
use native.Mathlib.Omega.{arith}
use lib.Dec.{eqb}
use borrow.Author.Tests.{eqb-true, eqb-false, ltb-true, eq-eqb}
use Rattle.numbers.specs.Sizes.{nodes, objects, most_open}
use Rattle.mask.specs.Mask.{contains}
use Rattle.numbers.specs.Refusal.{first_of}
use Rattle.wire.specs.declared.Entry.{Entry}
use Rattle.wire.specs.Message.{ask, outcome}
use Rattle.wire.specs.Decode.{kind_of, decode}
use Rattle.wire.specs.Items.{word_of}
use Rattle.image.specs.Layout.{shape, value, version, version_field}
use Rattle.image.proofs.Blanks.{blank_zero}
use Rattle.image.proofs.Each.{lt_or_le}
use Rattle.coordinator.specs.declared.Coordinator.{Coordinator}
use Rattle.coordinator.specs.Step.{Step}
use Rattle.coordinator.specs.State.{idle_phase, place_of, object_at, is_open, ready, step_of}
use Rattle.coordinator.specs.Calls.{found_refusals, found_of}
use Rattle.coordinator.proofs.Refusals.{clear}
use Rattle.clauses.proofs.Places.{place_open}
use Rattle.steps.specs.Station.{Station, system, with_record}
use Rattle.steps.specs.Step.{Call, found, Outcome, refused_with, taken, hosted, when_off, step}
use Rattle.protocol.specs.Table.{In, Suffix, times, select}
use Rattle.protocol.specs.Rules.{unused, write}
use Rattle.protocol.specs.State.{Tx, Tx-discrete, committed, State}
use Rattle.protocol.specs.Replay.{replay, given, committed?}
use Rattle.protocol.specs.Claims.{AllApplied, MeetsAll, Claims}
use Rattle.protocol.specs.Log.{BaseClaims}
use Rattle.protocol.specs.Proof.Tables.{clash}
use Rattle.protocol.proofs.Tables.{on}
use Rattle.protocol.proofs.Lists.{select_ext, given_ext, replay_ext, in_select, suffix_tail}
use Rattle.protocol.proofs.Core.{claims, committed_good}
use Rattle.protocol.proofs.Log.{base_claims}
use Rattle.protocol.proofs.Refine.Messages.{done_applied}
use Rattle.history.specs.Ledger.{Ledger, ledger_from, tx_of, in?, fed, current, turn, given_to, last_value}
use Rattle.history.specs.Ballots.{ballots_from}
use Rattle.history.specs.Origin.{Origin, ledger_of, Rested, blank_origin}
use Rattle.history.specs.Claims.{AllTyped, Shows, Finds, Carries, Settled, Newest, Ripe, reached, told, votes, event, account}
use Rattle.history.specs.Claims.{Sourced, Commits, Ripens, Demand3}
use Rattle.history.proofs.Quorums.{quorums, rules, top, of_mask}
use Rattle.history.proofs.Sim.{Match}
use Rattle.history.proofs.Books.{Decided, Past, More, World}
use Rattle.history.proofs.Tests.{not-false}
use Rattle.steps.proofs.Nodes.{off_number_lem}
use Rattle.history.proofs.Theorem.{Good, good_next, good_past}
use Rattle.history.proofs.Polls.{Counts, counts_next}
use Rattle.history.proofs.Origins.{Had, rested_good, rested_counts, blank_rested}
use Rattle.history.proofs.Meaning.{note_told, ripe_told, says_ripens, ripens_says}

module _ (st : Station) (L : Ledger) (F : Past) (g : Good st L F) where
  abbrev w : World st L F
  w = g.world

  abbrev σ : State ℕ
  σ = w.state

  abbrev d : Decided L σ.history
  d = w.books.decided

  base : BaseClaims (rules w.sane) σ w.log
  base = base_claims (rules w.sane) (top w.sane) σ w.sim.kept.inv w.log w.sim.kept.log

  core : Claims (rules w.sane) σ
  core = claims (rules w.sane) σ w.sim.kept.inv

  -- what replay is fed is the same
  pub fed_as : fed L ≡ Rattle.protocol.specs.Log.fed σ w.log
  fed_as = ap (select (λ x. in? x L.committed)) w.books.log_as
      ∙ select_ext (λ x. in? x L.committed) (committed? σ.history) w.log (λ x i. (d.told_so x, d.is_told x))

  fed_committed : (x : Tx) → In x (Rattle.protocol.specs.Log.fed σ w.log) → σ.history.phase x ≡ committed
  fed_committed x i = (in_select (committed? σ.history) w.log x i).1

  -- and so is each turn
  turn_as : (x : Tx) → σ.history.phase x ≡ committed → (t a : ℕ) → turn L x t a ≡ Rattle.protocol.specs.Replay.turn σ.history.contents x t a
  turn_as x p t a = rw (d.its_mode x p t, d.its_new x p t)

  given_as : (x : Tx) (t : ℕ) → given_to L x t ≡ Rattle.protocol.specs.Replay.given_to (rules w.sane) σ.history.contents x
      (Rattle.protocol.specs.Log.fed σ w.log) t
  unfolding given_to
  given_as x t = ap (λ (l : List Tx). given Tx-discrete 0 (turn L) x l t) fed_as
      ∙ given_ext Tx-discrete 0 (Rattle.protocol.specs.Replay.turn σ.history.contents) (turn L) x (Rattle.protocol.specs.Log.fed σ w.log) t
      (λ y i a. turn_as y (fed_committed y i) t a)

  last_as : (t : ℕ) → last_value L t ≡ Rattle.protocol.specs.Replay.last_value (rules w.sane) σ.history.contents
      (Rattle.protocol.specs.Log.fed σ w.log) t
  unfolding last_value
  last_as t = ap (λ (l : List Tx). replay 0 (turn L) l t) fed_as
      ∙ replay_ext 0 (Rattle.protocol.specs.Replay.turn σ.history.contents) (turn L) (Rattle.protocol.specs.Log.fed σ w.log) t
      (λ y i a. turn_as y (fed_committed y i) t a)

  -- ---- (0)
  pub is_logged_once : (x : Tx) → In x L.committed → times Tx-discrete x L.log ≡ 1
  is_logged_once x i = ap (times Tx-discrete x) w.books.log_as ∙ base.logged_once x (d.told_so x i)

  pub is_fed_once : (x : Tx) → In x L.committed → times Tx-discrete x (fed L) ≡ 1
  is_fed_once x i = ap (times Tx-discrete x) fed_as ∙ base.fed_once x (d.told_so x i)

  -- what was asked votes for is what the events tell
  carried_as : (x : Tx) (es : List Entry) → σ.history.phase x ≡ committed → Match (σ.history.contents x) es → Carries L L.new x es
  carried_as x es p m = record {
    each_object = λ t q. m.lists t (λ e. q (d.its_mode x p t ∙ e));
    each_mode = λ e i. d.its_mode x p e.object ∙ m.mode_as e i;
    each_value = λ e i u. d.its_new x p e.object ∙ m.new_as e i (sym (d.its_mode x p e.object) ∙ u);
  }

  pub entries_are : (x : Tx) (b : List ℕ) → In x L.committed → In b L.puts → tx_of b ≡ x → (kind_of b ≡ ask) ⊎ ((kind_of b ≡ outcome) × (word_of b ≡ 1))
      → Carries L L.new x (decode b).entries
  entries_are x b i j e k =
      let t = w.books.puts_true b j in
      let m : Match (σ.history.contents (tx_of b)) (decode b).entries = on k (λ q. (t.an_ask q).1) (λ q. (t.a_commit_lem q.0 q.1).1) in
      carried_as x (decode b).entries (d.told_so x i) (subst (λ (y : Tx). Match (σ.history.contents y) (decode b).entries) e m)

  pub only_committed : (b : List ℕ) → In b L.puts → kind_of b ≡ outcome → word_of b ≡ 1 → In (tx_of b) L.committed
  only_committed b j k u = d.is_told (tx_of b) ((w.books.puts_true b j).a_commit_lem k u).0

  -- ---- (a)
  pub is_serial : (x : Tx) (t v : ℕ) → In x L.committed → F x t v → v ≡ given_to L x t
  is_serial x t v i f =
      let p = d.told_so x i in
      let c = w.books.found.carried x t v f (inr p) in
      sym c.0 ∙ base.serial x t p c.1 ∙ sym (given_as x t)

  pub was_found : (x : Tx) (t : ℕ) → In x L.committed → L.mode x t ≢ unused → F x t (given_to L x t)
  was_found x t i q =
      let p = d.told_so x i in
      let touched : (σ.history.contents x).mode t ≢ unused = λ e. q (d.its_mode x p t ∙ e) in
      subst (F x t) (base.serial x t p touched ∙ sym (given_as x t)) (w.books.found.had x t (inr p) touched)

  -- ---- (b)
  source_as : (t v : ℕ) → (v ≡ 0) ⊎ ((y : Tx) × (σ.history.phase y ≡ committed) × ((σ.history.contents y).mode t ≡ write) ×
      (v ≡ (σ.history.contents y).new t))
      → Sourced L L.new t v
  source_as t v (inl e) = inl e
  source_as t v (inr z) = inr (z.0, d.is_told z.0 z.1, d.its_mode z.0 z.1 t ∙ z.2, z.3 ∙ sym (d.its_new z.0 z.1 t))

  pub is_sourced : (x : Tx) (t v : ℕ) → Finds st x t v → Sourced L L.new t v
  is_sourced x t v f =
      let c = st.records x.owner in
      let z = place_open c.objects c.count t (ltb-true (place_of c t) most_open f.opened) in
      on ((w.sim.owners x.owner).found (place_of c t))
      (λ q. inl (sym f.value ∙ q.1))
      (λ i. source_as t v (subst (λ (a : ℕ). (a ≡ 0) ⊎ ((y : Tx) × (σ.history.phase y ≡ committed) × ((σ.history.contents y).mode t ≡ write)
      × (a ≡ (σ.history.contents y).new t)))
      f.value (subst (λ (o : ℕ). ((object_at c t).value ≡ 0) ⊎ ((y : Tx) × (σ.history.phase y ≡ committed) × ((σ.history.contents y).mode o ≡ write)
      × ((object_at c t).value ≡ (σ.history.contents y).new o))) z.1.1 (core.sent _ i))))

  -- ---- (c)
  all_applied : Settled L → AllApplied σ.votes σ.history
  all_applied s x n p q =
      done_applied (rules w.sane) σ w.sim.kept.inv n x p q
      (w.books.dones x n (s x (d.is_told x p) n (d.its_party_lem x p n ∙ q)))

  -- a read quorum meets the participants of everything committed, and what is newest in it is so in the abstract state
  pub read_meets : (q : ℕ) → (system st).is_read q ≡ true → MeetsAll σ.history (contains q)
  read_meets q r x p = (quorums w.sane).meet (contains q) (σ.history.contents x).participants (of_mask (system st).is_read q r)
      (committed_good (rules w.sane) σ w.sim.kept.inv x p)

  pub newest_there : (q n t : ℕ) → Newest st q n t → Rattle.protocol.specs.Claims.Newest σ.store (contains q) n t
  newest_there q n t new m j = subst (λ (k : ℕ). k ≤ σ.store.version n t) (sym (w.sim.reads.r_version m t))
      (subst (λ (k : ℕ). version (st.images m) t ≤ k) (sym (w.sim.reads.r_version n t)) (below m j))
    where
      below : (m : ℕ) → contains q m ≡ true → version (st.images m) t ≤ version (st.images n) t
      below m j = on (lt_or_le m nodes) (λ h. new m h j)
          (λ h. subst (λ (k : ℕ). k ≤ version (st.images n) t)
          (sym (ap (λ (l : List ℕ). version l t) (g.wide.beyond m h) ∙ blank_zero (version_field shape) t tt tt tt tt)) (omega arith))

  -- where every participant has applied what was committed, every newest copy has the last value
  pub applied_newest : AllApplied σ.votes σ.history → (q : ℕ) → (system st).is_read q ≡ true → (n t : ℕ) → Newest st q n t
      → value (st.images n) t ≡ last_value L t
  applied_newest applied q r n t new = sym (w.sim.reads.r_value n t)
      ∙ core.newest applied (contains q) (read_meets q r) n t (newest_there q n t new) ∙ sym (base.last t) ∙ sym (last_as t)

  pub is_newest : Settled L → (q : ℕ) → (system st).is_read q ≡ true → (n t : ℕ) → n < nodes → contains q n ≡ true → t < objects → Newest st q n t
      → value (st.images n) t ≡ last_value L t
  is_newest s q r n t small i known new = applied_newest (all_applied s) q r n t new

-- ---- an accepted found call shows what is found
found_taken : (st : Station) (n t : ℕ) → (step st (found n t)).number ≡ 0
    → (first_of (found_refusals (system st) (st.records n) n t) ≡ 0) × ((step st (found n t)).answer ≡ (object_at (st.records n) t).value)
unfolding step hosted found_of step_of
found_taken st n t e = by (contains st.own.on n) (eqb number 0) refl e
  where
    c : Coordinator
    c = st.records n

    number : ℕ
    number = first_of (found_refusals (system st) c n t)

    s : Bool → Step
    s b = cond b (record { number = 0; answer = (object_at c t).value; coordinator = c }) (record { number = number; answer = 0; coordinator = c })

    out : Bool → Bool → Outcome
    out up b = cond up (cond (eqb (s b).number 0) (taken (s b).answer (with_record st n (s b).coordinator)) (refused_with (s b).number st))
        (refused_with (when_off (s b).number) st)

    by : (up b : Bool) → eqb number 0 ≡ b → (out up b).number ≡ 0 → (number ≡ 0) × ((out up b).answer ≡ (object_at c t).value)
    by true true p q = (eqb-true number 0 p, refl)
    by true false p q = absurd (refused_number (eqb number 0) p q)
      where
        refused_number : (x : Bool) → x ≡ false → (cond x (taken 0 (with_record st n c)) (refused_with number st)).number ≡ 0 → ⊥
        refused_number true e f = let z : true ≡ false = e in clash (cc)
        refused_number false e f = eqb-false number 0 p f
    by false true p q = absurd (off_number_lem 0 q)
    by false false p q = absurd (off_number_lem number q)

pub shown_by : (st : Station) (n t s : ℕ) → (st.records n).serial ≡ s → (step st (found n t)).number ≡ 0 → Shows (system st) (st.records n) s t
    (step st (found n t)).answer
unfolding found_refusals
shown_by st n t s e q =
    let c = st.records n in
    let z = found_taken st n t q in
    let k = clear (found_refusals (system st) c n t) tt z.0 in
    record {
      begun = λ i. absurd (let x = k.1.0 in let y = eq-eqb c.phase idle_phase i in clash (cc));
      present = e;
      opened = not-false (is_open c t) k.1.1.0;
      is_ready = not-false (ready (system st) (object_at c t)) k.1.1.1.0;
      value = sym z.1;
    }

-- ---- every list of steps from an origin
module _ (o : Origin) (r : Rested o) where
  -- found after some earlier list, or carried
  abbrev pub Earlier : List Call → Past
  Earlier cs x t v = Had o x t v ⊎ ((ds : List Call) × Suffix ds cs × Finds (reached o ds) x t v)

  only_carried : (x : Tx) (t v : ℕ) → Earlier [] x t v → Had o x t v
  only_carried x t v (inl h) = h
  only_carried x t v (inr z) = absurd (z.2.begun (ap (λ (cs : List Call). ((reached o cs).records x.owner).phase) z.1 ∙ r.idle x.owner))

  longer : (c : Call) (cs : List Call) (x : Tx) (t v : ℕ) → More (Earlier cs) (reached o (c ∷ cs)) x t v → Earlier (c ∷ cs) x t v
  longer c cs x t v (inl (inl h)) = inl h
  longer c cs x t v (inl (inr z)) = inr (z.0, inr z.1, z.2)
  longer c cs x t v (inr f) = inr (c ∷ cs, inl refl, f)

  shorter : (c : Call) (cs : List Call) (x : Tx) (t v : ℕ) → Earlier (c ∷ cs) x t v → More (Earlier cs) (reached o (c ∷ cs)) x t v
  shorter c cs x t v (inl h) = inl (inl h)
  shorter c cs x t v (inr z) =
      on z.1 (λ e. inr (subst (λ (ds : List Call). Finds (reached o ds) x t v) e z.2)) (λ s. inl (inr (z.0, s, z.2)))

  pub always_good : (cs : List Call) → AllTyped cs → Good (reached o cs) (told o cs) (Earlier cs)
  unfolding ledger_from
  always_good [] a = good_past o.station (ledger_of o) (Had o) (Earlier []) (λ x t v. inl) only_carried (rested_good o r)
  always_good (c ∷ cs) a =
      good_past (reached o (c ∷ cs)) (told o (c ∷ cs)) (More (Earlier cs) (reached o (c ∷ cs))) (Earlier (c ∷ cs)) (longer c cs) (shorter c cs)
      (good_next (reached o cs) (told o cs) (Earlier cs) (always_good cs a.1) c a.0)

  pub typed_suffix : (ds cs : List Call) → Suffix ds cs → AllTyped cs → AllTyped ds
  typed_suffix ds [] e a = subst AllTyped (sym e) tt
  typed_suffix ds (c ∷ cs) (inl e) a = subst AllTyped (sym e) a
  typed_suffix ds (c ∷ cs) (inr s) a = typed_suffix ds cs s a.1

  -- what the events tell of the votes goes with it
  pub always_counts : (cs : List Call) → AllTyped cs → Counts (reached o cs) (told o cs) (votes o cs)
  unfolding ledger_from ballots_from
  always_counts [] a = rested_counts o r
  always_counts (c ∷ cs) a =
      counts_next (reached o cs) (told o cs) (Earlier cs) (votes o cs) (always_good cs a.1) (always_counts cs a.1) c

  -- one more step, and the steps before it
  module _ (cs : List Call) (a : AllTyped cs) (c : Call) (ds : List Call) (s : Suffix (c ∷ ds) cs) (x : Tx) where
    now : AllTyped (c ∷ ds)
    now = typed_suffix (c ∷ ds) cs s a

    pub commits_ripen : Commits (account o) ds c x → Ripens (account o) ds c x
    unfolding ledger_from ballots_from
    commits_ripen = says_ripens (reached o ds) (told o ds) (Earlier ds) (votes o ds) (always_good ds now.1) (always_counts ds now.1) c
        (Earlier (c ∷ ds)) (always_good (c ∷ ds) now) (always_counts (c ∷ ds) now) x

    pub ripe_commits : Ripens (account o) ds c x → Commits (account o) ds c x
    unfolding ledger_from ballots_from
    ripe_commits = ripens_says (reached o ds) (told o ds) (Earlier ds) (votes o ds) (always_good ds now.1) (always_counts ds now.1) c
        (Earlier (c ∷ ds)) (always_good (c ∷ ds) now) (always_counts (c ∷ ds) now) x

  -- hence: what is ripe after a list was told committed, and what was told committed was ripe after some earlier list
  pub means_committed : (cs : List Call) → AllTyped cs → (x : Tx) → Ripe (told o cs) (votes o cs) x → In x (told o cs).committed
  means_committed cs a = ripe_told (reached o cs) (told o cs) (Earlier cs) (votes o cs) (always_good cs a) (always_counts cs a)

  pub committed_means : (cs : List Call) → AllTyped cs → (x : Tx) → In x (told o cs).committed
      → (ds : List Call) × Suffix ds cs × Ripe (told o ds) (votes o ds) x
  unfolding ledger_from ballots_from
  committed_means [] a x i = let f = (rested_counts o r).all_agreed x i in ([], refl, record { asked = f.is_asked; everyone = f.everyone; unspoilt = refl })
  committed_means (c ∷ cs) a x i = on (note_told (told o cs) x (event o cs c) i)
      (λ j. let z = committed_means cs a.1 x j in (z.0, inr z.1, z.2))
      (λ s. (c ∷ cs, inl refl, (commits_ripen (c ∷ cs) a c cs (inl refl) x s).1))

  -- what an accepted found call shows, is found
  shown_finds : (n t : ℕ) (ds : List Call) → AllTyped ds → (step (reached o ds) (found n t)).number ≡ 0
      → Finds (reached o ds) (current (told o ds) n) t (step (reached o ds) (found n t)).answer
  shown_finds n t ds a q = shown_by (reached o ds) n t ((told o ds).serials n) (sym ((always_good ds a).world.books.present n).serial_as) q

  -- THE THEOREM: for every list of steps, whichever nodes are on
  pub demand_3 : (cs : List Call) → AllTyped cs → Demand3 (account o) cs
  demand_3 cs a = let g = always_good cs a in record {
    committed_ripens = λ x c ds s. commits_ripen cs a c ds s x;
    ripens_committed = λ x c ds s. ripe_commits cs a c ds s x;
    logged_once = is_logged_once _ _ _ g;
    fed_once = is_fed_once _ _ _ g;
    entries_as = entries_are _ _ _ g;
    commits_only = only_committed _ _ _ g;
    was_ready = λ x t i n q. on (was_found _ _ _ g x t i q) (λ h. absurd (n h.0)) (λ z. z);
    serial = λ x t v ds i s f. is_serial _ _ _ g x t v i (inr (ds, s, f));
    shown = λ x n t ds i s e q.
        let u = suffix_tail (found n t) ds cs s in
        is_serial _ _ _ g x t _ i (inr (
          ds,
          u,
          subst (λ (y : Tx). Finds (reached o ds) y t (step (reached o ds) (found n t)).answer) e (shown_finds n t ds (typed_suffix ds cs u a) q),
        ));
    sourced = λ x t v ds s. is_sourced _ _ _ (always_good ds (typed_suffix ds cs s a)) x t v;
    shown_sourced = λ n t ds s q.
        let b = typed_suffix ds cs (suffix_tail (found n t) ds cs s) a in
        is_sourced _ _ _ (always_good ds b) (current (told o ds) n) t _ (shown_finds n t ds b q);
    newest = is_newest _ _ _ g;
  }

-- from a blank station, whichever nodes are on
pub from_blank : (on : ℕ) (cs : List Call) → AllTyped cs → Demand3 (account (blank_origin on)) cs
from_blank on = demand_3 (blank_origin on) (blank_rested on)
