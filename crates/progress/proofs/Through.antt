-- Request 2.8: the oldest gets through. Right after the request for votes the transaction waits (Stages): no vote of it was sent, and at each participant
-- it is not here yet or listed. Every step that spares it keeps its stage. A record that votes lacks a vote, one that finishes a done; so once all of
-- them came it is committed, and then ended.
use mathlib.Core.Path.{◌≡◌, refl, sym, ◌∙◌, ap, subst}
use mathlib.Core.Logic.{inl, inr}
use mathlib.Core.Bool.{Bool, true}
use mathlib.Core.List.{List, [], ◌∷◌, ◌++◌}
use Prim.Native.Nat.{ℕ, zero, suc, ◌<◌, ◌≤◌}
use native.Mathlib.Omega.{arith}
use lib.Dec.{T, eqb}
use borrow.Author.Tests.{eqb-true}
use Rattle.numbers.specs.Sizes.{nodes, every_node}
use Rattle.mask.specs.Mask.{contains, joined, within}
use Rattle.mask.proofs.Laws.{contains_within}
use Rattle.mask.proofs.Tests.{T_true, compared}
use Rattle.quorum.specs.Nearest.{mask_of}
use Rattle.octets.proofs.Laws.{Bytes}
use Rattle.wire.specs.Message.{vote, done}
use Rattle.wire.specs.Decode.{kind_of, check_of}
use Rattle.wire.specs.Items.{word_of}
use Rattle.image.specs.Layout.{serial}
use Rattle.coordinator.specs.declared.Coordinator.{Coordinator}
use Rattle.coordinator.specs.State.{open_phase, voting_phase}
use Rattle.coordinator.specs.Calls.{request_commit_refusals, requested, request_commit_of}
use Rattle.clauses.proofs.Parts.{true-T}
use Rattle.clauses.proofs.Sets.{node_known}
use Rattle.clauses.proofs.Facts.{Meets}
use Rattle.steps.specs.Station.{Station, system, put_at}
use Rattle.steps.specs.Step.{Call, request_commit, Outcome, step}
use Rattle.protocol.specs.Table.{In}
use Rattle.protocol.specs.State.{Tx}
use Rattle.protocol.proofs.Tables.{on}
use Rattle.history.specs.Ledger.{tx_of, ledger_from}
use Rattle.history.specs.Origin.{Origin, Rested}
use Rattle.history.specs.Claims.{AllTyped, reached, told, event, account}
use Rattle.history.proofs.Tests.{not-false}
use Rattle.history.proofs.Sim.{tx, waits_well}
use Rattle.history.proofs.Calls.{host_cases}
use Rattle.history.proofs.Acts.{put_same}
use Rattle.history.proofs.Arrive.{in_append}
use Rattle.history.proofs.InTurn.{InTurn}
use Rattle.history.proofs.Claimed.{always_good}
use Rattle.history.proofs.Numbered.{always_in_turn}
use Rattle.accounts.proofs.Decided.{kept_told}
use Rattle.progress.specs.Deliveries.{handed_by, count, Came}
use Rattle.progress.specs.Oldest.{Unopposed, Ended, deliveries, Undisturbed, GetsThrough, OldestThrough, acts}
use Rattle.progress.proofs.Stored.{Stored, always_stored}
use Rattle.progress.proofs.Counting.{twice_counted, four_times_counted}
use Rattle.progress.proofs.Members.{Entering}
use Rattle.progress.proofs.Steps.{by_step}
use Rattle.progress.proofs.Stages.{Waiting, Finishing, Stage, YesVotes, finishing_party, stage_next}

-- ---- what a step hands over waited
handed_waits : (st : Station) → ((b : List ℕ) → In b st.pool → Bytes b) → (call : Call) (b : List ℕ) → In b (handed_by st call) → In b st.pool
handed_waits st bytes call = by_step st bytes (λ next h. (b : List ℕ) → In b h → In b st.pool) call (record {
  same = λ b i. absurd i;
  rests = λ pool own new b i. absurd i;
  calls = λ n c k b i. absurd i;
  at_replica_lem = λ a j order taken pool new. one a j;
  at_coordinator_lem = λ a j order pool sub. one a j;
  unheard = λ a j off pool sub. one a j;
})
  where
    one : (a : List ℕ) → In a st.pool → (b : List ℕ) → In b (a ∷ []) → In b st.pool
    one a j b i = on i (λ e. subst (λ (y : List ℕ). In y st.pool) (sym e) j) (λ z. absurd z)

-- ---- right after an accepted request for votes at node o
-- nothing was delivered since
none_counted : (q : List ℕ → Bool) → 1 ≤ count q [] → ⊥
unfolding count
none_counted q h = omega (arith, h)

abbrev Started : Station → ℕ → Type 0
Started st o =
    let c = st.records o in Waiting o c.serial c.participants c st.images [] × YesVotes o c.serial c.participants st.pool

module _ (st : Station) (t : InTurn st) (y : Stored st) (o : ℕ) (meets : Meets (system st) (st.records o)) where
  abbrev c : Coordinator
  c = st.records o

  -- while open the transaction is not here yet, or listed
  enters : (n : ℕ) → c.phase ≡ open_phase → Entering (st.images n) o c.serial
  enters n p = on (y.unvoted n o p)
      (λ e. compared _ (serial (st.images n) o) c.serial (λ h. inl (h, e))
      (λ q. absurd (y.undecided n o (inl p) (begun c.serial refl q) q e))
      (λ h. absurd (let b = t.below n o in let z : ⊥ = omega (arith, h, b) in z)))
      (λ e. inr (sym (t.not_over n o (λ q. let z : ⊥ = omega (arith, e, q) in z)).present, e))
    where
      begun : (i : ℕ) → c.serial ≡ i → serial (st.images n) o ≡ c.serial → 1 ≤ serial (st.images n) o
      begun zero q e = absurd (let u = (meets.numbers.unused q).1.0 in let z : ⊥ = omega (arith, p, u) in z)
      begun (suc i) q e = omega (arith, q, e)

  starts_with : (c' : Coordinator) → c.phase ≡ open_phase → c'.phase ≡ voting_phase → c'.serial ≡ c.serial
      → Unopposed (record { images = st.images; records = put_at st.records o c'; pool = st.pool; own = st.own }) o
      → Started (record { images = st.images; records = put_at st.records o c'; pool = st.pool; own = st.own }) o
  starts_with c' p q e u = (
    record {
      present = refl;
      phase = ap (λ (a : Coordinator). a.phase) here ∙ q;
      party = refl;
      members = λ n i. inl (
        subst (Entering (st.images n) o) (sym serials) (enters n p),
        record { oldest = λ w. u.oldest n w i; free = λ k. u.free n k i; current = λ k. u.current n k i },
      );
      voted = λ n i h. absurd (none_counted _ h);
      no_done = λ n i h. none_counted _ h;
    },
    λ b i mine k. absurd (y.unasked b i (inr k)
        (ap (λ (a : Tx). a.serial) mine ∙ serials ∙ ap (λ (n : ℕ). (st.records n).serial) (sym (ap (λ (a : Tx). a.owner) mine)))
        (ap (λ (n : ℕ). (st.records n).phase) (ap (λ (a : Tx). a.owner) mine) ∙ p)),
  )
    where
      here : put_at st.records o c' o ≡ c'
      here = put_same st.records o c'

      serials : (put_at st.records o c' o).serial ≡ c.serial
      serials = ap (λ (a : Coordinator). a.serial) here ∙ e

  starts : (step st (request_commit o)).number ≡ 0 → Unopposed (step st (request_commit o)).station o → Started (step st (request_commit o)).station o
  unfolding step request_commit_of request_commit_refusals requested
  starts =
      let chosen = (system st).nearest_write o c.live c.distances in
      let party = joined (mask_of chosen) c.contacted in
      host_cases (λ (r : Outcome). r.number ≡ 0 → Unopposed r.station o → Started r.station o) st o
      (request_commit_refusals (system st) c o chosen) party (requested c party) tt (λ number q e. absurd (q e))
      (λ k e u. starts_with (requested c party) (eqb-true c.phase open_phase (not-false (eqb c.phase open_phase) k.1.0)) refl refl u)

-- ---- from there on
module _ (g : Origin) (r : Rested g) (ds : List Call) (o : ℕ) where
  abbrev asked : List Call
  asked = request_commit o ∷ ds

  abbrev s : ℕ
  s = ((reached g asked).records o).serial

  abbrev p : ℕ
  p = ((reached g asked).records o).participants

  abbrev x : Tx
  x = record { owner = o; serial = s }

  -- what the steps since handed over
  abbrev brought : List Call → List (List ℕ)
  brought es = deliveries (account g) (acts g) asked es

  abbrev Spared : List Call → Type 0
  Spared es = Undisturbed (account g) (acts g) x p asked es

  abbrev Told : List Call → Type 0
  Told es = In x (told g (es ++ asked)).committed

  abbrev There : List Call → Type 0
  There es = let st = reached g (es ++ asked) in Stage o s p (Told es) (st.records o) st.images (brought es) × YesVotes o s p st.pool

  told_on : (c : Call) (es : List Call) → Told es → Told (c ∷ es)
  unfolding ledger_from
  told_on c es i = kept_told (told g (es ++ asked)) x i (event g (es ++ asked) c)

  ended_on : (c : Call) (es : List Call) (a : Coordinator) (images : ℕ → List ℕ) (d : List (List ℕ)) → Stage o s p (Told es) a images d
      → Stage o s p (Told (c ∷ es)) a images d
  ended_on c es a images d (inl z) = inl z
  ended_on c es a images d (inr (inl z)) = inr (inl z)
  ended_on c es a images d (inr (inr z)) = inr (inr (z.0, told_on c es z.1))

  module _ (accepted : (step (reached g ds) (request_commit o)).number ≡ 0) (unopposed : Unopposed (reached g asked) o) where
    -- a committed transaction is told so
    is_told : (es : List Call) → AllTyped (es ++ asked) → {d : List (List ℕ)} → Finishing o s p ((reached g (es ++ asked)).records o) d → Told es
    is_told es a z =
        let w = (always_good g r (es ++ asked) a).world in
        w.books.decided.is_told x (ap (λ (i : ℕ). w.state.history.phase (tx o i)) (sym z.present)
        ∙ (w.sim.owners o).when_committed z.phase z.commits)

    there : (es : List Call) → AllTyped (es ++ asked) → Spared es → There es
    there [] a u =
        let b = starts (reached g ds) (always_in_turn g r ds a.1) (always_stored g r ds a.1) o
        ((always_good g r ds a.1).world.valid.records o) accepted unopposed in
        (inl b.0, b.1)
    there (c ∷ es) a u =
        let st = reached g (es ++ asked) in
        let z = there es a.1 u.1 in
        let k = always_good g r (es ++ asked) a.1 in
        let n = stage_next o s p st _ _ k.world k.stamped (always_in_turn g r (es ++ asked) a.1) (always_stored g r (es ++ asked) a.1)
        (is_told es a.1) z.0 z.1 c u.0.not_given_up u.0.stays_up u.0.its_own in
        (ended_on c es ((step st c).station.records o) (step st c).station.images (brought (c ∷ es)) n.0, n.1)

    waited : (c : Call) (es : List Call) → AllTyped (es ++ asked) → (b : List ℕ) → In b (handed_by (reached g (es ++ asked)) c)
        → In b (reached g (es ++ asked)).pool
    waited c es a = handed_waits (reached g (es ++ asked)) (always_good g r (es ++ asked) a).world.valid.messages c

    -- whatever was delivered is well formed, and no vote of it was a no
    brought_well : (es : List Call) → AllTyped (es ++ asked) → (b : List ℕ) → In b (brought es) → check_of b ≡ 0
    brought_well [] a b i = absurd i
    brought_well (c ∷ es) a b i = on (in_append b (handed_by (reached g (es ++ asked)) c) (brought es) i)
        (λ j. let w = (always_good g r (es ++ asked) a.1).world in waits_well w.state b (w.sim.waits b (waited c es a.1 b j)))
        (λ j. brought_well es a.1 b j)

    brought_yes : (es : List Call) → AllTyped (es ++ asked) → Spared es → (b : List ℕ) → In b (brought es) → tx_of b ≡ x → kind_of b ≡ vote → word_of b ≡ 1
    brought_yes [] a u b i = absurd i
    brought_yes (c ∷ es) a u b i = on (in_append b (handed_by (reached g (es ++ asked)) c) (brought es) i)
        (λ j. (there es a.1 u.1).1 b (waited c es a.1 b j)) (λ j. brought_yes es a.1 u.1 b j)

    module _ (es : List Call) (a : AllTyped (es ++ asked)) (u : Spared es) where
      abbrev now : Coordinator
      now = (reached g (es ++ asked)).records o

      meets : Meets (system (reached g (es ++ asked))) now
      meets = (always_good g r (es ++ asked) a).world.valid.records o

      -- a set that has every participant
      all_in : (said : ℕ) → now.participants ≡ p → ((n : ℕ) → n < nodes → contains p n ≡ true → contains said n ≡ true) → T (within p said)
      all_in said e f = contains_within p said (λ i k.
          true-T _ (f i (node_known p i (subst (λ (q : ℕ). q ≤ every_node) e meets.party.participants_known) k) (T_true _ k)))

      -- the root is a participant
      root_in : now.phase ≡ voting_phase → contains now.participants 0 ≡ true
      root_in q = (always_good g r (es ++ asked) a).world.sane.root_in now.participants
          (T_true _ (meets.party.full (meets.party.asked_for q)).write_quorum)

      commits : Came x p vote (brought es) → Told es
      commits came = by (there es a u).0
        where
          by : Stage o s p (Told es) now (reached g (es ++ asked)).images (brought es) → Told es
          by (inl z) = absurd (meets.votes.vote_missing z.phase (
            meets.party.asked_for z.phase,
            subst (λ (q : ℕ). T (within q now.yes)) (sym z.party)
                (all_in now.yes z.party (λ n h e. z.voted n e (came n h e))),
          ))
          by (inr (inl z)) = is_told es a z
          by (inr (inr z)) = z.1

      finishes : Came x p done (brought es) → Ended (reached g (es ++ asked)) x
      finishes came = by (there es a u).0
        where
          by : Stage o s p (Told es) now (reached g (es ++ asked)).images (brought es) → Ended (reached g (es ++ asked)) x
          by (inl z) = let e = subst (λ (q : ℕ). contains q 0 ≡ true) z.party (root_in z.phase) in absurd (z.no_done 0 e (came 0 (omega arith) e))
          by (inr (inl z)) =
              let k = always_good g r (es ++ asked) a in
              let e = finishing_party o s p (reached g (es ++ asked)) _ _ k.world k.stamped (always_in_turn g r (es ++ asked) a)
              (always_stored g r (es ++ asked) a) z in
              absurd (meets.dones.done_missing z.phase
              (subst (λ (q : ℕ). T (within q now.done)) (sym e) (all_in now.done z.party (λ n h i. z.said_done_lem n i (came n h i)))))
          by (inr (inr z)) = z.0

      pub gets_through : GetsThrough x p (brought es) (told g (es ++ asked)) (reached g (es ++ asked))
      gets_through = record {
        agreed = brought_yes es a u;
        commits = commits;
        twice = twice_counted x (brought es) (brought_well es a) p;
        finishes = finishes;
        four_times = four_times_counted x (brought es) (brought_well es a) p;
      }

-- THE THEOREM: for every list of steps from an origin
pub oldest_through : (g : Origin) (r : Rested g) (cs : List Call) → AllTyped cs → OldestThrough (account g) (acts g) cs
oldest_through g r cs a es ds o e accepted unopposed spared =
    subst (λ (l : List Call). GetsThrough (x g r ds o) (p g r ds o) (brought g r ds o es) (told g l) (reached g l)) e
    (gets_through g r ds o accepted unopposed es (subst AllTyped (sym e) a) spared)
