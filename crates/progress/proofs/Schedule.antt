-- That the claim of request 2.8 is not empty (specs Schedule): the rounds meet what is supposed, and hand over each message once. Why: a participant's ask is
-- answered by a vote, since it is not late there; the vote is a yes, by the claim itself; so the record goes on voting until the last yes, then it is
-- finishing, and a participant's outcome is answered by a done, until the last.
use mathlib.Core.Path.{◌≡◌, refl, sym, ◌∙◌, ap, ap₂, subst}
use mathlib.Core.Logic.{◌≢◌, inl, inr}
use mathlib.Core.Bool.{Bool, true, false, cond, not, ◌&&◌}
use mathlib.Core.List.{List, [], ◌∷◌, ◌++◌}
use Prim.Native.Nat.{ℕ, zero, suc, ◌<◌, ◌≤◌}
use native.Mathlib.Omega.{arith}
use Rattle.numbers.specs.Sizes.{nodes}
use Rattle.mask.specs.Mask.{bit, contains, only, joined}
use Rattle.mask.proofs.Laws.{contains_within}
use Rattle.mask.proofs.Tests.{T_true}
use Rattle.wire.specs.Message.{Message, ask, vote, outcome, done}
use Rattle.wire.specs.Encode.{encode, Fits}
use Rattle.wire.specs.Decode.{rival_count}
use Rattle.wire.specs.Items.{word_of}
use Rattle.judge.specs.Standing.{standing}
use Rattle.replica.specs.Steps.{says, vote_to, done_to}
use Rattle.replica.specs.Receive.{step}
use Rattle.coordinator.specs.declared.Coordinator.{Coordinator}
use Rattle.coordinator.specs.Step.{Step}
use Rattle.coordinator.specs.State.{voting_phase, finishing_phase, awaited}
use Rattle.arrivals.specs.Receive.{raise_from, with_yes, with_done}
use Rattle.clauses.proofs.Facts.{Meets}
use Rattle.clauses.proofs.Parts.{true-T, by_test}
use Rattle.clauses.proofs.Sets.{node_known}
use Rattle.steps.specs.Station.{system}
use Rattle.steps.specs.Step.{Call, request_commit}
use Rattle.protocol.specs.Table.{In}
use Rattle.protocol.specs.State.{Tx}
use Rattle.protocol.proofs.Tables.{on}
use Rattle.history.specs.Origin.{Origin, Rested}
use Rattle.history.specs.Claims.{AllTyped, reached}
use Rattle.history.proofs.Quiet.{no_bit}
use Rattle.history.proofs.Acts.{late_standing}
use Rattle.history.proofs.Moves.{Replies, served_step}
use Rattle.history.proofs.Claimed.{always_good}
use Rattle.progress.specs.Schedule.{round, rounds_below, rounds, request, its, its_party, handed, Serves, OldestCan}
use Rattle.progress.proofs.Stored.{always_stored}
use Rattle.progress.proofs.Answering.{ask_answered, outcome_answered, yes_taken_lem, done_taken_lem}
use Rattle.progress.proofs.Stages.{With}
use Rattle.progress.proofs.Through.{oldest_through}
use Rattle.progress.proofs.Tallies.{below, below_all, below_first, below_next, below_skip, Tally, tally_as, tally_none, tally_asked, tally_ended}
use Rattle.progress.proofs.Polling.{request_accepted, Polled, Closing, polled_skip, closing_skip, polled_next, awaited_is, closing_next}
use Rattle.progress.proofs.Rounds.{waiting, station_after, record_after, Starts, SoFar, Turn, typed_now, good_now, turn_now, message, order}
use Rattle.progress.proofs.Rounds.{order_of_lem, order_head, records₁, typed₁, order_taken, with_send, with_order, with_answer, Echo, answer_of_lem}
use Rattle.progress.proofs.Rounds.{round_handed, round_record, round_stamp, round_from, round_so_far}

-- a test that is false where it cannot be true
not_so : (b : Bool) → (b ≡ true → ⊥) → b ≡ false
not_so b h = by_test (b ≡ false) b (λ e. absurd (h e)) (λ e. e)

module _ (g : Origin) (ds : List Call) (o : ℕ) (starts : Starts g ds o)
    (accepted : (Rattle.steps.specs.Step.step (reached g ds) (request_commit o)).number ≡ 0) where
  abbrev x : Tx
  x = its g ds o

  abbrev party : ℕ
  party = its_party g ds o

  abbrev mine : List Call → Coordinator
  mine es = record_after g ds o es

  meets : (es : List Call) → AllTyped es → Meets (system (station_after g ds o es)) (mine es)
  meets es a = (good_now starts es a).world.valid.records o

  -- a participant's answer to the round's message fits its bytes
  answer_fits : (es : List Call) (n kind : ℕ) (t : Turn g ds o es n kind) (a : Message)
      → (step ((station_after g ds o (with_send starts t)).images n) n (message starts t)).answer ≡ says a → Fits a
  answer_fits es n kind t a e =
      let later = with_send starts t in
      let z = order_taken starts t in
      let good = good_now starts later (typed₁ starts t) in
      let l = (station_after g ds o later).images n in
      let order = message starts t in
      (subst (Replies l order z (step l n order).image n) e (served_step l order z n (good.world.valid.images n).1).1).fits

  -- ---- the first rounds: votes are asked for
  record Voting (k : ℕ) (es : List Call) : Type 0 where
    so_far : SoFar g ds o es
    polled : Polled x.serial party k (mine es)
    tally : Tally x (below party k) (λ n. 0) (handed g ds o es)

  module _ (k : ℕ) (es : List Call) (member : contains party k ≡ true) (small : k < nodes) (v : Voting k es) where
    is_voting : (mine es).phase ≡ voting_phase
    is_voting = on v.polled.voting (λ e. e) (λ z. absurd (let h = z.1 k member in let y : ⊥ = omega (arith, h) in y))

    ask_owed : Turn g ds o es k ask
    ask_owed = record {
      so_far = v.so_far;
      member = member;
      small = small;
      present = v.polled.present;
      owed = inl (
        refl,
        is_voting,
        ap₂ (λ (a b : Bool). a && not b) (ap (λ (a : ℕ). contains a k) v.polled.members ∙ member)
            (not_so (contains (mine es).yes k) (λ e. let h = v.polled.said k e in let y : ⊥ = omega (arith, h) in y)),
      );
    }

    abbrev asking : Message
    asking = message starts ask_owed

    abbrev sent : List Call
    sent = with_send starts ask_owed

    abbrev image : List ℕ
    image = (station_after g ds o sent).images k

    -- it is of the present transaction, which is not over there
    not_late : standing image asking ≢ 0
    not_late e =
        let h = order_head starts ask_owed in
        let a = typed₁ starts ask_owed in
        let same : mine sent ≡ mine es = ap (λ (f : ℕ → Coordinator). f o) (records₁ starts ask_owed) in
        let s : (mine sent).serial ≡ asking.serial = ap (λ (c : Coordinator). c.serial) same ∙ sym h.its_serial in
        let p : (mine sent).phase ≡ voting_phase = ap (λ (c : Coordinator). c.phase) same ∙ is_voting in
        on (late_standing image asking e)
        (λ q.
        let b = (turn_now starts sent a).below k asking.owner in
        let u : reached_serial asking.owner ≡ (mine sent).serial = ap reached_serial h.its_owner in
        let y : ⊥ = omega (arith, q, b, u, s) in y)
        (λ q. (always_stored g starts.rested (sent ++ request g ds o) (typed_now starts sent a)).undecided k o (inr p)
        (let one = (order_taken starts ask_owed).serial in
        let w : serial_here asking.owner ≡ serial_here o = ap serial_here h.its_owner in
        let z = q.0 in omega (arith, one, z, w))
        (sym (ap serial_here h.its_owner) ∙ q.0 ∙ sym s)
        (sym (ap (Rattle.image.specs.Layout.state image) h.its_owner) ∙ q.1))
      where
        reached_serial : ℕ → ℕ
        reached_serial i = ((station_after g ds o sent).records i).serial

        serial_here : ℕ → ℕ
        serial_here = Rattle.image.specs.Layout.serial image

    voted : (serials : List ℕ) × (word : ℕ) × ((step image k asking).answer ≡ says (vote_to k asking serials word))
    voted = ask_answered image k asking (order_taken starts ask_owed) (order_head starts ask_owed).its_kind not_late

    abbrev a : Message
    a = vote_to k asking voted.0 voted.1

    vote_echo : Echo starts ask_owed a
    vote_echo = record {
      a_fits = answer_fits es k ask ask_owed a voted.2;
      for_owner = refl;
      a_from = refl;
      a_to = refl;
      a_owner = refl;
      a_serial = refl;
      a_stamp = refl;
    }

    abbrev vote_of : With x vote k (encode a)
    vote_of = answer_of_lem starts ask_owed a voted.2 vote_echo

    abbrev asked : List Call
    asked = with_answer starts ask_owed

    so_asked : SoFar g ds o asked
    so_asked = round_so_far starts ask_owed a voted.2 vote_echo

    handed_asked : handed g ds o asked ≡ encode a ∷ order starts ask_owed ∷ handed g ds o es
    handed_asked = round_handed starts ask_owed a voted.2 vote_echo

    -- the claim (Through) tells that it is a yes
    is_yes_lem : word_of (encode a) ≡ 1
    is_yes_lem = (oldest_through g starts.rested (asked ++ request g ds o) (typed_now starts asked so_asked.all_typed) asked ds o refl accepted
        starts.clear so_asked.spared).agreed (encode a) (subst (In (encode a)) (sym handed_asked) (inl refl))
        vote_of.its_tx vote_of.its_kind

    polled_asked : Polled x.serial party (suc k) (mine asked)
    polled_asked =
        let c = mine es in
        let from = round_from starts ask_owed a voted.2 vote_echo in
        let here = round_record starts ask_owed a voted.2 vote_echo in
        let is = yes_taken_lem (system (station_after g ds o (with_order starts ask_owed))) c (encode a) vote_of.its_kind is_voting
        (ap (λ (y : Tx). y.serial) vote_of.its_tx ∙ sym v.polled.present) (round_stamp starts ask_owed a voted.2 vote_echo)
        (ap₂ (λ (p i : ℕ). contains p i) v.polled.members from ∙ member) is_yes_lem in
        let rivals = raise_from (encode a) (rival_count (encode a)) 0 c.rivals in
        subst (Polled x.serial party (suc k))
        (sym (here ∙ ap (λ (q : Step). q.coordinator) is ∙ ap (λ (i : ℕ). (with_yes c (joined c.yes (only i)) rivals).coordinator) from))
        (polled_next x.serial party k c small member rivals v.polled)

    asked_next : Voting (suc k) asked
    asked_next = record {
      so_far = so_asked;
      polled = polled_asked;
      tally = subst (Tally x (below party (suc k)) (λ n. 0)) (sym handed_asked)
          (tally_as x (λ i h. below_next party k i member) (λ i h. refl)
          (tally_asked x (encode a) (order starts ask_owed) k (below party k) (λ n. 0) (handed g ds o es) v.tally
          (order_of_lem starts ask_owed) vote_of));
    }

  voting_next : (k : ℕ) (es : List Call) → k < nodes → Voting k es → (b : Bool) → contains party k ≡ b
      → Voting (suc k) (cond b (round o (waiting g ds o) k ++ es) es)
  voting_next k es h v true e = asked_next k es e h v
  voting_next k es h v false e = record {
    so_far = v.so_far;
    polled = polled_skip x.serial party k (mine es) e v.polled;
    tally = tally_as x (λ i q. below_skip party k i e) (λ i q. refl) v.tally;
  }

  first : Voting 0 []
  first =
      let f = request_accepted (reached g ds) o ((always_good g starts.rested ds starts.typed).world.valid.records o) accepted in
      let d = (meets [] tt).dones.no_done (λ e. let p = f.is_voting in let y : ⊥ = omega (arith, e, p) in y) in
      record {
        so_far = record { all_typed = tt; spared = tt; pool_as = refl; own_as = refl };
        polled = record {
          present = refl;
          members = refl;
          voting = inl f.is_voting;
          said = λ n e. absurd (f.unsaid n e);
          all_said = λ n e h. absurd (let y : ⊥ = omega (arith, h) in y);
          none_done = λ n e. no_bit n (subst (λ (a : ℕ). contains a n ≡ true) d e);
        };
        tally = tally_as x (λ i h. below_first party i) (λ i h. refl) (tally_none x);
      }

  abbrev rounds_to : ℕ → List Call
  rounds_to k = rounds_below o (waiting g ds o) party k

  voting_below : (k : ℕ) → k ≤ nodes → Voting k (rounds_to k)
  unfolding rounds_below
  voting_below zero h = first
  voting_below (suc k) h = voting_next k (rounds_to k) (omega (arith, h)) (voting_below k (omega (arith, h))) (contains party k) refl

  -- ---- the second rounds: its outcome
  record Finishing (k : ℕ) (es : List Call) : Type 0 where
    so_far : SoFar g ds o es
    closing : Closing x.serial party k (mine es)
    tally : Tally x (bit party) (below party k) (handed g ds o es)

  -- every participant said yes, so votes are asked for no more
  decided : (es : List Call) → Voting nodes es → Finishing 0 es
  decided es v =
      let m = meets es v.so_far.all_typed in
      let p = v.polled in
      record {
        so_far = v.so_far;
        closing = inl (
          on p.voting (λ e. absurd (m.votes.vote_missing e (
            m.party.asked_for e,
            contains_within (mine es).participants (mine es).yes (λ i t. true-T (contains (mine es).yes i)
                (p.all_said i (ap (λ (a : ℕ). contains a i) (sym p.members) ∙ T_true (contains (mine es).participants i) t)
                (node_known (mine es).participants i m.party.participants_known t))),
          ))) (λ z. z.0),
          p.present,
          p.members,
          λ n e. absurd (p.none_done n e),
        );
        tally = tally_as x (λ i h. below_all party nodes i h) (λ i h. below_first party i) v.tally;
      }

  module _ (k : ℕ) (es : List Call) (member : contains party k ≡ true) (small : k < nodes) (f : Finishing k es) where
    now : ((mine es).phase ≡ finishing_phase) × ((mine es).serial ≡ x.serial) × ((mine es).participants ≡ party)
        × ((n : ℕ) → contains (mine es).done n ≡ true → n < k)
    now = on f.closing (λ z. z) (λ z. absurd (let h = z k member in let y : ⊥ = omega (arith, h) in y))

    awaits : contains (awaited (mine es)) k ≡ true
    awaits = ap (λ (a : ℕ). contains a k) (awaited_is x.serial party k (mine es) small member now.2) ∙ member

    outcome_owed : Turn g ds o es k outcome
    outcome_owed = record {
      so_far = f.so_far;
      member = member;
      small = small;
      present = now.1;
      owed = inr (
        refl,
        now.0,
        ap₂ (λ (a b : Bool). a && not b) awaits
            (not_so (contains (mine es).done k) (λ e. let h = now.3 k e in let y : ⊥ = omega (arith, h) in y)),
      );
    }

    abbrev told : Message
    told = message starts outcome_owed

    ended : (step ((station_after g ds o (with_send starts outcome_owed)).images k) k told).answer ≡ says (done_to k told)
    ended = outcome_answered ((station_after g ds o (with_send starts outcome_owed)).images k) k told
        (order_taken starts outcome_owed) (order_head starts outcome_owed).its_kind

    done_echo : Echo starts outcome_owed (done_to k told)
    done_echo = record {
      a_fits = answer_fits es k outcome outcome_owed (done_to k told) ended;
      for_owner = refl;
      a_from = refl;
      a_to = refl;
      a_owner = refl;
      a_serial = refl;
      a_stamp = refl;
    }

    abbrev done_of : With x done k (encode (done_to k told))
    done_of = answer_of_lem starts outcome_owed (done_to k told) ended done_echo

    abbrev over : List Call
    over = with_answer starts outcome_owed

    closing_over : Closing x.serial party (suc k) (mine over)
    closing_over =
        let c = mine es in
        let from = round_from starts outcome_owed (done_to k told) ended done_echo in
        let here = round_record starts outcome_owed (done_to k told) ended done_echo in
        let is = done_taken_lem (system (station_after g ds o (with_order starts outcome_owed))) c (encode (done_to k told)) done_of.its_kind
        now.0 (ap (λ (y : Tx). y.serial) done_of.its_tx ∙ sym now.1) (round_stamp starts outcome_owed (done_to k told) ended done_echo)
        (ap (contains (awaited c)) from ∙ awaits) in
        subst (Closing x.serial party (suc k))
        (sym (here ∙ ap (λ (q : Step). q.coordinator) is ∙ ap (λ (i : ℕ). (with_done c (joined c.done (only i))).coordinator) from))
        (closing_next x.serial party k c small member now.0 now.1 now.2 now.3)

    ended_next : Finishing (suc k) over
    ended_next = record {
      so_far = round_so_far starts outcome_owed (done_to k told) ended done_echo;
      closing = closing_over;
      tally = subst (Tally x (bit party) (below party (suc k)))
          (sym (round_handed starts outcome_owed (done_to k told) ended done_echo))
          (tally_as x (λ i h. refl) (λ i h. below_next party k i member)
          (tally_ended x (encode (done_to k told)) (order starts outcome_owed) k (bit party) (below party k) (handed g ds o es)
          f.tally (order_of_lem starts outcome_owed) done_of));
    }

  finishing_next : (k : ℕ) (es : List Call) → k < nodes → (b : Bool) → contains party k ≡ b → Finishing k (es ++ rounds_to nodes)
      → Finishing (suc k) (cond b (round o (waiting g ds o) k ++ es) es ++ rounds_to nodes)
  finishing_next k es h true e f = ended_next k (es ++ rounds_to nodes) e h f
  finishing_next k es h false e f = record {
    so_far = f.so_far;
    closing = closing_skip x.serial party k (mine (es ++ rounds_to nodes)) e f.closing;
    tally = tally_as x (λ i q. refl) (λ i q. below_skip party k i e) f.tally;
  }

  finishing_below : (k : ℕ) → k ≤ nodes → Finishing k (rounds_to k ++ rounds_to nodes)
  unfolding rounds_below
  finishing_below zero h = decided (rounds_to nodes) (voting_below nodes (omega arith))
  finishing_below (suc k) h = finishing_next k (rounds_to k) (omega (arith, h)) (contains party k) refl (finishing_below k (omega (arith, h)))

  serves : Serves g ds o (rounds o (waiting g ds o) party)
  serves = let f = finishing_below nodes (omega arith) in record {
    typed = f.so_far.all_typed;
    undisturbed = f.so_far.spared;
    asks = f.tally.asks;
    votes = f.tally.votes;
    outcomes = λ n h. f.tally.outcomes n h ∙ below_all party nodes n h;
    dones = λ n h. f.tally.dones n h ∙ below_all party nodes n h;
  }

-- THE THEOREM, of every origin
pub oldest_can : (g : Origin) → Rested g → OldestCan g
oldest_can g r ds o typed accepted clear room = serves g ds o
    (record {
      rested = r;
      typed = typed;
      known = (request_accepted (reached g ds) o ((always_good g r ds typed).world.valid.records o) accepted).known;
      clear = clear;
      room = room;
    })
    accepted
