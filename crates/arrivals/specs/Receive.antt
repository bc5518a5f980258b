-- What a delivered message does to a record. A message that does not fit the phase, or whose serial is not this transaction's (in a yield, the
-- rival's serial), or an answer with another timestamp, from a node not asked, or for an object or mode not asked, changes nothing.
use Rattle.std.specs.Prelude.{Bool, cond, not, ◌&&◌, ◌||◌, List, [], ◌∷◌, ℕ, zero, suc, ◌+◌, eqb, ltb, get_or, set}
use Rattle.mask.specs.Mask.{contains, only, joined, within}
use Rattle.numbers.specs.Numbers.{wrong_length, garbled, stranger, out_of_turn}
use Rattle.numbers.specs.Refusal.{Refusal, refuse, first_of}
use Rattle.wire.specs.declared.Entry.{Entry}
use Rattle.wire.specs.declared.Rival.{Rival}
use Rattle.wire.specs.Message.{fetch, copy, ask, vote, outcome, done, yield}
use Rattle.wire.specs.Decode.{kind_of, from_of, to_of, serial_of, stamp_of, rival_count, check_of}
use Rattle.wire.specs.Items.{entry_of, rival_of, word_of}
use Rattle.coordinator.specs.declared.Object.{Object}
use Rattle.coordinator.specs.declared.Coordinator.{Coordinator}
use Rattle.coordinator.specs.Step.{Step}
use Rattle.coordinator.specs.System.{System}
use Rattle.coordinator.specs.State.{open_phase, voting_phase, finishing_phase, nothing, committed, aborted, became_ready, finished}
use Rattle.coordinator.specs.State.{idle_after, place_of, object_at, is_open, ready, awaited}
use Rattle.coordinator.specs.Calls.{no_node, with_objects, with_phase, ended_aborted}

-- what a delivery brought about, with the record after it
abbrev pub brought : ℕ → Coordinator → Step
brought what c = record { number = 0; answer = what; coordinator = c }

-- an answer to this transaction: in this phase, with its serial and timestamp, from one of these nodes
abbrev pub answers : Coordinator → ℕ → ℕ → List ℕ → Bool
answers c phase nodes m =
    eqb c.phase phase && (eqb (serial_of m) c.serial && (eqb (stamp_of m) c.timestamp && contains nodes (from_of m)))

-- ---- a copy
-- it counts while its object is not ready: the highest version, the first such copy to come
abbrev pub better : Object → Entry → Bool
better x e = eqb x.came 0 || ltb x.version e.version

unfoldable pub with_copy : Object → ℕ → Entry → Object
with_copy x from e =
    record {
      object = x.object;
      mode = x.mode;
      came = joined x.came (only from);
      version = cond (better x e) e.version x.version;
      value = cond (better x e) e.value x.value;
      given = x.given;
      new = x.new;
    }

-- of an object that is open, in its mode, and not ready yet
unfoldable pub copy_fits : System → Coordinator → List ℕ → Bool
copy_fits s c m =
    let e = entry_of m 0 in
    let x = object_at c e.object in
    answers c open_phase c.contacted m && (is_open c e.object && (eqb e.mode x.mode && not (ready s x)))

unfoldable pub copy_taken : System → Coordinator → List ℕ → Step
copy_taken s c m =
    let e = entry_of m 0 in
    let x = with_copy (object_at c e.object) (from_of m) e in
    cond (copy_fits s c m)
    (brought (cond (ready s x) became_ready nothing) (with_objects c c.contacted c.count (set c.objects (place_of c e.object) x)))
    (brought nothing c)

-- ---- a vote: a no from a participant aborts, yes from every participant commits
-- of several serials named for one owner, the highest
abbrev pub raise : List ℕ → Rival → List ℕ
raise rivals r = set rivals r.owner (cond (ltb (get_or rivals r.owner 0) r.serial) r.serial (get_or rivals r.owner 0))

unfoldable pub raise_from : List ℕ → ℕ → ℕ → List ℕ → List ℕ
raise_from m zero i rivals = rivals
raise_from m (suc n) i rivals = raise_from m n (i + 1) (raise rivals (rival_of m i))

unfoldable pub with_yes : Coordinator → ℕ → List ℕ → Step
with_yes c agreed rivals =
    cond (within c.participants agreed) (brought committed (with_phase c finishing_phase committed c.participants agreed c.done rivals))
    (brought nothing (with_phase c voting_phase c.outcome c.participants agreed c.done rivals))

unfoldable pub vote_taken : Coordinator → List ℕ → Step
vote_taken c m =
    cond (answers c voting_phase c.participants m)
    (cond (eqb (word_of m) 0) (brought aborted (ended_aborted c))
    (with_yes c (joined c.yes (only (from_of m))) (raise_from m (rival_count m) 0 c.rivals)))
    (brought nothing c)

-- ---- a done: finishing lasts until every awaited node said it
unfoldable pub with_done : Coordinator → ℕ → Step
with_done c said =
    cond (within (awaited c) said) (brought finished (idle_after c.serial c.timestamp c.outcome))
    (brought nothing (with_phase c c.phase c.outcome c.participants c.yes said c.rivals))

unfoldable pub done_taken : Coordinator → List ℕ → Step
done_taken c m = cond (answers c finishing_phase (awaited c) m) (with_done c (joined c.done (only (from_of m)))) (brought nothing c)

-- ---- a yield that names this transaction aborts it while open or voting
unfoldable pub yield_taken : Coordinator → List ℕ → Step
yield_taken c m =
    cond ((eqb c.phase open_phase || eqb c.phase voting_phase) && eqb (rival_of m 0).serial c.serial) (brought aborted (ended_aborted c))
    (brought nothing c)

-- ---- the kind decides
unfoldable pub delivered : System → Coordinator → List ℕ → Step
delivered s c m =
    cond (eqb (kind_of m) copy) (copy_taken s c m)
    (cond (eqb (kind_of m) vote) (vote_taken c m)
    (cond (eqb (kind_of m) done) (done_taken c m)
    (cond (eqb (kind_of m) yield) (yield_taken c m)
    (brought nothing c))))

-- a kind for the other end is out of turn
abbrev pub for_replica : ℕ → Bool
for_replica kind = eqb kind fetch || (eqb kind ask || eqb kind outcome)

unfoldable pub receive_refusals : Coordinator → ℕ → List ℕ → List Refusal
receive_refusals c me m =
    refuse wrong_length (eqb (check_of m) wrong_length)
    ∷ refuse garbled (eqb (check_of m) garbled)
    ∷ refuse stranger (no_node me || not (eqb (to_of m) me))
    ∷ refuse out_of_turn (for_replica (kind_of m))
    ∷ []

unfoldable pub receive_of : System → Coordinator → ℕ → List ℕ → Step
receive_of s c me m =
    cond (eqb (first_of (receive_refusals c me m)) 0) (delivered s c m)
    (record { number = first_of (receive_refusals c me m); answer = 0; coordinator = c })
