-- The host's calls, each as its refusals in order and the record after it. `me` is this node's own number.
use Rattle.std.specs.Prelude.{Bool, true, false, cond, not, ◌||◌, List, [], ◌∷◌, ℕ, ◌+◌, eqb, ltb, set, replicate}
use Rattle.numbers.specs.Sizes.{nodes, every_node, objects, most_open, highest}
use Rattle.mask.specs.Mask.{joined}
use Rattle.numbers.specs.Numbers.{stranger, out_of_turn, no_such_object, eight_open, no_quorum, used_up, busy, not_ready}
use Rattle.numbers.specs.Refusal.{Refusal, refuse, first_of}
use Rattle.age.specs.Age.{too_early}
use Rattle.quorum.specs.Choice.{Choice}
use Rattle.quorum.specs.Nearest.{number_of, mask_of}
use Rattle.coordinator.specs.declared.Object.{Object}
use Rattle.coordinator.specs.declared.Coordinator.{Coordinator}
use Rattle.coordinator.specs.declared.BeginWith.{BeginWith}
use Rattle.coordinator.specs.Step.{Step}
use Rattle.coordinator.specs.System.{System}
use Rattle.coordinator.specs.State.{no_object, aborted}
use Rattle.coordinator.specs.State.{idle_phase, open_phase, voting_phase, finishing_phase}
use Rattle.coordinator.specs.State.{idle_after, place_of, object_at, is_open, ready, all_settled, any_used_up, awaited, step_of}

-- no node has this number; the mask names one that is not there; there is no quorum
abbrev pub no_node : ℕ → Bool
no_node node = not (ltb node nodes)

abbrev pub too_wide : ℕ → Bool
too_wide live = ltb every_node live

abbrev pub is_none : Choice → Bool
is_none chosen = eqb (number_of chosen) no_quorum

-- ---- begin
unfoldable pub begin_refusals : Coordinator → ℕ → BeginWith → Choice → List Refusal
begin_refusals c me w chosen =
    refuse stranger (no_node me || too_wide w.live)
    ∷ refuse busy (not (eqb c.phase idle_phase))
    ∷ refuse out_of_turn (too_early (eqb c.outcome aborted) c.timestamp w.timestamp)
    ∷ refuse no_quorum (is_none chosen)
    ∷ refuse used_up (not (ltb c.serial highest))
    ∷ []

-- open, with the next serial, the given timestamp and the chosen read quorum; nobody contacted, no object open
unfoldable pub begun : Coordinator → BeginWith → ℕ → Coordinator
begun c w quorum =
    record {
      serial = c.serial + 1;
      timestamp = w.timestamp;
      outcome = c.outcome;
      phase = open_phase;
      live = w.live;
      distances = w.distances;
      quorum = quorum;
      contacted = 0;
      count = 0;
      objects = replicate most_open no_object;
      participants = 0;
      yes = 0;
      done = 0;
      rivals = replicate nodes 0;
    }

unfoldable pub begin_of : System → Coordinator → ℕ → BeginWith → Step
begin_of s c me w =
    let chosen = s.nearest_read me w.live w.distances in
    step_of (first_of (begin_refusals c me w chosen)) (mask_of chosen) c (begun c w (mask_of chosen))

-- ---- open, to read (mode 0) or to write (mode 1)
unfoldable pub open_refusals : Coordinator → ℕ → ℕ → List Refusal
open_refusals c me object =
    refuse stranger (no_node me)
    ∷ refuse out_of_turn (not (eqb c.phase open_phase))
    ∷ refuse no_such_object (not (ltb object objects) || is_open c object)
    ∷ refuse eight_open (not (ltb c.count most_open))
    ∷ []

abbrev pub fresh : ℕ → ℕ → Object
fresh object mode = record { object = object; mode = mode; came = 0; version = 0; value = 0; given = false; new = 0 }

-- the same transaction with other contacted nodes and objects
abbrev pub with_objects : Coordinator → ℕ → ℕ → List Object → Coordinator
with_objects c contacted count objects =
    record {
      serial = c.serial;
      timestamp = c.timestamp;
      outcome = c.outcome;
      phase = c.phase;
      live = c.live;
      distances = c.distances;
      quorum = c.quorum;
      contacted = contacted;
      count = count;
      objects = objects;
      participants = c.participants;
      yes = c.yes;
      done = c.done;
      rivals = c.rivals;
    }

-- one object more, at the end; the present read quorum joins the contacted nodes (document 01: the asked set)
unfoldable pub opened : Coordinator → ℕ → ℕ → Coordinator
opened c object mode = with_objects c (joined c.contacted c.quorum) (c.count + 1) (set c.objects c.count (fresh object mode))

unfoldable pub open_of : Coordinator → ℕ → ℕ → ℕ → Step
open_of c me object mode = step_of (first_of (open_refusals c me object)) 0 c (opened c object mode)

-- ---- set a new value; the last one counts
unfoldable pub set_refusals : Coordinator → ℕ → ℕ → List Refusal
set_refusals c me object =
    refuse stranger (no_node me)
    ∷ refuse out_of_turn (not (eqb c.phase open_phase))
    ∷ refuse no_such_object (not (is_open c object) || eqb (object_at c object).mode 0)
    ∷ []

abbrev pub renewed : Object → ℕ → Object
renewed x value =
    record { object = x.object; mode = x.mode; came = x.came; version = x.version; value = x.value; given = true; new = value }

unfoldable pub with_new : Coordinator → ℕ → ℕ → Coordinator
with_new c object value = with_objects c c.contacted c.count (set c.objects (place_of c object) (renewed (object_at c object) value))

unfoldable pub set_of : Coordinator → ℕ → ℕ → ℕ → Step
set_of c me object value = step_of (first_of (set_refusals c me object)) 0 c (with_new c object value)

-- ---- found: the value found for a ready object, in every phase but idle
unfoldable pub found_refusals : System → Coordinator → ℕ → ℕ → List Refusal
found_refusals s c me object =
    refuse stranger (no_node me)
    ∷ refuse out_of_turn (eqb c.phase idle_phase)
    ∷ refuse no_such_object (not (is_open c object))
    ∷ refuse not_ready (not (ready s (object_at c object)))
    ∷ []

unfoldable pub found_of : System → Coordinator → ℕ → ℕ → Step
found_of s c me object = step_of (first_of (found_refusals s c me object)) (object_at c object).value c c

-- ---- reselect (document 01: look again): a fresh live mask and distances; the new read quorum joins if some object is open already
unfoldable pub reselect_refusals : Coordinator → ℕ → ℕ → Choice → List Refusal
reselect_refusals c me live chosen =
    refuse stranger (no_node me || too_wide live) ∷ refuse out_of_turn (not (eqb c.phase open_phase)) ∷ refuse no_quorum (is_none chosen) ∷ []

unfoldable pub reselected : Coordinator → ℕ → List ℕ → ℕ → Coordinator
reselected c live distances quorum =
    record {
      serial = c.serial;
      timestamp = c.timestamp;
      outcome = c.outcome;
      phase = c.phase;
      live = live;
      distances = distances;
      quorum = quorum;
      contacted = cond (eqb c.count 0) c.contacted (joined c.contacted quorum);
      count = c.count;
      objects = c.objects;
      participants = c.participants;
      yes = c.yes;
      done = c.done;
      rivals = c.rivals;
    }

unfoldable pub reselect_of : System → Coordinator → ℕ → ℕ → List ℕ → Step
reselect_of s c me live distances =
    let chosen = s.nearest_read me live distances in
    step_of (first_of (reselect_refusals c me live chosen)) (mask_of chosen) c (reselected c live distances (mask_of chosen))

-- ---- the votes and their end
-- the same transaction in another phase
abbrev pub with_phase : Coordinator → ℕ → ℕ → ℕ → ℕ → ℕ → List ℕ → Coordinator
with_phase c phase outcome participants agreed done rivals =
    record {
      serial = c.serial;
      timestamp = c.timestamp;
      outcome = outcome;
      phase = phase;
      live = c.live;
      distances = c.distances;
      quorum = c.quorum;
      contacted = c.contacted;
      count = c.count;
      objects = c.objects;
      participants = participants;
      yes = agreed;
      done = done;
      rivals = rivals;
    }

-- request_commit (document 01: ask for votes): 11, then 8, then 9
unfoldable pub request_commit_refusals : System → Coordinator → ℕ → Choice → List Refusal
request_commit_refusals s c me chosen =
    refuse stranger (no_node me)
    ∷ refuse out_of_turn (not (eqb c.phase open_phase))
    ∷ refuse not_ready (eqb c.count 0 || not (all_settled s c.objects c.count))
    ∷ refuse no_quorum (is_none chosen)
    ∷ refuse used_up (any_used_up c.objects c.count)
    ∷ []

-- the participants (document 01: the party) are the chosen write quorum and the contacted nodes
unfoldable pub requested : Coordinator → ℕ → Coordinator
requested c participants = with_phase c voting_phase c.outcome participants c.yes c.done c.rivals

unfoldable pub request_commit_of : System → Coordinator → ℕ → Step
request_commit_of s c me =
    let chosen = s.nearest_write me c.live c.distances in
    let participants = joined (mask_of chosen) c.contacted in
    step_of (first_of (request_commit_refusals s c me chosen)) participants c (requested c participants)

-- a transaction ends aborted: finishing until every awaited node says done; with nobody awaited, idle at once
unfoldable pub ended_aborted : Coordinator → Coordinator
ended_aborted c =
    cond (eqb (awaited c) 0) (idle_after c.serial c.timestamp aborted)
    (with_phase c finishing_phase aborted c.participants c.yes c.done c.rivals)

-- abort (document 01: give up), while open or voting
unfoldable pub abort_refusals : Coordinator → ℕ → List Refusal
abort_refusals c me = refuse stranger (no_node me) ∷ refuse out_of_turn (not (eqb c.phase open_phase || eqb c.phase voting_phase)) ∷ []

unfoldable pub abort_of : Coordinator → ℕ → Step
abort_of c me = step_of (first_of (abort_refusals c me)) 0 c (ended_aborted c)
