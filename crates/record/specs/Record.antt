-- The record that bytes are, the bytes of a record, and which bytes are a record.
use Rattle.std.specs.Prelude.{Bool, true, cond, ◌&&◌, List, [], ◌∷◌, ◌++◌, ℕ, zero, suc, ◌+◌, ◌*◌, ◌%◌, eqb, leb, length, get_or}
use Rattle.numbers.specs.Sizes.{nodes, most_open}
use Rattle.numbers.specs.Numbers.{wrong_length, damaged}
use Rattle.octets.specs.Octets.{get, le}
use Rattle.wire.specs.Encode.{together}
use Rattle.wire.specs.Decode.{items_from}
use Rattle.coordinator.specs.declared.Object.{Object}
use Rattle.coordinator.specs.declared.Coordinator.{Coordinator}
use Rattle.coordinator.specs.System.{tree}
use Rattle.coordinator.specs.State.{blank_record}
use Rattle.clauses.specs.Clauses.{meets}
use Rattle.record.specs.Layout.{distance_size, object_size, rival_size, serial_place, timestamp_place, outcome_place, phase_place, live_place, distances_place}
use Rattle.record.specs.Layout.{quorum_place, contacted_place, count_place, objects_place, participants_place, yes_place, done_place, rivals_place}
use Rattle.record.specs.Layout.{record_size}
use Rattle.record.specs.Layout.{mode_at, came_at, version_at, value_at, given_at, new_at}

-- ---- bytes read
unfoldable pub object_of : List ℕ → ℕ → Object
object_of l i =
    record {
      object = get_or l i 0;
      mode = get_or l (mode_at i) 0;
      came = get 2 l (came_at i);
      version = get 4 l (version_at i);
      value = get 8 l (value_at i);
      given = eqb (get_or l (given_at i) 0) 1;
      new = get 8 l (new_at i);
    }

unfoldable pub distances_of : List ℕ → List ℕ
distances_of l = items_from (get 2) distance_size nodes l distances_place

unfoldable pub objects_of : List ℕ → List Object
objects_of l = items_from object_of object_size most_open l objects_place

unfoldable pub rivals_of : List ℕ → List ℕ
rivals_of l = items_from (get 4) rival_size nodes l rivals_place

unfoldable pub record_of : List ℕ → Coordinator
record_of l =
    record {
      serial = get 4 l serial_place;
      timestamp = get 4 l timestamp_place;
      outcome = get_or l outcome_place 0;
      phase = get_or l phase_place 0;
      live = get 2 l live_place;
      distances = distances_of l;
      quorum = get 2 l quorum_place;
      contacted = get 2 l contacted_place;
      count = get_or l count_place 0;
      objects = objects_of l;
      participants = get 2 l participants_place;
      yes = get 2 l yes_place;
      done = get 2 l done_place;
      rivals = rivals_of l;
    }

-- ---- a record written
unfoldable pub object_bytes : Object → List ℕ
object_bytes x =
    x.object
    ∷ x.mode ∷ (le 2 x.came ++ (le 4 x.version ++ (le 8 x.value ++ (cond x.given 1 0 ∷ le 8 x.new))))

-- the numbers in front of the distances, between them and the objects, and behind the objects
unfoldable pub front_of : ℕ → ℕ → ℕ → ℕ → ℕ → List ℕ
front_of serial timestamp outcome phase live = le 4 serial ++ (le 4 timestamp ++ (outcome ∷ phase ∷ le 2 live))

unfoldable pub quorum_of : ℕ → ℕ → ℕ → List ℕ
quorum_of quorum contacted count = le 2 quorum ++ (le 2 contacted ++ (count % 256 ∷ []))

unfoldable pub votes_of : ℕ → ℕ → ℕ → List ℕ
votes_of participants agreed done = le 2 participants ++ (le 2 agreed ++ le 2 done)

abbrev pub front_bytes : Coordinator → List ℕ
front_bytes c = front_of c.serial c.timestamp c.outcome c.phase c.live

abbrev pub quorum_bytes : Coordinator → List ℕ
quorum_bytes c = quorum_of c.quorum c.contacted c.count

abbrev pub vote_bytes : Coordinator → List ℕ
vote_bytes c = votes_of c.participants c.yes c.done

unfoldable pub bytes_of : Coordinator → List ℕ
bytes_of c =
    front_bytes c
    ++ (together (le 2) c.distances
    ++ (quorum_bytes c ++ (together object_bytes c.objects ++ (vote_bytes c ++ together (le 4) c.rivals))))

-- written over bytes of a record's length; others are left alone
unfoldable pub written : Coordinator → List ℕ → List ℕ
written c l = cond (eqb (length l) record_size) (bytes_of c) l

-- ---- which bytes are a record
-- whether a value was given is 0 or 1, of the first n objects
unfoldable pub given_ok : ℕ → List ℕ → Bool
given_ok zero l = true
given_ok (suc n) l = given_ok n l && leb (get_or l (given_at (objects_place + object_size * n)) 0) 1

-- 1: another length, 2: damaged, 0: neither
unfoldable pub check : List ℕ → ℕ
check l = cond (eqb (length l) record_size) (cond (given_ok most_open l && meets tree (record_of l)) 0 damaged) wrong_length

-- what the accessors read: the record, or a blank one where the bytes are none
unfoldable pub shown : List ℕ → Coordinator
shown l = cond (eqb (check l) 0) (record_of l) blank_record
