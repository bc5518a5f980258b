-- Records that one transaction goes through, in every phase, meet the clauses, and records that break one do not: computed on the tree.
use mathlib.Core.Path.{◌≡◌, refl}
use mathlib.Core.Bool.{true, false}
use mathlib.Core.List.{List, [], ◌∷◌, map}
use Prim.Native.Nat.{ℕ}
use lib.ListN.{replicate}
use Rattle.numbers.specs.Sizes.{nodes, every_node}
use Rattle.octets.specs.Octets.{le, get}
use Rattle.wire.specs.declared.Entry.{Entry}
use Rattle.wire.specs.Formed.{well_formed, counts_ok, entries_ok, rivals_ok, ascend, entry_ok}
use Rattle.wire.specs.Encode.{encode, together, encode_entry}
use Rattle.wire.specs.Decode.{check_of, accepted, decode, items_from, entry_at, rival_at}
use Rattle.quorum.specs.Quorum.{is_quorum}
use Rattle.quorum.specs.Smallest.{smallest}
use Rattle.coordinator.specs.declared.Coordinator.{Coordinator}
use Rattle.coordinator.specs.declared.BeginWith.{BeginWith}
use Rattle.coordinator.specs.System.{tree}
use Rattle.coordinator.specs.State.{finishing_phase, committed, idle_after, blank_record, place_in, all_settled, any_used_up, step_of, no_object}
use Rattle.coordinator.specs.Calls.{with_objects, with_phase, fresh, begin_of, begin_refusals, begun, open_of, open_refusals, opened, set_of, set_refusals}
use Rattle.coordinator.specs.Calls.{with_new, request_commit_of, request_commit_refusals, requested, ended_aborted, abort_of, abort_refusals}
use Rattle.arrivals.specs.Receive.{receive_of, receive_refusals, delivered, copy_taken, copy_fits, with_copy, raise_from, with_yes, vote_taken, with_done}
use Rattle.arrivals.specs.Receive.{done_taken}
use Rattle.clauses.specs.Clauses.{zeros, object_meets, object_blank, objects_meet, sizes_meet, numbers_meet, no_nodes, nodes_meet, party_full, party_meets}
use Rattle.clauses.specs.Clauses.{votes_meet, dones_meet, meets}

-- node 3's transaction 1 with timestamp 9, all live, every distance 1: it writes object 5
abbrev begins : BeginWith
begins = record { live = every_node; distances = replicate nodes 1; timestamp = 9 }

abbrev answer : ℕ → ℕ → List Entry → List ℕ → List ℕ
answer kind from es ws = encode (record { kind = kind; from = from; to = 3; owner = 3; serial = 1; stamp = 9; entries = es; rivals = []; words = ws })

abbrev receives : Coordinator → List ℕ → Coordinator
receives c m = (receive_of tree c 3 m).coordinator

-- the same kind of answer from several nodes, one after the other
abbrev from_each : (ℕ → List ℕ) → Coordinator → List ℕ → Coordinator
from_each say c [] = c
from_each say c (i ∷ is) = from_each say (receives c (say i)) is

abbrev yes : ℕ → List ℕ
yes i = answer 4 i [] (1 ∷ [])

abbrev over : ℕ → List ℕ
over i = answer 6 i [] []

abbrev begun1 : Coordinator
begun1 = (begin_of tree blank_record 3 begins).coordinator

abbrev opened1 : Coordinator
opened1 = (set_of (open_of begun1 3 5 1).coordinator 3 5 77).coordinator

abbrev ready1 : Coordinator
ready1 = receives opened1 (answer 2 0 (record { object = 5; mode = 1; version = 4; value = 8 } ∷ []) [])

-- the participants are 3131: nodes 0, 1, 3, 4, 5, 10 and 11, the lowest mask with node 3
abbrev voting1 : Coordinator
voting1 = from_each yes (request_commit_of tree ready1 3).coordinator (0 ∷ 1 ∷ 3 ∷ 4 ∷ 5 ∷ 10 ∷ [])

abbrev finishing1 : Coordinator
finishing1 = from_each over (receives voting1 (yes 11)) (0 ∷ 1 ∷ 3 ∷ 4 ∷ 5 ∷ 10 ∷ [])

abbrev good : List Coordinator
good =
    blank_record ∷ begun1 ∷ opened1 ∷ ready1 ∷ voting1 ∷ finishing1 ∷ receives finishing1 (over 11) ∷ (abort_of opened1 3).coordinator
    ∷ (abort_of voting1 3).coordinator ∷ []

-- an object at two places; every done while finishing; every yes while voting; a phase of its own
abbrev bad : List Coordinator
bad =
    with_objects opened1 1 2 (fresh 5 1 ∷ fresh 5 0 ∷ replicate 6 no_object)
    ∷ with_phase finishing1 finishing_phase committed 3131 3131 3131 finishing1.rivals
    ∷ with_phase voting1 2 0 3131 3131 0 voting1.rivals
    ∷ with_phase voting1 4 0 3131 0 0 voting1.rivals
    ∷ []

pub samples : (map (λ (c : Coordinator). c.phase) good ≡ 0 ∷ 1 ∷ 1 ∷ 1 ∷ 2 ∷ 3 ∷ 0 ∷ 3 ∷ 3 ∷ [])
    × ((map (meets tree) good ≡ replicate 9 true) × (map (meets tree) bad ≡ replicate 4 false))
unfolding encode together encode_entry le get check_of accepted decode items_from entry_at rival_at well_formed counts_ok entries_ok rivals_ok ascend entry_ok
    is_quorum smallest idle_after place_in all_settled any_used_up step_of begin_of begin_refusals begun open_of open_refusals opened set_of set_refusals
    with_new
    request_commit_of request_commit_refusals requested ended_aborted abort_of abort_refusals receive_of receive_refusals delivered copy_taken copy_fits
    with_copy
    raise_from with_yes vote_taken with_done done_taken zeros object_meets object_blank objects_meet sizes_meet numbers_meet no_nodes nodes_meet party_full
    party_meets votes_meet dones_meet meets
samples = (refl, (refl, refl))
