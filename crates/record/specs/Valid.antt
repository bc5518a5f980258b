-- What the check tests of the objects and the participants, at their places in the bytes. With the rest of the clauses it comes to the same as
-- `check` (proofs/Valid.antt).
use Rattle.std.specs.Prelude.{Bool, true, false, cond, not, ◌&&◌, ◌||◌, List, ℕ, zero, suc, ◌+◌, ◌*◌, ◌-◌, eqb, leb, get_or, take, drop}
use Rattle.numbers.specs.Sizes.{every_node, most_open, highest}
use Rattle.mask.specs.Mask.{within}
use Rattle.coordinator.specs.declared.Object.{Object}
use Rattle.coordinator.specs.declared.Coordinator.{Coordinator}
use Rattle.coordinator.specs.System.{tree}
use Rattle.coordinator.specs.State.{idle_phase, open_phase, voting_phase, settled}
use Rattle.clauses.specs.Clauses.{implies, zeros, object_meets, numbers_meet, no_nodes, nodes_meet, votes_meet, dones_meet}
use Rattle.record.specs.Layout.{object_size, objects_place, participants_place, given_at}
use Rattle.record.specs.Record.{object_of, record_of}

-- ---- the nodes: while idle there are none, else a present read quorum
abbrev pub present_ok : Coordinator → Bool
present_ok c = cond (eqb c.phase idle_phase) (no_nodes c) (tree.is_read c.quorum)

-- ---- an object that stands at i: nothing found while no copy came; opened; one that votes may be asked for
unfoldable pub found_in : List ℕ → ℕ → Bool
found_in l i = implies (eqb (object_of l i).came 0) (eqb (object_of l i).version 0 && eqb (object_of l i).value 0)

unfoldable pub opened_in : ℕ → List ℕ → ℕ → Bool
opened_in contacted l i = leb (get_or l (given_at i) 0) 1 && object_meets contacted (object_of l i)

-- a written version that has no next one
abbrev pub last_written : Object → Bool
last_written x = not (eqb x.mode 0) && eqb x.version highest

unfoldable pub votable : Object → Bool
votable x = settled tree x && not (last_written x)

-- ---- the places
abbrev pub place_start : ℕ → ℕ
place_start i = objects_place + object_size * i

-- whether an object stands at one of the first n places
unfoldable pub stands_before : ℕ → List ℕ → ℕ → Bool
stands_before zero l object = false
stands_before (suc n) l object = stands_before n l object || eqb (get_or l (place_start n) 0) object

-- one place below the count
unfoldable pub place_ok : List ℕ → ℕ → Bool
place_ok l i =
    opened_in (record_of l).contacted l (place_start i)
    && (not (stands_before i l (object_of l (place_start i)).object) && (eqb (record_of l).participants 0 || votable (object_of l (place_start i))))

-- a test of every number below n, and all the places below it
unfoldable pub below : (ℕ → Bool) → ℕ → Bool
below f zero = true
below f (suc n) = below f n && f n

abbrev pub places_ok : ℕ → List ℕ → Bool
places_ok n l = below (place_ok l) n

-- the bytes of the places from the n-th on
abbrev pub past_bytes : ℕ → List ℕ → List ℕ
past_bytes n l = take (participants_place - place_start n) (drop (place_start n) l)

unfoldable pub objects_ok : List ℕ → Bool
objects_ok l = leb (record_of l).count most_open && (places_ok (record_of l).count l && zeros (past_bytes (record_of l).count l))

-- ---- the participants, but for what each object must be
unfoldable pub party_is : Coordinator → Bool
party_is c =
    cond (eqb c.participants 0) (zeros c.rivals)
    (tree.is_write c.participants && (within c.contacted c.participants && not (eqb c.count 0)))

unfoldable pub party_ok : Coordinator → Bool
party_ok c =
    leb c.participants every_node
    && (party_is c
    && (implies (leb c.phase open_phase) (eqb c.participants 0) && implies (eqb c.phase voting_phase) (not (eqb c.participants 0))))

-- ---- all of it, for bytes of a record's length
unfoldable pub valid_of : List ℕ → Bool
valid_of l =
    numbers_meet (record_of l)
    && (nodes_meet tree (record_of l)
    && (party_ok (record_of l) && ((votes_meet (record_of l) && dones_meet (record_of l)) && objects_ok l)))
