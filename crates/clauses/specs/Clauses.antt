-- The clauses that a record meets (document 01's phases and what each has), over any quorum system. Every call keeps them; a record as bytes that
-- breaks one is damaged.
use Rattle.std.specs.Prelude.{Bool, true, cond, not, ◌&&◌, ◌||◌, List, [], ◌∷◌, ℕ, eqb, ltb, leb, length}
use Rattle.numbers.specs.Sizes.{nodes, every_node, objects, most_open}
use Rattle.mask.specs.Mask.{within}
use Rattle.coordinator.specs.declared.Object.{Object}
use Rattle.coordinator.specs.declared.Coordinator.{Coordinator}
use Rattle.coordinator.specs.System.{System}
use Rattle.coordinator.specs.State.{idle_phase, open_phase, voting_phase, finishing_phase, committed, aborted}
use Rattle.coordinator.specs.State.{across, place_in, all_settled, any_used_up, awaited}

-- b wherever a holds
abbrev pub implies : Bool → Bool → Bool
implies a b = not a || b

-- every number of the list is 0
unfoldable pub zeros : List ℕ → Bool
zeros [] = true
zeros (x ∷ xs) = eqb x 0 && zeros xs

-- ---- the objects
-- an opened one: its number and mode; copies from contacted nodes only; nothing found while none came; a new value only where it is written, and 0 where
-- none was given
unfoldable pub object_meets : ℕ → Object → Bool
object_meets contacted x =
    ltb x.object objects
    && (ltb x.mode 2
    && (within x.came contacted
    && (implies (eqb x.came 0) (eqb x.version 0 && eqb x.value 0) && cond x.given (eqb x.mode 1) (eqb x.new 0))))

-- a place past the count is blank
unfoldable pub object_blank : Object → Bool
object_blank x = eqb x.object 0 && (eqb x.mode 0 && (eqb x.came 0 && (eqb x.version 0 && (eqb x.value 0 && (not x.given && eqb x.new 0)))))

-- and no object stands at two places
abbrev pub place_meets : Coordinator → ℕ → Object → Bool
place_meets c i x = cond (ltb i c.count) (object_meets c.contacted x && eqb (place_in c.objects c.count x.object) i) (object_blank x)

abbrev pub and_meets : Coordinator → ℕ → Object → Bool → Bool
and_meets c i x rest = place_meets c i x && rest

unfoldable pub objects_meet : Coordinator → Bool
objects_meet c = leb c.count most_open && across (and_meets c) true 0 c.objects

-- ---- the sizes
unfoldable pub sizes_meet : Coordinator → Bool
sizes_meet c = eqb (length c.distances) nodes && (eqb (length c.objects) most_open && eqb (length c.rivals) nodes)

-- ---- numbers: the phase, the outcome; serial and timestamp are both 0, then with no outcome and idle, or neither is
unfoldable pub numbers_meet : Coordinator → Bool
numbers_meet c =
    leb c.phase finishing_phase
    && (leb c.outcome aborted
    && cond (eqb c.serial 0) (eqb c.timestamp 0 && (eqb c.phase idle_phase && eqb c.outcome 0)) (not (eqb c.timestamp 0)))

-- ---- the nodes: live ones, and while not idle a present read quorum; nobody is contacted before an object is open, then at least that quorum
-- what an idle record has of them
unfoldable pub no_nodes : Coordinator → Bool
no_nodes c = eqb c.live 0 && (eqb c.quorum 0 && (zeros c.distances && eqb c.count 0))

unfoldable pub nodes_meet : System → Coordinator → Bool
nodes_meet s c =
    leb c.live every_node
    && (leb c.quorum every_node
    && (leb c.contacted every_node
    && (cond (eqb c.phase idle_phase) (no_nodes c) (s.is_read c.quorum)
    && cond (eqb c.count 0) (eqb c.contacted 0) (within c.quorum c.contacted))))

-- ---- the participants: nobody until votes are asked for; then a write quorum with every contacted node, and every object settled
unfoldable pub party_full : System → Coordinator → Bool
party_full s c =
    s.is_write c.participants
    && (within c.contacted c.participants
    && (not (eqb c.count 0) && (all_settled s c.objects c.count && not (any_used_up c.objects c.count))))

unfoldable pub party_meets : System → Coordinator → Bool
party_meets s c =
    leb c.participants every_node
    && (cond (eqb c.participants 0) (zeros c.rivals) (party_full s c)
    && (implies (leb c.phase open_phase) (eqb c.participants 0) && implies (eqb c.phase voting_phase) (not (eqb c.participants 0))))

-- ---- the votes: of participants; voting lasts while one is missing; committed is what has them all
abbrev pub agreed : Coordinator → Bool
agreed c = not (eqb c.participants 0) && within c.participants c.yes

unfoldable pub votes_meet : Coordinator → Bool
votes_meet c =
    within c.yes c.participants
    && (implies (eqb c.phase voting_phase) (not (agreed c))
    && implies (eqb c.phase finishing_phase) (cond (agreed c) (eqb c.outcome committed) (eqb c.outcome aborted)))

-- ---- the dones: of awaited nodes, while finishing, which lasts while one is missing
unfoldable pub dones_meet : Coordinator → Bool
dones_meet c = cond (eqb c.phase finishing_phase) (within c.done (awaited c) && not (within (awaited c) c.done)) (eqb c.done 0)

-- ---- all of them
unfoldable pub meets : System → Coordinator → Bool
meets s c = sizes_meet c && (numbers_meet c && (objects_meet c && (nodes_meet s c && (party_meets s c && (votes_meet c && dones_meet c)))))
