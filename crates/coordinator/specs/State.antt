-- What a record says of its transaction (document 01: the booking at a booking end). A record may hold anything, so each definition is total.
use Rattle.std.specs.Prelude.{Bool, true, false, cond, not, ◌&&◌, ◌||◌, List, [], ◌∷◌, ℕ, ◌+◌, eqb, ltb, get_or, replicate}
use Rattle.numbers.specs.Sizes.{nodes, most_open, highest}
use Rattle.coordinator.specs.declared.Object.{Object}
use Rattle.coordinator.specs.declared.Coordinator.{Coordinator}
use Rattle.coordinator.specs.Step.{Step}
use Rattle.coordinator.specs.System.{System}

-- ---- the phases
abbrev pub idle_phase : ℕ
idle_phase = 0

abbrev pub open_phase : ℕ
open_phase = 1

abbrev pub voting_phase : ℕ
voting_phase = 2

abbrev pub finishing_phase : ℕ
finishing_phase = 3

-- what a delivery brought about; committed and aborted are a transaction's outcomes too
abbrev pub nothing : ℕ
nothing = 0

abbrev pub committed : ℕ
committed = 1

abbrev pub aborted : ℕ
aborted = 2

abbrev pub became_ready : ℕ
became_ready = 3

abbrev pub finished : ℕ
finished = 4

-- ---- a blank record
abbrev pub no_object : Object
no_object = record { object = 0; mode = 0; came = 0; version = 0; value = 0; given = false; new = 0 }

-- idle, with a lasting part
unfoldable pub idle_after : ℕ → ℕ → ℕ → Coordinator
idle_after serial timestamp outcome =
    record {
      serial = serial;
      timestamp = timestamp;
      outcome = outcome;
      phase = idle_phase;
      live = 0;
      distances = replicate nodes 0;
      quorum = 0;
      contacted = 0;
      count = 0;
      objects = replicate most_open no_object;
      participants = 0;
      yes = 0;
      done = 0;
      rivals = replicate nodes 0;
    }

abbrev pub blank_record : Coordinator
blank_record = idle_after 0 0 0

-- ---- objects
-- what stands at each place of a list of objects, from place i on, taken together
abbrev pub across : {A : Type 0} → (ℕ → Object → A → A) → A → ℕ → List Object → A
across f z i [] = z
across f z i (x ∷ l) = f i x (across f z (i + 1) l)

-- the place of an opened object; 8 where it is not open
abbrev pub here_else : ℕ → ℕ → ℕ → Object → ℕ → ℕ
here_else object count i x rest = cond (ltb i count && eqb x.object object) i rest

unfoldable pub place_in : List Object → ℕ → ℕ → ℕ
place_in objects count object = across (here_else object count) most_open 0 objects

abbrev pub place_of : Coordinator → ℕ → ℕ
place_of c object = place_in c.objects c.count object

abbrev pub object_at : Coordinator → ℕ → Object
object_at c object = get_or c.objects (place_of c object) no_object

abbrev pub is_open : Coordinator → ℕ → Bool
is_open c object = ltb (place_of c object) most_open

-- an object (document 01: tally) is ready exactly when copies have come from a read quorum
abbrev pub ready : System → Object → Bool
ready s x = s.is_read x.came

-- an object that votes may be asked for: ready, and if written with its new value. Places past the count do not matter
abbrev pub settled : System → Object → Bool
settled s x = ready s x && (eqb x.mode 0 || x.given)

abbrev pub and_settled : System → ℕ → ℕ → Object → Bool → Bool
and_settled s count i x rest = (not (ltb i count) || settled s x) && rest

unfoldable pub all_settled : System → List Object → ℕ → Bool
all_settled s objects count = across (and_settled s count) true 0 objects

-- a written version that has no next one
abbrev pub or_used_up : ℕ → ℕ → Object → Bool → Bool
or_used_up count i x rest = (ltb i count && (not (eqb x.mode 0) && eqb x.version highest)) || rest

unfoldable pub any_used_up : List Object → ℕ → Bool
any_used_up objects count = across (or_used_up count) false 0 objects

-- ---- who must say done: every participant (document 01: party), when never voted every contacted node (asked set)
abbrev pub awaited : Coordinator → ℕ
awaited c = cond (eqb c.participants 0) c.contacted c.participants

-- ---- a call: refused with a number, the record as before; else its answer and the record after
unfoldable pub step_of : ℕ → ℕ → Coordinator → Coordinator → Step
step_of number answer before after =
    cond (eqb number 0) (record { number = 0; answer = answer; coordinator = after }) (record { number = number; answer = 0; coordinator = before })
