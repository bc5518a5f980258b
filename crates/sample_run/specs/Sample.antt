-- A run from a blank station to its transaction's last done: node 4 writes 500 to object 7, and every message is delivered as soon as it is put. Then,
-- from what that leaves, another node reads it.
use Rattle.std.specs.Prelude.{◌≡◌, true, false, List, [], ◌∷◌, ℕ, replicate}
use Rattle.std.proofs.Math.Option.{some}
use Rattle.numbers.specs.Sizes.{nodes, every_node}
use Rattle.mask.specs.Mask.{contains}
use Rattle.image.specs.Layout.{value, version}
use Rattle.coordinator.specs.declared.BeginWith.{BeginWith}
use Rattle.steps.specs.Station.{Station, Quiescent}
use Rattle.steps.specs.Step.{Call, begin, open_read, open_write, set_value, found, request_commit, send, delivery, step}
use Rattle.protocol.specs.State.{Tx}
use Rattle.history.specs.Ledger.{Ledger, given_to, last_value, last_writer}
use Rattle.history.specs.Origin.{Origin, AuthorIs, blank_origin, origin_of}
use Rattle.history.specs.Claims.{Settled, reached, told}

-- every node is on and live, at distance 1; so the nearest read quorum is node 0
abbrev pub beginning : BeginWith
beginning = record { live = every_node; distances = replicate nodes 1; timestamp = 1 }

-- newest first: it begins, fetches the copy of node 0 and is ready
abbrev pub ready : List Call
ready = delivery 0 false ∷ delivery 0 false ∷ send 4 0 7 ∷ open_write 4 7 ∷ begin 4 beginning ∷ []

-- it looks at the value found and gives the new one, then asks for votes
abbrev pub valued : List Call
valued = set_value 4 7 500 ∷ found 4 7 ∷ ready

abbrev pub asking : List Call
asking = request_commit 4 ∷ valued

-- the participants that this answers, the nearest write quorum; a message goes to each of them, and its answer comes back
abbrev pub participants : List ℕ
participants = 0 ∷ 1 ∷ 2 ∷ 4 ∷ 5 ∷ 7 ∷ 8 ∷ []

abbrev pub mask : ℕ
mask = 439

abbrev pub exchanged : List ℕ → List Call → List Call
exchanged [] cs = cs
exchanged (n ∷ ns) cs = exchanged ns (delivery 0 false ∷ delivery 0 false ∷ send 4 n 0 ∷ cs)

-- asks and votes, then commits and dones
abbrev pub sample : List Call
sample = exchanged participants (exchanged participants asking)

-- ---- what it tells and leaves
abbrev pub blank : Origin
blank = blank_origin every_node

abbrev pub tells : Ledger
tells = told blank sample

abbrev pub left : Station
left = reached blank sample

abbrev pub left_ready : Station
left_ready = reached blank ready

abbrev pub transaction : Tx
transaction = record { owner = 4; serial = 1 }

-- The transaction alone is committed, and it is settled: so no claim of demand 3 is about nothing. It found 0, replay's last value is the new one and its
-- last writer the transaction, every participant's copy has both, and all is at rest.
pub record Commits (L : Ledger) (st : Station) : Type 0 where
  pub committed : L.committed ≡ transaction ∷ []
  pub logged : L.log ≡ transaction ∷ []
  pub its_participants : L.participants transaction ≡ mask
  pub settled : Settled L
  pub found_nothing : given_to L transaction 7 ≡ 0
  pub last : last_value L 7 ≡ 500
  pub writer : last_writer L 7 ≡ some transaction
  pub copies : (n : ℕ) → contains mask n ≡ true → (value (st.images n) 7 ≡ 500) × (version (st.images n) 7 ≡ 1)
  pub authors : (n : ℕ) → contains mask n ≡ true → AuthorIs (st.images n) 7 (some transaction)
  pub at_rest : Quiescent st

-- what it leaves is an origin; from there node 5 reads the object
abbrev pub carrying : Origin
carrying = origin_of left tells

abbrev pub reading : List Call
reading = delivery 0 false ∷ delivery 0 false ∷ send 5 0 7 ∷ open_read 5 7 ∷ begin 5 beginning ∷ []

-- looking at the value that a node found shows it
pub record Shown (st : Station) (n v : ℕ) : Type 0 where
  pub number : (step st (found n 7)).number ≡ 0
  pub answer : (step st (found n 7)).answer ≡ v
