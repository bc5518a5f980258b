-- What is claimed of every reachable state, whatever the rules are. Theorems has the proof.
use Rattle.std.specs.Prelude.{◌≡◌, ◌≢◌, ◌⊎◌, true, ◌≤◌}
use Rattle.protocol.specs.Table.{In, times}
use Rattle.protocol.specs.Rules.{Node, Nodes, Object, Common, Rules}
use Rattle.protocol.specs.State.{Tx, Tx-discrete, committed, Copy, Store, Votes, History, State, Writes, Touches, Keeps}
use Rattle.protocol.specs.Replay.{last_value, given_to}

-- The value is blank, or the new value that a committed transaction gave the object.
abbrev pub Sourced : {A : Type 0} → Rules A → History A → Object → A → Type 0
Sourced R h o a = (a ≡ R.blank) ⊎ ((x : Tx) × (h.phase x ≡ committed) × Writes h.contents x o × (a ≡ (h.contents x).new o))

-- Every participant of every committed transaction has applied it.
abbrev pub AllApplied : {A : Type 0} → Votes → History A → Type 0
AllApplied v h = (x : Tx) (n : Node) → h.phase x ≡ committed → (h.contents x).participants n ≡ true → v.applied n x ≡ true

-- The set meets the participants of every committed transaction. (A set that has a read quorum does.)
abbrev pub MeetsAll : {A : Type 0} → History A → Nodes → Type 0
MeetsAll h q = (x : Tx) → h.phase x ≡ committed → (n : Node) × Common q (h.contents x).participants n

-- Each committed transaction was applied at some node of the set.
abbrev pub AppliedIn : {A : Type 0} → Votes → History A → Nodes → Type 0
AppliedIn v h q = (x : Tx) → h.phase x ≡ committed → (n : Node) × (q n ≡ true) × (v.applied n x ≡ true)

-- No node of the set has a newer copy of the object.
abbrev pub Newest : {A : Type 0} → Store A → Nodes → Node → Object → Type 0
Newest s q n o = (m : Node) → q m ≡ true → s.version m o ≤ s.version n o

pub record Claims {A : Type 0} (R : Rules A) (σ : State A) : Type 0 where
  -- (0) each committed transaction stands exactly once among the decisions, and no other does
  pub once : (x : Tx) → σ.history.phase x ≡ committed → times Tx-discrete x σ.history.decisions ≡ 1
  pub only : (x : Tx) → σ.history.phase x ≢ committed → times Tx-discrete x σ.history.decisions ≡ 0
  -- (a) each committed transaction found, of what its yes keeps, what replay in the order of the decisions gives it
  pub serial : (x : Tx) (o : Object) → σ.history.phase x ≡ committed → Keeps R σ.history.contents x o
      → (σ.history.contents x).found o ≡ given_to R σ.history.contents x σ.history.decisions o
  -- (b) whatever a transaction found, committed or not, is blank or a new value of a transaction committed by now
  pub found : (x : Tx) (o : Object) → Touches σ.history.contents x o → Sourced R σ.history o ((σ.history.contents x).found o)
  -- (b) so is what any copy carries that was ever sent, and so is each copy where it stands
  pub sent : (c : Copy A) → In c σ.sent → Sourced R σ.history c.object c.value
  pub stored : (n : Node) (o : Object) → Sourced R σ.history o (σ.store.value n o)
  -- (c) in a set where each committed transaction was applied somewhere, the newest copies have replay's last value
  pub newest_in : (q : Nodes) → AppliedIn σ.votes σ.history q → (n : Node) (o : Object) → Newest σ.store q n o
      → σ.store.value n o ≡ last_value R σ.history.contents σ.history.decisions o
  -- (c) so when all participants have applied, they do in every set that meets all participants
  pub newest : AllApplied σ.votes σ.history → (q : Nodes) → MeetsAll σ.history q → (n : Node) (o : Object) → Newest σ.store q n o
      → σ.store.value n o ≡ last_value R σ.history.contents σ.history.decisions o
