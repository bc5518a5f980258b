-- The transitions: nine, each with the guard that safety needs and no other. What a real station tests besides (timestamps, rivals,
-- readiness, who may send) only makes it do less. A guard speaks of what was once asked, voted or decided, not of messages: a transition may be
-- taken at any time after that, any number of times, or never. So messages may be lost, late or repeated, and a node that is off takes none.
use Rattle.std.specs.Prelude.{◌≡◌, ◌≢◌, ◌⊎◌, ◌∷◌, true, suc, ◌≤◌, ◌<◌}
use Rattle.std.proofs.Math.Decide.{ℕ_discrete}
use Rattle.protocol.specs.Table.{put, put2, put_row, In}
use Rattle.protocol.specs.Rules.{Node, Object, unused, Rules}
use Rattle.protocol.specs.State.{Tx, Tx-discrete, fresh, voting, committed, aborted, Contents, OwnerState, over, listed, held, refused}
use Rattle.protocol.specs.State.{Store, Ends, Votes, History, Chain, State, blank_state, Writes, Touches, Keeps, writes?, Held}
use Rattle.protocol.specs.Chain.{extended}

-- A coordinator changes the history and the chain; a replica its copies, its owners and what it did.
abbrev pub by_coordinator : {A : Type 0} → State A → History A → Chain A → State A
by_coordinator σ h c = record { store = σ.store; ends = σ.ends; votes = σ.votes; history = h; chain = c; sent = σ.sent }

abbrev pub by_replica : {A : Type 0} → State A → Store A → Ends → Votes → State A
by_replica σ s e v = record { store = s; ends = e; votes = v; history = σ.history; chain = σ.chain; sent = σ.sent }

-- THE COORDINATOR

-- ASK (Algorithm 2, lines 1 to 3): it asks for votes, with contents that are fixed from now on.
abbrev pub with_asked : {A : Type 0} → History A → Tx → Contents A → History A
with_asked h x c = record { phase = put Tx-discrete h.phase x voting; contents = put Tx-discrete h.contents x c; decisions = h.decisions }

abbrev pub do_ask : {A : Type 0} → State A → Tx → Contents A → State A
do_ask σ x c = by_coordinator σ (with_asked σ.history x c) σ.chain

pub record CanAsk {A : Type 0} (R : Rules A) (σ : State A) (x : Tx) (c : Contents A) : Type 0 where
  pub phase : σ.history.phase x ≡ fresh
  -- "The party is the chosen write quorum and the asked set."
  pub good : R.Good c.participants
  -- of what it touches, it found a copy that was sent (or the blank one): which of those that came does not matter to safety
  pub found : (o : Object) → c.mode o ≢ unused
      → ((c.version o ≡ 0) × (c.found o ≡ R.blank)) ⊎ In (record { object = o; version = c.version o; value = c.found o }) σ.sent

-- COMMIT (Algorithm 2, lines 8 to 11): "Yes from the whole party commits."
abbrev pub with_commit : {A : Type 0} → History A → Tx → History A
with_commit h x = record { phase = put Tx-discrete h.phase x committed; contents = h.contents; decisions = x ∷ h.decisions }

abbrev pub do_commit : {A : Type 0} → State A → Tx → State A
do_commit σ x = by_coordinator σ (with_commit σ.history x) (extended (σ.history.contents x) σ.chain)

pub record CanCommit {A : Type 0} (σ : State A) (x : Tx) : Type 0 where
  pub phase : σ.history.phase x ≡ voting
  pub all_yes : (n : Node) → (σ.history.contents x).participants n ≡ true → σ.votes.yes n x ≡ true

-- ABORT (Algorithm 2, lines 6 and 7; Algorithm 3, lines 14 and 15): after a no, on giving up, on a yield, or for no reason at all.
abbrev pub with_abort : {A : Type 0} → History A → Tx → History A
with_abort h x = record { phase = put Tx-discrete h.phase x aborted; contents = h.contents; decisions = h.decisions }

abbrev pub do_abort : {A : Type 0} → State A → Tx → State A
do_abort σ x = by_coordinator σ (with_abort σ.history x) σ.chain

-- "Giving up, or a yield notice naming this booking, aborts while open or voting."
abbrev pub CanAbort : {A : Type 0} → State A → Tx → Type 0
CanAbort σ x = (σ.history.phase x ≡ fresh) ⊎ (σ.history.phase x ≡ voting)

-- THE REPLICA

-- The owner w gets another state at node n; with the transaction x, its owner gets another last serial too.
abbrev pub with_state : Ends → Node → Node → OwnerState → Ends
with_state e n w s = record { last = e.last; state = put2 ℕ_discrete ℕ_discrete e.state n w s }

abbrev pub with_last : Ends → Node → Tx → OwnerState → Ends
with_last e n x s = record {
  last = put2 ℕ_discrete ℕ_discrete e.last n x.owner x.serial;
  state = put2 ℕ_discrete ℕ_discrete e.state n x.owner s;
}

-- LIST: "A serial above the last needs state 0, else 5; then a fetch or ask makes it listed with that stamp."
abbrev pub do_list : {A : Type 0} → State A → Node → Tx → State A
do_list σ n x = by_replica σ σ.store (with_last σ.ends n x listed) σ.votes

pub record CanList {A : Type 0} (σ : State A) (n : Node) (x : Tx) : Type 0 where
  pub over : σ.ends.state n x.owner ≡ over
  pub above : σ.ends.last n x.owner < x.serial

-- COPY (Algorithm 1, lines 9 to 13 and 25 to 29): it sends the copy that it has now. To whom does not matter to safety.
abbrev pub do_copy : {A : Type 0} → State A → Node → Object → State A
do_copy σ n o = record {
  store = σ.store;
  ends = σ.ends;
  votes = σ.votes;
  history = σ.history;
  chain = σ.chain;
  sent = record { object = o; version = σ.store.version n o; value = σ.store.value n o } ∷ σ.sent;
}

-- YES (Algorithm 2, lines 12 to 26): it votes yes, and holds.
abbrev pub with_yes : Votes → Node → Tx → Votes
with_yes v n x = record { yes = put2 ℕ_discrete Tx-discrete v.yes n x true; applied = v.applied }

abbrev pub do_yes : {A : Type 0} → State A → Node → Tx → State A
do_yes σ n x = by_replica σ σ.store (with_state σ.ends n x.owner held) (with_yes σ.votes n x)

-- y is held at the node against x at the object: y writes what x touches, or keeps what x writes (Algorithm 2, line 30).
abbrev pub HeldAgainst : {A : Type 0} → Rules A → Ends → (Tx → Contents A) → Node → Tx → Tx → Object → Type 0
HeldAgainst R e k n x y o = Held e n y × ((Writes k y o × Touches k x o) ⊎ (Keeps R k y o × Writes k x o))

-- "No, if any tally has another holder; or if any copy here has a higher version" (lines 29 to 34). Whether a rival is older does not matter.
pub record CanYes {A : Type 0} (R : Rules A) (σ : State A) (n : Node) (x : Tx) : Type 0 where
  pub asked : σ.history.phase x ≢ fresh
  pub listed : σ.ends.state n x.owner ≡ listed
  pub last : σ.ends.last n x.owner ≡ x.serial
  pub free : (o : Object) (y : Tx) → HeldAgainst R σ.ends σ.history.contents n x y o → ⊥
  pub current : (o : Object) → Touches σ.history.contents x o → σ.store.version n o ≤ (σ.history.contents x).version o

-- NO (Algorithm 2, lines 32 and 33): it votes no. It may do so to anybody it has listed.
abbrev pub do_no : {A : Type 0} → State A → Node → Tx → State A
do_no σ n x = by_replica σ σ.store (with_state σ.ends n x.owner refused) σ.votes

abbrev pub CanNo : {A : Type 0} → State A → Node → Tx → Type 0
CanNo σ n x = σ.ends.state n x.owner ≡ listed

-- APPLY (Algorithm 3, lines 9 to 13): "Commit on held: the copy of each tally the message writes takes the message's value and the message's
-- version plus 1." It sets over, which frees what was held.
abbrev pub stored : {A : Type 0} → Store A → Contents A → Node → Store A
stored s c n = record {
  version = put_row (writes? c) s.version n (λ o. suc (c.version o));
  value = put_row (writes? c) s.value n c.new;
}

abbrev pub with_applied : Votes → Node → Tx → Votes
with_applied v n x = record { yes = v.yes; applied = put2 ℕ_discrete Tx-discrete v.applied n x true }

abbrev pub do_apply : {A : Type 0} → State A → Node → Tx → State A
do_apply σ n x = by_replica σ (stored σ.store (σ.history.contents x) n) (with_state σ.ends n x.owner over) (with_applied σ.votes n x)

pub record CanApply {A : Type 0} (σ : State A) (n : Node) (x : Tx) : Type 0 where
  pub phase : σ.history.phase x ≡ committed
  pub here : Held σ.ends n x

-- DROP (Algorithm 3, lines 22 to 25): it takes an abort, "in any state" of the last serial; and "An early abort, in state 0, makes its serial
-- last, with its stamp, and over."
abbrev pub do_drop : {A : Type 0} → State A → Node → Tx → State A
do_drop σ n x = by_replica σ σ.store (with_last σ.ends n x over) σ.votes

pub record CanDrop {A : Type 0} (σ : State A) (n : Node) (x : Tx) : Type 0 where
  pub phase : σ.history.phase x ≡ aborted
  pub fits : (σ.ends.last n x.owner ≡ x.serial) ⊎ ((σ.ends.last n x.owner < x.serial) × (σ.ends.state n x.owner ≡ over))

-- ONE TRANSITION, AND RUNS

pub data Step {A : Type 0} (R : Rules A) (σ : State A) : State A → Type 0 where
  ask : (x : Tx) (c : Contents A) → CanAsk R σ x c → Step R σ (do_ask σ x c)
  commit : (x : Tx) → CanCommit σ x → Step R σ (do_commit σ x)
  abort : (x : Tx) → CanAbort σ x → Step R σ (do_abort σ x)
  list : (n : Node) (x : Tx) → CanList σ n x → Step R σ (do_list σ n x)
  copy : (n : Node) (o : Object) → Step R σ (do_copy σ n o)
  vote_yes : (n : Node) (x : Tx) → CanYes R σ n x → Step R σ (do_yes σ n x)
  vote_no : (n : Node) (x : Tx) → CanNo σ n x → Step R σ (do_no σ n x)
  apply : (n : Node) (x : Tx) → CanApply σ n x → Step R σ (do_apply σ n x)
  drop : (n : Node) (x : Tx) → CanDrop σ n x → Step R σ (do_drop σ n x)

-- A run from the blank state. A state is reachable when there is a run to it.
pub data Run {A : Type 0} (R : Rules A) : State A → Type 0 where
  start : Run R (blank_state R)
  next : {σ σ' : State A} → Run R σ → Step R σ σ' → Run R σ'
