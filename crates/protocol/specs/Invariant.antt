-- The invariant, in four records, each over the parts of the state that it reads: a transition that leaves those parts alone keeps it as it is.
-- Above each field stands why it holds.
use Rattle.std.specs.Prelude.{◌≡◌, ◌≢◌, ◌⊎◌, List, [], ◌∷◌, Bool, true, false, cond, ℕ, suc, ◌≤◌}
use Rattle.protocol.specs.Table.{In, Suffix, AtMostOnce}
use Rattle.protocol.specs.Rules.{Node, Object, Mode, unused, read, write, Rules}
use Rattle.protocol.specs.State.{Tx, Phase, fresh, voting, committed, aborted, Contents, Copy, listed, Store, Ends, Votes, History, Chain, State}
use Rattle.protocol.specs.State.{Writes, Touches, Keeps, Held}
use Rattle.protocol.specs.Chain.{Entry}
use Rattle.protocol.specs.Replay.{replay}
use Rattle.protocol.specs.Claims.{Sourced}

-- Is it a committed writer?
abbrev pub committed_write : Phase → Mode → Bool
committed_write fresh m = false
committed_write voting m = false
committed_write aborted m = false
committed_write committed unused = false
committed_write committed read = false
committed_write committed write = true

abbrev pub wrote : {A : Type 0} → History A → Tx → Object → Bool
wrote h x o = committed_write (h.phase x) ((h.contents x).mode o)

-- How many members of a list pass a test; with `wrote`, the number of committed writers of an object.
abbrev pub count : (Tx → Object → Bool) → List Tx → Object → ℕ
count w [] o = 0
count w (x ∷ l) o = cond (w x o) (suc (count w l o)) (count w l o)

-- The turn of a transaction in a list where not all are committed: only a committed writer changes what is held.
abbrev pub effect : {A : Type 0} → History A → Tx → Object → A → A
effect h x o a = cond (wrote h x o) ((h.contents x).new o) a

-- The node is done with a transaction that it voted yes to.
abbrev pub Settled : {A : Type 0} → Votes → History A → Node → Tx → Type 0
Settled v h n x = (h.phase x ≡ aborted) ⊎ (v.applied n x ≡ true)

-- The transaction will not be listed at the node again: its serial is not above the last, and if it is the last, it is listed no more.
abbrev pub NotAgain : Ends → Node → Tx → Type 0
NotAgain e n x = (x.serial ≤ e.last n x.owner) × (e.last n x.owner ≡ x.serial → e.state n x.owner ≢ listed)

-- What a vote means, and that it is given once.
pub record VotesInv {A : Type 0} (R : Rules A) (e : Ends) (v : Votes) (h : History A) : Type 0 where
  -- a yes answers an ask
  pub v_asked : (n : Node) (x : Tx) → v.yes n x ≡ true → h.phase x ≢ fresh
  -- to commit takes every participant's yes
  pub v_all : (n : Node) (x : Tx) → h.phase x ≡ committed → (h.contents x).participants n ≡ true → v.yes n x ≡ true
  -- participants are chosen when votes are asked for; what was given up before has none
  pub v_good : (x : Tx) → h.phase x ≢ fresh → R.Good (h.contents x).participants ⊎ (h.phase x ≡ aborted)
  -- a yes holds until the outcome comes
  pub v_then : (n : Node) (x : Tx) → v.yes n x ≡ true → Held e n x ⊎ Settled v h n x
  -- last serials only rise, and none is listed twice: so no second yes
  pub v_late : (n : Node) (x : Tx) → v.yes n x ≡ true → NotAgain e n x
  -- only a yes makes held
  pub v_held : (n : Node) (x : Tx) → Held e n x → v.yes n x ≡ true
  -- only what is committed is applied
  pub v_applied : (n : Node) (x : Tx) → v.applied n x ≡ true → h.phase x ≡ committed

-- What a hold protects, node by node.
pub record HoldsInv {A : Type 0} (R : Rules A) (s : Store A) (e : Ends) (v : Votes) (k : Tx → Contents A) : Type 0 where
  -- a yes needs that nobody is held against it: so of two held at a node, none writes what the other keeps
  pub h_one : (n : Node) (x y : Tx) (o : Object) → Held e n x → Held e n y → Writes k x o → Keeps R k y o → x ≡ y
  -- a yes needs that no copy here is newer, and while it holds nobody else writes here
  pub h_version : (n : Node) (x : Tx) (o : Object) → Held e n x → Keeps R k x o → s.version n o ≤ (k x).version o
  -- applying raises the version here, and nothing lowers it
  pub h_applied : (n : Node) (x : Tx) (o : Object) → v.applied n x ≡ true → Writes k x o → suc ((k x).version o) ≤ s.version n o

-- All copies, wherever they are, are entries of one chain.
pub record ChainInv {A : Type 0} (R : Rules A) (s : Store A) (m : List (Copy A)) (h : History A) (l : Chain A) : Type 0 where
  -- a replica's copy is the blank entry, or an applied commit put it there
  pub c_copy : (n : Node) (o : Object) → Entry l o (s.version n o) (s.value n o)
  -- a copy that was sent was a replica's then, and entries stay
  pub c_sent : (c : Copy A) → In c m → Entry l c.object c.version c.value
  -- what was found is a copy that was sent, or blank
  pub c_found : (x : Tx) (o : Object) → Touches h.contents x o → Entry l o ((h.contents x).version o) ((h.contents x).found o)
  -- the chain begins with the blank value, and entries stay
  pub c_blank : (o : Object) → l.entry o 0 ≡ R.blank
  -- every other entry was added by a commit
  pub c_source : (o : Object) (i : ℕ) → i ≤ l.length o → Sourced R h o (l.entry o i)
  -- at its decision it had found the chain's end, so its new value is the next entry: where a replica that applies it will have it
  pub c_new : (x : Tx) (o : Object) → h.phase x ≡ committed → Writes h.contents x o → Entry l o (suc ((h.contents x).version o)) ((h.contents x).new o)

-- The decisions are in the chain's order, and a transaction found the last entry before its own decision.
pub record OrderInv {A : Type 0} (R : Rules A) (h : History A) (l : Chain A) : Type 0 where
  -- only a commit adds a decision
  pub o_committed : (x : Tx) → In x h.decisions → h.phase x ≡ committed
  -- and every commit does
  pub o_decided : (x : Tx) → h.phase x ≡ committed → In x h.decisions
  -- it was voting until then, so it was not decided before
  pub o_once : (x : Tx) → AtMostOnce x h.decisions
  -- it was held where participants met, and the last writer before it was applied there (proofs/Commit: found_is_last)
  pub o_found : (x : Tx) (m : List Tx) (o : Object) → Suffix (x ∷ m) h.decisions → Keeps R h.contents x o
      → (h.contents x).version o ≡ count (wrote h) m o
  -- each committed writer added one entry, its new value
  pub o_value : (m : List Tx) (o : Object) → Suffix m h.decisions → l.entry o (count (wrote h) m o) ≡ replay R.blank (effect h) m o
  -- and nobody else added any
  pub o_length : (o : Object) → l.length o ≡ count (wrote h) h.decisions o

pub record Inv {A : Type 0} (R : Rules A) (σ : State A) : Type 0 where
  pub votes : VotesInv R σ.ends σ.votes σ.history
  pub holds : HoldsInv R σ.store σ.ends σ.votes σ.history.contents
  pub chain : ChainInv R σ.store σ.sent σ.history σ.chain
  pub order : OrderInv R σ.history σ.chain
